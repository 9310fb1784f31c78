-- Run memory: 96 words that the caller lends, a row of twelve for each initiator of the plan in the order of plan memory's rows, and one
-- number for the last accepted time-code. Each is a function of the box; rows without an initiator are 0, as those of an idle side.
use Rattle.std.specs.Prelude.{◌≡◌, ℕ, ◌+◌, ◌-◌, ◌*◌, ◌/◌, ◌%◌, cond, length, eqb}
use mathlib.Core.List.{List, [], ◌∷◌, ◌++◌, map, flat_map}
use Rattle.std.proofs.Math.Option.{Option, none, some}
use Rattle.lists.specs.Search.{up_from}
use Rattle.lists.specs.Place.{at_place}
use Rattle.lists.specs.Cells.{padded}
use Rattle.rules_plan.specs.Plan.{Plan}
use Rattle.rules_plan.specs.Meaning.{initiators, least_span}
use Rattle.memory_plan.specs.View.{Owner, owner_of}
use Rattle.rules_box.specs.State.{Request, Live, Side, Box, idle, the_plan}

-- two bytes in the other order
unfoldable pub swapped : ℕ → ℕ
swapped n = n / 256 + n % 256 * 256

-- a request of an owner as one word: the eight bytes of its records, the first the lowest. The top bit of the first byte, where a record
-- has its kind, is the request's own kind; the fourth byte, where a record has v, is the least span that the request fits; an initiator is
-- below 64, so that it is its byte
unfoldable pub word_of : Owner → Request → ℕ
word_of o r =
    r.kind * 128
    + o.initiator % 256 * 256
    + r.target * 65_536
    + least_span o.plan o.initiator r.target r.length * 16_777_216
    + swapped r.number * 4_294_967_296
    + swapped r.length * 281_474_976_710_656

-- what a word tells of its request
unfoldable pub target_in : ℕ → ℕ
target_in w = w / 65_536 % 64

unfoldable pub need_in : ℕ → ℕ
need_in w = w / 16_777_216 % 256

unfoldable pub number_in : ℕ → ℕ
number_in w = swapped (w / 4_294_967_296 % 65_536)

unfoldable pub length_in : ℕ → ℕ
length_in w = swapped (w / 281_474_976_710_656 % 65_536)

-- the live transaction as two words: its request, and (span − age) × 256 + span: how many time-codes are left to it, at least one, and
-- its span; 0 and 0 for none
unfoldable pub live_word : Owner → Option Live → ℕ
live_word o none = 0
live_word o (some l) = word_of o l.request

unfoldable pub live_time : Option Live → ℕ
live_time none = 0
live_time (some l) = (l.span - l.age) * 256 + l.span

-- the row of an owner's side: next number, how many wait, eight places of the line, the live transaction
unfoldable pub row_of : Owner → Side → List ℕ
row_of o s = s.next ∷ length s.line ∷ padded 8 0 (map (word_of o) s.line) ++ (live_word o s.live ∷ live_time s.live ∷ [])

-- the side of row r, idle where the plan has no such initiator
unfoldable pub side_of : Plan → (ℕ → Side) → ℕ → Side
side_of p side r = elim (at_place r (initiators p)) [ none ↦ idle | some i ↦ side i ]

-- the side of one row changed, the others as they were
unfoldable pub changed : ℕ → Side → (ℕ → Side) → ℕ → Side
changed row x s r = cond (eqb r row) x (s r)

-- eight rows with these owners and sides
unfoldable pub rows_with : (ℕ → Owner) → (ℕ → Side) → List ℕ
rows_with n s = flat_map (λ (r : ℕ). row_of (n r) (s r)) (up_from 8 0)

unfoldable pub run_of : Plan → (ℕ → Side) → List ℕ
run_of p side = rows_with (owner_of p) (side_of p side)

-- the last accepted time-code: 0 for none, else its byte and 1
unfoldable pub last_of : Option ℕ → ℕ
last_of none = 0
last_of (some byte) = byte + 1

-- run memory holds the box
pub record Runs (b : Box) (run' last' : List ℕ) : Type 0 where
  pub run : run' ≡ run_of (the_plan b) b.side
  pub last : last' ≡ last_of b.last ∷ []
