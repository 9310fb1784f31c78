-- What a request, a reply and a time-code do to one initiator's side.
use Rattle.std.specs.Prelude.{ℕ, ◌+◌, ◌%◌, [], ◌∷◌, ◌++◌, Bool, true, false, ◌&&◌, ◌||◌, cond, leb, eqb}
use Rattle.std.proofs.Math.Option.{Option, none, some}
use Rattle.lists.specs.Search.{is_some}
use Rattle.lists.specs.Place.{Found, first, without}
use Rattle.rules_plan.specs.Plan.{Entry, Plan}
use Rattle.rules_plan.specs.Meaning.{entry_at, permits}
use Rattle.rules_box.specs.State.{Side, with_next, with_line, with_live, Live, with_age, Request, request}

-- "Joins its initiator's line and gets that initiator's next 16-bit transaction number; after 65,535 comes 0."
unfoldable pub asked : ℕ → ℕ → ℕ → Side → Request
asked t k n s = request t k n s.next

unfoldable pub join : ℕ → ℕ → ℕ → Side → Side
join t k n s = with_next ((s.next + 1) % 65_536) (with_line (s.line ++ (asked t k n s ∷ [])) s)

-- "Ends the live transaction"
unfoldable pub finish : Side → Side
finish s = with_live none s

-- "0 success, 1 to 7 and 9 to 12 errors, 8 and 13 to 255 reserved"
unfoldable pub class : ℕ → ℕ
class status = cond (eqb status 0) 0 (cond (leb status 7 || leb 9 status && leb status 12) 1 2)

-- "Value v is the lower six bits."
unfoldable pub value_of : ℕ → ℕ
value_of byte = byte % 64

-- "The first after a load is in sequence; later ones are if v is one more than the last accepted value, in sequence or not, modulo 64."
unfoldable pub in_sequence : Option ℕ → ℕ → Bool
in_sequence none byte = true
in_sequence (some last) byte = eqb (value_of byte) ((value_of last + 1) % 64)

-- "out of sequence, every live one; else each one started span accepted time-codes ago" (q: in sequence)
unfoldable pub is_late : Bool → Live → Bool
is_late true l = leb l.span (l.age + 1)
is_late false l = true

unfoldable pub older : Live → Live
older l = with_age (l.age + 1) l

-- what is live once lateness has been reported
unfoldable pub survives : Bool → Option Live → Option Live
survives q none = none
survives q (some l) = cond (is_late q l) none (some (older l))

unfoldable pub aged : Bool → Side → Side
aged q s = with_live (survives q s.live) s

-- "only in sequence … where an entry stands at v": the entry of initiator i that a time-code visits
unfoldable pub visited : Plan → Bool → ℕ → ℕ → Option Entry
visited p true byte i = entry_at p.entries i (value_of byte)
visited p false byte i = none

-- "the oldest waiting request it permits (target and 256 × span) starts": the entry, and the request with its place in the line
unfoldable pub allows : Plan → Entry → Request → Bool
allows p e r = permits p e r.target r.length

pub record Start : Type 0 where
  pub entry : Entry
  pub found : Found Request

unfoldable pub start_at : Entry → Option (Found Request) → Option Start
start_at e none = none
start_at e (some f) = some (record { entry = e; found = f })

-- "Were that initiator still live, asking or not, … nothing starts."
unfoldable pub starting : Plan → Option Entry → Side → Option Start
starting p none s = none
starting p (some e) s = elim (is_some s.live) [ true ↦ none | false ↦ start_at e (first (allows p e) s.line) ]

unfoldable pub fresh : Start → Live
fresh x = record { request = x.found.what; span = x.entry.span; age = 0 }

unfoldable pub begun : Side → Option Start → Side
begun s none = s
begun s (some x) = with_line (without x.found.place s.line) (with_live (some (fresh x)) s)

-- one side at a time-code with this byte: first lateness, then the start
unfoldable pub start_of : Plan → Bool → ℕ → ℕ → Side → Option Start
start_of p q byte i s = starting p (visited p q byte i) (aged q s)

unfoldable pub turned : Plan → Bool → ℕ → ℕ → Side → Side
turned p q byte i s = begun (aged q s) (start_of p q byte i s)
