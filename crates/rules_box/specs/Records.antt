-- The records of a time-code, "in this order", and their bytes.
use Rattle.std.specs.Prelude.{ℕ, ◌/◌, ◌%◌, Bool, not, cond, length, drop}
use mathlib.Core.List.{List, [], ◌∷◌, ◌++◌, flat_map}
use Rattle.std.proofs.Math.Option.{Option, none, some}
use Rattle.lists.specs.Search.{only}
use Rattle.rules_plan.specs.Plan.{Entry, Plan}
use Rattle.rules_plan.specs.Meaning.{initiators}
use Rattle.rules_box.specs.declared.Watchdog.{Watchdog}
use Rattle.rules_box.specs.State.{Box, Side, Live, Request, the_plan}
use Rattle.rules_box.specs.Watch.{is_early, is_overdue}
use Rattle.rules_box.specs.Turn.{Start, value_of, in_sequence, is_late, survives, visited, start_of}

-- "kind, initiator, target, v, transaction number (2), length (2)"
pub record Record : Type 0 where
  pub kind : ℕ
  pub initiator : ℕ
  pub target : ℕ
  pub value : ℕ
  pub number : ℕ
  pub length : ℕ

-- "Each record has 8 bytes: … high byte first". The time-code's clock is given, and not written.
unfoldable pub record_bytes : ℕ → Record → List ℕ
record_bytes clock r =
    r.kind
    ∷ r.initiator
    ∷ r.target
    ∷ r.value
    ∷ r.number / 256
    ∷ r.number % 256
    ∷ r.length / 256
    ∷ r.length % 256
    ∷ []

-- "The buffer beyond them keeps its bytes."
unfoldable pub recorded : ℕ → List Record → List ℕ → List ℕ
recorded clock rs buffer = let bytes = flat_map (record_bytes clock) rs in bytes ++ drop (length bytes) buffer

-- "kinds 1 to 3 fill kind and v, the rest 0; kinds 4 to 6 fill all"
unfoldable pub plain : ℕ → ℕ → Record
plain kind v = record { kind = kind; initiator = 0; target = 0; value = v; number = 0; length = 0 }

unfoldable pub full : ℕ → ℕ → ℕ → Request → Record
full kind i v r = record { kind = kind; initiator = i; target = r.target; value = v; number = r.number; length = r.length }

-- 1. "watchdog: kind 1 early if elapsed < least, else kind 2 late if elapsed > greatest; neither if none was seen, and no kind 2 if
-- a reading already reported this lateness"
unfoldable pub watchdog_record : Watchdog → ℕ → ℕ → List Record
watchdog_record w clock v = cond (is_early w clock) (plain 1 v ∷ []) (only (is_overdue w clock) (plain 2 v))

-- 2. "kind 3 if out of sequence"
unfoldable pub sequence_record : Bool → ℕ → List Record
sequence_record q v = only (not q) (plain 3 v)

-- 3. "kind 4 for each late transaction"
unfoldable pub late_record : Bool → ℕ → ℕ → Option Live → List Record
late_record q i v none = []
late_record q i v (some l) = only (is_late q l) (full 4 i v l.request)

-- 4. "the oldest waiting request it permits … starts, kind 5"
unfoldable pub start_record : ℕ → ℕ → Option Start → List Record
start_record i v none = []
start_record i v (some x) = full 5 i v x.found.what ∷ []

-- "Were that initiator still live, asking or not, kind 6 stands instead"; "6 from the live one"
unfoldable pub still_record : Option Entry → ℕ → ℕ → Option Live → List Record
still_record none i v l = []
still_record (some e) i v none = []
still_record (some e) i v (some l) = full 6 i v l.request ∷ []

unfoldable pub visit_records : Plan → Bool → ℕ → ℕ → Side → List Record
visit_records p q byte i s =
    start_record i (value_of byte) (start_of p q byte i s) ++ still_record (visited p q byte i) i (value_of byte) (survives q s.live)

-- "initiators rising"
unfoldable pub late_records : Box → ℕ → List Record
late_records b byte = flat_map (λ (i : ℕ). late_record (in_sequence b.last byte) i (value_of byte) (b.side i).live) (initiators (the_plan b))

unfoldable pub visits_records : Box → ℕ → List Record
visits_records b byte = flat_map (λ (i : ℕ). visit_records (the_plan b) (in_sequence b.last byte) byte i (b.side i)) (initiators (the_plan b))

unfoldable pub records : Box → Watchdog → ℕ → ℕ → List Record
records b w byte clock =
    watchdog_record w clock (value_of byte)
    ++ sequence_record (in_sequence b.last byte) (value_of byte)
    ++ late_records b byte
    ++ visits_records b byte
