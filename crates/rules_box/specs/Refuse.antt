-- The refusals of events: the table, row by row. "Smaller number first."
use Rattle.std.specs.Prelude.{ℕ, ◌*◌, List, [], ◌∷◌, Bool, false, not, length, ltb, leb, eqb}
use Rattle.std.proofs.Math.Option.{Option, none, some}
use Rattle.lists.specs.Search.{is_some}
use Rattle.lists.specs.Rows.{Row, first_of}
use Rattle.rules_plan.specs.Meaning.{is_initiator, may_start}
use Rattle.rules_box.specs.declared.Event.{Event}
use Rattle.rules_box.specs.declared.Event.TheVariants.{TimeCode, Request, Reply, Reading}
use Rattle.rules_box.specs.State.{Box, Live, no_plan, the_plan}

-- "8 waiting requests per initiator"
abbrev pub places_in_line : ℕ
places_in_line = 8

-- "At most 17" records of 8 bytes
abbrev pub record_size : ℕ
record_size = 8

abbrev pub most_records : ℕ
most_records = 17

-- 28: the live one's number is m
unfoldable pub is_live_number : ℕ → Option Live → Bool
is_live_number m none = false
is_live_number m (some l) = eqb m l.request.number

-- the rows of each event; room is the size of the lent record buffer
unfoldable pub refusals : ℕ → Box → Event → List Row
refusals room b (TimeCode byte clock) =
    (20, no_plan b)
    ∷ (21, leb 64 byte)
    ∷ (29, ltb room (most_records * record_size))
    ∷ []
refusals room b (Request i t k n) =
    (20, no_plan b)
    ∷ (22, not (is_initiator (the_plan b) i))
    ∷ (23, ltb 1 k)
    ∷ (24, ltb 4096 n)
    ∷ (25, not (may_start (the_plan b) (the_plan b).entries i t n))
    ∷ (26, leb places_in_line (length (b.side i).line))
    ∷ []
refusals room b (Reply i m status) =
    (20, no_plan b)
    ∷ (22, not (is_initiator (the_plan b) i))
    ∷ (27, not (is_some (b.side i).live))
    ∷ (28, not (is_live_number m (b.side i).live))
    ∷ []
refusals room b (Reading clock) = (20, no_plan b) ∷ []

-- the number of the refusal, 0 for none
unfoldable pub refusal : ℕ → Box → Event → ℕ
refusal room b e = first_of (refusals room b e)
