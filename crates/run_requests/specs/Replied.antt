-- What a reply of an initiator does to its side.
use Rattle.std.specs.Prelude.{ℕ, not, cond}
use Rattle.lists.specs.Search.{is_some}
use Rattle.rules_box.specs.Answer.{Answer, Refused}
use Rattle.rules_box.specs.State.{Side}
use Rattle.rules_box.specs.Refuse.{is_live_number}
use Rattle.rules_box.specs.Turn.{finish}
use Rattle.rules_box.specs.Step.{ended_by}

-- a reply of an initiator: 27, 28, or what it ends
unfoldable pub replied_answer : ℕ → ℕ → Side → Answer
replied_answer m status s =
    cond (not (is_some s.live)) (Refused 27) (cond (not (is_live_number m s.live)) (Refused 28) (ended_by status s.live))

unfoldable pub replied_side : ℕ → Side → Side
replied_side m s = cond (is_live_number m s.live) (finish s) s
