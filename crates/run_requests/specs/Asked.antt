-- What a request does to the side of its initiator once the plan permits it.
use Rattle.std.specs.Prelude.{ℕ, Bool, cond, length, leb}
use Rattle.rules_box.specs.Answer.{Answer, Refused, Joined}
use Rattle.rules_box.specs.State.{Side}
use Rattle.rules_box.specs.Refuse.{places_in_line}
use Rattle.rules_box.specs.Turn.{join}

-- a request that the plan permits: 26, or its number
unfoldable pub is_full : Side → Bool
is_full s = leb places_in_line (length s.line)

unfoldable pub asked_answer : Side → Answer
asked_answer s = cond (is_full s) (Refused 26) (Joined s.next)

unfoldable pub asked_side : ℕ → ℕ → ℕ → Side → Side
asked_side t k n s = cond (is_full s) s (join t k n s)
