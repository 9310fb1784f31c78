-- A request that the plan permits, on its initiator's side: the line is full, or it joins.
use mathlib.Core.Path.{◌≡◌}
use mathlib.Core.List.{List}
use Prim.Native.Nat.{ℕ, ◌≤◌, ◌<◌}
use lib.ListN.{length}
use borrow.Author.Tests.{le-leb, lt-leb}
use Rattle.rules_box.specs.Answer.{Answer, Refused, Joined}
use Rattle.memory_plan.specs.View.{Owner}
use Rattle.rules_box.specs.State.{Side}
use Rattle.rules_box.specs.Turn.{join}
use Rattle.memory_run.specs.Run.{row_of}
use Rattle.run_requests.specs.Asked.{is_full, asked_answer, asked_side}

module _ (i : Owner) (s : Side) (row : List ℕ) (t k n : ℕ) where
  abbrev Asked : Answer → Type 0
  Asked r = (r ≡ asked_answer s) × (row ≡ row_of i (asked_side t k n s))

  pub full : row ≡ row_of i s → 8 ≤ length s.line → Asked (Refused 26)
  unfolding asked_answer asked_side is_full
  full is h = let e = le-leb 8 (length s.line) h in (rw e, rw e is)

  pub joins : length s.line < 8 → (m : ℕ) → (m ≡ s.next) × (row ≡ row_of i (join t k n s)) → Asked (Joined m)
  unfolding asked_answer asked_side is_full
  joins h m (next, is) = let e = lt-leb 8 (length s.line) h in (rw (e, next), rw e is)
