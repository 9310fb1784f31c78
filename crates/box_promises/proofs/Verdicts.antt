-- A load answers the verdict of the rules, and the memory that it leaves tells plans apart.
use mathlib.Core.Path.{◌≡◌, sym, ap, ◌∙◌}
use mathlib.Core.Logic.{◌↔◌}
use mathlib.Core.List.{List}
use Prim.Native.Nat.{ℕ}
use Rattle.rules_plan.specs.declared.Verdict.{Verdict}
use Rattle.rules_plan.specs.Verdict.{number}
use Rattle.rules_plan.specs.Judge.{judge}
use Rattle.rules_plan.specs.Canon.{canonical, given, plan_of, SamePlan}
use Rattle.rules_plan.specs.Promises.{VerdictsAsWorded, AcceptedExactly, SamePlans}
use Rattle.rules_plan.specs.laws.Accepted.{accepted-good}
use Rattle.rules_plan.specs.laws.Canonical.{canonical-twice}
use Rattle.memory_plan.specs.laws.OneMemory as plan
use Rattle.rules_box.specs.declared.Watchdog.{Watchdog}
use Rattle.rules_box.specs.State.{holding, loaded, is_accepted, the_plan}
use Rattle.box_calls.specs.Calls.{Memory, At, LoadLeaves}
use Rattle.box_promises.specs.Promises.{VerdictsOfTheRules, SamePlanSameMemory}
use Rattle.box_promises.proofs.Held.{plan_of-good}
use Rattle.box_promises.proofs.Nothing.{one-memory}

pub verdicts-of-the-rules : VerdictsAsWorded → AcceptedExactly → VerdictsOfTheRules
unfolding VerdictsOfTheRules VerdictsAsWorded AcceptedExactly
verdicts-of-the-rules words exactly file v m w l =
    record { computed = l.verdict; worded = (words file v).1 (sym l.verdict); accepted = rw l.verdict (exactly file l.bytes) }

-- an accepted load
module _ (file : List ℕ) (v : Verdict) (m : Memory) (w : Watchdog) (l : LoadLeaves file v m w) (h : number v ≡ 0) where
  accepted : number (judge file) ≡ 0
  accepted = ap number (sym l.verdict) ∙ h

  with-plan : loaded file ≡ holding (plan_of file)
  unfolding loaded is_accepted
  with-plan = rw accepted

  has-plan : At m (holding (plan_of file))
  has-plan = rw with-plan at l.holds

  canonical-plan : canonical (plan_of file) ≡ plan_of file
  unfolding plan_of
  canonical-plan = canonical-twice (given file) (accepted-good file accepted)

pub same-plan-same-memory : SamePlans → SamePlanSameMemory
unfolding SamePlanSameMemory SamePlans holding the_plan
same-plan-same-memory same file file' v v' m m' w w' l l' h h' = (there, back)
  where
    plans : SamePlan (given file) (given file') ↔ (plan_of file ≡ plan_of file')
    plans = same file file' (accepted file v m w l h) (accepted file' v' m' w' l' h')

    here : At m (holding (plan_of file))
    here = has-plan file v m w l h

    other : At m' (holding (plan_of file'))
    other = has-plan file' v' m' w' l' h'

    there : SamePlan (given file) (given file') → m ≡ m'
    there s = one-memory m m' (holding (plan_of file)) here (rw (plans.0 s) other)

    back : m ≡ m' → SamePlan (given file) (given file')
    back e =
        let good = plan_of-good file (accepted file v m w l h) in
        let good' = plan_of-good file' (accepted file' v' m' w' l' h') in
        let mine : At m' (holding (plan_of file)) = rw e at here in
        let one = plan.one-memory (plan_of file) (plan_of file') good good' _ _ _ _ _ _ _ _ mine.plan other.plan in
        plans.1 (sym (canonical-plan file v m w l h) ∙ one ∙ canonical-plan file' v' m' w' l' h')
