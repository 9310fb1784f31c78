-- Same plans have one canonical plan, a plan written out comes back, and an accepted plan is sound.
use mathlib.Core.Path.{◌≡◌, sym, ap, ◌∙◌}
use mathlib.Core.List.{List}
use Prim.Native.Nat.{ℕ}
use Rattle.rules_plan.specs.Canon.{canonical, written, given, plan_of, SamePlan}
use Rattle.rules_plan.specs.Good.{Good}
use Rattle.rules_plan.specs.Promises.{Accepted?, SamePlans, ComesBack, WrittenOutComesBack, AcceptedIsSound}
use Rattle.rules_plan.specs.laws.Whole.{accepted-clean, clean-counts}
use Rattle.rules_plan.specs.laws.Accepted.{accepted-good, accepted-length}
use Rattle.rules_plan.specs.laws.Reads.{given_back, judge-back}
use Rattle.rules_plan.specs.laws.GoodSound.{good-sound}
use Rattle.rules_plan.specs.laws.SameVerdict.{same-counts}
use Rattle.rules_plan.specs.laws.SameItems.{same_length}
use Rattle.rules_plan.specs.laws.Canonical as canon

pub same-plans : SamePlans
unfolding SamePlans plan_of
same-plans s t a b = canon.same-plans (given s) (given t) (accepted-good s a) (accepted-good t b)

module _ (s : List ℕ) (h : Accepted? s) where
  good : Good (given s)
  good = accepted-good s h

  good_c : Good (canonical (given s))
  good_c = canon.good-canonical (given s) good

  same : SamePlan (given s) (canonical (given s))
  same = canon.same-canonical (given s) good

  plan-back : canonical (given (written (canonical (given s)))) ≡ canonical (given s)
  plan-back = ap canonical (given_back (canonical (given s)) good_c) ∙ canon.canonical-twice (given s) good

  back : ComesBack s
  unfolding plan_of
  back = record {
    verdict = judge-back (canonical (given s)) good_c ∙ sym (same-counts same) ∙ sym (clean-counts s (given s) (accepted-clean s h));
    plan = plan-back;
    bytes = ap written plan-back;
    size = sym (same_length same) ∙ sym (accepted-length s h);
    most = good_c.short;
  }

pub comes_back : WrittenOutComesBack
unfolding WrittenOutComesBack
comes_back s h = back s h

pub accepted-sound : AcceptedIsSound
unfolding AcceptedIsSound plan_of
accepted-sound s h = good-sound (canonical (given s)) (good_c s h)
