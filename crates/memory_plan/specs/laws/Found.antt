-- What is found in plan memory: the row of an initiator, 8 where the plan has no such initiator, and so whether there is a plan.
use Rattle.std.specs.Prelude.{◌≡◌, List, false, ℕ, ◌≤◌, ◌<◌}
use Rattle.std.proofs.Math.Path.{refl}
use Rattle.std.proofs.Math.Option.{Option, none, some}
use Rattle.std.proofs.Math.Bool.{true}
use Rattle.std.proofs.Common.{arith}
use Rattle.lists.specs.Search.{any, is_some}
use Rattle.lists.specs.Place.{at_place}
use Rattle.lists.specs.laws.Bools.{not-both, never_true}
use Rattle.rules_plan.specs.Plan.{Plan, blank}
use Rattle.rules_plan.specs.Meaning.{is_initiator, initiators}
use Rattle.rules_plan.specs.laws.Sound.{Sound}
use Rattle.memory_plan.specs.Memory.{rows_of, numbers_with}
use Rattle.memory_plan.specs.View.{plan_in, Shown, row_for}
use Rattle.memory_plan.specs.laws.Rows.{row-for-place, row-for-some}

-- what memory tells: the row of initiator i
abbrev pub Rowed : List ℕ → List ℕ → ℕ → ℕ → Type 0
Rowed rows numbers i row = (size : ℕ) (p : Plan) → Sound p → rows ≡ rows_of p → numbers ≡ numbers_with size p → row ≡ row_for p i

module _ {o : Option Plan} {rows spans aims numbers : List ℕ} (f : Shown o rows spans aims numbers) (i row : ℕ) (told : Rowed rows numbers i row) where
  here : row ≡ row_for (plan_in o) i
  here = told _ (plan_in o) f.sound f.rows f.timed.numbers

  pub is-initiator : row < 8 → is_initiator (plan_in o) i ≡ true
  is-initiator h = (row-for-some (plan_in o) f.sound i).0 (omega (arith, here))

  -- without a plan there are no initiators, so whoever has a row has a plan
  pub plan-by-row : row < 8 → is_some o ≡ true
  unfolding is_initiator blank any is_some
  plan-by-row h = go o refl
    where
      go : (x : Option Plan) → o ≡ x → is_some x ≡ true
      go none e = not-both (is-initiator h) (rw e)
      go (some p) e = refl

  pub its-row : row < 8 → at_place row (initiators (plan_in o)) ≡ some i
  its-row h = rw here (row-for-place (plan_in o) f.sound i (is-initiator h))

  pub no-initiator : 8 ≤ row → is_initiator (plan_in o) i ≡ false
  no-initiator h = never_true _ (λ e. absurd (omega (arith, here, (row-for-some (plan_in o) f.sound i).1 e)))
