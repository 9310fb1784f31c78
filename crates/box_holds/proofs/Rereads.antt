-- What a comparison with the memory that a file was loaded into says of the file.
use mathlib.Core.Path.{◌≡◌, refl, sym, ap, ◌∙◌}
use mathlib.Core.Logic.{◌≢◌, ◌↔◌}
use mathlib.Core.List.{List}
use mathlib.Core.Bool.{Bool, true, false, cond}
use Prim.Native.Nat.{ℕ}
use lib.Dec.{eqb}
use borrow.Author.Tests.{eqb-true, eq-eqb}
use Rattle.rules_plan.specs.Plan.{nth, blank}
use Rattle.rules_plan.specs.Verdict.{number}
use Rattle.rules_plan.specs.Judge.{judge}
use Rattle.rules_plan.specs.Canon.{given, plan_of}
use Rattle.rules_plan.specs.laws.Accepted.{accepted-good}
use Rattle.memory_plan.specs.Memory.{numbers_of, Holds}
use Rattle.memory_plan.specs.laws.BlankMemory.{holds-blank, good-not-blank}
use Rattle.memory_plan.specs.laws.SameMemory.{holds-canonical}
use Rattle.load_plan.specs.Load.{plan_left, HoldsPlanOf}
use Rattle.lists.specs.laws.Answers.{decides}

abbrev Same : (sets ends rows reach paths spans aims numbers sets' ends' rows' reach' paths' spans' aims' numbers' : List ℕ) → Type 0
Same sets ends rows reach paths spans aims numbers sets' ends' rows' reach' paths' spans' aims' numbers' =
    (sets ≡ sets') × (ends ≡ ends') × (rows ≡ rows') × (reach ≡ reach') × (paths ≡ paths') × (spans ≡ spans') × (aims ≡ aims') × (numbers ≡ numbers')

-- memory without a plan has no greatest interval
blank_none : {numbers : List ℕ} → numbers ≡ numbers_of blank → nth numbers 1 ≡ 0
blank_none e = ap (λ (l : List ℕ). nth l 1) (e ∙ sym holds-blank.numbers)

module _ (file : List ℕ) {sets' ends' rows' reach' paths' spans' aims' numbers' : List ℕ} (m : Holds (plan_left file) sets' ends' rows' reach' paths' spans' aims' numbers') where
  has-plan : number (judge file) ≡ 0 → Holds (given file) sets' ends' rows' reach' paths' spans' aims' numbers'
  unfolding plan_left
  has-plan e = rw (eq-eqb (number (judge file)) 0 e) at m

  has-interval : number (judge file) ≡ 0 → nth numbers' 1 ≢ 0
  has-interval e = good-not-blank (given file) (accepted-good file e) sets' ends' rows' reach' paths' spans' aims' numbers' (has-plan e)

  pub refused : nth numbers' 1 ≡ 0 → number (judge file) ≢ 0
  refused z e = has-interval e z

  accepted : nth numbers' 1 ≢ 0 → number (judge file) ≡ 0
  unfolding plan_left
  accepted n = go (eqb (number (judge file)) 0) refl m
    where
      go : (x : Bool) → eqb (number (judge file)) 0 ≡ x → Holds (cond x (given file) blank) sets' ends' rows' reach' paths' spans' aims' numbers' → number (judge file) ≡ 0
      go true e h = eqb-true _ _ e
      go false e h = absurd (n (blank_none h.numbers))

  -- memory is that of the file exactly where it holds the file's plan
  module _ (sets ends rows reach paths spans aims numbers : List ℕ) (e : number (judge file) ≡ 0) where
    same-holds : Same sets ends rows reach paths spans aims numbers sets' ends' rows' reach' paths' spans' aims' numbers' ↔ Holds (given file) sets ends rows reach paths spans aims numbers
    same-holds =
        let h = has-plan e in (
          λ s. record {
            sets = s.0 ∙ h.sets;
            ends = s.1 ∙ h.ends;
            rows = s.2 ∙ h.rows;
            reach = s.3 ∙ h.reach;
            paths = s.4 ∙ h.paths;
            spans = s.5 ∙ h.spans;
            aims = s.6 ∙ h.aims;
            numbers = s.7 ∙ h.numbers;
          },
          λ k. (
            k.sets ∙ sym h.sets,
            k.ends ∙ sym h.ends,
            k.rows ∙ sym h.rows,
            k.reach ∙ sym h.reach,
            k.paths ∙ sym h.paths,
            k.spans ∙ sym h.spans,
            k.aims ∙ sym h.aims,
            k.numbers ∙ sym h.numbers,
          ),
        )

    same-plan : Same sets ends rows reach paths spans aims numbers sets' ends' rows' reach' paths' spans' aims' numbers' ↔ HoldsPlanOf file sets ends rows reach paths spans aims numbers
    unfolding plan_of
    same-plan =
        let canon = holds-canonical (given file) (accepted-good file e) sets ends rows reach paths spans aims numbers in
        (λ s. (e, canon.0 (same-holds.0 s)), λ q. same-holds.1 (canon.1 q.1))

  pub reread : {r : Bool} {sets ends rows reach paths spans aims numbers : List ℕ} → (r ≡ true) ↔ Same sets ends rows reach paths spans aims numbers sets' ends' rows' reach' paths' spans' aims' numbers'
      → nth numbers' 1 ≢ 0 → (r ≡ true) ↔ HoldsPlanOf file sets ends rows reach paths spans aims numbers
  reread says n = let i = same-plan _ _ _ _ _ _ _ _ (accepted n) in decides says i.0 i.1
