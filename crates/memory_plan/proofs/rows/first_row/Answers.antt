-- `first_row` meets its contract. Assumes nothing.
use Rattle.std.proofs.Common.{◌≡◌, ◌∙◌, ℕ, ◌<◌, Option, Some, None, List, length, ap, refl, sym, arith, rules, tests, eq-eqb}
use Rattle.std.proofs.lemmas.Iterator.{IsFirst-from_position, YieldsList-from_slice}
use Rattle.std.specs.List.{AllWithin, HoldsAt}
use Rattle.std.specs.Option.{MatchOption}
use Rattle.std.specs.Prelude.{◌≢◌}
use borrow.Author.Tests.{ne_eqb}
use Rattle.lists.specs.Numbers.{first_from}
use Rattle.lists.specs.Options.{if_below}
use Rattle.lists.specs.laws.Below.{some-below}
use Rattle.lists.specs.laws.Sweep.{first-here, first-none}
use Rattle.memory_plan.specs.laws.Among.{is_row}
use Rattle.memory_plan.proofs.rows.first_row.Goals as goal

-- a row that is the first of i, and none
told : (rows : List ℕ) (i : ℕ) (r : Option ℕ) → length rows ≡ 8
    → MatchOption r (AllWithin (λ x. x ≢ i) rows 0 (length rows)) (λ k. (k < length rows) × HoldsAt (λ x. x ≡ i) rows k × AllWithin (λ x. x ≢ i) rows 0 k)
    → r ≡ if_below 8 (first_from 8 0 (is_row rows i))
told rows i None eight none =
    let e : 8 ≡ first_from 8 0 (is_row rows i) = first-none 8 0 (is_row rows i) 8 (omega arith) (λ m a b. ne_eqb i _ (λ z. none m 0 a (omega arith) (sym z))) in
    ap (if_below 8) e
told rows i (Some k) eight h =
    let e : k ≡ first_from 8 0 (is_row rows i) = first-here 8 0 (is_row rows i) k (omega arith) (omega (arith, h.0)) (eq-eqb i _ (sym (h.1 0))) (λ m a b. ne_eqb i _ (λ z. h.2 m 0 a b (sym z))) in
    some-below 8 k k refl (omega (arith, h.0)) ∙ ap (if_below 8) e

pub returns : goal.returns
returns c =
    let a = c.args in
    told a.rows.now a.i c.position.result c.told-rows
    (IsFirst-from_position _ _ _ (λ x. x ≡ a.i) (λ x. x ≢ a.i) c.position.ensures.ran (YieldsList-from_slice a.rows.now cc) (λ x q k. search (rules, tests)) (λ x q k. search (rules, tests)))
