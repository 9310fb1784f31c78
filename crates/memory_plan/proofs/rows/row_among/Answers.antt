-- `row_among` meets its contract: the search through the first rows ends where that through all of them does, or behind them.
-- Assumes nothing.
use Rattle.std.proofs.Common.{◌≡◌, ◌∙◌, ℕ, Bool, ◌≤◌, ◌<◌, Option, min, ap, refl, arith}
use Rattle.std.specs.Prelude.{unwrap_or}
use Rattle.std.proofs.Math.Decide.{dec_lt}
use Rattle.lists.specs.Numbers.{first_from}
use Rattle.lists.specs.Options.{if_below}
use Rattle.lists.specs.laws.Below.{some-below, none-below}
use Rattle.memory_plan.specs.laws.Among.{is_row, first-behind, first-among}
use Rattle.memory_plan.proofs.rows.row_among.Goals as goal

near : (k m : ℕ) → k < 8 → unwrap_or (if_below 8 k) m ≡ k
near k m h = rw (← some-below 8 k k refl h)

far : (k m : ℕ) → 8 ≤ k → unwrap_or (if_below 8 k) m ≡ m
far k m h = rw (← none-below 8 k h)

among : (t : ℕ → Bool) (m : ℕ) → m ≤ 8 → min (unwrap_or (if_below 8 (first_from 8 0 t)) m) m ≡ first_from m 0 t
among t m few = go (first_from 8 0 t) (dec_lt (first_from 8 0 t) 8) (dec_lt m (first_from 8 0 t)) (first-behind t m 8 few) (first-among t m 8 few)
  where
    go : (k : ℕ) → Dec (k < 8) → Dec (m < k) → (m < k → m ≡ first_from m 0 t) → (k ≤ m → k ≡ first_from m 0 t) → min (unwrap_or (if_below 8 k) m) m ≡ first_from m 0 t
    go k (yes l) (yes b) f g = omega (arith, near k m l, f b)
    go k (yes l) (no b) f g = omega (arith, near k m l, g (omega arith))
    go k (no l) (yes b) f g = omega (arith, far k m (omega arith), f b)
    go k (no l) (no b) f g = omega (arith, far k m (omega arith), g (omega arith))

pub returns : goal.returns
returns c =
    let a = c.args in
    let t = is_row a.rows.now a.i in
    c.min.ensures ∙ ap (λ (n : ℕ). min n c.at_most-most.result) (c.unwrap_or.ensures ∙ ap (λ (o : Option ℕ). unwrap_or o c.at_most-most.result) c.first_row.ensures)
    ∙ ap (λ (m : ℕ). min (unwrap_or (if_below 8 (first_from 8 0 t)) m) m) c.at_most-most.ensures ∙ among t (min a.count 8) (omega arith)
