-- `row_place` meets its contract: the place among the rows passed.
use mathlib.Core.Path.{◌≡◌, refl, ◌∙◌}
use mathlib.Core.Bool.{Bool, cond}
use Prim.Native.Nat.{ℕ, ◌+◌}
use native.Mathlib.Numerals.{add-one}
use native.Mathlib.Omega.{arith}
use lib.Dec.{ltb}
use borrow.Author.Tests.{lt-ltb, le-ltb}
use Rattle.lists.specs.Insert.{past_last}
use Rattle.rules_plan.specs.Plan.{nth}
use Rattle.load_path_places.proofs.row_place.Goals as goal
use Rattle.load_path_places.proofs.row_place.Goals.{then-rows-k, else-rows-k}

-- one row more
one_more : (k : ℕ) (t : ℕ → Bool) → past_last (k + 1) t ≡ cond (t k) (k + 1) (past_last k t)
unfolding past_last
one_more k t = rw add-one refl

none_yet : (t : ℕ → Bool) → 0 ≡ past_last 0 t
unfolding past_last
none_yet t = refl

pub loop-k-init : goal.loop-k-init
loop-k-init c = (omega arith, none_yet _)

pub loop-k-preserved : goal.loop-k-preserved
loop-k-preserved c =
    let a = c.args in
    let k = c.loop-k.k in
    let more = one_more k (λ j. ltb (nth a.rows.now j) a.initiator) in
    elim c.if-rows-k.branch [
      | then-rows-k w ↦ rw (w.place-is, more, lt-ltb (nth a.rows.now k) a.initiator w.if-rows-k.true) (omega arith, refl)
      | else-rows-k w ↦
          (omega (arith, w.place-is, c.loop-k.invariant.0), w.place-is ∙ rw (more, le-ltb (nth a.rows.now k) a.initiator w.if-rows-k.false) c.loop-k.invariant.1)
    ]
