-- `walks::arrived` meets its contract: test by test.
use mathlib.Core.Path.{◌≡◌, sym, ap, ◌∙◌}
use mathlib.Core.List.{List, Memᴰ}
use mathlib.Core.Bool.{◌||◌}
use Prim.Native.Nat.{ℕ, ◌<◌}
use lib.Dec.{eqb}
use borrow.Author.Tests.{ne_eqb}
use Rattle.lists.specs.Search.{all}
use Rattle.lists.specs.laws.More.{all_same}
use Rattle.bitsets.specs.Set.{member, added, listed, within_of}
use Rattle.bitsets.specs.Laws.{added-below, within-listed}
use Rattle.lists.specs.laws.Bools.{not-both}
use Rattle.load_walks.proofs.arrived.Goals as goal
use Rattle.load_walks.proofs.arrived.Goals.{then-broken-eq0, else-broken-eq0}

-- the devices met are within the routers, the end and the start
all-within : (start end met routers y z : ℕ) → ((k : ℕ) → member k y ≡ added end routers k) → ((k : ℕ) → member k z ≡ added start y k)
    → (xs : List ℕ) → ((x : ℕ) → Memᴰ x xs → x < 64) → ((k : ℕ) → member k met ≡ listed xs k)
    → within_of met z ≡ all (λ (x : ℕ). eqb x start || (eqb x end || member x routers)) xs
all-within start end met routers y z a b xs low is =
    within-listed xs met z low is
    ∙ all_same _ _ xs (λ m i. b m ∙ added-below start y m (low m i) ∙ ap (λ c. eqb m start || c) (a m ∙ added-below end routers m (low m i)))

pub returns-then-has : goal.returns-then-has
returns-then-has c =
    elim c.if-broken-eq0.branch [
      | then-broken-eq0 w ↦
          let e = sym w.has.ensures ∙ sym w.value-is ∙ c.if-has.true in (
            λ n. absurd (n w.if-broken-eq0.true),
            λ _ xs low is. c.within.ensures ∙ rw e (all-within _ _ _ _ c.add.result c.add-then-has.result c.add.ensures c.add-then-has.ensures xs low is),
          )
      | else-broken-eq0 w ↦ not-both c.if-has.true (w.value-is ∙ ne_eqb c.args.broken 0 w.if-broken-eq0.false)
    ]
