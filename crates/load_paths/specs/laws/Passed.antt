-- An item without a fault passes every row, and the plan grows by it; an item with one leaves the plan.
use Rattle.std.specs.Prelude.{◌≡◌, ◌≢◌, false, ℕ}
use Rattle.std.proofs.Math.Path.{refl}
use Rattle.std.proofs.Common.{eq-eqb, ne_eqb}
use Rattle.lists.specs.Rows.{test_of}
use Rattle.lists.specs.laws.Rows.{rise, no_row}
use Rattle.rules_plan.specs.Plan.{Plan, Item, grow}
use Rattle.rules_plan.specs.Judge.{item_rows}
use Rattle.rules_plan.specs.laws.Chain.{Passes}
use Rattle.memory_plan.specs.Take.{item_fault, taken}

module _ (p : Plan) (x : Item) where
  no_rows : item_fault p x ≡ 0 → (n : ℕ) → test_of n (item_rows p x) ≡ false
  unfolding item_fault item_rows rise
  no_rows h n = no_row n (item_rows p x) 0 refl h

  pub faultless : item_fault p x ≡ 0 → Passes p x
  unfolding item_rows test_of
  faultless h = record { range = no_rows h 6; new = no_rows h 7; known = no_rows h 8; few = no_rows h 9; walk = no_rows h 10; reached = no_rows h 11 }

  pub taken-grows : item_fault p x ≡ 0 → taken p x ≡ grow p x
  unfolding taken
  taken-grows h = rw (eq-eqb (item_fault p x) 0 h)

  pub taken-stays : item_fault p x ≢ 0 → taken p x ≡ p
  unfolding taken
  taken-stays h = rw (ne_eqb (item_fault p x) 0 h)
