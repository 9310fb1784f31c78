-- A field's table of rows: its numbers rise, so that the fault is the least row that holds.
use Rattle.std.specs.Prelude.{◌≡◌, refl, ◌≢◌, ◌↔◌, List, true, false, ℕ}
use Rattle.std.proofs.Math.Option.{Option, none, some}
use Rattle.lists.specs.Rows.{test_of}
use Rattle.lists.specs.laws.Rows.{rise}
use Rattle.lists.specs.laws.Table.{FirstRow, first-is-row, first-is-none}
use Rattle.rules_plan.specs.Plan.{Plan, Item}
use Rattle.rules_plan.specs.Fields.{item_at}
use Rattle.rules_plan.specs.Judge.{item_rows, head_rows, field_rows, field_fault}

rows-rise : (p : Plan) (s : List ℕ) (at before : ℕ) → rise 0 (field_rows p s at before) ≡ true
unfolding rise head_rows field_rows item_rows
rows-rise p s at before = go (item_at s at) refl
  where
    go : (o : Option Item) → item_at s at ≡ o → rise 0 (field_rows p s at before) ≡ true
    go none e = rw (e, field_rows)
    go (some x) e = rw (e, field_rows)

-- the field at an offset, after a field with the tag before and the plan p
module _ (p : Plan) (s : List ℕ) (at before : ℕ) where
  pub no_rows : (field_fault p s at before ≡ 0) ↔ ((n : ℕ) → test_of n (field_rows p s at before) ≡ false)
  unfolding field_fault
  no_rows = first-is-none (field_rows p s at before) (rows-rise p s at before)

  pub first-row : (n : ℕ) → ((field_fault p s at before ≡ n) × (n ≢ 0)) ↔ FirstRow (field_rows p s at before) n
  unfolding field_fault
  first-row = first-is-row (field_rows p s at before) (rows-rise p s at before)
