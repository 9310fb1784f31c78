-- The head of a field in the verdict on the field: a fault of the head is the field's, and behind a head without one the item decides.
use mathlib.Core.Path.{◌≡◌, refl, ◌∙◌}
use mathlib.Core.Logic.{◌≢◌}
use mathlib.Core.List.{List}
use mathlib.Core.Option.{some}
use mathlib.Core.Bool.{Bool, true, false, ◌&&◌, ◌||◌}
use Prim.Native.Nat.{ℕ, ◌+◌, ◌≤◌}
use native.Mathlib.Omega.{arith}
use lib.ListN.{length, take, drop, length-take, length-drop}
use lib.Dec.{ltb, eqb}
use borrow.Author.Tests.{ltb-false, eqb-true, eqb-false, not-false}
use Rattle.lists.specs.Rows.{test_of}
use Rattle.lists.specs.laws.Bools.{neither}
use Rattle.lists.specs.laws.Rows.{rise, no_row}
use Rattle.lists.specs.laws.Table.{first-in-front, first-behind}
use Rattle.rules_plan.specs.Plan.{Plan, Item}
use Rattle.rules_plan.specs.Fields.{is_tag, comes_once, length_allowed, tag_at, size_at, content_at, next_at, item_of, item_at}
use Rattle.rules_plan.specs.Judge.{head_rows, field_rows, field_fault}
use Rattle.rules_plan.specs.laws.Tags.{item-of}
use Rattle.file_field.specs.Head.{field, faulty, head_fault, head_of}
use Rattle.memory_plan.specs.Take.{item_fault}

-- a head without a fault: what rows 2 to 5 leave of it
pub record Fine (s : List ℕ) (at before tag size : ℕ) : Type 0 where
  pub clean : head_fault s at before ≡ 0
  pub tag_is : tag ≡ tag_at s at
  pub size_is : size ≡ size_at s at
  pub room : next_at s at ≤ length s
  pub known : is_tag (tag_at s at) ≡ true
  pub order : ltb (tag_at s at) before || eqb (tag_at s at) before && comes_once (tag_at s at) ≡ false
  pub fits : length_allowed (tag_at s at) (size_at s at) ≡ true

module _ (s : List ℕ) (at before : ℕ) where
  heads-rise : rise 0 (head_rows s at before) ≡ true
  unfolding rise head_rows
  heads-rise = refl

  -- what the reader answers
  pub head-fault : (n : ℕ) → head_of s at before ≡ faulty n → (head_fault s at before ≡ n) × (n ≢ 0)
  unfolding head_of
  head-fault n h = go (eqb (head_fault s at before) 0) refl
    where
      go : (b : Bool) → eqb (head_fault s at before) 0 ≡ b → (head_fault s at before ≡ n) × (n ≢ 0)
      go true e = let g : field (tag_at s at) (size_at s at) ≡ faulty n = rw (e, head_of) at h in let z : ◌≡◌ {A = ℕ} 0 1 = cc in absurd (omega arith)
      go false e =
          let g : faulty (head_fault s at before) ≡ faulty n = rw (e, head_of) at h in
          let same : head_fault s at before ≡ n = cc in
          (same, λ z. eqb-false (head_fault s at before) 0 e (same ∙ z))

  pub head-fine : (tag size : ℕ) → head_of s at before ≡ field tag size → Fine s at before tag size
  unfolding head_of head_fault head_rows test_of
  head-fine tag size h = go (eqb (head_fault s at before) 0) refl
    where
      go : (b : Bool) → eqb (head_fault s at before) 0 ≡ b → Fine s at before tag size
      go false e = let g : faulty (head_fault s at before) ≡ field tag size = rw (e, head_of) at h in let z : ◌≡◌ {A = ℕ} 0 1 = cc in absurd (omega arith)
      go true e =
          let g : field (tag_at s at) (size_at s at) ≡ field tag size = rw (e, head_of) at h in
          let none : head_fault s at before ≡ 0 = eqb-true (head_fault s at before) 0 e in
          record {
            clean = none;
            tag_is = cc;
            size_is = cc;
            room = ltb-false (length s) (next_at s at) (neither (ltb (length s) (at + 3)) (ltb (length s) (next_at s at)) (no_row 2 (head_rows s at before) 0 heads-rise none)).1;
            known = not-false _ (no_row 3 (head_rows s at before) 0 heads-rise none);
            order = no_row 4 (head_rows s at before) 0 heads-rise none;
            fits = not-false _ (no_row 5 (head_rows s at before) 0 heads-rise none);
          }

  -- the verdict on the field
  pub fault-of-head : (p : Plan) → head_fault s at before ≢ 0 → field_fault p s at before ≡ head_fault s at before
  unfolding field_fault field_rows head_fault
  fault-of-head p h = first-in-front (head_rows s at before) _ h

  pub fault-of-item : (p : Plan) (x : Item) → head_fault s at before ≡ 0 → item_at s at ≡ some x → field_fault p s at before ≡ item_fault p x
  unfolding field_fault field_rows head_fault item_fault
  fault-of-item p x h e = first-behind (head_rows s at before) _ 0 heads-rise h ∙ rw e

  module _ {tag size : ℕ} (f : Fine s at before tag size) where
    -- the content lies in the file, and is an item's
    pub content-sized : length_allowed tag (length (take size (drop (at + 3) s))) ≡ true
    content-sized =
        let n : length (take (size_at s at) (drop (at + 3) s)) ≡ size_at s at = simp (length-take, length-drop) (omega (arith, f.room)) in
        rw (f.tag_is, f.size_is, n) f.fits

    pub item-there : (x : Item) × (item_at s at ≡ some x)
    unfolding item_at
    item-there = item-of (tag_at s at) (content_at s at) f.known

    pub item-read : (x : Item) → item_at s at ≡ some x → item_of tag (take size (drop (at + 3) s)) ≡ some x
    unfolding item_at content_at
    item-read x e = rw (f.tag_is, f.size_is) e
