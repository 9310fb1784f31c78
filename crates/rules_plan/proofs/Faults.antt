-- Rows 2 to 11 against their sentences: what is wrong with a field after a fair plan, and which of it is the fault.
use mathlib.Core.Path.{◌≡◌, refl, ◌∙◌}
use mathlib.Core.Logic.{◌≢◌, ◌↔◌, ◌⊎◌, inl, inr}
use mathlib.Core.List.{List, [], ◌∷◌, ◌++◌}
use mathlib.Core.Option.{Option, none, some}
use mathlib.Core.Bool.{true, false, ◌&&◌, ◌||◌}
use Prim.Native.Nat.{ℕ, ◌+◌, ◌≤◌, ◌<◌}
use native.Mathlib.Omega.{arith}
use native.Mathlib.Decide.{ℕ_discrete}
use lib.ListN.{length}
use lib.Dec.{ltb, eqb}
use borrow.Author.Tests.{eq-eqb, ne_eqb}
use Rattle.lists.specs.Rows.{Row, test_of}
use Rattle.lists.specs.laws.Bools.{not-both}
use Rattle.rules_plan.specs.Plan.{Plan, Item}
use Rattle.rules_plan.specs.Fields.{comes_once, tag_at, size_at, next_at, item_at}
use Rattle.rules_plan.specs.Judge.{item_rows, head_rows, field_rows, field_fault}
use Rattle.rules_plan.specs.Wrong.{Wrong, under-three, past_end, tag-under, tag-over, tag-falls, second-05, second-06, not-allowed, of-item}
use Rattle.rules_plan.specs.Words.{Faultless, Fault}
use Rattle.rules_plan.specs.laws.FieldRows.{no_rows, first-row}
use Rattle.rules_plan.specs.laws.Fair.{Fair}
use Rattle.rules_plan.proofs.Asks.{Asks, lt-asks, or-asks, false-asks, row-says}
use Rattle.rules_plan.proofs.Heads.{Second, no-tag-asks, second-asks, not-allowed-asks}
use Rattle.rules_plan.proofs.WrongItems.{item-wrong}

-- a row of two tables one behind the other is a row of one of them
either-table : (n : ℕ) (xs ys : List Row) → test_of n (xs ++ ys) ≡ true → (test_of n xs ≡ true) ⊎ (test_of n ys ≡ true)
unfolding test_of
either-table n [] ys h = inr h
either-table n (r ∷ xs) ys h = go (either-table n xs ys) (ℕ_discrete r.0 n)
  where
    go : (test_of n (xs ++ ys) ≡ true → (test_of n xs ≡ true) ⊎ (test_of n ys ≡ true)) → Dec (r.0 ≡ n) → (test_of n (r ∷ xs) ≡ true) ⊎ (test_of n ys ≡ true)
    go ih (yes e) = inl (rw (eq-eqb r.0 n e) (rw (eq-eqb r.0 n e) at h))
    go ih (no e) = rw (ne_eqb r.0 n e) (ih (rw (ne_eqb r.0 n e) at h))

module _ (s : List ℕ) (at before : ℕ) where
  cut-asks : Asks (ltb (length s) (at + 3) || ltb (length s) (next_at s at)) ((length s < at + 3) ⊎ (length s < next_at s at))
  cut-asks = or-asks (lt-asks (length s) (at + 3)) (lt-asks (length s) (next_at s at))

  order-asks : Asks (ltb (tag_at s at) before || eqb (tag_at s at) before && comes_once (tag_at s at)) ((tag_at s at < before) ⊎ Second before (tag_at s at))
  order-asks = or-asks (lt-asks (tag_at s at) before) (second-asks (tag_at s at) before)

-- the field at an offset, after a field with the tag before and the fair plan p
module _ (p : Plan) (fair : Fair p) (s : List ℕ) (at before : ℕ) where
  head-wrong : (n : ℕ) → test_of n (head_rows s at before) ≡ true → Wrong p s at before n
  unfolding head_rows
  head-wrong = row-says (Wrong p s at before) (head_rows s at before) (
    λ h. cut ((cut-asks s at before).0 h),
    (λ h. tag ((no-tag-asks (tag_at s at)).0 h), (λ h. order ((order-asks s at before).0 h), (λ h. not-allowed ((not-allowed-asks (tag_at s at) (size_at s at)).0 h), tt))),
  )
    where
      cut : (length s < at + 3) ⊎ (length s < next_at s at) → Wrong p s at before 2
      cut (inl h) = under-three (omega arith)
      cut (inr h) = past_end (omega arith)

      tag : (tag_at s at < 1) ⊎ (7 < tag_at s at) → Wrong p s at before 3
      tag (inl h) = tag-under h
      tag (inr h) = tag-over h

      order : (tag_at s at < before) ⊎ Second before (tag_at s at) → Wrong p s at before 4
      order (inl h) = tag-falls h
      order (inr (inl (h, e))) = second-05 h e
      order (inr (inr (h, e))) = second-06 h e

  there : (n : ℕ) → test_of n (field_rows p s at before) ≡ true → Wrong p s at before n
  unfolding field_rows test_of
  there n h = go (item_at s at) refl
    where
      by : (x : Item) → item_at s at ≡ some x → (test_of n (head_rows s at before) ≡ true) ⊎ (test_of n (item_rows p x) ≡ true) → Wrong p s at before n
      by x e (inl h) = head-wrong n h
      by x e (inr h) = of-item e ((item-wrong p fair x n).0 h)

      only : (test_of n (head_rows s at before) ≡ true) ⊎ (test_of n [] ≡ true) → Wrong p s at before n
      only (inl h) = head-wrong n h
      only (inr h) = not-both h refl

      go : (o : Option Item) → item_at s at ≡ o → Wrong p s at before n
      go none e = only (either-table n (head_rows s at before) [] (rw (e, field_rows) at h))
      go (some x) e = by x e (either-table n (head_rows s at before) (item_rows p x) (rw (e, field_rows) at h))

  -- the rows of an item stand behind
  item-row : (x : Item) (n : ℕ) → test_of n (item_rows p x) ≡ true → 6 ≤ n
  unfolding item_rows
  item-row x = row-says (◌≤◌ 6) (item_rows p x) (λ h. omega arith, (λ h. omega arith, (λ h. omega arith, (λ h. omega arith, (λ h. omega arith, (λ h. omega arith, tt))))))

  behind : (n : ℕ) (rs : List Row) → 6 ≤ n → test_of n (head_rows s at before ++ rs) ≡ test_of n rs
  unfolding test_of head_rows
  behind n rs l = rw (ne_eqb 2 n (omega arith), ne_eqb 3 n (omega arith), ne_eqb 4 n (omega arith), ne_eqb 5 n (omega arith))

  back : (n : ℕ) → Wrong p s at before n → test_of n (field_rows p s at before) ≡ true
  unfolding field_rows head_rows test_of
  back n (under-three h) = (cut-asks s at before).1 (inl (omega arith))
  back n (past_end h) = (cut-asks s at before).1 (inr (omega arith))
  back n (tag-under h) = (no-tag-asks (tag_at s at)).1 (inl h)
  back n (tag-over h) = (no-tag-asks (tag_at s at)).1 (inr h)
  back n (tag-falls h) = (order-asks s at before).1 (inl h)
  back n (second-05 h e) = (order-asks s at before).1 (inr (inl (h, e)))
  back n (second-06 h e) = (order-asks s at before).1 (inr (inr (h, e)))
  back n (not-allowed h) = (not-allowed-asks (tag_at s at) (size_at s at)).1 h
  back n (of-item {x} e w) = let h = (item-wrong p fair x n).1 w in rw (e, field_rows) (behind n (item_rows p x) (item-row x n h) ∙ h)

  field-wrong : (n : ℕ) → Asks (test_of n (field_rows p s at before)) (Wrong p s at before n)
  field-wrong n = (there n, back n)

  no-wrong : (n : ℕ) → (test_of n (field_rows p s at before) ≡ false) ↔ (Wrong p s at before n → ⊥)
  no-wrong n = false-asks (test_of n (field_rows p s at before)) (field-wrong n)

  pub faultless : (field_fault p s at before ≡ 0) ↔ Faultless p s at before
  faultless = (λ e n. (no-wrong n).0 ((no_rows p s at before).0 e n), λ f. (no_rows p s at before).1 (λ n. (no-wrong n).1 (f n)))

  pub has-fault : (n : ℕ) → ((field_fault p s at before ≡ n) × (n ≢ 0)) ↔ Fault p s at before n
  has-fault n = (
    λ h. let r = (first-row p s at before n).0 h in record { holds = (field-wrong n).0 r.holds; least = λ m l. (no-wrong m).0 (r.before m l) },
    λ f. (first-row p s at before n).1 (record { holds = (field-wrong n).1 f.holds; before = λ m l. (no-wrong m).1 (f.least m l) }),
  )
