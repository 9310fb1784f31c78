-- The row of an initiator in memory, where it has one and where it has none.
use Rattle.std.specs.Prelude.{◌≡◌, refl, ◌≢◌, ℕ, ◌+◌, set}
use Rattle.std.proofs.Common.{sym, ap, ◌∙◌, arith, eq-eqb, ne_eqb}
use mathlib.Core.List.{List, [], ◌∷◌}
use Rattle.std.proofs.Math.Seq.{get_or-set_other}
use Rattle.lists.specs.Insert.{put_in}
use Rattle.lists.specs.laws.Bools.{cond_cases}
use Rattle.rules_plan.specs.Plan.{nth}
use Rattle.memory_plan.specs.Rows.{row_among}
use Rattle.load_path_places.specs.Places.{row_place, is_new, own_row, with_row, with_count}

module _ (rows : List ℕ) (count i : ℕ) (d : row_among rows count i ≢ count) where
  pub old_row : own_row rows count i ≡ row_among rows count i
  unfolding own_row
  old_row = rw (ne_eqb (row_among rows count i) count d)

  pub old-array : (v : ℕ) (xs : List ℕ) → with_row rows count i v xs ≡ xs
  unfolding with_row
  old-array v xs = rw (ne_eqb (row_among rows count i) count d)

module _ (rows : List ℕ) (count i : ℕ) (e : row_among rows count i ≡ count) where
  pub new_row : own_row rows count i ≡ row_place rows count i
  unfolding own_row
  new_row = rw (eq-eqb (row_among rows count i) count e)

  pub new-array : (v : ℕ) (xs : List ℕ) → with_row rows count i v xs ≡ put_in (row_place rows count i) count (v ∷ []) xs
  unfolding with_row
  new-array v xs = rw (eq-eqb (row_among rows count i) count e)

  -- a row that was made where none was found
  module _ (row r : ℕ) (q : row ≡ count) (f : r ≡ row_place rows row i) where
    pub made_row : r ≡ own_row rows count i
    made_row = f ∙ ap (λ n. row_place rows n i) q ∙ sym new_row

    pub made_array : (v : ℕ) (xs ys : List ℕ) → ys ≡ put_in r row (v ∷ []) xs → ys ≡ with_row rows count i v xs
    made_array v xs ys g = g ∙ ap (λ n. put_in r n (v ∷ []) xs) q ∙ ap (λ n. put_in n count (v ∷ []) xs) (made_row ∙ new_row) ∙ sym (new-array v xs)

module _ (rows numbers : List ℕ) (i : ℕ) where
  pub old-count : row_among rows (nth numbers 2) i ≢ nth numbers 2 → with_count rows numbers i ≡ numbers
  unfolding with_count
  old-count d = rw (ne_eqb (row_among rows (nth numbers 2) i) (nth numbers 2) d)

  pub new-count : row_among rows (nth numbers 2) i ≡ nth numbers 2 → with_count rows numbers i ≡ set numbers 2 (nth numbers 2 + 1)
  unfolding with_count
  new-count e = rw (eq-eqb (row_among rows (nth numbers 2) i) (nth numbers 2) e)

  pub count-keeps : nth (with_count rows numbers i) 3 ≡ nth numbers 3
  unfolding with_count
  count-keeps = cond_cases (λ (l : List ℕ). nth l 3 ≡ nth numbers 3) (is_new rows (nth numbers 2) i) (set numbers 2 (nth numbers 2 + 1)) numbers
      (λ _. get_or-set_other numbers 2 3 (nth numbers 2 + 1) 0 (omega arith)) (λ _. refl)
