-- An array with a cell for each row and each number below 64, which has what g says of the item with the row's initiator and that number:
-- all 0 where there is nothing to say, and with one item more one cell is stored anew.
use Rattle.std.specs.Prelude.{◌≡◌, refl, List, [], ◌∷◌, ◌++◌, Bool, true, false, ◌&&◌, ℕ, ◌+◌, ◌*◌, ◌/◌, ◌%◌, ◌<◌, set, eqb}
use Rattle.std.proofs.Common.{sym, ap, ◌∙◌, arith, eqb-true, eq-eqb}
use Rattle.std.proofs.Math.Option.{Option, none, some}
use Rattle.lists.specs.Search.{any, find}
use Rattle.lists.specs.Place.{at_place}
use Rattle.lists.specs.Cells.{cells}
use Rattle.lists.specs.laws.Bools.{both_true, true-both}
use Rattle.lists.specs.laws.Cells.{cells_same, cells-set}
use Rattle.lists.specs.laws.More.{find-more, find-same}
use Rattle.rules_plan.specs.Plan.{Plan}
use Rattle.rules_plan.specs.Meaning.{initiators}
use Rattle.memory_plan.specs.Memory.{of_row}
use Rattle.memory_plan.specs.laws.InRows.{of_row_lem, of-no-row}
use Rattle.memory_plan.specs.laws.Among.{row-once}

pub no_cells : (p : Plan) (size : ℕ) (row key : ℕ → ℕ) (f : ℕ → ℕ → ℕ) → ((i v : ℕ) → f i v ≡ 0)
    → cells size (λ (n : ℕ). of_row p (row n) (λ (i : ℕ). f i (key n))) ≡ cells size (λ (n : ℕ). 0)
no_cells p size row key f none_said = cells_same size _ _ 0 (λ n h. here (row n) (key n))
  where
    here : (r v : ℕ) → of_row p r (λ (i : ℕ). f i v) ≡ 0
    here r v = go (at_place r (initiators p)) refl
      where
        go : (o : Option ℕ) → at_place r (initiators p) ≡ o → of_row p r (λ (i : ℕ). f i v) ≡ 0
        go none e = of-no-row p r _ e
        go (some i) e = of_row_lem p r i _ e ∙ none_said i v

-- what is said differs in the cell of one row and one number only: that cell is stored anew
pub cell_set : (p : Plan) (f g : ℕ → ℕ → ℕ) (r i v : ℕ) → at_place r (initiators p) ≡ some i → r < 8 → v < 64 → ((j w : ℕ) → ((j ≡ i) × (w ≡ v) → ⊥) → f j w ≡ g j w)
    → set (cells 512 (λ (n : ℕ). of_row p (n / 64) (λ (j : ℕ). f j (n % 64)))) (r * 64 + v) (g i v) ≡ cells 512 (λ (n : ℕ). of_row p (n / 64) (λ (j : ℕ). g j (n % 64)))
cell_set p f g r i v row short below same = cells-set 512 _ _ 0 (r * 64 + v) (g i v) (omega arith) here (λ n _ s. other n s)
  where
    here : g i v ≡ of_row p ((r * 64 + v) / 64) (λ (j : ℕ). g j ((r * 64 + v) % 64))
    here =
        let e : (r * 64 + v) / 64 ≡ r = omega arith in
        let h : (r * 64 + v) % 64 ≡ v = omega arith in
        rw (e, h) (sym (of_row_lem p r i _ row))

    other : (n : ℕ) → (n ≡ r * 64 + v → ⊥) → of_row p (n / 64) (λ (j : ℕ). f j (n % 64)) ≡ of_row p (n / 64) (λ (j : ℕ). g j (n % 64))
    other n s = go (at_place (n / 64) (initiators p)) refl
      where
        go : (o : Option ℕ) → at_place (n / 64) (initiators p) ≡ o → of_row p (n / 64) (λ (j : ℕ). f j (n % 64)) ≡ of_row p (n / 64) (λ (j : ℕ). g j (n % 64))
        go none h = of-no-row p (n / 64) _ h ∙ sym (of-no-row p (n / 64) _ h)
        go (some j) h =
            of_row_lem p (n / 64) j _ h
            ∙ same j (n % 64) (λ e. s (omega (arith, row-once p (n / 64) r i (h ∙ ap some e.0) row, e.1)))
            ∙ sym (of_row_lem p (n / 64) j _ h)

module _ {A : Type 0} (g : Option A → ℕ) (a b : A → ℕ) (p : Plan) where
  abbrev is : ℕ → ℕ → A → Bool
  is i v y = eqb i (a y) && eqb v (b y)

  abbrev pub row_cells : List A → List ℕ
  row_cells xs = cells 512 (λ (n : ℕ). of_row p (n / 64) (λ (i : ℕ). g (find (λ (y : A). eqb i (a y) && eqb (n % 64) (b y)) xs)))

  module _ (r : ℕ) (xs : List A) (y : A) (row : at_place r (initiators p) ≡ some (a y)) (short : r < 8) (below : b y < 64)
      (free : any (λ (x : A). eqb (a y) (a x) && eqb (b y) (b x)) xs ≡ false) where
    -- in another cell there is another initiator or another number
    kept : (i v : ℕ) → ((i ≡ a y) × (v ≡ b y) → ⊥) → (t : Bool) → is i v y ≡ t → find (is i v) xs ≡ find (is i v) (xs ++ (y ∷ []))
    kept i v s true t = let (c, d) = both_true (eqb i (a y)) (eqb v (b y)) t in absurd (s (eqb-true i (a y) c, eqb-true v (b y) d))
    kept i v s false t = sym (find-same (is i v) xs y t)

    pub cell-more : set (row_cells xs) (r * 64 + b y) (g (some y)) ≡ row_cells (xs ++ (y ∷ []))
    cell-more =
        let here = find-more (is (a y) (b y)) xs y free (true-both (eq-eqb (a y) (a y) refl) (eq-eqb (b y) (b y) refl)) in
        ap (set (row_cells xs) (r * 64 + b y)) (ap g (sym here))
        ∙ cell_set p (λ i v. g (find (is i v) xs)) (λ i v. g (find (is i v) (xs ++ (y ∷ [])))) r (a y) (b y) row short below (λ i v s. ap g (kept i v s (is i v y) refl))
