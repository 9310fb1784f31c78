-- Laws of cells: their number, each cell, a store, and lists that agree in each cell.
use Rattle.std.specs.Prelude.{◌≡◌, List, map, cond, eqb, get_or, set, replicate}
use Rattle.std.proofs.Math.Path.{refl, ap}
use Rattle.std.proofs.Common.{sym, ◌∙◌, arith, eq-eqb, ne_eqb, length-set, ext_get_or, get_or-set_same, get_or-set_other}
use Prim.Native.Nat.{ℕ, zero, suc, ◌+◌, ◌-◌, ◌≤◌, ◌<◌}
use Rattle.std.proofs.Math.Decide.{ℕ_discrete}
use Rattle.std.proofs.Math.ListN.{length, length-append, length-replicate}
use Rattle.lists.specs.Search.{up_from}
use Rattle.lists.specs.Cells.{cells, padded}

module _ {A : Type 0} where
  mapped-length : (k i : ℕ) (f : ℕ → A) → length (map f (up_from k i)) ≡ k
  unfolding up_from
  mapped-length zero i f = refl
  mapped-length (suc k) i f = ap suc (mapped-length k (suc i) f)

  mapped_at : (k i j : ℕ) (f : ℕ → A) (d : A) → j < k → get_or (map f (up_from k i)) j d ≡ f (i + j)
  unfolding up_from
  mapped_at zero i j f d h = absurd (omega arith)
  mapped_at (suc k) i zero f d h = ap f (omega arith)
  mapped_at (suc k) i (suc j) f d h = mapped_at k (suc i) j f d (omega arith) ∙ ap f (omega arith)

  pub length-cells : (n : ℕ) (f : ℕ → A) → length (cells n f) ≡ n
  unfolding cells
  length-cells n f = mapped-length n 0 f

  pub cell_at : (n : ℕ) (f : ℕ → A) (i : ℕ) (d : A) → i < n → get_or (cells n f) i d ≡ f i
  unfolding cells
  cell_at n f i d h = mapped_at n 0 i f d h ∙ ap f (omega arith)

  -- a list of n elements, each of which is what f says
  pub cells_are : (n : ℕ) (f : ℕ → A) (d : A) (xs : List A) → length xs ≡ n → ((i : ℕ) → i < n → get_or xs i d ≡ f i) → xs ≡ cells n f
  cells_are n f d xs e h =
      ext_get_or d xs (cells n f) (e ∙ sym (length-cells n f))
      (λ i l. h i (omega arith) ∙ sym (cell_at n f i d (omega arith)))

  pub cells_same : (n : ℕ) (f g : ℕ → A) (d : A) → ((i : ℕ) → i < n → f i ≡ g i) → cells n f ≡ cells n g
  cells_same n f g d h = cells_are n g d (cells n f) (length-cells n f) (λ i l. cell_at n f i d l ∙ h i l)

  -- one cell stored anew: the others are as they were
  pub cells-set : (n : ℕ) (f g : ℕ → A) (d : A) (i : ℕ) (x : A) → i < n → x ≡ g i → ((j : ℕ) → j < n → (j ≡ i → ⊥) → f j ≡ g j) → set (cells n f) i x ≡ cells n g
  cells-set n f g d i x h e others =
      cells_are n g d (set (cells n f) i x) (length-set (cells n f) i x ∙ length-cells n f) (λ j l. at j l (ℕ_discrete j i))
    where
      at : (j : ℕ) → j < n → Dec (j ≡ i) → get_or (set (cells n f) i x) j d ≡ g j
      at j l (yes s) =
          ap (λ (k : ℕ). get_or (set (cells n f) i x) k d) s ∙ get_or-set_same (cells n f) i x d (omega (arith, length-cells n f))
          ∙ e ∙ ap g (sym s)
      at j l (no s) = get_or-set_other (cells n f) i j x d s ∙ cell_at n f j d l ∙ others j l s

  pub length-padded : (n : ℕ) (d : A) (xs : List A) → length xs ≤ n → length (padded n d xs) ≡ n
  unfolding padded
  length-padded n d xs h = length-append xs (replicate (n - length xs) d) ∙ omega (arith, length-replicate (n - length xs) d)

-- two cells stored anew, one after the other
-- the two are what g says, and so are the others: the list is that of g
pub cells-set-two : {A : Type 0} (n : ℕ) (f g : ℕ → A) (d : A) (i j : ℕ) (x y : A) → i < n → j < n → (i ≡ j → ⊥) → x ≡ g i → y ≡ g j
    → ((k : ℕ) → k < n → (k ≡ i → ⊥) → (k ≡ j → ⊥) → f k ≡ g k) → set (set (cells n f) i x) j y ≡ cells n g
cells-set-two {A} n f g d i j x y hi hj apart ei ej others =
    ap (λ l. set l j y) (cells-set n f h d i x hi (sym stored) (λ k _ s. sym (kept k s)))
    ∙ cells-set n h g d j y hj ej (λ k l s. at k l s (ℕ_discrete k i))
  where
    -- after the first store
    h : ℕ → A
    h k = cond (eqb k i) x (f k)

    stored : h i ≡ x
    stored = rw (eq-eqb i i refl)

    kept : (k : ℕ) → (k ≡ i → ⊥) → h k ≡ f k
    kept k s = rw (ne_eqb k i s)

    at : (k : ℕ) → k < n → (k ≡ j → ⊥) → Dec (k ≡ i) → h k ≡ g k
    at k l s (yes e) = rw e (stored ∙ ei)
    at k l s (no e) = kept k e ∙ others k l e s
