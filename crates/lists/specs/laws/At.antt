-- Laws of the element at a place: it is a member, each member has a place, and a list with no repetitions has it at one place only.
use Rattle.std.specs.Prelude.{◌≡◌, Bool, true, false, length, get_or, set, eqb}
use Rattle.std.proofs.Math.Path.{refl}
use Rattle.std.proofs.Common.{sym, ap, ap₂, ◌∙◌, eq-eqb}
use mathlib.Core.List.{List, [], ◌∷◌, ◌++◌, map, Memᴰ}
use Rattle.std.proofs.Math.Option.{none, some}
use Prim.Native.Nat.{ℕ, zero, suc, ◌≤◌, ◌<◌}
use native.Mathlib.Omega.{arith}
use Rattle.std.proofs.Math.Decide.{dec_lt}
use Rattle.lists.specs.Search.{any, repeats, twice}
use Rattle.lists.specs.Place.{at_place}
use Rattle.lists.specs.laws.Bools.{neither, not-both, none-some, some-some}
use Rattle.lists.specs.laws.Search.{any-intro}

module _ {A : Type 0} where
  -- what stands at a place is a member, and a member stands at a place
  pub at-member : (xs : List A) (k : ℕ) (x : A) → at_place k xs ≡ some x → Memᴰ x xs
  unfolding at_place
  at-member [] k x h = none-some h
  at-member (y ∷ ys) zero x h = Memᴰ.head (sym (some-some h))
  at-member (y ∷ ys) (suc k) x h = Memᴰ.tail (at-member ys k x h)

  pub member-at : (xs : List A) (x : A) → Memᴰ x xs → (k : ℕ) × (k < length xs) × (at_place k xs ≡ some x)
  unfolding at_place
  member-at [] x x3 = elim x3 [ ]
  member-at (y ∷ ys) x (Memᴰ.head e) = (0, omega arith, rw e)
  member-at (y ∷ ys) x (Memᴰ.tail m) = let (k, l, h) = member-at ys x m in (suc k, omega arith, h)

  -- there is one at each place before the end, and none from there on
  pub at_some : (xs : List A) (k : ℕ) → k < length xs → (x : A) × (at_place k xs ≡ some x)
  unfolding at_place
  at_some [] k h = absurd (omega arith)
  at_some (x ∷ xs) zero h = (x, refl)
  at_some (x ∷ xs) (suc k) h = at_some xs k (omega arith)

  pub at_none : (xs : List A) (k : ℕ) → length xs ≤ k → at_place k xs ≡ none
  unfolding at_place
  at_none [] k h = refl
  at_none (x ∷ xs) zero h = absurd (omega arith)
  at_none (x ∷ xs) (suc k) h = at_none xs k (omega arith)

  pub at-within : (xs : List A) (k : ℕ) (x : A) → at_place k xs ≡ some x → k < length xs
  at-within xs k x h = go (dec_lt k (length xs))
    where
      go : Dec (k < length xs) → k < length xs
      go (yes l) = l
      go (no l) = none-some (sym (at_none xs k (omega arith)) ∙ h)

  -- the same of what is read at a place, with something to give beyond the end
  pub read_at : (xs : List A) (k : ℕ) (x d : A) → at_place k xs ≡ some x → get_or xs k d ≡ x
  unfolding at_place
  read_at [] k x d h = none-some h
  read_at (y ∷ ys) zero x d h = some-some h
  read_at (y ∷ ys) (suc k) x d h = read_at ys k x d h

  pub place_at : (xs : List A) (k : ℕ) (d : A) → k < length xs → at_place k xs ≡ some (get_or xs k d)
  place_at xs k d h = let (x, at) = at_some xs k h in at ∙ ap some (sym (read_at xs k x d at))

  pub read-member : (xs : List A) (k : ℕ) (d : A) → k < length xs → Memᴰ (get_or xs k d) xs
  read-member xs k d h = at-member xs k (get_or xs k d) (place_at xs k d h)

  pub member-read : (xs : List A) (x d : A) → Memᴰ x xs → (k : ℕ) × (k < length xs) × (get_or xs k d ≡ x)
  member-read xs x d m = let (k, l, at) = member-at xs x m in (k, l, read_at xs k x d at)

-- what stands before, at and behind the place of x
pub at_split : {A : Type 0} (us : List A) (x : A) (vs : List A) (k : ℕ) (y : A) → at_place k (us ++ (x ∷ vs)) ≡ some y
    → (k < length us → Memᴰ y us) × (k ≡ length us → y ≡ x) × (length us < k → Memᴰ y vs)
unfolding at_place
at_split [] x vs zero y e = (λ h. absurd (omega arith), λ h. sym (some-some e), λ h. absurd (omega arith))
at_split [] x vs (suc k) y e = (λ h. absurd (omega arith), λ h. absurd (omega arith), λ h. at-member vs k y e)
at_split (u ∷ us) x vs zero y e = (λ h. Memᴰ.head (sym (some-some e)), λ h. absurd (omega arith), λ h. absurd (omega arith))
at_split (u ∷ us) x vs (suc k) y e =
    let (a, b, c) = at_split us x vs k y e in
    (λ h. Memᴰ.tail (a (omega arith)), λ h. b (omega arith), λ h. c (omega arith))

-- elements that are the same stand at one place, where none stands before one that is the same
pub same_place : {A : Type 0} (same : A → A → Bool) (xs : List A) (j k : ℕ) (x y : A) → repeats same xs ≡ false → at_place j xs ≡ some x → at_place k xs ≡ some y
    → same x y ≡ true → same y x ≡ true → j ≡ k
unfolding at_place repeats
same_place same [] j k x y h e f s t = none-some e
same_place same (z ∷ zs) zero zero x y h e f s t = refl
same_place same (z ∷ zs) zero (suc k) x y h e f s t = not-both (any-intro (same z) zs y (at-member zs k y f) (rw (some-some e) s)) (neither (any (same z) zs) (repeats same zs) h).0
same_place same (z ∷ zs) (suc j) zero x y h e f s t = not-both (any-intro (same z) zs x (at-member zs j x e) (rw (some-some f) t)) (neither (any (same z) zs) (repeats same zs) h).0
same_place same (z ∷ zs) (suc j) (suc k) x y h e f s t = ap suc (same_place same zs j k x y (neither (any (same z) zs) (repeats same zs) h).1 e f s t)

pub place-once : (xs : List ℕ) (j k x : ℕ) → twice xs ≡ false → at_place j xs ≡ some x → at_place k xs ≡ some x → j ≡ k
unfolding twice
place-once xs j k x h e f = same_place eqb xs j k x x h e f (eq-eqb x x refl) (eq-eqb x x refl)

pub at_map : {A B : Type 0} (f : A → B) (xs : List A) (k : ℕ) (x : A) → at_place k xs ≡ some x → at_place k (map f xs) ≡ some (f x)
unfolding at_place
at_map f [] k x e = none-some e
at_map f (y ∷ ys) zero x e = ap some (ap f (some-some e))
at_map f (y ∷ ys) (suc k) x e = at_map f ys k x e

-- what two functions give for each element, where they differ at one place only
pub map-set : {A B : Type 0} (f g : A → B) (xs : List A) (k : ℕ) (x : A) → at_place k xs ≡ some x → ((j : ℕ) (y : A) → at_place j xs ≡ some y → (j ≡ k → ⊥) → f y ≡ g y)
    → map g xs ≡ set (map f xs) k (g x)
unfolding at_place
map-set f g [] k x e h = none-some e
map-set {A} f g (y ∷ ys) zero x e h = ap₂ ◌∷◌ (ap g (some-some e)) (all_same ys (λ j z a. h (suc j) z a (λ n. omega arith)))
  where
    all_same : (zs : List A) → ((j : ℕ) (z : A) → at_place j zs ≡ some z → f z ≡ g z) → map g zs ≡ map f zs
    all_same [] q = refl
    all_same (z ∷ zs) q = ap₂ ◌∷◌ (sym (q 0 z refl)) (all_same zs (λ j w a. q (suc j) w a))
map-set f g (y ∷ ys) (suc k) x e h = ap₂ ◌∷◌ (sym (h 0 y refl (λ n. omega arith))) (map-set f g ys k x e (λ j z a n. h (suc j) z a (λ m. n (omega arith))))
