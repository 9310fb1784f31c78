-- Laws of lists that are the same up to their order and to a relation R between their elements.
use Rattle.std.specs.Prelude.{◌≡◌, ◌⊎◌, ◌&&◌, ◌||◌, suc, ◌≤◌}
use Rattle.std.proofs.Math.Path.{refl, sym, ap}
use Rattle.std.proofs.Common.{◌∙◌, inl, inr, arith}
use mathlib.Core.List.Memᴰ
use mathlib.Core.List.{List, [], ◌∷◌, ◌++◌, map, flat_map, head?, Memᴰ}
use Rattle.std.proofs.Math.Option
use Rattle.std.proofs.Math.Option.{some}
use Rattle.std.proofs.Math.Bool.{Bool, true, false, cond, or_assoc, or_comm, and_assoc, and_comm}
use Rattle.std.proofs.Math.ListN.{length, length-append}
use Rattle.lists.specs.Search.{any, all, keep, find, repeats}
use Rattle.lists.specs.Order.{Shuffled, done, next, swap, then}
use Rattle.lists.specs.laws.Search.{any_same}

-- f does not tell elements apart that R relates
abbrev pub Respects : {A B : Type 0} → (A → A → Type 0) → (A → B) → Type 0
Respects {A} R f = (x y : A) → R x y → f x ≡ f y

pub eq-respects : {A B : Type 0} (f : A → B) → Respects ◌≡◌ f
eq-respects f x y e = ap f e

either_first : (a b d : Bool) → a || (b || d) ≡ b || (a || d)
either_first a b d = sym (or_assoc a b d) ∙ ap (λ z. z || d) (or_comm a b) ∙ or_assoc b a d

both_first : (a b d : Bool) → a && (b && d) ≡ b && (a && d)
both_first a b d = sym (and_assoc a b d) ∙ ap (λ z. z && d) (and_comm a b) ∙ and_assoc b a d

module _ {A : Type 0} {R : A → A → Type 0} where
  -- What does not change with one element put for a related one, nor with two neighbours changed about, is the same for
  -- shuffled lists.
  pub same-value : {B : Type 0} (f : List A → B)
      → ((x y : A) (xs ys : List A) → R x y → Shuffled R xs ys → f xs ≡ f ys → f (x ∷ xs) ≡ f (y ∷ ys))
      → ((x y : A) (xs : List A) → f (x ∷ y ∷ xs) ≡ f (y ∷ x ∷ xs))
      → {xs ys : List A} → Shuffled R xs ys → f xs ≡ f ys
  same-value f n s done = refl
  same-value f n s (next {x} {y} {xs} {ys} r h) = n x y xs ys r h (same-value f n s h)
  same-value f n s (swap x y xs) = s x y xs
  same-value f n s (then h k) = same-value f n s h ∙ same-value f n s k

  -- every member of the second list has a property that every member of the first has
  pub each-shuffled : (P : A → Type 0) → ((x y : A) → R x y → P x → P y) → {xs ys : List A} → Shuffled R xs ys
      → ((x : A) → Memᴰ x xs → P x) → (y : A) → Memᴰ y ys → P y
  each-shuffled P c done h y m = h y m
  each-shuffled P c (next {x = a} {y = b} {xs} {ys} r s) h y m = go (each-shuffled P c s (λ x n. h x (Memᴰ.tail n)) y) (Memᴰ.cases_cons m)
    where
      go : (Memᴰ y ys → P y) → (y ≡ b) ⊎ Memᴰ y ys → P y
      go ih (inl e) = rw e (c a b r (h a (Memᴰ.head refl)))
      go ih (inr n) = ih n
  each-shuffled P c (swap a b xs) h y m = go (Memᴰ.cases_cons m)
    where
      on : (y ≡ a) ⊎ Memᴰ y xs → P y
      on (inl e) = h y (Memᴰ.head e)
      on (inr n) = h y (Memᴰ.tail (Memᴰ.tail n))

      go : (y ≡ b) ⊎ Memᴰ y (a ∷ xs) → P y
      go (inl e) = h y (Memᴰ.tail (Memᴰ.head e))
      go (inr n) = on (Memᴰ.cases_cons n)
  each-shuffled P c (then s t) h y m = each-shuffled P c t (each-shuffled P c s h) y m

  pub shuffled-length : {xs ys : List A} → Shuffled R xs ys → length xs ≡ length ys
  shuffled-length = same-value length (λ x y xs ys r s e. ap suc e) (λ x y xs. refl)

  pub shuffled-sym : ((x y : A) → R x y → R y x) → {xs ys : List A} → Shuffled R xs ys → Shuffled R ys xs
  shuffled-sym c done = done
  shuffled-sym c (next {x} {y} r s) = next (c x y r) (shuffled-sym c s)
  shuffled-sym c (swap x y xs) = swap y x xs
  shuffled-sym c (then s t) = then (shuffled-sym c t) (shuffled-sym c s)

  pub shuffled-map : {B : Type 0} {S : B → B → Type 0} (f : A → B) → ((x y : A) → R x y → S (f x) (f y))
      → {xs ys : List A} → Shuffled R xs ys → Shuffled S (map f xs) (map f ys)
  shuffled-map f c done = done
  shuffled-map f c (next {x} {y} r s) = next (c x y r) (shuffled-map f c s)
  shuffled-map f c (swap x y xs) = swap (f x) (f y) (map f xs)
  shuffled-map f c (then s t) = then (shuffled-map f c s) (shuffled-map f c t)

  -- for a relation in which everything is related to itself
  module _ (i : (x : A) → R x x) where
    pub shuffled-refl : (xs : List A) → Shuffled R xs xs
    shuffled-refl [] = done
    shuffled-refl (x ∷ xs) = next (i x) (shuffled-refl xs)

    -- appends
    pub shuffled-behind : (us : List A) {xs ys : List A} → Shuffled R xs ys → Shuffled R (us ++ xs) (us ++ ys)
    shuffled-behind [] s = s
    shuffled-behind (u ∷ us) s = next (i u) (shuffled-behind us s)

    pub shuffled-append : {xs ys us vs : List A} → Shuffled R xs ys → Shuffled R us vs → Shuffled R (xs ++ us) (ys ++ vs)
    shuffled-append done h = h
    shuffled-append (next r s) h = next r (shuffled-append s h)
    shuffled-append {us} {vs} (swap x y xs) h = then (swap x y (xs ++ us)) (shuffled-behind (y ∷ x ∷ xs) h)
    shuffled-append {us} {vs} (then s t) h = then (shuffled-append s h) (shuffled-append t (shuffled-refl vs))

    -- the first element may as well stand in the middle
    pub shuffled-middle : (us : List A) (x : A) (xs : List A) → Shuffled R (x ∷ (us ++ xs)) (us ++ (x ∷ xs))
    shuffled-middle [] x xs = shuffled-refl (x ∷ xs)
    shuffled-middle (u ∷ us) x xs = then (swap x u (us ++ xs)) (next (i u) (shuffled-middle us x xs))

  -- a list of one element has no other order
  pub short-shuffled : {B : Type 0} (f : A → B) → Respects R f → {xs ys : List A} → Shuffled R xs ys → length xs ≤ 1 → map f xs ≡ map f ys
  short-shuffled f c done l = refl
  short-shuffled f c (next {x} {y} {xs} {ys} r s) l = rw (c x y r, short-shuffled f c s (omega arith))
  short-shuffled f c (swap x y xs) l = absurd (omega arith)
  short-shuffled f c (then s u) l = short-shuffled f c s l ∙ short-shuffled f c u (omega (arith, shuffled-length s))

  -- tests
  module _ (t : A → Bool) (c : Respects R t) where
    pub any-shuffled : {xs ys : List A} → Shuffled R xs ys → any t xs ≡ any t ys
    unfolding any
    any-shuffled = same-value (any t) (λ x y xs ys r s e. rw (c x y r, e)) (λ x y xs. either_first (t x) (t y) (any t xs))

    pub all_shuffled : {xs ys : List A} → Shuffled R xs ys → all t xs ≡ all t ys
    unfolding all
    all_shuffled = same-value (all t) (λ x y xs ys r s e. rw (c x y r, e)) (λ x y xs. both_first (t x) (t y) (all t xs))

    pub keep-shuffled : {xs ys : List A} → Shuffled R xs ys → ((x : A) → R x x) → Shuffled R (keep t xs) (keep t ys)
    unfolding keep
    keep-shuffled done i = done
    keep-shuffled (next {x} {y} {xs} {ys} r s) i = rw (c x y r) (go (t y) (keep-shuffled s i))
      where
        go : (b : Bool) → Shuffled R (keep t xs) (keep t ys) → Shuffled R (cond b (x ∷ keep t xs) (keep t xs)) (cond b (y ∷ keep t ys) (keep t ys))
        go true h = next r h
        go false h = h
    keep-shuffled (swap x y xs) i = go (t x) (t y) (shuffled-refl i (keep t xs))
      where
        front : Bool → A → List A → List A
        front b z zs = cond b (z ∷ zs) zs

        go : (a b : Bool) → Shuffled R (keep t xs) (keep t xs) → Shuffled R (front a x (front b y (keep t xs))) (front b y (front a x (keep t xs)))
        go true true h = swap x y (keep t xs)
        go true false h = next (i x) h
        go false true h = next (i y) h
        go false false h = h
    keep-shuffled (then s u) i = then (keep-shuffled s i) (keep-shuffled u i)

    -- what is found, where at most one passes
    pub find-shuffled : {B : Type 0} (f : A → B) → Respects R f → ((x : A) → R x x) → {xs ys : List A} → Shuffled R xs ys
        → length (keep t xs) ≤ 1 → Option.map f (find t xs) ≡ Option.map f (find t ys)
    unfolding find keep
    find-shuffled f d i {xs} {ys} s l = first xs ∙ ap head? (short-shuffled f d (keep-shuffled s i) l) ∙ sym (first ys)
      where
        first : (zs : List A) → Option.map f (find t zs) ≡ head? (map f (keep t zs))
        first [] = refl
        first (z ∷ zs) = go (t z) (first zs)
          where
            go : (b : Bool) → Option.map f (find t zs) ≡ head? (map f (keep t zs))
                → Option.map f (cond b (some z) (find t zs)) ≡ head? (map f (cond b (z ∷ keep t zs) (keep t zs)))
            go true e = refl
            go false e = e

  -- whether an element stands before one that is the same
  pub repeats-shuffled : (same : A → A → Bool) → ((x y : A) → same x y ≡ same y x) → ((z : A) → Respects R (same z))
      → {xs ys : List A} → Shuffled R xs ys → repeats same xs ≡ repeats same ys
  unfolding repeats any
  repeats-shuffled same b c = same-value (repeats same) front (λ x y xs. rw (b x y) (change (same y x) (any (same x) xs) (any (same y) xs) (repeats same xs)))
    where
      front : (x y : A) (xs ys : List A) → R x y → Shuffled R xs ys → repeats same xs ≡ repeats same ys → repeats same (x ∷ xs) ≡ repeats same (y ∷ ys)
      front x y xs ys r s e = rw (any_same (same x) (same y) xs (λ z m. b x z ∙ c z x y r ∙ b z y), any-shuffled (same y) (c y) s, e)

      change : (d e f g : Bool) → d || e || (f || g) ≡ d || f || (e || g)
      change true e f g = refl
      change false e f g = either_first e f g

  -- a list made of parts of equal lengths is as long
  pub flat-length : {B : Type 0} (g : A → List B) → Respects R (λ (x : A). length (g x)) → {xs ys : List A} → Shuffled R xs ys
      → length (flat_map g xs) ≡ length (flat_map g ys)
  unfolding flat_map
  flat-length g c = same-value (λ xs. length (flat_map g xs))
      (λ x y xs ys r s e. simp length-append (omega (arith, c x y r)))
      (λ x y xs. simp length-append (omega arith))

-- in another order, and with a related element for each
pub shuffled-each : {A : Type 0} {R : A → A → Type 0} → ((x : A) → R x x) → (f : A → A) {xs ys : List A} → Shuffled ◌≡◌ xs ys
    → ((x : A) → Memᴰ x xs → R x (f x)) → Shuffled R xs (map f ys)
shuffled-each {A} {R} i f {xs} s h = then (each xs h) (shuffled-map f (λ x y e. rw e (i (f y))) s)
  where
    each : (zs : List A) → ((x : A) → Memᴰ x zs → R x (f x)) → Shuffled R zs (map f zs)
    each [] k = done
    each (z ∷ zs) k = next (k z (Memᴰ.head refl)) (each zs (λ y m. k y (Memᴰ.tail m)))
