-- Laws of the tests over lists and of the searches: what a test that holds has found, and what a search that found nothing rules out.
use Rattle.std.specs.Prelude.{◌≡◌, ◌⊎◌, Bool, ◌||◌, eqb}
use Rattle.std.proofs.Math.Path.{refl}
use Rattle.std.proofs.Common.{sym, ap, ◌∙◌, inl, inr, eqb-true, eq-eqb}
use mathlib.Core.List.Memᴰ
use mathlib.Core.List.{List, [], ◌∷◌, ◌++◌, flat_map, Memᴰ}
use Rattle.std.proofs.Math.Option.{Option, none, some}
use Rattle.std.proofs.Math.Bool.{true, false, cond, or-false, or_comm, or-true}
use Prim.Native.Nat.{ℕ, zero, suc, ◌+◌, ◌≤◌, ◌<◌}
use native.Mathlib.Omega.{arith}
use Rattle.std.proofs.Math.Decide.{ℕ_discrete}
use Rattle.std.proofs.Math.ListN.{length}
use Rattle.lists.specs.Search.{any, all, keep, find, only, is_in, up_from, below64, seek, least}
use Rattle.lists.specs.laws.Bools.{both_true, neither, false-either, not-both, cond_cases, none-some}

module _ {A : Type 0} (t : A → Bool) where
  -- any
  pub any-elim : (xs : List A) → any t xs ≡ true → (x : A) × Memᴰ x xs × (t x ≡ true)
  unfolding any
  any-elim [] e = not-both e refl
  any-elim (x ∷ xs) e = go (any-elim xs) (t x) refl
    where
      go : (any t xs ≡ true → (y : A) × Memᴰ y xs × (t y ≡ true)) → (b : Bool) → t x ≡ b → (y : A) × Memᴰ y (x ∷ xs) × (t y ≡ true)
      go ih true h = (x, Memᴰ.head refl, h)
      go ih false h = let (y, m, g) = ih (cc) in (y, Memᴰ.tail m, g)

  pub any-intro : (xs : List A) (x : A) → Memᴰ x xs → t x ≡ true → any t xs ≡ true
  unfolding any
  any-intro [] x x4 e = elim x4 [ ]
  any-intro (y ∷ ys) x (Memᴰ.head h) e = rw (← h, e)
  any-intro (y ∷ ys) x (Memᴰ.tail m) e = rw (any-intro ys x m e) (or-true (t y))

  pub any_false : (xs : List A) (x : A) → any t xs ≡ false → Memᴰ x xs → t x ≡ false
  unfolding any
  any_false [] x h x4 = elim x4 [ ]
  any_false (y ∷ ys) x h (Memᴰ.head e) = rw e (neither (t y) (any t ys) h).0
  any_false (y ∷ ys) x h (Memᴰ.tail m) = any_false ys x (neither (t y) (any t ys) h).1 m

  pub any_none : (xs : List A) → ((x : A) → Memᴰ x xs → t x ≡ false) → any t xs ≡ false
  unfolding any
  any_none [] h = refl
  any_none (x ∷ xs) h = false-either (h x (Memᴰ.head refl)) (any_none xs (λ y m. h y (Memᴰ.tail m)))

  pub any_append : (xs ys : List A) → any t (xs ++ ys) ≡ any t xs || any t ys
  unfolding any
  any_append [] ys = refl
  any_append (x ∷ xs) ys = go (t x) (any_append xs ys)
    where
      go : (b : Bool) → any t (xs ++ ys) ≡ any t xs || any t ys → b || any t (xs ++ ys) ≡ b || any t xs || any t ys
      go true e = refl
      go false e = e

  -- all
  pub all-elim : (xs : List A) (x : A) → all t xs ≡ true → Memᴰ x xs → t x ≡ true
  unfolding all
  all-elim [] x h x4 = elim x4 [ ]
  all-elim (y ∷ ys) x h (Memᴰ.head e) = rw e (both_true (t y) (all t ys) h).0
  all-elim (y ∷ ys) x h (Memᴰ.tail m) = all-elim ys x (both_true (t y) (all t ys) h).1 m

  pub all-intro : (xs : List A) → ((x : A) → Memᴰ x xs → t x ≡ true) → all t xs ≡ true
  unfolding all
  all-intro [] h = refl
  all-intro (x ∷ xs) h = rw (h x (Memᴰ.head refl)) (all-intro xs (λ y m. h y (Memᴰ.tail m)))

  -- find
  pub find-some : (xs : List A) (x : A) → find t xs ≡ some x → Memᴰ x xs × (t x ≡ true)
  unfolding find
  find-some [] x e = none-some e
  find-some (y ∷ ys) x e = go (find-some ys x) (t y) refl
    where
      go : (find t ys ≡ some x → Memᴰ x ys × (t x ≡ true)) → (b : Bool) → t y ≡ b → Memᴰ x (y ∷ ys) × (t x ≡ true)
      go ih true h = let k : x ≡ y = cc in (Memᴰ.head k, rw k h)
      go ih false h = let r = ih (cc) in (Memᴰ.tail r.0, r.1)

  pub find_none : (xs : List A) (x : A) → find t xs ≡ none → Memᴰ x xs → t x ≡ true → ⊥
  unfolding find
  find_none [] x e x5 g = elim x5 [ ]
  find_none (y ∷ ys) x e (Memᴰ.head h) g = let k : some y ≡ none = rw (rw h at g, find) at e in none-some (sym k)
  find_none (y ∷ ys) x e (Memᴰ.tail m) g = go (find_none ys x) (t y) refl
    where
      go : (find t ys ≡ none → Memᴰ x ys → t x ≡ true → ⊥) → (b : Bool) → t y ≡ b → ⊥
      go ih true h = none-some (sym (rw (h, find) at e))
      go ih false h = ih (rw (h, find) at e) m g

  pub find-has : (xs : List A) (x : A) → Memᴰ x xs → t x ≡ true → (y : A) × (find t xs ≡ some y)
  find-has xs x m g = go (find t xs) refl
    where
      go : (o : Option A) → find t xs ≡ o → (y : A) × (find t xs ≡ some y)
      go none e = absurd (find_none xs x e m g)
      go (some y) e = (y, e)

  -- keep
  pub keep-elim : (xs : List A) (x : A) → Memᴰ x (keep t xs) → Memᴰ x xs × (t x ≡ true)
  unfolding keep
  keep-elim [] x m = absurd (Memᴰ.not-nil m)
  keep-elim (y ∷ ys) x m = go (keep-elim ys x) (t y) refl m
    where
      go : (Memᴰ x (keep t ys) → Memᴰ x ys × (t x ≡ true)) → (b : Bool) → t y ≡ b → Memᴰ x (cond b (y ∷ keep t ys) (keep t ys)) → Memᴰ x (y ∷ ys) × (t x ≡ true)
      go ih true h k = by (Memᴰ.cases_cons k)
        where
          by : (x ≡ y) ⊎ Memᴰ x (keep t ys) → Memᴰ x (y ∷ ys) × (t x ≡ true)
          by (inl e) = (Memᴰ.head e, rw e h)
          by (inr n) = let r = ih n in (Memᴰ.tail r.0, r.1)
      go ih false h k = let r = ih k in (Memᴰ.tail r.0, r.1)

  pub keep-intro : (xs : List A) (x : A) → Memᴰ x xs → t x ≡ true → Memᴰ x (keep t xs)
  unfolding keep
  keep-intro [] x x4 h = elim x4 [ ]
  keep-intro (y ∷ ys) x (Memᴰ.head e) h = rw (rw e at h) (Memᴰ.head e)
  keep-intro (y ∷ ys) x (Memᴰ.tail m) h = cond_cases (λ l. Memᴰ x l) (t y) (y ∷ keep t ys) (keep t ys) (λ _. Memᴰ.tail (keep-intro ys x m h)) (λ _. keep-intro ys x m h)

  pub keep_append : (xs ys : List A) → keep t (xs ++ ys) ≡ keep t xs ++ keep t ys
  unfolding keep
  keep_append [] ys = refl
  keep_append (x ∷ xs) ys = go (t x) (keep_append xs ys)
    where
      go : (b : Bool) → keep t (xs ++ ys) ≡ keep t xs ++ keep t ys → cond b (x ∷ keep t (xs ++ ys)) (keep t (xs ++ ys)) ≡ cond b (x ∷ keep t xs) (keep t xs) ++ keep t ys
      go true e = rw e
      go false e = e

  pub keep-none : (xs : List A) → ((x : A) → Memᴰ x xs → t x ≡ false) → keep t xs ≡ []
  unfolding keep
  keep-none [] h = refl
  keep-none (x ∷ xs) h = rw (h x (Memᴰ.head refl)) (keep-none xs (λ y m. h y (Memᴰ.tail m)))

  pub keep_all : (xs : List A) → ((x : A) → Memᴰ x xs → t x ≡ true) → keep t xs ≡ xs
  unfolding keep
  keep_all [] h = refl
  keep_all (x ∷ xs) h = rw (h x (Memᴰ.head refl), keep_all xs (λ y m. h y (Memᴰ.tail m)))

  pub keep-short : (xs : List A) → length (keep t xs) ≤ length xs
  unfolding keep
  keep-short [] = omega arith
  keep-short (x ∷ xs) = let ih = keep-short xs in cond_cases (λ (l : List A). length l ≤ suc (length xs)) (t x) (x ∷ keep t xs) (keep t xs) (λ _. omega arith) (λ _. omega arith)

-- a test over members that agree
pub any_same : {A : Type 0} (t u : A → Bool) (xs : List A) → ((x : A) → Memᴰ x xs → t x ≡ u x) → any t xs ≡ any u xs
unfolding any
any_same t u [] h = refl
any_same t u (x ∷ xs) h = rw (h x (Memᴰ.head refl), any_same t u xs (λ y m. h y (Memᴰ.tail m)))

pub keep_same : {A : Type 0} (t u : A → Bool) (xs : List A) → ((x : A) → Memᴰ x xs → t x ≡ u x) → keep t xs ≡ keep u xs
unfolding keep
keep_same t u [] h = refl
keep_same t u (x ∷ xs) h = rw (h x (Memᴰ.head refl), keep_same t u xs (λ y m. h y (Memᴰ.tail m)))

pub only-elim : {A : Type 0} (b : Bool) (x y : A) → Memᴰ x (only b y) → (b ≡ true) × (x ≡ y)
unfolding only
only-elim true x y m = (refl, Memᴰ.eq_of_singleton m)
only-elim false x y m = absurd (Memᴰ.not-nil m)

-- membership in a list that is made of parts
pub flat-elim : {A B : Type 0} (f : A → List B) (xs : List A) (y : B) → Memᴰ y (flat_map f xs) → (x : A) × Memᴰ x xs × Memᴰ y (f x)
unfolding flat_map
flat-elim f [] y m = absurd (Memᴰ.not-nil m)
flat-elim {A} f (x ∷ xs) y m = go (flat-elim f xs y) (Memᴰ.append_cases (f x) m)
  where
    go : (Memᴰ y (flat_map f xs) → (z : A) × Memᴰ z xs × Memᴰ y (f z)) → Memᴰ y (f x) ⊎ Memᴰ y (flat_map f xs) → (z : A) × Memᴰ z (x ∷ xs) × Memᴰ y (f z)
    go ih (inl k) = (x, Memᴰ.head refl, k)
    go ih (inr k) = let (z, n, g) = ih k in (z, Memᴰ.tail n, g)

pub flat-intro : {A B : Type 0} (f : A → List B) (xs : List A) (x : A) (y : B) → Memᴰ x xs → Memᴰ y (f x) → Memᴰ y (flat_map f xs)
unfolding flat_map
flat-intro {A = A} {B = B} f [] x y x4 m = elim x4 [ ]
flat-intro f (z ∷ zs) x y (Memᴰ.head e) m = Memᴰ.append_left (flat_map f zs) (rw e at m)
flat-intro f (z ∷ zs) x y (Memᴰ.tail k) m = Memᴰ.append_right (f z) (flat-intro f zs x y k m)

-- the numbers from i on
pub in-up_from : (k i n : ℕ) → i ≤ n → n < i + k → Memᴰ n (up_from k i)
unfolding up_from
in-up_from zero i n l h = absurd (omega arith)
in-up_from (suc k) i n l h = go (in-up_from k (suc i) n) (ℕ_discrete n i)
  where
    go : (suc i ≤ n → n < suc i + k → Memᴰ n (up_from k (suc i))) → Dec (n ≡ i) → Memᴰ n (i ∷ up_from k (suc i))
    go ih (yes e) = Memᴰ.head e
    go ih (no e) = Memᴰ.tail (ih (omega arith) (omega arith))

pub up_from-range : (k i n : ℕ) → Memᴰ n (up_from k i) → (i ≤ n) × (n < i + k)
unfolding up_from
up_from-range zero i n m = absurd (Memᴰ.not-nil m)
up_from-range (suc k) i n m = go (up_from-range k (suc i) n) (Memᴰ.cases_cons m)
  where
    go : (Memᴰ n (up_from k (suc i)) → (suc i ≤ n) × (n < suc i + k)) → (n ≡ i) ⊎ Memᴰ n (up_from k (suc i)) → (i ≤ n) × (n < i + suc k)
    go ih (inl e) = (omega arith, omega arith)
    go ih (inr p) = let r = ih p in (omega (arith, r.0), omega (arith, r.1))

pub in-below64 : (n : ℕ) → n < 64 → Memᴰ n below64
unfolding below64
in-below64 n h = in-up_from 64 0 n (omega arith) (omega arith)

pub below64-range : (n : ℕ) → Memᴰ n below64 → n < 64
unfolding below64
below64-range n m = omega (arith, (up_from-range 64 0 n m).1)

pub is_in-elim : (x : ℕ) (xs : List ℕ) → is_in x xs ≡ true → Memᴰ x xs
unfolding is_in
is_in-elim x xs h = let (y, m, e) = any-elim (eqb x) xs h in rw (eqb-true x y e) m

pub is_in-intro : (x : ℕ) (xs : List ℕ) → Memᴰ x xs → is_in x xs ≡ true
unfolding is_in
is_in-intro x xs m = any-intro (eqb x) xs x m (eq-eqb x x refl)

-- a list with one more at its end
pub is_in-snoc : (k : ℕ) (xs : List ℕ) (y : ℕ) → is_in k (xs ++ y ∷ []) ≡ eqb k y || is_in k xs
unfolding any is_in
is_in-snoc k xs y = any_append (eqb k) xs (y ∷ []) ∙ ap (λ (b : Bool). is_in k xs || b) (or-false (eqb k y)) ∙ or_comm (is_in k xs) (eqb k y)

-- a search through the numbers: what it found stands at some number, and no smaller one has an answer
pub record First {A : Type 0} (f : ℕ → Option A) (from to : ℕ) (r : A) : Type 0 where
  pub at : ℕ
  pub start : from ≤ at
  pub within : at < to
  pub here : f at ≡ some r
  pub before : (m : ℕ) → from ≤ m → m < at → f m ≡ none

module _ {A : Type 0} where
  pub seek-none : (k i : ℕ) (f : ℕ → Option A) → seek k i f ≡ none → (n : ℕ) → i ≤ n → n < i + k → f n ≡ none
  unfolding seek
  seek-none zero i f e n l h = absurd (omega arith)
  seek-none (suc k) i f e n l h = go (seek-none k (suc i) f) (f i) refl (ℕ_discrete n i)
    where
      go : (seek k (suc i) f ≡ none → (n : ℕ) → suc i ≤ n → n < suc i + k → f n ≡ none) → (r : Option A) → f i ≡ r → Dec (n ≡ i) → f n ≡ none
      go ih none d (yes g) = rw g d
      go ih none d (no g) = ih (rw (d, seek) at e) n (omega arith) (omega arith)
      go ih (some x) d c = none-some (sym (rw (d, seek) at e))

  pub seek-first : (k i : ℕ) (f : ℕ → Option A) (r : A) → seek k i f ≡ some r → First f i (i + k) r
  unfolding seek
  seek-first zero i f r e = none-some e
  seek-first (suc k) i f r e = go (seek-first k (suc i) f r) (f i) refl
    where
      on : f i ≡ none → First f (suc i) (suc i + k) r → First f i (i + suc k) r
      on d z = record { at = z.at; start = omega (arith, z.start); within = omega (arith, z.within); here = z.here; before = λ m l h. by m l h (ℕ_discrete m i) }
        where
          by : (m : ℕ) → i ≤ m → m < z.at → Dec (m ≡ i) → f m ≡ none
          by m l h (yes g) = rw g d
          by m l h (no g) = z.before m (omega arith) h

      go : (seek k (suc i) f ≡ some r → First f (suc i) (suc i + k) r) → (o : Option A) → f i ≡ o → First f i (i + suc k) r
      go ih none d = on d (ih (rw (d, seek) at e))
      go ih (some y) d = record { at = i; start = omega arith; within = omega arith; here = d ∙ (rw (d, seek) at e); before = λ m l h. absurd (omega arith) }

  -- nothing found: no number below 64 has an answer
  pub least-none : (f : ℕ → Option A) → least f ≡ none → (n : ℕ) → n < 64 → f n ≡ none
  unfolding least
  least-none f e n h = seek-none 64 0 f e n (omega arith) (omega arith)

  pub least_first : (f : ℕ → Option A) (r : A) → least f ≡ some r → First f 0 64 r
  unfolding least
  least_first f r e = seek-first 64 0 f r e
