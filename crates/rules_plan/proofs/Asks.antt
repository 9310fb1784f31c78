-- A test and the sentence that it asks: the test is true exactly when the sentence holds.
use mathlib.Core.Path.{◌≡◌, refl, sym, subst}
use mathlib.Core.Logic.{◌↔◌, ◌⊎◌, inl, inr}
use mathlib.Core.List.{List, [], ◌∷◌, Memᴰ}
use mathlib.Core.Bool.{Bool, true, false, not, ◌&&◌, ◌||◌, or-true}
use Prim.Native.Nat.{ℕ, ◌≤◌, ◌<◌}
use native.Mathlib.Decide.{ℕ_discrete}
use lib.Dec.{ltb, leb, eqb}
use borrow.Author.Tests.{ltb-true, lt-ltb, leb-true, le-leb, eqb-true, eq-eqb, ne_eqb}
use Rattle.lists.specs.Search.{any, all}
use Rattle.lists.specs.Rows.{Row, test_of}
use Rattle.lists.specs.laws.Bools.{both_true, true-both, either, not-both}
use Rattle.lists.specs.laws.Search.{any-elim, any-intro}
use Rattle.lists.specs.laws.Append.{Every}

abbrev pub Asks : Bool → Type 0 → Type 0
Asks t P = (t ≡ true) ↔ P

pub lt-asks : (a b : ℕ) → Asks (ltb a b) (a < b)
lt-asks a b = (ltb-true a b, lt-ltb a b)

pub le-asks : (a b : ℕ) → Asks (leb a b) (a ≤ b)
le-asks a b = (leb-true a b, le-leb a b)

pub eq-asks : (a b : ℕ) → Asks (eqb a b) (a ≡ b)
eq-asks a b = (eqb-true a b, eq-eqb a b)

-- the number asked for stands first in the test
pub is-asks : (a b : ℕ) → Asks (eqb a b) (b ≡ a)
is-asks a b = (λ h. sym (eqb-true a b h), λ e. eq-eqb a b (sym e))

module _ {a b : Bool} {P Q : Type 0} where
  pub or-asks : Asks a P → Asks b Q → Asks (a || b) (P ⊎ Q)
  or-asks f g = (λ h. there (either a b h), back)
    where
      there : (a ≡ true) ⊎ (b ≡ true) → P ⊎ Q
      there (inl h) = inl (f.0 h)
      there (inr h) = inr (g.0 h)

      back : P ⊎ Q → a || b ≡ true
      back (inl h) = rw (f.1 h)
      back (inr h) = rw (g.1 h) (or-true a)

  pub and-asks : Asks a P → Asks b Q → Asks (a && b) (P × Q)
  and-asks f g = (λ h. let (x, y) = both_true a b h in (f.0 x, g.0 y), λ h. true-both (f.1 h.0) (g.1 h.1))

-- a test that is false denies its sentence
pub not-asks : {P : Type 0} (t : Bool) → Asks t P → Asks (not t) (P → ⊥)
not-asks true f = (λ h x. not-both h refl, λ n. absurd (n (f.0 refl)))
not-asks false f = (λ h x. not-both (f.1 x) refl, λ n. refl)

pub false-asks : {P : Type 0} (t : Bool) → Asks t P → (t ≡ false) ↔ (P → ⊥)
false-asks t f = (λ h x. not-both (f.1 x) h, back t f)
  where
    back : {P : Type 0} (t : Bool) → Asks t P → (P → ⊥) → t ≡ false
    back true f n = absurd (n (f.0 refl))
    back false f n = refl

module _ {A : Type 0} (t : A → Bool) (P : A → Type 0) (f : (x : A) → Asks (t x) (P x)) where
  pub any-asks : (xs : List A) → Asks (any t xs) ((x : A) × Memᴰ x xs × P x)
  any-asks xs = (
    λ h. let (x, m, e) = any-elim t xs h in (x, m, (f x).0 e),
    λ h. let (x, m, y) = h in any-intro t xs x m ((f x).1 y),
  )

-- not both tests pass: one fails
not-and : (a b : Bool) → not (a && b) ≡ not a || not b
not-and true b = refl
not-and false b = refl

pub not-and-asks : {P Q : Type 0} (a b : Bool) → Asks (not a) P → Asks (not b) Q → Asks (not (a && b)) (P ⊎ Q)
not-and-asks a b f g = rw (not-and a b) (or-asks f g)

-- not all elements pass: one fails
not-all : {A : Type 0} (t : A → Bool) (xs : List A) → not (all t xs) ≡ any (λ (x : A). not (t x)) xs
unfolding all any
not-all t [] = refl
not-all t (x ∷ xs) = rw (not-and (t x) (all t xs), not-all t xs)

pub not-all-asks : {A : Type 0} (t : A → Bool) (P : A → Type 0) → ((x : A) → Asks (not (t x)) (P x)) → (xs : List A) → Asks (not (all t xs)) ((x : A) × Memᴰ x xs × P x)
not-all-asks t P f xs = rw (not-all t xs) (any-asks _ P f xs)

-- some element passes two tests
pub any-two-asks : {A : Type 0} (t u : A → Bool) (P Q : A → Type 0) → ((x : A) → Asks (t x) (P x)) → ((x : A) → Asks (u x) (Q x)) → (xs : List A)
    → Asks (any (λ (x : A). t x && u x) xs) ((x : A) × Memᴰ x xs × P x × Q x)
any-two-asks {A} t u P Q f g xs = (λ h. let (x, m, y) = both.0 h in (x, m, y.0, y.1), λ h. let (x, m, y, z) = h in both.1 (x, m, (y, z)))
  where
    both : Asks (any (λ (x : A). t x && u x) xs) ((x : A) × Memᴰ x xs × (P x × Q x))
    both = any-asks _ _ (λ x. and-asks (f x) (g x)) xs

-- a row of a table that holds says what its number stands for
pub row-says : (P : ℕ → Type 0) (rs : List Row) → Every (λ (r : Row). r.1 ≡ true → P r.0) rs → (n : ℕ) → test_of n rs ≡ true → P n
unfolding test_of
row-says P [] f n h = not-both h refl
row-says P (r ∷ rs) f n h = go (row-says P rs f.1 n) (ℕ_discrete r.0 n)
  where
    go : (test_of n rs ≡ true → P n) → Dec (r.0 ≡ n) → P n
    go ih (yes e) = subst P e (f.0 (rw (eq-eqb r.0 n e) at h))
    go ih (no e) = ih (rw (ne_eqb r.0 n e) at h)
