-- Searches through the numbers below 64, one within another. What is searched for has keys, each with a code and an answer; some keys
-- are here, and the search finds the one with the least code. The key of an outer search is its number and the key of the inner one.
use Rattle.std.specs.Prelude.{◌≡◌, refl, ◌↔◌, Bool, true, false, ℕ, ◌+◌, ◌*◌, ◌≤◌, ◌<◌}
use Rattle.std.proofs.Common.{sym, ap, ◌∙◌, le_antisymm, mul-le-mul_right, arith}
use Rattle.std.proofs.Math.Option.{Option, none, some}
use Rattle.std.proofs.Math.Decide.{dec_lt}
use Rattle.lists.specs.Search.{when, least}
use Rattle.lists.specs.laws.Bools.{not-both, none-some, when-some, when-none}
use Rattle.lists.specs.laws.Search.{First, least-none, least_first}

module _ {A K : Type 0} (code : K → ℕ) (answer : K → A) (Here : K → Type 0) where
  -- r is the answer of a key that is here, and no key that is here has a smaller code
  pub record Least (r : A) : Type 0 where
    pub key : K
    pub same : r ≡ answer key
    pub here : Here key
    pub under : (k : K) → Here k → code key ≤ code k

  -- o is the answer of the least key that is here, or none where none is; keys with one code have one answer
  pub record Finds (o : Option A) : Type 0 where
    pub one : (k m : K) → Here k → Here m → code k ≡ code m → answer k ≡ answer m
    pub answered : (r : A) → o ≡ some r → Least r
    pub nothing : o ≡ none → (k : K) → Here k → ⊥

  -- such a search finds r exactly when r is the answer of the least key, and nothing exactly when no key is here
  pub finds : {o : Option A} → Finds o → (r : A) → (o ≡ some r) ↔ Least r
  finds {o} f r = (f.answered r, λ l. go l o refl)
    where
      go : Least r → (x : Option A) → o ≡ x → o ≡ some r
      go l none e = absurd (f.nothing e l.key l.here)
      go l (some q) e = e ∙ ap some (same (f.answered q e))
        where
          same : Least q → q ≡ r
          same m =
              let c : code m.key ≡ code l.key = le_antisymm (m.under l.key l.here) (l.under m.key m.here) in
              m.same ∙ f.one m.key l.key m.here l.here c ∙ sym l.same

  pub finds-none : {o : Option A} → Finds o → (o ≡ none) ↔ ((k : K) → Here k → ⊥)
  finds-none {o} f = (f.nothing, λ h. go h o refl)
    where
      go : ((k : K) → Here k → ⊥) → (x : Option A) → o ≡ x → o ≡ none
      go h none e = e
      go h (some q) e = let m = f.answered q e in absurd (h m.key m.here)

  -- a search behind a test that holds of every key that is here
  pub finds-behind : {o : Option A} (b : Bool) → ((k : K) → Here k → b ≡ true) → (b ≡ true → Finds o) → Finds (elim b [ false ↦ none | true ↦ o ])
  finds-behind true h f = f refl
  finds-behind false h f = record { one = λ k m y z c. not-both (h k y) refl; answered = λ r e. none-some e; nothing = λ e k y. not-both (h k y) refl }

-- one key, which is here where the test holds
pub finds-when : {A : Type 0} (b : Bool) (x : A) (T : Type 0) → (b ≡ true) ↔ T → Finds (λ (_ : Unit {0}). 0) (λ _. x) (λ _. T) (when b x)
finds-when b x T h = record {
  one = λ k m y z c. refl;
  answered = λ r e. let w = when-some b x r e in record { key = tt; same = sym w.1; here = h.0 w.0; under = λ k y. omega arith };
  nothing = λ e k y. not-both (h.1 y) (when-none b x e);
}

-- a smaller number in front makes a smaller code
lower : (size n k m j : ℕ) → k < size → n < m → n * size + k < m * size + j
lower size n k m j h l = omega (arith, mul-le-mul_right size l)

-- a search for each number below 64, the codes of its keys below size
module _ {A K : Type 0} (size : ℕ) (code : K → ℕ) (answer : ℕ → K → A) (Here : ℕ → K → Type 0) (f : ℕ → Option A) where
  pub finds-within : ((n : ℕ) (k : K) → Here n k → (n < 64) × (code k < size)) → ((n : ℕ) → n < 64 → Finds code (answer n) (Here n) (f n))
      → Finds (λ (x : ℕ × K). x.0 * size + code x.1) (λ x. answer x.0 x.1) (λ x. Here x.0 x.1) (least f)
  finds-within small inside = record {
    one = λ x y h g c. one x y h g c (dec_lt x.0 y.0) (dec_lt y.0 x.0);
    answered = λ r e. answered r (least_first f r e);
    nothing = λ e x h. let b = small x.0 x.1 h in (inside x.0 b.0).nothing (least-none f e x.0 b.0) x.1 h;
  }
    where
      one : (x y : ℕ × K) → Here x.0 x.1 → Here y.0 y.1 → x.0 * size + code x.1 ≡ y.0 * size + code y.1
          → Dec (x.0 < y.0) → Dec (y.0 < x.0) → answer x.0 x.1 ≡ answer y.0 y.1
      one x y h g c (yes l) d = absurd (omega (arith, lower size x.0 (code x.1) y.0 (code y.1) (small x.0 x.1 h).1 l))
      one x y h g c (no l) (yes d) = absurd (omega (arith, lower size y.0 (code y.1) x.0 (code x.1) (small y.0 y.1 g).1 d))
      one x y h g c (no l) (no d) =
          let a : y.0 ≡ x.0 = omega arith in
          let b : code x.1 ≡ code y.1 = omega (arith, ap (λ (n : ℕ). n * size) a) in
          rw a ((inside x.0 (small x.0 x.1 h).0).one x.1 y.1 h (rw a at g) b)

      answered : (r : A) → First f 0 64 r → Least (λ (x : ℕ × K). x.0 * size + code x.1) (λ x. answer x.0 x.1) (λ x. Here x.0 x.1) r
      answered r w = record { key = (w.at, l.key); same = l.same; here = l.here; under = λ y h. under y h (dec_lt y.0 w.at) (dec_lt w.at y.0) }
        where
          l : Least code (answer w.at) (Here w.at) r
          l = (inside w.at w.within).answered r w.here

          under : (y : ℕ × K) → Here y.0 y.1 → Dec (y.0 < w.at) → Dec (w.at < y.0) → w.at * size + code l.key ≤ y.0 * size + code y.1
          under y h (yes g) d = absurd ((inside y.0 (small y.0 y.1 h).0).nothing (w.before y.0 (omega arith) g) y.1 h)
          under y h (no g) (yes d) = omega (arith, lower size w.at (code l.key) y.0 (code y.1) (small w.at l.key l.here).1 d)
          under y h (no g) (no d) =
              let a : y.0 ≡ w.at = omega arith in
              omega (arith, ap (λ (n : ℕ). n * size) a, l.under y.1 (rw a at h))
