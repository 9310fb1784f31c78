-- A path's place in memory: which of two paths stands first, and what one test tells of the place.
use Rattle.std.proofs.Math.Bool.{or-false}
use Rattle.std.specs.Prelude.{◌≡◌, ◌≢◌, List, true, false, ℕ, ◌≤◌, ◌<◌, ltb}
use Rattle.std.proofs.Common.{sym, inl, inr, arith}
use Rattle.std.proofs.Math.Decide.{dec_lt}
use borrow.Author.Tests.{lt-ltb, le-ltb, eq-eqb, ne_eqb}
use Rattle.lists.specs.laws.Bools.{not-both}
use Rattle.lists.specs.laws.Insert.{Before}
use Rattle.load_path_places.specs.Places.{precedes, precedes_at, IsPlace}

-- which of two paths stands first
module _ (i t j u : ℕ) where
  pub precedes-initiator : i < j → precedes i t j u ≡ true
  unfolding precedes
  precedes-initiator h = rw (lt-ltb i j h)

  pub precedes-target : j ≡ i → t < u → precedes i t j u ≡ true
  unfolding precedes
  precedes-target e h = rw (le-ltb i j (omega arith), eq-eqb i j (sym e), lt-ltb t u h)

  pub later-initiator : j ≤ i → j ≢ i → precedes i t j u ≡ false
  unfolding precedes
  later-initiator h d = rw (le-ltb i j h, ne_eqb i j (λ e. d (sym e)))

  pub later-target : j ≡ i → u ≤ t → precedes i t j u ≡ false
  unfolding precedes
  later-target e h = rw (le-ltb i j (omega arith), eq-eqb i j (sym e), le-ltb t u h)

  -- the comparison that decides
  pub by-target : j ≡ i → ltb t u ≡ precedes i t j u
  unfolding precedes
  by-target e = rw (le-ltb i j (omega arith), eq-eqb i j (sym e))

  pub by-initiator : j ≢ i → ltb i j ≡ precedes i t j u
  unfolding precedes
  by-initiator d = rw (ne_eqb i j (λ e. d (sym e))) (sym (or-false (ltb i j)))

  pub before-precedes : Before i t j u → precedes i t j u ≡ true
  before-precedes (inl h) = precedes-initiator h
  before-precedes (inr (e, h)) = precedes-target (sym e) h

  pub behind-precedes : Before j u i t → precedes i t j u ≡ false
  behind-precedes (inl h) = later-initiator (omega arith) (omega arith)
  behind-precedes (inr (e, h)) = later-target e (omega arith)

-- what one test tells of the place
module _ {paths : List ℕ} {count i t m : ℕ} (p : IsPlace paths count i t m) (k : ℕ) where
  pub place-upto : precedes_at paths i t k ≡ true → m ≤ k
  place-upto e = go (dec_lt k m)
    where
      go : Dec (k < m) → m ≤ k
      go (yes h) = not-both e (p.less k h)
      go (no h) = omega arith

  pub place-past : k < count → precedes_at paths i t k ≡ false → k < m
  place-past l e = go (dec_lt k m)
    where
      go : Dec (k < m) → k < m
      go (yes h) = h
      go (no h) = not-both (p.more k (omega arith) l) e
