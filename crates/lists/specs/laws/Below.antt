-- What a search tells as an option: a place where it is below the bound, else none; and what the definitions tell.
use Rattle.std.specs.Prelude.{◌≡◌, refl, ℕ, ◌≤◌, ◌<◌, Some, None}
use Rattle.std.proofs.Common.{arith, lt-ltb}
use Rattle.std.proofs.Math.Option as maybe
use Rattle.std.proofs.Math.Decide.{dec_lt}
use borrow.Author.Tests.{le-ltb}
use Rattle.lists.specs.Options.{as_option, if_below}

module _ (n k : ℕ) where
  pub some-below : (j : ℕ) → j ≡ k → j < n → Some j ≡ if_below n k
  some-below j e h = rw (e, lt-ltb k n (omega arith))

  pub none-below : n ≤ k → None ≡ if_below n k
  none-below h = rw (le-ltb k n h)

  pub below-some : (j : ℕ) → Some j ≡ if_below n k → (j ≡ k) × (k < n)
  below-some j e = go (dec_lt k n)
    where
      go : Dec (k < n) → (j ≡ k) × (k < n)
      go (yes l) = let f : Some j ≡ Some k = rw (lt-ltb k n l) at e in (cc, l)
      go (no l) = let f : Some j ≡ None = rw (le-ltb k n (omega arith)) at e in let z : ◌≡◌ {A = ℕ} 0 1 = cc in absurd (omega arith)

  pub below-none : None ≡ if_below n k → n ≤ k
  below-none e = go (dec_lt k n)
    where
      go : Dec (k < n) → n ≤ k
      go (yes l) = let f : None ≡ Some k = rw (lt-ltb k n l) at e in let z : ◌≡◌ {A = ℕ} 0 1 = cc in absurd (omega arith)
      go (no l) = omega arith

module _ {A : Type 0} where
  pub none-told : (o : maybe.Option A) → None ≡ as_option o → o ≡ maybe.none
  none-told maybe.none e = refl
  none-told (maybe.some x) e = let z : ◌≡◌ {A = ℕ} 0 1 = cc in absurd (omega arith)

  pub some-told : (o : maybe.Option A) (x : A) → Some x ≡ as_option o → o ≡ maybe.some x
  some-told maybe.none x e = let z : ◌≡◌ {A = ℕ} 0 1 = cc in absurd (omega arith)
  some-told (maybe.some y) x e = cc
