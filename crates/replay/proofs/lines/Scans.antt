-- Where a line ends: not before it begins, and within the bytes. Assumes nothing.
use Rattle.std.proofs.Common.{◌≡◌, ℕ, ◌-◌, ◌<◌, ◌≤◌, Bool, true, false, ltb, List, length, Option, Some, None, arith, refl, ltb-true, ltb-false, lt-ltb, le-ltb}
use Rattle.lists.specs.Options.{if_below}
use Rattle.lists.specs.laws.Numbers.{first-from}
use Rattle.replay.specs.Lines.{is_newline, line_end}

module _ (s : List ℕ) (from : ℕ) where
  pub end-behind : from ≤ line_end s from
  end-behind = (first-from (length s - from) from (is_newline s)).from

  pub end-within : from ≤ length s → line_end s from ≤ length s
  end-within h = omega (arith, (first-from (length s - from) from (is_newline s)).upto)

-- a place below a bound is told, and one that is not is none
pub told-below : {n k i : ℕ} → k ≡ i → i < n → Some i ≡ if_below n k
told-below {n} {i} e h = rw (e, lt-ltb i n h)

pub told-none : {n k i : ℕ} → k ≡ i → n ≤ i → None ≡ if_below n k
told-none {n} {i} e h = rw (e, le-ltb i n h)

pub below-told : {n k i : ℕ} {r : Option ℕ} → r ≡ if_below n k → r ≡ Some i → (i ≡ k) × (k < n)
below-told {n} {k} {i} {r} e f = go (ltb k n) refl
  where
    go : (b : Bool) → ltb k n ≡ b → (i ≡ k) × (k < n)
    go true h = let z : r ≡ Some k = rw h at e in (cc (z, f), ltb-true k n h)
    go false h = let z : r ≡ None = rw h at e in absurd (cc (z, f))

pub none-told : {n k : ℕ} {r : Option ℕ} → r ≡ if_below n k → r ≡ None → n ≤ k
none-told {n} {k} {r} e f = go (ltb k n) refl
  where
    go : (b : Bool) → ltb k n ≡ b → n ≤ k
    go true h = let z : r ≡ Some k = rw h at e in absurd (cc (z, f))
    go false h = ltb-false k n h
