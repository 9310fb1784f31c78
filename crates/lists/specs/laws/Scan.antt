-- Laws of a list gone through from the front: what a test says from place k on, repetitions among the first k; and of the numbers
-- below n gone through in the same way.
use Rattle.std.specs.Prelude.{◌≡◌, List, Bool, true, false, ◌||◌, length, get_or, take, drop}
use Rattle.std.proofs.Math.Path.{ap}
use Rattle.std.proofs.Common.{◌∙◌, add-one, drop_of_length-le, drop-cons}
use Prim.Native.Nat.{ℕ, suc, ◌+◌, ◌-◌, ◌≤◌, ◌<◌}
use native.Mathlib.Omega.{arith}
use Rattle.std.proofs.Math.Seq.{take-suc}
use Rattle.std.proofs.Math.Dec.{eqb}
use Rattle.lists.specs.Search.{all, is_in, twice}
use Rattle.lists.specs.Numbers.{first_from}
use Rattle.lists.specs.laws.Bools.{eqb-sym}
use Rattle.lists.specs.laws.Search.{any_same}
use Rattle.lists.specs.laws.Append.{repeats-snoc}

module _ {A : Type 0} (t : A → Bool) (d : A) (s : List A) (k : ℕ) where
  -- the test of the whole list is that of the part from place k on: the element there decides, or the part behind it does; at the
  -- end none is left
  pub all-miss : k < length s → all t s ≡ all t (drop k s) → t (get_or s k d) ≡ false → all t s ≡ false
  unfolding all
  all-miss h e g = e ∙ rw (drop-cons s k d h, all, g)

  pub all-on : k < length s → all t s ≡ all t (drop k s) → t (get_or s k d) ≡ true → all t s ≡ all t (drop (k + 1) s)
  unfolding all
  all-on h e g = e ∙ rw (drop-cons s k d h, all, g, add-one)

  pub all_end : length s ≤ k → all t s ≡ all t (drop k s) → all t s ≡ true
  unfolding all
  all_end h e = e ∙ rw (drop_of_length-le s h)

module _ (s : List ℕ) (k : ℕ) (h : k < length s) where
  -- one more: a number stands twice among them where one did, or where this one is among those before
  pub twice-next : twice (take (k + 1) s) ≡ twice (take k s) || is_in (get_or s k 0) (take k s)
  unfolding twice is_in
  twice-next =
      rw (add-one, take-suc s k 0 h) (repeats-snoc eqb (take k s) (get_or s k 0)
      ∙ ap (λ (b : Bool). twice (take k s) || b) (any_same _ _ (take k s) (λ x _. eqb-sym x (get_or s k 0))))

module _ (t : ℕ → Bool) (n k : ℕ) where
  -- the search from k on ends at k, where it passes or is n, or goes on behind it
  pub first-here : k < n → t k ≡ true → first_from (n - k) k t ≡ k
  unfolding first_from
  first-here h e = let f : n - k ≡ suc (n - (k + 1)) = omega arith in rw (f, first_from, e)

  pub first_next : k < n → t k ≡ false → first_from (n - k) k t ≡ first_from (n - (k + 1)) (k + 1) t
  unfolding first_from
  first_next h e = let f : n - k ≡ suc (n - (k + 1)) = omega arith in rw (f, first_from, e, add-one)

  pub first-end : n ≤ k → first_from (n - k) k t ≡ k
  unfolding first_from
  first-end h = let f : n - k ≡ 0 = omega arith in rw f
