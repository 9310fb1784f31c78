-- How many slots on the next of a set is: the least of those behind the slot, and where there is none the least of all, once round.
use mathlib.Core.Path.{◌≡◌, sym, ap, ◌∙◌}
use mathlib.Core.Bool.{Bool, true, false}
use Prim.Native.Nat.{ℕ, ◌+◌, ◌-◌, ◌/◌, ◌%◌, ◌^◌, ◌≤◌, ◌<◌}
use native.Mathlib.Nat.{div-le_self}
use native.Mathlib.Omega.{arith}
use native.Mathlib.Decide.{dec_lt}
use lib.Pow.{shr-shr}
use lib.Dec.{eqb}
use Rattle.lists.specs.Numbers.{first_from}
use Rattle.lists.specs.laws.Bools.{not-both}
use Rattle.lists.specs.laws.Sweep.{first-here}
use Rattle.bitsets.specs.Set.{member, least_of}
use Rattle.bitsets.specs.Laws.{member-empty, member-beyond, least-in, least-before, least_lt}

-- what is left of a set that is moved down: its members from there on
moved_down : (s k v : ℕ) → member v (s / 2 ^ k) ≡ member (k + v) s
unfolding member
moved_down s k v = ap (λ (x : ℕ). eqb (x % 2) 1) (shr-shr s k v)

module _ (set slot : ℕ) (small : set < 2 ^ 64) (some : set ≡ 0 → ⊥) (low : slot < 64) where
  abbrev on : ℕ → Bool
  on k = member ((slot + k) % 64) set

  abbrev behind : ℕ
  behind = set / 2 ^ slot / 2 ^ 1

  behind-has : (v : ℕ) → member v behind ≡ member (slot + 1 + v) set
  behind-has v = moved_down (set / 2 ^ slot) 1 v ∙ moved_down set slot (1 + v) ∙ ap (λ (k : ℕ). member k set) (omega arith)

  -- one is behind the slot
  pub first-behind : (behind ≡ 0 → ⊥) → (c : ℕ) → c ≡ least_of behind + 1 → c ≡ first_from 64 1 on
  first-behind d c is =
      let l = least_lt behind (omega (arith, div-le_self (set / 2 ^ slot) (2 ^ 1), div-le_self set (2 ^ slot))) d in
      let in-it : member (slot + 1 + least_of behind) set ≡ true = sym (behind-has (least_of behind)) ∙ least-in behind l in
      let near : slot + 1 + least_of behind < 64 = low-member (slot + 1 + least_of behind) in-it in
      let here : (slot + c) % 64 ≡ slot + 1 + least_of behind = omega arith in
      first-here 64 1 on c (omega arith) (omega arith) (ap (λ (v : ℕ). member v set) here ∙ in-it)
      (λ m a b.
      let back : (slot + m) % 64 ≡ slot + 1 + (m - 1) = omega arith in
      ap (λ (v : ℕ). member v set) back ∙ sym (behind-has (m - 1)) ∙ least-before behind (m - 1) (omega arith))
    where
      low-member : (v : ℕ) → member v set ≡ true → v < 64
      low-member v h = go (dec_lt v 64)
        where
          go : Dec (v < 64) → v < 64
          go (yes l) = l
          go (no l) = not-both h (member-beyond 64 v set small (omega arith))

  -- none is: once round
  pub first_round : behind ≡ 0 → (c : ℕ) → c ≡ least_of set + (64 - slot) → c ≡ first_from 64 1 on
  first_round none c is =
      let l = least_lt set small some in
      let far : (v : ℕ) → slot < v → member v set ≡ false =
      λ v h. let e : slot + 1 + (v - (slot + 1)) ≡ v = omega arith in ap (λ (k : ℕ). member k set) (sym e) ∙ sym (behind-has (v - (slot + 1))) ∙ ap (member (v - (slot + 1))) none ∙ member-empty (v - (slot + 1)) in
      let at_most : least_of set ≤ slot = not_after (least_of set) (λ h. not-both (least-in set l) (far (least_of set) h)) in
      let here : (slot + c) % 64 ≡ least_of set = omega arith in
      first-here 64 1 on c (omega arith) (omega arith) (ap (λ (v : ℕ). member v set) here ∙ least-in set l)
      (λ m a b. before m a b far (dec_lt (slot + m) 64))
    where
      not_after : (v : ℕ) → (slot < v → ⊥) → v ≤ slot
      not_after v h = go (dec_lt slot v)
        where
          go : Dec (slot < v) → v ≤ slot
          go (yes l) = absurd (h l)
          go (no l) = omega arith

      before : (m : ℕ) → 1 ≤ m → m < c → ((v : ℕ) → slot < v → member v set ≡ false) → Dec (slot + m < 64) → on m ≡ false
      before m a b far (yes h) = let e : (slot + m) % 64 ≡ slot + m = omega arith in ap (λ (v : ℕ). member v set) e ∙ far (slot + m) (omega arith)
      before m a b far (no h) = least-before set ((slot + m) % 64) (omega (arith, is))
