-- The members of `^`: those of one of two sets, and not of both.
-- Assumes nothing.
use mathlib.Core.Path.{◌≡◌, refl, sym, ap, ap₂, ◌∙◌}
use mathlib.Core.Logic.{◌≢◌}
use mathlib.Core.Bool.{Bool, true, false, not, ◌||◌, cond}
use Prim.Native.Nat.{ℕ, ◌+◌, ◌*◌, ◌/◌, ◌%◌, ◌^◌, ◌<◌}
use native.Mathlib.Omega.{arith}
use lib.Bits.{bit_xor, differ, xor_shr, xor_step}
use lib.Dec.{eqb, ltb}
use borrow.Author.Tests.{eq-eqb, ne_eqb, eqb-true, lt-ltb}
use Rattle.lists.specs.Numbers.{digit}
use Rattle.bitsets.specs.Set.{member, alone}
use Rattle.bitsets.specs.Laws.{bit-of}

abbrev pub unlike : Bool → Bool → Bool
unlike a b = cond a (not b) b

differ-digits : (a b : Bool) → differ (digit a) (digit b) ≡ digit (unlike a b)
unfolding digit
differ-digits true true = refl
differ-digits true false = refl
differ-digits false true = refl
differ-digits false false = refl

digit-one : (b : Bool) → (q d : ℕ) → d ≡ digit b → eqb ((q * 2 + d) % 2) 1 ≡ b
unfolding digit
digit-one true q d e = let z : (q * 2 + d) % 2 ≡ 1 = omega arith in rw z
digit-one false q d e = let z : (q * 2 + d) % 2 ≡ 0 = omega arith in rw z

pub member-xor : (k a b : ℕ) → member k (bit_xor a b) ≡ unlike (member k a) (member k b)
unfolding member
member-xor k a b =
    ap (λ (x : ℕ). eqb (x % 2) 1) (xor_shr a b k ∙ xor_step (a / 2 ^ k) (b / 2 ^ k))
    ∙ digit-one (unlike (member k a) (member k b)) _ _ (ap₂ differ (bit-of k a) (bit-of k b) ∙ differ-digits (member k a) (member k b))

self : (c : Bool) → unlike c (c || false) ≡ false
self true = refl
self false = refl

-- of two devices the one reached goes and the other is left
pub other-left : (one other m : ℕ) → one ≢ other → unlike (alone one m) (alone one m || alone other m) ≡ alone other m
other-left one other m d = go (eqb m one) refl
  where
    go : (b : Bool) → eqb m one ≡ b → unlike (alone one m) (alone one m || alone other m) ≡ alone other m
    go false e = rw e
    go true e =
        let f : eqb m other ≡ false = ne_eqb m other (λ g. d (sym (eqb-true m one e) ∙ g)) in
        rw (e, f) (self (ltb m 64))

-- one that is neither of them stays
pub stays : (at one other : ℕ) → at < 64 → at ≢ one → at ≢ other → unlike (alone at at) (alone one at || alone other at) ≡ true
stays at one other h d e = rw (eq-eqb at at refl, lt-ltb at 64 h, ne_eqb at one d, ne_eqb at other e)
