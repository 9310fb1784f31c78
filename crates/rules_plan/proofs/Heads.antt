-- Rows 2 to 5 against their sentences: the tag and the length of a field.
use mathlib.Core.Path.{◌≡◌, refl, sym, ◌∙◌, subst}
use mathlib.Core.Logic.{◌⊎◌, inl, inr}
use mathlib.Core.List.{Memᴰ}
use mathlib.Core.Option.{Option, none, some}
use mathlib.Core.Bool.{true, not, ◌&&◌}
use Prim.Native.Nat.{ℕ, zero, suc, ◌≤◌, ◌<◌}
use native.Mathlib.Omega.{arith}
use native.Mathlib.Decide.{dec_lt}
use lib.Dec.{eqb}
use borrow.Author.Tests.{eqb-true, eq-eqb, le-leb}
use Rattle.lists.specs.Search.{find, is_some}
use Rattle.lists.specs.laws.Bools.{both_true, true-both, not-both}
use Rattle.lists.specs.laws.Search.{find-some}
use Rattle.lists.specs.laws.Append.{every-member}
use Rattle.rules_plan.specs.Fields.{Tag, tags, tag_of, is_tag, comes_once, length_allowed}
use Rattle.rules_plan.specs.Wrong.{Allowed, tag-01, tag-02, tag-03, tag-04, tag-05, tag-06, tag-07}
use Rattle.rules_plan.specs.laws.Lengths.{allowed}
use Rattle.rules_plan.proofs.Asks.{Asks, not-asks}

-- what the words say of a row of the table of tags
record InWords (t : Tag) : Type 0 where
  number : (1 ≤ t.number) × (t.number ≤ 7)
  once : t.once ≡ true → (t.number ≡ 5) ⊎ (t.number ≡ 6)
  lengths : (size : ℕ) → t.shortest ≤ size → size ≤ t.longest → Allowed t.number size

in_words : (t : Tag) → Memᴰ t tags → InWords t
unfolding tags
in_words = every-member InWords tags (
  record { number = (omega arith, omega arith); once = λ h. not-both h refl; lengths = λ size h k. subst (Allowed 1) (omega arith) tag-01 },
  (
    record { number = (omega arith, omega arith); once = λ h. not-both h refl; lengths = λ size h k. subst (Allowed 2) (omega arith) tag-02 },
    (
      record { number = (omega arith, omega arith); once = λ h. not-both h refl; lengths = λ size h k. tag-03 h k },
      (
        record { number = (omega arith, omega arith); once = λ h. not-both h refl; lengths = λ size h k. tag-04 h k },
        (
          record { number = (omega arith, omega arith); once = λ h. inl refl; lengths = λ size h k. subst (Allowed 5) (omega arith) tag-05 },
          (
            record { number = (omega arith, omega arith); once = λ h. inr refl; lengths = λ size h k. subst (Allowed 6) (omega arith) tag-06 },
            (record { number = (omega arith, omega arith); once = λ h. not-both h refl; lengths = λ size h k. tag-07 h k }, tt),
          ),
        ),
      ),
    ),
  ),
)

row-of : (n : ℕ) (t : Tag) → tag_of n ≡ some t → InWords t × (n ≡ t.number)
unfolding tag_of
row-of n t e = let (m, h) = find-some _ tags t e in (in_words t m, eqb-true n t.number h)

-- 3: "tag not 01 to 05", and 06 and 07 are spared
is-tag : (n : ℕ) → 1 ≤ n → n ≤ 7 → is_tag n ≡ true
unfolding is_tag is_some tag_of tags find
is-tag zero h k = absurd (omega arith)
is-tag (suc zero) h k = refl
is-tag (suc (suc zero)) h k = refl
is-tag (suc (suc (suc zero))) h k = refl
is-tag (suc (suc (suc (suc zero)))) h k = refl
is-tag (suc (suc (suc (suc (suc zero))))) h k = refl
is-tag (suc (suc (suc (suc (suc (suc zero)))))) h k = refl
is-tag (suc (suc (suc (suc (suc (suc (suc zero))))))) h k = refl
is-tag (suc (suc (suc (suc (suc (suc (suc (suc n)))))))) h k = absurd (omega arith)

tag-asks : (n : ℕ) → Asks (is_tag n) ((1 ≤ n) × (n ≤ 7))
unfolding is_tag is_some
tag-asks n = (there (tag_of n) refl, λ h. is-tag n h.0 h.1)
  where
    there : (o : Option Tag) → tag_of n ≡ o → is_tag n ≡ true → (1 ≤ n) × (n ≤ 7)
    there none e h = not-both (rw (e, is_tag) at h) refl
    there (some t) e h = let (w, g) = row-of n t e in (omega (arith, w.number), omega (arith, w.number))

pub no-tag-asks : (n : ℕ) → Asks (not (is_tag n)) ((n < 1) ⊎ (7 < n))
no-tag-asks n = (λ h. there ((not-asks (is_tag n) (tag-asks n)).0 h) (dec_lt n 1) (dec_lt 7 n), λ h. (not-asks (is_tag n) (tag-asks n)).1 (back h))
  where
    there : ((1 ≤ n) × (n ≤ 7) → ⊥) → Dec (n < 1) → Dec (7 < n) → (n < 1) ⊎ (7 < n)
    there f (yes h) d = inl h
    there f (no h) (yes k) = inr k
    there f (no h) (no k) = absurd (f (omega arith, omega arith))

    back : (n < 1) ⊎ (7 < n) → (1 ≤ n) × (n ≤ 7) → ⊥
    back (inl h) k = omega (arith, k.0)
    back (inr h) k = omega (arith, k.1)

-- 4: "a second 05", "a second 06"
abbrev pub Second : ℕ → ℕ → Type 0
Second before n = ((before ≡ 5) × (n ≡ 5)) ⊎ ((before ≡ 6) × (n ≡ 6))

five-once : comes_once 5 ≡ true
unfolding comes_once tag_of tags find
five-once = refl

six-once : comes_once 6 ≡ true
unfolding comes_once tag_of tags find
six-once = refl

pub second-asks : (n before : ℕ) → Asks (eqb n before && comes_once n) (Second before n)
unfolding comes_once
second-asks n before = (λ h. let (a, b) = both_true (eqb n before) (comes_once n) h in there (eqb-true n before a) (tag_of n) refl b, back)
  where
    which : n ≡ before → (n ≡ 5) ⊎ (n ≡ 6) → Second before n
    which a (inl e) = inl (sym a ∙ e, e)
    which a (inr e) = inr (sym a ∙ e, e)

    there : n ≡ before → (o : Option Tag) → tag_of n ≡ o → comes_once n ≡ true → Second before n
    there a none e h = not-both (rw (e, comes_once) at h) refl
    there a (some t) e h = let (w, g) = row-of n t e in which a (rw (← g) at (w.once (rw (e, comes_once) at h)))

    back : Second before n → eqb n before && comes_once n ≡ true
    back (inl (a, b)) = true-both (eq-eqb n before (b ∙ sym a)) (rw b five-once)
    back (inr (a, b)) = true-both (eq-eqb n before (b ∙ sym a)) (rw b six-once)

-- 5: "length not allowed for the tag"
is-allowed : {n size : ℕ} → Allowed n size → length_allowed n size ≡ true
unfolding length_allowed tag_of tags find
is-allowed tag-01 = refl
is-allowed tag-02 = refl
is-allowed (tag-03 {size} h k) = true-both (le-leb 3 size h) (le-leb size 10 k)
is-allowed (tag-04 {size} h k) = true-both (le-leb 4 size h) (le-leb size 19 k)
is-allowed tag-05 = refl
is-allowed tag-06 = refl
is-allowed (tag-07 {size} h k) = true-both (le-leb 3 size h) (le-leb size 10 k)

allowed-asks : (n size : ℕ) → Asks (length_allowed n size) (Allowed n size)
unfolding length_allowed
allowed-asks n size = (there (tag_of n) refl, is-allowed)
  where
    there : (o : Option Tag) → tag_of n ≡ o → length_allowed n size ≡ true → Allowed n size
    there none e h = not-both (rw (e, length_allowed) at h) refl
    there (some t) e h =
        let (w, g) = row-of n t e in
        let (a, b) = allowed n size t e h in
        rw g (w.lengths size a b)

pub not-allowed-asks : (n size : ℕ) → Asks (not (length_allowed n size)) (Allowed n size → ⊥)
not-allowed-asks n size = not-asks (length_allowed n size) (allowed-asks n size)
