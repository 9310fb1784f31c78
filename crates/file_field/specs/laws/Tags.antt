-- The table of tags: the tag of a number is the row with that number, so what is computed over the rows holds of every number.
-- Assumes nothing.
use Rattle.std.specs.Prelude.{◌≡◌, refl, Bool, true, false, not, ◌&&◌, ◌||◌, ℕ, ◌≤◌, leb, eqb}
use Rattle.std.proofs.Common.{ap, arith, leb-true, eqb-true}
use Rattle.std.proofs.Math.Option.{Option, none, some}
use Rattle.lists.specs.Search.{all, find, is_some, up_from}
use Rattle.lists.specs.laws.Bools.{both_true}
use Rattle.lists.specs.laws.Search.{all-elim, find-some, in-up_from}
use Rattle.rules_plan.specs.Fields.{Tag, tags, tag_of, is_tag, comes_once, length_allowed}

-- what holds of every row holds of the tag of a number
of_row_lem : (P : Tag → Bool) (n : ℕ) (t : Tag) → all P tags ≡ true → tag_of n ≡ some t → (n ≡ t.number) × (P t ≡ true)
unfolding tag_of
of_row_lem P n t h e =
    let r = find-some (λ (x : Tag). eqb n x.number) tags t e in
    (eqb-true n t.number r.1, all-elim P tags t h r.0)

-- "tag not 01 to 05", and 06 and 07 are spared: each number from 1 to 7 has a row, and no other has one
pub tag-known : (n : ℕ) → 1 ≤ n → n ≤ 7 → is_tag n ≡ true
unfolding all find is_some up_from tags tag_of is_tag
tag-known n l h = all-elim is_tag (up_from 7 1) n refl (in-up_from 7 1 n l (omega arith))

no-tag : (n : ℕ) → (1 ≤ n → n ≤ 7 → ⊥) → tag_of n ≡ none
unfolding all tags
no-tag n out = go (tag_of n) refl
  where
    within : Tag → Bool
    within t = leb 1 t.number && leb t.number 7

    go : (o : Option Tag) → tag_of n ≡ o → o ≡ none
    go none e = refl
    go (some t) e =
        let r = of_row_lem within n t refl e in
        let b = both_true (leb 1 t.number) (leb t.number 7) r.1 in
        absurd (out (omega (arith, r.0, leb-true 1 t.number b.0)) (omega (arith, r.0, leb-true t.number 7 b.1)))

pub tag-unknown : (n : ℕ) → (1 ≤ n → n ≤ 7 → ⊥) → is_tag n ≡ false
unfolding is_tag is_some
tag-unknown n out = ap is_some (no-tag n out)

-- "05 occurs once", 06 "at most once", and no other
pub once-known : (n : ℕ) → 5 ≤ n → n ≤ 6 → comes_once n ≡ true
unfolding all find up_from tags tag_of comes_once
once-known n l h = all-elim comes_once (up_from 2 5) n refl (in-up_from 2 5 n l (omega arith))

pub often : (n : ℕ) → (5 ≤ n → n ≤ 6 → ⊥) → comes_once n ≡ false
unfolding all tags comes_once
often n out = go (tag_of n) refl
  where
    late : Tag → Bool
    late t = not t.once || leb 5 t.number && leb t.number 6

    by : (t : Tag) → n ≡ t.number → (b : Bool) → t.once ≡ b → late t ≡ true → b ≡ false
    by t e false f h = refl
    by t e true f h =
        let (a, b) = both_true (leb 5 t.number) (leb t.number 6) (rw f at h) in
        absurd (out (omega (arith, leb-true 5 t.number a)) (omega (arith, leb-true t.number 6 b)))

    go : (o : Option Tag) → tag_of n ≡ o → elim o [ none ↦ false | some t ↦ t.once ] ≡ false
    go none e = refl
    go (some t) e = let r = of_row_lem late n t refl e in by t r.0 t.once refl r.1

-- the lengths that a row allows, and none where there is no row
pub allowed-by : {n tag : ℕ} {t : Tag} (size : ℕ) → tag ≡ n → tag_of n ≡ some t → (leb t.shortest size && leb size t.longest) ≡ length_allowed tag size
unfolding length_allowed
allowed-by size h e = rw (h, e, length_allowed)

pub none_allowed : (n size : ℕ) → (1 ≤ n → n ≤ 7 → ⊥) → false ≡ length_allowed n size
unfolding length_allowed
none_allowed n size out = rw (no-tag n out, length_allowed)
