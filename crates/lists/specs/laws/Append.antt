-- Laws of lists put one behind the other: members, tests, searches and repetitions in a list and in one that goes on behind it.
use Rattle.std.specs.Prelude.{◌≡◌, Bool, ◌||◌, ℕ, zero, suc, ◌+◌, ◌≤◌, length, get_or, set, drop}
use Rattle.std.proofs.Math.Path.{refl, sym}
use Rattle.std.proofs.Common.{ap, ◌∙◌, subst, add-zero, add-suc, suc-add, arith, drop-cons}
use mathlib.Core.List.Memᴰ
use mathlib.Core.List.{List, [], ◌∷◌, ◌++◌, map, flat_map, append-nil, append_assoc, Memᴰ}
use Rattle.std.proofs.Math.Option.{some}
use Rattle.std.proofs.Math.Bool.{true, false}
use Rattle.lists.specs.Search.{any, all, find, repeats, up_from}
use Rattle.lists.specs.laws.Bools.{neither, false-either, not-both, none-some}
use Rattle.lists.specs.laws.Search.{any-elim, any-intro, any_false, any_append, all-elim, all-intro}

-- a proof for each element of a list that is written out
abbrev pub Every : {A : Type 0} → (A → Type 0) → List A → Type 0
Every P [] = Unit {0}
Every P (x ∷ xs) = P x × Every P xs

pub every-member : {A : Type 0} (P : A → Type 0) (xs : List A) → Every P xs → (x : A) → Memᴰ x xs → P x
every-member {A = A} P [] h x x4 = elim x4 [ ]
every-member P (y ∷ ys) h x (Memᴰ.head e) = rw e h.0
every-member P (y ∷ ys) h x (Memᴰ.tail m) = every-member P ys h.1 x m

-- a store behind the first list is one in the second
pub set-behind : {A : Type 0} (xs ys : List A) (i : ℕ) (a : A) → set (xs ++ ys) (length xs + i) a ≡ xs ++ set ys i a
set-behind [] ys i a = ap (λ (n : ℕ). set ys n a) (omega arith)
set-behind (x ∷ xs) ys i a = ap (λ (n : ℕ). set (x ∷ (xs ++ ys)) n a) (suc-add (length xs) i) ∙ ap (◌∷◌ x) (set-behind xs ys i a)

pub flat_append : {A B : Type 0} (f : A → List B) (xs ys : List A) → flat_map f (xs ++ ys) ≡ flat_map f xs ++ flat_map f ys
unfolding flat_map
flat_append f [] ys = refl
flat_append f (x ∷ xs) ys = rw (flat_append f xs ys, append_assoc (f x) (flat_map f xs) (flat_map f ys))

-- ys is xs with something behind it
abbrev pub Begins : {A : Type 0} → List A → List A → Type 0
Begins {A} xs ys = (zs : List A) × (xs ++ zs ≡ ys)

pub begins-self : {A : Type 0} (xs : List A) → Begins xs xs
begins-self xs = ([], append-nil xs)

pub begins-append : {A : Type 0} (xs zs : List A) → Begins xs (xs ++ zs)
begins-append xs zs = (zs, refl)

-- what a list has, a list that begins with it has
pub begins-member : {A : Type 0} {xs ys : List A} {x : A} → Begins xs ys → Memᴰ x xs → Memᴰ x ys
begins-member {x} (zs, e) m = subst (Memᴰ x) e (Memᴰ.append_left zs m)

pub begins-last : {A : Type 0} (xs : List A) (x : A) {ys : List A} → Begins (xs ++ (x ∷ [])) ys → Memᴰ x ys
begins-last xs x b = begins-member b (Memᴰ.append_right xs (Memᴰ.head refl))

module _ {A : Type 0} (t : A → Bool) where
  pub any-begins : (xs ys : List A) → Begins xs ys → any t xs ≡ true → any t ys ≡ true
  any-begins xs ys b h = let (x, m, e) = any-elim t xs h in any-intro t ys x (begins-member b m) e

  pub find-begins : (xs ys : List A) (x : A) → Begins xs ys → find t xs ≡ some x → find t ys ≡ some x
  unfolding find
  find-begins xs ys x (zs, e) h = rw (← e) (on xs h)
    where
      on : (xs : List A) → find t xs ≡ some x → find t (xs ++ zs) ≡ some x
      on [] h = none-some h
      on (y ∷ ys) h = go (t y) refl (on ys)
        where
          go : (b : Bool) → t y ≡ b → (find t ys ≡ some x → find t (ys ++ zs) ≡ some x) → find t (y ∷ (ys ++ zs)) ≡ some x
          go true e ih = rw (e, find) (rw (e, find) at h)
          go false e ih = rw (e, find) (ih (rw (e, find) at h))

  pub all_more : (u : A → Bool) (xs : List A) → ((x : A) → t x ≡ true → u x ≡ true) → all t xs ≡ true → all u xs ≡ true
  all_more u xs f h = all-intro u xs (λ x m. f x (all-elim t xs x h m))

-- repetitions
module _ {A : Type 0} (same : A → A → Bool) where
  pub repeats-begins : (xs ys : List A) → Begins xs ys → repeats same ys ≡ false → repeats same xs ≡ false
  unfolding repeats
  repeats-begins xs ys (zs, e) h = on xs (rw (← e) at h)
    where
      on : (xs : List A) → repeats same (xs ++ zs) ≡ false → repeats same xs ≡ false
      on [] h = refl
      on (x ∷ xs) h =
          let n = neither (any (same x) (xs ++ zs)) (repeats same (xs ++ zs)) h in
          false-either (neither (any (same x) xs) (any (same x) zs) (rw any_append at n.0)).0 (on xs n.1)

  shuffle : (a b r c : Bool) → a || (b || false) || (r || c) ≡ a || r || (b || c)
  shuffle true b r c = refl
  shuffle false true true c = refl
  shuffle false true false c = refl
  shuffle false false r c = refl

  pub repeats-snoc : (xs : List A) (y : A) → repeats same (xs ++ (y ∷ [])) ≡ repeats same xs || any (λ (x : A). same x y) xs
  unfolding repeats any
  repeats-snoc [] y = refl
  repeats-snoc (x ∷ xs) y = rw (repeats-snoc xs y, any_append (same x) xs (y ∷ [])) (shuffle (any (same x) xs) (same x y) (repeats same xs) (any (λ (z : A). same z y) xs))

  -- an element repeats nothing exactly when none of those in front of it is the same
  pub once_more : (xs : List A) (y : A) → repeats same xs ≡ false → any (λ (x : A). same x y) xs ≡ false → repeats same (xs ++ (y ∷ [])) ≡ false
  once_more xs y h g = rw (repeats-snoc xs y) (false-either h g)

  pub once-before : (xs : List A) (y : A) (ys : List A) → Begins (xs ++ (y ∷ [])) ys → repeats same ys ≡ false → any (λ (x : A). same x y) xs ≡ false
  once-before xs y ys b h = (neither (repeats same xs) (any (λ (x : A). same x y) xs) (sym (repeats-snoc xs y) ∙ repeats-begins (xs ++ (y ∷ [])) ys b h)).1

  -- members that are the same are one
  pub repeats-one : (xs : List A) (x y : A) → repeats same xs ≡ false → Memᴰ x xs → Memᴰ y xs → same x y ≡ true → same y x ≡ true → x ≡ y
  unfolding repeats
  repeats-one [] x y h x7 _ a b = elim x7 [ ]
  repeats-one (z ∷ zs) x y h (Memᴰ.head e) (Memᴰ.head f) a b = e ∙ sym f
  repeats-one (z ∷ zs) x y h (Memᴰ.head e) (Memᴰ.tail n) a b = not-both (rw e at a) (any_false (same z) zs y (neither (any (same z) zs) (repeats same zs) h).0 n)
  repeats-one (z ∷ zs) x y h (Memᴰ.tail m) (Memᴰ.head f) a b = not-both (rw f at b) (any_false (same z) zs x (neither (any (same z) zs) (repeats same zs) h).0 m)
  repeats-one (z ∷ zs) x y h (Memᴰ.tail m) (Memᴰ.tail n) a b = repeats-one zs x y (neither (any (same z) zs) (repeats same zs) h).1 m n a b

-- a list spelled out from place j on: k elements, then the rest
pub spelled : {A : Type 0} (c : List A) (d : A) (k j : ℕ) → j + k ≤ length c → drop j c ≡ map (λ (i : ℕ). get_or c i d) (up_from k j) ++ drop (j + k) c
unfolding up_from
spelled c d zero j h = rw add-zero
spelled c d (suc k) j h = rw (drop-cons c j d (omega arith), spelled c d k (suc j) (omega arith), suc-add, add-suc)
