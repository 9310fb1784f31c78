-- Laws of runs of stores: one run after another, a run that grows, a run from the front.
use Rattle.std.specs.Prelude.{◌≡◌, refl, ℕ, suc, ◌+◌, ◌≤◌, ◌<◌, length, set, get_or, take, drop}
use Rattle.std.proofs.Common.{ap, ◌∙◌, add-zero, add-suc, suc-add, add-one, arith, length-append, take-suc}
use mathlib.Core.List.{List, [], ◌∷◌, ◌++◌, flat_map, append_assoc, append-nil}
use Rattle.std.proofs.lemmas.List.Edits.{sets, sets-eq}
use Rattle.std.proofs.Math.Seq.{length-sets}
use Rattle.lists.specs.Stores.{Put}

-- stores that go on where others ended
sets-append : (l : List ℕ) (i : ℕ) (ys zs : List ℕ) → sets (sets l i ys) (i + length ys) zs ≡ sets l i (ys ++ zs)
sets-append l i [] zs = rw add-zero
sets-append l i (y ∷ ys) zs = rw (add-suc i (length ys), ← suc-add i (length ys)) (sets-append (set l i y) (suc i) ys zs)

-- nothing put, one byte put, and bytes put behind others
pub put-none : (l : List ℕ) (i : ℕ) → Put l i [] l i
put-none l i = record { next = omega arith; holds = refl }

pub put_one : (l : List ℕ) (i y : ℕ) → Put l i (y ∷ []) (set l i y) (i + 1)
put_one l i y = record { next = refl; holds = refl }

pub put_then : {l o p ys zs : List ℕ} {i k m : ℕ} → Put l i ys o k → Put o k zs p m → Put l i (ys ++ zs) p m
put_then {l} {o} {p} {ys} {zs} {i} {k} {m} f g =
    record {
      next = omega (arith, length-append ys zs);
      holds = g.holds ∙ rw (f.next, f.holds) (sets-append l i ys zs);
    }

-- one byte more of a list that is copied
pub put-more : {l o : List ℕ} {i : ℕ} (s : List ℕ) (j : ℕ) → j < length s → Put l i (take j s) o (i + j) → Put l i (take (j + 1) s) (set o (i + j) (get_or s j 0)) (i + (j + 1))
put-more {l} {o} {i} s j h f =
    let e : i + (j + 1) ≡ i + j + 1 = omega arith in
    rw (e, add-one j, take-suc s j 0 h) (put_then f (put_one o (i + j) (get_or s j 0)))

-- a buffer keeps its length
pub put-length : {l ys o : List ℕ} {i k : ℕ} → Put l i ys o k → length o ≡ length l
put-length {l} {ys} {o} {i} f = ap length f.holds ∙ length-sets l i ys

-- what was put from the front of a buffer on, and the rest of it
pub put_front : {l ys o : List ℕ} {k : ℕ} → Put l 0 ys o k → length ys ≤ length l → (k ≡ length ys) × (o ≡ ys ++ drop (length ys) l)
put_front {l} {ys} f h =
    let e : 0 + length ys ≡ length ys = omega arith in
    (f.next ∙ e, f.holds ∙ sets-eq ys l 0 (omega arith) ∙ ap (λ (k : ℕ). ys ++ drop k l) e)

-- what is made of a list's elements, with one element more
pub flat-more : {A B : Type 0} (f : A → List B) (s : List A) (j : ℕ) (d : A) → j < length s → flat_map f (take (j + 1) s) ≡ flat_map f (take j s) ++ f (get_or s j d)
unfolding flat_map
flat-more {A} f s j d h = rw (add-one j, take-suc s j d h) (snoc (take j s))
  where
    snoc : (xs : List A) → flat_map f (xs ++ (get_or s j d ∷ [])) ≡ flat_map f xs ++ f (get_or s j d)
    snoc [] = append-nil (f (get_or s j d))
    snoc (x ∷ xs) = rw (snoc xs, append_assoc)
