-- Laws of what is kept of a list: how many numbers are kept, and a test that at most one element passes.
use Rattle.std.specs.Prelude.{◌≡◌, Bool, ◌&&◌, ◌||◌, cond, ℕ, zero, suc, ◌+◌, ◌≤◌}
use Rattle.std.proofs.Math.Path.{refl}
use Rattle.std.proofs.Common.{sym, ap, ◌∙◌, arith, length-append}
use mathlib.Core.List.{List, [], ◌∷◌, ◌++◌}
use Rattle.std.proofs.Math.Option.{none, some}
use Rattle.std.proofs.Math.Bool.{true, false}
use Rattle.std.proofs.Math.ListN.{length}
use Rattle.lists.specs.Search.{any, keep, find, only, up_from}
use Rattle.lists.specs.Numbers.{digit, count_below}
use Rattle.lists.specs.laws.Order.{flat-only}
use Rattle.lists.specs.laws.Puts.{flat_up}

only-length : (b : Bool) (n : ℕ) → length (only b n) ≡ digit b
unfolding only digit
only-length true n = refl
only-length false n = refl

-- as many numbers below n are kept as pass the test
pub count_kept : (t : ℕ → Bool) (n : ℕ) → count_below n t ≡ length (keep t (up_from n 0))
unfolding count_below keep up_from
count_kept t zero = refl
count_kept t (suc n) =
    let z : 0 + n ≡ n = omega arith in
    let e : keep t (up_from (suc n) 0) ≡ keep t (up_from n 0) ++ only (t n) n =
    sym (flat-only t (up_from (suc n) 0)) ∙ flat_up (λ k. only (t k) k) n 0 ∙ ap (λ l. l ++ only (t (0 + n)) (0 + n)) (flat-only t (up_from n 0)) ∙ ap (λ k. keep t (up_from n 0) ++ only (t k) k) z in
    omega (arith, count_kept t n, ap length e, length-append (keep t (up_from n 0)) (only (t n) n), only-length (t n) n)

module _ {A : Type 0} (t : A → Bool) where
  -- nothing passes, or one element does: it is what a search finds
  pub data Kept (xs : List A) : Type 0 where
    nothing : keep t xs ≡ [] → find t xs ≡ none → any t xs ≡ false → Kept xs
    one : (x : A) → keep t xs ≡ x ∷ [] → find t xs ≡ some x → any t xs ≡ true → t x ≡ true → Kept xs

  pub kept : (xs : List A) → length (keep t xs) ≤ 1 → Kept xs
  unfolding keep find any
  kept [] h = nothing refl refl refl
  kept (x ∷ xs) h = go (kept xs) (t x) refl
    where
      empty : (ys : List A) → length (x ∷ ys) ≤ 1 → ys ≡ []
      empty [] l = refl
      empty (y ∷ ys) l = absurd (omega arith)

      go : (length (keep t xs) ≤ 1 → Kept xs) → (b : Bool) → t x ≡ b → Kept (x ∷ xs)
      go ih true e =
          let k : keep t (x ∷ xs) ≡ x ∷ keep t xs = rw (e, keep) in
          one x (k ∙ ap (λ l. x ∷ l) (empty (keep t xs) (rw k at h))) (rw (e, find)) (rw (e, any)) e
      go ih false e = on (ih (rw (e, keep) at h))
        where
          on : Kept xs → Kept (x ∷ xs)
          on (nothing k f a) = nothing (rw (e, keep) k) (rw (e, find) f) (rw (e, any) a)
          on (one y k f a g) = one y (rw (e, keep) k) (rw (e, find) f) (rw (e, any) a) g

  -- a test besides, among those kept
  pub any-kept : (u : A → Bool) (xs : List A) → any (λ (x : A). t x && u x) xs ≡ any u (keep t xs)
  unfolding any keep
  any-kept u [] = refl
  any-kept u (x ∷ xs) = go (t x) (any-kept u xs)
    where
      go : (b : Bool) → any (λ (y : A). t y && u y) xs ≡ any u (keep t xs) → (b && u x) || any (λ (y : A). t y && u y) xs ≡ any u (cond b (x ∷ keep t xs) (keep t xs))
      go true e = rw e
      go false e = e
