-- Marks one after the other.
use Rattle.std.specs.Prelude.{◌≡◌, refl, List, Bool, true, false, ◌&&◌, ◌||◌, ℕ, ◌^◌, ◌<◌, length, set, eqb}
use Rattle.std.proofs.Common.{ap, ◌∙◌, arith, length-set, get_or-set_same, get_or-set_other, eq-eqb, ne_eqb}
use Rattle.std.proofs.Math.Decide.{ℕ_discrete}
use Rattle.bitsets.specs.Set.{member, alone, added}
use Rattle.rules_plan.specs.Plan.{nth}
use Rattle.load_turns.specs.Marked.{Marked}

-- no mark, and marks that are the same
pub marked-none : (slot : ℕ) (xs : List ℕ) → Marked (λ (n : ℕ). false) slot xs xs
marked-none slot xs = record { as_many = refl; words = λ n v _. refl; fit = λ f. f }

pub marked-same : {f g : ℕ → Bool} (slot : ℕ) (xs ys : List ℕ) → ((n : ℕ) → f n ≡ g n) → Marked f slot xs ys → Marked g slot xs ys
marked-same slot xs ys e m = record {
  as_many = m.as_many;
  words = λ n v l. m.words n v l ∙ ap (λ (b : Bool). (b && alone slot v) || member v (nth xs n)) (e n);
  fit = m.fit;
}

-- one set of marks after another
twice-marked : (a b s w : Bool) → ((b && s) || ((a && s) || w)) ≡ (((a || b) && s) || w)
twice-marked true true true w = refl
twice-marked true true false w = refl
twice-marked true false true w = refl
twice-marked true false false w = refl
twice-marked false true true w = refl
twice-marked false true false w = refl
twice-marked false false true w = refl
twice-marked false false false w = refl

pub marked-both : {f g : ℕ → Bool} (slot : ℕ) (xs ys zs : List ℕ) → Marked f slot xs ys → Marked g slot ys zs → Marked (λ (n : ℕ). f n || g n) slot xs zs
marked-both {f} {g} slot xs ys zs a b = record {
  as_many = b.as_many ∙ a.as_many;
  words = λ n v l.
      b.words n v (omega (arith, a.as_many)) ∙ ap (λ (w : Bool). (g n && alone slot v) || w) (a.words n v l)
      ∙ twice-marked (f n) (g n) (alone slot v) (member v (nth xs n));
  fit = λ h. b.fit (a.fit h);
}

-- one word stored with the slot added
pub marked-one : (slot : ℕ) (xs : List ℕ) (at word : ℕ) → at < length xs → word < 2 ^ 64 → ((v : ℕ) → member v word ≡ added slot (nth xs at) v)
    → Marked (λ (n : ℕ). eqb n at) slot xs (set xs at word)
marked-one slot xs at word l small is = record {
  as_many = length-set xs at word;
  words = λ n v _. go n v (ℕ_discrete n at);
  fit = λ h n. below h n (ℕ_discrete n at);
}
  where
    go : (n v : ℕ) → Dec (n ≡ at) → member v (nth (set xs at word) n) ≡ ((eqb n at && alone slot v) || member v (nth xs n))
    go n v (yes e) = rw (e, eq-eqb at at refl, get_or-set_same xs at word 0 l) (is v)
    go n v (no d) = rw (ne_eqb n at d, get_or-set_other xs at n word 0 d)

    below : ((n : ℕ) → nth xs n < 2 ^ 64) → (n : ℕ) → Dec (n ≡ at) → nth (set xs at word) n < 2 ^ 64
    below h n (yes e) = rw (e, get_or-set_same xs at word 0 l) small
    below h n (no d) = rw (get_or-set_other xs at n word 0 d) (h n)
