-- Laws of a loop that takes the members of a set, rising, and puts a part for each: the parts put are those of all numbers below 64,
-- where a number that is not in the set has none. Assumes nothing.
use Rattle.std.specs.Prelude.{◌≡◌, Bool, true, false, not, ◌&&◌, ℕ, zero, suc, ◌+◌, ◌-◌, ◌^◌, ◌≤◌, ◌<◌, eqb, length}
use Rattle.std.proofs.Math.Path.{refl, ap}
use Rattle.std.proofs.Common.{sym, ◌∙◌, arith, ne_eqb}
use mathlib.Core.List.{List, [], flat_map, append-nil}
use Rattle.lists.specs.Search.{up_from, below64}
use Rattle.lists.specs.Puts.{Puts}
use Rattle.lists.specs.laws.Puts.{flat_up, Turns, turns-begin, turns_next, turns-done}
use Rattle.bitsets.specs.Set.{member, least_of}
use Rattle.bitsets.specs.Laws.{least-le, least-in, least-before, least-none, least_lt, least-rises}

-- Numbers that have no part are passed over.
pass : {f : ℕ → List ℕ} {l o : List ℕ} {i k n : ℕ} (m : ℕ) → n + m ≤ 64 → ((j : ℕ) → n ≤ j → j < n + m → f j ≡ []) → Turns f 64 l i o k n → Turns f 64 l i o k (n + m)
pass {n} zero h e a = let z : n + 0 ≡ n = omega arith in rw z a
pass {f} {n} (suc m) h e a =
    let b = pass m (omega arith) (λ j x y. e j x (omega arith)) a in
    let s : n + suc m ≡ suc (n + m) = omega arith in
    let z : 0 + (n + m) ≡ n + m = omega arith in
    record { upto = omega arith; same = b.same; puts = rw (s, flat_up f (n + m) 0, z, e (n + m) (omega arith) (omega arith), append-nil (flat_map f (up_from (n + m) 0))) b.puts }

-- The parts of all numbers below the least that is left are put, and from that one on the set has what is left.
pub record Walk (f : ℕ → List ℕ) (set : ℕ) (l : List ℕ) (i : ℕ) (o : List ℕ) (k rest : ℕ) : Type 0 where
  pub off : (n : ℕ) → member n set ≡ false → f n ≡ []
  pub word : rest < 2 ^ 64
  pub turns : Turns f 64 l i o k (least_of rest)
  pub left : (n : ℕ) → least_of rest ≤ n → member n rest ≡ member n set

pub walk-begin : (f : ℕ → List ℕ) (set : ℕ) → ((n : ℕ) → member n set ≡ false → f n ≡ []) → set < 2 ^ 64 → (l : List ℕ) (i : ℕ) → Walk f set l i l i set
walk-begin f set off h l i =
    let z : 0 + least_of set ≡ least_of set = omega arith in
    record {
      off = off;
      word = h;
      turns = rw z at (pass (least_of set) (omega (arith, least-le set)) (λ j _ h. off j (least-before set j (omega arith))) (turns-begin f 64 l i));
      left = λ _ _. refl;
    }

module _ {f : ℕ → List ℕ} {set rest : ℕ} {l o : List ℕ} {i k : ℕ} (w : Walk f set l i o k rest) where
  pub walk-done : rest ≡ 0 → Puts l i (flat_map f below64) o k
  unfolding below64
  walk-done e = turns-done w.turns (omega (arith, (least-none 0 (omega arith)).1 refl, ap least_of e))

  module _ (some : rest ≡ 0 → ⊥) where
    pub walk-low : least_of rest < 64
    walk-low = least_lt rest w.word some

    module _ (r : ℕ) (taken : (k : ℕ) → member k r ≡ (not (eqb k (least_of rest)) && member k rest)) where
      rises : least_of rest < least_of r
      rises = least-rises rest r walk-low taken

      -- The least member left rises to 64.
      pub walk-less : 64 - least_of r < 64 - least_of rest
      walk-less = omega (arith, rises, walk-low)

      others : (n : ℕ) → least_of rest < n → member n r ≡ member n rest
      others n h = taken n ∙ ap (λ (b : Bool). not b && member n rest) (ne_eqb n (least_of rest) (λ e. omega arith))

      pub walk-next : r < 2 ^ 64 → {p ys : List ℕ} {m n : ℕ} → n ≡ least_of rest → (member n set ≡ true → f n ≡ ys) → length p ≡ length o → Puts o k ys p m → Walk f set l i p m r
      walk-next h {p} {ys} {m} e on same puts =
          let up = rises in
          let low = walk-low in
          let here = on (rw e (sym (w.left (least_of rest) (omega arith)) ∙ least-in rest low)) in
          let put : Puts o k (f (least_of rest)) p m = rw (← e, here) puts in
          let z : least_of rest + 1 + (least_of r - (least_of rest + 1)) ≡ least_of r = omega arith in
          record {
            off = w.off;
            word = h;
            turns =
                rw z at (pass (least_of r - (least_of rest + 1)) (omega (arith, least-le r))
                (λ j a b. w.off j (sym (others j (omega arith) ∙ w.left j (omega arith)) ∙ least-before r j (omega arith)))
                (turns_next w.turns low same put));
            left = λ n h. others n (omega arith) ∙ w.left n (omega arith);
          }
