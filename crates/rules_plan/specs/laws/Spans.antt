-- The least span that a transaction fits: it fits a span exactly where that is not shorter. What redefines `fits_in` proves `fits-longer`
-- and `fits-short` again; all else rests on these.
use Rattle.std.specs.Prelude.{◌≡◌, ◌↔◌, Bool, ◌&&◌, ℕ, ◌*◌, ◌≤◌, eqb}
use Rattle.std.proofs.Math.Path.{refl}
use mathlib.Core.List.{List, [], ◌∷◌, Memᴰ}
use Rattle.std.proofs.Math.Bool.{true, false}
use Rattle.std.proofs.Common.{mul-le-mul_right, arith}
use Rattle.std.proofs.Math.Dec.{leb}
use borrow.Author.Tests.{leb-true, leb-false, le-leb, eqb-true, eq-eqb}
use Rattle.lists.specs.Search.{any}
use Rattle.lists.specs.Numbers.{first_from}
use Rattle.lists.specs.laws.Bools.{not-both, both_true, true-both}
use Rattle.lists.specs.laws.Numbers.{Finds, first-from}
use Rattle.lists.specs.laws.Search.{any-elim, any-intro}
use Rattle.rules_plan.specs.Plan.{Route, Times, Plan}
use Rattle.rules_plan.specs.Sheet.{sheet}
use Rattle.rules_plan.specs.Meaning.{leads_from, home_of, routers, takes_at_most, fits_in, least_span}

-- a path from i to t over which, and home, n data bytes take at most so long
pub record InTime (p : Plan) (x : Times) (i t n most : ℕ) : Type 0 where
  pub route : Route
  pub has : Memᴰ route p.paths
  pub from : i ≡ route.start
  pub to : t ≡ route.end
  pub in-time : sheet x (routers route) (routers (home_of p.replies route)) n ≤ most

module _ (p : Plan) (i t n : ℕ) where
  -- without a 06, and with one
  pub fits-untimed : p.times ≡ [] → (k : ℕ) → fits_in p i t n k ≡ leb n (256 * k)
  unfolding fits_in
  fits-untimed e k = rw (e, fits_in)

  module _ (x : Times) (xs : List Times) (timed : p.times ≡ x ∷ xs) (k : ℕ) where
    over : Route → Bool
    over r = leads_from i t r && takes_at_most x n (k * x.slot) r (home_of p.replies r)

    pub fits-timed : (fits_in p i t n k ≡ true) ↔ ((n ≤ 4_096) × InTime p x i t n (k * x.slot))
    unfolding fits_in leads_from takes_at_most over
    fits-timed = (there, back)
      where
        there : fits_in p i t n k ≡ true → (n ≤ 4_096) × InTime p x i t n (k * x.slot)
        there h =
            let (a, b) = both_true (leb n 4_096) (any over p.paths) (rw (timed, fits_in) at h) in
            let (r, m, e) = any-elim over p.paths b in
            let (c, d) = both_true (leads_from i t r) (takes_at_most x n (k * x.slot) r (home_of p.replies r)) e in
            let (f, g) = both_true (eqb i r.start) (eqb t r.end) c in
            (leb-true n 4_096 a, record { route = r; has = m; from = eqb-true i r.start f; to = eqb-true t r.end g; in-time = leb-true _ _ d })

        back : (n ≤ 4_096) × InTime p x i t n (k * x.slot) → fits_in p i t n k ≡ true
        back (short, z) =
            rw (timed, fits_in)
            (true-both (le-leb n 4_096 short)
            (any-intro over p.paths z.route z.has (true-both (true-both (eq-eqb i z.route.start z.from) (eq-eqb t z.route.end z.to)) (le-leb _ _ z.in-time))))

  -- a longer span never permits less
  pub fits-longer : (j k : ℕ) → j ≤ k → fits_in p i t n j ≡ true → fits_in p i t n k ≡ true
  fits-longer j k h f = go p.times refl
    where
      go : (xs : List Times) → p.times ≡ xs → fits_in p i t n k ≡ true
      go [] e = rw (fits-untimed e k) (le-leb n (256 * k) (omega (arith, leb-true n (256 * j) (rw (fits-untimed e j) at f))))
      go (x ∷ xs) e =
          let (short, z) = (fits-timed x xs e j).0 f in
          let more : j * x.slot ≤ k * x.slot = mul-le-mul_right x.slot h in
          (fits-timed x xs e k).1 (short, record { route = z.route; has = z.has; from = z.from; to = z.to; in-time = omega (arith, z.in-time, more) })

  -- what fits 16 slots has at most 4,096 data bytes
  pub fits-short : fits_in p i t n 16 ≡ true → n ≤ 4096
  fits-short f = go p.times refl
    where
      go : (xs : List Times) → p.times ≡ xs → n ≤ 4096
      go [] e = leb-true n 4096 (rw (fits-untimed e 16) at f)
      go (x ∷ xs) e = ((fits-timed x xs e 16).0 f).0

  pub least-span-most : (1 ≤ least_span p i t n) × (least_span p i t n ≤ 17)
  unfolding least_span
  least-span-most = let f = first-from 16 1 (fits_in p i t n) in (f.from, f.upto)

  pub fits-by-least : (k : ℕ) → 1 ≤ k → k ≤ 16 → fits_in p i t n k ≡ leb (least_span p i t n) k
  unfolding least_span
  fits-by-least k low high = go (first_from 16 1 (fits_in p i t n)) (first-from 16 1 (fits_in p i t n)) (fits_in p i t n k) refl
    where
      by : (least : ℕ) → Finds 16 1 (fits_in p i t n) least → (a : Bool) → fits_in p i t n k ≡ a → (b : Bool) → leb least k ≡ b → a ≡ b
      by least s true f true g = refl
      by least s false f false g = refl
      by least s true f false g = not-both f (s.before k low (omega (arith, leb-false least k g)))
      by least s false f true g = let l = leb-true least k g in not-both (fits-longer least k l (s.found (omega (arith, l, high)))) f

      go : (least : ℕ) → Finds 16 1 (fits_in p i t n) least → (a : Bool) → fits_in p i t n k ≡ a → fits_in p i t n k ≡ leb least k
      go least s a f = rw f (by least s a f (leb least k) refl)
