-- The sheet: a quotient rounded up is told by a product, so that whether a transaction is over in time is asked with no division; what is
-- longer takes longer; and the bounds of a rate, of latencies and of a slot length that are in range.
use Rattle.std.specs.Prelude.{◌≡◌, ◌↔◌, false, ◌||◌, ℕ, ◌+◌, ◌-◌, ◌*◌, ◌≤◌, ◌<◌, ltb}
use Rattle.std.proofs.Common.{⊎_elim, le_refl, eq-zero-or-pos, mul_comm, mul-add, div-lt_iff_lt-mul, ltb-false}
use Rattle.std.proofs.Math.Nat.{mul_left_comm, mul-pos, le_of_mul-le-mul_left, div-zero}
use native.Mathlib.Omega.{arith}
use Rattle.lists.specs.laws.Bools.{neither}
use Rattle.rules_plan.specs.Plan.{Times}
use Rattle.rules_plan.specs.Sheet.{quotient_up, reply_address, header, data_time, sheet, fixed_time, over_million, times_out_of_range}

pub up-most : (n s y : ℕ) → 1 ≤ s → (quotient_up n s ≤ y) ↔ (n ≤ s * y)
unfolding quotient_up
up-most n s y h =
    let e : (y + 1) * s ≡ s * y + s = omega (arith, mul_comm s y) in
    let i = div-lt_iff_lt-mul {k = s} {x = n + (s - 1)} {y = y + 1} h in
    (λ q. omega (arith, i.0 (omega arith), e), λ p. omega (arith, i.1 (omega (arith, e))))

-- with f before it, in the time t: both multiplied by the divisor
up-within : (n s f t : ℕ) → 1 ≤ s → (f + quotient_up n s ≤ t) ↔ (n + s * f ≤ s * t)
up-within n s f t h = (λ q. to q (omega (arith, q)), λ p. from p (le_of_mul-le-mul_left (omega (arith, p)) h))
  where
    -- what is left of t behind f
    rest : f ≤ t → s * t ≡ s * (t - f) + s * f
    rest l = let e : (t - f) + f ≡ t = omega arith in rw e at (mul-add s (t - f) f)

    to : f + quotient_up n s ≤ t → f ≤ t → n + s * f ≤ s * t
    to q l = omega (arith, (up-most n s (t - f) h).0 (omega (arith, q)), rest l)

    from : n + s * f ≤ s * t → f ≤ t → f + quotient_up n s ≤ t
    from p l = omega (arith, (up-most n s (t - f) h).1 (omega (arith, p, rest l)))

-- a quotient of more is not less, by 0 too: that is always 0
up-longer : (m n s : ℕ) → m ≤ n → quotient_up m s ≤ quotient_up n s
unfolding quotient_up
up-longer m n s h = ⊎_elim none some (eq-zero-or-pos s)
  where
    none : s ≡ 0 → quotient_up m s ≤ quotient_up n s
    none z = rw (z, div-zero (m + (0 - 1)), div-zero (n + (0 - 1))) (le_refl 0)

    some : 0 < s → quotient_up m s ≤ quotient_up n s
    some z = (up-most m s (quotient_up n s) z).1 (omega (arith, h, (up-most n s (quotient_up n s) z).0 (le_refl (quotient_up n s))))

-- a quotient of something is something
up-some : (n s : ℕ) → 1 ≤ n → 1 ≤ s → 1 ≤ quotient_up n s
up-some n s m h = ⊎_elim (λ z. omega (arith, (up-most n s 0 h).0 (omega (arith, z)))) (λ p. p) (eq-zero-or-pos (quotient_up n s))

module _ (x : Times) (out home : ℕ) where
  pub sheet-fixed : (n : ℕ) → sheet x out home n ≡ fixed_time x out home + data_time x.rate n
  unfolding sheet fixed_time
  sheet-fixed n = omega arith

  -- in so many slots: with no quotient, and of the plan and the path one product
  pub fits-product : (n k : ℕ)
      → 1 ≤ x.rate
      → (sheet x out home n ≤ k * x.slot) ↔ (10_000 * (n + 1) + x.rate * fixed_time x out home ≤ k * (x.rate * x.slot))
  unfolding data_time
  fits-product n k h =
      rw (sheet-fixed n, mul_left_comm k x.rate x.slot) (up-within (10_000 * (n + 1)) x.rate (fixed_time x out home) (k * x.slot) h)

  -- what is longer takes longer
  pub sheet-longer : (m n : ℕ) → m ≤ n → sheet x out home m ≤ sheet x out home n
  unfolding data_time
  sheet-longer m n h = omega (arith, sheet-fixed m, sheet-fixed n, up-longer (10_000 * (m + 1)) (10_000 * (n + 1)) x.rate (omega arith))

  -- not even nothing takes no time
  pub fixed-some : 1 ≤ x.rate → 1 ≤ x.rate * fixed_time x out home
  unfolding fixed_time header
  fixed-some h = mul-pos h (omega (arith, up-some (10_000 * (out + 16 + reply_address home)) x.rate (omega arith) h))

pub record TimesRange (x : Times) : Type 0 where
  pub some-rate : 2 ≤ x.rate
  pub rate : x.rate ≤ 400
  pub a : x.a ≤ 1_000_000
  pub d : x.d ≤ 1_000_000
  pub f : x.f ≤ 1_000_000
  pub g : x.g ≤ 1_000_000
  pub slot : x.slot ≤ 1_000_000

upto-million : (n : ℕ) → over_million n ≡ false → n ≤ 1_000_000
unfolding over_million
upto-million n h = ltb-false 1_000_000 n h

pub times-range : (x : Times) → times_out_of_range x ≡ false → TimesRange x
unfolding times_out_of_range
times-range x h =
    let r = ltb x.rate 2 || ltb 400 x.rate in
    let g = neither (r || over_million x.a || over_million x.d || over_million x.f || over_million x.g) (over_million x.slot) h in
    let f = neither (r || over_million x.a || over_million x.d || over_million x.f) (over_million x.g) g.0 in
    let d = neither (r || over_million x.a || over_million x.d) (over_million x.f) f.0 in
    let a = neither (r || over_million x.a) (over_million x.d) d.0 in
    let b = neither r (over_million x.a) a.0 in
    let c = neither (ltb x.rate 2) (ltb 400 x.rate) b.0 in
    record {
      some-rate = ltb-false x.rate 2 c.0;
      rate = ltb-false 400 x.rate c.1;
      a = upto-million x.a b.1;
      d = upto-million x.d a.1;
      f = upto-million x.f d.1;
      g = upto-million x.g f.1;
      slot = upto-million x.slot g.1;
    }
