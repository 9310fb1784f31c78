-- What is in range, what has a sheet, and that what the fixed time of any path costs has room in 32 bits.
use Rattle.std.specs.Prelude.{◌≡◌, refl, Bool, true, false, ◌||◌, cond, Some, None, ℕ, ◌+◌, ◌-◌, ◌*◌, ◌/◌, ◌%◌, ◌≤◌, ◌<◌, min, ltb}
use Rattle.std.proofs.Common.{ap, arith, ltb-false, le-ltb, mul_comm, mul-add}
use native.Mathlib.Nat.{mul-le-mul, mul-le-mul_right, mul-div-le}
use Rattle.std.proofs.lemmas.Grind.{div_ceil_times}
use Rattle.std.proofs.Math.Decide.{dec_lt}
use Rattle.lists.specs.laws.Bools.{neither}
use Rattle.rules_plan.specs.Plan.{Times}
use Rattle.rules_plan.specs.Sheet.{NoSheet, Terms, quotient_up, reply_address, crossing, header, data_time, reply_time, sheet, fixed_time, over_million, times_out_of_range, no_sheet, sheet_answer}
use Rattle.rules_plan.specs.laws.Sheets.{TimesRange, up-most, times-range}
use Rattle.time_sheet.specs.Paced.{paced, in_range}
use Rattle.time_sheet.specs.laws.Pace.{none-over, some-within, some-is}

-- a quotient is not more than what is divided
pub up-upto : (n s : ℕ) → 1 ≤ s → quotient_up n s ≤ n
up-upto n s h = (up-most n s n h).1 (omega (arith, mul-le-mul_right n h))

-- multiplied again, it is less than one divisor more
up-again : (n s : ℕ) → s * quotient_up n s ≤ n + (s - 1)
unfolding quotient_up
up-again n s = mul-div-le (n + (s - 1)) s

-- as the library divides
pub div-up : (n s : ℕ) → 1 ≤ s → n / s + min 1 (n % s) ≡ quotient_up n s
div-up n s h =
    let q = n / s + min 1 (n % s) in
    let b = div_ceil_times n s h in
    let most : quotient_up n s ≤ q = (up-most n s q h).1 (omega (arith, b.0, mul_comm s q)) in
    omega (arith, most, least q b.1)
  where
    least : (q : ℕ) → q * s < n + s → q ≤ quotient_up n s
    least q l = go (dec_lt (quotient_up n s) q)
      where
        go : Dec (quotient_up n s < q) → q ≤ quotient_up n s
        go (yes m) =
            let e : (q - 1) + 1 ≡ q = omega arith in
            absurd (omega (arith, (up-most n s (q - 1) h).0 (omega arith), rw e at (mul-add s (q - 1) 1), mul_comm s q))
        go (no m) = omega arith

-- in range exactly where no bound is passed
module _ (x : Times) where
  pub out-of-range : (TimesRange x → ⊥) → None ≡ in_range x
  out-of-range f = go (times_out_of_range x) (times-range x)
    where
      go : (b : Bool) → (b ≡ false → TimesRange x) → None ≡ cond b None (Some x)
      go true h = refl
      go false h = absurd (f (h refl))

  none-passed : TimesRange x → times_out_of_range x ≡ false
  unfolding times_out_of_range over_million
  none-passed r =
      simp (le-ltb x.rate 2 r.some-rate, le-ltb 400 x.rate r.rate, le-ltb 1_000_000 x.a r.a, le-ltb 1_000_000 x.d r.d, le-ltb 1_000_000 x.f r.f, le-ltb 1_000_000 x.g r.g, le-ltb 1_000_000 x.slot r.slot)

  pub within : TimesRange x → Some x ≡ in_range x
  within r = rw (none-passed r)

cost-most : (x : Times) (out home : ℕ) → TimesRange x → out < 256 → home < 256 → x.rate * fixed_time x out home < 4_294_967_296
unfolding fixed_time crossing header reply_time reply_address
cost-most x out home r o h =
    omega (
      arith,
      mul-le-mul {m₁ = 600 * out} {m₂ = 153_000} r.rate (omega arith),
      mul-le-mul {m₁ = 600 * home} {m₂ = 153_000} r.rate (omega arith),
      mul-le-mul r.rate r.a,
      mul-le-mul r.rate r.d,
      mul-le-mul r.rate r.f,
      mul-le-mul r.rate r.g,
      up-again (10_000 * (out + 16 + reply_address home)) x.rate,
      up-again (10_000 * (home + 8)) x.rate,
    )

-- what it costs, by the terms that are worked out
module _ (x : Times) (out home : ℕ) {rate a d f g : ℕ} (v : paced rate a d f g ≡ x) {b c h i : ℕ} (p : b ≡ crossing out) (q : c ≡ header x.rate out home)
    (r : h ≡ crossing home) (s : i ≡ reply_time x.rate home) where
  pub cost-is : rate * (b + c + (h + i) + a + d + f + g) ≡ x.rate * fixed_time x out home
  unfolding fixed_time
  cost-is =
      let same : b + c + (h + i) + a + d + f + g ≡ fixed_time x out home =
      omega (arith, ap (λ (y : Times). y.a) v, ap (λ (y : Times). y.d) v, ap (λ (y : Times). y.f) v, ap (λ (y : Times). y.g) v) in
      rw same (ap (λ (y : Times). y.rate * fixed_time x out home) v)

  pub cost-fits : TimesRange x → out < 256 → home < 256 → rate * (b + c + (h + i) + a + d + f + g) < 4_294_967_296
  cost-fits ok m n = rw cost-is (cost-most x out home ok m n)

-- the answer, by what the code was told
module _ (x : Times) (out home n : ℕ) where
  refused-where : no_sheet x out home n ≡ true → NoSheet 6 ≡ sheet_answer x out home n
  unfolding sheet_answer
  refused-where f = rw (f, sheet_answer)

  pub refused-over : None ≡ in_range x → NoSheet 6 ≡ sheet_answer x out home n
  unfolding no_sheet
  refused-over e = refused-where (rw (none-over x e))

  -- with times in range the routers and the length decide
  pub refused-more : {y : Times} → Some y ≡ in_range x → (out ≤ 7 → home ≤ 7 → n ≤ 4_096 → ⊥) → NoSheet 6 ≡ sheet_answer x out home n
  unfolding no_sheet
  refused-more {y} e f = refused-where (go (no_sheet x out home n) refl)
    where
      go : (b : Bool) → no_sheet x out home n ≡ b → no_sheet x out home n ≡ true
      go true is = is
      go false is =
          let a = neither (times_out_of_range x || ltb 7 out || ltb 7 home) (ltb 4_096 n) is in
          let b = neither (times_out_of_range x || ltb 7 out) (ltb 7 home) a.0 in
          let c = neither (times_out_of_range x) (ltb 7 out) b.0 in
          absurd (f (ltb-false 7 out c.1) (ltb-false 7 home b.1) (ltb-false 4_096 n a.1))

  pub terms-are : {y : Times} → Some y ≡ in_range x → out ≤ 7 → home ≤ 7 → n ≤ 4_096
      → Terms (sheet y out home n) (crossing out) (header y.rate out home) (data_time y.rate n) (crossing home) (reply_time y.rate home) ≡ sheet_answer x out home n
  unfolding sheet_answer no_sheet
  terms-are {y} e o h l = rw (some-is x y e, some-within x y e, le-ltb 7 out o, le-ltb 7 home h, le-ltb 4_096 n l, sheet_answer)
