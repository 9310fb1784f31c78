-- The verdict of five numbers, by the first of them.
use Rattle.std.specs.Prelude.{◌≡◌, ◌≢◌, List, ℕ, ◌%◌}
use borrow.Author.Tests.{ne_eqb}
use Rattle.rules_plan.specs.declared.Verdict.TheVariants.{Accepted, Faulty, Overrun, Clash}
use Rattle.rules_plan.specs.Plan.{nth}
use Rattle.c_numbers.specs.Numbers.{verdict_of}

module _ (ns : List ℕ) where
  pub accepted : {d l p e : ℕ} → nth ns 0 ≡ 0 → d ≡ nth ns 1 % 256 → l ≡ nth ns 2 % 256 → p ≡ nth ns 3 % 256 → e ≡ nth ns 4 % 65_536 → Accepted d l p e ≡ verdict_of ns
  unfolding verdict_of
  accepted is a b c d = rw (a, b, c, d, is, verdict_of)

  pub overran : {i s : ℕ} → nth ns 0 ≡ 13 → i ≡ nth ns 1 % 256 → s ≡ nth ns 2 % 256 → Overrun i s ≡ verdict_of ns
  unfolding verdict_of
  overran is a b = rw (a, b, is, verdict_of, is)

  pub clashed : {s i j l : ℕ} → nth ns 0 ≡ 14 → s ≡ nth ns 1 % 256 → i ≡ nth ns 2 % 256 → j ≡ nth ns 3 % 256 → l ≡ nth ns 4 % 256 → Clash s i j l ≡ verdict_of ns
  unfolding verdict_of
  clashed is a b c d = rw (a, b, c, d, is, verdict_of, is, is)

  pub faulty : {n at : ℕ} → nth ns 0 ≢ 0 → nth ns 0 ≢ 13 → nth ns 0 ≢ 14 → n ≡ nth ns 0 % 256 → at ≡ nth ns 1 % 65_536 → Faulty n at ≡ verdict_of ns
  unfolding verdict_of
  faulty f g h a b = rw (a, b, ne_eqb (nth ns 0) 0 f, verdict_of, ne_eqb (nth ns 0) 13 g, ne_eqb (nth ns 0) 14 h)
