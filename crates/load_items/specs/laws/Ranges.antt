-- Whether a number is over 63, from the comparison that code makes.
use Rattle.std.specs.Prelude.{◌≡◌, true, false, ℕ, ◌≤◌, ◌<◌}
use Rattle.std.proofs.Common.{lt-ltb, le-ltb}
use Rattle.rules_plan.specs.Judge.{over63}

pub over : (n : ℕ) → 63 < n → over63 n ≡ true
unfolding over63
over n h = lt-ltb 63 n h

pub under : (n : ℕ) → n ≤ 63 → over63 n ≡ false
unfolding over63
under n h = le-ltb 63 n h
