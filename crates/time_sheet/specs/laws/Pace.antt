-- A rate and latencies in range or out of it, whatever the slot length.
use Rattle.std.specs.Prelude.{◌≡◌, refl, Bool, true, false, cond, Some, None}
use Rattle.std.proofs.Math.Bool.{or-false}
use Rattle.rules_plan.specs.Plan.{Times}
use Rattle.rules_plan.specs.Sheet.{over_million, times_out_of_range}
use Rattle.time_sheet.specs.Paced.{paced, in_range}

pub pace-over : (x : Times) → times_out_of_range (paced x.rate x.a x.d x.f x.g) ≡ true → times_out_of_range x ≡ true
unfolding times_out_of_range over_million
pace-over x h = rw (rw or-false at h)

-- which of the two the code was told
pub none-over : (x : Times) → None ≡ in_range x → times_out_of_range x ≡ true
none-over x = go (times_out_of_range x)
  where
    go : (b : Bool) → None ≡ cond b None (Some x) → b ≡ true
    go true e = refl
    go false e = absurd cc

pub some-within : (x y : Times) → Some y ≡ in_range x → times_out_of_range x ≡ false
some-within x y = go (times_out_of_range x)
  where
    go : (b : Bool) → Some y ≡ cond b None (Some x) → b ≡ false
    go true e = absurd cc
    go false e = refl

pub some-is : (x y : Times) → Some y ≡ in_range x → y ≡ x
some-is x y = go (times_out_of_range x)
  where
    go : (b : Bool) → Some y ≡ cond b None (Some x) → y ≡ x
    go true e = absurd cc
    go false e = cc
