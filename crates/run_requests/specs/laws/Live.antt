-- Where nothing is live, no number is the live one's.
use Rattle.std.specs.Prelude.{◌≡◌, refl, false, ℕ}
use Rattle.std.proofs.Math.Option.{Option, none, some}
use Rattle.lists.specs.Search.{is_some}
use Rattle.lists.specs.laws.Bools.{not-both}
use Rattle.rules_box.specs.State.{Live}
use Rattle.rules_box.specs.Refuse.{is_live_number}

pub no_number : (m : ℕ) (o : Option Live) → is_some o ≡ false → is_live_number m o ≡ false
unfolding is_some is_live_number
no_number m none h = refl
no_number m (some l) h = not-both refl h
