-- What an event finds in plan memory, of the box that memory holds: the row of an initiator, and so whether there is a plan.
use Rattle.std.specs.Prelude.{◌≡◌, List, true, false, ℕ, ◌≤◌, ◌<◌}
use Rattle.std.proofs.Math.Option.{some}
use Rattle.lists.specs.Search.{is_some}
use Rattle.lists.specs.Place.{at_place}
use Rattle.rules_plan.specs.Meaning.{is_initiator, initiators}
use Rattle.rules_box.specs.State.{Box, the_plan}
use Rattle.memory_plan.specs.laws.Found as plan
use Rattle.memory_plan.specs.laws.Found.{Rowed}
use Rattle.memory_run.specs.Memory.{Finds}

module _ {b : Box} {rows spans aims numbers run last : List ℕ} (f : Finds b rows spans aims numbers run last) (i row : ℕ) (told : Rowed rows numbers i row) where
  pub is-initiator : row < 8 → is_initiator (the_plan b) i ≡ true
  unfolding the_plan
  is-initiator = plan.is-initiator f.plan i row told

  pub plan-by-row : row < 8 → is_some b.plan ≡ true
  plan-by-row = plan.plan-by-row f.plan i row told

  pub its-row : row < 8 → at_place row (initiators (the_plan b)) ≡ some i
  unfolding the_plan
  its-row = plan.its-row f.plan i row told

  pub no-initiator : 8 ≤ row → is_initiator (the_plan b) i ≡ false
  unfolding the_plan
  no-initiator = plan.no-initiator f.plan i row told
