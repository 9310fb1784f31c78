-- In a box with a plan an entry stands somewhere in memory.
use mathlib.Core.Path.{◌≡◌, refl}
use mathlib.Core.List.{List, [], ◌∷◌, Memᴰ}
use mathlib.Core.Option.{Option, none, some}
use Rattle.lists.specs.laws.At.{member-at}
use Rattle.lists.specs.laws.Count.{some-counted}
use Rattle.rules_plan.specs.Plan.{Entry, Plan}
use Rattle.rules_plan.specs.Meaning.{initiators}
use Rattle.rules_plan.specs.Promises.{AcceptedIsSound}
use Rattle.rules_plan.specs.laws.Sound.{Sound}
use Rattle.rules_plan.specs.laws.Runs.{its-initiator, found_at}
use Rattle.rules_box.specs.State.{Box, the_plan}
use Rattle.box_calls.specs.Calls.{Memory}
use Rattle.box_promises.specs.Promises.{HeldBy, EntrySays, SomeEntry, PlanHasAnEntry}
use Rattle.box_promises.proofs.Held.{held, reached-good}
use Rattle.box_promises.proofs.Says.{says}

module _ (m : Memory) (b : Box) (h : HeldBy m b) where
  abbrev sound : Sound (the_plan b)
  sound = h.finds.fit.sound

  -- any entry of the plan is one
  stands-in : (e : Entry) → Memᴰ e (the_plan b).entries → SomeEntry m
  unfolding EntrySays
  stands-in e me =
      let (r, low, at) = member-at (initiators (the_plan b)) e.initiator (its-initiator (the_plan b) sound e me) in
      let own = ((says m b h).row r e.initiator).1 at in
      let told = (says m b h).entry r e.initiator e.slot own (sound.slots e me) in
      record {
        row = r;
        initiator = e.initiator;
        slot = e.slot;
        own = own;
        within = sound.slots e me;
        stands = (rw (found_at (the_plan b) sound e me, EntrySays) at told).0;
      }

  first-stands : (p : Plan) → b.plan ≡ some p → SomeEntry m
  unfolding the_plan
  first-stands p is = go p.entries refl
    where
      go : (es : List Entry) → p.entries ≡ es → SomeEntry m
      go [] e = absurd ((some-counted p.entries).1 (reached-good b h.reached p is).some-entry e)
      go (x ∷ es) e = stands-in x (rw (is, e) (Memᴰ.head refl))

pub plan-has-an-entry : AcceptedIsSound → PlanHasAnEntry
unfolding PlanHasAnEntry
plan-has-an-entry ok m b came some-plan = go b.plan refl
  where
    go : (o : Option Plan) → b.plan ≡ o → SomeEntry m
    go none is = absurd (some-plan is)
    go (some p) is = first-stands m b (held ok m b came) p is
