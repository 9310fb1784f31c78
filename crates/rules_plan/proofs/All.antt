-- All that is promised of the definitions.
use Rattle.rules_plan.specs.Promises.{Promises}
use Rattle.rules_plan.proofs.Meaning.{covers-as-worded, uses-as-worded, home-as-worded, permits-as-worded, longer-takes-longer}
use Rattle.rules_plan.proofs.Turns.{next-as-worded, no-turn-as-worded}
use Rattle.rules_plan.proofs.Walks.{walks-as-worded}
use Rattle.rules_plan.proofs.Words.{verdicts-as-worded, no-entry-meets-nothing}
use Rattle.rules_plan.proofs.Exactly.{accepted-exactly}
use Rattle.rules_plan.proofs.Back.{same-plans, comes_back, accepted-sound}

pub promised : Promises
promised = record {
  covers = covers-as-worded;
  uses = uses-as-worded;
  home = home-as-worded;
  permits = permits-as-worded;
  longer = longer-takes-longer;
  next = next-as-worded;
  no-turn = no-turn-as-worded;
  walks = walks-as-worded;
  words = verdicts-as-worded;
  alone = no-entry-meets-nothing;
  exactly = accepted-exactly;
  same = same-plans;
  back = comes_back;
  sound = accepted-sound;
}
