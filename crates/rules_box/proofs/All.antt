-- All promises, from what an accepted file gives.
use Rattle.rules_box.specs.Promises.{Promises}
use Rattle.rules_plan.specs.Promises.{AcceptedIsSound}
use Rattle.rules_box.proofs.Refusals.{refused-event, refused-load, clear-is-never-loaded}
use Rattle.rules_box.proofs.Links.{links-never-shared, not-even-between}
use Rattle.rules_box.proofs.Places.{this-very-request, joins-as-asked}
use Rattle.rules_box.proofs.InTime.{requests-start-in-time}
use Rattle.rules_box.proofs.AtTurn.{starts-at-its-turn}
use Rattle.rules_box.proofs.Order.{records-in-order, once-per-visit}
use Rattle.rules_box.proofs.Visits.{starts-only-at-entries}
use Rattle.rules_box.proofs.Lives.{live-by-record-only, ends-by-reply-or-record, none-still-live}
use Rattle.rules_box.proofs.Between.{not-even-as-told}
use Rattle.rules_box.proofs.Late.{stepped-back-reads-late}

pub promised : AcceptedIsSound → Promises
promised ok = record {
  refused-event = refused-event;
  refused-load = refused-load;
  clear = clear-is-never-loaded;
  links = links-never-shared ok;
  between = not-even-between ok;
  as-told = not-even-as-told ok;
  in-time = requests-start-in-time ok;
  at_turn = starts-at-its-turn ok;
  this-one = this-very-request ok;
  joins = joins-as-asked;
  entries = starts-only-at-entries;
  once = once-per-visit;
  live = live-by-record-only ok;
  ends = ends-by-reply-or-record ok;
  none-still = none-still-live ok;
  records = records-in-order ok;
  stepped-back = stepped-back-reads-late;
}
