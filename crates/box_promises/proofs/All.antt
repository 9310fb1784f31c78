-- All promises, from those of the plan rules and of the box rules.
use Rattle.rules_plan.specs.Promises as plan
use Rattle.rules_box.specs.Promises as box
use Rattle.box_promises.specs.Promises.{Promises}
use Rattle.box_promises.proofs.Held.{holds-the-box, events-of-the-rules}
use Rattle.box_promises.proofs.Nothing.{clear-leaves-nothing, refused-load, refused-event}
use Rattle.box_promises.proofs.Verdicts.{verdicts-of-the-rules, same-plan-same-memory}
use Rattle.box_promises.proofs.SomeEntry.{plan-has-an-entry}
use Rattle.box_promises.proofs.Back.{writes-the-plan-out}
use Rattle.box_promises.proofs.Says.{words-of-the-box}
use Rattle.box_promises.proofs.Links.{links-never-shared}
use Rattle.box_promises.proofs.Between.{not-even-between}
use Rattle.box_promises.proofs.InTime.{requests-start-in-time}
use Rattle.box_promises.proofs.AtTurn.{next-of-the-rules, starts-at-its-turn}
use Rattle.box_promises.proofs.Entries.{starts-only-at-entries, once-per-visit}
use Rattle.box_promises.proofs.Ends.{live-by-record-only, ends-by-reply-or-record, none-still-live}

pub promised : plan.Promises → box.Promises → Promises
promised p b = let ok = p.sound in record {
  holds = holds-the-box ok;
  words = words-of-the-box ok;
  clear = clear-leaves-nothing;
  refused-load = refused-load b.refused-load;
  refused-event = refused-event ok;
  verdicts = verdicts-of-the-rules p.words p.exactly;
  some-entry = plan-has-an-entry ok;
  same = same-plan-same-memory p.same;
  written = writes-the-plan-out ok p.back;
  events = events-of-the-rules ok;
  links = links-never-shared ok b.links;
  between = not-even-between ok b.as-told;
  in-time = requests-start-in-time ok b.in-time b.this-one;
  next = next-of-the-rules ok;
  at_turn = starts-at-its-turn ok b.at_turn b.this-one;
  entries = starts-only-at-entries ok b.entries;
  once = once-per-visit ok b.once;
  live = live-by-record-only ok b.live;
  ends = ends-by-reply-or-record ok b.ends;
  none-still = none-still-live ok b.none-still;
}
