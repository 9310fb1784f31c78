-- Memory tells plans apart: good plans that the same arrays hold have one canonical plan.
use Rattle.std.specs.Prelude.{◌≡◌, ◌↔◌, ℕ, ◌<◌}
use Rattle.std.proofs.Common.{sym, ap, ◌∙◌, arith}
use mathlib.Core.List.{List, map, map-id, Memᴰ}
use Rattle.lists.specs.Search.{keep}
use Rattle.lists.specs.Order.{in_order}
use Rattle.lists.specs.laws.OneOrder.{one-order, one-orders}
use Rattle.rules_plan.specs.Plan.{Device, Link, Route, Entry, Times, Plan}
use Rattle.rules_plan.specs.Meaning.{initiators}
use Rattle.rules_plan.specs.Canon.{small_first, with_rising, canonical, SamePlan}
use Rattle.rules_plan.specs.Good.{Good, same_device_number, same_link_number, same_entry_place}
use Rattle.rules_plan.specs.laws.Canonical.{same-plans}
use Rattle.rules_plan.specs.laws.GoodSound.{good-sound}
use Rattle.memory_plan.specs.Memory.{paths_in_order, turned, replies_in_order, Holds}
use Rattle.memory_plan.specs.laws.Replies.{is_given, replies-told}
use Rattle.memory_plan.specs.laws.SameMemory.{SameArrays, same_memory}
use Rattle.memory_plan.specs.laws.ToldPlan.{told-devices, told-links, told-paths, told-initiators, told-timings, told-times}
use Rattle.memory_plan.specs.laws.ToldEntries.{told_entries}

some-rate : (p : Plan) → Good p → (x : Times) → Memᴰ x p.times → 0 < x.rate
some-rate p g x m = omega (arith, ((good-sound p g).times x m).some-rate)

-- equal arrays: one canonical plan
pub one-canonical : (p q : Plan) → Good p → Good q → SameArrays p q → canonical p ≡ canonical q
unfolding canonical same_device_number same_link_number same_entry_place small_first with_rising paths_in_order
one-canonical p q g h s = rw (devices, links, rows_told.0, replies, entries, told-timings p q s.numbers g.timing h.timing, told-times p q s.numbers g.times h.times (some-rate p g) (some-rate q h))
  where
    devices : in_order (λ (d : Device). d.num) p.devices ≡ in_order (λ (d : Device). d.num) q.devices
    devices = sym (map-id _) ∙ one-order (λ d. d) p.devices q.devices (told-devices p q s.sets g.ranges) (told-devices q p (sym s.sets) h.ranges)
        (λ d. d.num) (λ c d e. ap (λ z. z.num) e) g.devices h.devices ∙ map-id _

    links : map small_first (in_order (λ (l : Link). l.num) p.links) ≡ map small_first (in_order (λ (l : Link). l.num) q.links)
    links = one-order small_first p.links q.links (told-links p q s.sets s.ends g.ranges g.links) (told-links q p (sym s.sets) (sym s.ends) h.ranges h.links)
        (λ l. l.num) (λ l m e. ap (λ z. z.num) e) g.links h.links

    rows_told : (paths_in_order p ≡ paths_in_order q) × (replies_in_order p ≡ replies_in_order q)
    rows_told = told-paths p q s.numbers g h s.paths

    replies : in_order (λ (y : Route). y.end) (in_order (λ (y : Route). y.start) p.replies) ≡ in_order (λ (y : Route). y.end) (in_order (λ (y : Route). y.start) q.replies)
    replies = replies-told p g.lengths g.paths g.replies g.reached ∙ ap (λ (xs : List Route). map turned (keep is_given xs)) rows_told.1
        ∙ sym (replies-told q h.lengths h.paths h.replies h.reached)

    rows : initiators p ≡ initiators q
    rows = told-initiators p q s.numbers s.rows

    entries : map with_rising (in_order (λ (e : Entry). e.initiator) (in_order (λ (e : Entry). e.slot) p.entries))
        ≡ map with_rising (in_order (λ (e : Entry). e.initiator) (in_order (λ (e : Entry). e.slot) q.entries))
    entries = one-orders with_rising p.entries q.entries
        (told_entries p q rows g.eight g s.spans s.aims) (told_entries q p (sym rows) h.eight h (sym s.spans) (sym s.aims))
        (λ e. e.initiator) (λ e. e.slot) (λ e f k. ap (λ z. z.initiator) k) (λ e f k. ap (λ z. z.slot) k) g.entries h.entries

-- arrays that hold two plans
pub holds-both : {p q : Plan} {sets ends rows reach paths spans aims numbers : List ℕ}
    → Holds p sets ends rows reach paths spans aims numbers → Holds q sets ends rows reach paths spans aims numbers → SameArrays p q
holds-both h k = record {
  sets = sym h.sets ∙ k.sets;
  ends = sym h.ends ∙ k.ends;
  rows = sym h.rows ∙ k.rows;
  reach = sym h.reach ∙ k.reach;
  paths = sym h.paths ∙ k.paths;
  spans = sym h.spans ∙ k.spans;
  aims = sym h.aims ∙ k.aims;
  numbers = sym h.numbers ∙ k.numbers;
}

-- what memory holds is one plan, up to its orders
pub one-memory : (p q : Plan) → Good p → Good q → (sets ends rows reach paths spans aims numbers : List ℕ)
    → Holds p sets ends rows reach paths spans aims numbers → Holds q sets ends rows reach paths spans aims numbers → canonical p ≡ canonical q
one-memory p q g h sets ends rows reach paths spans aims numbers m n = one-canonical p q g h (holds-both m n)

-- plans have equal memory exactly when they are the same
pub memory-same : (p q : Plan) → Good p → Good q → SamePlan p q ↔ SameArrays p q
memory-same p q g h = (λ s. same_memory s g, λ a. (same-plans p q g h).1 (one-canonical p q g h a))
