-- "Writing out": the canonical plan, its bytes, and when plans are the same.
use Rattle.std.specs.Prelude.{◌≡◌, ◌⊎◌, ℕ, min, max}
use mathlib.Core.List.{List, ◌++◌, map, flat_map}
use Rattle.lists.specs.Search.{keep, is_in, below64}
use Rattle.lists.specs.Order.{in_order, Shuffled}
use Rattle.rules_plan.specs.Plan.{Device, Link, Route, Entry, with_targets, Plan, blank, with_devices, with_links, with_paths, with_entries, with_replies, Item, device, link, path, entry, timing, times, reply}
use Rattle.rules_plan.specs.Fields.{field_for}
use Rattle.rules_plan.specs.Judge.{plan, fault, read_file}

-- "a link's smaller device comes first"
unfoldable pub small_first : Link → Link
small_first l = record { num = l.num; one = min l.one l.other; other = max l.one l.other }

-- "Targets rise within an entry": each number that is in the list
unfoldable pub rising : List ℕ → List ℕ
rising ts = keep (λ (t : ℕ). is_in t ts) below64

unfoldable pub with_rising : Entry → Entry
with_rising e = with_targets (rising e.targets) e

-- "Writing out puts fields in order of tag, then by number, by (initiator, target) or by (initiator, slot)." A reply ends at its initiator.
unfoldable pub canonical : Plan → Plan
canonical p =
    with_devices (in_order (λ (d : Device). d.num) p.devices)
    (with_links (map small_first (in_order (λ (l : Link). l.num) p.links))
    (with_paths (in_order (λ (x : Route). x.start) (in_order (λ (x : Route). x.end) p.paths))
    (with_entries (map with_rising (in_order (λ (e : Entry). e.initiator) (in_order (λ (e : Entry). e.slot) p.entries)))
    (with_replies (in_order (λ (x : Route). x.end) (in_order (λ (x : Route). x.start) p.replies)) p))))

-- the items in order of tag, and the bytes of their fields
unfoldable pub items : Plan → List Item
items p = map device p.devices ++ map link p.links ++ map path p.paths ++ map entry p.entries ++ map timing p.timings ++ map times p.times ++ map reply p.replies

unfoldable pub written : Plan → List ℕ
written p = flat_map field_for (items p)

-- the plan that a file gives, in the file's order; and in canonical order, as a box holds it
unfoldable pub given : List ℕ → Plan
given s = elim (read_file s) [ plan p ↦ p | fault n at ↦ blank ]

unfoldable pub plan_of : List ℕ → Plan
plan_of s = canonical (given s)

-- "Plans are the same if they differ in these orders only."
pub record SameLink (l m : Link) : Type 0 where
  pub num : l.num ≡ m.num
  pub ends : ((l.one ≡ m.one) × (l.other ≡ m.other)) ⊎ ((l.one ≡ m.other) × (l.other ≡ m.one))

pub record SameEntry (e f : Entry) : Type 0 where
  pub initiator : e.initiator ≡ f.initiator
  pub slot : e.slot ≡ f.slot
  pub span : e.span ≡ f.span
  pub targets : Shuffled ◌≡◌ e.targets f.targets

pub record SamePlan (p q : Plan) : Type 0 where
  pub devices : Shuffled ◌≡◌ p.devices q.devices
  pub links : Shuffled SameLink p.links q.links
  pub paths : Shuffled ◌≡◌ p.paths q.paths
  pub entries : Shuffled SameEntry p.entries q.entries
  pub timings : p.timings ≡ q.timings
  pub times : p.times ≡ q.times
  pub replies : Shuffled ◌≡◌ p.replies q.replies
