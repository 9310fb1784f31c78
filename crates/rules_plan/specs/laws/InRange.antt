-- The numbers of a plan whose items are all in range, list by list.
use mathlib.Core.List.{Memᴰ}
use Rattle.std.specs.Prelude.{false}
use Rattle.rules_plan.specs.Plan.{Device, Link, Route, Entry, Plan, device, link, path, entry, reply}
use Rattle.rules_plan.specs.Judge.{out_of_range}
use Rattle.rules_plan.specs.Good.{Each}
use Rattle.rules_plan.specs.laws.Items.{device-in, link-in, path-in, entry_in_lem, reply-in}
use Rattle.rules_plan.specs.laws.Ranges.{DeviceRange, LinkRange, RouteRange, EntryRange, device-range, link-range, route-range, entry-range, reply-range}

module _ (p : Plan) (r : Each p out_of_range false) where
  pub device-ranged : (d : Device) → Memᴰ d p.devices → DeviceRange d
  device-ranged d m = device-range d (r (device d) (device-in p d m))

  pub link-ranged : (l : Link) → Memᴰ l p.links → LinkRange l
  link-ranged l m = link-range l (r (link l) (link-in p l m))

  pub path-ranged : (x : Route) → Memᴰ x p.paths → RouteRange x
  path-ranged x m = route-range x (r (path x) (path-in p x m))

  pub entry-ranged : (e : Entry) → Memᴰ e p.entries → EntryRange e
  entry-ranged e m = entry-range e (r (entry e) (entry_in_lem p e m))

  pub reply-ranged : (x : Route) → Memᴰ x p.replies → RouteRange x
  reply-ranged x m = reply-range x (r (reply x) (reply-in p x m))
