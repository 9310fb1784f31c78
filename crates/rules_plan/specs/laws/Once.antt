-- Row 7: an item was given before exactly when an item of its kind in the plan is the same.
use Rattle.std.specs.Prelude.{◌≡◌, List, Bool, ◌||◌}
use Rattle.std.proofs.Common.{ap}
use Rattle.lists.specs.Search.{any, twice}
use Rattle.lists.specs.laws.Search.{any_same}
use Rattle.lists.specs.laws.Bools.{eqb-sym}
use Rattle.rules_plan.specs.Plan.{Device, Link, Route, Entry, Plan, device, link, path, entry, reply}
use Rattle.rules_plan.specs.Meaning.{is_device, is_link, has_route, has_path, leads_from, stands_at}
use Rattle.rules_plan.specs.Judge.{given_before}
use Rattle.rules_plan.specs.Good.{same_device_number, same_link_number, same_path_ends, same_entry_place}

pub given-device : (p : Plan) (d : Device) → given_before p (device d) ≡ any (λ (c : Device). same_device_number c d) p.devices
unfolding given_before is_device same_device_number
given-device p d = any_same _ _ p.devices (λ c _. eqb-sym d.num c.num)

pub given-link : (p : Plan) (l : Link) → given_before p (link l) ≡ any (λ (m : Link). same_link_number m l) p.links
unfolding given_before is_link same_link_number
given-link p l = any_same _ _ p.links (λ m _. eqb-sym l.num m.num)

given-route : (xs : List Route) (x : Route) → has_route xs x.start x.end ≡ any (λ (y : Route). same_path_ends y x) xs
unfolding leads_from same_path_ends
given-route xs x = any_same _ _ xs (λ y _. rw (eqb-sym x.start y.start, eqb-sym x.end y.end))

pub given-path : (p : Plan) (x : Route) → given_before p (path x) ≡ any (λ (y : Route). same_path_ends y x) p.paths
unfolding given_before has_path
given-path p x = given-route p.paths x

pub given-reply : (p : Plan) (x : Route) → given_before p (reply x) ≡ any (λ (y : Route). same_path_ends y x) p.replies
unfolding given_before
given-reply p x = given-route p.replies x

pub given-entry : (p : Plan) (e : Entry) → given_before p (entry e) ≡ any (λ (f : Entry). same_entry_place f e) p.entries || twice e.targets
unfolding given_before stands_at same_entry_place
given-entry p e = ap (λ (b : Bool). b || twice e.targets) (any_same _ _ p.entries (λ f _. rw (eqb-sym e.initiator f.initiator, eqb-sym e.slot f.slot)))
