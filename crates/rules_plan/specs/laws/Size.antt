-- How many devices, links and entries a good plan has at most.
use Rattle.std.specs.Prelude.{◌≤◌, length}
use borrow.Author.Tests.{eq-eqb}
use Rattle.lists.specs.laws.Pigeonhole.{below64-most}
use Rattle.rules_plan.specs.Plan.{Device, Link, Plan, device, link}
use Rattle.rules_plan.specs.Good.{Good, same_device_number, same_link_number}
use Rattle.rules_plan.specs.laws.Ranges.{device-range, link-range}
use Rattle.rules_plan.specs.laws.Items.{device-in, link-in}
use Rattle.rules_plan.specs.laws.Entries.{entries-most}

module _ (p : Plan) (good : Good p) where
  pub most-devices : length p.devices ≤ 64
  unfolding same_device_number
  most-devices = below64-most same_device_number (λ (d : Device). d.num) p.devices (λ c d e. eq-eqb c.num d.num e) (λ d m. (device-range d (good.ranges (device d) (device-in p d m))).num) good.devices

  pub most-links : length p.links ≤ 64
  unfolding same_link_number
  most-links = below64-most same_link_number (λ (l : Link). l.num) p.links (λ l m e. eq-eqb l.num m.num e) (λ l m. (link-range l (good.ranges (link l) (link-in p l m))).num) good.links

  pub most-entries : length p.entries ≤ 512
  most-entries = entries-most p good.lengths good.ranges good.reached good.entries good.eight
