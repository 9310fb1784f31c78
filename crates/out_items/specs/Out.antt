-- The bytes that writing out puts for a device, a link, the intervals and the times, as the code finds them in plan memory.
use Rattle.std.specs.Prelude.{ℕ, ◌+◌, ◌*◌, ◌/◌, ◌%◌, List, [], ◌||◌, cond, eqb}
use Rattle.lists.specs.Numbers.{digit}
use Rattle.bitsets.specs.Set.{member}
use Rattle.rules_plan.specs.Plan.{nth}
use Rattle.rules_plan.specs.Fields.{field_for}
use Rattle.memory_plan.specs.Memory.{rate_in, slot_in}
use Rattle.memory_plan.specs.Take.{device_item, link_item, timing_item, times_item}

-- of device n, a node (kind 0) or a router (kind 1), where it is one
unfoldable pub device_bytes : ℕ → ℕ → ℕ → List ℕ
device_bytes nodes routers n = cond (member n nodes || member n routers) (field_for (device_item n (digit (member n routers)))) []

-- of link n, where it is one
unfoldable pub link_bytes : ℕ → List ℕ → ℕ → List ℕ
link_bytes links ends n = cond (member n links) (field_for (link_item n (nth ends (2 * n)) (nth ends (2 * n + 1)))) []

-- of the intervals
unfoldable pub timing_bytes : ℕ → ℕ → List ℕ
timing_bytes least greatest = field_for (timing_item least greatest)

-- of the times, where there is a rate; the slot is kept by the rate
unfoldable pub times_bytes : List ℕ → List ℕ
times_bytes numbers =
    cond (eqb (rate_in numbers) 0) []
    (field_for (times_item (rate_in numbers % 65_536) (nth numbers 7) (nth numbers 8) (nth numbers 9) (nth numbers 10) (slot_in numbers / rate_in numbers)))
