-- The memory of no plan is that of the blank plan, all 0, and no good plan has it.
use Rattle.std.specs.Prelude.{◌≡◌, refl, ◌≢◌, ℕ, ◌<◌, length, replicate}
use mathlib.Core.List.Memᴰ
use mathlib.Core.List.{List, [], ◌∷◌, flat_map}
use Rattle.std.proofs.Common.{arith}
use Rattle.lists.specs.Search.{any, keep, find, up_from, below64}
use Rattle.lists.specs.Numbers.{digit}
use Rattle.lists.specs.Place.{at_place}
use Rattle.lists.specs.Order.{in_order}
use Rattle.lists.specs.Cells.{cells, padded}
use Rattle.bitsets.specs.Set.{packed, packed_below}
use Rattle.rules_plan.specs.Meaning.{has_kind, is_link, is_initiator, initiators, has_path, entry_at, least_of, greatest_of, times_of}
use Rattle.rules_plan.specs.Canon.{items, written}
use Rattle.rules_plan.specs.Plan.{nth, Timing, Plan, blank, timing}
use Rattle.rules_plan.specs.Good.{Good}
use Rattle.rules_plan.specs.laws.Items.{timing-in}
use Rattle.rules_plan.specs.laws.Ranges.{timing-range}
use Rattle.memory_plan.specs.Memory.{sets_of, end_of, ends_of, rows_of, of_row, reach_of, paths_in_order, replies_in_order, places_for, paths_of, spans_of, slot_aims, turns_of, long_of, aims_of, cost_of, costs_among, numbers_with, Holds}

-- every array of the blank plan is all 0
pub holds-blank : Holds blank (replicate 3 0) (replicate 128 0) (replicate 8 0) (replicate 8 0) (replicate 2816 0) (replicate 512 0) (replicate 1152 0) (replicate 524 0)
unfolding
    blank sets_of ends_of end_of rows_of reach_of of_row paths_of places_for paths_in_order replies_in_order spans_of slot_aims turns_of long_of aims_of cost_of costs_among numbers_with least_of greatest_of times_of
    has_kind is_link initiators is_initiator has_path entry_at written items packed packed_below digit cells padded in_order flat_map find keep any at_place up_from below64
holds-blank = record { sets = refl; ends = refl; rows = refl; reach = refl; paths = refl; spans = refl; aims = refl; numbers = refl }

-- the greatest interval of a good plan is not 0
pub good-greatest : (p : Plan) → Good p → 0 < greatest_of p.timings
unfolding greatest_of
good-greatest p g = go p.timings refl
  where
    go : (ts : List Timing) → p.timings ≡ ts → 0 < greatest_of ts
    go [] e = let z : length p.timings ≡ 0 = rw e in absurd (omega (arith, g.timing))
    go (t ∷ ts) e = (timing-range t (g.ranges (timing t) (timing-in p t (rw e (Memᴰ.head refl))))).some

-- so a good plan's memory is not the memory of no plan
pub good-not-blank : (p : Plan) → Good p → (sets ends rows reach paths spans aims numbers : List ℕ)
    → Holds p sets ends rows reach paths spans aims numbers → nth numbers 1 ≢ 0
unfolding numbers_with
good-not-blank p g sets ends rows reach paths spans aims numbers h z =
    let e : nth numbers 1 ≡ greatest_of p.timings = rw h.numbers in
    omega (arith, good-greatest p g)
