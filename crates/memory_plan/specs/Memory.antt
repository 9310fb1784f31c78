-- Plan memory: eight arrays that the caller lends, each a function of the plan that it holds, unused cells 0.
-- So equal plans have equal memory, and the memory of no plan, all 0, is that of the blank plan.
use Rattle.std.specs.Prelude.{◌≡◌, ℕ, ◌+◌, ◌*◌, ◌/◌, ◌%◌, min, max, Bool, false, cond, length, ltb, eqb}
use mathlib.Core.List.{List, [], ◌∷◌, ◌++◌, map, flat_map}
use Rattle.std.proofs.Math.Option.{Option, none, some}
use Rattle.lists.specs.Search.{find, is_in}
use Rattle.lists.specs.Place.{at_place}
use Rattle.lists.specs.Order.{in_order}
use Rattle.lists.specs.Cells.{cells, padded}
use Rattle.bitsets.specs.Set.{packed}
use Rattle.rules_plan.specs.Plan.{nth, Link, Route, Entry, Times, Plan}
use Rattle.rules_plan.specs.Sheet.{fixed_time}
use Rattle.rules_plan.specs.Meaning.{has_kind, is_link, leads_from, has_path, initiators, home_of, routers, entry_at, least_of, greatest_of, times_of}
use Rattle.rules_plan.specs.Canon.{written}

-- `sets`: the nodes, the routers and the links that are given, each a word
unfoldable pub sets_of : Plan → List ℕ
sets_of p = packed (has_kind p 0) ∷ packed (has_kind p 1) ∷ packed (is_link p) ∷ []

-- `ends`: of link n the smaller device at 2n and the greater at 2n + 1
unfoldable pub end_of : ℕ → Option Link → ℕ
end_of side none = 0
end_of side (some l) = cond (eqb side 0) (min l.one l.other) (max l.one l.other)

unfoldable pub ends_of : Plan → List ℕ
ends_of p = cells 128 (λ (n : ℕ). end_of (n % 2) (find (λ (l : Link). eqb (n / 2) l.num) p.links))

-- `rows`: the initiators, rising. The place of an initiator here is its row in the arrays below.
unfoldable pub rows_of : Plan → List ℕ
rows_of p = padded 8 0 (initiators p)

-- what f gives for the initiator of row r, 0 where there is none
unfoldable pub of_row : Plan → ℕ → (ℕ → ℕ) → ℕ
of_row p r f = elim (at_place r (initiators p)) [ none ↦ 0 | some i ↦ f i ]

-- `reach`: for each row the targets to which its initiator has a path
unfoldable pub reach_of : Plan → List ℕ
reach_of p = cells 8 (λ (r : ℕ). of_row p r (λ (i : ℕ). packed (has_path p i)))

-- `paths`: eleven bytes for each path, in the order of writing out: initiator, target, number of links, eight places for the links; and behind
-- them, in a second list of as many places, those of the replies that come home another way, each at the place of its path
unfoldable pub path_row : Route → List ℕ
path_row x = x.start ∷ x.end ∷ length x.links ∷ padded 8 0 x.links

unfoldable pub paths_in_order : Plan → List Route
paths_in_order p = in_order (λ (x : Route). x.start) (in_order (λ (x : Route). x.end) p.paths)

-- the reply of path x, among the replies ys, as its row has it: the initiator first; a row of 0 where it has none
unfoldable pub turned : Route → Route
turned y = record { start = y.end; end = y.start; links = y.links }

unfoldable pub no_route : Route
no_route = record { start = 0; end = 0; links = [] }

unfoldable pub reply_of : List Route → Route → Route
reply_of ys x = elim (find (leads_from x.end x.start) ys) [ none ↦ no_route | some y ↦ turned y ]

unfoldable pub replies_in_order : Plan → List Route
replies_in_order p = map (reply_of p.replies) (paths_in_order p)

-- a list of 128 places
unfoldable pub places_for : List Route → List ℕ
places_for xs = padded 1408 0 (flat_map path_row xs)

unfoldable pub paths_of : Plan → List ℕ
paths_of p = places_for (paths_in_order p) ++ places_for (replies_in_order p)

-- `spans` and `aims`: at 64 × row + slot the span of the entry that stands there, 0 for none, and the set of its targets
unfoldable pub span_of : Option Entry → ℕ
span_of none = 0
span_of (some e) = e.span

unfoldable pub spans_of : Plan → List ℕ
spans_of p = cells 512 (λ (n : ℕ). of_row p (n / 64) (λ (i : ℕ). span_of (entry_at p.entries i (n % 64))))

unfoldable pub aim_of : Option Entry → ℕ
aim_of none = 0
aim_of (some e) = packed (λ (t : ℕ). is_in t e.targets)

unfoldable pub slot_aims : Plan → List ℕ
slot_aims p = cells 512 (λ (n : ℕ). of_row p (n / 64) (λ (i : ℕ). aim_of (entry_at p.entries i (n % 64))))

-- T-04: "a summary for each pair of initiator and target", the same turned round. At 64 × row + target the set of the slots at which an entry
-- stands that has the target; and at 16 × row + k the set of those at which an entry stands whose span is over k.
unfoldable pub has_target : ℕ → Option Entry → Bool
has_target t none = false
has_target t (some e) = is_in t e.targets

unfoldable pub longer_than : ℕ → Option Entry → Bool
longer_than k none = false
longer_than k (some e) = ltb k e.span

-- the slots at which initiator i has an entry, among the entries es, that passes a test
unfoldable pub slots_with : (Option Entry → Bool) → List Entry → ℕ → ℕ
slots_with g es i = packed (λ (v : ℕ). g (entry_at es i v))

unfoldable pub turns_of : Plan → List ℕ
turns_of p = cells 512 (λ (n : ℕ). of_row p (n / 64) (slots_with (has_target (n % 64)) p.entries))

unfoldable pub long_of : Plan → List ℕ
long_of p = cells 128 (λ (n : ℕ). of_row p (n / 16) (slots_with (longer_than (n % 16)) p.entries))

-- the summary stands behind the aims of the slots
unfoldable pub aims_of : Plan → List ℕ
aims_of p = slot_aims p ++ (turns_of p ++ long_of p)

-- the fixed time of a path by the rate, 0 where there is none; and at 64 × row + target that of the path from the row's initiator, with the
-- times x and among the replies ys and the paths xs
unfoldable pub cost_of : Times → List Route → Option Route → ℕ
cost_of x ys none = 0
cost_of x ys (some r) = x.rate * fixed_time x (routers r) (routers (home_of ys r))

unfoldable pub costs_among : Plan → Times → (ys xs : List Route) → List ℕ
costs_among p x ys xs = cells 512 (λ (n : ℕ). of_row p (n / 64) (λ (i : ℕ). cost_of x ys (find (leads_from i (n % 64)) xs)))

abbrev pub costs_of : Plan → List ℕ
costs_of p = costs_among p (times_of p.times) p.replies p.paths

-- `numbers`: least and greatest interval, how many initiators, paths and entries there are, and the size of the plan written out; the rate,
-- the latencies, a slot by the rate, and the fixed times. A plan that is accepted has a greatest interval of 1 at least: that it is not 0
-- says that there is a plan; and its rate is 2 at least: that it is 0 says that it carries no times.
unfoldable pub numbers_with : ℕ → Plan → List ℕ
numbers_with size p =
    least_of p.timings
    ∷ greatest_of p.timings
    ∷ length (initiators p)
    ∷ length p.paths
    ∷ length p.entries
    ∷ size
    ∷ (times_of p.times).rate
    ∷ (times_of p.times).a
    ∷ (times_of p.times).d
    ∷ (times_of p.times).f
    ∷ (times_of p.times).g
    ∷ (times_of p.times).rate * (times_of p.times).slot
    ∷ costs_of p

-- its places, as contracts name them
abbrev pub greatest_in : List ℕ → ℕ
greatest_in numbers = nth numbers 1

abbrev pub initiators_in : List ℕ → ℕ
initiators_in numbers = nth numbers 2

abbrev pub paths_in : List ℕ → ℕ
paths_in numbers = nth numbers 3

abbrev pub rate_in : List ℕ → ℕ
rate_in numbers = nth numbers 6

abbrev pub slot_in : List ℕ → ℕ
slot_in numbers = nth numbers 11

abbrev pub cost_in : List ℕ → (row target : ℕ) → ℕ
cost_in numbers row target = nth numbers (12 + row * 64 + target)

-- the eight arrays hold plan p, with any size for that of the plan written out
pub record HoldsSized (size : ℕ) (p : Plan) (sets' ends' rows' reach' paths' spans' aims' numbers' : List ℕ) : Type 0 where
  pub sets : sets' ≡ sets_of p
  pub ends : ends' ≡ ends_of p
  pub rows : rows' ≡ rows_of p
  pub reach : reach' ≡ reach_of p
  pub paths : paths' ≡ paths_of p
  pub spans : spans' ≡ spans_of p
  pub aims : aims' ≡ aims_of p
  pub numbers : numbers' ≡ numbers_with size p

-- with its own size
abbrev pub numbers_of : Plan → List ℕ
numbers_of p = numbers_with (length (written p)) p

abbrev pub Holds : Plan → (sets' ends' rows' reach' paths' spans' aims' numbers' : List ℕ) → Type 0
Holds p = HoldsSized (length (written p)) p
