-- The verdict on a route, a path or the way of a reply.
use Rattle.std.specs.Prelude.{ℕ, List, [], ◌∷◌, Bool}
use Rattle.lists.specs.Rows.{first_of}
use Rattle.rules_plan.specs.Plan.{Route, Plan}
use Rattle.rules_plan.specs.Judge.{route_out_of_range, route_not_given, route_no_walk}

-- the route, from its numbers
abbrev pub route : ℕ → ℕ → List ℕ → Route
route a b ls = record { start = a; end = b; links = ls }

-- rows 6 to 11 of it: 6, 8 and 10 are the same for both kinds; 7, 9 and 11 are asked for each by itself
unfoldable pub route_fault : Plan → Route → (again many alone : Bool) → ℕ
route_fault p x again many alone =
    first_of
    ((6, route_out_of_range x)
    ∷ (7, again)
    ∷ (8, route_not_given p x)
    ∷ (9, many)
    ∷ (10, route_no_walk p x)
    ∷ (11, alone)
    ∷ [])
