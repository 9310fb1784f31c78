-- The verdict on a path and on a reply is that on its route; what rows 7, 9 and 11 answer counts only where row 6 does not hold.
use Rattle.std.specs.Prelude.{◌≡◌, refl, Bool, true, false, not}
use Rattle.lists.specs.Rows.{first_of}
use Rattle.rules_plan.specs.Plan.{Route, Plan, path, reply}
use Rattle.rules_plan.specs.Meaning.{has_route, has_path}
use Rattle.rules_plan.specs.Judge.{route_out_of_range, out_of_range, given_before, not_given, too_many, no_walk, no_path, item_rows}
use Rattle.memory_plan.specs.Take.{item_fault}
use Rattle.load_path_faults.specs.Routes.{route_fault}

pub path-fault : (p : Plan) (x : Route) → item_fault p (path x) ≡ route_fault p x (has_path p x.start x.end) (too_many p (path x)) false
unfolding item_fault item_rows route_fault out_of_range given_before not_given no_walk no_path
path-fault p x = refl

pub reply-fault : (p : Plan) (x : Route) → item_fault p (reply x) ≡ route_fault p x (has_route p.replies x.start x.end) false (not (has_path p x.end x.start))
unfolding item_fault item_rows route_fault out_of_range given_before not_given too_many no_walk no_path
reply-fault p x = refl

pub fault-same : (p : Plan) (x : Route) {a b c d e f : Bool} → (route_out_of_range x ≡ false → (a ≡ d) × (b ≡ e) × (c ≡ f)) → route_fault p x a b c ≡ route_fault p x d e f
unfolding route_fault first_of
fault-same p x {a} {b} {c} {d} {e} {f} h = go (route_out_of_range x) refl
  where
    go : (t : Bool) → route_out_of_range x ≡ t → route_fault p x a b c ≡ route_fault p x d e f
    go true g = rw g
    go false g = let (i, j, k) = h g in rw (i, j, k)
