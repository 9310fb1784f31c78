-- The fixed times stored one by one: the first cell to the last, and what `numbers` hold then.
use Rattle.std.specs.Prelude.{◌≡◌, refl, true, false, ℕ, ◌+◌, ◌-◌, ◌*◌, ◌<◌, take, set}
use Rattle.std.proofs.Common.{sym, ◌∙◌, add-one, arith, take-append-drop, take-suc, eq-eqb}
use Rattle.std.proofs.Math.Path.{ap}
use mathlib.Core.List.{List, [], ◌∷◌, ◌++◌, Memᴰ}
use Rattle.std.proofs.Math.Option.{some}
use Rattle.std.proofs.Math.Decide.{dec_lt}
use Rattle.std.proofs.Math.ListN.{length, drop, get_or-append}
use Rattle.lists.specs.Search.{any, find}
use Rattle.lists.specs.Place.{at_place}
use Rattle.lists.specs.laws.Append.{once-before, set-behind}
use Rattle.lists.specs.laws.At.{at_some, at-within, read_at}
use Rattle.lists.specs.laws.Bools.{eqb-sym, not-both}
use Rattle.lists.specs.laws.Search.{any-intro, any_same}
use Rattle.rules_plan.specs.Plan.{nth, Route, Times, Plan}
use Rattle.rules_plan.specs.Sheet.{fixed_time}
use Rattle.rules_plan.specs.Meaning.{is_initiator, leads_from, initiators, home_of, routers}
use Rattle.rules_plan.specs.Good.{same_path_ends}
use Rattle.rules_plan.specs.laws.Fair.{Fair}
use Rattle.rules_plan.specs.laws.InRange.{path-ranged}
use Rattle.memory_plan.specs.Memory.{rows_of, paths_in_order, paths_of, cost_of}
use Rattle.memory_plan.specs.Rows.{row_among}
use Rattle.memory_plan.specs.laws.Among.{row-place, row-none}
use Rattle.memory_plan.specs.laws.PathRows.{order-once, path-count, path-at, path-rows, start-byte, end-byte, count-byte}
use Rattle.memory_plan.specs.laws.Costs.{costs-more}
use Rattle.load_times.specs.Filling.{Filling}

-- without replies each comes home over its path
same_way : (ys : List Route) (y : Route) → ys ≡ [] → home_of ys y ≡ y
unfolding home_of find
same_way ys y e = ap (λ (l : List Route). home_of l y) e

-- path number k stands among the others but once
module _ (p : Plan) (fair : Fair p) (k : ℕ) (y : Route) (at : at_place k (paths_in_order p) ≡ some y) where
  next-is : take (k + 1) (paths_in_order p) ≡ take k (paths_in_order p) ++ (y ∷ [])
  next-is =
      ap (λ (n : ℕ). take n (paths_in_order p)) (add-one k) ∙ take-suc (paths_in_order p) k y (at-within (paths_in_order p) k y at)
      ∙ ap (λ (w : Route). take k (paths_in_order p) ++ (w ∷ [])) (read_at (paths_in_order p) k y y at)

  new : any (leads_from y.start y.end) (take k (paths_in_order p)) ≡ false
  unfolding leads_from same_path_ends
  new =
      let rest : (take k (paths_in_order p) ++ (y ∷ [])) ++ drop (k + 1) (paths_in_order p) ≡ paths_in_order p = rw (← next-is) (take-append-drop (k + 1) (paths_in_order p)) in
      any_same _ _ (take k (paths_in_order p)) (λ w _. rw (eqb-sym y.start w.start, eqb-sym y.end w.end))
      ∙ once-before same_path_ends (take k (paths_in_order p)) y (paths_in_order p) (drop (k + 1) (paths_in_order p), rest) (order-once p fair.lengths fair.ranges fair.lists.paths.once)

  -- its cell is stored
  more : (x : Times) (front : List ℕ) (numbers : List ℕ) (r v : ℕ) → Filling p x front k numbers → at_place r (initiators p) ≡ some y.start → r < 8 → y.end < 64
      → v ≡ cost_of x p.replies (some y) → Filling p x front (k + 1) (set numbers (12 + r * 64 + y.end) v)
  more x front numbers r v f row short below is = record {
    twelve = f.twelve;
    rows = f.rows;
    paths = f.paths;
    no-replies = f.no-replies;
    numbers =
        let place : 12 + r * 64 + y.end ≡ length front + (r * 64 + y.end) = omega (arith, f.twelve) in
        rw (f.numbers, place, is, next-is) (set-behind front _ (r * 64 + y.end) _ ∙ ap (◌++◌ front) (costs-more p x p.replies (take k (paths_in_order p)) y r row short below new));
  }

-- how many paths there are
pub paths-counted : (p : Plan) (x : Times) (front numbers : List ℕ) (k : ℕ) → Filling p x front k numbers → nth numbers 3 ≡ length p.paths
paths-counted p x front numbers k f = ap (λ (l : List ℕ). nth l 3) f.numbers ∙ get_or-append front _ 0 3 (omega (arith, f.twelve)) ∙ f.paths

-- one turn of the loop, by the bytes of path number k
module _ (p : Plan) (fair : Fair p) (x : Times) (front rows paths numbers : List ℕ) (rs : rows ≡ rows_of p) (ps : paths ≡ paths_of p) (k : ℕ) (low : k < length p.paths)
    (f : Filling p x front k numbers) (r : ℕ) (found : r ≡ row_among rows (nth numbers 2) (nth paths (k * 11))) where
  here : (y : Route) × (at_place k (paths_in_order p) ≡ some y)
  here = at_some (paths_in_order p) k (omega (arith, path-count p fair.lengths fair.ranges))

  y : Route
  y = here.0

  at : at_place k (paths_in_order p) ≡ some y
  unfolding y
  at = here.1

  has : Memᴰ y p.paths
  has = path-at p fair.lengths fair.ranges k y at

  count : nth numbers 2 ≡ length (initiators p)
  count = ap (λ (l : List ℕ). nth l 2) f.numbers ∙ get_or-append front _ 0 2 (omega (arith, f.twelve)) ∙ f.rows

  begins : nth paths (k * 11) ≡ y.start
  begins = ap (λ (l : List ℕ). nth l (k * 11)) ps ∙ start-byte (path-rows p fair.lengths fair.ranges) k k y at (omega arith)

  ends : nth paths (k * 11 + 1) ≡ y.end
  ends = ap (λ (l : List ℕ). nth l (k * 11 + 1)) ps ∙ end-byte (path-rows p fair.lengths fair.ranges) k k y at (omega arith)

  initiator : is_initiator p (nth paths (k * 11)) ≡ true
  unfolding is_initiator
  initiator = rw begins (any-intro _ p.paths y has (eq-eqb y.start y.start refl))

  small : nth paths (k * 11) < 64
  small = omega (arith, begins, (path-ranged p fair.ranges y has).start)

  within : r < nth numbers 2
  within = go (dec_lt r (nth numbers 2))
    where
      go : Dec (r < nth numbers 2) → r < nth numbers 2
      go (yes l) = l
      go (no l) = not-both initiator (row-none p fair.lists.paths.eight rows rs (nth numbers 2) count (nth paths (k * 11)) r found small (omega arith))

  pub some-row : r < 8
  some-row = omega (arith, within, count, fair.lists.paths.eight)

  pub some-target : nth paths (k * 11 + 1) < 64
  some-target = omega (arith, ends, (path-ranged p fair.ranges y has).end)

  -- with its routers, the links less one
  pub stored : (routers' v : ℕ) → routers' ≡ nth paths (k * 11 + 2) - 1 → v ≡ x.rate * fixed_time x routers' routers'
      → Filling p x front (k + 1) (set numbers (12 + r * 64 + nth paths (k * 11 + 1)) v)
  unfolding cost_of routers
  stored routers' v is value =
      let row : at_place r (initiators p) ≡ some y.start = row-place p fair.lists.paths.eight rows rs (nth numbers 2) count (nth paths (k * 11)) r found within ∙ ap some begins in
      let over : routers' ≡ length y.links - 1 = is ∙ ap (λ (n : ℕ). n - 1) (ap (λ (l : List ℕ). nth l (k * 11 + 2)) ps ∙ count-byte (path-rows p fair.lengths fair.ranges) k k y at (omega arith)) in
      rw ends (more p fair k y at x front numbers r v f row some-row (rw ends at some-target) ((rw over at value) ∙ ap (λ (h : Route). x.rate * fixed_time x (routers y) (routers h)) (sym (same_way p.replies y f.no-replies))))
