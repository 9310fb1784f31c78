-- The bytes of the paths when a path is kept: eleven bytes more, at its place in the order of writing out.
use Rattle.std.specs.Prelude.{◌≡◌, ℕ, ◌+◌, ◌*◌, ◌≤◌, ◌<◌, get_or, take}
use Rattle.std.proofs.Math.Path.{sym, ap, ap₂}
use Rattle.std.proofs.Common.{◌∙◌, arith, length-append, length-drop, eq-eqb}
use mathlib.Core.List.{List, [], ◌∷◌, ◌++◌, flat_map}
use Rattle.std.proofs.Math.ListN.{length, drop, length-take}
use Rattle.lists.specs.Cells.{padded}
use Rattle.lists.specs.laws.Bools.{true-both, not-both}
use Rattle.lists.specs.laws.Search.{any_false}
use Rattle.lists.specs.laws.Append.{flat_append}
use Rattle.lists.specs.Insert.{put_in}
use Rattle.lists.specs.laws.At.{place_at}
use Rattle.lists.specs.laws.Moved.{padded-put_in, put_in-front}
use Rattle.lists.specs.laws.Chunks.{length-chunks, take_chunks, drop-chunks}
use Rattle.lists.specs.laws.Insert.{Before, Placed, placed, inserted-orders}
use Rattle.rules_plan.specs.Plan.{nth, Route, Plan, path, grow}
use Rattle.rules_plan.specs.Meaning.{leads_from, has_path}
use Rattle.rules_plan.specs.Judge.{given_before}
use Rattle.rules_plan.specs.laws.Fair.{Fair}
use Rattle.rules_plan.specs.laws.Chain.{Passes}
use Rattle.rules_plan.specs.laws.Initiators.{most-grows}
use Rattle.rules_plan.specs.laws.Ranges.{route-range}
use Rattle.memory_plan.specs.Memory.{path_row, paths_in_order, places_for, paths_of}
use Rattle.memory_plan.specs.laws.PathRows.{row-length, wide, places-length, RowsFrom, start-byte, end-byte, path-count, paths-short, path-rows, no-replies}
use Rattle.load_paths.specs.Keep.{kept_paths}
use Rattle.load_path_places.specs.Places.{IsPlace}
use Rattle.load_path_places.specs.laws.PathPlace.{before-precedes, behind-precedes}

-- the paths of a fair plan in order: as many, each with eleven bytes
module _ (p : Plan) (f : Fair p) where
  pub as_many : length (paths_in_order p) ≡ length p.paths
  as_many = path-count p f.lengths f.ranges

  abbrev rows : RowsFrom (paths_of p) 0 (paths_in_order p)
  rows = path-rows p f.lengths f.ranges

  -- the first two bytes of the path at place k
  start-at : (k : ℕ) (x : Route) → k < length p.paths → nth (paths_of p) (k * 11) ≡ (get_or (paths_in_order p) k x).start
  start-at k x h = start-byte rows k k _ (place_at (paths_in_order p) k x (omega (arith, as_many))) (omega arith)

  end-at : (k : ℕ) (x : Route) → k < length p.paths → nth (paths_of p) (k * 11 + 1) ≡ (get_or (paths_in_order p) k x).end
  end-at k x h = end-byte rows k k _ (place_at (paths_in_order p) k x (omega (arith, as_many))) (omega arith)

module _ (p : Plan) (f : Fair p) (x : Route) (g : Passes p (path x)) where
  pub inserted-path : Placed (λ y. Before y.start y.end x.start x.end) (λ y. Before x.start x.end y.start y.end) x
      (paths_in_order p) x (paths_in_order (grow p (path x)))
  unfolding paths_in_order grow given_before has_path leads_from
  inserted-path =
      let r = route-range x g.range in
      placed x (inserted-orders (λ (y : Route). y.start) (λ (y : Route). y.end) p.paths x r.start r.end
      (λ y m a b. not-both (true-both (eq-eqb x.start y.start (sym a)) (eq-eqb x.end y.end (sym b))) (any_false (leads_from x.start x.end) p.paths y g.new m)))

  pub path-place : IsPlace (paths_of p) (length p.paths) x.start x.end inserted-path.place
  path-place =
      let r = inserted-path in record {
        within = omega (arith, r.within, as_many p f);
        less = λ j h.
            let b : j < length p.paths = omega (arith, r.within, as_many p f) in
            rw (start-at p f j x b, end-at p f j x b) (behind-precedes _ _ _ _ (r.less j h));
        more = λ j h b. rw (start-at p f j x b, end-at p f j x b) (before-precedes _ _ _ _ (r.more j h (omega (arith, as_many p f))));
      }

  places-kept : length x.links ≤ 8 → put_in (inserted-path.place * 11) (length p.paths * 11) (path_row x) (places_for (paths_in_order p)) ≡ places_for (paths_in_order (grow p (path x)))
  unfolding places_for flat_map
  places-kept l =
      let r = inserted-path in
      let w = wide (paths_in_order p) (paths-short p f.lengths f.ranges) in
      let B = flat_map path_row (paths_in_order p) in
      let n : length B ≡ length p.paths * 11 = omega (arith, length-chunks path_row 11 (paths_in_order p) w, as_many p f) in
      rw (← n)
      (sym (padded-put_in 1408 (r.place * 11) 0 (path_row x) B (omega (arith, r.within, as_many p f)) (omega (arith, row-length x l, most-grows p x g.few)))
      ∙ ap (padded 1408 0) ((rw (take_chunks path_row 11 r.place (paths_in_order p) w, drop-chunks path_row 11 r.place (paths_in_order p) w)) ∙ sym (flat_append path_row (take r.place (paths_in_order p)) (x ∷ drop r.place (paths_in_order p))) ∙ ap (flat_map path_row) (sym r.new)))

  -- no reply is there yet: behind the paths all is 0
  pub paths-kept : p.replies ≡ [] → length x.links ≤ 8 → kept_paths (paths_of p) (length p.paths) inserted-path.place x ≡ paths_of (grow p (path x))
  unfolding kept_paths paths_of grow
  paths-kept none_yet l =
      let r = inserted-path in
      let long = places-length (paths_in_order p) (paths-short p f.lengths f.ranges) (omega (arith, as_many p f, f.lists.paths.most)) in
      put_in-front (r.place * 11) (length p.paths * 11) (path_row x) (places_for (paths_in_order p)) _ (omega (arith, r.within, as_many p f)) (omega (arith, row-length x l, most-grows p x g.few))
      ∙ ap₂ (λ (a b : List ℕ). a ++ b) (places-kept l) (no-replies p none_yet (omega (arith, as_many p f, f.lists.paths.most)) ∙ sym (no-replies (grow p (path x)) none_yet (omega (arith, grown, most-grows p x g.few))))
    where
      grown : length (paths_in_order (grow p (path x))) ≡ length p.paths + 1
      grown = ap length inserted-path.new ∙ simp (length-append, length-take, length-drop) (omega (arith, inserted-path.within, as_many p f))
