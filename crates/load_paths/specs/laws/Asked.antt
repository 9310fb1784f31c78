-- What rows 7 and 9 ask of a path, read off the memory of a fair plan; and so the verdict on it.
use Rattle.std.specs.Prelude.{◌≡◌, refl, List, Bool, false, not, ◌&&◌, ◌||◌, ℕ, ◌≤◌, ◌<◌, length, leb}
use Rattle.std.proofs.Common.{sym, ap, ◌∙◌, arith}
use Rattle.std.proofs.Math.Decide.{dec_lt}
use Rattle.std.proofs.lemmas.Bool.{lt-leb}
use Rattle.lists.specs.laws.At.{at-member}
use Rattle.bitsets.specs.Set.{member}
use Rattle.rules_plan.specs.Plan.{nth, Route, Plan, path}
use Rattle.rules_plan.specs.Meaning.{is_initiator, initiators, has_path}
use Rattle.rules_plan.specs.Judge.{too_many}
use Rattle.rules_plan.specs.laws.Fair.{Fair}
use Rattle.rules_plan.specs.laws.Ranges.{RouteRange, in-range}
use Rattle.rules_plan.specs.laws.Initiators.{initiator-in}
use Rattle.memory_plan.specs.Memory.{rows_of, reach_of, numbers_with}
use Rattle.memory_plan.specs.Take.{item_fault}
use Rattle.memory_plan.specs.Rows.{row_among}
use Rattle.load_path_faults.specs.Routes.{route_fault}
use Rattle.load_path_faults.specs.laws.Routes.{path-fault, fault-same}
use Rattle.load_path_faults.specs.laws.PathRows.{RowRead, row_read, reach-read, no-paths}

module _ (size : ℕ) (p : Plan) (fair : Fair p) (x : Route) {rows reach numbers : List ℕ} (a : rows ≡ rows_of p) (b : reach ≡ reach_of p) (c : numbers ≡ numbers_with size p)
    (r : ℕ) (is : r ≡ row_among rows (nth numbers 2) x.start) where
  few : length (initiators p) ≤ 8
  few = fair.lists.paths.eight

  row-found : RouteRange x → RowRead p x.start r
  unfolding numbers_with
  row-found g = rw (is, a, c) (row_read p x.start few g.start)

  -- 7: what the row reaches; without a row there is no path
  again-read : (again : Bool) → (8 ≤ r → again ≡ false) × (r < 8 → again ≡ member x.end (nth reach r)) → RouteRange x → again ≡ has_path p x.start x.end
  again-read again h g = go (dec_lt r 8)
    where
      f : RowRead p x.start r
      f = row-found g

      go : Dec (r < 8) → again ≡ has_path p x.start x.end
      go (yes l) = h.1 l ∙ (rw b (reach-read p x.start x.end r f l g.end))
      go (no l) = h.0 (omega arith) ∙ sym (no-paths p x.start x.end (f.missed (omega (arith, f.within, few))))

  -- 9: the row and the number of paths
  ninth-read : RouteRange x → leb 8 r ≡ not (is_initiator p x.start) && leb 8 (length (initiators p))
  ninth-read g = go (dec_lt r (length (initiators p)))
    where
      f : RowRead p x.start r
      f = row-found g

      go : Dec (r < length (initiators p)) → leb 8 r ≡ not (is_initiator p x.start) && leb 8 (length (initiators p))
      go (yes l) = lt-leb 8 r (omega (arith, few)) ∙ sym (rw (initiator-in p x.start (at-member (initiators p) r x.start (f.found l))))
      go (no l) = let e : r ≡ length (initiators p) = omega (arith, f.within) in ap (leb 8) e ∙ sym (rw (f.missed e))

  many_read : RouteRange x → leb 8 r || leb 128 (nth numbers 3) ≡ too_many p (path x)
  unfolding too_many numbers_with
  many_read g = rw (c, ninth-read g)

  pub path-verdict : (again many : Bool) → (8 ≤ r → again ≡ false) × (r < 8 → again ≡ member x.end (nth reach r)) → many ≡ (leb 8 r || leb 128 (nth numbers 3))
      → route_fault p x again many false ≡ item_fault p (path x)
  path-verdict again many h e = fault-same p x (λ g. let w = in-range x g in (again-read again h w, e ∙ many_read w, refl)) ∙ sym (path-fault p x)
