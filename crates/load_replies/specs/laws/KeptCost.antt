-- A reply kept: the fixed time of its pair is stored anew, where the plan carries times.
use Rattle.std.specs.Prelude.{◌≡◌, true, ℕ, ◌+◌, ◌-◌, ◌*◌, ◌<◌, set}
use Rattle.std.proofs.Math.Path.{refl, sym, ap}
use Rattle.std.proofs.Common.{◌∙◌, eq-eqb}
use mathlib.Core.List.{List, [], ◌∷◌, ◌++◌, Memᴰ}
use Rattle.std.proofs.Math.Option.{some, get_or}
use Rattle.std.proofs.Math.Decide.{dec_lt}
use native.Mathlib.Omega.{arith}
use Rattle.std.proofs.Math.ListN.{length}
use Rattle.lists.specs.Search.{find}
use Rattle.lists.specs.Place.{at_place}
use Rattle.lists.specs.laws.Append.{set-behind}
use Rattle.lists.specs.laws.Bools.{true-both, not-both}
use Rattle.lists.specs.laws.Search.{any-intro}
use Rattle.lists.specs.laws.Order.{one-pair}
use Rattle.lists.specs.laws.Found.{find-one}
use Rattle.lists.specs.laws.More.{find-more}
use Rattle.rules_plan.specs.Plan.{nth, Route, Times, Plan, times, reply, grow}
use Rattle.rules_plan.specs.Sheet.{fixed_time, times_out_of_range}
use Rattle.rules_plan.specs.Meaning.{is_initiator, initiators, leads_from, home_of, routers, least_of, greatest_of, times_of}
use Rattle.rules_plan.specs.Judge.{out_of_range, given_before}
use Rattle.rules_plan.specs.Good.{same_path_ends}
use Rattle.rules_plan.specs.laws.Items.{times-in}
use Rattle.rules_plan.specs.laws.InRange.{path-ranged}
use Rattle.memory_plan.specs.Memory.{rows_of, of_row, paths_of, cost_of, costs_among, costs_of, numbers_with}
use Rattle.memory_plan.specs.Rows.{row_among}
use Rattle.memory_plan.specs.laws.Among.{row-place, row-none}
use Rattle.memory_plan.specs.laws.Costs.{no-costs, costs-home}
use Rattle.memory_plan.specs.laws.PathRows.{path-at, path-rows, count-byte}
use Rattle.time_sheet.specs.Paced.{paced}
use Rattle.time_sheet.specs.laws.Pace.{pace-over}
use Rattle.load_replies.specs.Home.{HomeTo}

-- rate and latencies as numbers have them
abbrev pub pace_in : List ℕ → Times
pace_in numbers = paced (nth numbers 6) (nth numbers 7) (nth numbers 8) (nth numbers 9) (nth numbers 10)

module _ (size : ℕ) (p : Plan) (y x : Route) (k : ℕ) (h : HomeTo p y x k) {numbers : List ℕ} (held : numbers ≡ numbers_with size p) where
  -- without times there is nothing to store
  pub untimed : times_out_of_range (pace_in numbers) ≡ true → numbers ≡ numbers_with size (grow p (reply y))
  unfolding numbers_with grow initiators is_initiator out_of_range times_of
  untimed o = go p.times refl
    where
      go : (ts : List Times) → p.times ≡ ts → numbers ≡ numbers_with size (grow p (reply y))
      go [] e = held ∙ rw (no-costs p p.replies p.paths e, no-costs (grow p (reply y)) (p.replies ++ (y ∷ [])) p.paths e)
      go (w ∷ ws) e = not-both (pace-over w (rw (held, e) at o)) (h.fair.ranges (times w) (times-in p w (rw e (Memᴰ.head refl))))

  has : Memᴰ x p.paths
  has = path-at p h.fair.lengths h.fair.ranges k x h.at

  module _ {rows : List ℕ} (rs : rows ≡ rows_of p) (r : ℕ) (found : r ≡ row_among rows (nth numbers 2) y.end) where
    counted : nth numbers 2 ≡ length (initiators p)
    unfolding numbers_with
    counted = ap (λ (l : List ℕ). nth l 2) held

    initiator : is_initiator p y.end ≡ true
    unfolding is_initiator
    initiator = any-intro _ p.paths x has (eq-eqb y.end x.start (sym h.from))

    within : r < nth numbers 2
    within = go (dec_lt r (nth numbers 2))
      where
        go : Dec (r < nth numbers 2) → r < nth numbers 2
        go (yes l) = l
        go (no l) = not-both initiator (row-none p h.fair.lists.paths.eight rows rs (nth numbers 2) counted y.end r found (omega (arith, h.from, (path-ranged p h.fair.ranges x has).start)) (omega arith))

    pub some-row : r < 8
    some-row = omega (arith, within, counted, h.fair.lists.paths.eight)

    pub some-target : y.start < 64
    some-target = omega (arith, h.to, (path-ranged p h.fair.ranges x has).end)

    row : at_place r (initiators p) ≡ some y.end
    row = row-place p h.fair.lists.paths.eight rows rs (nth numbers 2) counted y.end r found within

    -- the path of the pair, and its way home
    path-found : find (leads_from y.end y.start) p.paths ≡ some x
    unfolding leads_from same_path_ends
    path-found = find-one (leads_from y.end y.start) p.paths x (one-pair (λ w. w.start) (λ w. w.end) p.paths h.fair.lists.paths.once y.end y.start) has
        (true-both (eq-eqb y.end x.start (sym h.from)) (eq-eqb y.start x.end (sym h.to)))

    comes_home : home_of (p.replies ++ (y ∷ [])) x ≡ y
    unfolding home_of given_before leads_from
    comes_home = ap (λ o. get_or o x) (find-more (leads_from x.end x.start) p.replies y (rw (h.from, h.to) h.passes.new) (true-both (eq-eqb x.end y.start h.to) (eq-eqb x.start y.end h.from)))

    cost-is : cost_of (times_of p.times) (p.replies ++ (y ∷ [])) (find (leads_from y.end y.start) p.paths)
        ≡ (times_of p.times).rate * fixed_time (times_of p.times) (routers x) (routers y)
    unfolding cost_of
    cost-is = rw (path-found, comes_home)

    front : List ℕ
    front =
        least_of p.timings ∷ greatest_of p.timings ∷ length (initiators p) ∷ length p.paths ∷ length p.entries ∷ size
        ∷ (times_of p.times).rate ∷ (times_of p.times).a ∷ (times_of p.times).d ∷ (times_of p.times).f ∷ (times_of p.times).g
        ∷ (times_of p.times).rate * (times_of p.times).slot ∷ []

    pub stored : {paths : List ℕ} → paths ≡ paths_of p → (out home v : ℕ) → out ≡ nth paths (k * 11 + 2) - 1 → home ≡ length y.links - 1
        → v ≡ nth numbers 6 * fixed_time (pace_in numbers) out home → set numbers (12 + r * 64 + y.start) v ≡ numbers_with size (grow p (reply y))
    unfolding numbers_with grow initiators is_initiator fixed_time routers front costs_among of_row
    stored ps out home v o e is =
        let over : out ≡ routers x = o ∙ ap (λ (l : List ℕ). nth l (k * 11 + 2) - 1) ps ∙ ap (λ (n : ℕ). n - 1) (count-byte (path-rows p h.fair.lengths h.fair.ranges) k k x h.at (omega arith)) in
        let value : v ≡ cost_of (times_of p.times) (p.replies ++ (y ∷ [])) (find (leads_from y.end y.start) p.paths) = (rw (held, over, e) at is) ∙ sym cost-is in
        let place : 12 + r * 64 + y.start ≡ length front + (r * 64 + y.start) = omega arith in
        rw (held, place, value)
        (set-behind front (costs_of p) (r * 64 + y.start) _ ∙ ap (◌++◌ front) (costs-home p (times_of p.times) p.replies p.paths y r row some-row some-target))
