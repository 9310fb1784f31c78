-- The times after a plan: the verdict on them, and the numbers with them.
use Rattle.std.specs.Prelude.{◌≡◌, true, false, ℕ, ◌*◌, ◌/◌, ◌%◌, ◌≤◌, ◌<◌, length, set}
use Rattle.std.proofs.Math.Path.{refl, sym, ap, fun_ext}
use Rattle.std.proofs.Common.{◌∙◌, arith, lt-ltb, le-ltb}
use mathlib.Core.List.{List, [], ◌∷◌, ◌++◌}
use Rattle.std.proofs.Math.Option.{Option, none, some}
use Rattle.std.proofs.Math.Bool.{or-true}
use Rattle.std.proofs.Math.ListN.{take}
use Rattle.std.proofs.Math.Seq.{take_all}
use Rattle.lists.specs.Search.{find}
use Rattle.lists.specs.Cells.{cells}
use Rattle.lists.specs.laws.Shuffle.{shuffled-refl}
use Rattle.rules_plan.specs.Plan.{Route, Times, Plan, grow, times}
use Rattle.rules_plan.specs.Sheet.{fixed_time, over_million, times_out_of_range}
use Rattle.rules_plan.specs.Meaning.{is_initiator, leads_from, initiators, least_of, greatest_of, times_of}
use Rattle.rules_plan.specs.Judge.{out_of_range, given_before, not_given, too_many, no_walk, no_path}
use Rattle.rules_plan.specs.laws.Fair.{Fair}
use Rattle.memory_plan.specs.Memory.{of_row, paths_in_order, cost_of, costs_among, numbers_with}
use Rattle.memory_plan.specs.Take.{item_fault, taken, times_item}
use Rattle.memory_plan.specs.laws.Costs.{no-costs, costs-none, costs-shuffled}
use Rattle.memory_plan.specs.laws.PathRows.{path-order, path-count}
use Rattle.time_sheet.specs.Paced.{paced}
use Rattle.time_sheet.specs.laws.Pace.{pace-over}
use Rattle.load_items.specs.laws.Judged.{holds-taken, judged-6, judged-0}
use Rattle.load_times.specs.Filling.{Filling}

module _ (rate a d f g slot : ℕ) where
  abbrev x : Times
  x = record { rate = rate; a = a; d = d; f = f; g = g; slot = slot }

  -- row 6, by the tests that the code makes
  pub rate-over : times_out_of_range (paced rate a d f g) ≡ true → out_of_range (times_item rate a d f g slot) ≡ true
  unfolding out_of_range
  rate-over h = pace-over x h

  pub slot-over : 1_000_000 < slot → out_of_range (times_item rate a d f g slot) ≡ true
  unfolding out_of_range times_out_of_range over_million
  slot-over h = simp (lt-ltb 1_000_000 slot h, or-true)

  pub in-range : times_out_of_range (paced rate a d f g) ≡ false → slot ≤ 1_000_000 → out_of_range (times_item rate a d f g slot) ≡ false
  unfolding out_of_range times_out_of_range over_million
  in-range h l = rw (le-ltb 1_000_000 slot l) h

  -- a fixed time has no slot in it
  slotless : (ys : List Route) (o : Option Route) → cost_of (paced rate a d f g) ys o ≡ cost_of x ys o
  unfolding cost_of fixed_time
  slotless ys none = refl
  slotless ys (some r) = refl

  paced-costs : (p : Plan) (ys xs : List Route) → costs_among p (paced rate a d f g) ys xs ≡ costs_among p x ys xs
  unfolding costs_among
  paced-costs p ys xs = ap (cells 512) (fun_ext λ n. ap (of_row p (n / 64)) (fun_ext λ i. slotless ys (find (leads_from i (n % 64)) xs)))

  module _ (size : ℕ) (p : Plan) (fair : Fair p) (none_yet : p.times ≡ []) (alone : p.replies ≡ []) where
    -- the twelve numbers of the plan with the times
    pub front : List ℕ
    front = least_of p.timings ∷ greatest_of p.timings ∷ length (initiators p) ∷ length p.paths ∷ length p.entries ∷ size ∷ rate ∷ a ∷ d ∷ f ∷ g ∷ rate * slot ∷ []

    -- the six stored, no fixed time is there
    pub begins : (numbers : List ℕ) → numbers ≡ numbers_with size p
        → Filling p (paced rate a d f g) front 0 (set (set (set (set (set (set numbers 6 rate) 7 a) 8 d) 9 f) 10 g) 11 (rate * slot))
    unfolding numbers_with front
    begins numbers is = record {
      twelve = refl;
      rows = refl;
      paths = refl;
      no-replies = alone;
      numbers = rw is (ap (◌++◌ front) (no-costs p p.replies p.paths none_yet ∙ sym (costs-none p (paced rate a d f g) p.replies)));
    }

    -- the numbers with times ys
    with-times : List Times → List ℕ
    with-times ys =
        least_of p.timings ∷ greatest_of p.timings ∷ length (initiators p) ∷ length p.paths ∷ length p.entries ∷ size
        ∷ (times_of ys).rate ∷ (times_of ys).a ∷ (times_of ys).d ∷ (times_of ys).f ∷ (times_of ys).g ∷ (times_of ys).rate * (times_of ys).slot
        ∷ costs_among p (times_of ys) p.replies p.paths

    -- all fixed times stored, they are those of the plan with the times
    pub ends : (numbers : List ℕ) → Filling p (paced rate a d f g) front (length p.paths) numbers → numbers ≡ numbers_with size (grow p (times x))
    unfolding numbers_with front with-times grow initiators is_initiator times_of costs_among of_row
    ends numbers h =
        let all : take (length p.paths) (paths_in_order p) ≡ paths_in_order p = take_all (length p.paths) (paths_in_order p) (omega (arith, path-count p fair.lengths fair.ranges)) in
        let same : costs_among p (paced rate a d f g) p.replies (paths_in_order p) ≡ costs_among p x p.replies p.paths =
        paced-costs p p.replies (paths_in_order p)
        ∙ sym (costs-shuffled p x (shuffled-refl (λ y. refl) p.replies) fair.lists.replies (path-order p fair.lengths fair.ranges) fair.lists.paths.once) in
        h.numbers ∙ ap (◌++◌ front) (ap (costs_among p (paced rate a d f g) p.replies) all ∙ same) ∙ ap (λ (ys : List Times). with-times (ys ++ (x ∷ []))) (sym none_yet)

  -- the answer after every plan that the arrays hold before
  module _ (numbers : List ℕ) where
    pub refused : out_of_range (times_item rate a d f g slot) ≡ true → (size : ℕ) (p : Plan) → numbers ≡ numbers_with size p
        → (6 ≡ item_fault p (times_item rate a d f g slot)) × (numbers ≡ numbers_with size (taken p (times_item rate a d f g slot)))
    refused h size p is = let j = judged-6 p (times_item rate a d f g slot) h in (j.fault, holds-taken (numbers_with size) j numbers is)

    pub kept : out_of_range (times_item rate a d f g slot) ≡ false → (size : ℕ) (p : Plan) → numbers ≡ numbers_with size (grow p (times_item rate a d f g slot))
        → (0 ≡ item_fault p (times_item rate a d f g slot)) × (numbers ≡ numbers_with size (taken p (times_item rate a d f g slot)))
    unfolding given_before not_given too_many no_walk no_path
    kept h size p is = let j = judged-0 p (times_item rate a d f g slot) h refl refl refl refl refl in (j.fault, holds-taken (numbers_with size) j numbers is)
