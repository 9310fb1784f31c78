-- What `numbers` tell of how long a transaction may be is what the plan says.
use Rattle.std.specs.Prelude.{◌≡◌, Bool, ◌&&◌, ℕ, ◌+◌, ◌*◌, ◌/◌, ◌%◌, ◌≤◌, ◌<◌, drop, set}
use Rattle.std.proofs.Math.Path.{refl, ap, fun_ext}
use Rattle.std.proofs.Common.{sym, ◌∙◌, arith, get_or-drop}
use mathlib.Core.List.Memᴰ
use mathlib.Core.List.{List, [], ◌∷◌, ◌++◌}
use Rattle.std.proofs.Math.Option.{Option, none, some, get_or}
use Rattle.std.proofs.Math.Bool.{true, false, not}
use Rattle.std.proofs.Math.Dec.{leb, eqb}
use borrow.Author.Tests.{leb-true, le-leb, eqb-true, eq-eqb, ne_eqb}
use Rattle.lists.specs.Search.{any, find, repeats}
use Rattle.lists.specs.Order.{Shuffled}
use Rattle.lists.specs.Numbers.{first_from}
use Rattle.lists.specs.Place.{at_place}
use Rattle.lists.specs.laws.At.{at-within}
use Rattle.lists.specs.laws.Bools.{both_true, true-both, not-both, same_test}
use Rattle.lists.specs.Cells.{cells}
use Rattle.lists.specs.laws.Cells.{cell_at}
use Rattle.lists.specs.laws.Numbers.{first-from}
use Rattle.lists.specs.laws.Search.{find-some}
use Rattle.lists.specs.laws.Found.{find-one, read-shuffled}
use Rattle.lists.specs.laws.More.{find-same}
use Rattle.lists.specs.laws.Shuffle.{eq-respects}
use Rattle.lists.specs.laws.Order.{one-pair}
use Rattle.rules_plan.specs.Plan.{nth, Route, Times, Plan}
use Rattle.rules_plan.specs.Meaning.{leads_from, initiators, home_of, routers, fits_in, least_span, times_of}
use Rattle.rules_plan.specs.Good.{same_path_ends}
use Rattle.rules_plan.specs.laws.Sound.{Sound}
use Rattle.rules_plan.specs.laws.Sheets.{TimesRange, fits-product, fixed-some}
use Rattle.rules_plan.specs.laws.Spans.{fits-untimed, fits-timed}
use Rattle.rules_plan.specs.laws.Same.{home-shuffled}
use Rattle.rules_plan.specs.Sheet.{fixed_time}
use Rattle.memory_plan.specs.Memory.{of_row, cost_of, costs_among, costs_of, numbers_with, rate_in, slot_in, cost_in}
use Rattle.memory_plan.specs.Spans.{fits_in_words, least_in_words}
use Rattle.memory_plan.specs.laws.InRows.{of_row_lem}
use Rattle.memory_plan.specs.laws.RowCells.{no_cells, cell_set, cell-more}

-- the cell of a row and a target
pub costs-at : (p : Plan) (x : Times) (ys xs : List Route) (r i t : ℕ) → r < 8 → t < 64 → at_place r (initiators p) ≡ some i
    → nth (costs_among p x ys xs) (r * 64 + t) ≡ cost_of x ys (find (leads_from i t) xs)
unfolding costs_among
costs-at p x ys xs r i t row low at =
    let a : (r * 64 + t) / 64 ≡ r = omega arith in
    let b : (r * 64 + t) % 64 ≡ t = omega arith in
    cell_at 512 (λ (n : ℕ). of_row p (n / 64) (λ (j : ℕ). cost_of x ys (find (leads_from j (n % 64)) xs))) (r * 64 + t) 0 (omega arith)
    ∙ rw (a, b) (of_row_lem p r i _ at)

-- without times, and without paths, they are all 0
pub no-costs : (p : Plan) (ys xs : List Route) → p.times ≡ [] → costs_among p (times_of p.times) ys xs ≡ cells 512 (λ (n : ℕ). 0)
unfolding costs_among cost_of times_of
no-costs p ys xs e = ap (λ (zs : List Times). costs_among p (times_of zs) ys xs) e ∙ no_cells p 512 (λ n. n / 64) (λ n. n % 64) (λ i t. cost_of (times_of []) ys (find (leads_from i t) xs)) (λ i t. free (find (leads_from i t) xs))
  where
    free : (o : Option Route) → cost_of (times_of []) ys o ≡ 0
    free none = refl
    free (some r) = omega arith

pub costs-none : (p : Plan) (x : Times) (ys : List Route) → costs_among p x ys [] ≡ cells 512 (λ (n : ℕ). 0)
unfolding costs_among cost_of find
costs-none p x ys = no_cells p 512 (λ n. n / 64) (λ n. n % 64) (λ i t. cost_of x ys (find (leads_from i t) [])) (λ i t. refl)

-- the order of the replies and of the paths does not matter, where none is there twice
pub costs-shuffled : (p : Plan) (x : Times) {ys zs xs ws : List Route} → Shuffled ◌≡◌ ys zs → repeats same_path_ends ys ≡ false → Shuffled ◌≡◌ xs ws → repeats same_path_ends xs ≡ false
    → costs_among p x ys xs ≡ costs_among p x zs ws
unfolding costs_among cost_of leads_from same_path_ends
costs-shuffled p x {ys} {zs} {xs} {ws} s u t v = ap (cells 512) (fun_ext λ n. ap (of_row p (n / 64)) (fun_ext λ i.
    read-shuffled (leads_from i (n % 64)) (eq-respects _) (cost_of x ys) (eq-respects _) (λ w. refl) t (one-pair (λ w. w.start) (λ w. w.end) xs v i (n % 64)) ∙ home (find (leads_from i (n % 64)) ws)))
  where
    home : (o : Option Route) → cost_of x ys o ≡ cost_of x zs o
    home none = refl
    home (some r) = ap (λ h. x.rate * fixed_time x (routers r) (routers h)) (home-shuffled s u r)

-- one path more: its cell is stored
pub costs-more : (p : Plan) (x : Times) (ys xs : List Route) (y : Route) (r : ℕ) → at_place r (initiators p) ≡ some y.start → r < 8 → y.end < 64 → any (leads_from y.start y.end) xs ≡ false
    → set (costs_among p x ys xs) (r * 64 + y.end) (cost_of x ys (some y)) ≡ costs_among p x ys (xs ++ (y ∷ []))
unfolding costs_among leads_from
costs-more p x ys xs y r row short below free = cell-more (cost_of x ys) (λ w. w.start) (λ w. w.end) p r xs y row short below free

-- one reply more: the cell of its path is stored anew
pub costs-home : (p : Plan) (x : Times) (ys xs : List Route) (y : Route) (r : ℕ) → at_place r (initiators p) ≡ some y.end → r < 8 → y.start < 64
    → set (costs_among p x ys xs) (r * 64 + y.start) (cost_of x (ys ++ (y ∷ [])) (find (leads_from y.end y.start) xs)) ≡ costs_among p x (ys ++ (y ∷ [])) xs
unfolding costs_among cost_of leads_from home_of
costs-home p x ys xs y r row short below = cell_set p (λ i t. cost_of x ys (find (leads_from i t) xs)) (λ i t. cost_of x (ys ++ (y ∷ [])) (find (leads_from i t) xs)) r y.end y.start row short below
    (λ i t s. stays i t s (find (leads_from i t) xs) refl)
  where
    stays : (i t : ℕ) → ((i ≡ y.end) × (t ≡ y.start) → ⊥) → (o : Option Route) → find (leads_from i t) xs ≡ o → cost_of x ys o ≡ cost_of x (ys ++ (y ∷ [])) o
    stays i t s none f = refl
    stays i t s (some z) f = ap (λ o. x.rate * fixed_time x (routers z) (routers (get_or o z))) (sym (find-same (leads_from z.end z.start) ys y (apart (leads_from z.end z.start y) refl)))
      where
        apart : (b : Bool) → leads_from z.end z.start y ≡ b → leads_from z.end z.start y ≡ false
        apart false e = e
        apart true e =
            let (c, d) = both_true (eqb z.end y.start) (eqb z.start y.end) e in
            let (g, h) = both_true (eqb i z.start) (eqb t z.end) (find-some (leads_from i t) xs z f).1 in
            absurd (s (eqb-true i z.start g ∙ eqb-true z.start y.end d, eqb-true t z.end h ∙ eqb-true z.end y.start c))

module _ (p : Plan) (size : ℕ) (numbers : List ℕ) (is : numbers ≡ numbers_with size p) where
  pub rate-told : rate_in numbers ≡ (times_of p.times).rate
  unfolding numbers_with
  rate-told = ap (λ l. nth l 6) is

  pub slot-told : slot_in numbers ≡ (times_of p.times).rate * (times_of p.times).slot
  unfolding numbers_with
  slot-told = ap (λ l. nth l 11) is

  costs-behind : drop 12 numbers ≡ costs_of p
  unfolding numbers_with
  costs-behind = ap (drop 12) is

  module _ (ok : Sound p) (r i t : ℕ) (at : at_place r (initiators p) ≡ some i) (low : t < 64) where
    pub cost-told : cost_in numbers r t ≡ cost_of (times_of p.times) p.replies (find (leads_from i t) p.paths)
    cost-told =
        let place : 12 + r * 64 + t ≡ 12 + (r * 64 + t) = omega arith in
        ap (nth numbers) place ∙ sym (get_or-drop 12 numbers (r * 64 + t) 0) ∙ ap (λ l. nth l (r * 64 + t)) costs-behind
        ∙ costs-at p _ p.replies p.paths r i t (omega (arith, at-within (initiators p) r i at, ok.eight)) low at

    module _ (x : Times) (xs : List Times) (timed : p.times ≡ x ∷ xs) (n k : ℕ) where
      range : TimesRange x
      range = ok.times x (rw timed (Memᴰ.head refl))

      some-rate : 1 ≤ x.rate
      some-rate = omega (arith, range.some-rate)

      rate-is : rate_in numbers ≡ x.rate
      unfolding times_of
      rate-is = rw timed at rate-told

      slot_is : slot_in numbers ≡ x.rate * x.slot
      unfolding times_of
      slot_is = rw timed at slot-told

      cost-is : (o : Option Route) → find (leads_from i t) p.paths ≡ o → cost_in numbers r t ≡ cost_of x p.replies o
      unfolding times_of
      cost-is o f = (rw timed at cost-told) ∙ ap (cost_of x p.replies) f

      -- the test in words, in a plan that carries its times
      words : Bool
      words = leb n 4_096 && not (eqb (cost_in numbers r t) 0) && leb (10_000 * (n + 1) + cost_in numbers r t) (k * slot_in numbers)

      there : words ≡ true → fits_in p i t n k ≡ true
      unfolding words cost_of leads_from
      there h =
          let (a, c) = both_true (leb n 4_096 && not (eqb (cost_in numbers r t) 0)) (leb (10_000 * (n + 1) + cost_in numbers r t) (k * slot_in numbers)) h in
          let (short, b) = both_true (leb n 4_096) (not (eqb (cost_in numbers r t) 0)) a in
          go short b (leb-true _ _ c) (find (leads_from i t) p.paths) refl
        where
          go : leb n 4_096 ≡ true → not (eqb (cost_in numbers r t) 0) ≡ true → 10_000 * (n + 1) + cost_in numbers r t ≤ k * slot_in numbers
              → (o : Option Route) → find (leads_from i t) p.paths ≡ o → fits_in p i t n k ≡ true
          go short b c none f = not-both b (rw (eq-eqb (cost_in numbers r t) 0 (cost-is none f)))
          go short b c (some y) f =
              let (m, e) = find-some (leads_from i t) p.paths y f in
              let (from, to) = both_true (eqb i y.start) (eqb t y.end) e in
              (fits-timed p i t n x xs timed k).1 (
                leb-true n 4_096 short,
                record {
                  route = y;
                  has = m;
                  from = eqb-true i y.start from;
                  to = eqb-true t y.end to;
                  in-time = (fits-product x (routers y) (routers (home_of p.replies y)) n k some-rate).1 (rw (cost-is (some y) f, slot_is) at c);
                },
              )

      back : fits_in p i t n k ≡ true → words ≡ true
      unfolding words cost_of leads_from same_path_ends
      back h =
          let (short, z) = (fits-timed p i t n x xs timed k).0 h in
          let y = z.route in
          let own : leads_from i t y ≡ true = true-both (eq-eqb i y.start z.from) (eq-eqb t y.end z.to) in
          let f = find-one (leads_from i t) p.paths y (one-pair (λ w. w.start) (λ w. w.end) p.paths ok.one-path i t) z.has own in
          let c = cost-is (some y) f in
          let some-cost : eqb (cost_in numbers r t) 0 ≡ false = ne_eqb (cost_in numbers r t) 0 (λ e. omega (arith, fixed-some x (routers y) (routers (home_of p.replies y)) some-rate, c)) in
          true-both (true-both (le-leb n 4_096 short) (rw some-cost)) (le-leb (10_000 * (n + 1) + cost_in numbers r t) (k * slot_in numbers) (rw (c, slot_is) ((fits-product x (routers y) (routers (home_of p.replies y)) n k some-rate).0 z.in-time)))

    pub fits_told : (n k : ℕ) → fits_in_words numbers r t n k ≡ fits_in p i t n k
    unfolding fits_in_words times_of words
    fits_told n k = go p.times refl
      where
        go : (xs : List Times) → p.times ≡ xs → fits_in_words numbers r t n k ≡ fits_in p i t n k
        go [] e = let none_told : rate_in numbers ≡ 0 = rw e at rate-told in rw (eq-eqb (rate_in numbers) 0 none_told, fits_in_words) (sym (fits-untimed p i t n e k))
        go (x ∷ xs) e =
            let some-told : eqb (rate_in numbers) 0 ≡ false = ne_eqb (rate_in numbers) 0 (λ z. omega (arith, some-rate x xs e n k, rate-is x xs e n k)) in
            rw (some-told, fits_in_words) (same_test (words x xs e n k) (fits_in p i t n k) (there x xs e n k) (back x xs e n k))

    pub least-told : (n : ℕ) → least_in_words numbers r t n ≡ least_span p i t n
    unfolding least_in_words least_span
    least-told n = ap (first_from 16 1) (fun_ext (fits_told n))

-- it is one slot at least
pub least-words : (numbers : List ℕ) (row target n : ℕ) → 1 ≤ least_in_words numbers row target n
unfolding least_in_words
least-words numbers row target n = (first-from 16 1 (fits_in_words numbers row target n)).from
