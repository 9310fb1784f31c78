-- `find_row` meets its contract: no place before what is found is permitted. Assumes nothing.
use Rattle.std.proofs.Common.{◌≡◌, ◌∙◌, ℕ, ◌+◌, ◌<◌, ◌≤◌, true, false, Option, Some, None, List, length, get_or, take, drop, min, refl, ap, arith, rules, tests, length-drop}
use Rattle.std.proofs.lemmas.Iterator.{IsFirst-from_position, YieldsList-from_slice, YieldsList-from_take}
use Rattle.std.proofs.lemmas.List.{get_or-take, get_or-drop, length-take}
use Rattle.std.specs.List.{AllWithin, HoldsAt}
use Rattle.std.specs.Option.{MatchOption, IfSome}
use Rattle.lists.specs.Options.{if_below}
use Rattle.lists.specs.Place.{first}
use Rattle.lists.specs.laws.Below.{some-below}
use Rattle.rules_plan.specs.Plan.{Entry}
use Rattle.rules_box.specs.State.{Side}
use Rattle.rules_box.specs.Turn.{allows}
use Rattle.rules_box.specs.laws.Fit.{FitSide}
use Rattle.memory_plan.specs.View.{Owner, Tells, place_or}
use Rattle.memory_run.specs.Run.{row_of}
use Rattle.memory_run.specs.laws.RowWords.{count_at}
use Rattle.run_line.proofs.Finds.{Says, Sought, seek-passed, seek_found, seek-none}
use Rattle.run_line.proofs.find_row.Goals as goal

abbrev waiting : List ℕ → ℕ → List ℕ
waiting row n = take n (take 8 (drop 2 row))

-- what the search through the words of those that wait finds
abbrev First : List ℕ → ℕ → ℕ → Option ℕ → Type 0
First row targets span r =
    let words = waiting row (get_or row 1 0) in
    MatchOption r (AllWithin (λ w. Says w targets span false) words 0 (length words))
    (λ k. (k < length words) × HoldsAt (λ w. Says w targets span true) words k × AllWithin (λ w. Says w targets span false) words 0 k)

abbrev Told : List ℕ → ℕ → ℕ → Option ℕ → Type 0
Told row targets span r =
    (o : Owner) (s : Side) → FitSide s → row ≡ row_of o s → (e : Entry) → Tells o targets span e → r ≡ if_below 8 (place_or 8 (first (allows o.plan e) s.line))

module _ (row : List ℕ) (targets span : ℕ) (twelve : length row ≡ 12) where
  many : (n : ℕ) → length (waiting row n) ≡ min n 8
  many n = omega (arith, length-take n (take 8 (drop 2 row)), length-take 8 (drop 2 row), length-drop 2 row)

  word : (n k : ℕ) → k < n → k < 8 → get_or (waiting row n) k 0 ≡ get_or row (k + 2) 0
  word n k h g =
      let e : 2 + k ≡ k + 2 = omega arith in
      get_or-take n (take 8 (drop 2 row)) k 0 h ∙ get_or-take 8 (drop 2 row) k 0 g ∙ get_or-drop 2 row k 0 ∙ ap (λ (i : ℕ). get_or row i 0) e

  passed : (n i : ℕ) → i ≤ n → i ≤ 8 → AllWithin (λ w. Says w targets span false) (waiting row n) 0 i → Sought row targets span i
  passed n i h g no' = seek-passed row targets span i (λ k l. rw (← word n k (omega arith) (omega arith)) (no' k 0 (omega arith) l))

  near : (r : Option ℕ) → First row targets span r → IfSome r (λ k. (k < 8) × (k < get_or row 1 0))
  near None h = tt
  near (Some k) h = (omega (arith, many (get_or row 1 0), h.0), omega (arith, many (get_or row 1 0), h.0))

  told : (r : Option ℕ) → First row targets span r → Told row targets span r
  told None h o s f is e t =
      let n = get_or row 1 0 in
      let before : Sought row targets span (min n 8) = passed n (min n 8) (omega arith) (omega arith) (rw (many n) at h) in
      let all : 8 ≡ place_or 8 (first (allows o.plan e) s.line) = seek-none row targets span (min n 8) before (λ p w g at. omega (arith, count_at p w g row at, g.few)) o s f is e t in
      ap (if_below 8) all
  told (Some k) h o s f is e t =
      let n = get_or row 1 0 in
      let low : k < min n 8 = omega (arith, many n, h.0) in
      let before : Sought row targets span k = passed n k (omega arith) (omega arith) h.2 in
      let yes' : Says (get_or row (k + 2) 0) targets span true = rw (← word n k (omega arith) (omega arith)) (h.1 0) in
      let here : k ≡ place_or 8 (first (allows o.plan e) s.line) = seek_found row targets span k before true yes' refl (omega arith) o s f is e t in
      some-below 8 k k refl (omega arith) ∙ ap (if_below 8) here

pub returns : goal.returns
returns c =
    let a = c.args in
    let found : First a.row.now a.targets a.span c.position.result =
    IsFirst-from_position _ _ _ (λ w. Says w a.targets a.span true) (λ w. Says w a.targets a.span false) c.position.ensures.ran
    (YieldsList-from_take (get_or a.row.now 1 0) (YieldsList-from_slice (take 8 (drop 2 a.row.now)) cc) cc) (λ x q k. search (rules, tests)) (λ x q k. search (rules, tests)) in
    record { upper_bound = near a.row.now a.targets a.span c.requires _ found; value = told a.row.now a.targets a.span c.requires _ found }
