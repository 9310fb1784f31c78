-- What two plans with equal arrays have in common: the entries, from `rows`, `spans` and `aims`.
use Rattle.std.specs.Prelude.{◌≡◌, ℕ, ◌+◌, ◌*◌, ◌/◌, ◌%◌, ◌≤◌, ◌<◌, length, eqb}
use Rattle.std.proofs.Math.Path.{refl}
use Rattle.std.proofs.Common.{sym, ap, ◌∙◌, arith, eqb-true, eq-eqb}
use mathlib.Core.List.{Memᴰ}
use Rattle.std.proofs.Math.Option.{Option, none, some}
use Rattle.lists.specs.Search.{below64}
use Rattle.lists.specs.Place.{at_place}
use Rattle.lists.specs.Cells.{cells}
use Rattle.lists.specs.laws.Bools.{both_true, true-both}
use Rattle.lists.specs.laws.Search.{find-some, keep_same, below64-range}
use Rattle.lists.specs.laws.Order.{one-pair}
use Rattle.lists.specs.laws.Found.{find-one, place_of}
use Rattle.lists.specs.laws.Told.{cells_told, append-told}
use Rattle.lists.specs.laws.OneOrder.{Among}
use Rattle.rules_plan.specs.Plan.{Entry, Plan}
use Rattle.rules_plan.specs.Meaning.{initiators, stands_at, entry_at}
use Rattle.rules_plan.specs.Canon.{rising, with_rising}
use Rattle.rules_plan.specs.Good.{Good, same_entry_place}
use Rattle.rules_plan.specs.laws.Ranges.{EntryRange}
use Rattle.rules_plan.specs.laws.InRange.{entry-ranged}
use Rattle.rules_plan.specs.laws.Initiators.{in-initiators}
use Rattle.rules_plan.specs.laws.Entries
use Rattle.memory_plan.specs.Memory.{of_row, span_of, spans_of, aim_of, slot_aims, aims_of}
use Rattle.memory_plan.specs.laws.InRows.{of_row_lem, length-slot_aims}
use Rattle.memory_plan.specs.laws.ToldPlan.{packed-told}

-- the initiator of an entry has a row: some target of the entry has a path from it
pub entry-initiator : (p : Plan) → Good p → (e : Entry) → Memᴰ e p.entries → Memᴰ e.initiator (initiators p)
entry-initiator p g e m =
    in-initiators p e.initiator (entry-ranged p g.ranges e m).initiator (Entries.entry-initiator p g.lengths g.ranges g.reached e m)

-- what is read off the entry of an initiator at a slot
module _ (p q : Plan) (e : initiators p ≡ initiators q) (eight : length (initiators p) ≤ 8) where
  read_told : (g : Option Entry → ℕ)
      → cells 512 (λ (n : ℕ). of_row p (n / 64) (λ (i : ℕ). g (entry_at p.entries i (n % 64)))) ≡ cells 512 (λ (n : ℕ). of_row q (n / 64) (λ (i : ℕ). g (entry_at q.entries i (n % 64))))
      → (i v : ℕ) → Memᴰ i (initiators p) → v < 64 → g (entry_at p.entries i v) ≡ g (entry_at q.entries i v)
  read_told g h i v m l =
      let (r, k, f) = place_of (initiators p) i m in
      let a : (64 * r + v) / 64 ≡ r = omega arith in
      let b : (64 * r + v) % 64 ≡ v = omega arith in
      let c : of_row p r (λ (i : ℕ). g (entry_at p.entries i v)) ≡ of_row q r (λ (i : ℕ). g (entry_at q.entries i v)) = rw (a, b) at (cells_told 512 _ _ h (64 * r + v) (omega arith)) in
      sym (of_row_lem p r i _ f) ∙ c ∙ of_row_lem q r i _ (ap (at_place r) (sym e) ∙ f)

  -- each entry of p is one of q, up to the order of its targets
  pub told_entries : Good p → spans_of p ≡ spans_of q → aims_of p ≡ aims_of q → Among with_rising p.entries q.entries
  unfolding spans_of aims_of slot_aims span_of aim_of entry_at stands_at same_entry_place with_rising rising
  told_entries good spans aims x m = go (entry_at q.entries x.initiator x.slot) refl
    where
      range : EntryRange x
      range = entry-ranged p good.ranges x m

      row : Memᴰ x.initiator (initiators p)
      row = entry-initiator p good x m

      mine : entry_at p.entries x.initiator x.slot ≡ some x
      mine = find-one (stands_at x.initiator x.slot) p.entries x (one-pair (λ e. e.initiator) (λ e. e.slot) p.entries good.entries x.initiator x.slot) m
          (true-both (eq-eqb x.initiator x.initiator refl) (eq-eqb x.slot x.slot refl))

      span : (o : Option Entry) → entry_at q.entries x.initiator x.slot ≡ o → x.span ≡ span_of o
      span o f = rw (mine, f) at (read_told span_of spans x.initiator x.slot row range.slot)

      aim : (o : Option Entry) → entry_at q.entries x.initiator x.slot ≡ o → aim_of (some x) ≡ aim_of o
      aim o f = rw (mine, f) at (read_told aim_of (append-told (slot_aims p) (slot_aims q) _ _ (length-slot_aims p ∙ sym (length-slot_aims q)) aims).0 x.initiator x.slot row range.slot)

      go : (o : Option Entry) → entry_at q.entries x.initiator x.slot ≡ o → (y : Entry) × Memᴰ y q.entries × (with_rising x ≡ with_rising y)
      go none f = absurd (omega (arith, range.some-span, span none f))
      go (some y) f =
          let (n, t) = find-some (stands_at x.initiator x.slot) q.entries y f in
          let (a, b) = both_true (eqb x.initiator y.initiator) (eqb x.slot y.slot) t in
          let c : rising x.targets ≡ rising y.targets = keep_same _ _ below64 (λ k i. packed-told _ _ (aim (some y) f) k (below64-range k i)) in
          (y, n, rw (eqb-true x.initiator y.initiator a, eqb-true x.slot y.slot b, span (some y) f, c))
