-- What memory holds of the entries of a plan: the cell of an initiator's row at a slot is that of the entry that stands there.
use Rattle.std.specs.Prelude.{◌≡◌, ℕ, ◌<◌, length, get_or}
use Rattle.std.proofs.Math.Path.{refl, ap}
use Rattle.std.proofs.Common.{sym, ◌∙◌, arith}
use mathlib.Core.List.{List, Memᴰ}
use Rattle.std.proofs.Math.Option.{Option, none, some}
use Rattle.lists.specs.Search.{is_in, below64}
use Rattle.lists.specs.Place.{at_place}
use Rattle.lists.specs.Order.{Rising}
use Rattle.lists.specs.laws.Search.{find-some, find-has}
use Rattle.lists.specs.laws.Rising.{rising-kept}
use Rattle.lists.specs.laws.At.{member-at, at-within}
use Rattle.lists.specs.laws.Filled.{at-padded}
use Rattle.bitsets.specs.Set.{packed}
use Rattle.rules_plan.specs.Plan.{Entry, Plan}
use Rattle.rules_plan.specs.Meaning.{is_initiator, initiators, stands_at, entry_at}
use Rattle.rules_plan.specs.laws.Ranges.{EntryRange}
use Rattle.rules_plan.specs.laws.InRange.{entry-ranged}
use Rattle.rules_plan.specs.laws.Initiators.{in-initiators}
use Rattle.rules_plan.specs.laws.Entries.{entry-initiator, entry-once}
use Rattle.rules_plan.specs.laws.Overruns.{stands_at_lem}
use Rattle.rules_plan.specs.laws.Fair.{Fair}
use Rattle.memory_plan.specs.Memory.{rows_of, span_of, spans_of, aim_of, aims_of, numbers_with}
use Rattle.memory_plan.specs.laws.InRows.{of_row_lem, span-cell, aim-cell}
use Rattle.load_overruns.specs.Overruns.{cell_at}

-- row r is that of initiator i
abbrev pub RowOf : Plan → ℕ → ℕ → Type 0
RowOf p r i = at_place r (initiators p) ≡ some i

pub rows-rise : (p : Plan) → Rising (initiators p)
unfolding initiators below64
rows-rise p = rising-kept (is_initiator p) 64 0

pub row_reads : (p : Plan) (r i : ℕ) → RowOf p r i → get_or (rows_of p) r 0 ≡ i
unfolding rows_of
row_reads p r i h = at-padded 8 0 (initiators p) r i h

pub rows-counted : (p : Plan) (size : ℕ) (numbers : List ℕ) → numbers ≡ numbers_with size p → get_or numbers 2 0 ≡ length (initiators p)
unfolding numbers_with
rows-counted p size numbers e = ap (λ (m : List ℕ). get_or m 2 0) e

-- the entry of initiator i at slot v
pub record At (p : Plan) (i v : ℕ) (e : Entry) : Type 0 where
  pub has : Memᴰ e p.entries
  pub own : i ≡ e.initiator
  pub here : v ≡ e.slot

module _ (p : Plan) (fair : Fair p) where
  pub fair-entry : (e : Entry) → Memᴰ e p.entries → EntryRange e
  fair-entry = entry-ranged p fair.ranges

  pub row_small : (r i : ℕ) → RowOf p r i → r < 8
  row_small r i h = omega (arith, at-within (initiators p) r i h, fair.lists.paths.eight)

  -- the initiator of each entry has a row
  pub entry_row : (e : Entry) → Memᴰ e p.entries → (r : ℕ) × RowOf p r e.initiator
  entry_row e m =
      let is = entry-initiator p fair.lengths fair.ranges fair.reached e m in
      let (r, l, h) = member-at (initiators p) e.initiator (in-initiators p e.initiator (fair-entry e m).initiator is) in
      (r, h)

  found_at : (i v : ℕ) (e : Entry) → entry_at p.entries i v ≡ some e → At p i v e
  unfolding entry_at
  found_at i v e h =
      let (m, t) = find-some (stands_at i v) p.entries e h in
      let (a, b) = (stands_at_lem i v e).0 t in
      record { has = m; own = a; here = b }

  at-found : (i v : ℕ) (e : Entry) → At p i v e → entry_at p.entries i v ≡ some e
  unfolding entry_at
  at-found i v e a =
      let (f, h) = find-has (stands_at i v) p.entries e a.has ((stands_at_lem i v e).1 (a.own, a.here)) in
      let b = found_at i v f h in
      h ∙ ap some (entry-once p.entries fair.lists.entries.once f e b.has a.has (sym b.own ∙ a.own) (sym b.here ∙ a.here))

  -- The span and the targets of an entry stand in its cell, and a cell that is not 0 is that of an entry.
  module _ (r i v : ℕ) (row : RowOf p r i) (slot : v < 64) where
    pub entry-span : (e : Entry) → At p i v e → cell_at (spans_of p) r v ≡ e.span
    unfolding span_of
    entry-span e a = span-cell p r v (row_small r i row) slot ∙ of_row_lem p r i _ row ∙ ap span_of (at-found i v e a)

    pub entry-aim : (e : Entry) → At p i v e → cell_at (aims_of p) r v ≡ packed (λ (t : ℕ). is_in t e.targets)
    unfolding aim_of
    entry-aim e a = aim-cell p r v (row_small r i row) slot ∙ of_row_lem p r i _ row ∙ ap aim_of (at-found i v e a)

    pub cell-entry : 0 < cell_at (spans_of p) r v → (e : Entry) × At p i v e
    unfolding span_of
    cell-entry h = go (entry_at p.entries i v) refl
      where
        go : (o : Option Entry) → entry_at p.entries i v ≡ o → (e : Entry) × At p i v e
        go none q = absurd (omega (arith, span-cell p r v (row_small r i row) slot ∙ of_row_lem p r i (λ (j : ℕ). span_of (entry_at p.entries j v)) row ∙ ap span_of q))
        go (some e) q = (e, found_at i v e q)
