-- Verdict 13 in memory: the entry of a row runs on exactly when it overruns, and the first row and slot where one does is the least.
use mathlib.Core.Path.{◌≡◌, refl, sym, ap, ◌∙◌}
use mathlib.Core.Logic.{◌≢◌, ◌↔◌}
use mathlib.Core.List.{List}
use mathlib.Core.Option.{some}
use mathlib.Core.Bool.{true, false, not, and-false}
use Prim.Native.Nat.{ℕ, ◌+◌, ◌-◌, ◌%◌, ◌≤◌, ◌<◌}
use native.Mathlib.Omega.{arith}
use native.Mathlib.Decide.{dec_lt}
use lib.ListN.{length, get_or}
use lib.Dec.{ltb, eqb}
use borrow.Author.Count.{below_more}
use borrow.Author.Tests.{ltb-true, lt-ltb, le-ltb, eqb-false, eq-eqb, ne_eqb, not-true}
use Rattle.std.specs.Prelude.{Some, None}
use Rattle.lists.specs.Numbers.{first_from}
use Rattle.lists.specs.Options.{as_option}
use Rattle.lists.specs.laws.Bools.{both_true, true-both, not-both, some-some}
use Rattle.lists.specs.laws.Numbers.{any-true, first-from}
use Rattle.lists.specs.laws.Sweep.{any_below_lem}
use Rattle.lists.specs.laws.At.{at_some, at-within}
use Rattle.lists.specs.laws.Members.{rising-at}
use Rattle.rules_plan.specs.declared.Verdict.TheVariants.{Overrun}
use Rattle.rules_plan.specs.Plan.{Plan}
use Rattle.rules_plan.specs.Meaning.{initiators, covers}
use Rattle.rules_plan.specs.Judge.{overrun}
use Rattle.rules_plan.specs.Words.{Overrunning, pair}
use Rattle.rules_plan.specs.laws.Overruns.{overrun-says, overrun-none}
use Rattle.rules_plan.specs.laws.Fair.{Fair}
use Rattle.memory_plan.specs.Memory.{rows_of, spans_of}
use Rattle.load_overruns.specs.Overruns.{cell_at, stands_after, runs_at}
use Rattle.load_overruns.specs.laws.Entries.{RowOf, rows-rise, row_reads, fair-entry, entry_row, entry-span, cell-entry}

-- an entry of the row k slots after the slot
pub stands_after_lem : (spans : List ℕ) (row slot k : ℕ) → (stands_after spans row slot k ≡ true) ↔ ((0 < k) × (cell_at spans row ((slot + k) % 64) ≢ 0))
unfolding stands_after
stands_after_lem spans row slot k = (
  λ h. let a = both_true (ltb 0 k) (not (eqb (cell_at spans row ((slot + k) % 64)) 0)) h in (ltb-true 0 k a.0, eqb-false _ 0 (not-true _ a.1)),
  λ h. true-both (lt-ltb 0 k h.0) (ap not (ne_eqb (cell_at spans row ((slot + k) % 64)) 0 h.1)),
)

pub stands-not : (spans : List ℕ) (row slot k : ℕ) → cell_at spans row ((slot + k) % 64) ≡ 0 → stands_after spans row slot k ≡ false
unfolding stands_after
stands-not spans row slot k e = rw (eq-eqb (cell_at spans row ((slot + k) % 64)) 0 e) (and-false (ltb 0 k))

-- the entry at the slot itself does not count
pub stands-own : (spans : List ℕ) (row slot k : ℕ) → k < 1 → stands_after spans row slot k ≡ false
unfolding stands_after
stands-own spans row slot k h = rw (le-ltb 0 k (omega arith))

-- no entry of the rows before this one runs on
abbrev pub Clean : List ℕ → ℕ → Type 0
Clean spans row = (r : ℕ) → r < row → (v : ℕ) → v < 64 → runs_at spans r v ≡ false

pub clean-more : (spans : List ℕ) (row slot : ℕ) → Clean spans row → slot ≡ first_from 64 0 (runs_at spans row) → 64 ≤ slot → Clean spans (row + 1)
clean-more spans row slot c e h = below_more (λ r. (v : ℕ) → v < 64 → runs_at spans r v ≡ false) row c (λ v l. (first-from 64 0 (runs_at spans row)).before v (omega arith) (omega arith))

module _ (p : Plan) (fair : Fair p) where
  runs-overrun : (r i v : ℕ) → RowOf p r i → v < 64 → (runs_at (spans_of p) r v ≡ true) ↔ Overrunning p.entries i v
  unfolding covers
  runs-overrun r i v row slot = (there, back)
    where
      there : runs_at (spans_of p) r v ≡ true → Overrunning p.entries i v
      there h =
          let (k, l, t) = any-true (cell_at (spans_of p) r v) (stands_after (spans_of p) r v) h in
          let (a, b) = (stands_after_lem (spans_of p) r v k).0 t in
          let w = (v + k) % 64 in
          let (e, x) = cell-entry p fair r i v row slot (omega arith) in
          let (f, y) = cell-entry p fair r i w row (omega arith) (omega arith) in
          let s = entry-span p fair r i v row slot e x in
          let low = fair-entry p fair e x.has in
          record {
            mine = e;
            other = f;
            has-mine = x.has;
            has_other = y.has;
            of-mine = sym x.own;
            of_other = sym y.own;
            at-mine = sym x.here;
            apart = λ g. omega (arith, x.here, y.here, low.span);
            over = lt-ltb ((f.slot + 64 - e.slot) % 64) e.span (omega (arith, x.here, y.here, low.span));
          }

      back : Overrunning p.entries i v → runs_at (spans_of p) r v ≡ true
      back o =
          let k = (o.other.slot + 64 - v) % 64 in
          let e = fair-entry p fair o.mine o.has-mine in
          let f = fair-entry p fair o.other o.has_other in
          let apart : v ≢ o.other.slot = λ g. o.apart (o.at-mine ∙ g) in
          let w : (v + k) % 64 ≡ o.other.slot = omega (arith, f.slot) in
          let s : cell_at (spans_of p) r v ≡ o.mine.span = entry-span p fair r i v row slot o.mine (record { has = o.has-mine; own = sym o.of-mine; here = sym o.at-mine }) in
          let t = entry-span p fair r i o.other.slot row f.slot o.other (record { has = o.has_other; own = sym o.of_other; here = refl }) in
          let z : cell_at (spans_of p) r ((v + k) % 64) ≢ 0 = rw w (λ g. omega (arith, t, f.some-span)) in
          any_below_lem (cell_at (spans_of p) r v) (stands_after (spans_of p) r v) k
          (omega (arith, o.at-mine, ltb-true ((o.other.slot + 64 - o.mine.slot) % 64) o.mine.span o.over))
          ((stands_after_lem (spans_of p) r v k).1 (omega (arith, f.slot), z))

  -- an overrun in words is seen in its initiator's row
  seen : (i v : ℕ) → Overrunning p.entries i v → (r : ℕ) × RowOf p r i × (v < 64) × (runs_at (spans_of p) r v ≡ true)
  seen i v o =
      let (r, h) = entry_row p fair o.mine o.has-mine in
      let row : RowOf p r i = h ∙ ap some o.of-mine in
      let slot : v < 64 = omega (arith, (fair-entry p fair o.mine o.has-mine).slot, o.at-mine) in
      (r, row, slot, (runs-overrun r i v row slot).1 o)

  -- What the search answers: the first slot of the first row, or nothing.
  pub overrun-found : (r v : ℕ) → r < length (initiators p) → Clean (spans_of p) r → v ≡ first_from 64 0 (runs_at (spans_of p) r) → v < 64
      → Some (Overrun (get_or (rows_of p) r 0) v) ≡ as_option (overrun p.entries)
  overrun-found r v h clean e slot =
      let (i, row) = at_some (initiators p) r h in
      let first = first-from 64 0 (runs_at (spans_of p) r) in
      let here : runs_at (spans_of p) r v ≡ true = rw e (first.found (omega arith)) in
      ap (λ n. Some (Overrun n v)) (row_reads p r i row)
      ∙ ap as_option (sym ((overrun-says p.entries (fair-entry p fair) (Overrun i v)).1 (i, v, refl, record { here = (runs-overrun r i v row slot).0 here; least = least i row })))
    where
      least : (i : ℕ) → RowOf p r i → (j w : ℕ) → Overrunning p.entries j w → pair i v ≤ pair j w
      least i row j w o = let (s, at, low, runs) = seen j w o in go s at low runs (dec_lt s r) (dec_lt r s)
        where
          go : (s : ℕ) → RowOf p s j → w < 64 → runs_at (spans_of p) s w ≡ true → Dec (s < r) → Dec (r < s) → pair i v ≤ pair j w
          go s at low runs (yes l) d = not-both runs (clean s l w low)
          go s at low runs (no l) (yes d) = omega (arith, rising-at (initiators p) r s i j (rows-rise p) row at d)
          go s at low runs (no l) (no d) =
              let same : s ≡ r = omega arith in
              let one : i ≡ j = some-some (sym row ∙ rw same at at) in
              later (rw same at runs) one (dec_lt w v)
            where
              later : runs_at (spans_of p) r w ≡ true → i ≡ j → Dec (w < v) → pair i v ≤ pair j w
              later t one (yes l) = not-both t ((first-from 64 0 (runs_at (spans_of p) r)).before w (omega arith) (omega arith))
              later t one (no l) = omega arith

  pub overrun-nothing : (n : ℕ) → length (initiators p) ≤ n → Clean (spans_of p) n → None ≡ as_option (overrun p.entries)
  overrun-nothing n h clean = ap as_option (sym ((overrun-none p.entries (fair-entry p fair)).1 none_runs))
    where
      none_runs : (i v : ℕ) → Overrunning p.entries i v → ⊥
      none_runs i v o =
          let (r, row, slot, runs) = seen i v o in
          not-both runs (clean r (omega (arith, at-within (initiators p) r i row)) v slot)
