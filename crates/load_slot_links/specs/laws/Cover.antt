-- The entry of a row that covers a slot: in memory it is found by looking back, and where none runs into another there is one at most.
use Rattle.std.specs.Prelude.{◌≡◌, true, ℕ, ◌+◌, ◌-◌, ◌*◌, ◌%◌, ◌≤◌, ◌<◌}
use Rattle.std.proofs.Math.Path.{refl, ap}
use Rattle.std.proofs.Common.{sym, ◌∙◌, arith}
use mathlib.Core.List.{List, Memᴰ}
use Rattle.std.proofs.Math.Option.{none}
use Rattle.std.proofs.Math.Bool.{false}
use Rattle.std.proofs.Math.Decide.{dec_lt}
use borrow.Author.Tests.{ltb-true, lt-ltb, le-ltb}
use Rattle.lists.specs.Numbers.{first_from}
use Rattle.lists.specs.Place.{at_place}
use Rattle.lists.specs.laws.Bools.{not-both}
use Rattle.lists.specs.laws.Numbers.{first-from}
use Rattle.lists.specs.laws.Sweep.{first-here, first-none}
use Rattle.rules_plan.specs.Plan.{Entry, Plan}
use Rattle.rules_plan.specs.Meaning.{initiators, covers}
use Rattle.rules_plan.specs.Judge.{overrun}
use Rattle.rules_plan.specs.laws.Entries.{entry-once}
use Rattle.rules_plan.specs.laws.Overruns.{cover-once}
use Rattle.rules_plan.specs.laws.Fair.{Fair}
use Rattle.memory_plan.specs.Memory.{spans_of}
use Rattle.load_overruns.specs.Overruns.{cell_at}
use Rattle.load_slot_links.specs.Lanes.{covers_from, place_back, cover_place}
use Rattle.memory_plan.specs.laws.InRows.{of-no-row, span-cell}
use Rattle.load_overruns.specs.laws.Entries.{RowOf, row_small, fair-entry, entry-span, cell-entry}

pub cover-not : (spans : List ℕ) (row slot back : ℕ) → cell_at spans row ((slot + 64 - back) % 64) ≤ back → covers_from spans row slot back ≡ false
unfolding covers_from
cover-not spans row slot back h = le-ltb back (cell_at spans row ((slot + 64 - back) % 64)) h

-- what the search back answers
module _ (spans : List ℕ) (row slot back : ℕ) (passed : (b : ℕ) → b < back → covers_from spans row slot b ≡ false) where
  pub cover-found : back < 16 → back < cell_at spans row ((slot + 64 - back) % 64) → row * 64 + (slot + 64 - back) % 64 ≡ cover_place spans row slot
  unfolding place_back covers_from
  cover-found h c =
      let here : back ≡ first_from 16 0 (covers_from spans row slot) = first-here 16 0 _ back (omega arith) (omega arith) (lt-ltb back (cell_at spans row ((slot + 64 - back) % 64)) c) (λ b _ l. passed b l) in
      near ∙ ap (place_back row slot) here
    where
      near : row * 64 + (slot + 64 - back) % 64 ≡ place_back row slot back
      near = rw (lt-ltb back 16 h, place_back)

  pub cover-nothing : 16 ≤ back → 512 ≡ cover_place spans row slot
  unfolding place_back
  cover-nothing h =
      let here : 16 ≡ first_from 16 0 (covers_from spans row slot) = first-none 16 0 _ 16 (omega arith) (λ b _ l. passed b (omega arith)) in
      ap (place_back row slot) here

-- what the answer says
module _ (spans : List ℕ) (row slot : ℕ) (small : row < 8) where
  back : ℕ
  back = first_from 16 0 (covers_from spans row slot)

  near : cover_place spans row slot < 512 → (back < 16) × (cover_place spans row slot ≡ row * 64 + (slot + 64 - back) % 64) × (back < cell_at spans row ((slot + 64 - back) % 64))
  unfolding place_back covers_from back
  near h = go (dec_lt back 16)
    where
      go : Dec (back < 16) → (back < 16) × (cover_place spans row slot ≡ row * 64 + (slot + 64 - back) % 64) × (back < cell_at spans row ((slot + 64 - back) % 64))
      go (yes l) = (l, rw (lt-ltb back 16 l, place_back), ltb-true back _ ((first-from 16 0 (covers_from spans row slot)).found (omega arith)))
      go (no l) = let e : cover_place spans row slot ≡ 512 = rw (le-ltb back 16 (omega arith), place_back) in absurd (omega arith)

  far : 512 ≤ cover_place spans row slot → (b : ℕ) → b < 16 → covers_from spans row slot b ≡ false
  unfolding place_back back
  far h b l = go (dec_lt back 16)
    where
      go : Dec (back < 16) → covers_from spans row slot b ≡ false
      go (yes g) = let e : cover_place spans row slot ≡ row * 64 + (slot + 64 - back) % 64 = rw (lt-ltb back 16 g, place_back) in absurd (omega arith)
      go (no g) = (first-from 16 0 (covers_from spans row slot)).before b (omega arith) (omega arith)

-- an entry of initiator i that covers slot v
pub record Covering (p : Plan) (i v : ℕ) (e : Entry) : Type 0 where
  pub has : Memᴰ e p.entries
  pub own : i ≡ e.initiator
  pub over : covers e v ≡ true

module _ (p : Plan) (fair : Fair p) (r i v : ℕ) (row : RowOf p r i) (slot : v < 64) where
  -- the entry at the place that is found covers the slot
  pub found-covers : cover_place (spans_of p) r v < 512 → (e : Entry) × Covering p i v e × (cover_place (spans_of p) r v ≡ r * 64 + e.slot)
  unfolding covers
  found-covers h =
      let (low, place, long) = near (spans_of p) r v (row_small p fair r i row) h in
      let b = back (spans_of p) r v (row_small p fair r i row) in
      let w = (v + 64 - b) % 64 in
      let (e, x) = cell-entry p fair r i w row (omega arith) (omega arith) in
      let s = entry-span p fair r i w row (omega arith) e x in (
        e,
        record { has = x.has; own = x.own; over = lt-ltb ((v + 64 - e.slot) % 64) e.span (omega (arith, x.here)) },
        place ∙ ap (λ (n : ℕ). r * 64 + n) x.here,
      )

  -- where none is found, none covers it
  pub none-covers : 512 ≤ cover_place (spans_of p) r v → (e : Entry) → Covering p i v e → ⊥
  unfolding covers covers_from
  none-covers h e c =
      let low = fair-entry p fair e c.has in
      let b = (v + 64 - e.slot) % 64 in
      let l = ltb-true b e.span c.over in
      let w : (v + 64 - b) % 64 ≡ e.slot = omega (arith, low.slot) in
      let s : cell_at (spans_of p) r e.slot ≡ e.span = entry-span p fair r i e.slot row low.slot e (record { has = c.has; own = c.own; here = refl }) in
      not-both (lt-ltb b (cell_at (spans_of p) r ((v + 64 - b) % 64)) (rw (w, s) l)) (far (spans_of p) r v (row_small p fair r i row) h b (omega (arith, low.span)))

  -- where none runs into another, there is one at most
  pub covers-once : overrun p.entries ≡ none → (e f : Entry) → Covering p i v e → Covering p i v f → e ≡ f
  covers-once alone e f c d =
      let same = sym c.own ∙ d.own in
      entry-once p.entries fair.lists.entries.once e f c.has d.has same
      (cover-once p.entries (fair-entry p fair) alone v e f c.has d.has same c.over d.over)

-- a row without an initiator has no entry
pub no-row-covers : (p : Plan) (r v : ℕ) → r < 8 → v < 64 → at_place r (initiators p) ≡ none → 512 ≤ cover_place (spans_of p) r v
no-row-covers p r v small slot h = go (dec_lt (cover_place (spans_of p) r v) 512)
  where
    go : Dec (cover_place (spans_of p) r v < 512) → 512 ≤ cover_place (spans_of p) r v
    go (yes l) =
        let (low, place, long) = near (spans_of p) r v small l in
        let w = (v + 64 - back (spans_of p) r v small) % 64 in
        let z : cell_at (spans_of p) r w ≡ 0 = span-cell p r w small (omega arith) ∙ of-no-row p r _ h in
        absurd (omega arith)
    go (no l) = omega arith
