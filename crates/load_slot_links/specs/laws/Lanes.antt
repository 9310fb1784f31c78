-- The set of links that is worked out for a row and a slot has the links that the row's initiator may use there.
use Rattle.std.specs.Prelude.{◌≡◌, List, Bool, true, false, ◌&&◌, ℕ, ◌+◌, ◌*◌, ◌^◌, ◌≤◌, ◌<◌, min, length, get_or, set, ltb}
use Rattle.std.proofs.Math.Path.{refl}
use Rattle.std.proofs.Common.{sym, ap, ◌∙◌, arith, get_or-set_same, get_or-set_other, below_more, lt-ltb}
use Rattle.std.proofs.Math.Option.{Option, none, some}
use Rattle.lists.specs.Search.{is_in}
use Rattle.lists.specs.Numbers.{any_below}
use Rattle.lists.specs.Place.{at_place}
use Rattle.lists.specs.laws.Bools.{both_true, true-both, same_test}
use Rattle.lists.specs.laws.Search.{is_in-elim, is_in-intro}
use Rattle.lists.specs.laws.Cells.{cells_are}
use Rattle.bitsets.specs.Set.{member, packed}
use Rattle.bitsets.specs.Laws.{member-empty}
use Rattle.bitsets.specs.Packed.{member-packed, packed-is}
use Rattle.rules_plan.specs.Plan.{Entry, Plan}
use Rattle.rules_plan.specs.Meaning.{initiators, may_use}
use Rattle.rules_plan.specs.laws.Clashes.{May, may-use}
use Rattle.memory_plan.specs.Memory.{rows_of, paths_of, spans_of, aims_of, numbers_with}
use Rattle.load_slot_links.specs.Lanes.{cover_place, leads_over, lane_of, lanes_of, Searched}
use Rattle.memory_plan.specs.laws.InRows.{of_row_lem, of-no-row}
use Rattle.load_overruns.specs.laws.Entries.{RowOf, row_reads, fair-entry, entry-aim}
use Rattle.load_slot_links.specs.laws.Paths.{links-used}
use Rattle.load_slot_links.specs.laws.Cover.{Covering, found-covers, none-covers, covers-once, no-row-covers}

-- the set of a row with an initiator, and of one without
pub lane-of : (p : Plan) (v r i : ℕ) → RowOf p r i → lane_of p v r ≡ packed (may_use p p.entries v i)
unfolding lane_of
lane-of p v r i row = of_row_lem p r i (λ (j : ℕ). packed (may_use p p.entries v j)) row

pub lane-none : (p : Plan) (v r : ℕ) → at_place r (initiators p) ≡ none → lane_of p v r ≡ 0
unfolding lane_of
lane-none p v r h = of-no-row p r (λ (j : ℕ). packed (may_use p p.entries v j)) h

-- who may use a link has an entry that covers the slot
may-covers : {p : Plan} {v i l : ℕ} (m : May p p.entries v i l) → Covering p i v m.entry
may-covers m = record { has = m.has; own = sym m.own; over = m.over }

module _ {p : Plan} {rows paths spans aims numbers : List ℕ} (s : Searched p rows paths spans aims numbers) (r v place : ℕ) (at : place ≡ cover_place spans r v) (small : r < 8) (slot : v < 64) where
  -- an entry covers the slot: the links that are worked out are those to its targets
  pub lane-found : (x : ℕ) → x < 2 ^ 64 → place < 512
      → ((l : ℕ) → member l x ≡ any_below (min 128 (get_or numbers 3 0)) (leads_over paths (get_or rows r 0) (get_or aims place 0) l)) → x ≡ lane_of p v r
  unfolding numbers_with
  lane-found x word h f = go (at_place r (initiators p)) refl
    where
      near : cover_place (spans_of p) r v < 512
      near = rw (at, s.spans) at h

      held : (l : ℕ) → member l x ≡ any_below (min 128 (length p.paths)) (leads_over (paths_of p) (get_or (rows_of p) r 0) (get_or (aims_of p) (cover_place (spans_of p) r v) 0) l)
      held l = rw (at, s.rows, s.paths, s.spans, s.aims, s.numbers) at (f l)

      with_row : (i : ℕ) → RowOf p r i → x ≡ packed (may_use p p.entries v i)
      with_row i row = packed-is x (may_use p p.entries v i) word (λ l _. held l ∙ links l)
        where
          found : (e : Entry) × Covering p i v e × (cover_place (spans_of p) r v ≡ r * 64 + e.slot)
          found = found-covers p s.fair r i v row slot near

          e : Entry
          e = found.0

          targets : ℕ
          targets = get_or (aims_of p) (cover_place (spans_of p) r v) 0

          -- the set of targets that is read
          aimed : (t : ℕ) → member t targets ≡ ltb t 64 && is_in t e.targets
          aimed t =
              let low = fair-entry p s.fair e found.1.has in
              ap (member t) (ap (λ (n : ℕ). get_or (aims_of p) n 0) found.2 ∙ entry-aim p s.fair r i e.slot row low.slot e (record { has = found.1.has; own = found.1.own; here = refl }))
              ∙ member-packed t (λ (u : ℕ). is_in u e.targets)

          there : (l : ℕ) → any_below (min 128 (length p.paths)) (leads_over (paths_of p) i targets l) ≡ true → may_use p p.entries v i l ≡ true
          there l g =
              let (t, m, u) = (links-used p s.fair i targets l).0 g in
              let a = both_true (ltb t 64) (is_in t e.targets) (sym (aimed t) ∙ m) in
              (may-use p p.entries v i l).1 (record { entry = e; has = found.1.has; own = sym found.1.own; over = found.1.over; target = t; aims = is_in-elim t e.targets a.1; on = u })

          back : (l : ℕ) → may_use p p.entries v i l ≡ true → any_below (min 128 (length p.paths)) (leads_over (paths_of p) i targets l) ≡ true
          back l g =
              let m = (may-use p p.entries v i l).0 g in
              let same : m.entry ≡ e = covers-once p s.fair r i v row slot s.alone m.entry e (may-covers m) found.1 in
              let low = fair-entry p s.fair m.entry m.has in
              let n : is_in m.target e.targets ≡ true = rw same at (is_in-intro m.target m.entry.targets m.aims) in
              (links-used p s.fair i targets l).1 (m.target, aimed m.target ∙ true-both (lt-ltb m.target 64 (low.targets m.target m.aims)) n, m.on)

          links : (l : ℕ) → any_below (min 128 (length p.paths)) (leads_over (paths_of p) (get_or (rows_of p) r 0) targets l) ≡ may_use p p.entries v i l
          links l = rw (row_reads p r i row) (same_test _ _ (there l) (back l))

      go : (o : Option ℕ) → at_place r (initiators p) ≡ o → x ≡ lane_of p v r
      go none e = absurd (omega (arith, near, no-row-covers p r v small slot e))
      go (some i) e = with_row i e ∙ sym (lane-of p v r i e)

  -- none covers it: there are no links
  pub lane-nothing : 512 ≤ place → 0 ≡ lane_of p v r
  lane-nothing h = go (at_place r (initiators p)) refl
    where
      none-may : (i : ℕ) → RowOf p r i → (l : ℕ) (b : Bool) → may_use p p.entries v i l ≡ b → member l 0 ≡ b
      none-may i row l true g = let m = (may-use p p.entries v i l).0 g in absurd (none-covers p s.fair r i v row slot (rw (at, s.spans) at h) m.entry (may-covers m))
      none-may i row l false g = member-empty l

      go : (o : Option ℕ) → at_place r (initiators p) ≡ o → 0 ≡ lane_of p v r
      go none e = sym (lane-none p v r e)
      go (some i) e = packed-is 0 (may_use p p.entries v i) (omega arith) (λ l _. none-may i e l _ refl) ∙ sym (lane-of p v r i e)

-- the first n rows have their sets
abbrev pub Filled : Plan → ℕ → List ℕ → ℕ → Type 0
Filled p v lanes n = (r : ℕ) → r < n → get_or lanes r 0 ≡ lane_of p v r

module _ (p : Plan) (v : ℕ) (lanes : List ℕ) (eight : length lanes ≡ 8) (n : ℕ) (filled : Filled p v lanes n) where
  pub filled_more : (x : ℕ) → n < 8 → x ≡ lane_of p v n → Filled p v (set lanes n x) (n + 1)
  filled_more x h e =
      below_more (λ (r : ℕ). get_or (set lanes n x) r 0 ≡ lane_of p v r) n (λ r l. get_or-set_other lanes n r x 0 (omega arith) ∙ filled r l)
      (get_or-set_same lanes n x 0 (omega arith) ∙ e)

  pub filled-all : 8 ≤ n → lanes ≡ lanes_of p v
  unfolding lanes_of
  filled-all h = cells_are 8 (lane_of p v) 0 lanes eight (λ r l. filled r (omega arith))
