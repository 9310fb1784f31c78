-- The entries of a plan in canonical order: what its cells give, row by row and slot by slot, is their fields.
use Rattle.std.specs.Prelude.{◌≡◌, false, ℕ, ◌+◌, ◌*◌, ◌/◌, ◌%◌, ◌<◌, min, length, eqb}
use Rattle.std.proofs.Math.Path.{refl, sym, ap}
use Rattle.std.proofs.Common.{◌∙◌}
use mathlib.Core.List.{List, [], map, flat_map}
use Rattle.std.proofs.Math.Option.{Option, none, some}
use native.Mathlib.Omega.{arith}
use borrow.Author.Tests.{eqb-true, ne_eqb}
use Rattle.lists.specs.Search.{keep, is_in, up_from, below64}
use Rattle.lists.specs.Place.{at_place}
use Rattle.lists.specs.laws.Bools.{both_true, not-both}
use Rattle.lists.specs.laws.Search.{find-some, keep-none, keep_same, below64-range}
use Rattle.lists.specs.laws.Filled.{at-padded}
use Rattle.lists.specs.laws.Order.{flat-same, one-pair}
use Rattle.lists.specs.laws.Kept.{Kept, nothing, one, kept}
use Rattle.lists.specs.laws.Flat.{flat-map, flat-none, flat-nil, flat-one, flat_keep, flat-orders, flat_rows, placed, flat-places}
use Rattle.bitsets.specs.Set.{packed}
use Rattle.bitsets.specs.Packed.{member-packed-below}
use Rattle.rules_plan.specs.Plan.{nth, Entry, Plan, entry}
use Rattle.rules_plan.specs.Fields.{field_for}
use Rattle.rules_plan.specs.Meaning.{is_initiator, initiators, stands_at, entry_at}
use Rattle.rules_plan.specs.Canon.{rising, with_rising, canonical}
use Rattle.rules_plan.specs.Good.{Good, same_entry_place}
use Rattle.rules_plan.specs.laws.GoodSound.{good-entry}
use Rattle.rules_plan.specs.laws.Entries.{entry-initiator}
use Rattle.memory_plan.specs.Memory.{rows_of, of_row, span_of, spans_of, aim_of, aims_of}
use Rattle.memory_plan.specs.laws.InRows.{span-cell, aim-cell}
use Rattle.out_rows.specs.Out.{rises, entry_bytes}

-- the field of an entry, its targets rising
unfoldable entry_field : Entry → List ℕ
entry_field e = field_for (entry (with_rising e))

-- the members of the set of a list's numbers are the numbers, rising
rises-rising : (ts : List ℕ) → rises (packed (λ (t : ℕ). is_in t ts)) ≡ rising ts
unfolding rises rising
rises-rising ts = keep_same _ _ below64 (λ t m. member-packed-below t (λ t. is_in t ts) (below64-range t m))

module _ (p : Plan) where
  -- the bytes of the entry of initiator i at slot v, and of all entries of i
  at : ℕ → ℕ → List ℕ
  at i v = flat_map entry_field (keep (stands_at i v) p.entries)

  of : ℕ → List ℕ
  of i = flat_map (at i) below64

  cell : ℕ → List ℕ
  cell = entry_bytes (rows_of p) (spans_of p) (aims_of p)

  span-at : (r v : ℕ) → r < 8 → v < 64 → nth (spans_of p) (64 * r + v) ≡ of_row p r (λ (i : ℕ). span_of (entry_at p.entries i v))
  span-at r v h g = let e : 64 * r + v ≡ r * 64 + v = omega arith in rw e (span-cell p r v h g)

  aim_at : (r v : ℕ) → r < 8 → v < 64 → nth (aims_of p) (64 * r + v) ≡ of_row p r (λ (i : ℕ). aim_of (entry_at p.entries i v))
  aim_at r v h g = let e : 64 * r + v ≡ r * 64 + v = omega arith in rw e (aim-cell p r v h g)

  module _ (good : Good p) (r v : ℕ) (h : r < 8) (g : v < 64) where
    -- no initiator in the row
    no_row : at_place r (initiators p) ≡ none → cell (64 * r + v) ≡ []
    unfolding cell entry_bytes of_row
    no_row e =
        let s : nth (spans_of p) (64 * r + v) ≡ 0 = span-at r v h g ∙ rw (e, of_row) in
        rw s

    in_row : (i : ℕ) → at_place r (initiators p) ≡ some i → Kept (stands_at i v) p.entries → cell (64 * r + v) ≡ at i v
    unfolding cell at entry_bytes of_row entry_at span_of aim_of rows_of stands_at entry_field with_rising
    in_row i e (nothing k f a) =
        let s : nth (spans_of p) (64 * r + v) ≡ 0 = span-at r v h g ∙ rw (e, of_row, f) in
        rw (s, k, flat-nil entry_field)
    in_row i e (one x k f a t) =
        let (b, c) = both_true (eqb i x.initiator) (eqb v x.slot) t in
        let d : (64 * r + v) / 64 ≡ r = omega arith in
        let m : (64 * r + v) % 64 ≡ v = omega arith in
        let row : nth (rows_of p) r ≡ i = at-padded 8 0 (initiators p) r i e in
        let span : nth (spans_of p) (64 * r + v) ≡ x.span = span-at r v h g ∙ rw (e, of_row, f) in
        let aim : nth (aims_of p) (64 * r + v) ≡ packed (λ (t : ℕ). is_in t x.targets) = aim_at r v h g ∙ rw (e, of_row, f) in
        let some-span = (good-entry p good x (find-some (stands_at i v) p.entries x f).0).some-span in
        rw (span, ne_eqb x.span 0 (λ z. omega arith), d, m, row, aim, rises-rising x.targets, k, flat-one entry_field x, eqb-true i x.initiator b, eqb-true v x.slot c)

    by_row : cell (64 * r + v) ≡ placed (λ (i : ℕ). at i v) (at_place r (initiators p))
    unfolding placed same_entry_place stands_at
    by_row = go (at_place r (initiators p)) refl
      where
        go : (o : Option ℕ) → at_place r (initiators p) ≡ o → cell (64 * r + v) ≡ placed (λ (i : ℕ). at i v) o
        go none e = no_row e
        go (some i) e = in_row i e (kept (stands_at i v) p.entries (one-pair (λ x. x.initiator) (λ x. x.slot) p.entries good.entries i v))

  whole_row : Good p → (r : ℕ) → r < 8 → flat_map (λ (v : ℕ). cell (64 * r + v)) below64 ≡ placed of (at_place r (initiators p))
  unfolding placed of
  whole_row good r h = flat-same _ _ below64 (λ v m. by_row good r v h (below64-range v m)) ∙ go (at_place r (initiators p))
    where
      go : (o : Option ℕ) → flat_map (λ (v : ℕ). placed (λ (i : ℕ). at i v) o) below64 ≡ placed of o
      go none = flat-none _ below64 (λ v m. refl)
      go (some i) = refl

  -- an initiator without a path has no entry
  none_of : Good p → (i : ℕ) → is_initiator p i ≡ false → of i ≡ []
  unfolding of at stands_at flat_map
  none_of good i h =
      flat-none (at i) below64
      (λ v m. ap (flat_map entry_field) (keep-none (stands_at i v) p.entries (λ e n. rw (ne_eqb i e.initiator (λ q. not-both (entry-initiator p good.lengths good.ranges good.reached e n) (rw q at h))))))

  pub entries-out : Good p → canonical p ≡ p → flat_map (entry_bytes (rows_of p) (spans_of p) (aims_of p)) (up_from (64 * min (length (initiators p)) 8) 0) ≡ flat_map field_for (map entry p.entries)
  unfolding canonical initiators cell of at entry_field stands_at below64
  entries-out good e =
      flat_rows cell 64 (min (length (initiators p)) 8) ∙ flat-places of (initiators p) _ (min (length (initiators p)) 8) (omega (arith, good.eight)) (λ r h. whole_row good r (omega arith))
      ∙ flat_keep (is_initiator p) of below64 (none_of good)
      ∙ sym (flat-orders entry_field (λ x. x.initiator) (λ x. x.slot) p.entries) ∙ sym (flat-map (λ x. field_for (entry x)) with_rising _)
      ∙ ap (flat_map (λ x. field_for (entry x))) (ap (λ (q : Plan). q.entries) e) ∙ sym (flat-map field_for entry p.entries)
