-- Laws of `spans`, with a cell for each row and slot: what a cell has, and the array with one entry more.
use Rattle.std.proofs.Common.{◌≡◌, ℕ, ◌+◌, ◌*◌, ◌/◌, ◌%◌, ◌<◌, Bool, true, false, List, set, sym, refl, ap, ◌∙◌, arith}
use mathlib.Core.List.{Memᴰ}
use mathlib.Core.Option.{Option, none, some}
use Rattle.lists.specs.Search.{any}
use Rattle.lists.specs.Place.{at_place}
use Rattle.lists.specs.Cells.{cells}
use Rattle.lists.specs.laws.Search.{any-elim, any-intro, find-some, find-has}
use Rattle.rules_plan.specs.Plan.{nth, Entry, Plan, entry, grow}
use Rattle.rules_plan.specs.Meaning.{is_initiator, initiators, stands_at, entry_at}
use Rattle.memory_plan.specs.Memory.{of_row, span_of, spans_of}
use Rattle.memory_plan.specs.laws.InRows.{of_row_lem, slot-cell}
use Rattle.memory_plan.specs.laws.RowCells.{cell-more}

-- the array that has what g says of the entry at each row and slot
abbrev slots : (Option Entry → ℕ) → Plan → List ℕ
slots g p = cells 512 (λ (n : ℕ). of_row p (n / 64) (λ (i : ℕ). g (entry_at p.entries i (n % 64))))

module _ (g : Option Entry → ℕ) (p : Plan) (r i : ℕ) (row : at_place r (initiators p) ≡ some i) (short : r < 8) where
  slot_at : (v : ℕ) → v < 64 → nth (slots g p) (r * 64 + v) ≡ g (entry_at p.entries i v)
  slot_at v h = slot-cell p r v short h g ∙ of_row_lem p r i _ row

-- what the span at a row and slot tells: an entry stands there, or none does
module _ (p : Plan) (spans : List ℕ) (held : spans ≡ spans_of p) (r i : ℕ) (row : at_place r (initiators p) ≡ some i) (short : r < 8) (v : ℕ) (below : v < 64) where
  span-at : nth spans (r * 64 + v) ≡ span_of (entry_at p.entries i v)
  unfolding spans_of
  span-at = rw held (slot_at span_of p r i row short v below)

  pub span-some : (nth spans (r * 64 + v) ≡ 0 → ⊥) → any (stands_at i v) p.entries ≡ true
  unfolding entry_at span_of
  span-some h = go (entry_at p.entries i v) refl
    where
      go : (o : Option Entry) → entry_at p.entries i v ≡ o → any (stands_at i v) p.entries ≡ true
      go none e = absurd (h (span-at ∙ ap span_of e))
      go (some f) e = let (m, t) = find-some (stands_at i v) p.entries f e in any-intro (stands_at i v) p.entries f m t

  pub span_none : ((e : Entry) → Memᴰ e p.entries → 0 < e.span) → nth spans (r * 64 + v) ≡ 0 → any (stands_at i v) p.entries ≡ false
  unfolding entry_at span_of
  span_none long h = go (any (stands_at i v) p.entries) refl
    where
      go : (b : Bool) → any (stands_at i v) p.entries ≡ b → b ≡ false
      go true t =
          let (e, m, s) = any-elim (stands_at i v) p.entries t in
          let (f, g) = find-has (stands_at i v) p.entries e m s in
          let z : f.span ≡ 0 = sym (ap span_of g) ∙ sym span-at ∙ h in
          absurd (omega (arith, long f (find-some (stands_at i v) p.entries f g).0))
      go false t = refl

-- the entry stored
module _ (p : Plan) (r : ℕ) (e : Entry) (row : at_place r (initiators p) ≡ some e.initiator) (short : r < 8) (below : e.slot < 64)
    (free : any (stands_at e.initiator e.slot) p.entries ≡ false) where
  pub spans-entry : (spans : List ℕ) → spans ≡ spans_of p → set spans (r * 64 + e.slot) e.span ≡ spans_of (grow p (entry e))
  unfolding spans_of span_of entry_at stands_at grow of_row initiators is_initiator
  spans-entry spans held = rw held (cell-more span_of (λ f. f.initiator) (λ f. f.slot) p r p.entries e row short below free)
