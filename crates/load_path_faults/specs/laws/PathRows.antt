-- The rows read off the memory of a fair plan: the row that is found, and what it reaches.
use Rattle.std.specs.Prelude.{◌≡◌, refl, Bool, true, false, ℕ, ◌<◌, ◌≤◌, min, length, eqb}
use Rattle.std.proofs.Common.{sym, ap, ◌∙◌, arith, eqb-true}
use Rattle.std.proofs.Math.Option.{none, some}
use Rattle.std.proofs.Math.Decide.{dec_lt}
use Rattle.std.proofs.lemmas.Bool.{eqb-false}
use Rattle.lists.specs.Place.{at_place}
use Rattle.lists.specs.Numbers.{first_from}
use Rattle.lists.specs.Cells.{padded}
use Rattle.lists.specs.laws.Search.{any_none, any_false}
use Rattle.lists.specs.laws.Cells.{cell_at}
use Rattle.lists.specs.laws.At.{at_none, place_at, member-read}
use Rattle.lists.specs.laws.Padded.{padded-at}
use Rattle.lists.specs.laws.Numbers.{Finds, first-from}
use Rattle.bitsets.specs.Set.{member, packed}
use Rattle.bitsets.specs.Laws.{member-empty}
use Rattle.bitsets.specs.Packed.{member-packed-below}
use Rattle.rules_plan.specs.Plan.{nth, Route, Plan}
use Rattle.rules_plan.specs.Meaning.{is_initiator, initiators, leads_from, has_path}
use Rattle.rules_plan.specs.laws.Initiators.{in-initiators}
use Rattle.memory_plan.specs.Memory.{rows_of, of_row, reach_of}
use Rattle.memory_plan.specs.Rows.{row_among}

-- r is the row of initiator i, or their number where i is none
pub record RowRead (p : Plan) (i r : ℕ) : Type 0 where
  pub within : r ≤ length (initiators p)
  pub found : r < length (initiators p) → at_place r (initiators p) ≡ some i
  pub missed : r ≡ length (initiators p) → is_initiator p i ≡ false

pub row_read : (p : Plan) (i : ℕ) → length (initiators p) ≤ 8 → i < 64 → RowRead p i (row_among (rows_of p) (length (initiators p)) i)
unfolding rows_of
row_read p i h b = go (first-from (min (length (initiators p)) 8) 0 test)
  where
    test : ℕ → Bool
    test k = eqb i (nth (padded 8 0 (initiators p)) k)

    r : ℕ
    r = first_from (min (length (initiators p)) 8) 0 test

    go : Finds (min (length (initiators p)) 8) 0 test r → RowRead p i r
    go f = record {
      within = omega (arith, f.upto);
      found = λ l. place_at (initiators p) r 0 l ∙ ap some (sym (padded-at 8 0 (initiators p) r) ∙ sym (eqb-true i _ (f.found (omega arith))));
      missed = λ e. no (is_initiator p i) refl e;
    }
      where
        no : (x : Bool) → is_initiator p i ≡ x → r ≡ length (initiators p) → is_initiator p i ≡ false
        no false g e = g
        no true g e =
            let (j, l, q) = member-read (initiators p) i 0 (in-initiators p i b g) in
            absurd (eqb-false i _ (f.before j (omega arith) (omega arith)) (sym q ∙ sym (padded-at 8 0 (initiators p) j)))

-- who is no initiator has no path
pub no-paths : (p : Plan) (i t : ℕ) → is_initiator p i ≡ false → has_path p i t ≡ false
unfolding is_initiator has_path leads_from
no-paths p i t h = any_none (leads_from i t) p.paths (λ x m. rw (any_false (λ (x : Route). eqb i x.start) p.paths x h m))

-- what the row of an initiator reaches, and a row of none
pub reach-some : (p : Plan) (r i : ℕ) → r < 8 → at_place r (initiators p) ≡ some i → nth (reach_of p) r ≡ packed (has_path p i)
unfolding reach_of of_row
reach-some p r i h e = cell_at 8 _ r 0 h ∙ (rw (e, of_row))

pub reach-none : (p : Plan) (r : ℕ) → r < 8 → at_place r (initiators p) ≡ none → nth (reach_of p) r ≡ 0
unfolding reach_of of_row
reach-none p r h e = cell_at 8 _ r 0 h ∙ (rw (e, of_row))

-- so the row that is found says whether the path is there
pub reach-read : (p : Plan) (i t r : ℕ) → RowRead p i r → r < 8 → t < 64 → member t (nth (reach_of p) r) ≡ has_path p i t
reach-read p i t r f h b = go (dec_lt r (length (initiators p)))
  where
    go : Dec (r < length (initiators p)) → member t (nth (reach_of p) r) ≡ has_path p i t
    go (yes l) = ap (member t) (reach-some p r i h (f.found l)) ∙ member-packed-below t (has_path p i) b
    go (no l) =
        let e : r ≡ length (initiators p) = omega (arith, f.within) in
        ap (member t) (reach-none p r h (at_none (initiators p) r (omega arith))) ∙ member-empty t ∙ sym (no-paths p i t (f.missed e))
