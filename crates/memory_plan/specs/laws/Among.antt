-- Laws of the rows: what the search through the rows tells of an initiator, and what an array in rows has for it.
use Rattle.std.specs.Prelude.{◌≡◌, refl, List, Bool, true, false, ℕ, ◌≤◌, ◌<◌, min, length, eqb}
use Rattle.std.proofs.Common.{sym, ap, ◌∙◌, arith, eqb-true, eq-eqb}
use Rattle.std.proofs.Math.Option.{some}
use Rattle.std.proofs.Math.Decide.{dec_lt}
use Rattle.lists.specs.Numbers.{first_from}
use Rattle.lists.specs.Place.{at_place}
use Rattle.lists.specs.laws.Bools.{not-both}
use Rattle.lists.specs.laws.Numbers.{Finds, first-from}
use Rattle.lists.specs.laws.Cells.{cell_at}
use Rattle.lists.specs.laws.At.{at-member, place_at, member-read, place-once}
use Rattle.lists.specs.laws.Padded.{padded-at}
use Rattle.bitsets.specs.Set.{packed}
use Rattle.rules_plan.specs.Plan.{nth, Plan}
use Rattle.rules_plan.specs.Meaning.{is_initiator, initiators, has_path}
use Rattle.rules_plan.specs.laws.Initiators.{initiator-in, in-initiators, initiators-once}
use Rattle.memory_plan.specs.Memory.{rows_of, reach_of}
use Rattle.memory_plan.specs.laws.InRows.{of_row_lem}

-- row k is that of i
abbrev pub is_row : List ℕ → ℕ → ℕ → Bool
is_row rows i k = eqb i (nth rows k)

module _ (t : ℕ → Bool) (m n : ℕ) (h : m ≤ n) where
  some_first : Finds m 0 t (first_from m 0 t)
  some_first = first-from m 0 t

  all_first : Finds n 0 t (first_from n 0 t)
  all_first = first-from n 0 t

  -- the search through the first m of n ends where that through all of them does, or behind them
  pub first-behind : m < first_from n 0 t → m ≡ first_from m 0 t
  first-behind l = go (dec_lt (first_from m 0 t) m)
    where
      go : Dec (first_from m 0 t < m) → m ≡ first_from m 0 t
      go (yes g) = not-both (some_first.found (omega arith)) (all_first.before _ (omega arith) (omega arith))
      go (no g) = omega (arith, some_first.upto)

  pub first-among : first_from n 0 t ≤ m → first_from n 0 t ≡ first_from m 0 t
  first-among l = go (dec_lt (first_from m 0 t) (first_from n 0 t)) (dec_lt (first_from n 0 t) (first_from m 0 t))
    where
      go : Dec (first_from m 0 t < first_from n 0 t) → Dec (first_from n 0 t < first_from m 0 t) → first_from n 0 t ≡ first_from m 0 t
      go (yes g) _ = not-both (some_first.found (omega arith)) (all_first.before _ (omega arith) g)
      go (no g) (yes k) = not-both (all_first.found (omega (arith, some_first.upto))) (some_first.before _ (omega arith) k)
      go (no g) (no k) = omega arith

-- the search ends by the eighth row at the latest
pub row-most : (rows : List ℕ) (count i r : ℕ) → r ≡ first_from (min count 8) 0 (is_row rows i) → r ≤ 8
row-most rows count i r found = omega (arith, found, (first-from (min count 8) 0 (is_row rows i)).upto)

-- an initiator has one row only
pub row-once : (p : Plan) (r s i : ℕ) → at_place r (initiators p) ≡ some i → at_place s (initiators p) ≡ some i → r ≡ s
row-once p r s i = place-once (initiators p) r s i (initiators-once p)

pub reach-at : (p : Plan) (reach : List ℕ) → reach ≡ reach_of p → (r i : ℕ) → at_place r (initiators p) ≡ some i → r < 8 → nth reach r ≡ packed (has_path p i)
unfolding reach_of
reach-at p reach held r i row short = rw held (cell_at 8 _ r 0 short ∙ of_row_lem p r i _ row)

-- r is what the search through the rows finds for i
module _ (p : Plan) (eight : length (initiators p) ≤ 8) (rows : List ℕ) (held : rows ≡ rows_of p) (count : ℕ) (counted : count ≡ length (initiators p)) (i r : ℕ)
    (found : r ≡ first_from (min count 8) 0 (is_row rows i)) where
  finds : Finds (min count 8) 0 (is_row rows i) r
  finds = rw found (first-from (min count 8) 0 (is_row rows i))

  -- the rows are the initiators
  row_at : (k : ℕ) → nth rows k ≡ nth (initiators p) k
  unfolding rows_of
  row_at k = rw held (padded-at 8 0 (initiators p) k)

  pub row_within : r < count → r < 8
  row_within h = omega arith

  -- below the count it is the row of i, and i an initiator
  pub row-place : r < count → at_place r (initiators p) ≡ some i
  row-place h =
      let e : i ≡ nth rows r = eqb-true i (nth rows r) (finds.found (omega (arith, row_within h))) in
      place_at (initiators p) r 0 (omega arith) ∙ ap some (sym (row_at r) ∙ sym e)

  pub row-initiator : r < count → is_initiator p i ≡ true
  row-initiator h = initiator-in p i (at-member (initiators p) r i (row-place h))

  -- else i is none
  pub row-none : i < 64 → count ≤ r → is_initiator p i ≡ false
  row-none b h = go (is_initiator p i) refl
    where
      go : (x : Bool) → is_initiator p i ≡ x → x ≡ false
      go true e =
          let (k, l, g) = member-read (initiators p) i 0 (in-initiators p i b e) in
          not-both (eq-eqb i (nth rows k) (sym (row_at k ∙ g))) (finds.before k (omega arith) (omega arith))
      go false e = refl
