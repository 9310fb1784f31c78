-- The arrays in rows, cell by cell: what they hold for the initiator of a row, and for a row of none.
use Rattle.std.specs.Prelude.{◌≡◌, refl, List, [], ◌∷◌, ◌++◌, ℕ, zero, suc, ◌+◌, ◌*◌, ◌/◌, ◌%◌, ◌<◌, length}
use Rattle.std.proofs.Common.{sym, ap, ◌∙◌, arith, length-append, get_or-append-add}
use Rattle.std.proofs.Math.Option.{Option, none, some}
use Rattle.std.proofs.Math.ListN.{get_or-append}
use Rattle.lists.specs.Place.{at_place}
use Rattle.lists.specs.Cells.{cells}
use Rattle.lists.specs.laws.Cells.{length-cells, cell_at}
use Rattle.lists.specs.laws.Padded.{padded-at}
use Rattle.rules_plan.specs.Plan.{nth, Entry, Plan}
use Rattle.rules_plan.specs.Meaning.{initiators, entry_at}
use Rattle.memory_plan.specs.Memory.{rows_of, of_row, span_of, spans_of, aim_of, slot_aims, has_target, longer_than, slots_with, turns_of, long_of, aims_of}

-- what f gives for the row's initiator
pub of_row_lem : (p : Plan) (r i : ℕ) (f : ℕ → ℕ) → at_place r (initiators p) ≡ some i → of_row p r f ≡ f i
unfolding of_row
of_row_lem p r i f h = rw (h, of_row)

pub of-no-row : (p : Plan) (r : ℕ) (f : ℕ → ℕ) → at_place r (initiators p) ≡ none → of_row p r f ≡ 0
unfolding of_row
of-no-row p r f h = rw (h, of_row)

pub row-cell : (p : Plan) (r : ℕ) → nth (rows_of p) r ≡ of_row p r (λ (i : ℕ). i)
unfolding rows_of of_row at_place
row-cell p r = padded-at 8 0 (initiators p) r ∙ read (initiators p) r
  where
    read : (is : List ℕ) (k : ℕ) → nth is k ≡ elim (at_place k is) [ none ↦ 0 | some i ↦ i ]
    read [] k = refl
    read (i ∷ is) zero = refl
    read (i ∷ is) (suc k) = read is k

-- how many cells the parts of `aims` have
pub length-slot_aims : (p : Plan) → length (slot_aims p) ≡ 512
unfolding slot_aims
length-slot_aims p = length-cells 512 _

pub length-turns_of : (p : Plan) → length (turns_of p) ≡ 512
unfolding turns_of
length-turns_of p = length-cells 512 _

pub length-long_of : (p : Plan) → length (long_of p) ≡ 128
unfolding long_of
length-long_of p = length-cells 128 _

pub length-aims_of : (p : Plan) → length (aims_of p) ≡ 1_152
unfolding aims_of
length-aims_of p = omega (
  arith,
  length-append (slot_aims p) (turns_of p ++ long_of p),
  length-append (turns_of p) (long_of p),
  length-slot_aims p,
  length-turns_of p,
  length-long_of p,
)

-- a cell of `spans` and of `aims`
module _ (p : Plan) (r v : ℕ) (row : r < 8) (slot : v < 64) where
  pub slot-cell : (g : Option Entry → ℕ) → nth (cells 512 (λ (n : ℕ). of_row p (n / 64) (λ (i : ℕ). g (entry_at p.entries i (n % 64))))) (r * 64 + v)
      ≡ of_row p r (λ (i : ℕ). g (entry_at p.entries i v))
  slot-cell g =
      let a : (r * 64 + v) / 64 ≡ r = omega arith in
      let b : (r * 64 + v) % 64 ≡ v = omega arith in
      cell_at 512 (λ (n : ℕ). of_row p (n / 64) (λ (i : ℕ). g (entry_at p.entries i (n % 64)))) (r * 64 + v) 0 (omega arith) ∙ rw (a, b)

  pub span-cell : nth (spans_of p) (r * 64 + v) ≡ of_row p r (λ (i : ℕ). span_of (entry_at p.entries i v))
  unfolding spans_of
  span-cell = slot-cell span_of

  pub aim-cell : nth (aims_of p) (r * 64 + v) ≡ of_row p r (λ (i : ℕ). aim_of (entry_at p.entries i v))
  unfolding aims_of slot_aims
  aim-cell = get_or-append (slot_aims p) (turns_of p ++ long_of p) 0 (r * 64 + v) (omega (arith, length-slot_aims p)) ∙ slot-cell aim_of

-- what stands behind the first part of a list
behind : (xs ys : List ℕ) (m n : ℕ) → length xs ≡ m → nth (xs ++ ys) (m + n) ≡ nth ys n
behind xs ys m n e = ap (λ (k : ℕ). nth (xs ++ ys) (k + n)) (sym e) ∙ get_or-append-add xs ys n 0

-- a word of the summary
pub turn-cell : (p : Plan) (r t : ℕ) → r < 8 → t < 64 → nth (aims_of p) (512 + (r * 64 + t)) ≡ of_row p r (slots_with (has_target t) p.entries)
unfolding aims_of turns_of
turn-cell p r t row low =
    let a : (r * 64 + t) / 64 ≡ r = omega arith in
    let b : (r * 64 + t) % 64 ≡ t = omega arith in
    behind (slot_aims p) (turns_of p ++ long_of p) 512 (r * 64 + t) (length-slot_aims p)
    ∙ get_or-append (turns_of p) (long_of p) 0 (r * 64 + t) (omega (arith, length-turns_of p))
    ∙ cell_at 512 _ (r * 64 + t) 0 (omega arith) ∙ rw (a, b)

pub long-cell : (p : Plan) (r k : ℕ) → r < 8 → k < 16 → nth (aims_of p) (1_024 + (r * 16 + k)) ≡ of_row p r (slots_with (longer_than k) p.entries)
unfolding aims_of long_of
long-cell p r k row low =
    let a : (r * 16 + k) / 16 ≡ r = omega arith in
    let b : (r * 16 + k) % 16 ≡ k = omega arith in
    let c : 1_024 + (r * 16 + k) ≡ 512 + (512 + (r * 16 + k)) = omega arith in
    ap (nth (aims_of p)) c
    ∙ behind (slot_aims p) (turns_of p ++ long_of p) 512 (512 + (r * 16 + k)) (length-slot_aims p)
    ∙ behind (turns_of p) (long_of p) 512 (r * 16 + k) (length-turns_of p)
    ∙ cell_at 128 _ (r * 16 + k) 0 (omega arith) ∙ rw (a, b)
