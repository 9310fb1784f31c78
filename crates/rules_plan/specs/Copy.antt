-- Writing out, of a box that holds a plan or none: the refusals, the answer, and the buffer afterwards.
use Rattle.std.specs.Prelude.{ℕ, List, [], ◌∷◌, ◌++◌, true, false, not, length, drop, ltb, eqb, Result, Ok, Err}
use Rattle.std.proofs.Math.Option.{Option, get_or}
use Rattle.lists.specs.Search.{is_some}
use Rattle.lists.specs.Rows.{Row, first_of}
use Rattle.rules_plan.specs.declared.Refusal.{Refusal}
use Rattle.rules_plan.specs.Numbers.{refusal_number}
use Rattle.rules_plan.specs.Plan.{Plan, blank}
use Rattle.rules_plan.specs.Canon.{written}

-- what writing out answers: the refusal, or the size
pub data Copied : Type 0 where
  NotWritten : (number : ℕ) → Copied
  Written : (size : ℕ) → Copied

-- that answer, as the code gives it
abbrev pub copied_told : Result ℕ Refusal → Copied
copied_told (Ok size) = Written size
copied_told (Err refusal) = NotWritten (refusal_number refusal)

-- "Writing out answers 0 and the size."
pub record Sized : Type 0 where
  pub number : ℕ
  pub size : ℕ

unfoldable pub sized : Copied → Sized
sized (NotWritten n) = record { number = n; size = 0 }
sized (Written n) = record { number = 0; size = n }

unfoldable pub bytes_of : Option Plan → List ℕ
bytes_of o = written (get_or o blank)

-- "20 no plan"; "30 room under the size needed"
unfoldable pub copy_rows : ℕ → Option Plan → List Row
copy_rows room o = (20, not (is_some o)) ∷ (30, ltb room (length (bytes_of o))) ∷ []

unfoldable pub copy_refusal : ℕ → Option Plan → ℕ
copy_refusal room o = first_of (copy_rows room o)

unfoldable pub copy_answer : ℕ → Option Plan → Copied
copy_answer room o =
    elim (eqb (copy_refusal room o) 0) [
      | true ↦ Written (length (bytes_of o))
      | false ↦ NotWritten (copy_refusal room o)
    ]

-- "Writing out answers 0 and the size; room beyond it keeps its bytes." A refusal leaves the buffer.
unfoldable pub copied : Option Plan → List ℕ → List ℕ
copied o buffer =
    elim (eqb (copy_refusal (length buffer) o) 0) [
      | true ↦ bytes_of o ++ drop (length (bytes_of o)) buffer
      | false ↦ buffer
    ]
