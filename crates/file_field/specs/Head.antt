-- The field reader: the head of a field judged (verdicts 2 to 5), and what is read of it.
use Rattle.std.specs.Prelude.{ℕ, List, true, false, eqb, Result, Ok, Err}
use Rattle.lists.specs.Rows.{first_of}
use Rattle.rules_plan.specs.declared.Fault.{Fault}
use Rattle.rules_plan.specs.Fields.{tag_at, size_at}
use Rattle.rules_plan.specs.Judge.{head_rows}
use Rattle.rules_plan.specs.Numbers.{fault_number}
use Rattle.file_field.specs.declared.field.Head.{Head}

-- the verdict on the head of the field at offset at, 0 for none
unfoldable pub head_fault : List ℕ → ℕ → ℕ → ℕ
head_fault s at before = first_of (head_rows s at before)

-- that verdict, or the tag and the size where there is none
pub data HeadRead : Type 0 where
  faulty : (number : ℕ) → HeadRead
  field : (tag size : ℕ) → HeadRead

unfoldable pub head_of : List ℕ → ℕ → ℕ → HeadRead
head_of s at before = elim (eqb (head_fault s at before) 0) [ true ↦ field (tag_at s at) (size_at s at) | false ↦ faulty (head_fault s at before) ]

-- the same of what the reader answers
abbrev pub head_told : Result Head Fault → HeadRead
head_told (Ok head) = field head.tag head.size
head_told (Err fault) = faulty (fault_number fault)
