-- "T-04 When is my next turn?": "the next slot in which initiator i may start a request of d bytes to target t". It is about the plan alone, and
-- not about the present slot, the line or what is live.
use Rattle.std.specs.Prelude.{ℕ, ◌+◌, ◌%◌, List, [], ◌∷◌, Bool, true, false, not, ltb, eqb, Result, Ok, Err}
use Rattle.std.proofs.Math.Option.{Option, none, some, get_or}
use Rattle.lists.specs.Search.{is_some}
use Rattle.lists.specs.Numbers.{first_from}
use Rattle.lists.specs.Rows.{Row, first_of}
use Rattle.rules_plan.specs.declared.Refusal.{Refusal}
use Rattle.rules_plan.specs.Numbers.{refusal_number}
use Rattle.rules_plan.specs.Plan.{Entry, Plan, blank}
use Rattle.rules_plan.specs.Meaning.{is_initiator, permits, may_start, entry_at}

-- slot v is a turn: an entry of initiator i stands there, among the entries es, that permits the target with the length. A slot that an
-- entry only covers is none.
unfoldable pub is_turn : Plan → List Entry → (i t n v : ℕ) → Bool
is_turn p es i t n v = elim (entry_at es i v) [ none ↦ false | some e ↦ permits p e t n ]

-- "counted 1 to 64: 1 is the slot after a given one, 64 that slot again"
unfoldable pub slot_after : (s k : ℕ) → ℕ
slot_after s k = (s + k) % 64

unfoldable pub next_turn : Plan → List Entry → (i t n s : ℕ) → ℕ
next_turn p es i t n s = first_from 64 1 (λ (k : ℕ). is_turn p es i t n (slot_after s k))

-- "Refusals: 20, 22, 24, 25 as for a request; a slot over 63 is 33, after 25."
unfoldable pub next_rows : Option Plan → (i t n s : ℕ) → List Row
next_rows o i t n s =
    let p = get_or o blank in
    (20, not (is_some o))
    ∷ (22, not (is_initiator p i))
    ∷ (24, ltb 4096 n)
    ∷ (25, not (may_start p p.entries i t n))
    ∷ (33, ltb 63 s)
    ∷ []

unfoldable pub next_refusal : Option Plan → (i t n s : ℕ) → ℕ
next_refusal o i t n s = first_of (next_rows o i t n s)

-- the answer: the refusal, or how many slots on the next turn is
pub data Next : Type 0 where
  NoTurn : (number : ℕ) → Next
  Turn : (count : ℕ) → Next

-- that of the code
abbrev pub next_told : Result ℕ Refusal → Next
next_told (Ok count) = Turn count
next_told (Err refusal) = NoTurn (refusal_number refusal)

unfoldable pub next_answer : Option Plan → (i t n s : ℕ) → Next
next_answer o i t n s =
    let p = get_or o blank in
    elim (eqb (next_refusal o i t n s) 0) [
      | true ↦ Turn (next_turn p p.entries i t n s)
      | false ↦ NoTurn (next_refusal o i t n s)
    ]

-- its numbers: 0 and the count, or the refusal and 0
unfoldable pub next_numbers : Next → List ℕ
next_numbers (NoTurn n) = n ∷ 0 ∷ []
next_numbers (Turn n) = 0 ∷ n ∷ []
