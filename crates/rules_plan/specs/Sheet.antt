-- "T-01 Transaction time sheet": how long a transaction takes, "in nanoseconds, each term rounded up", by the terms of document 000 section 4.
use Rattle.std.specs.Prelude.{ℕ, ◌+◌, ◌-◌, ◌*◌, ◌/◌, List, [], ◌∷◌, Bool, true, false, ◌||◌, ltb, Result, Ok, Err}
use Rattle.rules_plan.specs.declared.Terms as code
use Rattle.rules_plan.specs.declared.Fault.{Fault}
use Rattle.rules_plan.specs.Numbers.{fault_number}
use Rattle.rules_plan.specs.Plan.{Times}

-- the sheet of a transaction: its refusal, or the sum of its terms and those of them that are worked out
pub data Sheet : Type 0 where
  NoSheet : (number : ℕ) → Sheet
  Terms : (sum b c e h i : ℕ) → Sheet

-- that sheet, as the code gives it
abbrev pub sheet_told : Result code.Terms Fault → Sheet
sheet_told (Ok t) = Terms t.sum t.b t.c t.e t.h t.i
sheet_told (Err fault) = NoSheet (fault_number fault)

-- a quotient rounded up
unfoldable pub quotient_up : ℕ → ℕ → ℕ
quotient_up n s = (n + (s - 1)) / s

-- "P the least multiple of 4 not below R": the bytes that a command has for the way back over r routers
unfoldable pub reply_address : ℕ → ℕ
reply_address r = (r + 3) / 4 * 4

-- (b) and (h), to cross r routers: "600R twice"
unfoldable pub crossing : ℕ → ℕ
crossing r = 600 * r

-- (c): "10,000 × H / S with H = R+16+P", of a command over the routers out whose reply comes over the routers home
unfoldable pub header : (rate out home : ℕ) → ℕ
header rate out home = quotient_up (10_000 * (out + 16 + reply_address home)) rate

-- (e): "10,000 × (D+1) / S"
unfoldable pub data_time : (rate n : ℕ) → ℕ
data_time rate n = quotient_up (10_000 * (n + 1)) rate

-- (i): "10,000 × (R+8) / S"
unfoldable pub reply_time : (rate home : ℕ) → ℕ
reply_time rate home = quotient_up (10_000 * (home + 8)) rate

-- the sum of (a) to (i): "plus four given latencies (a, d, f, g)"
unfoldable pub sheet : Times → (out home n : ℕ) → ℕ
sheet x out home n = x.a + crossing out + header x.rate out home + x.d + data_time x.rate n + x.f + x.g + crossing home + reply_time x.rate home

-- all of it but the data term (e)
unfoldable pub fixed_time : Times → (out home : ℕ) → ℕ
fixed_time x out home = x.a + crossing out + header x.rate out home + x.d + x.f + x.g + crossing home + reply_time x.rate home

-- "S outside 2 to 400, or a latency or slot length over 1,000,000, is 6"
unfoldable pub over_million : ℕ → Bool
over_million n = ltb 1_000_000 n

unfoldable pub times_out_of_range : Times → Bool
times_out_of_range x =
    ltb x.rate 2 || ltb 400 x.rate || over_million x.a || over_million x.d || over_million x.f || over_million x.g || over_million x.slot

-- "and so for the sheet by itself, also above 7 routers or 4,096 bytes"
unfoldable pub no_sheet : Times → (out home n : ℕ) → Bool
no_sheet x out home n = times_out_of_range x || ltb 7 out || ltb 7 home || ltb 4_096 n

unfoldable pub sheet_answer : Times → (out home n : ℕ) → Sheet
sheet_answer x out home n =
    elim (no_sheet x out home n) [
      | true ↦ NoSheet 6
      | false ↦ Terms (sheet x out home n) (crossing out) (header x.rate out home) (data_time x.rate n) (crossing home) (reply_time x.rate home)
    ]

-- its numbers: 0 or the refusal, the sum, then the terms that are worked out, (b), (c), (e), (h) and (i)
unfoldable pub sheet_numbers : Sheet → List ℕ
sheet_numbers (NoSheet n) = n ∷ 0 ∷ 0 ∷ 0 ∷ 0 ∷ 0 ∷ 0 ∷ []
sheet_numbers (Terms sum b c e h i) = 0 ∷ sum ∷ b ∷ c ∷ e ∷ h ∷ i ∷ []
