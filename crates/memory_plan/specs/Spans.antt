-- How long a transaction may be, as `numbers` has it: with products alone, since a length fits a span exactly when its bits and the fixed time
-- by the rate are within the span's slots by the rate (rules_plan laws/Sheets).
use Rattle.std.specs.Prelude.{ℕ, ◌+◌, ◌*◌, ◌≤◌, ◌<◌, List, Bool, true, false, not, ◌&&◌, leb, eqb}
use Rattle.lists.specs.Numbers.{first_from}
use Rattle.memory_plan.specs.Memory.{rate_in, slot_in, cost_in}

-- a transaction of the row's initiator with n data bytes to the target is within the time of k slots
unfoldable pub fits_in_words : List ℕ → (row target n k : ℕ) → Bool
fits_in_words numbers row target n k =
    elim (eqb (rate_in numbers) 0) [
      | true ↦ leb n (256 * k)
      | false ↦ leb n 4_096 && not (eqb (cost_in numbers row target) 0) && leb (10_000 * (n + 1) + cost_in numbers row target) (k * slot_in numbers)
    ]

-- the least span that it fits, 17 where it fits none
unfoldable pub least_in_words : List ℕ → (row target n : ℕ) → ℕ
least_in_words numbers row target n = first_from 16 1 (fits_in_words numbers row target n)

-- of a need that k slots do not meet, and k and twice a step do: the r of k and k + step that it does not meet, and with the step does
abbrev pub Halved : (need slot k step r : ℕ) → Type 0
Halved need slot k step r =
    (r ≤ k + step) × (k * slot < need → need ≤ (k + 2 * step) * slot → (r * slot < need) × (need ≤ (r + step) * slot))
