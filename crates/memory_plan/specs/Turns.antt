-- When a transaction may start, as the summary in `aims` has it: by two words, and no entry.
use Rattle.std.specs.Prelude.{◌≡◌, ℕ, ◌+◌, ◌-◌, ◌*◌, ◌≤◌, ◌<◌, List, Bool, ◌&&◌, leb}
use Rattle.bitsets.specs.Set.{member}
use Rattle.rules_plan.specs.Plan.{nth}

-- the slots of the row's entries that have the target; and of those whose span is over k
abbrev pub turns_in : List ℕ → (row target : ℕ) → ℕ
turns_in aims row target = nth aims (512 + (row * 64 + target))

abbrev pub long_in : List ℕ → (row k : ℕ) → ℕ
long_in aims row k = nth aims (1_024 + (row * 16 + k))

-- the slots that a target of any number has
pub record Aimed (aims : List ℕ) (row target slots : ℕ) : Type 0 where
  pub beyond : 64 ≤ target → slots ≡ 0
  pub within : target < 64 → slots ≡ turns_in aims row target

-- the row's entry at slot v is no shorter than so long a span
unfoldable pub long_at : List ℕ → (row need v : ℕ) → Bool
long_at aims row need v = leb need 16 && member v (long_in aims row (need - 1))

-- slot v is a turn of a transaction of the row's initiator to the target that needs so long a span
unfoldable pub turn_in_words : List ℕ → (row target need v : ℕ) → Bool
turn_in_words aims row target need v = member v (turns_in aims row target) && long_at aims row need v
