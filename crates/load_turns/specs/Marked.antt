-- A slot put into words of `aims`: those at the marked places have it beside what they had, and the others are as they were.
use Rattle.std.specs.Prelude.{◌≡◌, ℕ, ◌+◌, ◌-◌, ◌*◌, ◌^◌, ◌<◌, List, Bool, ◌&&◌, ◌||◌, length, leb, ltb}
use Rattle.lists.specs.Search.{is_in}
use Rattle.bitsets.specs.Set.{member, alone}
use Rattle.rules_plan.specs.Plan.{nth}

pub record Marked (here : ℕ → Bool) (slot : ℕ) (before after : List ℕ) : Type 0 where
  pub as_many : length after ≡ length before
  pub words : (n v : ℕ) → n < length before → member v (nth after n) ≡ ((here n && alone slot v) || member v (nth before n))
  pub fit : ((n : ℕ) → nth before n < 2 ^ 64) → (n : ℕ) → nth after n < 2 ^ 64

-- the place of a target of the row; of a span that an entry with this span is no shorter than
unfoldable pub is_target : ℕ → List ℕ → ℕ → Bool
is_target row targets n = leb (512 + row * 64) n && is_in (n - (512 + row * 64)) targets

unfoldable pub is_span : ℕ → ℕ → ℕ → Bool
is_span row span n = leb (1_024 + row * 16) n && ltb n (1_024 + row * 16 + span)

abbrev pub is_marked : ℕ → ℕ → List ℕ → ℕ → Bool
is_marked row span targets n = is_target row targets n || is_span row span n
