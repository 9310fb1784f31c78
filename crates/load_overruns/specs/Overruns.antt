-- What the search for an entry that runs into another reads off memory.
use Rattle.std.specs.Prelude.{List, Bool, not, ◌&&◌, ℕ, ◌+◌, ◌*◌, ◌%◌, get_or, ltb, eqb}
use Rattle.lists.specs.Numbers.{any_below}

-- the cell of a row at a slot
abbrev pub cell_at : List ℕ → ℕ → ℕ → ℕ
cell_at m row slot = get_or m (row * 64 + slot) 0

-- an entry of the row stands k slots after the slot, k not 0
unfoldable pub stands_after : List ℕ → ℕ → ℕ → ℕ → Bool
stands_after spans row slot k = ltb 0 k && not (eqb (cell_at spans row ((slot + k) % 64)) 0)

-- one stands in one of the span - 1 slots after the slot
abbrev pub runs_on : List ℕ → ℕ → ℕ → ℕ → Bool
runs_on spans row slot span = any_below span (stands_after spans row slot)

-- the entry of the row at the slot runs into another
abbrev pub runs_at : List ℕ → ℕ → ℕ → Bool
runs_at spans row slot = runs_on spans row slot (cell_at spans row slot)
