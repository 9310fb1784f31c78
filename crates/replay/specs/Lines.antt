-- Lines in a buffer of bytes: 10 is a newline.
use Rattle.std.specs.Prelude.{ℕ, ◌-◌, Bool, List, ◌++◌, length, drop, ◌==◌, slice_index, slice_range}
use Rattle.lists.specs.Numbers.{first_from}

abbrev pub is_newline : List ℕ → ℕ → Bool
is_newline s i = slice_index s i == 10

-- where the line that begins at a place ends: at the first newline, or where there is none at the end of the bytes
abbrev pub line_end : List ℕ → ℕ → ℕ
line_end s from = first_from (length s - from) from (is_newline s)

-- the bytes from one place up to another moved to the front; those behind them stay
abbrev pub shifted : ℕ → ℕ → List ℕ → List ℕ
shifted from to s = slice_range s from to ++ drop (to - from) s
