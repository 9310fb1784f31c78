-- The lines that a script's commands print, as REPLAY.md's table has them.
use Rattle.std.specs.Prelude.{◌≡◌, List, [], ◌∷◌, ◌++◌, Bool, true, false, cond, ℕ, ◌*◌, length, get_or, take, drop, eqb}
use Rattle.rules_plan.specs.Print.{text, decimal}
use Rattle.rules_plan.specs.Copy.{Sized}
use Rattle.rules_plan.specs.Sheet.{sheet_numbers, Sheet}
use Rattle.rules_plan.specs.Next.{Next, next_numbers}
use Rattle.rules_box.specs.declared.Event.{Event}
use Rattle.rules_box.specs.declared.Event.TheVariants.{TimeCode, Request, Reply, Reading}
use Rattle.rules_box.specs.declared.Watchdog.{Watchdog}
use Rattle.rules_box.specs.Answer.{Values}
use Rattle.rules_box.specs.Refuse.{record_size}
use Rattle.script_words.specs.Lines.{in_row}
use Rattle.script_hex.specs.Hex.{hex_text}

-- "exactly one line for each command"
unfoldable pub ended : List ℕ → List ℕ
ended s = s ++ (10 ∷ [])

-- "`ERROR line N`"
unfoldable pub error_line : ℕ → List ℕ
error_line n = ended (text "ERROR line " ++ decimal n)

-- a line that is longer than its reader takes is no command: "one that begins with `#` is skipped"
unfoldable pub over_long_line : List ℕ → ℕ → List ℕ
over_long_line line n = elim (eqb (get_or line 0 0) 35) [ true ↦ [] | false ↦ error_line n ]

-- numbers, and numbers with bytes behind them
unfoldable pub numbers_line : List ℕ → List ℕ
numbers_line ns = ended (in_row ns)

unfoldable pub bytes_line : List ℕ → List ℕ → List ℕ
bytes_line ns bytes = ended (in_row ns ++ text " " ++ hex_text bytes)

-- what an event prints of its answer's values, and of the record buffer after it: "N COUNT HEX", "N NUMBER",
-- "N TARGET LENGTH STATUS CLASS", "N B"
unfoldable pub event_line : Event → Values → List ℕ → List ℕ
event_line (TimeCode byte clock) v records = bytes_line (v.number ∷ v.count ∷ []) (take (record_size * v.count) records)
event_line (Request i t k n) v records = numbers_line (v.number ∷ v.transaction ∷ [])
event_line (Reply i m status) v records = numbers_line (v.number ∷ v.target ∷ v.length ∷ v.status ∷ v.class ∷ [])
event_line (Reading clock) v records = numbers_line (v.number ∷ v.reading ∷ [])

-- what writing out prints of its answer, and of its buffer after it: "N SIZE HEX"
unfoldable pub out_line : Sized → List ℕ → List ℕ
out_line s buffer = bytes_line (s.number ∷ s.size ∷ []) (take s.size buffer)

-- "LAST SEEN REPORTED LEAST GREATEST (seen and reported as 0 or 1)"; "not 0 is yes"
unfoldable pub yes_or_no : ℕ → ℕ
yes_or_no n = cond (eqb n 0) 0 1

unfoldable pub watchdog_line : Watchdog → List ℕ
watchdog_line w = numbers_line (w.last ∷ yes_or_no w.seen ∷ yes_or_no w.reported ∷ w.least ∷ w.greatest ∷ [])

-- what the sheet prints, its number and the sum: "N NANOSECONDS"
unfoldable pub sheet_line : Sheet → List ℕ
sheet_line s = numbers_line (take 2 (sheet_numbers s))

-- what the question for the next turn prints: "N COUNT"
unfoldable pub next_line : Next → List ℕ
next_line n = numbers_line (next_numbers n)

-- what a question of yes or no prints: "1 or 0"
unfoldable pub flag_line : Bool → List ℕ
flag_line b = ended (cond b (text "1") (text "0"))

-- a buffer with a line at its front: the line's length, and the rest of the buffer as it was
pub record Prints (line before after : List ℕ) (end : ℕ) : Type 0 where
  pub size : end ≡ length line
  pub holds : after ≡ line ++ drop (length line) before
