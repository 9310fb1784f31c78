-- Lines answered one after the other, and their answers gathered one behind the other until they are written.
use Rattle.std.specs.Prelude.{◌≡◌, ℕ, ◌+◌, ◌-◌, ◌%◌, ◌^◌, ◌<◌, ◌≤◌, Bool, true, false, ◌||◌, List, ◌++◌, length, take, drop, nat_lt}
use Rattle.std.proofs.lemmas.List.Edits.{sets}
use Rattle.box_calls.specs.Calls.{Memory}
use Rattle.script_commands.specs.Script.{command_of}
use Rattle.script_answers.specs.Texts.{over_long_line}
use Rattle.script_desk.specs.Replay.{Kept, kept, Replied}
use Rattle.replay.specs.declared.answers.Desk.{Desk}
use Rattle.replay.specs.Lines.{line_end, shifted}

-- how things stand between two lines: what goes on from line to line, memory, the room of one answer and that of the answers gathered
pub record Stand : Type 0 where
  pub desk : Desk
  pub memory : Memory
  pub text : List ℕ
  pub out : List ℕ

abbrev pub stand : Desk → Memory → List ℕ → List ℕ → Stand
stand d m text' out' = record { desk = d; memory = m; text = text'; out = out' }

abbrev pub with_desk : Stand → Desk → Stand
with_desk s d = stand d s.memory s.text s.out

abbrev pub kept_in : Stand → Kept
kept_in s = kept s.memory s.desk.watchdog

-- nothing is gathered any more: it was written, unless a write failed, now or before
unfoldable pub flushed : Bool → Desk → Desk
flushed fails d = record { count = d.count; watchdog = d.watchdog; gathered = 0; passing = d.passing; failed = d.failed || fails }

-- the same where the longest answer has no room behind what is gathered
unfoldable pub roomy : Bool → Desk → Desk
roomy fails d = elim (nat_lt 65_600 d.gathered) [ true ↦ flushed fails d | false ↦ d ]

-- lines are counted modulo 2 to the 64
abbrev pub next : ℕ → ℕ
next n = (n + 1) % 2 ^ 64

-- a line counts, and what it prints is put behind what was gathered
unfoldable pub printing : List ℕ → Bool → Kept → Stand → Stand
printing printed passes after s = record {
  desk = record {
    count = next s.desk.count;
    watchdog = after.five;
    gathered = s.desk.gathered + length printed;
    passing = passes;
    failed = s.desk.failed;
  };
  memory = after.memory;
  text = printed ++ drop (length printed) s.text;
  out = sets s.out s.desk.gathered printed;
}

-- a line is answered
pub record Gathers (line : List ℕ) (s s' : Stand) : Type 0 where
  pub printed : List ℕ
  pub after : Kept
  pub replied : Replied (command_of line) line (next s.desk.count) (kept_in s) after printed
  pub does : s' ≡ printing printed s.desk.passing after s

-- a line whose end was read: it is answered, or it was the rest of one that is passed over and prints nothing
unfoldable pub passed_over : Desk → Desk
passed_over d = record { count = d.count; watchdog = d.watchdog; gathered = d.gathered; passing = false; failed = d.failed }

pub record Ends (line : List ℕ) (s s' : Stand) : Type 0 where
  pub passed : s.desk.passing ≡ true → s' ≡ with_desk s (passed_over s.desk)
  pub answered : s.desk.passing ≡ false → (fails : Bool) × Gathers line (with_desk s (roomy fails s.desk)) s'

-- the front of a line that is longer than the input buffer: it is answered once, and the rest is to be passed over
unfoldable pub over_long : List ℕ → Stand → Stand
over_long front s = printing (over_long_line front (next s.desk.count)) true (kept_in s) s

pub record Passes (front : List ℕ) (s s' : Stand) : Type 0 where
  pub again : s.desk.passing ≡ true → s' ≡ s
  pub first : s.desk.passing ≡ false → (fails : Bool) × (s' ≡ over_long front (with_desk s (roomy fails s.desk)))

-- lines of the input up to a place, each one ended on what the one before left
pub data Lines (input : List ℕ) (s : Stand) : ℕ → Stand → Type 0 where
  none : Lines input s 0 s
  more : {start : ℕ} {s' s'' : Stand} → Lines input s start s' → line_end input start < length input
      → Ends (take (line_end input start - start) (drop start input)) s' s'' → Lines input s (line_end input start + 1) s''

-- every line of the input that ends there; no newline stands behind the last of them
pub record LinesAnswered (input : List ℕ) (s : Stand) (start : ℕ) (s' : Stand) : Type 0 where
  pub lines : Lines input s start s'
  pub within : start ≤ length input
  pub rest : line_end input start ≡ length input

-- the same of the first bytes of a buffer; what is left stands at its front afterwards, and a line that fills it is passed over
pub record Taken (input : List ℕ) (size : ℕ) (s : Stand) (input' : List ℕ) (left : ℕ) (s' : Stand) : Type 0 where
  pub start : ℕ
  pub after : Stand
  pub answered : LinesAnswered (take size input) s start after
  pub moved : input' ≡ shifted start size input
  pub room : size - start < length input → (left ≡ size - start) × (s' ≡ after)
  pub full : length input ≤ size - start → (left ≡ 0) × Passes input' after s'
