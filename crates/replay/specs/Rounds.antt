-- What the program reads, taken in round by round until it ends.
use Rattle.std.specs.Prelude.{◌≡◌, ℕ, ◌+◌, ◌<◌, ◌≤◌, Bool, true, false, List, length, take, Result, Ok, Err}
use Rattle.box_calls.specs.Calls.{Memory}
use Rattle.rules_box.specs.declared.Watchdog.{Watchdog}
use Rattle.replay.specs.declared.answers.Desk.{Desk}
use Rattle.replay.specs.declared.Failure.{Failure}
use Rattle.replay.specs.declared.Failure.TheVariants.{Read, Write}
use Rattle.replay.specs.Gather.{Stand, stand, with_desk, flushed, Ends, Taken}

-- a read of k bytes behind the first len of a buffer: these stay. Which bytes come and how many, and whether the read fails, is the system's.
pub record Brings (input : List ℕ) (len : ℕ) (input' : List ℕ) (k : ℕ) : Type 0 where
  pub stay : take len input' ≡ take len input
  pub size : length input' ≡ length input
  pub within : len + k ≤ length input'

-- the answers gathered are written
abbrev pub written : Bool → Stand → Stand
written fails s = with_desk s (flushed fails s.desk)

-- before the first line
abbrev pub begun : Watchdog → Desk
begun w = record { count = 0; watchdog = w; gathered = 0; passing = false; failed = false }

-- rounds of reading, after each of which every line that ended is answered and the answers are written; none follows a write that failed
pub data Rounds (input : List ℕ) (s : Stand) : List ℕ → ℕ → Stand → Type 0 where
  none : Rounds input s input 0 s
  more : {input' brought left : List ℕ} {len k size : ℕ} {s' s'' : Stand} → Rounds input s input' len s' → s'.desk.failed ≡ false
      → Brings input' len brought k → 0 < k → Taken brought (len + k) s' left size s''
      → (fails : Bool) → Rounds input s left size (written fails s'')

-- the end of the input: a last line may lack its newline, and the answers are written
pub record Finishes (line : List ℕ) (s s' : Stand) : Type 0 where
  pub after : Stand
  pub fails : Bool
  pub nothing : length line ≡ 0 → after ≡ s
  pub last : 0 < length line → Ends line s after
  pub flushes : s' ≡ written fails after

-- whether every answer was written
abbrev pub outcome : Bool → Result (Unit {0}) Failure
outcome true = Err Write
outcome false = Ok tt

-- how the program ends: with the input, because a read fails, or because a write does
pub data Served (input : List ℕ) (s : Stand) : Result (Unit {0}) Failure → Memory → Type 0 where
  finished : {input' : List ℕ} {len : ℕ} {s' s'' : Stand} → Rounds input s input' len s' → s'.desk.failed ≡ false → Finishes (take len input') s' s''
      → Served input s (outcome s''.desk.failed) s''.memory
  unread : {input' : List ℕ} {len : ℕ} {s' : Stand} → Rounds input s input' len s' → s'.desk.failed ≡ false
      → Served input s (Err Read) s'.memory
  unwritten : {input' : List ℕ} {len : ℕ} {s' : Stand} → Rounds input s input' len s' → s'.desk.failed ≡ true
      → Served input s (Err Write) s'.memory

-- the same from buffers of any bytes on, before the first line
pub record Serves (m : Memory) (w : Watchdog) (r : Result (Unit {0}) Failure) (m' : Memory) : Type 0 where
  pub input : List ℕ
  pub text : List ℕ
  pub out : List ℕ
  pub room : length input ≡ 65_536
  pub serves : Served input (stand (begun w) m text out) r m'
