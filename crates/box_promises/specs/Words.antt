-- What the words of memory and the bytes of a record buffer say, without the definitions of the box.
use Rattle.std.specs.Prelude.{◌≡◌, ◌⊎◌, Bool, true, false, ◌&&◌, ◌||◌, cond, ℕ, zero, suc, ◌+◌, ◌-◌, ◌*◌, ◌/◌, ◌%◌, ◌<◌, take, drop, replicate, eqb, leb}
use mathlib.Core.List.{List, [], ◌∷◌, Memᴰ}
use Rattle.std.proofs.Math.Option.{Option, none, some, map}
use Rattle.lists.specs.Search.{is_in}
use Rattle.lists.specs.Numbers.{any_below}
use Rattle.rules_plan.specs.Plan.{nth}
use Rattle.rules_box.specs.declared.Event.{Event}
use Rattle.rules_box.specs.declared.Event.TheVariants.{TimeCode, Request, Reply, Reading}
use Rattle.rules_box.specs.Answer.{Answer, values}
use Rattle.rules_box.specs.State as state
use Rattle.rules_box.specs.State.{Live}
use Rattle.box_calls.specs.Calls.{Memory, Done}

-- memory with every number 0
unfoldable pub blank_memory : Memory
blank_memory = record {
  sets = replicate 3 0;
  ends = replicate 128 0;
  rows = replicate 8 0;
  reach = replicate 8 0;
  paths = replicate 2816 0;
  spans = replicate 512 0;
  aims = replicate 1152 0;
  numbers = replicate 524 0;
  run = replicate 96 0;
  last = replicate 1 0;
}

-- row r is that of initiator i, and no other row is: the third of `numbers` says how many rows there are
pub record RowOf (m : Memory) (r i : ℕ) : Type 0 where
  pub low : r < nth m.numbers 2
  pub is : nth m.rows r ≡ i
  pub only : (k : ℕ) → k < nth m.numbers 2 → nth m.rows k ≡ i → k ≡ r

-- word k of the twelve of row r: next number, how many wait, eight places, the live request, (span − age) × 256 + span
abbrev pub run_word : Memory → ℕ → ℕ → ℕ
run_word m r k = nth m.run (12 * r + k)

abbrev pub waiting_in : Memory → ℕ → ℕ
waiting_in m r = run_word m r 1

-- a request as memory has it in one word, the bytes of its record from the low end: its kind is the top bit of the first, the target is
-- the third, the number the fifth and sixth, the length the last two, high byte first
unfoldable pub request_in : ℕ → state.Request
request_in word = record {
  target = word / 65_536 % 64;
  kind = word / 128 % 2;
  length = word / 281_474_976_710_656 % 256 * 256 + word / 72_057_594_037_927_936 % 256;
  number = word / 4_294_967_296 % 256 * 256 + word / 1_099_511_627_776 % 256;
}

-- the words of the requests that wait in row r, the oldest first
unfoldable pub line_in : Memory → ℕ → List ℕ
line_in m r = take (waiting_in m r) (drop (12 * r + 2) m.run)

-- the live transaction of row r, and its target: none where the last word is 0
unfoldable pub live_in : Memory → ℕ → Option Live
live_in m r =
    cond (eqb (run_word m r 11) 0) none
    (some (record {
      request = request_in (run_word m r 10);
      span = run_word m r 11 % 256;
      age = run_word m r 11 % 256 - run_word m r 11 / 256;
    }))

unfoldable pub live_target_in : Memory → ℕ → Option ℕ
live_target_in m r = map (λ (l : Live). l.request.target) (live_in m r)

-- the entry at slot v of row r: its span, 0 where none stands there, and its targets as a set
abbrev pub span_in : Memory → ℕ → ℕ → ℕ
span_in m r v = nth m.spans (64 * r + v)

abbrev pub aims_in : Memory → ℕ → ℕ → ℕ
aims_in m r v = nth m.aims (64 * r + v)

-- row number k of `paths`, eleven bytes: initiator, target, how many links, the links. Row 128 + k is that of path number k's reply, where it
-- comes home another way.
unfoldable pub links_in : Memory → ℕ → List ℕ
links_in m k = take (nth m.paths (11 * k + 2)) (drop (11 * k + 3) m.paths)

unfoldable pub is_path : Memory → ℕ → ℕ → ℕ → ℕ → Bool
is_path m i t l k = eqb (nth m.paths (11 * k)) i && eqb (nth m.paths (11 * k + 1)) t && (is_in l (links_in m k) || is_in l (links_in m (128 + k)))

-- a path in memory leads from i to t, and it or its reply goes over link l: the fourth of `numbers` says how many paths there are
unfoldable pub path_has : Memory → ℕ → ℕ → ℕ → Bool
path_has m i t l = any_below (nth m.numbers 3) (is_path m i t l)

-- the document's number of an answer, and its record count
abbrev pub number_of : Answer → ℕ
number_of a = (values a).number

abbrev pub count_of : Answer → ℕ
count_of a = (values a).count

-- a time-code with this byte is in sequence: `last` is 0 for none, else the byte of the last accepted one and 1
abbrev pub InSequence : Memory → ℕ → Type 0
InSequence m byte = (nth m.last 0 ≡ 0) ⊎ (byte % 64 ≡ nth m.last 0 % 64)

-- the slot of the last accepted time-code, where there was one
abbrev pub slot_in : Memory → ℕ
slot_in m = (nth m.last 0 - 1) % 64

-- memory after the events
unfoldable pub memory_after : Memory → List Done → Memory
memory_after m [] = m
memory_after m (d ∷ ds) = memory_after d.after.memory ds

unfoldable pub is_time_code : Event → Bool
is_time_code (TimeCode byte clock) = true
is_time_code (Request i t k n) = false
is_time_code (Reply i m status) = false
is_time_code (Reading clock) = false

-- how many time-codes were accepted: of one event, and among several
abbrev pub tick_of : Event → Answer → ℕ
tick_of e a = cond (is_time_code e && eqb (number_of a) 0) 1 0

unfoldable pub time_codes : List Done → ℕ
time_codes [] = 0
time_codes (d ∷ ds) = tick_of d.event d.answer + time_codes ds

-- each of these was in sequence
unfoldable pub AllInSequence : List Done → Type 0
AllInSequence ds =
    (d : Done) → Memᴰ d ds → (byte clock : ℕ) → d.event ≡ TimeCode byte clock → number_of d.answer ≡ 0 →
    InSequence d.before.memory byte

-- the eight bytes of record number j of a buffer
unfoldable pub record_at : List ℕ → ℕ → List ℕ
record_at buffer j = take 8 (drop (8 * j) buffer)

-- the target of what is live in row r once the first j records of a buffer are written, as memory before them and they tell: one of kind 4
-- ends it, one of kind 5 starts another
unfoldable pub target_after : Memory → List ℕ → ℕ → ℕ → Option ℕ
target_after m buffer zero r = live_target_in m r
target_after m buffer (suc j) r =
    let bytes = record_at buffer j in
    cond (eqb (nth m.rows r) (nth bytes 1) && leb 4 (nth bytes 0)) (cond (eqb (nth bytes 0) 4) none (some (nth bytes 2))) (target_after m buffer j r)
