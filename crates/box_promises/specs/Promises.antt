-- What is proved of the box: demands 1, 2 and 3, of what its calls answer and leave in memory.
use Rattle.std.specs.Prelude.{◌≡◌, ◌≢◌, ◌⊎◌, ◌↔◌, List, [], ◌∷◌, ◌++◌, map, true, cond, ℕ, ◌+◌, ◌-◌, ◌*◌, ◌%◌, ◌≤◌, ◌<◌, length, take, ltb}
use Rattle.std.proofs.Math.Option.{Option, none, some}
use Rattle.lists.specs.Search.{is_in}
use Rattle.lists.specs.Place.{at_place, without}
use Rattle.bitsets.specs.Set.{member}
use Rattle.rules_plan.specs.declared.Verdict.{Verdict}
use Rattle.rules_plan.specs.Plan.{nth, two, Entry, Plan}
use Rattle.rules_plan.specs.Meaning.{initiators, fits_in, entry_at, uses}
use Rattle.rules_plan.specs.Next.{Next, Turn, is_turn, next_answer}
use Rattle.rules_plan.specs.Verdict.{number}
use Rattle.rules_plan.specs.Judge.{counts, judge}
use Rattle.rules_plan.specs.Canon.{canonical, written, given, plan_of, SamePlan}
use Rattle.rules_plan.specs.Copy.{Copied, Written, copy_answer, copied}
use Rattle.rules_plan.specs.Good.{Good}
use Rattle.rules_plan.specs.Words.{Gets}
use Rattle.rules_box.specs.declared.Event.{Event}
use Rattle.rules_box.specs.declared.Event.TheVariants.{TimeCode, Request, Reply}
use Rattle.rules_box.specs.Answer.{Answer, Joined, Ended}
use Rattle.rules_box.specs.declared.Watchdog.{Watchdog}
use Rattle.rules_box.specs.State as state
use Rattle.rules_box.specs.State.{Box, the_plan}
use Rattle.rules_box.specs.Turn.{in_sequence, class}
use Rattle.rules_box.specs.Records.{record_bytes, recorded, full}
use Rattle.rules_box.specs.Step.{Outcome, step, clock_of}
use Rattle.rules_box.specs.History.{Reached}
use Rattle.memory_plan.specs.PlanHeld.{PlanHeld}
use Rattle.memory_plan.specs.Spans.{fits_in_words, least_in_words}
use Rattle.memory_plan.specs.Turns.{turn_in_words}
use Rattle.memory_run.specs.Memory.{Finds}
use Rattle.load_plan.specs.Load.{HoldsPlanOf}
use Rattle.out_plan.specs.Out.{WritesOut}
use Rattle.ask_next.specs.Asked.{TellsNext}
use Rattle.box_calls.specs.Calls.{Memory, At, Lent, with_run, ClearLeaves, LoadLeaves, StepLeaves, Came, Done, Follow}
use Rattle.box_promises.specs.Words.{blank_memory, RowOf, run_word, waiting_in, request_in, line_in, live_in, live_target_in, span_in, aims_in, path_has, number_of, count_of, InSequence, slot_in, memory_after, tick_of, time_codes, AllInSequence, record_at, target_after}

-- "A box's state comes only from a clear, which needs none before it, a load or an event; statements may take that as given and nothing
-- more": memory that came so holds the box that the definitions reach by the same calls, and meets what every event asks of memory.
pub record HeldBy (m : Memory) (b : Box) : Type 0 where
  pub reached : Reached b
  pub at : At m b
  pub finds : Finds b m.rows m.spans m.aims m.numbers m.run m.last
  pub plan : PlanHeld b.plan m.sets m.ends m.rows m.reach m.paths m.spans m.aims m.numbers

unfoldable pub HoldsTheBox : Type 0
HoldsTheBox = (m : Memory) (b : Box) → Came m b → HeldBy m b

-- The words and bytes that demand 3 speaks of say what the rules say: which initiators there are, who waits with what, what is live and
-- for how long, which entry stands where, where a path leads, how long a transaction may be, at which slots it may start (by the summary alone),
-- which time-code is in sequence.
unfoldable pub EntrySays : (span aims : ℕ) → Option Entry → Type 0
EntrySays span' aims none = span' ≡ 0
EntrySays span' aims (some e) = (span' ≢ 0) × (span' ≡ e.span) × ((t : ℕ) → member t aims ≡ is_in t e.targets)

pub record Says (m : Memory) (b : Box) : Type 0 where
  pub row : (r i : ℕ) → RowOf m r i ↔ (at_place r (initiators (the_plan b)) ≡ some i)
  pub next : (r i : ℕ) → RowOf m r i → run_word m r 0 ≡ (b.side i).next
  pub waiting : (r i : ℕ) → RowOf m r i → waiting_in m r ≡ length (b.side i).line
  pub line : (r i : ℕ) → RowOf m r i → map request_in (line_in m r) ≡ (b.side i).line
  pub live : (r i : ℕ) → RowOf m r i → live_in m r ≡ (b.side i).live
  pub unused : (r : ℕ) → nth m.numbers 2 ≤ r → r < 8 → live_in m r ≡ none
  pub entry : (r i v : ℕ) → RowOf m r i → v < 64 → EntrySays (span_in m r v) (aims_in m r v) (entry_at (the_plan b).entries i v)
  pub path : (i t l : ℕ) → path_has m i t l ≡ uses (the_plan b) i t l
  pub fits : (r i t n k : ℕ) → RowOf m r i → t < 64 → fits_in_words m.numbers r t n k ≡ fits_in (the_plan b) i t n k
  pub turn : (r i t n v : ℕ) → RowOf m r i → t < 64 →
      turn_in_words m.aims r t (least_in_words m.numbers r t n) v ≡ is_turn (the_plan b) (the_plan b).entries i t n v
  pub in-sequence : (byte : ℕ) → InSequence m byte ↔ (in_sequence b.last byte ≡ true)

unfoldable pub WordsOfTheBox : Type 0
WordsOfTheBox = (m : Memory) (b : Box) → Came m b → Says m b

-- Demand 1. "After a clear the box equals one never loaded, every number of it": each number of the ten arrays and of the five is 0.
pub record Nothing (m : Memory) (w : Watchdog) : Type 0 where
  pub memory : m ≡ blank_memory
  pub five : w ≡ record { last = 0; seen = 0; reported = 0; least = 0; greatest = 0 }

unfoldable pub ClearLeavesNothing : Type 0
ClearLeavesNothing = (m : Memory) (w : Watchdog) → ClearLeaves m w → Nothing m w

-- "A refused load leaves a box with no plan at all."
unfoldable pub RefusedLoadLeavesNothing : Type 0
RefusedLoadLeavesNothing = (file : List ℕ) (v : Verdict) (m : Memory) (w : Watchdog) → LoadLeaves file v m w → number v ≢ 0 → Nothing m w

-- "A refused event changes nothing": memory, the five numbers and the record buffer are as they were lent.
unfoldable pub RefusedEventChangesNothing : Type 0
RefusedEventChangesNothing =
    (before after : Lent) (e : Event) (answer : Answer) (b : Box) → Came before.memory b → StepLeaves before e answer after →
    number_of answer ≢ 0 → after ≡ before

-- Demand 2. A load answers the verdict of the rules, as they are computed and as they are worded; it is 0 exactly when the file is a good plan
-- written out in some order of its items.
pub record VerdictOf (file : List ℕ) (v : Verdict) : Type 0 where
  pub computed : v ≡ judge file
  pub worded : Gets file v
  pub accepted : (number v ≡ 0) ↔ ((p : Plan) × (file ≡ written p) × Good p)

unfoldable pub VerdictsOfTheRules : Type 0
VerdictsOfTheRules = (file : List ℕ) (v : Verdict) (m : Memory) (w : Watchdog) → LoadLeaves file v m w → VerdictOf file v

-- T-02: "A plan with no entry must not be accepted": in a box with a plan an entry stands at some slot of some row.
pub record SomeEntry (m : Memory) : Type 0 where
  pub row : ℕ
  pub initiator : ℕ
  pub slot : ℕ
  pub own : RowOf m row initiator
  pub within : slot < 64
  pub stands : span_in m row slot ≢ 0

unfoldable pub PlanHasAnEntry : Type 0
PlanHasAnEntry = (m : Memory) (b : Box) → Came m b → b.plan ≢ none → SomeEntry m

-- "Plans are the same if they differ in these orders only": accepted loads of the same plan, and no others, leave the same memory.
unfoldable pub SamePlanSameMemory : Type 0
SamePlanSameMemory =
    (file file' : List ℕ) (v v' : Verdict) (m m' : Memory) (w w' : Watchdog) → LoadLeaves file v m w → LoadLeaves file' v' m' w' →
    number v ≡ 0 → number v' ≡ 0 → SamePlan (given file) (given file') ↔ (m ≡ m')

-- "A plan written out and read back is the same plan", after any calls. Writing out answers and puts what the rules say of the box's plan,
-- and room for 16,384 bytes is always enough: "a written plan is as long as its file, at most 16,384".
abbrev pub WriteLeaves : Memory → (out : List ℕ) → Copied → (out' : List ℕ) → Type 0
WriteLeaves m = WritesOut m.sets m.ends m.rows m.paths m.spans m.aims m.numbers

-- The bytes are those of the plan in canonical order; a load of them is accepted with its counts and leaves the very same plan memory; and
-- `holds` says true of them.
pub record SamePlanBack (m : Memory) (b : Box) (bytes : List ℕ) : Type 0 where
  pub canonical-plan : canonical (the_plan b) ≡ the_plan b
  pub written-plan : bytes ≡ written (the_plan b)
  pub loads : (v : Verdict) (m' : Memory) (w : Watchdog) → LoadLeaves bytes v m' w → (v ≡ counts (the_plan b)) × (m' ≡ with_run m m'.run m'.last)
  pub held : HoldsPlanOf bytes m.sets m.ends m.rows m.reach m.paths m.spans m.aims m.numbers

pub record PlanWrittenOut (m : Memory) (b : Box) (out : List ℕ) (answer' : Copied) (out' : List ℕ) : Type 0 where
  pub answer : answer' ≡ copy_answer (length out) b.plan
  pub buffer : out' ≡ copied b.plan out
  pub enough : b.plan ≢ none → 16_384 ≤ length out → (size : ℕ) × (answer' ≡ Written size)
  pub as_long : (size : ℕ) → answer' ≡ Written size → (file : List ℕ) → number (judge file) ≡ 0 → plan_of file ≡ the_plan b → size ≡ length file
  pub back : (size : ℕ) → answer' ≡ Written size → SamePlanBack m b (take size out')

unfoldable pub WritesThePlanOut : Type 0
WritesThePlanOut =
    (m : Memory) (b : Box) → Came m b → (out out' : List ℕ) (answer : Copied) → WriteLeaves m out answer out' → PlanWrittenOut m b out answer out'

-- An event answers what the rules say of the box in memory and of the five numbers as lent, and leaves what they say.
pub record OutcomeOf (o : Outcome) (before : Lent) (e : Event) (answer' : Answer) (after : Lent) : Type 0 where
  pub answer : answer' ≡ o.answer
  pub memory : At after.memory o.box
  pub five : after.five ≡ o.watchdog
  pub records : after.records ≡ recorded (clock_of e) o.records before.records

unfoldable pub EventsOfTheRules : Type 0
EventsOfTheRules =
    (before after : Lent) (e : Event) (answer : Answer) (b : Box) → Came before.memory b → StepLeaves before e answer after →
    OutcomeOf (step (length before.records) b before.five e) before e answer after

-- Demand 3, links. The live transactions of two rows have no link in common, of their paths or of the ways of their replies.
unfoldable pub LinksNeverShared : Type 0
LinksNeverShared =
    (m : Memory) (b : Box) → Came m b → (r r' : ℕ) → r < 8 → r' < 8 → r ≢ r' →
    (t t' l : ℕ) → live_target_in m r ≡ some t → live_target_in m r' ≡ some t' →
    path_has m (nth m.rows r) t l ≡ true → path_has m (nth m.rows r') t' l ≡ true → ⊥

-- "also between the records of one time-code": nor do those that memory before it and its first j records tell of.
unfoldable pub NotEvenBetweenRecords : Type 0
NotEvenBetweenRecords =
    (before after : Lent) (e : Event) (answer : Answer) (b : Box) → Came before.memory b → StepLeaves before e answer after →
    (j : ℕ) → j ≤ count_of answer → (r r' i i' : ℕ) → RowOf before.memory r i → RowOf before.memory r' i' → r ≢ r' →
    (t t' l : ℕ) → target_after before.memory after.records j r ≡ some t → target_after before.memory after.records j r' ≡ some t' →
    path_has before.memory i t l ≡ true → path_has before.memory i' t' l ≡ true → ⊥

-- a record of this kind and request, of initiator i, is among those that an event wrote
pub record Shows (kind : ℕ) (e : Event) (answer : Answer) (records : List ℕ) (i : ℕ) (r : state.Request) : Type 0 where
  pub place : ℕ
  pub counted : place < count_of answer
  pub value : ℕ
  pub bytes : record_at records place ≡ record_bytes (clock_of e) (full kind i value r)

-- Demand 3, waiting. "A request accepted as number p in its line starts within the next 64·p accepted time-codes if all are in sequence;
-- that holds whatever the other initiators do." It is followed by its place, since its number comes round.
-- It leaves: the request in this word, at place k of the line of row r, the first of those with this word. Those behind it move up, it is live,
-- and its record is written.
pub record Leaves (d : Done) (r i word k : ℕ) : Type 0 where
  pub was : at_place k (line_in d.before.memory r) ≡ some word
  pub oldest : (j : ℕ) → j < k → at_place j (line_in d.before.memory r) ≢ some word
  pub line : line_in d.after.memory r ≡ without k (line_in d.before.memory r)
  pub live : (run_word d.after.memory r 10 ≡ word) × (run_word d.after.memory r 11 ≢ 0)
  pub started : Shows 5 d.event d.answer d.after.records i (request_in word)

-- It waits on: nobody leaves the line, or another does, and who stands behind that one moves up.
pub data Waits (d : Done) (r i k : ℕ) : ℕ → Type 0 where
  stays : (more : List ℕ) → line_in d.after.memory r ≡ line_in d.before.memory r ++ more → Waits d r i k k
  moves : {word j : ℕ} → Leaves d r i word j → j ≢ k → Waits d r i k (cond (ltb j k) (k - 1) k)

-- It starts at one of the events.
pub data Starts (r i word : ℕ) : ℕ → List Done → Type 0 where
  now : {k : ℕ} {d : Done} {ds : List Done} → Leaves d r i word k → Starts r i word k (d ∷ ds)
  later : {k j : ℕ} {d : Done} {ds : List Done} → Waits d r i k j → Starts r i word j ds → Starts r i word k (d ∷ ds)

pub record StartsInTime (before after : Lent) (i : ℕ) (r : state.Request) : Type 0 where
  pub row : ℕ
  pub own : RowOf before.memory row i
  pub word : ℕ
  pub joins : line_in after.memory row ≡ line_in before.memory row ++ (word ∷ [])
  pub asked : request_in word ≡ r
  pub within :
      (ds : List Done) → Follow after.memory ds → AllInSequence ds → 64 * (waiting_in before.memory row + 1) ≤ time_codes ds →
      Starts row i word (waiting_in before.memory row) ds

unfoldable pub RequestsStartInTime : Type 0
RequestsStartInTime =
    (before after : Lent) (i t k n transaction : ℕ) (b : Box) → Came before.memory b →
    StepLeaves before (Request i t k n) (Joined transaction) after →
    StartsInTime before after i (state.request t k n transaction)

-- T-04: "the next slot in which initiator i may start a request". `next` answers of memory what the rules say of the plan that is in the box.
abbrev pub NextTold : Memory → (i t n s : ℕ) → Next → Type 0
NextTold m = TellsNext m.rows m.aims m.numbers

unfoldable pub NextOfTheRules : Type 0
NextOfTheRules = (m : Memory) (b : Box) → Came m b → (i t n s : ℕ) (answer : Next) → NextTold m i t n s answer → answer ≡ next_answer b.plan i t n s

-- It waits through all of the events.
pub data WaitsOn (r i : ℕ) : ℕ → List Done → Type 0 where
  still : {k : ℕ} → WaitsOn r i k []
  through : {k j : ℕ} {d : Done} {ds : List Done} → Waits d r i k j → WaitsOn r i j ds → WaitsOn r i k (d ∷ ds)

-- A request that joins an empty line, where a time-code was accepted since the load: `next`, asked with that time-code's slot, answers a count, and
-- if the time-codes accepted from then on are in sequence, the request starts at the one that has this number among them, in the slot so many on.
pub record StartsAtCount (before after : Lent) (row i c : ℕ) (r : state.Request) : Type 0 where
  pub word : ℕ
  pub joins : line_in after.memory row ≡ word ∷ []
  pub asked : request_in word ≡ r
  pub by-then : (ds : List Done) → Follow after.memory ds → AllInSequence ds → c ≤ time_codes ds → Starts row i word 0 ds
  pub not-before : (ds : List Done) → Follow after.memory ds → AllInSequence ds → time_codes ds < c → WaitsOn row i 0 ds
  pub slot : (ds : List Done) → Follow after.memory ds → AllInSequence ds →
      slot_in (memory_after after.memory ds) ≡ (slot_in before.memory + time_codes ds) % 64

unfoldable pub StartsAtItsTurn : Type 0
StartsAtItsTurn =
    (before after : Lent) (i t k n transaction : ℕ) (b : Box) → Came before.memory b →
    StepLeaves before (Request i t k n) (Joined transaction) after →
    (row : ℕ) → RowOf before.memory row i → waiting_in before.memory row ≡ 0 → nth before.memory.last 0 ≢ 0 →
    (answer : Next) → NextTold before.memory i t n (slot_in before.memory) answer →
    (c : ℕ) × (answer ≡ Turn c) × StartsAtCount before after row i c (state.request t k n transaction)

-- Demand 3, entries. "Nobody starts outside its entries": a record of kind 5 is written at a time-code in sequence, and in the row of its
-- initiator an entry stands at the value, with the target among its targets, and the length is one that its span permits.
pub record AtAnEntry (m : Memory) (e : Event) (bytes : List ℕ) : Type 0 where
  pub byte : ℕ
  pub clock : ℕ
  pub event : e ≡ TimeCode byte clock
  pub in-sequence : InSequence m byte
  pub value : nth bytes 3 ≡ byte % 64
  pub row : ℕ
  pub own : RowOf m row (nth bytes 1)
  pub stands : span_in m row (nth bytes 3) ≢ 0
  pub aims : member (nth bytes 2) (aims_in m row (nth bytes 3)) ≡ true
  pub long : fits_in_words m.numbers row (nth bytes 2) (two bytes 6) (span_in m row (nth bytes 3)) ≡ true

unfoldable pub StartsOnlyAtEntries : Type 0
StartsOnlyAtEntries =
    (before after : Lent) (e : Event) (answer : Answer) (b : Box) → Came before.memory b → StepLeaves before e answer after →
    (j : ℕ) → j < count_of answer → nth (record_at after.records j) 0 ≡ 5 → AtAnEntry before.memory e (record_at after.records j)

-- "or twice at one visit": of two records of kind 5 of one event, the initiators differ.
unfoldable pub OncePerVisit : Type 0
OncePerVisit =
    (before after : Lent) (e : Event) (answer : Answer) (b : Box) → Came before.memory b → StepLeaves before e answer after →
    (j j' : ℕ) → j < count_of answer → j' < count_of answer → j ≢ j' →
    nth (record_at after.records j) 0 ≡ 5 → nth (record_at after.records j') 0 ≡ 5 →
    nth (record_at after.records j) 1 ≢ nth (record_at after.records j') 1

-- No start without its record: what is live in a row was live there before, or the event wrote a record of kind 5 of this request. Still
-- live is the same request with one time-code less to go where one was accepted.
pub record StillLive (before after : Memory) (ticks r : ℕ) : Type 0 where
  pub live : run_word before r 11 ≢ 0
  pub still : run_word after r 11 ≢ 0
  pub request : run_word after r 10 ≡ run_word before r 10
  pub time : run_word before r 11 ≡ run_word after r 11 + 256 * ticks

unfoldable pub LiveByRecordOnly : Type 0
LiveByRecordOnly =
    (before after : Lent) (e : Event) (answer : Answer) (b : Box) → Came before.memory b → StepLeaves before e answer after →
    (r : ℕ) → r < 8 → run_word after.memory r 11 ≢ 0 →
    StillLive before.memory after.memory (tick_of e answer) r
    ⊎ Shows 5 e answer after.records (nth after.memory.rows r) (request_in (run_word after.memory r 10))

-- No end without a reply or a record: what was live in a row still is, or an accepted reply with its number ended it, or the event wrote a
-- record of kind 4 of it. (A load and a clear leave nothing live.)
pub record EndedByReply (i : ℕ) (r : state.Request) (e : Event) (answer' : Answer) : Type 0 where
  pub status : ℕ
  pub event : e ≡ Reply i r.number status
  pub answer : answer' ≡ Ended r.target r.length status (class status)

unfoldable pub EndsByReplyOrRecord : Type 0
EndsByReplyOrRecord =
    (before after : Lent) (e : Event) (answer : Answer) (b : Box) → Came before.memory b → StepLeaves before e answer after →
    (r : ℕ) → r < 8 → run_word before.memory r 11 ≢ 0 →
    StillLive before.memory after.memory (tick_of e answer) r
    ⊎ EndedByReply (nth before.memory.rows r) (request_in (run_word before.memory r 10)) e answer
    ⊎ Shows 4 e answer after.records (nth before.memory.rows r) (request_in (run_word before.memory r 10))

-- "Were that initiator still live": no record of kind 6 is ever written.
unfoldable pub NoneStillLive : Type 0
NoneStillLive =
    (before after : Lent) (e : Event) (answer : Answer) (b : Box) → Came before.memory b → StepLeaves before e answer after →
    (j : ℕ) → j < count_of answer → nth (record_at after.records j) 0 ≢ 6

pub record Promises : Type 0 where
  pub holds : HoldsTheBox
  pub words : WordsOfTheBox
  pub clear : ClearLeavesNothing
  pub refused-load : RefusedLoadLeavesNothing
  pub refused-event : RefusedEventChangesNothing
  pub verdicts : VerdictsOfTheRules
  pub some-entry : PlanHasAnEntry
  pub same : SamePlanSameMemory
  pub written : WritesThePlanOut
  pub events : EventsOfTheRules
  pub links : LinksNeverShared
  pub between : NotEvenBetweenRecords
  pub in-time : RequestsStartInTime
  pub next : NextOfTheRules
  pub at_turn : StartsAtItsTurn
  pub entries : StartsOnlyAtEntries
  pub once : OncePerVisit
  pub live : LiveByRecordOnly
  pub ends : EndsByReplyOrRecord
  pub none-still : NoneStillLive
