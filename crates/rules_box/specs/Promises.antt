-- What is proved of the definitions, each promise a type that reads like the sentence it stands for.
use Rattle.std.specs.Prelude.{◌≡◌, ◌≢◌, ◌⊎◌, ◌↔◌, Bool, true, false, ◌&&◌, cond, ℕ, ◌+◌, ◌-◌, ◌*◌, ◌%◌, ◌^◌, ◌≤◌, ◌<◌, length, take, eqb, ltb, leb}
use mathlib.Core.List.{List, [], ◌∷◌, map, flat_map, Memᴰ}
use Rattle.std.proofs.Math.Option
use Rattle.std.proofs.Math.Option.{Option, none, some}
use Rattle.lists.specs.Search.{keep}
use Rattle.lists.specs.Place.{at_place}
use Rattle.lists.specs.Order.{Rising}
use Rattle.rules_plan.specs.Plan.{Plan, Entry}
use Rattle.rules_plan.specs.Meaning.{uses, permits}
use Rattle.rules_plan.specs.Next.{Turn, slot_after, next_answer}
use Rattle.rules_plan.specs.Verdict.{number}
use Rattle.rules_plan.specs.Judge.{judge}
use Rattle.rules_box.specs.declared.Event.{Event}
use Rattle.rules_box.specs.declared.Event.TheVariants.{TimeCode, Request, Reply, Reading}
use Rattle.rules_box.specs.Answer.{Answer, Refused, Ended, Told}
use Rattle.rules_box.specs.declared.Watchdog.{Watchdog}
use Rattle.rules_box.specs.State as state
use Rattle.rules_box.specs.State.{Box, Side, Live, cleared, loaded, watchdog_cleared, watchdog_loaded, no_plan, the_plan}
use Rattle.rules_box.specs.Refuse.{refusal, record_size, most_records}
use Rattle.rules_box.specs.Turn.{in_sequence, value_of, class, aged, turned}
use Rattle.rules_box.specs.Records.{Record, record_bytes, full, records}
use Rattle.rules_box.specs.Step.{step, Outcome}
use Rattle.rules_box.specs.History.{Reached, Offer, after, lasting, ticks, all_next, Fate, starts, waits, fate, has_started}

-- Demand 1. "A refused event changes nothing": it answers its number, and box, watchdog and records are as they were.
unfoldable pub RefusedEventChangesNothing : Type 0
RefusedEventChangesNothing =
    (room : ℕ) (b : Box) (w : Watchdog) (e : Event) → refusal room b e ≢ 0 →
    step room b w e ≡ record { answer = Refused (refusal room b e); box = b; watchdog = w; records = [] }

-- "A refused load leaves a box with no plan at all": the box and the five numbers of a clear.
unfoldable pub RefusedLoadIsAClear : Type 0
RefusedLoadIsAClear = (file : List ℕ) → number (judge file) ≢ 0 → (loaded file ≡ cleared) × (watchdog_loaded file ≡ watchdog_cleared)

-- "After a clear the box equals one never loaded, every number of it": no plan, no time-code seen, of every initiator the next number
-- is 0, nothing waits and nothing is live, and the five numbers are 0.
pub record NeverLoaded (b : Box) (w : Watchdog) : Type 0 where
  pub plan : b.plan ≡ none
  pub last : b.last ≡ none
  pub next : (i : ℕ) → (b.side i).next ≡ 0
  pub line : (i : ℕ) → (b.side i).line ≡ []
  pub live : (i : ℕ) → (b.side i).live ≡ none
  pub five : w ≡ record { last = 0; seen = 0; reported = 0; least = 0; greatest = 0 }

unfoldable pub ClearIsNeverLoaded : Type 0
ClearIsNeverLoaded = (b : Box) (w : Watchdog) → NeverLoaded b w ↔ ((b ≡ cleared) × (w ≡ watchdog_cleared))

-- Demand 3, links. The links that a live transaction runs on; T-03: "the shared-link part of demand 3" reads both sets.
unfoldable pub runs : Plan → ℕ → Live → ℕ → Bool
runs p i x l = uses p i x.request.target l

-- no two initiators' live transactions share a link
unfoldable pub Apart : Plan → (ℕ → Side) → Type 0
Apart p side =
    (i j : ℕ) (x y : Live) (l : ℕ) → i ≢ j → (side i).live ≡ some x → (side j).live ≡ some y →
    runs p i x l ≡ true → runs p j y l ≡ true → ⊥

unfoldable pub LinksNeverShared : Type 0
LinksNeverShared = (b : Box) → Reached b → Apart (the_plan b) b.side

-- "also between the records of one time-code": lateness has been reported of the initiators below k and nothing has started; or all
-- lateness has been reported and the initiators below k have started.
unfoldable pub while_late : Box → ℕ → ℕ → ℕ → Side
while_late b byte k i = cond (ltb i k) (aged (in_sequence b.last byte) (b.side i)) (b.side i)

unfoldable pub while_starting : Box → ℕ → ℕ → ℕ → Side
while_starting b byte k i =
    cond (ltb i k)
    (turned (the_plan b) (in_sequence b.last byte) byte i (b.side i))
    (aged (in_sequence b.last byte) (b.side i))

unfoldable pub NotEvenBetweenRecords : Type 0
NotEvenBetweenRecords =
    (b : Box) → Reached b → (byte k : ℕ) →
    Apart (the_plan b) (while_late b byte k) × Apart (the_plan b) (while_starting b byte k)

-- The same as the records themselves tell it: the target of what is live of initiator i, t before them, once these records are written.
-- Kind 4 ends it, kind 5 starts another.
unfoldable pub told_by : ℕ → Option ℕ → Record → Option ℕ
told_by i t r = cond (eqb i r.initiator && leb 4 r.kind) (cond (eqb r.kind 4) none (some r.target)) t

unfoldable pub told_target : ℕ → Option ℕ → List Record → Option ℕ
told_target i t [] = t
told_target i t (r ∷ rs) = told_target i (told_by i t r) rs

unfoldable pub live_target : Side → Option ℕ
live_target s = Option.map (λ (l : Live). l.request.target) s.live

unfoldable pub NotEvenAsTold : Type 0
NotEvenAsTold =
    (b : Box) → Reached b → (w : Watchdog) (byte clock n : ℕ) → let rs = take n (records b w byte clock) in
    (i j t t' l : ℕ) → i ≢ j → told_target i (live_target (b.side i)) rs ≡ some t → told_target j (live_target (b.side j)) rs ≡ some t' →
    uses (the_plan b) i t l ≡ true → uses (the_plan b) j t' l ≡ true → ⊥

-- Demand 3, waiting. "A request accepted as number p in its line starts within the next 64·p accepted time-codes if all are in
-- sequence; that holds whatever the other initiators do." It joins at place p - 1.
unfoldable pub RequestsStartInTime : Type 0
RequestsStartInTime =
    (b : Box) → Reached b → (room : ℕ) (w : Watchdog) (i t k n : ℕ) → refusal room b (Request i t k n) ≡ 0 →
    let joined = (step room b w (Request i t k n)).box in
    let place = length (b.side i).line in
    (fs : List Offer) → all_next joined fs ≡ true → 64 * (place + 1) ≤ ticks joined fs → has_started i place joined fs ≡ true

-- T-04, for the running box. Where a time-code was accepted since the load, the next turn is counted from its slot, "the slot after a given one" being
-- that of the next time-code in sequence.
unfoldable pub slot_now : Box → Option ℕ
slot_now b = Option.map value_of b.last

-- A request that joins an empty line gets a count, and starts at the time-code that has this number among those accepted from then on, if these are
-- in sequence: it has started as soon as there were so many, and not before. That time-code's value is the slot so many on.
pub record StartsAtCount (i s c : ℕ) (joined : Box) : Type 0 where
  pub when : (fs : List Offer) → all_next joined fs ≡ true → has_started i 0 joined fs ≡ leb c (ticks joined fs)
  pub slot : (fs : List Offer) → all_next joined fs ≡ true → slot_now (after joined fs) ≡ some (slot_after s (ticks joined fs))

unfoldable pub StartsAtItsTurn : Type 0
StartsAtItsTurn =
    (b : Box) → Reached b → (room : ℕ) (w : Watchdog) (i t k n : ℕ) → refusal room b (Request i t k n) ≡ 0 →
    (b.side i).line ≡ [] → (s : ℕ) → slot_now b ≡ some s →
    (c : ℕ) × (next_answer b.plan i t n s ≡ Turn c) × StartsAtCount i s c (step room b w (Request i t k n)).box

-- It is this very request: where it waits, the line holds it at that place; where it starts, its record is written and it is live.
pub record HasStarted (i : ℕ) (r : state.Request) (o : Outcome) : Type 0 where
  pub value : ℕ
  pub recorded : Memᴰ (full 5 i value r) o.records
  pub live : Live
  pub is_live : (o.box.side i).live ≡ some live
  pub request : live.request ≡ r

pub record ThisOne (i : ℕ) (r : state.Request) (o : Outcome) (f : Fate) : Type 0 where
  pub still : (k : ℕ) → f ≡ waits k → at_place k (o.box.side i).line ≡ some r
  pub now : f ≡ starts → HasStarted i r o

unfoldable pub ThisVeryRequest : Type 0
ThisVeryRequest =
    (b : Box) → Reached b → (room : ℕ) (w : Watchdog) (i k : ℕ) (r : state.Request) → at_place k (b.side i).line ≡ some r →
    (e : Event) → ThisOne i r (step room b w e) (fate b i k room e)

-- and it stands where it joined, under the number that was answered
unfoldable pub JoinsAsAsked : Type 0
JoinsAsAsked =
    (b : Box) (room : ℕ) (w : Watchdog) (i t k n : ℕ) → refusal room b (Request i t k n) ≡ 0 →
    at_place (length (b.side i).line) ((step room b w (Request i t k n)).box.side i).line
    ≡ some (state.request t k n (b.side i).next)

-- Demand 3, entries. "Nobody starts outside its entries": a start is at a time-code in sequence, where an entry of the initiator
-- stands at the value and permits target and length.
unfoldable pub is_start_of : ℕ → Record → Bool
is_start_of i r = eqb r.kind 5 && eqb r.initiator i

pub record AtAnEntry (b : Box) (byte i : ℕ) (r : Record) : Type 0 where
  pub in-sequence : in_sequence b.last byte ≡ true
  pub value : r.value ≡ value_of byte
  pub entry : Entry
  pub of-plan : Memᴰ entry (the_plan b).entries
  pub own : entry.initiator ≡ i
  pub here : entry.slot ≡ value_of byte
  pub permitted : permits (the_plan b) entry r.target r.length ≡ true

unfoldable pub StartsOnlyAtEntries : Type 0
StartsOnlyAtEntries =
    (b : Box) (room : ℕ) (w : Watchdog) (e : Event) (i : ℕ) (r : Record) →
    Memᴰ r (step room b w e).records → is_start_of i r ≡ true →
    (byte : ℕ) × (clock : ℕ) × (e ≡ TimeCode byte clock) × AtAnEntry b byte i r

-- "or twice at one visit"
unfoldable pub OncePerVisit : Type 0
OncePerVisit =
    (b : Box) (room : ℕ) (w : Watchdog) (e : Event) (i : ℕ) → length (keep (is_start_of i) (step room b w e).records) ≤ 1

-- No start without its record: what is live was live before, or a record of kind 5 says so.
unfoldable pub LiveByRecordOnly : Type 0
LiveByRecordOnly =
    (b : Box) → Reached b → (room : ℕ) (w : Watchdog) (e : Event) (i : ℕ) (l : Live) → ((step room b w e).box.side i).live ≡ some l →
    ((m : Live) × ((b.side i).live ≡ some m) × (l ≡ lasting b room e m))
    ⊎ ((v : ℕ) × Memᴰ (full 5 i v l.request) (step room b w e).records)

-- No end without a reply or a record: what was live still is, or an accepted reply with its number ended it, or a record of kind 4 says
-- that it is late. (After a load or a clear nothing is live.)
pub record EndedByReply (i : ℕ) (l : Live) (e : Event) (given : Answer) : Type 0 where
  pub status : ℕ
  pub event : e ≡ Reply i l.request.number status
  pub answer : given ≡ Ended l.request.target l.request.length status (class status)

unfoldable pub EndsByReplyOrRecord : Type 0
EndsByReplyOrRecord =
    (b : Box) → Reached b → (room : ℕ) (w : Watchdog) (e : Event) (i : ℕ) (l : Live) → (b.side i).live ≡ some l →
    (((step room b w e).box.side i).live ≡ some (lasting b room e l))
    ⊎ EndedByReply i l e (step room b w e).answer
    ⊎ ((v : ℕ) × Memᴰ (full 4 i v l.request) (step room b w e).records)

-- "Were that initiator still live": it never is, so there is no record of kind 6.
unfoldable pub NoneStillLive : Type 0
NoneStillLive = (b : Box) → Reached b → (room : ℕ) (w : Watchdog) (e : Event) (r : Record) → Memᴰ r (step room b w e).records → r.kind ≢ 6

-- "At most 17" records, 136 bytes, in document 01's order: the stages of the list, then initiators rising.
unfoldable pub stage : ℕ → ℕ
stage kind = cond (ltb kind 3) 1 (cond (eqb kind 3) 2 (cond (eqb kind 4) 3 4))

abbrev pub rank : Record → ℕ
rank r = stage r.kind * 64 + r.initiator

pub record InOrder (clock : ℕ) (rs : List Record) : Type 0 where
  pub most : length rs ≤ most_records
  pub size : length (flat_map (record_bytes clock) rs) ≡ record_size * length rs
  pub order : Rising (map rank rs)

unfoldable pub RecordsInOrder : Type 0
RecordsInOrder = (b : Box) → Reached b → (w : Watchdog) (byte clock : ℕ) → InOrder clock (records b w byte clock)

-- "A clock stepped back by one reads as late": a reading one below the clock of the last time-code, which was seen and not reported. No
-- plan's greatest interval is longer.
unfoldable pub SteppedBackReadsLate : Type 0
SteppedBackReadsLate =
    (room : ℕ) (b : Box) (w : Watchdog) → no_plan b ≡ false → w.seen ≢ 0 → w.reported ≡ 0 → w.last < 2 ^ 32 → w.greatest ≤ 2_147_483_647 →
    (step room b w (Reading ((w.last + 2 ^ 32 - 1) % 2 ^ 32))).answer ≡ Told 1

pub record Promises : Type 0 where
  pub refused-event : RefusedEventChangesNothing
  pub refused-load : RefusedLoadIsAClear
  pub clear : ClearIsNeverLoaded
  pub links : LinksNeverShared
  pub between : NotEvenBetweenRecords
  pub as-told : NotEvenAsTold
  pub in-time : RequestsStartInTime
  pub at_turn : StartsAtItsTurn
  pub this-one : ThisVeryRequest
  pub joins : JoinsAsAsked
  pub entries : StartsOnlyAtEntries
  pub once : OncePerVisit
  pub live : LiveByRecordOnly
  pub ends : EndsByReplyOrRecord
  pub none-still : NoneStillLive
  pub records : RecordsInOrder
  pub stepped-back : SteppedBackReadsLate
