-- The verdict in words: the table of document 01 read as sentences, with no order of computing. That it says what `judge` computes
-- is one of the promises.
use Rattle.std.specs.Prelude.{◌≡◌, ◌≢◌, true, ℕ, ◌+◌, ◌*◌, ◌≤◌, ◌<◌, length}
use mathlib.Core.List.{List, [], Memᴰ}
use Rattle.rules_plan.specs.declared.Verdict.{Verdict}
use Rattle.rules_plan.specs.declared.Verdict.TheVariants.{Faulty, Overrun, Clash}
use Rattle.rules_plan.specs.Plan.{Entry, Plan, blank}
use Rattle.rules_plan.specs.Fields.{tag_at, next_at}
use Rattle.rules_plan.specs.Meaning.{uses, covers}
use Rattle.rules_plan.specs.Judge.{with_field, counts}
use Rattle.rules_plan.specs.Wrong.{Wrong}

-- the field at offset at has no fault
abbrev pub Faultless : Plan → List ℕ → ℕ → ℕ → Type 0
Faultless p s at before = (n : ℕ) → Wrong p s at before n → ⊥

-- its fault is n: "the smaller number wins"
pub record Fault (p : Plan) (s : List ℕ) (at before n : ℕ) : Type 0 where
  pub holds : Wrong p s at before n
  pub least : (m : ℕ) → m < n → Wrong p s at before m → ⊥

-- "Fields are judged front to back": the file is read up to offset at, after a field with the tag before and with the plan p, all
-- fields in front of it being faultless
pub data ReadTo (s : List ℕ) : ℕ → ℕ → Plan → Type 0 where
  start : ReadTo s 0 0 blank
  next : {at before : ℕ} {p : Plan} → ReadTo s at before p → at < length s → Faultless p s at before
      → ReadTo s (next_at s at) (tag_at s at) (with_field p s at)

-- the whole file is faultless, and gives the plan p
pub record Whole (s : List ℕ) (p : Plan) : Type 0 where
  pub short : length s ≤ 16_384
  pub before : ℕ
  pub read : ReadTo s (length s) before p

-- 13: "an entry covers, after its own slot, the slot of another entry of the same initiator"
pub record Overrunning (es : List Entry) (i v : ℕ) : Type 0 where
  pub mine : Entry
  pub other : Entry
  pub has-mine : Memᴰ mine es
  pub has_other : Memᴰ other es
  pub of-mine : mine.initiator ≡ i
  pub of_other : other.initiator ≡ i
  pub at-mine : mine.slot ≡ v
  pub apart : mine.slot ≢ other.slot
  pub over : covers mine other.slot ≡ true

-- "Two initiators clash in a slot if each has an entry covering it and some target of one entry and some target of the other have
-- paths with a link in common": initiators i and j, i the smaller, in slot v on link l
pub record Clashing (p : Plan) (es : List Entry) (v i j l : ℕ) : Type 0 where
  pub slot : v < 64
  pub order : i < j
  pub mine : Entry
  pub yours : Entry
  pub has-mine : Memᴰ mine es
  pub has-yours : Memᴰ yours es
  pub of-mine : mine.initiator ≡ i
  pub of-yours : yours.initiator ≡ j
  pub over-mine : covers mine v ≡ true
  pub over-yours : covers yours v ≡ true
  pub to-mine : ℕ
  pub to-yours : ℕ
  pub aims-mine : Memᴰ to-mine mine.targets
  pub aims-yours : Memᴰ to-yours yours.targets
  pub on-mine : uses p i to-mine l ≡ true
  pub on-yours : uses p j to-yours l ≡ true

-- numbers below 64 in the order of the first, then the second, and so on
abbrev pub pair : ℕ → ℕ → ℕ
pair a b = a * 64 + b

-- "13, the entry with least initiator, then least slot"
pub record LeastOverrun (es : List Entry) (i v : ℕ) : Type 0 where
  pub here : Overrunning es i v
  pub least : (j w : ℕ) → Overrunning es j w → pair i v ≤ pair j w

-- "14, least slot, then least smaller initiator, least greater initiator, least link"
pub record LeastClash (p : Plan) (es : List Entry) (v i j l : ℕ) : Type 0 where
  pub here : Clashing p es v i j l
  pub least : (w a b m : ℕ) → Clashing p es w a b m → pair (pair (pair v i) j) l ≤ pair (pair (pair w a) b) m

-- neither 12 nor 15: intervals and an entry are given
pub record Complete (p : Plan) : Type 0 where
  pub timing : p.timings ≢ []
  pub entry : p.entries ≢ []

abbrev pub NoOverrun : Plan → Type 0
NoOverrun p = (i v : ℕ) → Overrunning p.entries i v → ⊥

abbrev pub NoClash : Plan → Type 0
NoClash p = (v i j l : ℕ) → Clashing p p.entries v i j l → ⊥

-- the verdict that a file gets
pub data Gets (s : List ℕ) : Verdict → Type 0 where
  over-long : 16_384 < length s → Gets s (Faulty 1 0)
  faulty : {at before n : ℕ} {p : Plan} → length s ≤ 16_384 → ReadTo s at before p → at < length s → Fault p s at before n
      → Gets s (Faulty n at)
  without-timing : {p : Plan} → Whole s p → p.timings ≡ [] → Gets s (Faulty 12 (length s))
  without-entry : {p : Plan} → Whole s p → p.timings ≢ [] → p.entries ≡ [] → Gets s (Faulty 15 (length s))
  overrunning : {p : Plan} {i v : ℕ} → Whole s p → Complete p → LeastOverrun p.entries i v → Gets s (Overrun i v)
  clashing : {p : Plan} {v i j l : ℕ} → Whole s p → Complete p → NoOverrun p → LeastClash p p.entries v i j l
      → Gets s (Clash v i j l)
  accepted : {p : Plan} → Whole s p → Complete p → NoOverrun p → NoClash p → Gets s (counts p)
