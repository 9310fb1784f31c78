-- What is proved of the definitions, each promise a type that reads like the sentence it stands for.
use Rattle.std.specs.Prelude.{◌≡◌, ◌↔◌, ◌⊎◌, true, false, ℕ, ◌+◌, ◌*◌, ◌%◌, ◌≤◌, ◌<◌, length}
use mathlib.Core.List.{List, [], ◌∷◌, Memᴰ}
use Rattle.std.proofs.Math.Option.{some}
use Rattle.lists.specs.Search.{repeats}
use Rattle.rules_plan.specs.declared.Verdict.{Verdict}
use Rattle.rules_plan.specs.Plan.{Route, Entry, Times, Plan}
use Rattle.rules_plan.specs.Meaning.{is_initiator, is_walk, covers, uses, home_of, routers, permits}
use Rattle.rules_plan.specs.Next.{NoTurn, Turn, next_answer}
use Rattle.rules_plan.specs.Verdict.{number}
use Rattle.rules_plan.specs.Sheet.{sheet}
use Rattle.rules_plan.specs.Judge.{judge}
use Rattle.rules_plan.specs.Canon.{written, given, plan_of, SamePlan}
use Rattle.rules_plan.specs.Good.{Bytes, same_path_ends, Good}
use Rattle.rules_plan.specs.Walk.{Walk, LinksDiffer}
use Rattle.rules_plan.specs.Words.{NoOverrun, NoClash, Gets}
use Rattle.rules_plan.specs.laws.Sound.{Sound}

-- a file that is accepted
abbrev pub Accepted? : List ℕ → Type 0
Accepted? s = number (judge s) ≡ 0

-- "Entry (initiator, slot s, span n) covers slots s to s+n-1, modulo 64."
unfoldable pub CoversAsWorded : Type 0
CoversAsWorded =
    (e : Entry) (s : ℕ) → e.slot < 64 → e.span ≤ 64 → s < 64 →
    (covers e s ≡ true) ↔ ((k : ℕ) × (k < e.span) × (s ≡ (e.slot + k) % 64))

-- a route from a to b, of the routes xs, that goes over link l
pub record OnRoute (xs : List Route) (a b l : ℕ) : Type 0 where
  pub route : Route
  pub has : Memᴰ route xs
  pub from : a ≡ route.start
  pub to : b ≡ route.end
  pub on : Memᴰ l route.links

-- "A transaction uses the links of its path"; T-03: "A transaction uses both sets of links."
abbrev pub OnPath : Plan → (i t l : ℕ) → Type 0
OnPath p i t l = OnRoute p.paths i t l ⊎ OnRoute p.replies t i l

unfoldable pub UsesAsWorded : Type 0
UsesAsWorded = (p : Plan) (i t l : ℕ) → (uses p i t l ≡ true) ↔ OnPath p i t l

-- T-03: the way that the reply of path r comes home: "links walked from target back to initiator. Without one, the old rule stands."
pub data Home (p : Plan) (r : Route) : Route → Type 0 where
  another-way : {h : Route} → Memᴰ h p.replies → h.start ≡ r.end → h.end ≡ r.start → Home p r h
  same_way : ((h : Route) → Memᴰ h p.replies → h.start ≡ r.end → h.end ≡ r.start → ⊥) → Home p r r

-- (verdict 7 leaves one reply at most for a pair)
unfoldable pub HomeAsWorded : Type 0
HomeAsWorded = (p : Plan) → repeats same_path_ends p.replies ≡ false → (r h : Route) → (home_of p.replies r ≡ h) ↔ Home p r h

-- "with 256 × span at least the length"; and of a plan that carries its times "256 × span gives way to the largest length, up to 4,096,
-- whose time fits span × slot length on that path; a path that not even length 0 fits is not permitted"; T-03: "R of each way for its own terms"
pub data Short (p : Plan) (e : Entry) (t n : ℕ) : Type 0 where
  by_span : p.times ≡ [] → n ≤ 256 * e.span → Short p e t n
  by-time : {x : Times} {xs : List Times} {r : Route} → p.times ≡ x ∷ xs → Memᴰ r p.paths → e.initiator ≡ r.start → t ≡ r.end
      → n ≤ 4_096 → sheet x (routers r) (routers (home_of p.replies r)) n ≤ e.span * x.slot → Short p e t n

-- "permits the target with" such a length
unfoldable pub PermitsAsWorded : Type 0
PermitsAsWorded = (p : Plan) (e : Entry) (t n : ℕ) → (permits p e t n ≡ true) ↔ (Memᴰ t e.targets × Short p e t n)

-- "the largest length …" is told by each length below it: what is longer takes longer.
unfoldable pub LongerTakesLonger : Type 0
LongerTakesLonger = (x : Times) (out home m n : ℕ) → m ≤ n → sheet x out home m ≤ sheet x out home n

-- T-04: "the next slot in which initiator i may start a request": an entry stands at the slot that permits it
pub record TurnAt (p : Plan) (i t n v : ℕ) : Type 0 where
  pub entry : Entry
  pub has : Memᴰ entry p.entries
  pub own : entry.initiator ≡ i
  pub here : entry.slot ≡ v
  pub permitted : permits p entry t n ≡ true

-- "counted 1 to 64: 1 is the slot after a given one, 64 that slot again": count c leads to a turn, and none before it does
pub record NextIs (p : Plan) (i t n s c : ℕ) : Type 0 where
  pub some : 1 ≤ c
  pub most : c ≤ 64
  pub turn : TurnAt p i t n ((s + c) % 64)
  pub first : (k : ℕ) → 1 ≤ k → k < c → TurnAt p i t n ((s + k) % 64) → ⊥

-- A count is answered for an initiator of the plan, at a slot up to 63, exactly where it leads to the next turn.
unfoldable pub NextAsWorded : Type 0
NextAsWorded =
    (p : Plan) → Sound p → (i t n s c : ℕ) →
    (next_answer (some p) i t n s ≡ Turn c) ↔ ((is_initiator p i ≡ true) × (s < 64) × NextIs p i t n s c)

-- "The answer equals the one got by reading all entries": 25 says that no slot is a turn.
unfoldable pub NoTurnAsWorded : Type 0
NoTurnAsWorded =
    (p : Plan) → Sound p → (i t n s : ℕ) → is_initiator p i ≡ true → n ≤ 4_096 →
    (next_answer (some p) i t n s ≡ NoTurn 25) ↔ ((v : ℕ) → TurnAt p i t n v → ⊥)

-- "A path is a walk": what is computed of links is the walk in words.
unfoldable pub WalksAsWorded : Type 0
WalksAsWorded =
    (p : Plan) → LinksDiffer p → (start : ℕ) (links : List ℕ) (end : ℕ) →
    (is_walk p start links end ≡ true) ↔ Walk p start links end

-- The verdict that is computed is the verdict in words, and there is no other.
unfoldable pub VerdictsAsWorded : Type 0
VerdictsAsWorded = (s : List ℕ) (v : Verdict) → Gets s v ↔ (judge s ≡ v)

-- T-02: "15, after 12 and before 13". A plan with no entry has nothing that runs over or clashes, so no file shows where 15 stands beside 13.
unfoldable pub NoEntryMeetsNothing : Type 0
NoEntryMeetsNothing = (p : Plan) → p.entries ≡ [] → NoOverrun p × NoClash p

-- A file is accepted exactly when it is a good plan written out in some order of its items.
unfoldable pub AcceptedExactly : Type 0
AcceptedExactly = (s : List ℕ) → Bytes s → Accepted? s ↔ ((p : Plan) × (s ≡ written p) × Good p)

-- "Plans are the same if they differ in these orders only": two accepted files give the same canonical plan exactly when they
-- differ in these orders only.
unfoldable pub SamePlans : Type 0
SamePlans = (s t : List ℕ) → Accepted? s → Accepted? t → SamePlan (given s) (given t) ↔ (plan_of s ≡ plan_of t)

-- A plan written out is accepted with the same counts, is the same plan, is written out as the same bytes, and is as long as its file.
pub record ComesBack (s : List ℕ) : Type 0 where
  pub verdict : judge (written (plan_of s)) ≡ judge s
  pub plan : plan_of (written (plan_of s)) ≡ plan_of s
  pub bytes : written (plan_of (written (plan_of s))) ≡ written (plan_of s)
  pub size : length (written (plan_of s)) ≡ length s
  pub most : length (written (plan_of s)) ≤ 16_384

unfoldable pub WrittenOutComesBack : Type 0
WrittenOutComesBack = (s : List ℕ) → Accepted? s → ComesBack s

-- The plan that an accepted file gives is one that a box can run: no overrun, no clash, at most eight initiators.
unfoldable pub AcceptedIsSound : Type 0
AcceptedIsSound = (s : List ℕ) → Accepted? s → Sound (plan_of s)

pub record Promises : Type 0 where
  pub covers : CoversAsWorded
  pub uses : UsesAsWorded
  pub home : HomeAsWorded
  pub permits : PermitsAsWorded
  pub longer : LongerTakesLonger
  pub next : NextAsWorded
  pub no-turn : NoTurnAsWorded
  pub walks : WalksAsWorded
  pub words : VerdictsAsWorded
  pub alone : NoEntryMeetsNothing
  pub exactly : AcceptedExactly
  pub same : SamePlans
  pub back : WrittenOutComesBack
  pub sound : AcceptedIsSound
