-- What is wrong with a field: rows 2 to 11 of the table of verdicts as sentences, a constructor for each part of a sentence. After the
-- plan of fields without a fault one of row n holds exactly where row n of `field_rows` does (proofs/Faults).
use Rattle.std.specs.Prelude.{◌≡◌, ℕ, ◌+◌, ◌≤◌, ◌<◌, length}
use mathlib.Core.List.{List, [], ◌∷◌, Memᴰ}
use Rattle.std.proofs.Math.Option.{some}
use Rattle.rules_plan.specs.Plan.{Device, Link, Route, Entry, Timing, Times, Plan, Item, device, link, path, entry, timing, times, reply}
use Rattle.rules_plan.specs.Fields.{tag_at, size_at, next_at, item_at}
use Rattle.rules_plan.specs.Walk.{IsRouter, Twice, Walk}

-- "tag, length": the lengths that each tag allows
pub data Allowed : ℕ → ℕ → Type 0 where
  tag-01 : Allowed 1 2
  tag-02 : Allowed 2 3
  tag-03 : {size : ℕ} → 3 ≤ size → size ≤ 10 → Allowed 3 size
  tag-04 : {size : ℕ} → 4 ≤ size → size ≤ 19 → Allowed 4 size
  tag-05 : Allowed 5 8
  tag-06 : Allowed 6 22
  tag-07 : {size : ℕ} → 3 ≤ size → size ≤ 10 → Allowed 7 size

-- a route of the list leads from device a to device b
abbrev pub HasRoute : List Route → ℕ → ℕ → Type 0
HasRoute xs a b = (x : Route) × Memᴰ x xs × (x.start ≡ a) × (x.end ≡ b)

-- the plan has a device or a link with number n, a path from i to t, an entry of i in slot v
abbrev pub IsDevice : Plan → ℕ → Type 0
IsDevice p n = (d : Device) × Memᴰ d p.devices × (d.num ≡ n)

abbrev pub IsLink : Plan → ℕ → Type 0
IsLink p n = (l : Link) × Memᴰ l p.links × (l.num ≡ n)

abbrev pub HasPath : Plan → ℕ → ℕ → Type 0
HasPath p i t = HasRoute p.paths i t

abbrev pub HasEntry : Plan → ℕ → ℕ → Type 0
HasEntry p i v = (e : Entry) × Memᴰ e p.entries × (e.initiator ≡ i) × (e.slot ≡ v)

-- "An initiator is a device that stands first in some path."
abbrev pub IsInitiator : Plan → ℕ → Type 0
IsInitiator p i = (x : Route) × Memᴰ x p.paths × (x.start ≡ i)

-- eight initiators of the plan, all different
pub record Eight (p : Plan) : Type 0 where
  pub list : List ℕ
  pub eight : length list ≡ 8
  pub once : Twice list → ⊥
  pub each : (i : ℕ) → Memᴰ i list → IsInitiator p i

-- what an item names: its initiator and targets; its devices and its links, beside the one that it gives itself
unfoldable pub ends_of : Item → List ℕ
ends_of (device d) = []
ends_of (link l) = []
ends_of (path x) = x.start ∷ x.end ∷ []
ends_of (entry e) = e.initiator ∷ e.targets
ends_of (timing t) = []
ends_of (times x) = []
ends_of (reply x) = x.start ∷ x.end ∷ []

unfoldable pub devices_of : Item → List ℕ
devices_of (device d) = []
devices_of (link l) = l.one ∷ l.other ∷ []
devices_of (path x) = ends_of (path x)
devices_of (entry e) = ends_of (entry e)
devices_of (timing t) = []
devices_of (times x) = []
devices_of (reply x) = ends_of (reply x)

unfoldable pub links_of : Item → List ℕ
links_of (device d) = []
links_of (link l) = []
links_of (path x) = x.links
links_of (entry e) = []
links_of (timing t) = []
links_of (times x) = []
links_of (reply x) = x.links

-- the route that an item gives: a path, or the way of a reply
pub data Gives (x : Route) : Item → Type 0 where
  a-path : Gives x (path x)
  a-reply : Gives x (reply x)

-- rows 6 to 11, of an item after plan p
pub data WrongItem (p : Plan) : Item → ℕ → Type 0 where
  -- 6: "a device, link, kind, slot, span or interval out of range; a link joining a device to itself; a path with initiator equal to target";
  -- "S outside 2 to 400, or a latency or slot length over 1,000,000, is 6"
  device-over : {d : Device} → 63 < d.num → WrongItem p (device d) 6
  named-device-over : {x : Item} {n : ℕ} → Memᴰ n (devices_of x) → 63 < n → WrongItem p x 6
  link-over : {l : Link} → 63 < l.num → WrongItem p (link l) 6
  named-link-over : {x : Item} {n : ℕ} → Memᴰ n (links_of x) → 63 < n → WrongItem p x 6
  kind-over : {d : Device} → 1 < d.kind → WrongItem p (device d) 6
  slot-over : {e : Entry} → 63 < e.slot → WrongItem p (entry e) 6
  span-under : {e : Entry} → e.span < 1 → WrongItem p (entry e) 6
  span-over : {e : Entry} → 16 < e.span → WrongItem p (entry e) 6
  greatest-under : {t : Timing} → t.greatest < 1 → WrongItem p (timing t) 6
  greatest-over : {t : Timing} → 2_147_483_647 < t.greatest → WrongItem p (timing t) 6
  least-over : {t : Timing} → t.greatest < t.least → WrongItem p (timing t) 6
  rate-under : {x : Times} → x.rate < 2 → WrongItem p (times x) 6
  rate-over : {x : Times} → 400 < x.rate → WrongItem p (times x) 6
  time-over : {x : Times} {n : ℕ} → Memᴰ n (x.a ∷ x.d ∷ x.f ∷ x.g ∷ x.slot ∷ []) → 1_000_000 < n → WrongItem p (times x) 6
  to-itself : {l : Link} → l.one ≡ l.other → WrongItem p (link l) 6
  ends-equal : {x : Route} {y : Item} → Gives x y → x.start ≡ x.end → WrongItem p y 6
  -- 7: "a device, link, path (initiator, target) or entry (initiator, slot) given before; a target twice in one entry"
  device-before : {d : Device} → IsDevice p d.num → WrongItem p (device d) 7
  link-before : {l : Link} → IsLink p l.num → WrongItem p (link l) 7
  path-before : {x : Route} → HasPath p x.start x.end → WrongItem p (path x) 7
  entry-before : {e : Entry} → HasEntry p e.initiator e.slot → WrongItem p (entry e) 7
  reply-before : {x : Route} → HasRoute p.replies x.start x.end → WrongItem p (reply x) 7
  target-twice : {e : Entry} → Twice e.targets → WrongItem p (entry e) 7
  -- 8: "a device or link not given before; a router as initiator or target"
  no-device : {x : Item} {n : ℕ} → Memᴰ n (devices_of x) → (IsDevice p n → ⊥) → WrongItem p x 8
  no-link : {x : Item} {n : ℕ} → Memᴰ n (links_of x) → (IsLink p n → ⊥) → WrongItem p x 8
  router-end : {x : Item} {n : ℕ} → Memᴰ n (ends_of x) → IsRouter p n → WrongItem p x 8
  -- 9: "a path that makes a ninth initiator or is the 129th"
  ninth : {x : Route} → Eight p → (IsInitiator p x.start → ⊥) → WrongItem p (path x) 9
  past-128 : {x : Route} → 128 ≤ length p.paths → WrongItem p (path x) 9
  -- 10: "links of a path are no walk"
  no-walk : {x : Route} {y : Item} → Gives x y → (Walk p x.start x.links x.end → ⊥) → WrongItem p y 10
  -- 11: "an entry's target has no path from its initiator"; T-03: "11 if no command path exists"
  no-path : {e : Entry} {t : ℕ} → Memᴰ t e.targets → (HasPath p e.initiator t → ⊥) → WrongItem p (entry e) 11
  no-command : {x : Route} → (HasPath p x.end x.start → ⊥) → WrongItem p (reply x) 11

-- rows 2 to 11, of the field at offset at of file s, after a field with the tag before (0 for none) and the plan p
pub data Wrong (p : Plan) (s : List ℕ) (at before : ℕ) : ℕ → Type 0 where
  -- 2: "under 3 bytes left for tag and length, or content runs past the end"
  under-three : length s < at + 3 → Wrong p s at before 2
  past_end : length s < next_at s at → Wrong p s at before 2
  -- 3: "tag not 01 to 05"; "verdict 3 spares each tag a ticket adds": 06, 07
  tag-under : tag_at s at < 1 → Wrong p s at before 3
  tag-over : 7 < tag_at s at → Wrong p s at before 3
  -- 4: "tag below the one before, or a second 05"; "a second 06 is 4"
  tag-falls : tag_at s at < before → Wrong p s at before 4
  second-05 : before ≡ 5 → tag_at s at ≡ 5 → Wrong p s at before 4
  second-06 : before ≡ 6 → tag_at s at ≡ 6 → Wrong p s at before 4
  -- 5: "length not allowed for the tag"
  not-allowed : (Allowed (tag_at s at) (size_at s at) → ⊥) → Wrong p s at before 5
  -- 6 to 11
  of-item : {x : Item} {n : ℕ} → item_at s at ≡ some x → WrongItem p x n → Wrong p s at before n
