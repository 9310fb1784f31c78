-- The plan: what the fields of a plan file give, in seven lists. A field adds one item to one of them.
use Rattle.std.specs.Prelude.{ℕ, ◌+◌, ◌*◌, List, [], ◌∷◌, ◌++◌, get_or}

-- the number at place n of a list, 0 beyond its end
abbrev pub nth : List ℕ → ℕ → ℕ
nth xs n = get_or xs n 0

-- two and four bytes at offset n as a number, most significant first
abbrev pub two : List ℕ → ℕ → ℕ
two s n = nth s n * 256 + nth s (n + 1)

abbrev pub four : List ℕ → ℕ → ℕ
four s n = two s n * 65_536 + two s (n + 2)

-- kind: 0 node, 1 router
pub record Device : Type 0 where
  pub num : ℕ
  pub kind : ℕ

-- the two devices that it joins
pub record Link : Type 0 where
  pub num : ℕ
  pub one : ℕ
  pub other : ℕ

-- a way over links in order, from the device that it is walked from to the one that it leads to: a path starts at its initiator and
-- ends at its target, a reply starts at the target and ends at the initiator. (Path is the name of a type of the library.)
pub record Route : Type 0 where
  pub start : ℕ
  pub end : ℕ
  pub links : List ℕ

pub record Entry : Type 0 where
  pub initiator : ℕ
  pub slot : ℕ
  pub span : ℕ
  pub targets : List ℕ

abbrev pub with_targets : List ℕ → Entry → Entry
with_targets ts e = record { initiator = e.initiator; slot = e.slot; span = e.span; targets = ts }

-- least and greatest time-code interval
pub record Timing : Type 0 where
  pub least : ℕ
  pub greatest : ℕ

-- "the rate, latencies and slot length": Mbit/s, and nanoseconds by the letters of document 000 section 4
pub record Times : Type 0 where
  pub rate : ℕ
  pub a : ℕ
  pub d : ℕ
  pub f : ℕ
  pub g : ℕ
  pub slot : ℕ

pub record Plan : Type 0 where
  pub devices : List Device
  pub links : List Link
  pub paths : List Route
  pub entries : List Entry
  pub timings : List Timing
  pub times : List Times
  pub replies : List Route

unfoldable pub blank : Plan
blank = record { devices = []; links = []; paths = []; entries = []; timings = []; times = []; replies = [] }

-- the plan with one list replaced
abbrev pub with_devices : List Device → Plan → Plan
with_devices ds p = record { devices = ds; links = p.links; paths = p.paths; entries = p.entries; timings = p.timings; times = p.times; replies = p.replies }

abbrev pub with_links : List Link → Plan → Plan
with_links ls p = record { devices = p.devices; links = ls; paths = p.paths; entries = p.entries; timings = p.timings; times = p.times; replies = p.replies }

abbrev pub with_paths : List Route → Plan → Plan
with_paths xs p = record { devices = p.devices; links = p.links; paths = xs; entries = p.entries; timings = p.timings; times = p.times; replies = p.replies }

abbrev pub with_entries : List Entry → Plan → Plan
with_entries es p = record { devices = p.devices; links = p.links; paths = p.paths; entries = es; timings = p.timings; times = p.times; replies = p.replies }

abbrev pub with_timings : List Timing → Plan → Plan
with_timings ts p = record { devices = p.devices; links = p.links; paths = p.paths; entries = p.entries; timings = ts; times = p.times; replies = p.replies }

abbrev pub with_times : List Times → Plan → Plan
with_times xs p = record { devices = p.devices; links = p.links; paths = p.paths; entries = p.entries; timings = p.timings; times = xs; replies = p.replies }

abbrev pub with_replies : List Route → Plan → Plan
with_replies xs p = record { devices = p.devices; links = p.links; paths = p.paths; entries = p.entries; timings = p.timings; times = p.times; replies = xs }

-- what one field gives
pub data Item : Type 0 where
  device : Device → Item
  link : Link → Item
  path : Route → Item
  entry : Entry → Item
  timing : Timing → Item
  times : Times → Item
  reply : Route → Item

-- the plan with one more item, at the end of its list
unfoldable pub grow : Plan → Item → Plan
grow p (device d) = with_devices (p.devices ++ (d ∷ [])) p
grow p (link l) = with_links (p.links ++ (l ∷ [])) p
grow p (path x) = with_paths (p.paths ++ (x ∷ [])) p
grow p (entry e) = with_entries (p.entries ++ (e ∷ [])) p
grow p (timing t) = with_timings (p.timings ++ (t ∷ [])) p
grow p (times x) = with_times (p.times ++ (x ∷ [])) p
grow p (reply x) = with_replies (p.replies ++ (x ∷ [])) p
