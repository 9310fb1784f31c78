-- "The plan file": fields one after another, and the table of tags, read and written.
use Rattle.std.specs.Prelude.{ℕ, ◌+◌, ◌/◌, ◌%◌, List, [], ◌∷◌, ◌++◌, Bool, true, false, ◌&&◌, length, take, drop, leb, eqb}
use Rattle.std.proofs.Math.Option.{Option, none, some}
use Rattle.lists.specs.Search.{find, is_some}
use Rattle.rules_plan.specs.Plan.{nth, two, four, Item, device, link, path, entry, timing, times, reply}

-- "device number, kind"
unfoldable pub as_device : List ℕ → Item
as_device c = device (record { num = nth c 0; kind = nth c 1 })

-- "link number, the two devices it joins"
unfoldable pub as_link : List ℕ → Item
as_link c = link (record { num = nth c 0; one = nth c 1; other = nth c 2 })

-- "initiator, target, then 1 to 8 link numbers in order"
unfoldable pub as_path : List ℕ → Item
as_path c = path (record { start = nth c 0; end = nth c 1; links = drop 2 c })

-- "initiator, slot 0 to 63, span, then 1 to 16 targets"
unfoldable pub as_entry : List ℕ → Item
as_entry c = entry (record { initiator = nth c 0; slot = nth c 1; span = nth c 2; targets = drop 3 c })

-- "least and greatest time-code interval, 32 bits each, most significant byte first"
unfoldable pub as_timing : List ℕ → Item
as_timing c = timing (record { least = four c 0; greatest = four c 4 })

-- "S in 2 bytes, five numbers of 4, high byte first"
unfoldable pub as_times : List ℕ → Item
as_times c = times (record { rate = two c 0; a = four c 2; d = four c 6; f = four c 10; g = four c 14; slot = four c 18 })

-- T-03: "initiator, target, then links walked from target back to initiator"
unfoldable pub as_reply : List ℕ → Item
as_reply c = reply (record { start = nth c 1; end = nth c 0; links = drop 2 c })

-- a row of the table "tag, length, content"; once: the tag occurs once
pub record Tag : Type 0 where
  pub number : ℕ
  pub shortest : ℕ
  pub longest : ℕ
  pub once : Bool
  pub reads : List ℕ → Item

unfoldable pub tags : List Tag
tags =
    record { number = 1; shortest = 2; longest = 2; once = false; reads = as_device }
    ∷ record { number = 2; shortest = 3; longest = 3; once = false; reads = as_link }
    ∷ record { number = 3; shortest = 3; longest = 10; once = false; reads = as_path }
    ∷ record { number = 4; shortest = 4; longest = 19; once = false; reads = as_entry }
    ∷ record { number = 5; shortest = 8; longest = 8; once = true; reads = as_timing }
    ∷ record { number = 6; shortest = 22; longest = 22; once = true; reads = as_times }
    ∷ record { number = 7; shortest = 3; longest = 10; once = false; reads = as_reply }
    ∷ []

unfoldable pub tag_of : ℕ → Option Tag
tag_of n = find (λ (t : Tag). eqb n t.number) tags

unfoldable pub is_tag : ℕ → Bool
is_tag n = is_some (tag_of n)

unfoldable pub comes_once : ℕ → Bool
comes_once n = elim (tag_of n) [ none ↦ false | some t ↦ t.once ]

unfoldable pub length_allowed : ℕ → ℕ → Bool
length_allowed n size = elim (tag_of n) [ none ↦ false | some t ↦ leb t.shortest size && leb size t.longest ]

unfoldable pub item_of : ℕ → List ℕ → Option Item
item_of n c = elim (tag_of n) [ none ↦ none | some t ↦ some (t.reads c) ]

-- "one byte tag, two bytes length, most significant first, then that many bytes of content": the field at an offset of file s
abbrev pub tag_at : List ℕ → ℕ → ℕ
tag_at s at = nth s at

abbrev pub size_at : List ℕ → ℕ → ℕ
size_at s at = two s (at + 1)

unfoldable pub content_at : List ℕ → ℕ → List ℕ
content_at s at = take (size_at s at) (drop (at + 3) s)

abbrev pub next_at : List ℕ → ℕ → ℕ
next_at s at = at + 3 + size_at s at

unfoldable pub item_at : List ℕ → ℕ → Option Item
item_at s at = item_of (tag_at s at) (content_at s at)

-- the same the other way: an item's tag, its content, its field
unfoldable pub two_bytes : ℕ → List ℕ
two_bytes n = n / 256 ∷ n % 256 ∷ []

unfoldable pub four_bytes : ℕ → List ℕ
four_bytes n = n / 16_777_216 ∷ n / 65_536 % 256 ∷ n / 256 % 256 ∷ n % 256 ∷ []

unfoldable pub tag_for : Item → ℕ
tag_for (device d) = 1
tag_for (link l) = 2
tag_for (path x) = 3
tag_for (entry e) = 4
tag_for (timing t) = 5
tag_for (times x) = 6
tag_for (reply x) = 7

unfoldable pub content_for : Item → List ℕ
content_for (device d) = d.num ∷ d.kind ∷ []
content_for (link l) = l.num ∷ l.one ∷ l.other ∷ []
content_for (path x) = x.start ∷ x.end ∷ x.links
content_for (entry e) = e.initiator ∷ e.slot ∷ e.span ∷ e.targets
content_for (timing t) = four_bytes t.least ++ four_bytes t.greatest
content_for (times x) = two_bytes x.rate ++ four_bytes x.a ++ four_bytes x.d ++ four_bytes x.f ++ four_bytes x.g ++ four_bytes x.slot
content_for (reply x) = x.end ∷ x.start ∷ x.links

unfoldable pub field_for : Item → List ℕ
field_for x = tag_for x ∷ length (content_for x) / 256 ∷ length (content_for x) % 256 ∷ content_for x
