-- An item judged after a plan, and the plan with it: what the code does with each field that is read.
use Rattle.std.specs.Prelude.{ℕ, List, cond, eqb}
use Rattle.lists.specs.Rows.{first_of}
use Rattle.rules_plan.specs.Plan.{Plan, Item, device, link, path, entry, timing, times, reply, grow}
use Rattle.rules_plan.specs.Judge.{item_rows}

-- verdicts 6 to 11 of an item after plan p, 0 for none
unfoldable pub item_fault : Plan → Item → ℕ
item_fault p x = first_of (item_rows p x)

-- the plan with the item, where it has no fault
unfoldable pub taken : Plan → Item → Plan
taken p x = cond (eqb (item_fault p x) 0) (grow p x) p

-- the items, from their numbers
abbrev pub device_item : ℕ → ℕ → Item
device_item n k = device (record { num = n; kind = k })

abbrev pub link_item : ℕ → ℕ → ℕ → Item
link_item n a b = link (record { num = n; one = a; other = b })

abbrev pub path_item : ℕ → ℕ → List ℕ → Item
path_item i t ls = path (record { start = i; end = t; links = ls })

-- a reply by its initiator and its target: it starts at the target
abbrev pub reply_item : ℕ → ℕ → List ℕ → Item
reply_item i t ls = reply (record { start = t; end = i; links = ls })

abbrev pub entry_item : ℕ → ℕ → ℕ → List ℕ → Item
entry_item i s n ts = entry (record { initiator = i; slot = s; span = n; targets = ts })

abbrev pub timing_item : ℕ → ℕ → Item
timing_item a b = timing (record { least = a; greatest = b })

abbrev pub times_item : (rate a d f g slot : ℕ) → Item
times_item rate a d f g slot = times (record { rate = rate; a = a; d = d; f = f; g = g; slot = slot })
