-- What the table of tags allows for a field's length (row 5).
use Rattle.std.specs.Prelude.{◌≡◌, refl, true, ℕ, suc, ◌≤◌, length, leb}
use Rattle.std.proofs.Math.Option.{some}
use Rattle.std.proofs.Common.{arith, leb-true}
use Rattle.lists.specs.Search.{find}
use Rattle.lists.specs.laws.Bools.{both_true}
use Rattle.rules_plan.specs.Plan.{Route, Entry, Item, path, entry, reply}
use Rattle.rules_plan.specs.Fields.{Tag, tags, tag_of, length_allowed, tag_for, content_for}

pub allowed : (n size : ℕ) (t : Tag) → tag_of n ≡ some t → length_allowed n size ≡ true → (t.shortest ≤ size) × (size ≤ t.longest)
unfolding length_allowed
allowed n size t e h =
    let b = both_true (leb t.shortest size) (leb size t.longest) (rw (e, length_allowed) at h) in
    (leb-true t.shortest size b.0, leb-true size t.longest b.1)

-- an item's content has an allowed length
abbrev pub Sized : Item → Type 0
Sized x = length_allowed (tag_for x) (length (content_for x)) ≡ true

pub path-length : (x : Route) → Sized (path x) → (1 ≤ length x.links) × (length x.links ≤ 8)
unfolding tag_of tags find tag_for content_for
path-length x h = let a = allowed 3 (suc (suc (length x.links))) _ refl h in (omega (arith, a.0), omega (arith, a.1))

pub entry_length : (e : Entry) → Sized (entry e) → (1 ≤ length e.targets) × (length e.targets ≤ 16)
unfolding tag_of tags find tag_for content_for
entry_length e h = let a = allowed 4 (suc (suc (suc (length e.targets)))) _ refl h in (omega (arith, a.0), omega (arith, a.1))

pub reply-length : (x : Route) → Sized (reply x) → (1 ≤ length x.links) × (length x.links ≤ 8)
unfolding tag_of tags find tag_for content_for
reply-length x h = let a = allowed 7 (suc (suc (length x.links))) _ refl h in (omega (arith, a.0), omega (arith, a.1))
