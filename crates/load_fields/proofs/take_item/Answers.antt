-- `fields::take_item` meets its contract: the tag's row of the table gives the item and the bounds of its content's length, and
-- the arm's function judges it and keeps it. Assumes nothing.
use mathlib.Core.Path.{◌≡◌, refl, sym, ap, ap₂, ◌∙◌}
use mathlib.Core.Logic.{◌≢◌, ◌⊎◌, inl, inr}
use Prim.Native.Nat.{ℕ, ◌≤◌}
use native.Mathlib.Omega.{arith}
use native.Mathlib.Decide.{ℕ_discrete}
use lib.ListN.{length-drop}
use Rattle.lists.specs.Search.{find}
use Rattle.lists.specs.laws.Bools.{not-both}
use Rattle.lists.specs.laws.Parts.{from-to-end}
use Rattle.rules_plan.specs.Plan.{nth}
use Rattle.rules_plan.specs.Fields.{tags, tag_of, as_device, as_link, as_entry, as_timing, as_times}
use Rattle.rules_plan.specs.laws.Items.{no-replies}
use Rattle.memory_plan.specs.Take.{entry_item, timing_item}
use Rattle.load_fields.proofs.Taking.{reads_as, sized-1, sized-2, sized-4, sized-5, sized-6, device-taken, link-taken, route-taken, entry-taken, timing-taken, times-taken, as-item}
use Rattle.file_field.specs.laws.Tags.{none_allowed}
use Rattle.load_fields.proofs.take_item.Lts as lts
use Rattle.load_fields.proofs.take_item.Tie as tie
use Rattle.load_fields.proofs.take_item.Reads as reads
use Rattle.load_fields.proofs.take_item.Goals as goal

abbrev At-match-rest : Type 0
At-match-rest = lts.Past-At-match-rest tie.the-claims reads.Pre reads.Post

-- a tag with an allowed length that is none of the five is 3 or 7
route-tag : (c : At-match-rest) → (c.args.tag ≡ 3) ⊎ (c.args.tag ≡ 7)
route-tag c = go (ℕ_discrete _ 3) (ℕ_discrete _ 7)
  where
    none_left : (n : ℕ) → n ≢ 3 → n ≢ 7 → n ≢ 1 → n ≢ 2 → 1 ≤ n → 4 ≤ n
    none_left n a b c d l = omega arith

    past : (n : ℕ) → n ≢ 7 → 4 ≤ n → n ≤ 7 → n ≢ 4 → n ≢ 5 → n ≢ 6 → ⊥
    past n a l h b c d = omega arith

    go : Dec (c.args.tag ≡ 3) → Dec (c.args.tag ≡ 7) → (c.args.tag ≡ 3) ⊎ (c.args.tag ≡ 7)
    go (yes e) d = inl e
    go (no e) (yes g) = inr g
    go (no e) (no g) =
        let r = c.in_default.in_default-own.rest in
        not-both c.requires (sym (none_allowed _ _ (λ l h. past _ g (none_left _ e g r.0.0.0.0.1 r.0.0.0.1 l) h r.0.0.1 r.0.1 r.1)))

pub bounds-content-0 : goal.bounds-content-0
bounds-content-0 c = omega (arith, sized-1 _ _ c.in-1.is c.requires)

pub bounds-content-1 : goal.bounds-content-1
bounds-content-1 c = omega (arith, sized-1 _ _ c.in-1.is c.requires)

pub bounds-content-0-in-2 : goal.bounds-content-0-in-2
bounds-content-0-in-2 c = omega (arith, sized-2 _ _ c.in-2.is c.requires)

pub bounds-content-1-in-2 : goal.bounds-content-1-in-2
bounds-content-1-in-2 c = omega (arith, sized-2 _ _ c.in-2.is c.requires)

pub bounds-content-2 : goal.bounds-content-2
bounds-content-2 c = omega (arith, sized-2 _ _ c.in-2.is c.requires)

pub bounds-content-0-in-4 : goal.bounds-content-0-in-4
bounds-content-0-in-4 c = omega (arith, sized-4 _ _ c.in-4.is c.requires)

pub bounds-content-1-in-4 : goal.bounds-content-1-in-4
bounds-content-1-in-4 c = omega (arith, sized-4 _ _ c.in-4.is c.requires)

pub bounds-content-2-in-4 : goal.bounds-content-2-in-4
bounds-content-2-in-4 c = omega (arith, sized-4 _ _ c.in-4.is c.requires)

pub slice_bounds-entry-count : goal.slice_bounds-entry-count
slice_bounds-entry-count c = omega (arith, sized-4 _ _ c.in-4.is c.requires)

pub slice_bounds-entry-start : goal.slice_bounds-entry-start
slice_bounds-entry-start c = omega (arith, sized-4 _ _ c.in-4.is c.requires)

pub entry-requires : goal.entry-requires
entry-requires c =
    let s = c.args.content.now in
    rw (from-to-end 3 s) (omega (arith, length-drop 3 s, sized-4 _ _ c.in-4.is c.requires))

pub four_at-requires : goal.four_at-requires
four_at-requires c = omega (arith, sized-5 _ _ c.in-5.is c.requires)

pub four_at-requires-in-5 : goal.four_at-requires-in-5
four_at-requires-in-5 c = omega (arith, sized-5 _ _ c.in-5.is c.requires)

pub take_times-requires : goal.take_times-requires
take_times-requires c = sized-6 _ _ c.in-6.is c.requires

pub take_route-requires : goal.take_route-requires
take_route-requires c = (c.requires, route-tag c.before.before.before.before.before)

pub returns-in-1 : goal.returns-in-1
unfolding tag_of tags find as_device
returns-in-1 c size p x fair next is old =
    as-item (reads_as c.in-1.is refl c.args.content.now x is) (device-taken old _ (c.device.ensures p fair old.sets))

pub returns-in-2 : goal.returns-in-2
unfolding tag_of tags find as_link
returns-in-2 c size p x fair next is old =
    as-item (reads_as c.in-2.is refl c.args.content.now x is) (link-taken old _ (c.link.ensures p fair old.sets old.ends))

pub returns-in-4 : goal.returns-in-4
unfolding tag_of tags find as_entry
returns-in-4 c size p x fair next is old =
    let s = c.args.content.now in
    as-item (reads_as c.in-4.is refl s x is ∙ ap (entry_item (nth s 0) (nth s 1) (nth s 2)) (sym (from-to-end 3 s)))
    (entry-taken old _ (c.entry.ensures size p fair old.sets old.rows old.reach old.spans old.aims old.numbers))

pub returns-in-5 : goal.returns-in-5
unfolding tag_of tags find as_timing
returns-in-5 c size p x fair next is old =
    let s = c.args.content.now in
    as-item (reads_as c.in-5.is refl s x is ∙ ap₂ timing_item (sym c.four_at.ensures) (sym c.four_at-in-5.ensures))
    (timing-taken old _ (c.timing.ensures size p old.numbers (next.timings c.in-5.is)))

pub returns-in-6 : goal.returns-in-6
unfolding tag_of tags find as_times
returns-in-6 c size p x fair next is old =
    let s = c.args.content.now in
    as-item (reads_as c.in-6.is refl s x is)
    (times-taken old _ (c.take_times.ensures size p fair old.rows old.paths old.numbers (next.times c.in-6.is) (no-replies p _ next.up_to (omega (arith, c.in-6.is)))))

pub returns-in_default : goal.returns-in_default
returns-in_default c size p x fair next is old =
    route-taken old next.up_to (route-tag c.before.before.before.before.before.before) c.args.content.now is
    (c.take_route.ensures size p x fair next is old.sets old.ends old.rows old.reach old.paths old.numbers)
