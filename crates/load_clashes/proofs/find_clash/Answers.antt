-- `find_clash` meets its contract. The loop's invariant: no slot passed has a clash.
use mathlib.Core.Path.{sym, ◌∙◌}
use Rattle.load_clashes.proofs.Clash.{searched, clash-first, clash-never}
use Rattle.load_clashes.proofs.find_clash.Goals as goal

pub returns-in-Some : goal.returns-in-Some
returns-in-Some c size p fair alone rows paths spans aims numbers =
    let s = searched size fair alone rows paths spans aims numbers in
    clash-first p c.loop-slot.slot (c.loop-slot.invariant p s) _ c.loop-slot-test.true (sym c.in-Some.is ∙ c.clash_in.ensures p s)

pub returns : goal.returns
returns c size p fair alone rows paths spans aims numbers =
    clash-never p c.loop-slot.slot (c.loop-slot.invariant p (searched size fair alone rows paths spans aims numbers)) c.loop-slot-test.false
