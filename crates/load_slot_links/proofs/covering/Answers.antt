-- `covering` meets its contract. The loop's invariant: no entry in the slots passed covers the slot.
use mathlib.Core.Path.{◌≡◌}
use mathlib.Core.Bool.{false}
use native.Mathlib.Omega.{arith}
use borrow.Author.Count.{below_more}
use Rattle.lists.specs.laws.Below.{some-below, none-below}
use Rattle.load_slot_links.specs.Lanes.{covers_from}
use Rattle.load_slot_links.specs.laws.Cover.{cover-not, cover-found, cover-nothing}
use Rattle.load_slot_links.proofs.covering.Goals as goal

pub returns-then-back-spans : goal.returns-then-back-spans
returns-then-back-spans c =
    let s = c.args in
    some-below 512 _ _ (cover-found s.spans.now s.row s.slot c.loop-back.back c.loop-back.invariant c.loop-back-test.true c.if-back-spans.true) (omega (arith, c.requires.0))

pub loop-back-preserved : goal.loop-back-preserved
loop-back-preserved c =
    let s = c.args in
    below_more (λ b. covers_from s.spans.now s.row s.slot b ≡ false) c.loop-back.back c.loop-back.invariant (cover-not s.spans.now s.row s.slot c.loop-back.back c.if-back-spans.false)

pub returns : goal.returns
returns c =
    let s = c.args in
    let all = cover-nothing s.spans.now s.row s.slot c.loop-back.back c.loop-back.invariant c.loop-back-test.false in
    none-below 512 _ (omega (arith, all))
