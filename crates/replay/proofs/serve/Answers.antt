-- `replay::serve` meets its contract. The loop's invariant: rounds brought it here, none of them failed, and the bytes that are left have room in the buffer. Assumes nothing.
use Rattle.std.proofs.Common.{sym, refl, ◌∙◌, arith, length-take-le, rules}
use Rattle.replay.specs.Rounds.{none}
use Rattle.replay.proofs.Takes.{taken-within}
use Rattle.replay.proofs.Rounds.{rounds-more, serves-finished, serves-unread, serves-unwritten}
use Rattle.replay.proofs.serve.Goals as goal

pub loop-turn-init : goal.loop-turn-init
loop-turn-init c = (search rules, search rules, search rules, refl, none)

pub read_more-requires : goal.read_more-requires
read_more-requires c = omega (arith, c.loop-turn.invariant.1, c.loop-turn.invariant.2)

pub returns-in_default : goal.returns-in_default
returns-in_default c = serves-unread c.loop-turn.invariant.0 c.loop-turn.invariant.4 c.loop-turn.invariant.3

pub slice_bounds-finish-end : goal.slice_bounds-finish-end
slice_bounds-finish-end c = sym (length-take-le _ _ (omega (arith, c.loop-turn.invariant.1, c.loop-turn.invariant.2, c.in-Ok.ensures.size)))

pub returns-then-k-eq0 : goal.returns-then-k-eq0
returns-then-k-eq0 c = serves-finished c.loop-turn.invariant.0 c.loop-turn.invariant.4 c.loop-turn.invariant.3 c.in-Ok.ensures.stay c.finish.ensures c.written.ensures

pub returns-then-d : goal.returns-then-d
returns-then-d c =
    let i = c.loop-turn.invariant in
    serves-unwritten i.0 (rounds-more i.4 i.3 c.in-Ok.ensures (omega (arith, c.if-k-eq0.false)) c.take_lines-len.ensures c.flush.ensures) c.if-d.true

pub loop-turn-preserved : goal.loop-turn-preserved
loop-turn-preserved c =
    let i = c.loop-turn.invariant in
    let b = c.in-Ok.ensures in
    let size = b.size ∙ i.2 in (
      i.0,
      omega (arith, taken-within _ _ b.within c.take_lines-len.ensures, size),
      c.take_lines-len.auto.input ∙ size,
      c.if-d.false,
      rounds-more i.4 i.3 b (omega (arith, c.if-k-eq0.false)) c.take_lines-len.ensures c.flush.ensures,
    )

pub returns : goal.returns
returns c = serves-unread c.loop-turn.invariant.0 c.loop-turn.invariant.4 c.loop-turn.invariant.3
