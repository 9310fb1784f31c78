-- `replay::read_more` meets its contract. Assumes nothing.
use Rattle.std.proofs.Common.{length-append, arith, take, length-take-le, take_at, rules}
use Rattle.replay.proofs.Rounds.{brought}
use Rattle.replay.proofs.read_more.Goals as goal

pub returns : goal.returns
returns c =
    brought
    c.args.input.now
    _
    _
    c.args.len
    c.read.result
    (take_at (take c.args.len c.args.input.now) _ c.args.len (length-take-le c.args.len c.args.input.now c.requires))
    (search rules)
    (simp (length-append) (omega (arith, length-take-le c.args.len c.args.input.now c.requires)))
    c.read.ensures.bound
