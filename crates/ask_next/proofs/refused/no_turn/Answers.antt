-- `no_turn` meets its contract. Assumes nothing.
use Rattle.std.proofs.Common.{arith, lt-ltb, le-ltb}
use Rattle.ask_next.specs.Refused.{no_turn}
use Rattle.ask_next.proofs.refused.no_turn.Goals as goal

pub returns-then-length-gt4096 : goal.returns-then-length-gt4096
unfolding no_turn
returns-then-length-gt4096 c = rw (lt-ltb 4096 c.args.length (omega arith))

pub returns-else-length-gt4096 : goal.returns-else-length-gt4096
unfolding no_turn
returns-else-length-gt4096 c = rw (le-ltb 4096 c.args.length (omega arith))
