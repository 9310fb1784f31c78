-- `clash_in` meets its contract. The loop's invariant: no row passed meets one after it.
use Rattle.load_clashes.proofs.Clash.{Apart}
use Rattle.load_clashes.proofs.clash_in.Given as goal

abbrev pub invariant-loop-i : goal.invariant-loop-i
invariant-loop-i l = Apart l.lanes l.i
