-- `writing_rows::no_span` meets its contract. The loop's invariant: the word joins the first j of the eight bytes. Assumes nothing.
use Rattle.out_rows.proofs.Eights.{Joined}
use Rattle.out_rows.proofs.no_span.Given as goal

abbrev pub invariant-loop-j : goal.invariant-loop-j
invariant-loop-j l = Joined l.spans l.n l.word l.j
