-- `writing_rows::put_paths` meets its contract. The loop's invariant: the fields of the first n rows are put. Assumes nothing.
use Rattle.out_rows.specs.Out.{row_bytes}
use Rattle.lists.specs.laws.Puts.{Turns}
use Rattle.out_rows.proofs.put_paths.Given as goal

abbrev pub invariant-loop-n : goal.invariant-loop-n
invariant-loop-n l = Turns (row_bytes l.tag l.paths l.first) l.rows l.initial.out l.at l.out l.k l.n
