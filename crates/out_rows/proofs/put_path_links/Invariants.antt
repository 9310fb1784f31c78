-- `writing_rows::put_path_links` meets its contract. The loop's invariant: the first i links are put. Assumes nothing.
use Prim.Native.Nat.{◌+◌, ◌≤◌}
use Rattle.lists.specs.Stores.{Put}
use Rattle.out_rows.specs.Out.{links_from}
use Rattle.out_rows.proofs.put_path_links.Given as goal

abbrev pub invariant-loop-i : goal.invariant-loop-i
invariant-loop-i l = (l.i ≤ l.count) × Put l.initial.out l.at (links_from l.paths l.start l.i) l.out (l.at + l.i)
