-- `put_paths` meets its contract. Assumes nothing.
use Rattle.out_rows.specs.Out.{row_bytes}
use borrow.Author.Rules.{rules}
use Rattle.lists.specs.laws.Puts.{turns-begin, turns_next, turns-done}
use Rattle.out_rows.proofs.put_paths.Goals as goal

pub loop-n-init : goal.loop-n-init
loop-n-init c = let a = c.args in turns-begin (row_bytes a.tag a.paths.now a.first) a.rows a.out.now a.at

pub loop-n-preserved : goal.loop-n-preserved
unfolding row_bytes
loop-n-preserved c =
    turns_next c.loop-n.invariant (search rules) c.put_path-k.auto.out c.put_path-k.ensures

pub returns : goal.returns
returns c = turns-done c.loop-n.invariant (search rules)
