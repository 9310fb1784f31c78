-- `put_entries` meets its contract. Assumes nothing.
use Prim.Native.Nat.{ℕ, ◌*◌, ◌/◌}
use borrow.Author.Rules.{rules}
use Rattle.lists.specs.laws.Puts.{turns-begin, turns_next}
use Rattle.out_rows.specs.Out.{eight_bytes}
use Rattle.out_rows.proofs.Eights.{eights-done}
use Rattle.out_rows.proofs.put_entries.Goals as goal

pub loop-eight-init : goal.loop-eight-init
loop-eight-init c =
    let a = c.args in
    turns-begin (λ (r : ℕ). eight_bytes a.rows.now a.spans.now a.aims.now (8 * r)) (a.cells / 8) a.out.now a.at

pub loop-eight-preserved : goal.loop-eight-preserved
loop-eight-preserved c = turns_next c.loop-eight.invariant (search rules) c.put_eight-k.auto.out c.put_eight-k.ensures

pub returns : goal.returns
returns c = let a = c.args in eights-done a.rows.now a.spans.now a.aims.now a.cells c.requires.1 c.loop-eight.invariant (search rules)
