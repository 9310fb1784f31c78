-- `put_path_links` meets its contract. Assumes nothing.
use mathlib.Core.Path.{refl}
use native.Mathlib.Omega.{arith}
use borrow.Author.Rules.{rules}
use Rattle.lists.specs.Search.{up_from}
use Rattle.out_rows.specs.Out.{links_from}
use Rattle.out_rows.proofs.Parts.{links-more, links-all}
use Rattle.out_rows.proofs.put_path_links.Goals as goal

pub loop-i-init : goal.loop-i-init
unfolding links_from up_from
loop-i-init c = (omega arith, record { next = refl; holds = refl })

pub returns-then-count-i : goal.returns-then-count-i
returns-then-count-i c =
    let a = c.args in
    links-all a.paths.now a.start c.loop-i.i c.loop-i.invariant.1 a.count (omega arith)

pub loop-i-preserved : goal.loop-i-preserved
loop-i-preserved c =
    let a = c.args in
    (search rules, links-more a.paths.now a.start c.loop-i.i c.loop-i.invariant.1)

pub returns : goal.returns
returns c =
    let a = c.args in
    links-all a.paths.now a.start c.loop-i.i c.loop-i.invariant.1 a.count (omega arith)
