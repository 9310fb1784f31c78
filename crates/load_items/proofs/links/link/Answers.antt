-- `links::link` meets its contract: a law for each way that the code goes. Assumes nothing.
use mathlib.Core.Path.{sym, ◌∙◌}
use mathlib.Core.Logic.{inl, inr}
use borrow.Author.Rules.{rules}
use Rattle.load_items.proofs.links.Ranges.{link-out, link_fits}
use Rattle.load_items.proofs.links.Links.{link-refused, link-again, link-to-none, link-taken}
use Rattle.load_items.proofs.links.link.Goals as goal
use Rattle.load_items.proofs.links.link.Goals.{then-not-has-via-then-not-has, then-not-has-via-else-not-has+then-not-has-2}

pub returns-then-num-gt63 : goal.returns-then-num-gt63
returns-then-num-gt63 c = let a = c.args in link-refused a.sets.now a.ends.now _ (link-out a.num a.one a.other c.then-num-gt63.either)

pub returns-then-has : goal.returns-then-has
returns-then-has c =
    let a = c.args in
    link-again a.sets.now a.ends.now _ (link_fits a.num a.one a.other c.if-num-gt63.false c.if-one-gt63.false c.if-other-gt63.false c.if-one-other.false)
    (sym c.has.ensures ∙ c.if-has.true)

pub returns-then-not-has : goal.returns-then-not-has
returns-then-not-has c =
    let a = c.args in
    link-to-none a.sets.now a.ends.now _ (link_fits a.num a.one a.other c.if-num-gt63.false c.if-one-gt63.false c.if-other-gt63.false c.if-one-other.false)
    (sym c.has.ensures ∙ c.if-has.false) c.union-devices.result c.union-devices.ensures
    (elim c.then-not-has.branch [
      | then-not-has-via-then-not-has w ↦ inl (sym c.has-2.ensures ∙ w.if-not-has.true)
      | then-not-has-via-else-not-has+then-not-has-2 w ↦ inr (sym w.has-else-not-has.ensures ∙ w.if-not-has-2.true)
    ])

pub returns : goal.returns
returns c =
    let a = c.args in
    link-taken a.sets.now a.ends.now _ (link_fits a.num a.one a.other c.if-num-gt63.false c.if-one-gt63.false c.if-other-gt63.false c.if-one-other.false)
    (sym c.has.ensures ∙ c.if-has.false) c.union-devices.result c.union-devices.ensures
    (sym c.has-2.ensures ∙ c.if-not-has.false) (sym c.has-else-not-has.ensures ∙ c.if-not-has-2.false)
    c.add.result (search rules) c.add.ensures _ _ c.min.ensures c.max.ensures
