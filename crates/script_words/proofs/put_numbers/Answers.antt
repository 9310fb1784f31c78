-- `put_numbers` meets its contract. Assumes nothing.
use mathlib.Core.Path.{refl, ◌∙◌}
use borrow.Author.Rules.{rules}
use Rattle.script_words.proofs.Rows.{no-numbers, no-others, next-number, every-number}
use Rattle.script_words.proofs.put_numbers.Goals as goal

pub returns-in_default : goal.returns-in_default
returns-in_default c = no-numbers c.args.out.now c.args.ns.now c.args.at c.in_default.ensures.cases

pub loop-n-init : goal.loop-n-init
loop-n-init c = (refl, no-others c.put_decimal-k.new.out c.put_decimal-k.result)

pub loop-n-preserved : goal.loop-n-preserved
loop-n-preserved c = (
  c.put_decimal-k-in-loop-n.auto.out ∙ c.put-k.auto.out ∙ c.loop-n.invariant.0,
  next-number c.in-Some.others.now c.loop-n.n-index (search rules) c.loop-n.invariant.1 c.put-k.ensures (rw c.from-in-loop-n.ensures at c.put_decimal-k-in-loop-n.ensures),
)

pub returns : goal.returns
returns c =
    every-number c.loop-n.n-index c.in-Some.ensures.cases.0 (search rules) (rw c.from.ensures at c.put_decimal-k.ensures) c.loop-n.invariant.1
