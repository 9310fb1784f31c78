-- `numbers` meets its contract. Assumes nothing.
use Prim.Native.Nat.{◌+◌}
use borrow.Author.Rules.{rules}
use Rattle.lists.specs.laws.Parts.{from-to-end}
use Rattle.script_words.proofs.Several.{read-begin, word-missing, number-missing, read_next, read-end}
use Rattle.script_words.proofs.numbers.Goals as goal

pub loop-i-init : goal.loop-i-init
loop-i-init c = let a = c.args in read-begin a.mosts.now a.line.now a.out.now a.end (search rules) (search rules)

pub returns-then-at-line : goal.returns-then-at-line
returns-then-at-line c = word-missing c.loop-i.invariant (search rules) c.if-at-line.true

pub returns-in_default : goal.returns-in_default
returns-in_default c =
    number-missing c.loop-i.invariant (search rules) (search rules) _ (from-to-end (c.loop-i.at + 1) c.args.line.now) c.word_length-size.result c.word_length-size.ensures
    c.in_default.ensures

pub loop-i-preserved : goal.loop-i-preserved
loop-i-preserved c =
    read_next c.loop-i.invariant (search rules) (search rules) _ (from-to-end (c.loop-i.at + 1) c.args.line.now) c.word_length-size.result c.word_length-size.ensures
    c.in-Some.n c.in-Some.ensures

pub returns : goal.returns
returns c = read-end c.loop-i.invariant (search rules)
