-- `number` meets its contract. Assumes nothing.
use mathlib.Core.Path.{sym, ap, ◌∙◌}
use native.Mathlib.Omega.{arith}
use borrow.Author.Rules.{rules}
use borrow.Author.Tests.{eqb-true}
use Rattle.lists.specs.Options.{as_option}
use Rattle.script_words.proofs.Digits.{told-digit, digits-next, empty-word, no_digit, too-great, all_digits}
use Rattle.script_words.proofs.number.Goals as goal

pub returns-then-is_empty : goal.returns-then-is_empty
returns-then-is_empty c =
    sym (ap as_option (empty-word c.args.most c.args.word.now (eqb-true _ _ (sym c.is_empty.ensures ∙ c.if-is_empty.true))))

pub returns-then-not-is_ascii_digit : goal.returns-then-not-is_ascii_digit
returns-then-not-is_ascii_digit c =
    sym (ap as_option (no_digit c.args.most c.loop-digit.invariant.2 (search rules) (told-digit _ c.is_ascii_digit.ensures.value c.if-not-is_ascii_digit.true)))

pub returns-then-n-from : goal.returns-then-n-from
returns-then-n-from c =
    let f = digits-next c.loop-digit.invariant.2 (search rules) (told-digit _ c.is_ascii_digit.ensures.value c.if-not-is_ascii_digit.false) in
    sym (ap as_option (too-great c.args.most f (omega arith)))

pub loop-digit-preserved : goal.loop-digit-preserved
loop-digit-preserved c = (
  c.loop-digit.invariant.0,
  omega arith,
  rw c.from.ensures (digits-next c.loop-digit.invariant.2 (search rules) (told-digit _ c.is_ascii_digit.ensures.value c.if-not-is_ascii_digit.false)),
)

pub returns : goal.returns
returns c = sym (ap as_option (all_digits c.args.most c.loop-digit.invariant.2 c.loop-digit.invariant.0 (search rules) c.loop-digit.invariant.1))
