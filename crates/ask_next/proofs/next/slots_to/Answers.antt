-- `slots_to` meets its contract. Assumes nothing.
use mathlib.Core.Path.{sym, ◌∙◌}
use Prim.Native.Nat.{◌/◌, ◌^◌}
use native.Mathlib.Omega.{arith}
use borrow.Author.Tests.{eqb-true, eqb-false}
use Rattle.bitsets.specs.Laws.{least-le}
use Rattle.ask_next.proofs.next.Laws.{first-behind, first_round}
use borrow.Author.Rules.{rules}
use Rattle.ask_next.proofs.next.slots_to.Goals as goal

pub overflow_cast-result : goal.overflow_cast-result
overflow_cast-result c = omega (arith, c.least.ensures, least-le c.args.set)

pub overflow_add-result : goal.overflow_add-result
overflow_add-result c = omega (arith, c.least.ensures, least-le c.args.set)

pub returns-then-is_empty : goal.returns-then-is_empty
returns-then-is_empty c =
    let a = c.args in
    first_round a.set a.slot (search rules) c.requires.0 c.requires.1 (eqb-true _ 0 (sym c.is_empty.ensures ∙ c.if-is_empty.true)) _ (omega (arith, c.least.ensures))

pub overflow_cast-result-2 : goal.overflow_cast-result-2
overflow_cast-result-2 c = let a = c.args in omega (arith, c.least-2.ensures, least-le (a.set / 2 ^ a.slot / 2 ^ 1))

pub overflow_add-result-2 : goal.overflow_add-result-2
overflow_add-result-2 c = let a = c.args in omega (arith, c.least-2.ensures, least-le (a.set / 2 ^ a.slot / 2 ^ 1))

pub returns : goal.returns
returns c =
    let a = c.args in
    first-behind a.set a.slot (search rules) c.requires.0 c.requires.1 (eqb-false _ 0 (sym c.is_empty.ensures ∙ c.if-is_empty.false)) _ (omega (arith, c.least-2.ensures))
