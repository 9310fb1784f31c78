-- `script::command::reply` meets its contract. Assumes nothing.
use native.Mathlib.Omega.{arith}
use borrow.Author.Rules.{rules}
use Rattle.std.specs.Prelude.{◌≡◌, Some, None}
use Rattle.script_commands.specs.Kind as kind
use Rattle.script_commands.specs.Script.{mosts, made}
use Rattle.script_commands.proofs.command.Made.{no_numbers, in_bound, all_numbers}
use Rattle.script_commands.proofs.command.reply.Goals as goal

pub returns-in_err-initiator : goal.returns-in_err-initiator
unfolding mosts
returns-in_err-initiator c =
    let none : c.numbers_behind.result ≡ None = search rules in
    let e : c.from_residual.result ≡ None = search rules in
    rw e (no_numbers kind.Reply _ c.numbers_behind.ensures none)

pub overflow_cast-result : goal.overflow_cast-result
unfolding mosts
overflow_cast-result c =
    let e : c.numbers_behind.result ≡ Some c.in_ok-initiator.field-0 = search rules in
    omega (arith, in_bound kind.Reply _ c.numbers_behind.ensures _ e 0 (omega arith))

pub overflow_cast-result-2 : goal.overflow_cast-result-2
unfolding mosts
overflow_cast-result-2 c =
    let e : c.numbers_behind.result ≡ Some c.in_ok-initiator.field-0 = search rules in
    omega (arith, in_bound kind.Reply _ c.numbers_behind.ensures _ e 1 (omega arith))

pub overflow_cast-result-3 : goal.overflow_cast-result-3
unfolding mosts
overflow_cast-result-3 c =
    let e : c.numbers_behind.result ≡ Some c.in_ok-initiator.field-0 = search rules in
    omega (arith, in_bound kind.Reply _ c.numbers_behind.ensures _ e 2 (omega arith))

pub returns : goal.returns
unfolding mosts made
returns c =
    let e : c.numbers_behind.result ≡ Some c.in_ok-initiator.field-0 = search rules in
    all_numbers kind.Reply _ c.numbers_behind.ensures _ e
