-- `script::command::reading` meets its contract. Assumes nothing.
use borrow.Author.Rules.{rules}
use Rattle.std.specs.Prelude.{◌≡◌, Some, None}
use Rattle.script_commands.specs.Kind as kind
use Rattle.script_commands.specs.Script.{mosts, made}
use Rattle.script_commands.proofs.command.Made.{no_numbers, all_numbers}
use Rattle.script_commands.proofs.command.reading.Goals as goal

pub returns-in_err-clock : goal.returns-in_err-clock
unfolding mosts
returns-in_err-clock c =
    let none : c.numbers_behind.result ≡ None = search rules in
    let e : c.from_residual.result ≡ None = search rules in
    rw e (no_numbers kind.Reading _ c.numbers_behind.ensures none)

pub returns : goal.returns
unfolding mosts made
returns c =
    let e : c.numbers_behind.result ≡ Some c.in_ok-clock.field-0 = search rules in
    all_numbers kind.Reading _ c.numbers_behind.ensures _ e
