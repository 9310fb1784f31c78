-- `script::command::with_bytes` meets its contract. Assumes nothing.
use mathlib.Core.Path.{sym, ◌∙◌}
use Prim.Native.Nat.{◌+◌}
use borrow.Author.Rules.{rules}
use Rattle.lists.specs.laws.Parts.{from-to-end}
use Rattle.script_commands.proofs.command.Made.{bytes-missing, bytes-and-more, no_bytes, some_bytes}
use Rattle.script_commands.proofs.command.with_bytes.Goals as goal
use Rattle.script_commands.proofs.command.with_bytes.Goals.{then-word_length-word-via-then-word_length-word, then-word_length-word-via-else-word_length-word+then-not-is_bytes}

pub returns-then-end-line : goal.returns-then-end-line
returns-then-end-line c = let a = c.args in bytes-missing a.command a.line.now a.end c.if-end-line.true

pub returns-then-word_length-word : goal.returns-then-word_length-word
returns-then-word_length-word c =
    let a = c.args in
    let size = c.word_length.ensures in
    elim c.then-word_length-word.branch [
      | then-word_length-word-via-then-word_length-word w ↦ bytes-and-more a.command a.line.now _ a.end _ (search rules) (from-to-end (a.end + 1) a.line.now) size w.if-word_length-word.true
      | then-word_length-word-via-else-word_length-word+then-not-is_bytes w ↦
          no_bytes a.command a.line.now _ a.end _ (search rules) (from-to-end (a.end + 1) a.line.now) size w.if-word_length-word.false (sym w.is_bytes.ensures ∙ w.if-not-is_bytes.true)
    ]

pub returns : goal.returns
returns c =
    let a = c.args in
    some_bytes a.command a.line.now _ a.end _ (search rules) (from-to-end (a.end + 1) a.line.now) c.word_length.ensures c.if-word_length-word.false
    (sym c.is_bytes.ensures ∙ c.if-not-is_bytes.false)
