-- `permits_word` meets its contract: target and least span come apart from the word. Assumes nothing.
use Rattle.std.proofs.Common.{◌∙◌}
use Rattle.run_line.proofs.Words.{allows-word}
use Rattle.run_line.proofs.permits_word.Goals as goal

pub returns : goal.returns
returns c n e r t f is =
    let l = c.need_in in
    let w = c.target_in in
    let a = c.args in
    c.permits.ensures ∙ allows-word n e r a.targets a.span t f a.word w.result l.result is w.ensures l.ensures
