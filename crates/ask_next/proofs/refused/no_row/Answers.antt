-- `no_row` meets its contract. Assumes nothing.
use Rattle.std.proofs.Common.{◌∙◌, sym}
use Rattle.ask_next.specs.Refused.{no_row}
use Rattle.ask_next.proofs.refused.no_row.Goals as goal

pub returns-then-is_loaded : goal.returns-then-is_loaded
unfolding no_row
returns-then-is_loaded c = λ o t. rw (sym (c.is_loaded.ensures.value o t) ∙ c.if-is_loaded.true)

pub returns-else-is_loaded : goal.returns-else-is_loaded
unfolding no_row
returns-else-is_loaded c = λ o t. rw (sym (c.is_loaded.ensures.value o t) ∙ c.if-is_loaded.false)
