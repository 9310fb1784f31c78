-- `is_late` meets its contract. Assumes nothing.
use Rattle.std.proofs.Common.{ap, not, ◌∙◌}
use Rattle.run_turns.proofs.Words.{late-within, late-without}
use Rattle.run_turns.proofs.is_late.Goals as goal

pub returns-then-not-in_sequence-clause-value : goal.returns-then-not-in_sequence-clause-value
returns-then-not-in_sequence-clause-value c =
    let a = c.args in
    λ l f is. ap not c.if-not-in_sequence.true ∙ late-without l f a.in_sequence a.time is c.if-not-in_sequence.true

pub returns-else-not-in_sequence-clause-value : goal.returns-else-not-in_sequence-clause-value
returns-else-not-in_sequence-clause-value c = let a = c.args in λ l f is. late-within l f a.in_sequence a.time is c.if-not-in_sequence.false
