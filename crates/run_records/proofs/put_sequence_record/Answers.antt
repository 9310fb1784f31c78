-- `put_sequence_record` meets its contract. Assumes nothing.
use Rattle.std.proofs.Common.{refl, arith}
use Rattle.lists.specs.laws.Bools.{not-both}
use Rattle.run_records.proofs.Laws.{plain-next, sequence-in, sequence-out}
use Rattle.run_records.proofs.put_sequence_record.Goals as goal

pub returns-then-in_sequence : goal.returns-then-in_sequence
returns-then-in_sequence c =
    let a = c.args in
    (rw c.if-in_sequence.true (sequence-in a.out.now a.at a.clock a.v), λ _. omega arith, λ _. refl)

pub returns : goal.returns
returns c =
    let a = c.args in
    let p = c.put_plain.ensures in
    (rw c.if-in_sequence.false (sequence-out a.clock a.v p), plain-next a.clock 3 a.v p, λ t. not-both t c.if-in_sequence.false)
