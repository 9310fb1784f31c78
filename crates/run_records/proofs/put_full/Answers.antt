-- `put_full` meets its contract: the word has the record's bytes, and the kind and value that are added fill the rest. Assumes nothing.
use Rattle.std.proofs.Common.{arith, rules}
use Rattle.run_records.specs.Bytes.{bytes_of, filled}
use Rattle.run_records.proofs.Laws.{full-puts}
use Rattle.run_records.proofs.put_full.Goals as goal

pub overflow_sub-bare-2 : goal.overflow_sub-bare-2
overflow_sub-bare-2 c = omega arith

pub returns : goal.returns
unfolding bytes_of filled
returns c =
    let a = c.args in
    let w = c.wrapping_add_u64 in
    let p = c.put_eight.ensures in
    (λ o x i< f is. full-puts a.clock a.kind o a.v a.word w.result x i< f is (search rules) (search rules) w.ensures.value p, p.next, rw w.ensures.value at p)
