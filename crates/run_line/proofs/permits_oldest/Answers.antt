-- `permits_oldest` meets its contract: the oldest is what is found, or it is passed. Assumes nothing.
use Rattle.std.proofs.Common.{refl, arith}
use Rattle.lists.specs.laws.Bools.{not-both}
use Rattle.run_line.proofs.Finds.{oldest-none, oldest-told}
use Rattle.run_line.proofs.permits_oldest.Goals as goal

pub returns-then-row-eq0 : goal.returns-then-row-eq0
returns-then-row-eq0 c =
    let a = c.args in
    record {
      nonzero = λ h. not-both h refl;
      value = oldest-none a.row.now a.targets a.span (omega arith);
    }

pub returns : goal.returns
returns c =
    let a = c.args in
    record {
      nonzero = λ h. omega arith;
      value = oldest-told a.row.now a.targets a.span c.permits_word.result c.permits_word.ensures (omega arith);
    }
