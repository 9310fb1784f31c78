-- `c_numbers::verdict::verdict_of` meets its contract: each arm is a case of the definition. Assumes nothing.
use native.Mathlib.Omega.{arith}
use Rattle.c_numbers.specs.laws.Verdicts.{accepted, overran, clashed, faulty}
use Rattle.c_numbers.proofs.verdict.verdict_of.Goals as goal

pub returns-in-0 : goal.returns-in-0
returns-in-0 c =
    accepted c.args.numbers.now (omega arith) c.one_byte.ensures c.one_byte-in-0.ensures c.one_byte-in-0-2.ensures c.two_bytes.ensures

pub returns-in-13 : goal.returns-in-13
returns-in-13 c = overran c.args.numbers.now (omega arith) c.one_byte-in-13.ensures c.one_byte-in-13-2.ensures

pub returns-in-14 : goal.returns-in-14
returns-in-14 c =
    clashed c.args.numbers.now (omega arith) c.one_byte-in-14.ensures c.one_byte-in-14-2.ensures c.one_byte-in-14-3.ensures c.one_byte-in-14-4.ensures

pub returns-in_default : goal.returns-in_default
returns-in_default c = faulty c.args.numbers.now (λ e. omega arith) (λ e. omega arith) (λ e. omega arith) c.one_byte-in_default.ensures c.two_bytes-in_default.ensures
