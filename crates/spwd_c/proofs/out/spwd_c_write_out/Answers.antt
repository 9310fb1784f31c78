-- `spwd_c::out::spwd_c_write_out` meets its contract. Assumes nothing.
use Rattle.rules_plan.specs.Copy.{copied_told}
use Rattle.spwd_c.proofs.out.spwd_c_write_out.Goals as goal

pub returns : goal.returns
returns c =
    let w = c.write_out-copied in
    record { answer = copied_told w.result; listed-as = c.sized_numbers.ensures; does = w.ensures }
