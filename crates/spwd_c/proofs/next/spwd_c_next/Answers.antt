-- `spwd_c::next::spwd_c_next` meets its contract. Assumes nothing.
use Rattle.rules_plan.specs.Next.{next_told}
use Rattle.spwd_c.proofs.next.spwd_c_next.Goals as goal

pub returns : goal.returns
returns c = record { answer = next_told c.next.result; listed-as = c.next_numbers.ensures; tells = c.next.ensures }
