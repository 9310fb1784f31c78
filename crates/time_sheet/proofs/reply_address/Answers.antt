use Rattle.std.proofs.Common.{arith}
use Rattle.rules_plan.specs.Sheet.{reply_address}
use Rattle.time_sheet.proofs.reply_address.Goals as goal

pub returns : goal.returns
unfolding reply_address
returns c = (omega arith, omega arith)
