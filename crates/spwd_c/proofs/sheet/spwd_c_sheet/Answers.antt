-- `spwd_c::sheet::spwd_c_sheet` meets its contract. Assumes nothing.
use mathlib.Core.Path.{ap, ◌∙◌}
use Rattle.rules_plan.specs.Sheet.{sheet_numbers}
use Rattle.spwd_c.proofs.sheet.spwd_c_sheet.Goals as goal

pub returns : goal.returns
returns c = record { numbers = c.sheet_numbers.ensures ∙ ap sheet_numbers c.sheet.ensures }
