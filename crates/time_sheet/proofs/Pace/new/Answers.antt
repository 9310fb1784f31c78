use Rattle.std.proofs.Common.{arith}
use Rattle.time_sheet.proofs.Laws.{out-of-range, within}
use Rattle.time_sheet.proofs.Pace.new.Goals as goal

pub returns-then-rate-lt2 : goal.returns-then-rate-lt2
returns-then-rate-lt2 c = out-of-range _ (λ r. omega arith)

pub returns : goal.returns
returns c = within _ (record { some-rate = omega arith; rate = omega arith; a = omega arith; d = omega arith; f = omega arith; g = omega arith; slot = omega arith })
