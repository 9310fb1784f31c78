-- A rate with its four latencies, of no plan: there is no slot length.
use Rattle.std.specs.Prelude.{ℕ, cond, Option, Some, None}
use Rattle.rules_plan.specs.Plan.{Times}
use Rattle.rules_plan.specs.Sheet.{times_out_of_range}
use Rattle.time_sheet.specs.declared.Latencies.{Latencies}

abbrev pub paced : (rate a d f g : ℕ) → Times
paced rate a d f g = record { rate = rate; a = a; d = d; f = f; g = g; slot = 0 }

-- the same of the latencies that the code is given
abbrev pub timed : ℕ → Latencies → Times
timed rate given = paced rate given.a given.d given.f given.g

-- times where they are in range, else none
abbrev pub in_range : Times → Option Times
in_range x = cond (times_out_of_range x) None (Some x)
