-- A visit, by the entry that stands at the slot, if one does.
use Rattle.std.specs.Prelude.{List, ◌++◌, ℕ}
use Rattle.std.proofs.Math.Option.{Option}
use Rattle.rules_plan.specs.Plan.{Plan, Entry}
use Rattle.rules_box.specs.State.{Side}
use Rattle.rules_box.specs.Turn.{starting, begun}
use Rattle.rules_box.specs.Records.{Record, start_record, still_record}

-- what it makes of a side, and the records that it gives
abbrev pub side_then : Plan → Option Entry → Side → Side
side_then p o s = begun s (starting p o s)

abbrev pub records_then : Plan → Option Entry → ℕ → ℕ → Side → List Record
records_then p o i v s = start_record i v (starting p o s) ++ still_record o i v s.live
