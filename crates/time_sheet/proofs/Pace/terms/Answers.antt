-- `terms` meets its contract. Assumes nothing.
use Rattle.rules_plan.specs.Sheet.{sheet}
use Rattle.time_sheet.proofs.Pace.terms.Goals as goal

pub returns : goal.returns
unfolding sheet
returns c =
    rw (
      c.crossing_time-b.ensures.0,
      c.header_time-c.ensures.0,
      c.data_time-e.ensures.0,
      c.crossing_time-h.ensures.0,
      c.reply_time-i.ensures.0,
      ← c.self.view_is,
    )
