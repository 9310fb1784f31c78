-- `reading` meets its contract. Assumes nothing.
use mathlib.Core.Path.{sym, ◌∙◌}
use Rattle.run_events.proofs.reading.Readings.{no-plan, told-late}
use Rattle.run_events.proofs.reading.reading.Goals as goal

pub returns-then-not-is_loaded : goal.returns-then-not-is_loaded
returns-then-not-is_loaded c =
    let a = c.args in
    λ b t room. no-plan room b a.w.now a.clock (sym (c.is_loaded.ensures.value b.plan t) ∙ c.if-not-is_loaded.true)

pub returns-then-late : goal.returns-then-late
returns-then-late c =
    let a = c.args in
    λ b t room.
    told-late room b a.w.now a.clock (sym (c.is_loaded.ensures.value b.plan t) ∙ c.if-not-is_loaded.false)
    c.is_overdue-late.result c.is_overdue-late.ensures c.told_of.result (rw c.if-late.true c.told_of.ensures)

pub returns-else-late : goal.returns-else-late
returns-else-late c =
    let a = c.args in
    λ b t room.
    told-late room b a.w.now a.clock (sym (c.is_loaded.ensures.value b.plan t) ∙ c.if-not-is_loaded.false)
    c.is_overdue-late.result c.is_overdue-late.ensures a.w.now (rw c.if-late.false)
