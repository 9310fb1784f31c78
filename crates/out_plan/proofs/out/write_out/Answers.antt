-- `write_out` meets its contract: memory with an interval of 0 holds no plan, and of a plan the seven kinds of fields are put one behind
-- the other. Assumes nothing.
use mathlib.Core.Path.{◌∙◌}
use Rattle.out_plan.specs.laws.Parts.{out-puts}
use Rattle.out_plan.specs.laws.Written.{refuses-20, refuses-30, writes}
use Rattle.out_plan.proofs.out.write_out.Goals as goal

pub returns-then-not-is_loaded : goal.returns-then-not-is_loaded
returns-then-not-is_loaded c o reach =
    let a = c.args in
    refuses-20 a.sets.now a.ends.now a.rows.now reach a.paths.now a.spans.now a.aims.now a.numbers.now a.out.now (c.is_loaded.ensures.numbers_value.0 (c.if-not-is_loaded.true)) o

pub returns-then-out-size : goal.returns-then-out-size
returns-then-out-size c o reach =
    let a = c.args in
    refuses-30 a.sets.now a.ends.now a.rows.now reach a.paths.now a.spans.now a.aims.now a.numbers.now a.out.now (c.is_loaded.ensures.numbers_value.1 (c.if-not-is_loaded.false)) c.if-out-size.true o

pub shape_of-out : goal.shape_of-out
shape_of-out c =
    c.put_paths.auto.out ∙ c.put_times-times.auto.out ∙ c.put_timing-timing.auto.out ∙ c.put_entries-entries.auto.out ∙ c.put_paths-routes.auto.out ∙ c.put_links-links.auto.out ∙ c.put_devices-devices.auto.out

pub returns : goal.returns
returns c o reach =
    let a = c.args in
    writes a.sets.now a.ends.now a.rows.now reach a.paths.now a.spans.now a.aims.now a.numbers.now a.out.now (c.is_loaded.ensures.numbers_value.1 (c.if-not-is_loaded.false)) c.if-out-size.false
    (out-puts a.sets.now a.ends.now a.rows.now a.paths.now a.spans.now a.aims.now a.numbers.now
    c.put_devices-devices.ensures c.put_links-links.ensures c.at_most-count.ensures c.put_paths-routes.ensures c.at_most.ensures c.put_entries-entries.ensures c.put_timing-timing.ensures c.put_times-times.ensures c.put_paths.ensures) o
