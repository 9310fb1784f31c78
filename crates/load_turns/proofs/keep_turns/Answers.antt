-- `keep_turns` meets its contract. Assumes nothing.
use mathlib.Core.Path.{◌∙◌}
use Rattle.load_turns.specs.laws.Marks.{marked-both}
use Rattle.load_turns.proofs.keep_turns.Goals as goal

pub returns : goal.returns
returns c =
    let t = c.mark_targets in
    let a = c.args in
    λ e.
    let m = t.ensures e in
    marked-both a.slot a.aims.now _ _ m (c.mark_span.ensures (m.as_many ∙ e))
