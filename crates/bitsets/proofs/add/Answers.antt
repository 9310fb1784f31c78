-- `sets::add` meets its contract: the members of `|` are those of either number.
-- Assumes nothing.
use mathlib.Core.Path.{ap, ◌∙◌}
use mathlib.Core.Bool.{Bool, ◌||◌}
use Rattle.bitsets.specs.Set.{member}
use Rattle.bitsets.specs.Laws.{member-or}
use Rattle.bitsets.proofs.add.Goals as goal

pub returns : goal.returns
returns c =
    let s = c.args.s in
    λ k. member-or k c.single.result s ∙ ap (λ (b : Bool). b || member k s) (c.single.ensures k)
