-- `slot_links::path_links` meets its contract. Assumes nothing.
use mathlib.Core.Path.{ap, ◌∙◌}
use Rattle.bitsets.specs.Set.{listed}
use Rattle.load_slot_links.specs.laws.Paths.{links-part}
use Rattle.load_slot_links.proofs.path_links.Goals as goal

pub returns : goal.returns
returns c l =
    let s = c.args in
    c.set_of.ensures l ∙ ap (λ xs. listed xs l) (links-part s.paths.now s.k c.at_most.result c.at_most.ensures)
