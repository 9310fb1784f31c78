-- `links_in` meets its contract. Assumes nothing.
use mathlib.Core.Path.{refl, sym, ◌∙◌}
use native.Mathlib.Omega.{arith}
use borrow.Author.Rules.{rules}
use Rattle.lists.specs.laws.Below.{below-some, below-none}
use Rattle.load_slot_links.specs.laws.Lanes.{lane-found, lane-nothing}
use Rattle.load_slot_links.proofs.links_in.Goals as goal

pub returns-in_default : goal.returns-in_default
returns-in_default c p s =
    lane-nothing s c.args.row c.args.slot _ refl c.requires.0 c.requires.1 (below-none 512 _ (sym c.in_default.is ∙ c.covering.ensures))

pub returns : goal.returns
returns c p s =
    let (place, low) = below-some 512 _ c.in-Some.at (sym c.in-Some.is ∙ c.covering.ensures) in
    lane-found s c.args.row c.args.slot c.in-Some.at place c.requires.0 c.requires.1 c.links_to.result (search rules) (omega (arith, place, low)) c.links_to.ensures
