-- `links_to` meets its contract. The loop's invariant: the links are those of the paths passed.
use Rattle.lists.specs.Numbers.{any_below}
use Rattle.lists.specs.laws.Sweep.{any-more}
use Rattle.bitsets.specs.Set.{member}
use Rattle.bitsets.specs.Laws.{member-empty}
use Rattle.load_slot_links.specs.Lanes.{leads_over}
use Rattle.load_slot_links.proofs.links_to.Goals as goal

pub loop-k-init : goal.loop-k-init
unfolding any_below
loop-k-init c = member-empty

pub loop-k-preserved : goal.loop-k-preserved
loop-k-preserved c l =
    let a = c.args in
    any-more c.loop-k.k (leads_over a.paths.now a.initiator a.targets l) (member l c.loop-k.links) (member l c.with_path-links.result) (c.loop-k.invariant l) (c.with_path-links.ensures l)
