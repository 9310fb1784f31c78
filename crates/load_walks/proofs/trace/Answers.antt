-- `trace` meets its contract: the links are gathered, and the walk goes on link by link.
use Prim.Native.Nat.{◌<◌}
use native.Mathlib.Numerals.{add-one}
use lib.Bits.{or_comm}
use lib.ListN.{length}
use borrow.Author.Rules.{rules}
use Rattle.load_items.proofs.Gathers.{gathers-none, gathers-next, gathers-all}
use Rattle.load_walks.proofs.Walks.{walking, goes_first, goes_last, next-below, next-read, goes-next}
use Rattle.load_walks.proofs.trace.Goals as goal

pub loop-link-init : goal.loop-link-init
loop-link-init c = (gathers-none _, λ p w. goes_first w.from (c.bit_of-here.ensures w.from))

pub loop-link-preserved : goal.loop-link-preserved
loop-link-preserved c = (
  rw (or_comm c.loop-link.set c.bit_of-set.result) (gathers-next (search rules) c.loop-link.invariant.0 c.bit_of-set.result c.bit_of-set.ensures),
  λ p w.
      let h : c.loop-link.link-index < length c.args.links.now = search rules in
      let r = next-read h w in
      rw (add-one, or_comm c.loop-link.met _) (goes-next h w (c.loop-link.invariant.1 p w) (search rules) c.joined-here.result (c.joined-here.ensures (next-below h w) r.below.0 r.below.1)),
)

pub returns : goal.returns
returns c =
    let (over, set) = gathers-all (search rules) c.loop-link.invariant.0 in
    (over, set, λ p f h g a b. let w = walking f h g a b in goes_last (search rules) w (c.loop-link.invariant.1 p w) c.arrived.result c.arrived.ensures.0 c.arrived.ensures.1)
