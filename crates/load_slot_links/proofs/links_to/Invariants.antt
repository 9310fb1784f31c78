-- `links_to` meets its contract. The loop's invariant: the links are those of the paths passed.
use mathlib.Core.Path.{◌≡◌}
use Prim.Native.Nat.{ℕ}
use Rattle.lists.specs.Numbers.{any_below}
use Rattle.bitsets.specs.Set.{member}
use Rattle.load_slot_links.specs.Lanes.{leads_over}
use Rattle.load_slot_links.proofs.links_to.Given as goal

abbrev pub invariant-loop-k : goal.invariant-loop-k
invariant-loop-k l = (j : ℕ) → member j l.links ≡ any_below l.k (leads_over l.paths l.initiator l.targets j)
