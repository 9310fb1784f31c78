-- `with_path` meets its contract. Assumes nothing.
use mathlib.Core.Path.{sym, ap, ap₂, ◌∙◌}
use mathlib.Core.Bool.{◌||◌}
use Rattle.bitsets.specs.Set.{member}
use Rattle.load_slot_links.specs.laws.Paths.{not-from, not-to, from-to}
use Rattle.load_slot_links.proofs.with_path.Goals as goal
use Rattle.load_slot_links.proofs.with_path.Goals.{then-paths-k-via-then-paths-k, then-paths-k-via-else-paths-k+then-not-has}

pub returns-then-paths-k : goal.returns-then-paths-k
returns-then-paths-k c l =
    let s = c.args in
    elim c.then-paths-k.branch [
      | then-paths-k-via-then-paths-k w ↦ not-from s.paths.now s.initiator s.targets s.k (member l s.links) l w.if-paths-k.true
      | then-paths-k-via-else-paths-k+then-not-has w ↦ not-to s.paths.now s.initiator s.targets s.k (member l s.links) l (sym w.has.ensures ∙ w.if-not-has.true)
    ]

pub returns : goal.returns
returns c l =
    let s = c.args in
    let b = member l s.links in
    let ways = c.union-ways.ensures l ∙ ap₂ (λ x y. x || y) (c.path_links.ensures l) (c.path_links-2.ensures l) in
    c.union.ensures l ∙ ap (λ d. b || d) ways
    ∙ from-to s.paths.now s.initiator s.targets s.k b l c.if-paths-k.false (sym c.has.ensures ∙ c.if-not-has.false)
