-- `path_of` meets its contract: what stands one before the place that is found is the path, or there is none. Assumes nothing.
use native.Mathlib.Omega.{arith}
use borrow.Author.Rules.{rules}
use Rattle.load_path_places.specs.laws.PathOf.{not-at-0, other-start, other-end, at-place}
use Rattle.load_path_places.proofs.path_of.Goals as goal
use Rattle.load_path_places.proofs.path_of.Goals.{then-paths-k-via-then-paths-k, then-paths-k-via-else-paths-k+then-paths-k-2}

pub returns-then-past-eq0 : goal.returns-then-past-eq0
returns-then-past-eq0 c = (search rules, λ p f e n. not-at-0 p f e n c.place_of-past.ensures c.if-past-eq0.true)

pub returns-then-paths-k : goal.returns-then-paths-k
returns-then-paths-k c = (
  search rules,
  λ p f e n. elim c.then-paths-k.branch [
    | then-paths-k-via-then-paths-k w ↦ other-start p f e n c.place_of-past.ensures w.if-paths-k.true
    | then-paths-k-via-else-paths-k+then-paths-k-2 w ↦ other-end p f e n c.place_of-past.ensures w.if-paths-k-2.true
  ],
)

pub returns : goal.returns
returns c = (
  omega (arith, c.place_of-past.ensures.0, c.if-past-eq0.false),
  λ p f e n. at-place p f e n c.place_of-past.ensures (omega (arith, c.if-past-eq0.false)) c.if-paths-k.false c.if-paths-k-2.false,
)
