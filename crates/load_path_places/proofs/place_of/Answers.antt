-- `path_places::place_of` meets its contract: the place is between low and high.
use mathlib.Core.Path.{sym, ◌∙◌}
use native.Mathlib.Omega.{arith}
use Rattle.load_path_places.specs.laws.PathPlace.{place-upto, place-past}
use Rattle.load_path_places.proofs.place_of.Goals as goal

pub loop-low-preserved-then-stands_before : goal.loop-low-preserved-then-stands_before
loop-low-preserved-then-stands_before c =
    (omega arith, omega arith, λ m p. ((c.loop-low.invariant.2 m p).0, place-upto p _ (sym c.stands_before-in-loop-low.ensures ∙ c.if-stands_before.true)))

pub loop-low-preserved : goal.loop-low-preserved
loop-low-preserved c =
    (omega arith, c.loop-low.invariant.1, λ m p. (omega (arith, place-past p _ (omega arith) (sym c.stands_before-in-loop-low.ensures ∙ c.if-stands_before.false)), (c.loop-low.invariant.2 m p).1))

pub returns : goal.returns
returns c =
    (omega arith, λ m p. omega (arith, (c.loop-low.invariant.2 m p).0, (c.loop-low.invariant.2 m p).1))
