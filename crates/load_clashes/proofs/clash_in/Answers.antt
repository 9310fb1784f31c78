-- `clash_in` meets its contract. The loop's invariant: no row passed meets one after it.
use mathlib.Core.Path.{refl, sym, ap, ◌∙◌}
use native.Mathlib.Omega.{arith}
use lib.ListN.{get_or}
use Rattle.std.specs.Prelude.{Some}
use Rattle.rules_plan.specs.declared.Verdict.TheVariants.{Clash}
use Rattle.lists.specs.laws.Below.{below-some, below-none}
use Rattle.load_clashes.proofs.Clash.{apart_more, clash-found, clash-nothing}
use Rattle.load_clashes.proofs.clash_in.Goals as goal

pub returns-in-Some : goal.returns-in-Some
returns-in-Some c p s =
    let i = c.loop-i.i in
    let j = c.in-Some.j in
    let rows = c.args.rows.now in
    let (first, low) = below-some 8 _ j (sym c.in-Some.is ∙ c.meets_after.ensures) in
    ap (λ n. Some (Clash c.args.slot (get_or rows i 0) (get_or rows j 0) n)) c.least_common.ensures
    ∙ clash-found s c.args.slot c.requires c.lanes_in-lanes.result (c.lanes_in-lanes.ensures p s) i j c.loop-i-test.true c.loop-i.invariant first (omega (arith, first, low))

pub loop-i-preserved : goal.loop-i-preserved
loop-i-preserved c =
    apart_more c.lanes_in-lanes.result c.loop-i.i _ c.loop-i-test.true c.loop-i.invariant refl (below-none 8 _ (sym c.in_default.is ∙ c.meets_after.ensures))

pub returns : goal.returns
returns c p s =
    clash-nothing s c.args.slot c.requires c.lanes_in-lanes.result (c.lanes_in-lanes.ensures p s) c.loop-i.i c.loop-i-test.false c.loop-i.invariant
