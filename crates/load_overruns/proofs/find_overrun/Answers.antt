-- `find_overrun` meets its contract. The loop's invariant: no entry of the rows passed runs on.
use mathlib.Core.Path.{◌≡◌, refl, sym, ap, subst, ◌∙◌}
use native.Mathlib.Omega.{arith}
use lib.ListN.{get_or}
use Rattle.std.specs.Prelude.{Some}
use Rattle.lists.specs.Numbers.{first_from}
use Rattle.rules_plan.specs.declared.Verdict.TheVariants.{Overrun}
use Rattle.load_overruns.specs.Overruns.{runs_at}
use Rattle.load_overruns.specs.laws.Entries.{rows-counted}
use Rattle.lists.specs.laws.Below.{below-some, below-none}
use Rattle.load_overruns.proofs.Overrun.{Clean, clean-more, overrun-found, overrun-nothing}
use Rattle.load_overruns.proofs.find_overrun.Goals as goal

pub returns-in-Some : goal.returns-in-Some
returns-in-Some c size p fair rows spans numbers =
    let row = c.loop-row.row in
    let slot = c.in-Some.slot in
    let (first, low) = below-some 64 _ slot (sym c.in-Some.is ∙ c.overrun_of.ensures) in
    ap (λ m. Some (Overrun (get_or m row 0) slot)) rows
    ∙ overrun-found p fair row slot (omega (arith, c.loop-row-test.true, c.at_most-row-end.ensures, rows-counted p size _ numbers)) (subst (λ m. Clean m row) spans c.loop-row.invariant)
    (subst (λ m. slot ≡ first_from 64 0 (runs_at m row)) spans first) (omega (arith, first, low))

pub loop-row-preserved : goal.loop-row-preserved
loop-row-preserved c =
    clean-more c.args.spans.now c.loop-row.row _ c.loop-row.invariant refl (below-none 64 _ (sym c.in_default.is ∙ c.overrun_of.ensures))

pub returns : goal.returns
returns c size p fair rows spans numbers =
    overrun-nothing p fair c.loop-row.row (omega (arith, c.loop-row-test.false, c.at_most-row-end.ensures, rows-counted p size _ numbers, fair.lists.paths.eight))
    (subst (λ m. Clean m c.loop-row.row) spans c.loop-row.invariant)
