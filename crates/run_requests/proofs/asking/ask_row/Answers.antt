-- `ask_row` meets its contract. Assumes nothing.
use Prim.Native.Nat.{◌<◌}
use native.Mathlib.Omega.{arith}
use lib.ListN.{length}
use Rattle.memory_plan.specs.View.{owner}
use Rattle.run_requests.proofs.asking.Joins.{full, joins}
use borrow.Author.Rules.{rules}
use Rattle.run_requests.proofs.asking.ask_row.Goals as goal

pub returns-then-waiting : goal.returns-then-waiting
returns-then-waiting c =
    let a = c.args in
    λ p s f need is.
    let o = owner p a.initiator in
    full o s a.row.now a.target a.kind a.length is (omega (arith, c.waiting.ensures.1 o s f is))

pub join_row-requires : goal.join_row-requires
join_row-requires c = (search rules, omega (arith, c.waiting.ensures.0))

pub returns : goal.returns
returns c =
    let a = c.args in
    let j = c.join_row in
    λ p s f need is.
    let o = owner p a.initiator in
    let short : length s.line < 8 = omega (arith, c.waiting.ensures.1 o s f is) in
    joins o s j.new.row a.target a.kind a.length short j.result (j.ensures p s f need is)
