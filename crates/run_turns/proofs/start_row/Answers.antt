-- `start_row` meets its contract: what is found leaves the line. Assumes nothing.
use mathlib.Core.Path.{refl, sym, ◌∙◌}
use native.Mathlib.Omega.{arith}
use borrow.Author.Tests.{eqb-true}
use Rattle.lists.specs.laws.Below.{below-some, below-none}
use Rattle.run_turns.proofs.Starts.{starts-nothing, starts-one}
use borrow.Author.Rules.{rules}
use Rattle.run_turns.proofs.start_row.Goals as goal

pub begin_at-requires : goal.begin_at-requires
begin_at-requires c = (search rules, omega arith, c.permits_oldest.ensures.nonzero c.if-permits_oldest.true)

pub returns-then-permits_oldest : goal.returns-then-permits_oldest
returns-then-permits_oldest c =
    let r = c.permits_oldest in
    let a = c.args in
    let b = c.begin_at in
    λ o s f is free e t. starts-one o s f a.row.now is e free 0 (sym (eqb-true _ 0 (sym (r.ensures.value o s f is e t) ∙ c.if-permits_oldest.true))) (omega arith)
    a.span t.span b.result b.new.row (b.ensures o s f is)

pub returns-in_default : goal.returns-in_default
returns-in_default c =
    let r = c.in_default.ensures.value in
    λ o s f is free e t. starts-nothing o s f c.args.row.now is e free _ refl (below-none 8 _ (r o s f is e t))

pub begin_at-requires-2 : goal.begin_at-requires-2
begin_at-requires-2 c = let r = c.in-Some.ensures.upper_bound in (search rules, r.0, r.1)

pub returns : goal.returns
returns c =
    let r = c.in-Some.ensures in
    let a = c.args in
    let b = c.begin_at-2 in
    λ o s f is free e t. starts-one o s f a.row.now is e free c.in-Some.k (below-some 8 _ c.in-Some.k (r.value o s f is e t)).0 r.upper_bound.0
    a.span t.span b.result b.new.row (b.ensures o s f is)
