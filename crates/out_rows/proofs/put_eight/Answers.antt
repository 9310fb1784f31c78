-- `writing_rows::put_eight` meets its contract. The loop's invariant: the fields of the cells from n up to j are put. Assumes nothing.
use mathlib.Core.Path.{◌≡◌}
use Prim.Native.Nat.{ℕ, ◌+◌, ◌-◌}
use native.Mathlib.Omega.{arith}
use borrow.Author.Rules.{rules}
use Rattle.lists.specs.laws.Puts.{turns-begin, turns_next, turns-done}
use Rattle.out_rows.specs.Out.{entry_bytes, eight_bytes}
use Rattle.out_rows.proofs.Eights.{no-entries}
use Rattle.out_rows.proofs.put_eight.Goals as goal

pub returns-then-no_span : goal.returns-then-no_span
returns-then-no_span c = let a = c.args in no-entries a.rows.now a.spans.now a.aims.now a.out.now a.at a.n (c.no_span.ensures c.if-no_span.true)

pub loop-j-init : goal.loop-j-init
loop-j-init c =
    let a = c.args in
    let e : a.n - a.n ≡ 0 = omega arith in
    (search rules, rw e (turns-begin (λ (s : ℕ). entry_bytes a.rows.now a.spans.now a.aims.now (a.n + s)) 8 a.out.now a.at))

pub loop-j-preserved : goal.loop-j-preserved
loop-j-preserved c =
    let n = c.args.n in
    let here : n + (c.loop-j.j - n) ≡ c.loop-j.j = omega (arith, c.loop-j.invariant.0) in
    let next : (c.loop-j.j + 1) - n ≡ (c.loop-j.j - n) + 1 = omega (arith, c.loop-j.invariant.0) in
    (search rules, rw next (turns_next c.loop-j.invariant.1 (search rules) c.put_entry-k.auto.out (rw here c.put_entry-k.ensures)))

pub returns : goal.returns
unfolding eight_bytes
returns c = turns-done c.loop-j.invariant.1 (omega arith)
