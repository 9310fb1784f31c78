-- `run_on` meets its contract: each part of the records behind the one before. Assumes nothing.
use native.Mathlib.Omega.{arith}
use Rattle.rules_box.specs.State.{the_plan}
use Rattle.rules_box.specs.Turn.{value_of, aged}
use Rattle.rules_box.specs.laws.Fit.{aged-fit}
use Rattle.run_timecodes.proofs.time.Parts.{ran-in, ran_out}
use Rattle.run_timecodes.proofs.time.Leaves.{spans-held, aims-held, last-told}
use borrow.Author.Rules.{rules}
use Rattle.run_timecodes.proofs.time.run_on.Goals as goal

pub report_late-late-requires : goal.report_late-late-requires
report_late-late-requires c =
    let w = c.put_watchdog_record-watched.ensures.1 (omega arith) in
    let q = c.put_sequence_record-sequenced.ensures.1 (omega (arith, w)) in
    (search rules, omega (arith, w, q))

pub visit_all-requires : goal.visit_all-requires
visit_all-requires c =
    let w = c.put_watchdog_record-watched.ensures.1 (omega arith) in
    (search rules, omega (arith, w, c.put_sequence_record-sequenced.ensures.2 c.if-q.true, c.report_late-late.ensures.1))

pub returns-then-q : goal.returns-then-q
unfolding value_of
returns-then-q c =
    let q = c.in_sequence-q in
    let a = c.args in
    λ b rows numbers f.
    let z = c.report_late-late.ensures.0 (the_plan b) b.side f.fit.sound f.fit.sides f.runs.run in
    let y =
    c.visit_all.ensures (the_plan b) (λ i. aged q.result (b.side i)) f.fit.sound (spans-held f) (aims-held f)
    (λ i. aged-fit q.result (b.side i) (f.fit.sides i)) z.0
    in
    ran-in b a.w a.byte a.clock q.result (q.ensures b.last (last-told f)) c.put_watchdog_record-watched.ensures.0 c.put_sequence_record-sequenced.ensures.0 z.1 c.if-q.true _ y.0 _ _ y.1

pub returns : goal.returns
unfolding value_of
returns c =
    let q = c.in_sequence-q in
    let a = c.args in
    λ b rows numbers f.
    let z = c.report_late-late.ensures.0 (the_plan b) b.side f.fit.sound f.fit.sides f.runs.run in
    ran_out b a.w a.byte a.clock q.result (q.ensures b.last (last-told f)) c.put_watchdog_record-watched.ensures.0 c.put_sequence_record-sequenced.ensures.0 z.1 c.if-q.false _ z.0
