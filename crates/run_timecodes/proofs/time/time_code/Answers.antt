-- `time_code` meets its contract. Assumes nothing.
use Rattle.std.proofs.Common.{rules, ◌≡◌, Err}
use Rattle.rules_plan.specs.Numbers.{refusal_number}
use Rattle.rules_plan.specs.laws.Numbers.{some-refusal}
use Rattle.run_timecodes.proofs.time.Leaves.{handed, refused, accepted}
use Rattle.run_timecodes.proofs.time.time_code.Goals as goal

pub returns-in_err-refuse : goal.returns-in_err-refuse
returns-in_err-refuse c =
    let a = c.args in
    let r = c.in_err-refuse.field-0.0 in
    let e : c.from_residual.result ≡ Err r = search rules in
    λ b rows f. rw e (refused f a.w.now a.byte a.clock a.records.now (refusal_number r) (c.in_err-refuse.ensures.tells b f.plan.timed a.clock) (some-refusal r))

pub returns : goal.returns
returns c =
    let a = c.args in
    λ b rows f.
    accepted f a.w.now a.byte a.clock a.records.now (c.in_ok-refuse.ensures.tells b f.plan.timed a.clock) _ _ _ _ (c.run_on-end.ensures b rows _ (handed f)) c.fed_with.ensures
