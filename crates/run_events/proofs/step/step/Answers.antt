-- `step` meets its contract: the event is one of the four. Assumes nothing.
use Rattle.std.proofs.Common.{rules, ◌≡◌}
use Rattle.rules_box.specs.Answer.{recorded_told, joined_told, ended_told, reading_told, answer_told}
use Rattle.run_events.specs.laws.Events.{by-time-code, by-request, by-reply, by-reading}
use Rattle.run_events.proofs.step.step.Goals as goal

pub returns-in-TimeCode : goal.returns-in-TimeCode
returns-in-TimeCode c =
    let a = c.args in
    let q = c.time_code in
    let e : answer_told c.map.result ≡ recorded_told q.result = search rules in
    λ b f. rw e (by-time-code _ b a.w.now a.event (recorded_told q.result) _ _ a.records.now _ _ q.new.w _ c.in-TimeCode.is (q.ensures b a.rows.now f))

pub returns-in-Request : goal.returns-in-Request
returns-in-Request c =
    let a = c.args in
    let q = c.request in
    let e : answer_told c.map-in-Request.result ≡ joined_told q.result = search rules in
    λ b f. rw e (by-request _ b a.w.now a.event (joined_told q.result) _ a.last.now a.records.now _ _ _ _ c.in-Request.is (q.ensures b a.spans.now a.last.now f _ a.w.now))

pub returns-in-Reply : goal.returns-in-Reply
returns-in-Reply c =
    let a = c.args in
    let q = c.reply in
    let e : answer_told c.map-in-Reply.result ≡ ended_told q.result = search rules in
    λ b f. rw e (by-reply _ b a.w.now a.event (ended_told q.result) _ a.last.now a.records.now _ _ _ c.in-Reply.is (q.ensures b a.spans.now a.aims.now a.last.now f _ a.w.now))

pub returns-in-Reading : goal.returns-in-Reading
returns-in-Reading c =
    let a = c.args in
    let q = c.reading in
    let e : answer_told c.map-in-Reading.result ≡ reading_told q.result = search rules in
    λ b f. rw e (by-reading _ b a.w.now a.event (reading_told q.result) a.run.now a.last.now a.records.now _ q.new.w c.in-Reading.is f.runs (q.ensures b f.plan.timed _))
