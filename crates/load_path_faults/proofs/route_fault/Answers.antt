-- `route_fault` meets its contract: each test says what the row of the table asks, read off the memory of the plan. Assumes nothing.
use mathlib.Core.Path.{sym, ◌∙◌}
use borrow.Author.Tests.{not-true, not-false}
use Rattle.load_path_faults.specs.Routes.{route}
use Rattle.load_path_faults.proofs.RouteFaults.{range-start, range-end, range-links, range-same, range-none, fault-6, fault-7, fault-8, fault-9, fault-10, fault-11, fault-none, start-none, end-none, links_none, links-known, known, start-low}
use Rattle.load_path_faults.proofs.route_fault.Goals as goal
use Rattle.load_path_faults.proofs.route_fault.Goals.{then-start-gt63-via-then-start-gt63, then-start-gt63-via-else-start-gt63+then-end-gt63, then-start-gt63-via-else-start-gt63+else-end-gt63+then-t, then-start-gt63-via-else-start-gt63+else-end-gt63+else-t+then-start-end}
use Rattle.load_path_faults.proofs.route_fault.Goals.{then-not-has-via-then-not-has, then-not-has-via-else-not-has+then-not-has-2, then-not-has-via-else-not-has+else-not-has-2+then-not-within}

pub returns-then-start-gt63-clause-value : goal.returns-then-start-gt63-clause-value
returns-then-start-gt63-clause-value c p f a b =
    let x = c.args.asked.now in
    let ls = c.args.links.now in
    fault-6 p (route x.start x.end ls) _ _ _
    (elim c.then-start-gt63.branch [
      | then-start-gt63-via-then-start-gt63 w ↦ range-start x.start x.end ls w.if-start-gt63.true
      | then-start-gt63-via-else-start-gt63+then-end-gt63 w ↦ range-end x.start x.end ls w.if-end-gt63.true
      | then-start-gt63-via-else-start-gt63+else-end-gt63+then-t w ↦ range-links x.start x.end ls (sym c.trace-t.ensures.0 ∙ w.if-t.true)
      | then-start-gt63-via-else-start-gt63+else-end-gt63+else-t+then-start-end w ↦ range-same x.start x.end ls w.if-start-end.true
    ])

pub returns-then-asked-clause-value : goal.returns-then-asked-clause-value
returns-then-asked-clause-value c p f a b =
    let x = c.args.asked.now in
    let ls = c.args.links.now in
    let r = route x.start x.end ls in
    let inside = range-none x.start x.end ls c.if-start-gt63.false c.if-end-gt63.false (sym c.trace-t.ensures.0 ∙ c.if-t.false) c.if-start-end.false in
    fault-7 p _ _ _ _ inside c.if-asked.true

pub returns-then-not-has-clause-value : goal.returns-then-not-has-clause-value
returns-then-not-has-clause-value c p f a b =
    let x = c.args.asked.now in
    let ls = c.args.links.now in
    let r = route x.start x.end ls in
    let inside = range-none x.start x.end ls c.if-start-gt63.false c.if-end-gt63.false (sym c.trace-t.ensures.0 ∙ c.if-t.false) c.if-start-end.false in
    fault-8 p _ _ _ _ inside c.if-asked.false
    (elim c.then-not-has.branch [
      | then-not-has-via-then-not-has w ↦ start-none p a r inside c.trace-t.result.set c.trace-t.ensures.1 (sym c.has.ensures ∙ w.if-not-has.true)
      | then-not-has-via-else-not-has+then-not-has-2 w ↦ end-none p a r inside c.trace-t.result.set c.trace-t.ensures.1 (sym w.has-else-not-has.ensures ∙ w.if-not-has-2.true)
      | then-not-has-via-else-not-has+else-not-has-2+then-not-within w ↦ links_none p a r inside c.trace-t.result.set c.trace-t.ensures.1 (sym w.within.ensures ∙ w.if-not-within.true)
    ])

pub returns-then-asked-2-clause-value : goal.returns-then-asked-2-clause-value
returns-then-asked-2-clause-value c p f a b =
    let x = c.args.asked.now in
    let ls = c.args.links.now in
    let r = route x.start x.end ls in
    let inside = range-none x.start x.end ls c.if-start-gt63.false c.if-end-gt63.false (sym c.trace-t.ensures.0 ∙ c.if-t.false) c.if-start-end.false in
    fault-9 p _ _ _ _ inside c.if-asked.false (known p a r inside c.trace-t.result.set c.trace-t.ensures.1 (sym c.has.ensures ∙ c.if-not-has.false) (sym c.has-else-not-has.ensures ∙ c.if-not-has-2.false) (sym c.within.ensures ∙ c.if-not-within.false)) c.if-asked-2.true

pub returns-then-not-t-clause-value : goal.returns-then-not-t-clause-value
returns-then-not-t-clause-value c p f a b =
    let x = c.args.asked.now in
    let ls = c.args.links.now in
    let r = route x.start x.end ls in
    let inside = range-none x.start x.end ls c.if-start-gt63.false c.if-end-gt63.false (sym c.trace-t.ensures.0 ∙ c.if-t.false) c.if-start-end.false in
    fault-10 p _ _ _ _ inside c.if-asked.false (known p a r inside c.trace-t.result.set c.trace-t.ensures.1 (sym c.has.ensures ∙ c.if-not-has.false) (sym c.has-else-not-has.ensures ∙ c.if-not-has-2.false) (sym c.within.ensures ∙ c.if-not-within.false)) c.if-asked-2.false
    (sym (c.trace-t.ensures.2 p f (start-low p a r inside c.trace-t.result.set c.trace-t.ensures.1) (links-known p a r inside c.trace-t.result.set c.trace-t.ensures.1 (sym c.within.ensures ∙ c.if-not-within.false)) a b) ∙ not-true _ c.if-not-t.true)

pub returns-then-asked-3-clause-value : goal.returns-then-asked-3-clause-value
returns-then-asked-3-clause-value c p f a b =
    let x = c.args.asked.now in
    let ls = c.args.links.now in
    let r = route x.start x.end ls in
    let inside = range-none x.start x.end ls c.if-start-gt63.false c.if-end-gt63.false (sym c.trace-t.ensures.0 ∙ c.if-t.false) c.if-start-end.false in
    fault-11 p _ _ _ _ inside c.if-asked.false (known p a r inside c.trace-t.result.set c.trace-t.ensures.1 (sym c.has.ensures ∙ c.if-not-has.false) (sym c.has-else-not-has.ensures ∙ c.if-not-has-2.false) (sym c.within.ensures ∙ c.if-not-within.false)) c.if-asked-2.false
    (sym (c.trace-t.ensures.2 p f (start-low p a r inside c.trace-t.result.set c.trace-t.ensures.1) (links-known p a r inside c.trace-t.result.set c.trace-t.ensures.1 (sym c.within.ensures ∙ c.if-not-within.false)) a b) ∙ not-false _ c.if-not-t.false) c.if-asked-3.true

pub returns-clause-value : goal.returns-clause-value
returns-clause-value c p f a b =
    let x = c.args.asked.now in
    let ls = c.args.links.now in
    let r = route x.start x.end ls in
    let inside = range-none x.start x.end ls c.if-start-gt63.false c.if-end-gt63.false (sym c.trace-t.ensures.0 ∙ c.if-t.false) c.if-start-end.false in
    fault-none p _ _ _ _ inside c.if-asked.false (known p a r inside c.trace-t.result.set c.trace-t.ensures.1 (sym c.has.ensures ∙ c.if-not-has.false) (sym c.has-else-not-has.ensures ∙ c.if-not-has-2.false) (sym c.within.ensures ∙ c.if-not-within.false)) c.if-asked-2.false
    (sym (c.trace-t.ensures.2 p f (start-low p a r inside c.trace-t.result.set c.trace-t.ensures.1) (links-known p a r inside c.trace-t.result.set c.trace-t.ensures.1 (sym c.within.ensures ∙ c.if-not-within.false)) a b) ∙ not-false _ c.if-not-t.false) c.if-asked-3.false
