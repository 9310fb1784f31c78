-- `is_overdue` meets its contract. Assumes nothing.
use Rattle.std.proofs.Common.{sym, ne_eqb, lt-ltb, le-ltb, inl, inr}
use Rattle.std.proofs.Math.Bool.{not-not}
use Rattle.rules_box.specs.Watch.{is_overdue, yes?}
use Rattle.run_watchdog.proofs.watch.is_overdue.Goals as goal
use Rattle.run_watchdog.proofs.watch.is_overdue.Goals.{then-w-ne0, else-w-ne0}

pub returns-then-w-elapsed : goal.returns-then-w-elapsed
unfolding is_overdue yes?
returns-then-w-elapsed c =
    let (seen, over) = c.if-w-elapsed.true in
    rw (ne_eqb c.args.w.seen 0 seen, ← c.elapsed_since-elapsed.ensures, lt-ltb _ _ over) (sym (not-not _))

pub returns-else-w-elapsed : goal.returns-else-w-elapsed
unfolding is_overdue yes?
returns-else-w-elapsed c = elim c.if-w-ne0.branch [
  | then-w-ne0 w ↦ elim c.if-w-elapsed.either [
    | inl (seen, within) ↦ rw (ne_eqb c.args.w.seen 0 seen, ← c.elapsed_since-elapsed.ensures, w.t-5-is, le-ltb _ _ within)
    | inr unseen ↦ absurd (w.if-w-ne0.true unseen)
  ]
  | else-w-ne0 w ↦ rw (w.t-5-is, w.if-w-ne0.false)
]
