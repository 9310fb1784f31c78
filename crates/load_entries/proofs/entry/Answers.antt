-- `entry` meets its contract: a law for each way that the code goes. Assumes nothing.
use Rattle.std.proofs.Common.{sym, ◌∙◌, arith, rules}
use Rattle.std.proofs.lemmas.Result.{err_from_is_err_and}
use Rattle.bitsets.specs.Laws.{within-listed}
use Rattle.rules_plan.specs.Plan.{nth}
use Rattle.rules_plan.specs.laws.Ranges.{entry-range}
use Rattle.memory_plan.specs.laws.Among.{row-most}
use Rattle.rules_plan.specs.laws.Numbers.{some-fault}
use Rattle.load_entries.proofs.Ranges.{entry-out, targets-inside}
use Rattle.load_entries.proofs.Entries.{lent, asked, Free, entry-refused, entry-several, seek, entry-again, entry-no-row, entry-no-path, entry-taken}
use Rattle.load_entries.proofs.entry.Goals as goal
use Rattle.load_entries.proofs.entry.Goals.{else-known-via-then-known+else-spans-at-ne0, else-known-via-else-known, then-not-known-via-then-not-known, then-not-known-via-else-not-known+then-not-within}

pub returns-then-initiator-gt63 : goal.returns-then-initiator-gt63
returns-then-initiator-gt63 c =
    let a = c.args in
    entry-refused (lent a.sets.now a.rows.now a.reach.now a.spans.now a.aims.now a.numbers.now) (asked a.initiator a.slot a.span a.targets.now)
    (entry-out a.initiator a.slot a.span a.targets.now c.then-initiator-gt63.either)

pub returns-in_err-aimed : goal.returns-in_err-aimed
returns-in_err-aimed c =
    let a = c.args in
    let m = lent a.sets.now a.rows.now a.reach.now a.spans.now a.aims.now a.numbers.now in
    let x = asked a.initiator a.slot a.span a.targets.now in
    let p = err_from_is_err_and c.from_residual.result c.from_residual.ensures.1 in
    rw p.1
    (entry-several m x c.if-initiator-gt63.false c.if-slot-gt63.false c.if-span-eq0.false c.if-span-gt16.false _ (p.2 ∙ c.in_err-aimed.ensures.0) (some-fault p.0))

pub overflow_mul-at : goal.overflow_mul-at
overflow_mul-at c = omega (arith, row-most c.args.rows.now (nth c.args.numbers.now 2) c.args.initiator c.row_among-row.result c.row_among-row.ensures)

pub overflow_add-at : goal.overflow_add-at
overflow_add-at c = omega (arith, row-most c.args.rows.now (nth c.args.numbers.now 2) c.args.initiator c.row_among-row.result c.row_among-row.ensures)

pub returns-then-spans-at-ne0 : goal.returns-then-spans-at-ne0
returns-then-spans-at-ne0 c =
    let a = c.args in
    let m = lent a.sets.now a.rows.now a.reach.now a.spans.now a.aims.now a.numbers.now in
    let x = asked a.initiator a.slot a.span a.targets.now in
    entry-again {m = m} {x = x} (seek m x c.if-initiator-gt63.false c.if-slot-gt63.false c.if-span-eq0.false c.if-span-gt16.false c.row_among-row.result c.row_among-row.ensures c.in_ok-aimed.ensures.0)
    (omega (arith, c.if-known.true, c.at_most.ensures)) c.if-spans-at-ne0.true

pub returns-then-not-known : goal.returns-then-not-known
returns-then-not-known c =
    let a = c.args in
    let m = lent a.sets.now a.rows.now a.reach.now a.spans.now a.aims.now a.numbers.now in
    let x = asked a.initiator a.slot a.span a.targets.now in
    let s = seek m x c.if-initiator-gt63.false c.if-slot-gt63.false c.if-span-eq0.false c.if-span-gt16.false c.row_among-row.result c.row_among-row.ensures c.in_ok-aimed.ensures.0 in
    let low = (entry-range x s.inside).targets in
    let free : Free m x c.row_among-row.result = record { sought = s; alone = elim c.else-known.branch [ else-known-via-then-known+else-spans-at-ne0 w ↦ λ h. w.if-spans-at-ne0.false | else-known-via-else-known w ↦ λ h. absurd (omega (arith, h, w.if-known.false, c.at_most.ensures)) ] } in
    let is = c.not_reached.ensures _ low c.in_ok-aimed.ensures.1 in
    elim c.then-not-known.branch [
      | then-not-known-via-then-not-known w ↦ entry-no-row free _ is (omega (arith, w.if-not-known.true, c.at_most.ensures)) c.requires
      | then-not-known-via-else-not-known+then-not-within w ↦
          entry-no-path free _ is (omega (arith, w.if-not-known.false, c.at_most.ensures)) (sym (within-listed _ _ _ low c.in_ok-aimed.ensures.1) ∙ sym w.within.ensures ∙ w.if-not-within.true)
    ]

pub keep_turns-requires : goal.keep_turns-requires
keep_turns-requires c =
    let a = c.args in
    let m = lent a.sets.now a.rows.now a.reach.now a.spans.now a.aims.now a.numbers.now in
    let x = asked a.initiator a.slot a.span a.targets.now in
    let s = seek m x c.if-initiator-gt63.false c.if-slot-gt63.false c.if-span-eq0.false c.if-span-gt16.false c.row_among-row.result c.row_among-row.ensures c.in_ok-aimed.ensures.0 in
    (omega (arith, c.if-not-known.false, c.at_most.ensures), c.if-span-gt16.false, targets-inside a.initiator a.slot a.span a.targets.now s.inside)

pub returns : goal.returns
returns c =
    let a = c.args in
    let m = lent a.sets.now a.rows.now a.reach.now a.spans.now a.aims.now a.numbers.now in
    let x = asked a.initiator a.slot a.span a.targets.now in
    let s = seek m x c.if-initiator-gt63.false c.if-slot-gt63.false c.if-span-eq0.false c.if-span-gt16.false c.row_among-row.result c.row_among-row.ensures c.in_ok-aimed.ensures.0 in
    let low = (entry-range x s.inside).targets in
    let free : Free m x c.row_among-row.result = record { sought = s; alone = elim c.else-known.branch [ else-known-via-then-known+else-spans-at-ne0 w ↦ λ h. w.if-spans-at-ne0.false | else-known-via-else-known w ↦ λ h. absurd (omega (arith, h, w.if-known.false, c.at_most.ensures)) ] } in
    entry-taken free c.requires (omega (arith, c.if-not-known.false, c.at_most.ensures)) (sym (within-listed _ _ _ low c.in_ok-aimed.ensures.1) ∙ sym c.within.ensures ∙ c.if-not-within.false)
    _ (search rules) c.in_ok-aimed.ensures.1 c.wrapping_add_u32.result c.wrapping_add_u32.ensures.value
    _ c.keep_turns.ensures
