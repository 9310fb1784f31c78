-- `desk::answer::answer` meets its contract: the line is one of the fifteen commands. Assumes nothing.
use Rattle.rules_plan.specs.Print.{text}
use Rattle.script_desk.proofs.answer.Replies.{skip, bad, load, clear, time-code, request, reply, reading, out, watchdog, set, sheet, next, blank, holds, load-within, holds-within, records-within, out_within}
use Rattle.script_desk.proofs.answer.answer.Goals as goal

pub slice_bounds-load-count : goal.slice_bounds-load-count
slice_bounds-load-count c =
    load-within c.args.line.now 0 c.command_of.ensures c.in-Load.is

pub slice_bounds-load-start : goal.slice_bounds-load-start
slice_bounds-load-start c =
    load-within c.args.line.now 0 c.command_of.ensures c.in-Load.is

pub with_records-requires : goal.with_records-requires
with_records-requires c =
    records-within c.args.line.now 0 c.command_of.ensures c.in-TimeCode.is

pub write_out-requires : goal.write_out-requires
write_out-requires c =
    out_within c.args.line.now 0 c.command_of.ensures c.in-Out.is

pub slice_bounds-holds-count : goal.slice_bounds-holds-count
slice_bounds-holds-count c =
    holds-within c.args.line.now 0 c.command_of.ensures c.in-Holds.is

pub slice_bounds-holds-start : goal.slice_bounds-holds-start
slice_bounds-holds-start c =
    holds-within c.args.line.now 0 c.command_of.ensures c.in-Holds.is

pub returns-in-Skip : goal.returns-in-Skip
returns-in-Skip c =
    let a = c.args in
    skip a.line.now a.number c.command_of.ensures _ c.in-Skip.is

pub returns-in-Bad : goal.returns-in-Bad
returns-in-Bad c =
    let a = c.args in
    bad a.line.now a.number c.command_of.ensures _ c.in-Bad.is c.put_error.ensures

pub returns-in-Load : goal.returns-in-Load
returns-in-Load c =
    let a = c.args in
    load a.line.now a.number c.command_of.ensures _ c.in-Load.is c.load.ensures

pub returns-in-Clear : goal.returns-in-Clear
unfolding text
returns-in-Clear c =
    let a = c.args in
    clear a.line.now a.number c.command_of.ensures _ c.in-Clear.is c.clear.ensures.cleared c.clear.ensures.prints

pub returns-in-TimeCode : goal.returns-in-TimeCode
returns-in-TimeCode c =
    let a = c.args in
    time-code a.line.now a.number c.command_of.ensures _ c.in-TimeCode.is c.with_records.ensures

pub returns-in-Request : goal.returns-in-Request
returns-in-Request c =
    let a = c.args in
    request a.line.now a.number c.command_of.ensures _ c.in-Request.is c.without_records.ensures

pub returns-in-Reply : goal.returns-in-Reply
returns-in-Reply c =
    let a = c.args in
    reply a.line.now a.number c.command_of.ensures _ c.in-Reply.is c.without_records-in-Reply.ensures

pub returns-in-Reading : goal.returns-in-Reading
returns-in-Reading c =
    let a = c.args in
    reading a.line.now a.number c.command_of.ensures _ c.in-Reading.is c.without_records-in-Reading.ensures

pub returns-in-Out : goal.returns-in-Out
returns-in-Out c =
    let a = c.args in
    out a.line.now a.number c.command_of.ensures _ c.in-Out.is c.write_out.ensures

pub returns-in-Watchdog : goal.returns-in-Watchdog
returns-in-Watchdog c =
    let a = c.args in
    watchdog a.line.now a.number c.command_of.ensures _ c.in-Watchdog.is c.put_watchdog.ensures

pub returns-in-SetWatchdog : goal.returns-in-SetWatchdog
unfolding text
returns-in-SetWatchdog c =
    let a = c.args in
    set a.line.now a.number c.command_of.ensures _ c.in-SetWatchdog.is c.five_of.ensures c.put_word.ensures

pub returns-in-Sheet : goal.returns-in-Sheet
returns-in-Sheet c =
    let a = c.args in
    sheet a.line.now a.number c.command_of.ensures _ c.in-Sheet.is c.sheet.ensures c.put_sheet.ensures

pub returns-in-Next : goal.returns-in-Next
returns-in-Next c =
    let a = c.args in
    next a.line.now a.number c.command_of.ensures _ c.in-Next.is c.next-turn.ensures c.put_next.ensures

pub returns-in-Blank : goal.returns-in-Blank
returns-in-Blank c =
    let a = c.args in
    blank a.line.now a.number c.command_of.ensures _ c.in-Blank.is c.blank-cleared.ensures c.put_flag.ensures

pub returns-in-Holds : goal.returns-in-Holds
returns-in-Holds c =
    let a = c.args in
    holds a.line.now a.number c.command_of.ensures _ c.in-Holds.is c.holds.ensures
