-- `script::command::named` meets its contract. Assumes nothing.
use mathlib.Core.Path.{◌∙◌}
use lib.ListN.{take, drop}
use Rattle.rules_plan.specs.Print.{text}
use Rattle.script_words.specs.Words.{same}
use Rattle.script_words.specs.Reading.{behind_word}
use Rattle.script_words.specs.laws.Words.{same-says}
use Rattle.script_commands.specs.Script.{commands, named}
use Rattle.script_commands.proofs.command.Names.{by_name, no_name}
use Rattle.script_commands.proofs.command.named.Goals as goal

pub returns-then-same : goal.returns-then-same
unfolding same text named commands
returns-then-same c =
    let a = c.args in
    by_name a.line.now a.end (text "load") (c.same.ensures.0 c.if-same.true) c.with_bytes.ensures

pub returns-then-same-2 : goal.returns-then-same-2
unfolding same text named commands
returns-then-same-2 c =
    let a = c.args in
    by_name a.line.now a.end (text "clear") (c.same-else-same.ensures.0 c.if-same-2.true) c.alone.ensures

pub returns-then-same-3 : goal.returns-then-same-3
unfolding same text named commands
returns-then-same-3 c =
    let a = c.args in
    by_name a.line.now a.end (text "tc") (c.same-else-same-2.ensures.0 c.if-same-3.true) c.time_code.ensures

pub returns-then-same-4 : goal.returns-then-same-4
unfolding same text named commands
returns-then-same-4 c =
    let a = c.args in
    by_name a.line.now a.end (text "req") (c.same-else-same-3.ensures.0 c.if-same-4.true) c.request.ensures

pub returns-then-same-5 : goal.returns-then-same-5
unfolding same text named commands
returns-then-same-5 c =
    let a = c.args in
    by_name a.line.now a.end (text "rep") (c.same-else-same-4.ensures.0 c.if-same-5.true) c.reply.ensures

pub returns-then-same-6 : goal.returns-then-same-6
unfolding same text named commands
returns-then-same-6 c =
    let a = c.args in
    by_name a.line.now a.end (text "clk") (c.same-else-same-5.ensures.0 c.if-same-6.true) c.reading.ensures

pub returns-then-same-7 : goal.returns-then-same-7
unfolding same text named commands
returns-then-same-7 c =
    let a = c.args in
    by_name a.line.now a.end (text "out") (c.same-else-same-6.ensures.0 c.if-same-7.true) c.out.ensures

pub returns-then-same-8 : goal.returns-then-same-8
unfolding same text named commands
returns-then-same-8 c =
    let a = c.args in
    by_name a.line.now a.end (text "wd") (c.same-else-same-7.ensures.0 c.if-same-8.true) c.alone-then-same-8.ensures

pub returns-then-same-9 : goal.returns-then-same-9
unfolding same text named commands
returns-then-same-9 c =
    let a = c.args in
    by_name a.line.now a.end (text "setwd") (c.same-else-same-8.ensures.0 c.if-same-9.true) c.set_watchdog.ensures

pub returns-then-same-10 : goal.returns-then-same-10
unfolding same text named commands
returns-then-same-10 c =
    let a = c.args in
    by_name a.line.now a.end (text "sheet") (c.same-else-same-9.ensures.0 c.if-same-10.true) c.sheet.ensures

pub returns-then-same-11 : goal.returns-then-same-11
unfolding same text named commands
returns-then-same-11 c =
    let a = c.args in
    by_name a.line.now a.end (text "sheet2") (c.same-else-same-10.ensures.0 c.if-same-11.true) c.sheet_both.ensures

pub returns-then-same-12 : goal.returns-then-same-12
unfolding same text named commands
returns-then-same-12 c =
    let a = c.args in
    by_name a.line.now a.end (text "next") (c.same-else-same-11.ensures.0 c.if-same-12.true) c.next.ensures

pub returns-then-same-13 : goal.returns-then-same-13
unfolding same text named commands
returns-then-same-13 c =
    let a = c.args in
    by_name a.line.now a.end (text "blank") (c.same-else-same-12.ensures.0 c.if-same-13.true) c.alone-then-same-13.ensures

pub returns-then-same-14 : goal.returns-then-same-14
unfolding same text named commands
returns-then-same-14 c =
    let a = c.args in
    by_name a.line.now a.end (text "holds") (c.same-else-same-13.ensures.0 c.if-same-14.true) c.with_bytes-then-same-14.ensures

pub returns-else-same-14 : goal.returns-else-same-14
unfolding text
returns-else-same-14 c =
    let a = c.args in
    let name = take a.end a.line.now in
    no_name name (behind_word (drop a.end a.line.now))
    (same-says name (text "load") c.same.ensures ∙ c.if-same.false) (same-says name (text "clear") c.same-else-same.ensures ∙ c.if-same-2.false) (same-says name (text "tc") c.same-else-same-2.ensures ∙ c.if-same-3.false)
    (same-says name (text "req") c.same-else-same-3.ensures ∙ c.if-same-4.false) (same-says name (text "rep") c.same-else-same-4.ensures ∙ c.if-same-5.false) (same-says name (text "clk") c.same-else-same-5.ensures ∙ c.if-same-6.false)
    (same-says name (text "out") c.same-else-same-6.ensures ∙ c.if-same-7.false) (same-says name (text "wd") c.same-else-same-7.ensures ∙ c.if-same-8.false) (same-says name (text "setwd") c.same-else-same-8.ensures ∙ c.if-same-9.false)
    (same-says name (text "sheet") c.same-else-same-9.ensures ∙ c.if-same-10.false) (same-says name (text "sheet2") c.same-else-same-10.ensures ∙ c.if-same-11.false)
    (same-says name (text "next") c.same-else-same-11.ensures ∙ c.if-same-12.false) (same-says name (text "blank") c.same-else-same-12.ensures ∙ c.if-same-13.false)
    (same-says name (text "holds") c.same-else-same-13.ensures ∙ c.if-same-14.false)
