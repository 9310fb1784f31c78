-- `request` meets its contract. Assumes nothing.
use Rattle.std.proofs.Common.{◌∙◌, ◌+◌, ◌-◌, ◌*◌, ◌<◌, sym, arith, rules, eqb-true}
use Rattle.std.proofs.lemmas.Bool.{eqb-false}
use Rattle.std.proofs.lemmas.Result.{err_from_is_err_and}
use Rattle.rules_box.specs.Answer.{joined_told}
use Rattle.memory_plan.specs.laws.Costs.{least-words}
use Rattle.memory_plan.specs.laws.Turns.{aimed-low}
use Rattle.run_requests.proofs.request.Asks.{stranger, other-kind, unaimed, barred, asks}
use Rattle.run_requests.proofs.request.request.Goals as goal

pub returns-in_err-row : goal.returns-in_err-row
returns-in_err-row c =
    let a = c.args in
    let e = err_from_is_err_and c.from_residual.result c.from_residual.ensures.1 in
    λ b spans last f room w.
    rw (e.1, e.2) (stranger f room w a.initiator a.target a.kind a.length 8 c.in_err-row.ensures.none (omega arith) _ c.in_err-row.ensures.refusal)

pub returns-then-kind-gt1 : goal.returns-then-kind-gt1
returns-then-kind-gt1 c =
    let a = c.args in
    let k = c.in_ok-row in
    λ b spans last f room w.
    other-kind f room w a.initiator a.target a.kind a.length k.row k.ensures.own k.ensures.low c.if-kind-gt1.true

pub returns-then-is_empty : goal.returns-then-is_empty
returns-then-is_empty c =
    let a = c.args in
    let k = c.in_ok-row in
    λ b spans last f room w.
    unaimed f room w a.initiator a.target a.kind a.length k.row k.ensures.own k.ensures.low (omega arith) c.aimed_at-aimed.result c.aimed_at-aimed.ensures
    (eqb-true _ 0 (sym c.is_empty.ensures ∙ c.if-is_empty.true)) _ c.no_turn.ensures

pub lasting-requires : goal.lasting-requires
lasting-requires c =
    let a = c.args in
    let k = c.in_ok-row in
    (k.ensures.low, omega (arith, c.least_span-need.ensures, least-words a.numbers.now k.row a.target a.length))

pub returns-then-is_empty-2 : goal.returns-then-is_empty-2
returns-then-is_empty-2 c =
    let a = c.args in
    let k = c.in_ok-row in
    let low : a.target < 64 = aimed-low a.aims.now k.row a.target c.aimed_at-aimed.result c.aimed_at-aimed.ensures (eqb-false _ 0 (sym c.is_empty.ensures ∙ c.if-is_empty.false)) in
    λ b spans last f room w.
    barred f room w a.initiator a.target a.kind a.length k.row k.ensures.own k.ensures.low (omega arith) low c.least_span-need.result c.least_span-need.ensures
    c.aimed_at-aimed.result (c.aimed_at-aimed.ensures.within low) c.lasting.result (search rules) c.lasting.ensures
    (sym c.is_empty-2.ensures ∙ c.if-is_empty-2.true) _ c.no_turn-then-is_empty-2.ensures

pub returns : goal.returns
returns c =
    let a = c.args in
    let k = c.in_ok-row in
    let n = c.ask_row in
    let low : a.target < 64 = aimed-low a.aims.now k.row a.target c.aimed_at-aimed.result c.aimed_at-aimed.ensures (eqb-false _ 0 (sym c.is_empty.ensures ∙ c.if-is_empty.false)) in
    let whole = k.row * 12 + 12 - k.row * 12 in
    λ b spans last f room w.
    asks f room w a.initiator a.target a.kind a.length k.row k.ensures.own k.ensures.low (omega arith) low c.least_span-need.result c.least_span-need.ensures
    c.aimed_at-aimed.result (c.aimed_at-aimed.ensures.within low) c.lasting.result (search rules) c.lasting.ensures
    (sym c.is_empty-2.ensures ∙ c.if-is_empty-2.false) (joined_told n.result) whole n.new.row (omega arith) n.ensures
