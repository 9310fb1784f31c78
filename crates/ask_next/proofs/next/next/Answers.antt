-- `next` meets its contract. Assumes nothing.
use Rattle.std.proofs.Common.{◌∙◌, ◌<◌, sym, arith, rules, eqb-true}
use Rattle.std.proofs.lemmas.Bool.{eqb-false}
use Rattle.std.proofs.lemmas.Result.{err_from_is_err_and}
use Rattle.memory_plan.specs.laws.Costs.{least-words}
use Rattle.memory_plan.specs.laws.Turns.{aimed-low}
use Rattle.ask_next.proofs.next.Tells.{stranger, unaimed, barred, no_slot, turn}
use Rattle.ask_next.proofs.next.next.Goals as goal

pub returns-in_err-row : goal.returns-in_err-row
returns-in_err-row c =
    let a = c.args in
    let e = err_from_is_err_and c.from_residual.result c.from_residual.ensures.1 in
    λ o spans f.
    rw (e.1, e.2) (stranger f a.initiator a.target a.length a.slot 8 c.in_err-row.ensures.none (omega arith) _ c.in_err-row.ensures.refusal)

pub returns-then-is_empty : goal.returns-then-is_empty
returns-then-is_empty c =
    let a = c.args in
    let k = c.in_ok-row in
    λ o spans f.
    unaimed f a.initiator a.target a.length a.slot k.row k.ensures.own k.ensures.low c.aimed_at-aimed.result c.aimed_at-aimed.ensures
    (eqb-true _ 0 (sym c.is_empty.ensures ∙ c.if-is_empty.true)) _ c.no_turn.ensures

pub lasting-set-requires : goal.lasting-set-requires
lasting-set-requires c =
    let a = c.args in
    let k = c.in_ok-row in
    (k.ensures.low, omega (arith, c.least_span-need.ensures, least-words a.numbers.now k.row a.target a.length))

pub returns-then-is_empty-2 : goal.returns-then-is_empty-2
returns-then-is_empty-2 c =
    let a = c.args in
    let k = c.in_ok-row in
    let low : a.target < 64 = aimed-low a.aims.now k.row a.target c.aimed_at-aimed.result c.aimed_at-aimed.ensures (eqb-false _ 0 (sym c.is_empty.ensures ∙ c.if-is_empty.false)) in
    λ o spans f.
    barred f a.initiator a.target a.length a.slot k.row k.ensures.own k.ensures.low low c.least_span-need.result c.least_span-need.ensures
    c.aimed_at-aimed.result (c.aimed_at-aimed.ensures.within low) c.lasting-set.result (search rules) c.lasting-set.ensures
    (sym c.is_empty-2.ensures ∙ c.if-is_empty-2.true) _ c.no_turn-then-is_empty-2.ensures

pub returns-then-slot-gt63 : goal.returns-then-slot-gt63
returns-then-slot-gt63 c =
    let a = c.args in
    let k = c.in_ok-row in
    let low : a.target < 64 = aimed-low a.aims.now k.row a.target c.aimed_at-aimed.result c.aimed_at-aimed.ensures (eqb-false _ 0 (sym c.is_empty.ensures ∙ c.if-is_empty.false)) in
    λ o spans f.
    no_slot f a.initiator a.target a.length a.slot k.row k.ensures.own k.ensures.low low c.least_span-need.result c.least_span-need.ensures
    c.aimed_at-aimed.result (c.aimed_at-aimed.ensures.within low) c.lasting-set.result (search rules) c.lasting-set.ensures
    (sym c.is_empty-2.ensures ∙ c.if-is_empty-2.false) c.if-slot-gt63.true

pub returns : goal.returns
returns c =
    let a = c.args in
    let k = c.in_ok-row in
    let low : a.target < 64 = aimed-low a.aims.now k.row a.target c.aimed_at-aimed.result c.aimed_at-aimed.ensures (eqb-false _ 0 (sym c.is_empty.ensures ∙ c.if-is_empty.false)) in
    λ o spans f.
    turn f a.initiator a.target a.length a.slot k.row k.ensures.own k.ensures.low low c.least_span-need.result c.least_span-need.ensures
    c.aimed_at-aimed.result (c.aimed_at-aimed.ensures.within low) c.lasting-set.result (search rules) c.lasting-set.ensures
    (sym c.is_empty-2.ensures ∙ c.if-is_empty-2.false) (omega (arith, c.if-slot-gt63.false)) c.slots_to.result c.slots_to.ensures
