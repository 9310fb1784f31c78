-- `devices::device` meets its contract: a law for each way that the code goes. Assumes nothing.
use mathlib.Core.Path.{sym, ◌∙◌}
use borrow.Author.Rules.{rules}
use Rattle.load_items.proofs.devices.Ranges.{device-out, device-fits}
use Rattle.load_items.proofs.devices.Devices.{device-refused, device-again, node-taken, router-taken}
use Rattle.load_items.proofs.devices.device.Goals as goal

pub returns-then-num-gt63 : goal.returns-then-num-gt63
returns-then-num-gt63 c = device-refused c.args.sets.now _ (device-out c.args.num c.args.kind c.then-num-gt63.either)

pub returns-then-has : goal.returns-then-has
returns-then-has c =
    let a = c.args in
    device-again a.sets.now _ (device-fits a.num a.kind c.if-num-gt63.false c.if-kind-gt1.false) c.union.result c.union.ensures (sym c.has.ensures ∙ c.if-has.true)

pub returns-then-kind-eq0 : goal.returns-then-kind-eq0
returns-then-kind-eq0 c =
    let a = c.args in
    node-taken a.sets.now _ (device-fits a.num a.kind c.if-num-gt63.false c.if-kind-gt1.false) c.union.result c.union.ensures (sym c.has.ensures ∙ c.if-has.false)
    c.add.result (search rules) c.if-kind-eq0.true c.add.ensures

pub returns-else-kind-eq0 : goal.returns-else-kind-eq0
returns-else-kind-eq0 c =
    let a = c.args in
    router-taken a.sets.now _ (device-fits a.num a.kind c.if-num-gt63.false c.if-kind-gt1.false) c.union.result c.union.ensures (sym c.has.ensures ∙ c.if-has.false)
    c.add-else-kind-eq0.result (search rules) c.if-kind-eq0.false c.add-else-kind-eq0.ensures
