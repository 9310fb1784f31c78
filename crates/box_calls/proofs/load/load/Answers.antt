-- `calls::load::load` meets its contract. Assumes nothing.
use native.Mathlib.Omega.{arith}
use Rattle.box_calls.specs.laws.Boxes.{holds-loaded, load-watchdog}
use Rattle.box_calls.proofs.load.load.Goals as goal

pub returns : goal.returns
returns c =
    let r = c.clear_run.ensures in
    let l = c.load-verdict.ensures in
    let lent = c.shared_slice_known-1.given in
    let five = load-watchdog _ (c.least_interval.ensures _ _ l.1.numbers) (c.greatest_interval.ensures _ _ l.1.numbers) in
    let d = c.default.ensures in
    record { bytes = λ n. omega (arith, lent n); verdict = l.0; holds = holds-loaded _ l.1 r.0 r.1; five = rw (d.0, d.1.0, d.1.1.0) five }
