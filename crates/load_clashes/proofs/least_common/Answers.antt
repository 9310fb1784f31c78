-- `clashes::least_common` meets its contract. Assumes nothing.
use mathlib.Core.Path.{◌∙◌}
use native.Mathlib.Omega.{arith}
use Rattle.bitsets.specs.Laws.{least-le}
use Rattle.load_clashes.proofs.Clash.{least-of-both}
use Rattle.load_clashes.proofs.least_common.Goals as goal

pub overflow_cast-result : goal.overflow_cast-result
overflow_cast-result c = omega (arith, c.least.ensures, least-le c.both.result)

pub returns : goal.returns
returns c =
    let a = c.args in
    c.least.ensures ∙ least-of-both a.a a.b c.both.result c.both.ensures
