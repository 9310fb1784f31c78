-- `quotient_up` meets its contract: the library divides with the rest asked for. Assumes nothing.
use Rattle.std.proofs.Common.{◌∙◌}
use Rattle.time_sheet.proofs.Laws.{up-upto, div-up}
use Rattle.time_sheet.proofs.quotient_up.Goals as goal

pub returns : goal.returns
returns c =
    let e = c.div_ceil.ensures ∙ div-up c.args.n c.args.s c.requires in
    (e, rw e (up-upto c.args.n c.args.s c.requires))
