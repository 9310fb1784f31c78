-- `take_row` meets its contract. Assumes nothing.
use Rattle.run_line.proofs.Rows.{left}
use Rattle.run_line.proofs.take_row.Goals as goal

pub returns : goal.returns
returns c =
    let m = c.move_up in
    λ i s f is. left i s f c.args.row.now is c.args.k m.new.places c.requires.2 m.ensures
