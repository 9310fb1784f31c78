-- `insert_row` meets its contract: the rows behind the place move on by one, and the new row is put there.
use mathlib.Core.Path.{refl, ap, ◌∙◌}
use native.Mathlib.Omega.{arith}
use lib.ListN.{set}
use Rattle.lists.specs.laws.Moved.{moved-set}
use Rattle.load_path_places.specs.laws.Room.{copied-moved}
use Rattle.load_path_places.proofs.insert_row.Goals as goal

pub returns : goal.returns
returns c =
    let a = c.args in
    let k = c.row_place-k.result in
    let upto = c.row_place-k.ensures.0 in (
      upto,
      λ e f. (
        c.row_place-k.ensures.1,
        ap (λ ys. set ys k a.initiator) (c.copy_within.ensures.after ∙ copied-moved 1 k a.count _ a.rows.now refl upto) ∙ moved-set k a.count a.initiator a.rows.now upto (omega arith),
        ap (λ ys. set ys k 0) (c.copy_within-2.ensures.after ∙ copied-moved 1 k a.count _ a.reach.now refl upto) ∙ moved-set k a.count 0 a.reach.now upto (omega arith),
      ),
    )
