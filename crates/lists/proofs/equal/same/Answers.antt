-- `lists::equal::same` meets its contract: `==` at the numbers decides whether they are one. Assumes nothing.
use Rattle.std.proofs.lemmas.Slice.Eq.{slice_eq-Decides}
use Rattle.lists.proofs.equal.same.Goals as goal

pub returns : goal.returns
returns g c = slice_eq-Decides g.met.T.Number.exact _ _ _ c.eq.ensures
