-- `lists::equal::zero` meets its contract. Assumes nothing.
use Rattle.std.specs.Prelude.{◌≡◌}
use Rattle.std.specs.List.{list_all}
use Rattle.std.proofs.Common.{rules, tests}
use Rattle.std.proofs.lemmas.Bool.Decides.{Decides-at}
use Rattle.std.proofs.lemmas.Iterator.{YieldsList-from_slice}
use Rattle.std.proofs.lemmas.Iterator.Search.{all_from_yields_List}
use Rattle.lists.proofs.Alike.{all-one}
use Rattle.lists.proofs.equal.zero.Goals as goal

pub returns : goal.returns
returns g c =
    let z = g.T.Number.ZERO in
    let is_zero = λ (x : g.row.T.Denot). g.T.PartialEq.eq x z in
    let tested : c.all.result ≡ list_all is_zero c.args.s.now = all_from_yields_List is_zero _ _ c.all.result c.all.ensures.ran (YieldsList-from_slice c.args.s.now cc) (λ x b q k. search (rules, tests)) in
    Decides-at _ _ tested (all-one z is_zero (λ x. g.met.T.Number.exact x z) c.args.s.now)
