-- `keep_reply` meets its contract: the row of the reply stands behind that of its path. Assumes nothing.
use mathlib.Core.Path.{refl, ap, ◌∙◌}
use Prim.Native.Nat.{◌+◌, ◌*◌}
use lib.ListN.{length}
use lib.Seq.{paste}
use borrow.Author.Rules.{rules}
use Rattle.memory_plan.specs.Memory.{path_row, turned}
use Rattle.memory_plan.specs.laws.PathRows.{all-length}
use Rattle.load_path_faults.specs.Routes.{route}
use Rattle.load_replies.specs.laws.KeptRow.{row_kept}
use Rattle.load_replies.proofs.keep_reply.Goals as goal

pub returns : goal.returns
unfolding turned
returns c = λ size p x home d h g.
    let a = c.args in
    let y = route a.target a.initiator a.links.now in
    let f = home.fair in (
      c.store_path.ensures (ap length h ∙ all-length p f.lengths f.ranges f.lists.paths.most)
          ∙ ap (λ l. paste l ((128 + a.k) * 11) (path_row (turned y)) 11) h ∙ row_kept p y x a.k home (search rules),
      c.put_home.ensures size p y x home refl refl refl d h g,
    )
