-- `begin_at` meets its contract: the word at place k is that of the request which leaves. Assumes nothing.
use native.Mathlib.Omega.{arith}
use Rattle.run_turns.proofs.Starts.{begins-at}
use Rattle.run_turns.proofs.begin_at.Goals as goal

pub returns : goal.returns
returns c =
    let a = c.args in
    let m = c.take_row in
    λ i s f is x at. begins-at i s f a.row.now is a.k a.span x at m.new.row _ (m.ensures i s f is) (omega arith)
