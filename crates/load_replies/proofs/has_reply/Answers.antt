-- `has_reply` meets its contract: beyond the last place there is no path. Assumes nothing.
use Rattle.std.proofs.Common.{lt-ltb, le-ltb}
use Rattle.load_replies.specs.Home.{has_row}
use Rattle.load_replies.proofs.has_reply.Goals as goal

pub returns-then-k-lt-MOST_PATHS : goal.returns-then-k-lt-MOST_PATHS
unfolding has_row
returns-then-k-lt-MOST_PATHS c = rw (lt-ltb _ _ c.if-k-lt-MOST_PATHS.true)

pub returns-else-k-lt-MOST_PATHS : goal.returns-else-k-lt-MOST_PATHS
unfolding has_row
returns-else-k-lt-MOST_PATHS c = rw (le-ltb _ _ c.if-k-lt-MOST_PATHS.false)
