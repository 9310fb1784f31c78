-- `put_path` meets its contract. A row of more than eight links is no path. Assumes nothing.
use mathlib.Core.Path.{sym, ◌∙◌}
use native.Mathlib.Omega.{arith}
use Rattle.out_rows.proofs.Parts.{no-path, no_row, path-over, path-puts}
use Rattle.out_rows.proofs.put_path.Goals as goal
use Rattle.out_rows.proofs.put_path.Goals.{then-count-eq0-via-then-count-eq0, then-count-eq0-via-else-count-eq0+then-count-gt-MOST_LINKS}
use Rattle.out_rows.proofs.put_path.Goals.{then-room-whole-via-then-room-whole, then-room-whole-via-else-room-whole+then-room-whole-2}

pub returns-then-count-eq0 : goal.returns-then-count-eq0
returns-then-count-eq0 c =
    let a = c.args in
    elim c.then-count-eq0.branch [
      | then-count-eq0-via-then-count-eq0 w ↦ no-path a.paths.now a.tag a.n a.out.now a.at (sym c.wide-count.ensures.0 ∙ w.if-count-eq0.true)
      | then-count-eq0-via-else-count-eq0+then-count-gt-MOST_LINKS w ↦ no_row a.paths.now a.tag a.n a.out.now a.at (omega (arith, c.wide-count.ensures.0))
    ]

pub returns-then-room-whole : goal.returns-then-room-whole
returns-then-room-whole c =
    let a = c.args in
    elim c.then-room-whole.branch [
      | then-room-whole-via-then-room-whole w ↦
          path-over a.paths.now a.tag a.n c.wide-count.ensures.0 c.if-count-eq0.false c.if-count-gt-MOST_LINKS.false (omega arith)
      | then-room-whole-via-else-room-whole+then-room-whole-2 w ↦
          path-over a.paths.now a.tag a.n c.wide-count.ensures.0 c.if-count-eq0.false c.if-count-gt-MOST_LINKS.false (omega arith)
    ]

pub returns : goal.returns
returns c =
    let a = c.args in
    path-puts a.paths.now a.tag a.n c.wide-count.ensures.0 c.if-count-eq0.false c.if-count-gt-MOST_LINKS.false c.put_bytes-k.ensures c.put_path_links.ensures
