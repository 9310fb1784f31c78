-- `put_entry` meets its contract. Assumes nothing.
use native.Mathlib.Omega.{arith}
use lib.ListN.{get_or}
use Rattle.lists.specs.laws.Stores.{put-length}
use Rattle.bitsets.specs.Laws.{size-le}
use Rattle.out_rows.proofs.Parts.{rises-length, no-entry, entry-over, entry-puts}
use Rattle.out_rows.proofs.put_entry.Goals as goal
use Rattle.out_rows.proofs.put_entry.Goals.{then-room-whole-via-then-room-whole, then-room-whole-via-else-room-whole+then-room-whole-2}

pub returns-then-span-eq0 : goal.returns-then-span-eq0
returns-then-span-eq0 c = let a = c.args in no-entry a.out.now a.at a.rows.now a.spans.now a.aims.now a.n c.if-span-eq0.true

pub overflow_add-whole : goal.overflow_add-whole
overflow_add-whole c = omega (arith, c.size-members.ensures, size-le (get_or c.args.aims.now c.args.n 0))

pub returns-then-room-whole : goal.returns-then-room-whole
returns-then-room-whole c =
    let a = c.args in
    elim c.then-room-whole.branch [
      | then-room-whole-via-then-room-whole w ↦ entry-over a.rows.now a.spans.now a.aims.now a.n c.if-span-eq0.false c.size-members.ensures (omega arith)
      | then-room-whole-via-else-room-whole+then-room-whole-2 w ↦
          entry-over a.rows.now a.spans.now a.aims.now a.n c.if-span-eq0.false c.size-members.ensures (omega arith)
    ]

pub overflow_cast-size : goal.overflow_cast-size
overflow_cast-size c = omega (arith, c.size-members.ensures, size-le (get_or c.args.aims.now c.args.n 0))

pub overflow_add-size : goal.overflow_add-size
overflow_add-size c = omega (arith, c.size-members.ensures, size-le (get_or c.args.aims.now c.args.n 0))

pub put_members-requires : goal.put_members-requires
put_members-requires c =
    let a = c.args in
    omega (arith, c.put_bytes-k.ensures.next, put-length c.put_bytes-k.ensures, rises-length (get_or a.aims.now a.n 0), c.size-members.ensures)

pub returns : goal.returns
returns c =
    let a = c.args in
    entry-puts a.rows.now a.spans.now a.aims.now a.n c.if-span-eq0.false c.size-members.ensures c.put_bytes-k.ensures c.put_members.ensures
