-- `put_hex` meets its contract. Assumes nothing.
use mathlib.Core.List.{flat_map}
use Prim.Native.Nat.{◌<◌}
use native.Mathlib.Omega.{arith}
use lib.ListN.{length}
use borrow.Author.Rules.{rules}
use Rattle.lists.specs.laws.Stores.{put-none}
use Rattle.rules_plan.specs.Print.{text}
use Rattle.script_hex.proofs.Text.{are-none, are-some, no_bytes, no_room, byte_more, every_byte}
use Rattle.script_hex.proofs.put_hex.Goals as goal
use Rattle.script_hex.proofs.put_hex.Goals.{then-room-at-via-then-room-at, then-room-at-via-else-room-at+then-room-at-2}

pub returns-then-is_empty : goal.returns-then-is_empty
unfolding text
returns-then-is_empty c = no_bytes c.args.bytes.now (are-none c.args.bytes.now c.is_empty.ensures c.if-is_empty.true) c.put.ensures

pub returns-then-room-at : goal.returns-then-room-at
returns-then-room-at c =
    let a = c.args in
    let some : 0 < length a.bytes.now = are-some a.bytes.now c.is_empty.ensures c.if-is_empty.false in
    elim c.then-room-at.branch [
      | then-room-at-via-then-room-at w ↦ no_room a.out.now a.bytes.now a.at some (omega arith)
      | then-room-at-via-else-room-at+then-room-at-2 w ↦ no_room a.out.now a.bytes.now a.at some (omega arith)
    ]

pub loop-byte-init : goal.loop-byte-init
unfolding flat_map
loop-byte-init c = (search rules, put-none c.args.out.now c.args.at)

pub loop-byte-preserved : goal.loop-byte-preserved
loop-byte-preserved c =
    (omega arith, byte_more c.args.bytes.now c.loop-byte.byte-index (search rules) c.hex_digit.ensures c.hex_digit-in-loop-byte.ensures c.loop-byte.invariant.1)

pub returns : goal.returns
returns c =
    let bytes = c.args.bytes.now in
    every_byte bytes c.loop-byte.byte-index (are-some bytes c.is_empty.ensures c.if-is_empty.false) (search rules) c.loop-byte.invariant.1
