-- `hex::decode` meets its contract. The loop's invariant: the first i bytes are put. Assumes nothing.
use Prim.Native.Nat.{◌+◌, ◌/◌, ◌≤◌}
use lib.ListN.{length, take}
use Rattle.lists.specs.Stores.{Put}
use Rattle.script_hex.specs.Hex.{pairs_of}
use Rattle.script_hex.proofs.decode.Given as goal

abbrev pub invariant-loop-i : goal.invariant-loop-i
invariant-loop-i l = (l.i ≤ length l.word / 2) × Put l.initial.out 0 (take l.i (pairs_of l.word)) l.out (0 + l.i)
