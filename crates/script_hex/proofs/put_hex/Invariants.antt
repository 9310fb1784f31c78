-- `put_hex` meets its contract. The loop's invariant: the bytes so far are put. Assumes nothing.
use mathlib.Core.Path.{◌≡◌}
use mathlib.Core.List.{flat_map}
use Prim.Native.Nat.{◌+◌, ◌*◌}
use lib.ListN.{take}
use Rattle.lists.specs.Stores.{Put}
use Rattle.script_hex.specs.Hex.{hex_byte}
use Rattle.script_hex.proofs.put_hex.Given as goal

abbrev pub invariant-loop-byte : goal.invariant-loop-byte
invariant-loop-byte l = (l.k ≡ l.at + 2 * l.byte-index) × Put l.initial.out l.at (flat_map hex_byte (take l.byte-index l.bytes)) l.out l.k
