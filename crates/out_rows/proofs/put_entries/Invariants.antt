-- `put_entries` meets its contract. The loop's invariant: the fields of the eights so far are put. Assumes nothing.
use Prim.Native.Nat.{ℕ, ◌*◌, ◌/◌}
use Rattle.lists.specs.laws.Puts.{Turns}
use Rattle.out_rows.specs.Out.{eight_bytes}
use Rattle.out_rows.proofs.put_entries.Given as goal

abbrev pub invariant-loop-eight : goal.invariant-loop-eight
invariant-loop-eight l = Turns (λ (r : ℕ). eight_bytes l.rows l.spans l.aims (8 * r)) (l.cells / 8) l.initial.out l.at l.out l.k l.eight
