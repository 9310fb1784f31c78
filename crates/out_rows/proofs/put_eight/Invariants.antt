-- `writing_rows::put_eight` meets its contract. The loop's invariant: the fields of the cells from n up to j are put. Assumes nothing.
use Prim.Native.Nat.{ℕ, ◌+◌, ◌-◌, ◌≤◌}
use Rattle.lists.specs.laws.Puts.{Turns}
use Rattle.out_rows.specs.Out.{entry_bytes}
use Rattle.out_rows.proofs.put_eight.Given as goal

abbrev pub invariant-loop-j : goal.invariant-loop-j
invariant-loop-j l = (l.n ≤ l.j) × Turns (λ (s : ℕ). entry_bytes l.rows l.spans l.aims (l.n + s)) 8 l.initial.out l.at l.out l.k (l.j - l.n)
