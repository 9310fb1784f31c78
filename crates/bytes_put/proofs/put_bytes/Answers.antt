-- `put_bytes` meets its contract: the buffer is what stood before, the bytes, and what stands behind them. Assumes nothing.
use Rattle.std.proofs.Common.{◌+◌, ◌-◌, ◌≡◌, length, refl, arith, append_assoc, drop-drop}
use Rattle.std.proofs.lemmas.List.Edits.{sets-eq}
use Rattle.bytes_put.proofs.put_bytes.Goals as goal

pub returns : goal.returns
returns c =
    let a = c.args in
    let n : a.at + length a.s.now - a.at ≡ length a.s.now = omega arith in
    record {
      next = refl;
      holds = rw (n, c.copy_from_slice.ensures.after, sets-eq a.s.now a.out.now a.at c.requires, append_assoc, drop-drop) refl;
    }
