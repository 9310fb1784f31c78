-- A path stored: its target in the reach of its row, one path more, and its eleven bytes where room is made.
use Rattle.std.specs.Prelude.{◌≡◌, List, ℕ, ◌+◌, ◌^◌, ◌<◌, ◌*◌, ◌≤◌, set, length}
use Rattle.std.proofs.Common.{ap, ◌∙◌, arith}
use Rattle.std.proofs.Math.Seq.{paste}
use Rattle.lists.specs.Insert.{moved}
use Rattle.bitsets.specs.Set.{member, added}
use Rattle.bitsets.specs.Packed.{packed-is}
use Rattle.rules_plan.specs.Plan.{nth, Route}
use Rattle.load_paths.specs.Keep.{kept_reach, kept_numbers, kept_paths}
use Rattle.load_path_places.specs.Places.{own_row, with_row, with_count, IsPlace}
use Rattle.lists.specs.laws.Moved.{length_moved, moved-put}
use Rattle.memory_plan.specs.Memory.{path_row}
use Rattle.memory_plan.specs.laws.PathRows.{row-length}
use Rattle.load_path_places.specs.laws.OwnRow.{count-keeps}

-- the target added to what the row reaches
pub reach-stored : (rows reach own : List ℕ) (count r w : ℕ) (x : Route) → r ≡ own_row rows count x.start → own ≡ with_row rows count x.start 0 reach
    → w < 2 ^ 64 → ((k : ℕ) → member k w ≡ added x.end (nth own r) k) → set own r w ≡ kept_reach rows reach count x
unfolding kept_reach
reach-stored rows reach own count r w x e f h a =
    ap (set own r) (packed-is w (added x.end (nth own r)) h (λ k _. a k)) ∙ (rw (e, f))

-- one path more
pub numbers-stored : (rows numbers now : List ℕ) (i : ℕ) → now ≡ with_count rows numbers i → set now 3 (nth now 3 + 1) ≡ kept_numbers rows numbers i
unfolding kept_numbers
numbers-stored rows numbers now i e = rw (e, count-keeps rows numbers i)

-- room made at the path's place, and its bytes put there
pub paths-stored : (paths qs rs : List ℕ) (c n k : ℕ) (x : Route) → length paths ≡ 2816 → length x.links ≤ 8 → c ≡ n → n < 128
    → (k ≤ c) × ((m : ℕ) → IsPlace paths c x.start x.end m → k ≡ m)
    → (length paths ≡ 2816 → qs ≡ moved 11 (k * 11) (c * 11) paths) → (length qs ≡ 2816 → rs ≡ paste qs (k * 11) (path_row x) 11)
    → (m : ℕ) → IsPlace paths n x.start x.end m → rs ≡ kept_paths paths n m x
unfolding kept_paths
paths-stored paths qs rs c n k x e l q h f g r m p =
    let a = g e in
    let b : length qs ≡ 2816 = ap length a ∙ length_moved 11 (k * 11) (c * 11) paths (omega arith) (omega arith) ∙ e in
    let d : k ≡ m = f.1 m (rw q p) in
    r b ∙ ap (λ (l : List ℕ). paste l (k * 11) (path_row x) 11) a ∙ moved-put 11 (k * 11) (c * 11) (path_row x) paths (row-length x l) (omega arith) (omega arith) ∙ (rw (d, q))
