-- Numbers with one space between, with one number more. Assumes nothing.
use mathlib.Core.Path.{◌≡◌}
use mathlib.Core.List.{List, [], ◌∷◌, flat_map}
use Prim.Native.Nat.{ℕ, ◌+◌, ◌≤◌, ◌<◌}
use native.Mathlib.Omega.{arith}
use lib.ListN.{length, get_or, take}
use lib.Seq.{take_all}
use Rattle.lists.specs.Puts.{Puts}
use Rattle.lists.specs.laws.Puts.{puts_none, puts_then}
use Rattle.lists.specs.laws.Stores.{flat-more}
use Rattle.rules_plan.specs.Print.{decimal, spaced, numbers}
use Rattle.script_words.specs.Lines.{in_row}

pub no-numbers : (out ns : List ℕ) (at : ℕ) → length ns ≡ 0 → Puts out at (in_row ns) out at
unfolding in_row
no-numbers out [] at h = puts_none out at
no-numbers out (n ∷ ns) at h = absurd (omega arith)

pub no-others : (out : List ℕ) (k : ℕ) → Puts out k (numbers []) out k
unfolding numbers flat_map
no-others out k = puts_none out k

pub next-number : {l o p q : List ℕ} {at k m j : ℕ} (ns : List ℕ) (i : ℕ) → i < length ns
    → Puts l at (numbers (take i ns)) o k → Puts o k (32 ∷ []) p m → Puts p m (decimal (get_or ns i 0)) q j → Puts l at (numbers (take (i + 1) ns)) q j
unfolding numbers spaced
next-number ns i h a b c = rw (flat-more spaced ns i 0 h) (puts_then a (puts_then b c))

pub every-number : {l o p ns others : List ℕ} {at k m first : ℕ} (i : ℕ) → ns ≡ first ∷ others → length others ≤ i
    → Puts l at (decimal first) o k → Puts o k (numbers (take i others)) p m → Puts l at (in_row ns) p m
unfolding in_row
every-number {others} i e g a b = rw e (puts_then a (rw (take_all i others g) at b))
