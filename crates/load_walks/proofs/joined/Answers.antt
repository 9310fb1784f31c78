-- `walks::joined` meets its contract: the bits of the two ends, which stand beside each other.
use mathlib.Core.Path.{◌≡◌, ap₂, ◌∙◌}
use mathlib.Core.List.{List}
use mathlib.Core.Bool.{◌||◌}
use Prim.Native.Nat.{ℕ, ◌+◌, ◌*◌, ◌%◌, ◌<◌}
use native.Mathlib.Omega.{arith}
use lib.Bits.{bit_or}
use Rattle.bitsets.specs.Set.{member, alone}
use Rattle.bitsets.specs.Laws.{member-or}
use Rattle.rules_plan.specs.Plan.{nth}
use Rattle.load_walks.proofs.joined.Goals as goal

two_ends : (ends : List ℕ) (link a b : ℕ) → (nth ends (link % 64 * 2) < 64 → (k : ℕ) → member k a ≡ alone (nth ends (link % 64 * 2)) k)
    → (nth ends (link % 64 * 2 + 1) < 64 → (k : ℕ) → member k b ≡ alone (nth ends (link % 64 * 2 + 1)) k)
    → link < 64 → nth ends (link * 2) < 64 → nth ends (link * 2 + 1) < 64
    → (k : ℕ) → member k (bit_or a b) ≡ (alone (nth ends (link * 2)) k || alone (nth ends (link * 2 + 1)) k)
two_ends ends link a b f g h i j k =
    let e : link % 64 ≡ link = omega arith in
    member-or k a b ∙ ap₂ (λ x y. x || y) ((rw e at f) i k) ((rw e at g) j k)

pub returns : goal.returns
returns c =
    let a = c.args in
    two_ends a.ends.now a.link c.bit_of.result c.bit_of-2.result c.bit_of.ensures c.bit_of-2.ensures
