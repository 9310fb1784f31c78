-- Bytes put into a lent buffer, one run after another.
use Rattle.std.specs.Prelude.{◌≡◌, List, ℕ, ◌+◌, length}
use Rattle.std.proofs.lemmas.List.Edits.{sets}

-- after is before with ys stored from place i on, and k is the next place
pub record Put (before : List ℕ) (i : ℕ) (ys after : List ℕ) (k : ℕ) : Type 0 where
  pub next : k ≡ i + length ys
  pub holds : after ≡ sets before i ys
