-- A line that is too long: by its first byte. Assumes nothing.
use mathlib.Core.Path.{◌≡◌, refl}
use mathlib.Core.List.{List, [], ◌∷◌}
use Prim.Native.Nat.{ℕ}
use native.Mathlib.Omega.{arith}
use lib.ListN.{length, get_or}
use borrow.Author.Tests.{eq-eqb, ne_eqb}
use Rattle.script_answers.specs.Texts.{error_line, over_long_line, Prints}

module _ (line : List ℕ) (n : ℕ) {l : List ℕ} where
  pub hash : get_or line 0 0 ≡ 35 → Prints (over_long_line line n) l l 0
  unfolding over_long_line
  hash h = rw (over_long_line, eq-eqb (get_or line 0 0) 35 h) (record { size = refl; holds = refl })

  pub no-hash : {o : List ℕ} {k : ℕ} → (get_or line 0 0 ≡ 35 → ⊥) → Prints (error_line n) l o k → Prints (over_long_line line n) l o k
  unfolding over_long_line
  no-hash h p = rw (over_long_line, ne_eqb (get_or line 0 0) 35 h) p

pub no_bytes : (line : List ℕ) (n : ℕ) {l o : List ℕ} {k : ℕ} → length line ≡ 0 → Prints (error_line n) l o k → Prints (over_long_line line n) l o k
no_bytes [] n h p = no-hash [] n (λ z. absurd (omega arith)) p
no_bytes (c ∷ cs) n h p = absurd (omega arith)
