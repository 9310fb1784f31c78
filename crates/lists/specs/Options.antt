-- An option of the code, as the definitions tell it.
use Rattle.std.specs.Prelude.{ℕ, cond, ltb, Option, Some, None}
use Rattle.std.proofs.Math.Option as maybe

abbrev pub as_option : {A : Type 0} → maybe.Option A → Option A
as_option maybe.none = None
as_option (maybe.some x) = Some x

-- a place where it is one of the first n, else none
abbrev pub if_below : ℕ → ℕ → Option ℕ
if_below n k = cond (ltb k n) (Some k) None
