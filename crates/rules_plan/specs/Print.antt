-- "The printed verdict": one line, words and decimal numbers with one space between, then a newline; as bytes.
use Rattle.std.specs.Prelude.{ℕ, zero, suc, ◌+◌, ◌/◌, ◌%◌, true, false, ltb}
use Prim.Native.Char.{code}
use Prim.Native.String.{String}
use mathlib.Core.List.{List, [], ◌∷◌, ◌++◌, flat_map}
use Rattle.rules_plan.specs.declared.Verdict.{Verdict}
use Rattle.rules_plan.specs.declared.Verdict.TheVariants.{Accepted, Faulty, Overrun, Clash}
use Rattle.rules_plan.specs.Verdict.{place}

-- the bytes of a text of ASCII characters
unfoldable pub text : String → List ℕ
text String.[] = []
text (String.◌∷◌ c cs) = code c ∷ text cs

-- the decimal digits of n in front of rest; k is at least the number of digits
unfoldable pub digits : ℕ → ℕ → List ℕ → List ℕ
digits zero n rest = rest
digits (suc k) n rest =
    let d = 48 + n % 10 in
    elim (ltb n 10) [ true ↦ d ∷ rest | false ↦ digits k (n / 10) (d ∷ rest) ]

unfoldable pub decimal : ℕ → List ℕ
decimal n = digits 20 n []

-- a number with a space before it, and several
unfoldable pub spaced : ℕ → List ℕ
spaced n = 32 ∷ decimal n

unfoldable pub numbers : List ℕ → List ℕ
numbers = flat_map spaced

-- "ACCEPTED devices links paths entries. REFUSED number place; for 13: initiator slot; for 14: slot, two initiators, link."
unfoldable pub words : Verdict → List ℕ
words (Accepted d l p e) = text "ACCEPTED" ++ numbers (place (Accepted d l p e))
words (Faulty n at) = text "REFUSED" ++ numbers (n ∷ place (Faulty n at))
words (Overrun i s) = text "REFUSED" ++ numbers (13 ∷ place (Overrun i s))
words (Clash s i j l) = text "REFUSED" ++ numbers (14 ∷ place (Clash s i j l))

unfoldable pub line : Verdict → List ℕ
line v = words v ++ (10 ∷ [])
