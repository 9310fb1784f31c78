-- The words of a line of a script, and the numbers that they are. Bytes are ASCII: 32 is a space, 48 is `0`.
use Rattle.std.specs.Prelude.{List, [], ◌∷◌, ◌++◌, Bool, true, false, ◌&&◌, ℕ, ◌+◌, ◌-◌, ◌*◌, leb, ltb, eqb, length}
use Rattle.std.proofs.Math.Option.{Option, none, some}
use Rattle.lists.specs.Search.{all, when}

unfoldable pub same : List ℕ → List ℕ → Bool
same [] [] = true
same [] (y ∷ ys) = false
same (x ∷ xs) [] = false
same (x ∷ xs) (y ∷ ys) = eqb x y && same xs ys

-- "words separated by one space": two spaces have an empty word between them
unfoldable pub in_front : List ℕ → List (List ℕ) → List (List ℕ)
in_front xs [] = xs ∷ []
in_front xs (w ∷ ws) = (xs ++ w) ∷ ws

unfoldable pub words_of : List ℕ → List (List ℕ)
words_of [] = [] ∷ []
words_of (c ∷ cs) = elim (eqb c 32) [ true ↦ [] ∷ words_of cs | false ↦ in_front (c ∷ []) (words_of cs) ]

-- "Numbers are decimal."
unfoldable pub is_digit : ℕ → Bool
is_digit c = leb 48 c && leb c 57

-- the number of which n and then the digits are written
unfoldable pub value_from : ℕ → List ℕ → ℕ
value_from n [] = n
value_from n (c ∷ cs) = value_from (10 * n + (c - 48)) cs

unfoldable pub number_of : ℕ → List ℕ → Option ℕ
number_of most w = when (ltb 0 (length w) && all is_digit w && leb (value_from 0 w) most) (value_from 0 w)

-- a number for each word, at most its bound
unfoldable pub before : ℕ → Option (List ℕ) → Option (List ℕ)
before n none = none
before n (some ns) = some (n ∷ ns)

unfoldable pub numbers_of : List ℕ → List (List ℕ) → Option (List ℕ)
numbers_of [] [] = some []
numbers_of [] (w ∷ ws) = none
numbers_of (m ∷ ms) [] = none
numbers_of (m ∷ ms) (w ∷ ws) = elim (number_of m w) [ none ↦ none | some n ↦ before n (numbers_of ms ws) ]
