-- What the functions that read a line ensure.
use Rattle.std.specs.Prelude.{◌≡◌, List, [], ◌∷◌, ◌++◌, Bool, true, false, ℕ, ◌≤◌, ◌<◌, length, get_or, take, drop}
use Rattle.std.proofs.Math.Option.{none, some}
use Rattle.script_words.specs.Words.{words_of, number_of, numbers_of}

-- the words behind the word that ends where s begins
unfoldable pub behind_word : List ℕ → List (List ℕ)
behind_word [] = []
behind_word (c ∷ cs) = words_of cs

-- the first word of s has n bytes
pub record WordEnds (s : List ℕ) (n : ℕ) : Type 0 where
  pub within : n ≤ length s
  pub splits : words_of s ≡ take n s ∷ behind_word (drop n s)

-- the numbers in front of the first word that is missing or no number within its bound
unfoldable pub leading : List ℕ → List (List ℕ) → List ℕ
leading [] ws = []
leading (m ∷ ms) [] = []
leading (m ∷ ms) (w ∷ ws) = elim (number_of m w) [ none ↦ [] | some n ↦ n ∷ leading ms ws ]

-- a number for each word: the cells then begin with them. Cells keep what they had behind the numbers that were read.
pub record NumbersRead (mosts : List ℕ) (words : List (List ℕ)) (cells cells' : List ℕ) (r : Bool) : Type 0 where
  pub bad : r ≡ false → numbers_of mosts words ≡ none
  pub good : r ≡ true → numbers_of mosts words ≡ some (take (length mosts) cells')
  pub small : (i : ℕ) → r ≡ true → i < length mosts → get_or cells' i 0 ≤ get_or mosts i 0
  pub holds : cells' ≡ leading mosts words ++ drop (length (leading mosts words)) cells
