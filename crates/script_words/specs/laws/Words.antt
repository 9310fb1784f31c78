-- Laws of words: lists that are told to be the same are, and only they, every line begins with a word, and the words behind a place.
use Rattle.std.specs.Prelude.{◌≡◌, refl, List, [], ◌∷◌, ◌≢◌, ◌↔◌, Bool, true, false, ℕ, suc, ◌+◌, ◌<◌, length, take, drop, eqb}
use Rattle.std.proofs.Common.{ap, ◌∙◌, add-one, arith, drop-cons, drop-drop, eqb-true, eq-eqb}
use Rattle.std.proofs.Math.Option.{none}
use Rattle.lists.specs.laws.Bools.{both_true, true-both, not-both, same_test}
use Rattle.lists.specs.laws.Answers.{it-is-not}
use Rattle.script_words.specs.Words.{same, in_front, words_of, numbers_of}
use Rattle.script_words.specs.Reading.{WordEnds, behind_word}

pub same_true : (a b : List ℕ) → same a b ≡ true → a ≡ b
unfolding same
same_true [] [] h = refl
same_true [] (y ∷ ys) h = not-both h refl
same_true (x ∷ xs) [] h = not-both h refl
same_true (x ∷ xs) (y ∷ ys) h = let p = both_true (eqb x y) (same xs ys) h in rw (eqb-true x y p.0, same_true xs ys p.1)

same-itself : (a : List ℕ) → same a a ≡ true
unfolding same
same-itself [] = refl
same-itself (x ∷ xs) = true-both (eq-eqb x x refl) (same-itself xs)

-- whoever says whether two lists are equal says what `same` does
pub same-says : (a b : List ℕ) {r : Bool} → (r ≡ true) ↔ (a ≡ b) → same a b ≡ r
same-says a b {r} says = same_test (same a b) r (λ e. says.1 (same_true a b e)) (λ e. rw (says.0 e) (same-itself b))

pub same-lengths : (a b : List ℕ) → length a ≢ length b → same a b ≡ false
same-lengths a b n = same-says a b (it-is-not (λ e. n (ap length e)))

pub first_word : (s : List ℕ) → (n : ℕ) × WordEnds s n
unfolding words_of in_front behind_word
first_word [] = (0, record { within = omega arith; splits = refl })
first_word (c ∷ cs) = go (first_word cs) (eqb c 32) refl
  where
    go : (n : ℕ) × WordEnds cs n → (b : Bool) → eqb c 32 ≡ b → (n : ℕ) × WordEnds (c ∷ cs) n
    go ih true e = (0, record { within = omega arith; splits = rw (e, words_of) })
    go (n, w) false e = (suc n, record { within = omega (arith, w.within); splits = rw (e, words_of, w.splits) })

in-front-none : (c : ℕ) (ws : List (List ℕ)) → in_front [] (in_front (c ∷ []) ws) ≡ in_front (c ∷ []) ws
unfolding in_front
in-front-none c [] = refl
in-front-none c (w ∷ ws) = refl

-- the first i bytes hold no space
abbrev pub InWord : List ℕ → ℕ → Type 0
InWord s i = words_of s ≡ in_front (take i s) (words_of (drop i s))

pub in-word-begin : (s : List ℕ) → InWord s 0
unfolding words_of in_front
in-word-begin [] = refl
in-word-begin (c ∷ cs) = go (eqb c 32) refl
  where
    go : (b : Bool) → eqb c 32 ≡ b → words_of (c ∷ cs) ≡ in_front [] (words_of (c ∷ cs))
    go true e = rw (e, words_of)
    go false e = rw (e, words_of, in-front-none c (words_of cs))

-- there is a word behind every space, so that words are left where the line goes on
pub left_over : (line : List ℕ) (at : ℕ) → at < length line → numbers_of [] (behind_word (drop at line)) ≡ none
unfolding numbers_of behind_word in_front
left_over line at h = rw (drop-cons line at 0 h, behind_word) (ap (numbers_of []) (in-word-begin (drop (suc at) line)) ∙ some_word (words_of (drop (suc at) line)))
  where
    some_word : (ws : List (List ℕ)) → numbers_of [] (in_front [] ws) ≡ none
    some_word [] = refl
    some_word (w ∷ ws) = refl

-- the words behind a place, where there is a further one
pub more-words : (line s : List ℕ) (at size : ℕ) → at < length line → s ≡ drop (at + 1) line → WordEnds s size
    → behind_word (drop at line) ≡ take size s ∷ behind_word (drop (at + 1 + size) line)
unfolding behind_word
more-words line s at size h e w =
    rw (drop-cons line at 0 h, behind_word, ← add-one at, ← e) w.splits
    ∙ ap (λ (l : List ℕ). take size s ∷ behind_word l) (ap (drop size) e ∙ drop-drop size (at + 1) line)
