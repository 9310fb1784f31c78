-- The first word of a line ends at the first space. Assumes nothing.
use Rattle.std.specs.Prelude.{◌≡◌, refl, List, [], ◌∷◌, Bool, true, false, not, cond, Option, Some, None, unwrap_or, ℕ, ◌+◌, eqb, ltb, length}
use Rattle.std.specs.List.{position_or_len}
use Rattle.std.proofs.Common.{ap, ◌∙◌, arith, one-add, ltb-false}
use Rattle.script_words.specs.Words.{in_front, words_of}
use Rattle.script_words.specs.Reading.{WordEnds, behind_word}

abbrev pub is_space : ℕ → Bool
is_space c = eqb c 32

pub word-ends : (s : List ℕ) → WordEnds s (position_or_len is_space s)
unfolding words_of in_front behind_word
word-ends [] = record { within = omega arith; splits = refl }
word-ends (c ∷ cs) = go (word-ends cs) (eqb c 32) refl
  where
    go : WordEnds cs (position_or_len is_space cs) → (b : Bool) → eqb c 32 ≡ b → WordEnds (c ∷ cs) (cond (not b) (1 + position_or_len is_space cs) 0)
    go w true e = record { within = omega arith; splits = rw (e, words_of) }
    go w false e = record { within = omega (arith, w.within); splits = rw (e, words_of, w.splits, one-add) }

-- the place of the first space, and the length where there is none
pub word-told : (s : List ℕ) {r : ℕ} (o : Option ℕ) → o ≡ cond (ltb (position_or_len is_space s) (length s)) (Some (position_or_len is_space s)) None
    → r ≡ unwrap_or o (length s) → WordEnds s r
word-told s {r} o found told = let is = go (ltb p (length s)) refl in rw is (word-ends s)
  where
    p : ℕ
    p = position_or_len is_space s

    go : (b : Bool) → ltb p (length s) ≡ b → r ≡ p
    go true e = told ∙ ap (λ (q : Option ℕ). unwrap_or q (length s)) (rw e at found)
    go false e =
        let n : length s ≡ p = omega (arith, ltb-false p (length s) e, (word-ends s).within) in
        told ∙ ap (λ (q : Option ℕ). unwrap_or q (length s)) (rw e at found) ∙ n
