-- The numbers of words are at most their bounds.
use Rattle.std.specs.Prelude.{◌≡◌, refl, List, [], ◌∷◌, ◌&&◌, ℕ, zero, suc, ◌≤◌, ◌<◌, length, get_or, ltb, leb}
use Rattle.std.proofs.Math.Option.{Option, none, some}
use Rattle.std.proofs.Common.{arith, leb-true}
use Rattle.lists.specs.Search.{all}
use Rattle.lists.specs.laws.Bools.{both_true, when-some, none-some}
use Rattle.script_words.specs.Words.{is_digit, value_from, number_of, before, numbers_of}

pub number-most : (most : ℕ) (w : List ℕ) (n : ℕ) → number_of most w ≡ some n → n ≤ most
unfolding number_of
number-most most w n e =
    let p = when-some (ltb 0 (length w) && all is_digit w && leb (value_from 0 w) most) (value_from 0 w) n e in
    let q = both_true (ltb 0 (length w) && all is_digit w) (leb (value_from 0 w) most) p.0 in
    omega (arith, leb-true (value_from 0 w) most q.1, p.1)

pub each-most : (ms : List ℕ) (ws : List (List ℕ)) (ns : List ℕ) (i : ℕ) → numbers_of ms ws ≡ some ns → i < length ms → get_or ns i 0 ≤ get_or ms i 0
unfolding numbers_of before
each-most [] ws ns i e h = absurd (omega arith)
each-most (m ∷ ms) [] ns i e h = none-some e
each-most (m ∷ ms) (w ∷ ws) ns i e h = go (number_of m w) refl (numbers_of ms ws) refl (each-most ms ws)
  where
    go : (o : Option ℕ) → number_of m w ≡ o → (q : Option (List ℕ)) → numbers_of ms ws ≡ q
        → ((rs : List ℕ) (j : ℕ) → numbers_of ms ws ≡ some rs → j < length ms → get_or rs j 0 ≤ get_or ms j 0) → get_or ns i 0 ≤ get_or (m ∷ ms) i 0
    go none f q g ih = none-some (rw (f, numbers_of) at e)
    go (some n) f none g ih = none-some (rw (f, numbers_of, g) at e)
    go (some n) f (some rs) g ih = let z : n ∷ rs ≡ ns = cc (rw (f, numbers_of, g) at e) in rw (← z) (by i h)
      where
        by : (j : ℕ) → j < length (m ∷ ms) → get_or (n ∷ rs) j 0 ≤ get_or (m ∷ ms) j 0
        by zero l = number-most m w n f
        by (suc j) l = ih rs j g (omega arith)
