-- Several words read as numbers, one after the other. Assumes nothing.
use mathlib.Core.Path.{◌≡◌, refl, sym, ap, ◌∙◌}
use mathlib.Core.List.{List, [], ◌∷◌, ◌++◌, append-nil, append_assoc}
use mathlib.Core.Option.{Option, none, some}
use mathlib.Core.Bool.{Bool, true, false}
use Prim.Native.Nat.{ℕ, suc, ◌+◌, ◌≤◌, ◌<◌}
use native.Mathlib.Decide.{ℕ_discrete}
use native.Mathlib.Numerals.{add-one}
use native.Mathlib.Omega.{arith}
use lib.ListN.{length, get_or, set, take, drop, length-set, length-drop, take-append-drop, drop_of_length-le}
use lib.Seq.{length-take-le, drop-cons, drop-drop, drop-set-lt, take-suc-set, get_or-set_same, get_or-set_other}
use lib.Dec.{eqb}
use borrow.Author.Tests.{eqb-true, eqb-false}
use Rattle.std.specs.Prelude.{Some, None}
use Rattle.lists.specs.Options.{as_option}
use Rattle.lists.specs.laws.Bools.{not-both}
use Rattle.script_words.specs.Words.{number_of, before, numbers_of}
use Rattle.script_words.specs.Reading.{WordEnds, behind_word, leading, NumbersRead}
use Rattle.script_words.specs.laws.Words.{left_over, more-words}
use Rattle.script_words.specs.laws.Numbers.{number-most}

-- what the code's option says of a number
none_is : (o : Option ℕ) → None ≡ as_option o → o ≡ none
none_is none e = refl
none_is (some n) e = cc

some_is : (o : Option ℕ) (n : ℕ) → Some n ≡ as_option o → o ≡ some n
some_is none n e = cc
some_is (some m) n e = cc

-- numbers in front of others
unfoldable pub with_front : List ℕ → Option (List ℕ) → Option (List ℕ)
with_front xs none = none
with_front xs (some ns) = some (xs ++ ns)

front-none : (o : Option (List ℕ)) → o ≡ with_front [] o
unfolding with_front
front-none none = refl
front-none (some ns) = refl

front-more : (xs : List ℕ) (n : ℕ) (o : Option (List ℕ)) → with_front xs (before n o) ≡ with_front (xs ++ (n ∷ [])) o
unfolding before with_front
front-more xs n none = refl
front-more xs n (some ns) = rw (append_assoc xs (n ∷ []) ns)

-- the first i numbers are read, the words up to a place: what is left decides
pub record FirstRead (mosts : List ℕ) (ws : List (List ℕ)) (line cells out : List ℕ) (at i : ℕ) : Type 0 where
  pub upto : i ≤ length mosts
  pub within : at ≤ length line
  pub room : length mosts ≤ length cells
  pub size : length out ≡ length cells
  pub reads : numbers_of mosts ws ≡ with_front (take i out) (numbers_of (drop i mosts) (behind_word (drop at line)))
  pub leads : leading mosts ws ≡ take i out ++ leading (drop i mosts) (behind_word (drop at line))
  pub rest : drop i out ≡ drop i cells
  pub small : (k : ℕ) → k < i → get_or out k 0 ≤ get_or mosts k 0

pub read-begin : (mosts line cells : List ℕ) (end : ℕ) → end ≤ length line → length mosts ≤ length cells → FirstRead mosts (behind_word (drop end line)) line cells cells end 0
read-begin mosts line cells end h m = record {
  upto = omega arith;
  within = h;
  room = m;
  size = refl;
  reads = front-none (numbers_of mosts (behind_word (drop end line)));
  leads = refl;
  rest = refl;
  small = λ k g. absurd (omega arith);
}

module _ {mosts : List ℕ} {ws : List (List ℕ)} {line cells out : List ℕ} {at i : ℕ} (f : FirstRead mosts ws line cells out at i) where
  -- no number is read any more
  stays : leading (drop i mosts) (behind_word (drop at line)) ≡ [] → out ≡ leading mosts ws ++ drop (length (leading mosts ws)) cells
  stays e =
      let l : leading mosts ws ≡ take i out = f.leads ∙ rw (e, append-nil) in
      let n : length (take i out) ≡ i = length-take-le i out (omega (arith, f.upto, f.room, f.size)) in
      sym (take-append-drop i out) ∙ rw (f.rest, l, n)

  failed : numbers_of mosts ws ≡ none → leading (drop i mosts) (behind_word (drop at line)) ≡ [] → NumbersRead mosts ws cells out false
  failed e l = record { bad = λ _. e; good = λ h. not-both h refl; small = λ i h _. not-both h refl; holds = stays l }

  pub word-missing : i < length mosts → at ≡ length line → NumbersRead mosts ws cells out false
  unfolding numbers_of leading behind_word with_front
  word-missing h e =
      failed (f.reads ∙ rw (drop_of_length-le line {i = at} (omega arith), drop-cons mosts i 0 h, numbers_of))
      (rw (drop_of_length-le line {i = at} (omega arith), drop-cons mosts i 0 h, leading))

  module _ (h : i < length mosts) (l : at < length line) (s : List ℕ) (e : s ≡ drop (at + 1) line) (size : ℕ) (w : WordEnds s size) where
    pub number-missing : None ≡ as_option (number_of (get_or mosts i 0) (take size s)) → NumbersRead mosts ws cells out false
    unfolding numbers_of leading with_front
    number-missing g =
        let z = none_is (number_of (get_or mosts i 0) (take size s)) g in
        failed (f.reads ∙ rw (more-words line s at size l e w, drop-cons mosts i 0 h, numbers_of, z))
        (rw (more-words line s at size l e w, drop-cons mosts i 0 h, leading, z))

    pub read_next : (n : ℕ) → Some n ≡ as_option (number_of (get_or mosts i 0) (take size s)) → FirstRead mosts ws line cells (set out i n) (at + 1 + size) (i + 1)
    unfolding numbers_of leading
    read_next n g = record {
      upto = omega arith;
      within = omega (arith, w.within, ap length e, length-drop (at + 1) line);
      room = f.room;
      size = length-set out i n ∙ f.size;
      reads = f.reads ∙ rw (more-words line s at size l e w, drop-cons mosts i 0 h, numbers_of, is)
          (front-more (take i out) n _ ∙ rw (add-one i, one));
      leads = f.leads ∙ rw (more-words line s at size l e w, drop-cons mosts i 0 h, leading, is, add-one i, one, append_assoc);
      rest = drop-set-lt (i + 1) out i n (omega arith) ∙ sym (drop-drop 1 i out) ∙ ap (drop 1) f.rest ∙ drop-drop 1 i cells;
      small = λ j b. go j b (ℕ_discrete j i);
    }
      where
        is : number_of (get_or mosts i 0) (take size s) ≡ some n
        is = some_is (number_of (get_or mosts i 0) (take size s)) n g

        free : i < length out
        free = omega (arith, f.size, f.room)

        one : take (suc i) (set out i n) ≡ take i out ++ (n ∷ [])
        one = take-suc-set out i n free

        go : (j : ℕ) → j < i + 1 → Dec (j ≡ i) → get_or (set out i n) j 0 ≤ get_or mosts j 0
        go j b (yes z) = rw (z, get_or-set_same out i n 0 free) (number-most (get_or mosts i 0) (take size s) n is)
        go j b (no z) = rw (get_or-set_other out i j n 0 z) (f.small j (omega arith))

  -- every number is read: no word is to be left
  pub read-end : length mosts ≤ i → NumbersRead mosts ws cells out (eqb at (length line))
  unfolding numbers_of leading behind_word with_front
  read-end h = go (eqb at (length line)) refl
    where
      n : i ≡ length mosts
      n = omega (arith, f.upto)

      all : drop i mosts ≡ []
      all = drop_of_length-le mosts {i = i} h

      go : (b : Bool) → eqb at (length line) ≡ b → NumbersRead mosts ws cells out b
      go true e = record {
        bad = λ z. not-both refl z;
        good = λ _. f.reads ∙ rw (all, drop_of_length-le line {i = at} (omega (arith, eqb-true at (length line) e)), append-nil, n);
        small = λ j _ b. f.small j (omega (arith, n));
        holds = stays (rw all);
      }
      go false e = failed (f.reads ∙ rw (all, left_over line at (omega (arith, f.within, eqb-false at (length line) e)))) (rw all)
