-- A command by the words behind its name. Assumes nothing.
use mathlib.Core.Path.{◌≡◌, refl, sym, ap, ◌∙◌}
use mathlib.Core.List.{List, [], ◌∷◌}
use mathlib.Core.Option.{Option, none, some}
use Rattle.std.specs.Prelude as prelude
use Rattle.std.specs.Prelude.{Some, None}
use mathlib.Core.Bool.{true, false}
use Prim.Native.Nat.{ℕ, suc, ◌+◌, ◌≤◌, ◌<◌}
use native.Mathlib.Omega.{arith}
use lib.ListN.{length, get_or, take, drop, length-drop, drop_of_length-le}
use lib.Seq.{drop-cons, take_all}
use Rattle.lists.specs.Options.{as_option}
use Rattle.lists.specs.Search.{is_some}
use Rattle.lists.specs.laws.Bools.{none-some, not_some, is-some}
use Rattle.script_words.specs.Words.{in_front, words_of, numbers_of}
use Rattle.script_words.specs.Reading.{WordEnds, behind_word}
use Rattle.script_words.specs.laws.Words.{in-word-begin, left_over, more-words}
use Rattle.script_words.specs.laws.Numbers.{each-most}
use Rattle.script_hex.specs.Hex.{bytes_of}
use Rattle.script_commands.specs.Kind.{Kind}
use Rattle.script_commands.specs.declared.command.Command.{Command}
use Rattle.script_commands.specs.declared.command.Command.TheVariants.{Bad}
use Rattle.script_commands.specs.Script.{mosts, made, numbered, with_bytes, alone}

-- a command that is its name
pub no_words : (c : Command) (line : List ℕ) (end : ℕ) → end ≡ length line → c ≡ alone c (behind_word (drop end line))
unfolding alone behind_word
no_words c line end e = rw (drop_of_length-le line {i = end} (omega arith))

pub some_words : (c : Command) (line : List ℕ) (end : ℕ) → end < length line → Bad ≡ alone c (behind_word (drop end line))
unfolding alone numbers_of
some_words c line end h = go (behind_word (drop end line)) (left_over line end h)
  where
    go : (ws : List (List ℕ)) → numbers_of [] ws ≡ none → Bad ≡ alone c ws
    go [] e = none-some (sym e)
    go (w ∷ ws) e = refl

-- a command with a byte string
module _ (c : Command) where
  pub bytes-missing : (line : List ℕ) (end : ℕ) → end ≡ length line → Bad ≡ with_bytes c (behind_word (drop end line))
  unfolding with_bytes behind_word
  bytes-missing line end e = rw (drop_of_length-le line {i = end} (omega arith))

  module _ (line s : List ℕ) (end size : ℕ) (h : end < length line) (e : s ≡ drop (end + 1) line) (w : WordEnds s size) where
    pub bytes-and-more : (size ≡ length s → ⊥) → Bad ≡ with_bytes c (behind_word (drop end line))
    unfolding with_bytes behind_word in_front
    bytes-and-more k =
        rw (more-words line s end size h e w, drop-cons line (end + 1 + size) 0 (omega (arith, w.within, ap length e, length-drop (end + 1) line)), behind_word)
        (rw (in-word-begin (drop (suc (end + 1 + size)) line)) (second (words_of (drop (suc (end + 1 + size)) line))))
      where
        second : (ws : List (List ℕ)) → Bad ≡ with_bytes c (take size s ∷ in_front [] ws)
        second [] = refl
        second (v ∷ vs) = refl

    one_word : size ≡ length s → behind_word (drop end line) ≡ s ∷ []
    unfolding behind_word
    one_word k =
        more-words line s end size h e w
        ∙ rw (take_all size s (omega arith), drop_of_length-le line {i = end + 1 + size} (omega (arith, ap length e, length-drop (end + 1) line)))

    pub no_bytes : size ≡ length s → is_some (bytes_of s) ≡ false → Bad ≡ with_bytes c (behind_word (drop end line))
    unfolding with_bytes
    no_bytes k n = rw (one_word k, not_some (bytes_of s) n, with_bytes)

    pub some_bytes : size ≡ length s → is_some (bytes_of s) ≡ true → c ≡ with_bytes c (behind_word (drop end line))
    unfolding with_bytes
    some_bytes k n = rw (one_word k, (is-some (bytes_of s) n).1, with_bytes)

-- a command of numbers, by what was read of the words
none_read : {A : Type 0} (o : Option A) → None ≡ as_option o → o ≡ none
none_read none e = refl
none_read (some x) e = let z : ◌≡◌ {A = ℕ} 0 1 = cc e in absurd (omega arith)

some_read : {A : Type 0} (x : A) (o : Option A) → Some x ≡ as_option o → o ≡ some x
some_read x none e = let z : ◌≡◌ {A = ℕ} 0 1 = cc e in absurd (omega arith)
some_read x (some y) e = let z : y ≡ x = cc e in ap some z

module _ (k : Kind) (ws : List (List ℕ)) {r : prelude.Option (List ℕ)} (read : r ≡ as_option (numbers_of (mosts k) ws)) where
  pub no_numbers : r ≡ None → Bad ≡ numbered k ws
  unfolding numbered
  no_numbers e = rw (none_read (numbers_of (mosts k) ws) (sym e ∙ read), numbered)

  module _ (ns : List ℕ) (e : r ≡ Some ns) where
    pub in_bound : (i : ℕ) → i < length (mosts k) → get_or ns i 0 ≤ get_or (mosts k) i 0
    in_bound i h = each-most (mosts k) ws ns i (some_read ns (numbers_of (mosts k) ws) (sym e ∙ read)) h

    pub all_numbers : made k ns ≡ numbered k ws
    unfolding numbered
    all_numbers = rw (some_read ns (numbers_of (mosts k) ws) (sym e ∙ read), numbered)
