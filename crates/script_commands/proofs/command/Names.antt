-- A command by its name. Assumes nothing.
use mathlib.Core.Path.{◌≡◌, refl, sym, ap, ◌∙◌}
use mathlib.Core.List.{List, [], ◌∷◌}
use mathlib.Core.Bool.{false}
use Prim.Native.Nat.{ℕ, ◌<◌}
use native.Mathlib.Omega.{arith}
use lib.ListN.{length, get_or, take, drop}
use borrow.Author.Tests.{eq-eqb, ne_eqb}
use Rattle.std.specs.Prelude.{Option, Some, None}
use Rattle.std.specs.Option.{unwrap_or}
use Rattle.rules_plan.specs.Print.{text}
use Rattle.script_words.specs.Words.{same}
use Rattle.script_words.specs.Reading.{WordEnds, behind_word}
use Rattle.script_commands.specs.declared.command.Command.{Command}
use Rattle.script_commands.specs.declared.command.Command.TheVariants.{Skip, Bad}
use Rattle.script_commands.specs.Script.{or_bad, commands, named, of_words, command_of}

-- the name that ends at a place is that of a row, and so are the words behind it read
pub by_name : (line : List ℕ) (end : ℕ) (n : List ℕ) {x : Command} → take end line ≡ n → x ≡ named commands n (behind_word (drop end line))
    → x ≡ named commands (take end line) (behind_word (drop end line))
by_name line end n e f = f ∙ sym (ap (λ (m : List ℕ). named commands m (behind_word (drop end line))) e)

-- or of none
pub no_name : (name : List ℕ) (ws : List (List ℕ)) → same name (text "load") ≡ false → same name (text "clear") ≡ false → same name (text "tc") ≡ false
    → same name (text "req") ≡ false → same name (text "rep") ≡ false → same name (text "clk") ≡ false
    → same name (text "out") ≡ false → same name (text "wd") ≡ false → same name (text "setwd") ≡ false
    → same name (text "sheet") ≡ false → same name (text "sheet2") ≡ false → same name (text "next") ≡ false
    → same name (text "blank") ≡ false → same name (text "holds") ≡ false → Bad ≡ named commands name ws
unfolding named commands
no_name name ws a b c d e f g h i j k l m n =
    rw (a, named, b, named, c, named, d, named, e, named, f, named, g, named, h, named, i, named, j, named, k, named, l, named, m, named, n, named)

pub empty-line : (s : List ℕ) → length s ≡ 0 → Skip ≡ command_of s
unfolding command_of
empty-line [] h = refl
empty-line (c ∷ cs) h = absurd (omega arith)

pub remark : (s : List ℕ) → 0 < length s → get_or s 0 0 ≡ 35 → Skip ≡ command_of s
unfolding command_of
remark [] h e = absurd (omega arith)
remark (c ∷ cs) h e = rw (eq-eqb c 35 e, command_of)

pub some-command : (s : List ℕ) (end : ℕ) → 0 < length s → (get_or s 0 0 ≡ 35 → ⊥) → WordEnds s end → named commands (take end s) (behind_word (drop end s)) ≡ command_of s
unfolding command_of of_words
some-command [] end h k w = absurd (omega arith)
some-command (c ∷ cs) end h k w = rw (ne_eqb c 35 k, command_of, w.splits)

-- what `unwrap_or` does is what the contracts say of none
pub or-bad : (o : Option Command) → unwrap_or o Bad ≡ or_bad o
or-bad None = refl
or-bad (Some c) = refl
