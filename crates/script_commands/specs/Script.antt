-- "The script that `replay` reads": one line of it as a command. Bytes are ASCII: 35 is `#`.
use Rattle.std.specs.Prelude as prelude
use Rattle.std.specs.Prelude.{List, [], ◌∷◌, true, false, ℕ, eqb, get_or}
use Rattle.std.proofs.Math.Option.{none, some}
use Rattle.rules_plan.specs.Print.{text}
use Rattle.script_words.specs.Words.{same, words_of, numbers_of}
use Rattle.script_hex.specs.Hex.{bytes_of}
use Rattle.script_commands.specs.Kind.{Kind}
use Rattle.script_commands.specs.Kind as kind
use Rattle.script_commands.specs.declared.command.Command.{Command}
use Rattle.script_commands.specs.declared.command.Command.TheVariants.{Skip, Bad, Load, Clear, TimeCode, Request, Reply, Reading, Out, Watchdog, SetWatchdog, Sheet, Next, Blank, Holds}

-- the greatest numbers that may stand behind a command's name, and the command that they make
unfoldable pub mosts : Kind → List ℕ
-- "BYTE CLOCK BUF", "BUF (0 to 4,096)"
mosts kind.TimeCode = 255 ∷ 4_294_967_295 ∷ 4_096 ∷ []
-- "I T K L", "(I, T, K 0 to 255, L 0 to 65,535)"
mosts kind.Request = 255 ∷ 255 ∷ 255 ∷ 65_535 ∷ []
-- "I NUM STATUS", "(I, STATUS 0 to 255, NUM 0 to 65,535)"
mosts kind.Reply = 255 ∷ 65_535 ∷ 255 ∷ []
mosts kind.Reading = 4_294_967_295 ∷ []
-- "ROOM bytes (0 to 32,768)"
mosts kind.Out = 32_768 ∷ []
-- "LAST SEEN REPORTED LEAST GREATEST"
mosts kind.SetWatchdog = 4_294_967_295 ∷ 4_294_967_295 ∷ 4_294_967_295 ∷ 4_294_967_295 ∷ 4_294_967_295 ∷ []
-- "R S D A DD F G", "(R 0 to 255, S, D 0 to 65,535, latencies 0 to 4,294,967,295)"
mosts kind.Sheet = 255 ∷ 65_535 ∷ 65_535 ∷ 4_294_967_295 ∷ 4_294_967_295 ∷ 4_294_967_295 ∷ 4_294_967_295 ∷ []
-- T-03: "RC RR S D A DD F G", "with RC routers on the command's way and RR on the reply's"
mosts kind.SheetBoth = 255 ∷ 255 ∷ 65_535 ∷ 65_535 ∷ 4_294_967_295 ∷ 4_294_967_295 ∷ 4_294_967_295 ∷ 4_294_967_295 ∷ []
-- T-04: "I T D SLOT", "(I, T, SLOT 0 to 255, D 0 to 65,535)"
mosts kind.Next = 255 ∷ 255 ∷ 65_535 ∷ 255 ∷ []

unfoldable pub made : Kind → List ℕ → Command
made kind.TimeCode ns = TimeCode (get_or ns 0 0) (get_or ns 1 0) (get_or ns 2 0)
made kind.Request ns = Request (get_or ns 0 0) (get_or ns 1 0) (get_or ns 2 0) (get_or ns 3 0)
made kind.Reply ns = Reply (get_or ns 0 0) (get_or ns 1 0) (get_or ns 2 0)
made kind.Reading ns = Reading (get_or ns 0 0)
made kind.Out ns = Out (get_or ns 0 0)
made kind.SetWatchdog ns = SetWatchdog (get_or ns 0 0) (get_or ns 1 0) (get_or ns 2 0) (get_or ns 3 0) (get_or ns 4 0)
made kind.Sheet ns = Sheet (get_or ns 0 0) (get_or ns 0 0) (get_or ns 1 0) (get_or ns 2 0) (get_or ns 3 0) (get_or ns 4 0) (get_or ns 5 0) (get_or ns 6 0)
made kind.SheetBoth ns = Sheet (get_or ns 0 0) (get_or ns 1 0) (get_or ns 2 0) (get_or ns 3 0) (get_or ns 4 0) (get_or ns 5 0) (get_or ns 6 0) (get_or ns 7 0)
made kind.Next ns = Next (get_or ns 0 0) (get_or ns 1 0) (get_or ns 2 0) (get_or ns 3 0)

-- the table: a command's name, and the command by the words behind it
unfoldable pub numbered : Kind → List (List ℕ) → Command
numbered k ws = elim (numbers_of (mosts k) ws) [ none ↦ Bad | some ns ↦ made k ns ]

-- what the functions that read a command answer: none is a line that is no command
abbrev pub or_bad : prelude.Option Command → Command
or_bad prelude.None = Bad
or_bad (prelude.Some c) = c

unfoldable pub with_bytes : Command → List (List ℕ) → Command
with_bytes c [] = Bad
with_bytes c (w ∷ []) = elim (bytes_of w) [ none ↦ Bad | some bytes ↦ c ]
with_bytes c (w ∷ v ∷ vs) = Bad

unfoldable pub alone : Command → List (List ℕ) → Command
alone c [] = c
alone c (w ∷ ws) = Bad

abbrev pub Row : Type 0
Row = List ℕ × (List (List ℕ) → Command)

unfoldable pub commands : List Row
commands =
    (text "load", with_bytes (Load 5))
    ∷ (text "clear", alone Clear)
    ∷ (text "tc", numbered kind.TimeCode)
    ∷ (text "req", numbered kind.Request)
    ∷ (text "rep", numbered kind.Reply)
    ∷ (text "clk", numbered kind.Reading)
    ∷ (text "out", numbered kind.Out)
    ∷ (text "wd", alone Watchdog)
    ∷ (text "setwd", numbered kind.SetWatchdog)
    ∷ (text "sheet", numbered kind.Sheet)
    ∷ (text "sheet2", numbered kind.SheetBoth)
    ∷ (text "next", numbered kind.Next)
    ∷ (text "blank", alone Blank)
    ∷ (text "holds", with_bytes (Holds 6))
    ∷ []

unfoldable pub named : List Row → List ℕ → List (List ℕ) → Command
named [] name ws = Bad
named (r ∷ rs) name ws = elim (same name r.0) [ true ↦ r.1 ws | false ↦ named rs name ws ]

unfoldable pub of_words : List (List ℕ) → Command
of_words [] = Bad
of_words (name ∷ ws) = named commands name ws

-- "An empty line or one that begins with `#` is skipped"
unfoldable pub command_of : List ℕ → Command
command_of [] = Skip
command_of (c ∷ cs) = elim (eqb c 35) [ true ↦ Skip | false ↦ of_words (words_of (c ∷ cs)) ]
