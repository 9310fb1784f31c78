-- What a line's command tells is in its range: a room, and the place at which a byte string begins.
use Rattle.std.specs.Prelude.{◌≡◌, Bool, ℕ, ◌+◌, ◌≤◌, ◌<◌, eqb, get_or}
use Rattle.std.proofs.Math.Path.{refl, sym, ap}
use Rattle.std.proofs.Common.{◌∙◌, arith, take-append-drop, drop-drop, length-take-le}
use mathlib.Core.List.{List, [], ◌∷◌, append-nil}
use Rattle.std.proofs.Math.Option.{Option, none, some}
use Rattle.std.proofs.Math.Bool.{true, false}
use Rattle.std.proofs.Math.ListN.{length, take, drop, length-drop}
use Rattle.lists.specs.Search.{is_some}
use Rattle.lists.specs.laws.Append.{Every}
use Rattle.rules_plan.specs.Print.{text}
use Rattle.script_words.specs.Words.{same, numbers_of}
use Rattle.script_words.specs.Reading.{WordEnds, behind_word}
use Rattle.script_words.specs.laws.Words.{same_true, first_word}
use Rattle.script_words.specs.laws.Numbers.{each-most}
use Rattle.script_hex.specs.Hex.{bytes_of}
use Rattle.script_commands.specs.Kind.{Kind}
use Rattle.script_commands.specs.Kind as kind
use Rattle.script_commands.specs.declared.command.Command.{Command}
use Rattle.script_commands.specs.declared.command.Command.TheVariants.{Skip, Bad, Load, Clear, TimeCode, Request, Reply, Reading, Out, Watchdog, SetWatchdog, Sheet, Next, Blank, Holds}
use Rattle.script_commands.specs.Script.{mosts, made, numbered, with_bytes, alone, Row, commands, named, of_words, command_of}

-- the line is a byte string from a place on
pub record BytesAt (s : List ℕ) (at : ℕ) : Type 0 where
  pub within : at ≤ length s
  pub bytes : is_some (bytes_of (drop at s)) ≡ true

-- "BUF (0 to 4,096)", "ROOM bytes (0 to 32,768)"
abbrev pub Tells : List ℕ → Command → Type 0
Tells s Skip = Unit {0}
Tells s Bad = Unit {0}
Tells s (Load at) = BytesAt s at
Tells s Clear = Unit {0}
Tells s (TimeCode b c r) = r ≤ 4_096
Tells s (Request i t k l) = Unit {0}
Tells s (Reply i n st) = Unit {0}
Tells s (Reading c) = Unit {0}
Tells s (Out r) = r ≤ 32_768
Tells s Watchdog = Unit {0}
Tells s (SetWatchdog l n r b g) = Unit {0}
Tells s (Sheet r h p n a d f g) = Unit {0}
Tells s (Next i t n p) = Unit {0}
Tells s Blank = Unit {0}
Tells s (Holds at) = BytesAt s at

-- one word is left: it is all that stands behind the space
one_left : (t v : List ℕ) → behind_word t ≡ v ∷ [] → (0 < length t) × (drop 1 t ≡ v)
unfolding behind_word
one_left [] v h = let z : ◌≡◌ {A = ℕ} 0 1 = cc in absurd (omega arith)
one_left (c ∷ cs) v h = let (m, w) = first_word cs in (omega arith, go m (drop m cs) refl (sym w.splits ∙ h))
  where
    go : (m : ℕ) (r : List ℕ) → drop m cs ≡ r → take m cs ∷ behind_word r ≡ v ∷ [] → cs ≡ v
    go m [] e k = sym (take-append-drop m cs) ∙ rw (e, append-nil (take m cs)) (cc)
    go m (d ∷ ds) e k = let (n, w) = first_word ds in let z : ◌≡◌ {A = ℕ} 0 1 = cc w.splits in absurd (omega arith)

module _ (s : List ℕ) where
  -- a command of numbers, one that is its name, one with a byte string, and one of a table
  made_tells : (k : Kind) (ns : List ℕ) → ((i : ℕ) → i < length (mosts k) → get_or ns i 0 ≤ get_or (mosts k) i 0) → Tells s (made k ns)
  unfolding made mosts
  made_tells kind.TimeCode ns f = f 2 (omega arith)
  made_tells kind.Request ns f = tt
  made_tells kind.Reply ns f = tt
  made_tells kind.Reading ns f = tt
  made_tells kind.Out ns f = f 0 (omega arith)
  made_tells kind.SetWatchdog ns f = tt
  made_tells kind.Sheet ns f = tt
  made_tells kind.SheetBoth ns f = tt
  made_tells kind.Next ns f = tt

  numbered-tells : (k : Kind) (ws : List (List ℕ)) → Tells s (numbered k ws)
  unfolding numbered
  numbered-tells k ws = go (numbers_of (mosts k) ws) refl
    where
      go : (o : Option (List ℕ)) → numbers_of (mosts k) ws ≡ o → Tells s (numbered k ws)
      go none e = rw (e, numbered) tt
      go (some ns) e = rw (e, numbered) (made_tells k ns (λ i h. each-most (mosts k) ws ns i e h))

  alone-tells : (c : Command) (ws : List (List ℕ)) → Tells s c → Tells s (alone c ws)
  unfolding alone
  alone-tells c [] h = h
  alone-tells c (w ∷ ws) h = tt

  bytes-tell : (c : Command) (n at : ℕ) → at ≡ n + 1 → (BytesAt s at → Tells s c) → (ws : List (List ℕ)) → behind_word (drop n s) ≡ ws → Tells s (with_bytes c ws)
  unfolding with_bytes is_some
  bytes-tell c n at e f [] h = tt
  bytes-tell c n at e f (v ∷ x ∷ xs) h = tt
  bytes-tell c n at e f (v ∷ []) h = go (bytes_of v) refl
    where
      go : (o : Option (List ℕ)) → bytes_of v ≡ o → Tells s (with_bytes c (v ∷ []))
      go none b = rw (b, with_bytes) tt
      go (some bytes) b =
          let (more, rest) = one_left (drop n s) v h in
          let d : drop at s ≡ v = ap (λ (k : ℕ). drop k s) e ∙ sym (drop-drop 1 n s) ∙ rest in
          rw (b, with_bytes) (f (record { within = omega (arith, length-drop n s); bytes = rw (d, b) }))

  named-tells : (rs : List Row) (name : List ℕ) (ws : List (List ℕ)) → Every (λ (r : Row). name ≡ r.0 → Tells s (r.1 ws)) rs → Tells s (named rs name ws)
  unfolding named
  named-tells [] name ws f = tt
  named-tells (r ∷ rs) name ws f = go (named-tells rs name ws f.1) (same name r.0) refl
    where
      go : Tells s (named rs name ws) → (b : Bool) → same name r.0 ≡ b → Tells s (named (r ∷ rs) name ws)
      go ih true e = rw (e, named) (f.0 (same_true name r.0 e))
      go ih false e = rw (e, named) ih

  every-tells : (n : ℕ) → WordEnds s n → Every (λ (r : Row). take n s ≡ r.0 → Tells s (r.1 (behind_word (drop n s)))) commands
  unfolding commands text
  every-tells n w =
      let ws = behind_word (drop n s) in
      let end : (x : List ℕ) → take n s ≡ x → n ≡ length x = λ x e. sym (length-take-le n s w.within) ∙ ap length e in
      let ns : (k : Kind) (x : List ℕ) → take n s ≡ x → Tells s (numbered k ws) = λ k x e. numbered-tells k ws in (
        λ e. let size = end (text "load") e in bytes-tell (Load 5) n 5 (omega (arith, size)) (λ b. b) ws refl,
        (
          λ e. alone-tells Clear ws tt,
          (
            ns _ _,
            (ns _ _, (ns _ _, (ns _ _, (ns _ _, (λ e. alone-tells Watchdog ws tt, (ns _ _, (ns _ _, (ns _ _, (ns _ _, (λ e. alone-tells Blank ws tt, (λ e. let size = end (text "holds") e in bytes-tell (Holds 6) n 6 (omega (arith, size)) (λ b. b) ws refl, tt))))))))))),
          ),
        ),
      )

pub line-tells : (s : List ℕ) → Tells s (command_of s)
unfolding command_of of_words
line-tells [] = tt
line-tells (c ∷ cs) = go (eqb c 35) refl
  where
    s : List ℕ
    s = c ∷ cs

    go : (b : Bool) → eqb c 35 ≡ b → Tells s (command_of s)
    go true e = rw (e, command_of) tt
    go false e = let (n, w) = first_word s in rw (e, command_of, w.splits) (named-tells s commands (take n s) (behind_word (drop n s)) (every-tells s n w))
