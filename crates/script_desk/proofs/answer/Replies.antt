-- The answer to each command is the answer to the line. Assumes nothing.
use mathlib.Core.Path.{◌≡◌, refl, sym, ap, ◌∙◌}
use mathlib.Core.List.{List, []}
use mathlib.Core.Option.{some}
use mathlib.Core.Bool.{Bool, true}
use mathlib.Core.Logic.{◌↔◌}
use Prim.Native.Nat.{ℕ, ◌-◌, ◌≤◌}
use lib.ListN.{length, take, drop, replicate}
use Rattle.lists.specs.laws.Parts.{from-to-end}
use Rattle.rules_plan.specs.Print.{text}
use Rattle.rules_plan.specs.Sheet as sheets
use Rattle.rules_plan.specs.Sheet.{sheet_answer}
use Rattle.rules_plan.specs.Next as nexts
use Rattle.memory_plan.specs.laws.Shown.{held-shown}
use Rattle.ask_next.specs.Asked.{TellsNext}
use Rattle.time_sheet.specs.Paced.{paced}
use Rattle.rules_box.specs.declared.Event.TheVariants as event
use Rattle.rules_box.specs.declared.Watchdog as five
use Rattle.rules_box.specs.State.{cleared, watchdog_cleared}
use Rattle.box_calls.specs.Calls.{At, ClearLeaves}
use Rattle.script_hex.specs.Hex.{bytes_of, decoded}
use Rattle.script_hex.specs.laws.Bytes.{bytes-decoded}
use Rattle.script_commands.specs.declared.command.Command.{Command}
use Rattle.script_commands.specs.declared.command.Command.TheVariants.{Skip, Bad, Load, Clear, TimeCode, Request, Reply, Reading, Out, Watchdog, SetWatchdog, Sheet, Next, Blank, Holds}
use Rattle.script_commands.specs.Script.{command_of}
use Rattle.script_commands.specs.laws.Tells.{BytesAt, Tells, line-tells}
use Rattle.script_answers.specs.Texts.{ended, error_line, watchdog_line, sheet_line, next_line, flag_line, Prints}
use Rattle.script_desk.specs.Replay.{Kept, five_of, kept, Loaded, Stepped, WrittenOut, NextAsked, Says, HasPlanOf, Replied, Answers}

answers-as : {P Q : List ℕ → Type 0} {l o : List ℕ} {k : ℕ} → ((t : List ℕ) → P t → Q t) → Answers P l o k → Answers Q l o k
answers-as f a = record { printed = a.printed; told = f a.printed a.told; prints = a.prints }

-- the line is the command that the code was told
module _ (line : List ℕ) (n : ℕ) {c : Command} (e : c ≡ command_of line) where
  is : {d : Command} → c ≡ d → command_of line ≡ d
  is f = sym e ∙ f

  -- what a command tells is in its range
  told : {d : Command} → c ≡ d → Tells line d
  told f = rw (is f) at (line-tells line)

  -- the byte string that begins at a place
  string : {at : ℕ} → BytesAt line at → bytes_of (drop at line) ≡ some (decoded 16_400 (drop at line))
  string {at} b = bytes-decoded (drop at line) b.bytes

  module _ (k : Kept) {l : List ℕ} where
    pub skip : c ≡ Skip → Answers (Replied (command_of line) line n k k) l l 0
    unfolding Replied
    skip f = rw (is f) (record { printed = []; told = (refl, refl); prints = record { size = refl; holds = refl } })

  module _ (k : Kept) {l o : List ℕ} {end : ℕ} where
    pub bad : c ≡ Bad → Prints (error_line n) l o end → Answers (Replied (command_of line) line n k k) l o end
    unfolding Replied
    bad f p = rw (is f) (record { printed = error_line n; told = (refl, refl); prints = p })

    pub out : {room : ℕ} → c ≡ Out room → Answers (WrittenOut room k.memory) l o end → Answers (Replied (command_of line) line n k k) l o end
    unfolding Replied
    out f a = rw (is f) (answers-as (λ t h. (refl, h)) a)

    pub watchdog : c ≡ Watchdog → Prints (watchdog_line k.five) l o end → Answers (Replied (command_of line) line n k k) l o end
    unfolding Replied
    watchdog f p = rw (is f) (record { printed = watchdog_line k.five; told = (refl, refl); prints = p })

    pub sheet : {there home s size a d f g : ℕ} {x : sheets.Sheet} → c ≡ Sheet there home s size a d f g → x ≡ sheet_answer (paced s a d f g) there home size → Prints (sheet_line x) l o end
        → Answers (Replied (command_of line) line n k k) l o end
    unfolding Replied
    sheet {x} f g p = rw (is f) (record { printed = sheet_line x; told = (refl, ap sheet_line g); prints = p })

    pub next : {i t size s : ℕ} {x : nexts.Next} → c ≡ Next i t size s → TellsNext k.memory.rows k.memory.aims k.memory.numbers i t size s x → Prints (next_line x) l o end
        → Answers (Replied (command_of line) line n k k) l o end
    unfolding Replied
    next {i} {t} {size} {s} {x} f g p =
        let m = k.memory in
        let told : NextAsked i t size s m (next_line x) = λ o h. ap next_line (g o m.spans (held-shown o m.sets m.ends m.rows m.reach m.paths m.spans m.aims m.numbers h)) in
        rw (is f) (record { printed = next_line x; told = (refl, told); prints = p })

    pub blank : {x : Bool} → c ≡ Blank → (x ≡ true) ↔ ((k.five ≡ watchdog_cleared) × At k.memory cleared) → Prints (flag_line x) l o end
        → Answers (Replied (command_of line) line n k k) l o end
    unfolding Replied
    blank {x} f g p =
        let yes : (x ≡ true) ↔ ClearLeaves k.memory k.five = ((λ t. let h = g.0 t in record { holds = h.1; five = h.0 }), (λ h. g.1 (h.five, h.holds))) in
        rw (is f) (record { printed = flag_line x; told = (refl, record { flag = x; exactly = yes; prints = refl }); prints = p })

    pub holds : {at : ℕ} → c ≡ Holds at → Answers (Says (HasPlanOf (decoded 16_400 (take (length line - at) (drop at line))) k.memory)) l o end
        → Answers (Replied (command_of line) line n k k) l o end
    unfolding Replied
    holds {at} f a = rw (is f) (answers-as (λ t h. (refl, decoded 16_400 (drop at line), string (told f), h)) (rw (from-to-end at line) at a))

    pub set : {last seen reported least greatest : ℕ} {w : five.Watchdog} → c ≡ SetWatchdog last seen reported least greatest → w ≡ five_of last seen reported least greatest → Prints (ended (text "OK")) l o end
        → Answers (Replied (command_of line) line n k (kept k.memory w)) l o end
    unfolding Replied
    set f g p = rw (is f) (record { printed = ended (text "OK"); told = (ap (kept k.memory) g, refl); prints = p })

    module _ {after : Kept} where
      pub load : {at : ℕ} → c ≡ Load at → Answers (Loaded (decoded 16_400 (take (length line - at) (drop at line))) after) l o end
          → Answers (Replied (command_of line) line n k after) l o end
      unfolding Replied
      load {at} f a =
          rw (is f) (answers-as (λ t h. (decoded 16_400 (drop at line), string (told f), h)) (rw (from-to-end at line) at a))

      pub clear : c ≡ Clear → ClearLeaves after.memory after.five → Prints (ended (text "CLEARED")) l o end
          → Answers (Replied (command_of line) line n k after) l o end
      unfolding Replied
      clear f h p = rw (is f) (record { printed = ended (text "CLEARED"); told = (h, refl); prints = p })

      pub time-code : {byte clock room : ℕ} → c ≡ TimeCode byte clock room → Answers (Stepped (event.TimeCode byte clock) (replicate room 0) k after) l o end
          → Answers (Replied (command_of line) line n k after) l o end
      unfolding Replied
      time-code f a = rw (is f) a

      pub request : {i t m size : ℕ} → c ≡ Request i t m size → Answers (Stepped (event.Request i t m size) [] k after) l o end
          → Answers (Replied (command_of line) line n k after) l o end
      unfolding Replied
      request f a = rw (is f) a

      pub reply : {i m status : ℕ} → c ≡ Reply i m status → Answers (Stepped (event.Reply i m status) [] k after) l o end
          → Answers (Replied (command_of line) line n k after) l o end
      unfolding Replied
      reply f a = rw (is f) a

      pub reading : {clock : ℕ} → c ≡ Reading clock → Answers (Stepped (event.Reading clock) [] k after) l o end → Answers (Replied (command_of line) line n k after) l o end
      unfolding Replied
      reading f a = rw (is f) a

  pub load-within : {at : ℕ} → c ≡ Load at → at ≤ length line
  load-within f = (told f).within

  pub holds-within : {at : ℕ} → c ≡ Holds at → at ≤ length line
  holds-within f = (told f).within

  pub records-within : {byte clock room : ℕ} → c ≡ TimeCode byte clock room → room ≤ 4_096
  records-within f = told f

  pub out_within : {room : ℕ} → c ≡ Out room → room ≤ 32_768
  out_within f = told f
