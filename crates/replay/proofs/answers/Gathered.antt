-- What is gathered: written, or one answer more put behind the others. Assumes nothing.
use Rattle.std.proofs.Common.{◌≡◌, ℕ, ◌+◌, ◌-◌, ◌<◌, ◌≤◌, Bool, true, false, ltb, List, length, take, drop, sym, refl, ap, arith, length-append, take_at, ltb-false, le-ltb, lt-ltb}
use Rattle.lists.specs.Puts.{Puts}
use Rattle.lists.specs.laws.Bools.{not-both}
use Rattle.rules_box.specs.declared.Watchdog.{Watchdog}
use Rattle.box_calls.specs.Calls.{Memory}
use Rattle.script_commands.specs.Script.{command_of}
use Rattle.script_answers.specs.Texts.{over_long_line, Prints}
use Rattle.script_desk.specs.Replay.{Kept, kept, Replied, Answers}
use Rattle.replay.specs.declared.answers.Desk.{Desk}
use Rattle.replay.specs.Lines.{line_end}
use Rattle.replay.specs.Gather.{Stand, stand, with_desk, kept_in, flushed, roomy, next, printing, Gathers, passed_over, Ends, over_long, Passes, Lines, more}

module _ (d : Desk) where
  pub flushed-before : d.failed ≡ true → record { count = d.count; watchdog = d.watchdog; gathered = 0; passing = d.passing; failed = d.failed } ≡ flushed d.failed d
  unfolding flushed
  flushed-before e = rw e

  pub flushed-now : (fails : Bool) → d.failed ≡ false
      → record { count = d.count; watchdog = d.watchdog; gathered = 0; passing = d.passing; failed = fails } ≡ flushed fails d
  unfolding flushed
  flushed-now fails e = rw e

  -- room is made where there is too little, and only there
  pub roomy-flushed : {r : Desk} → 65_600 < d.gathered → r ≡ flushed r.failed d → r ≡ roomy r.failed d
  unfolding roomy
  roomy-flushed h e = rw (lt-ltb 65_600 d.gathered h, roomy) e

  pub roomy-same : (fails : Bool) → d.gathered ≤ 65_600 → d ≡ roomy fails d
  unfolding roomy
  roomy-same fails h = rw (le-ltb 65_600 d.gathered h, roomy)

  -- then the longest answer has room
  pub roomy-room : {r : Desk} → r ≡ roomy r.failed d → r.gathered ≤ 65_600
  unfolding roomy flushed
  roomy-room {r} e = go (ltb 65_600 d.gathered) refl
    where
      go : (b : Bool) → ltb 65_600 d.gathered ≡ b → r.gathered ≤ 65_600
      go true f = let z : r ≡ flushed r.failed d = rw (f, roomy) at e in omega (arith, ap (λ (x : Desk). x.gathered) z)
      go false f = let z : r ≡ d = rw (f, roomy) at e in omega (arith, ap (λ (x : Desk). x.gathered) z, ltb-false 65_600 d.gathered f)

-- the front of the buffer is what was printed
printed-front : {t l o : List ℕ} {k : ℕ} → Prints t l o k → take k (drop 0 o) ≡ t
printed-front {t} {l} {o} {k} p = rw p.holds (take_at t (drop (length t) l) k (sym p.size))

puts-printed : {t l o b b' : List ℕ} {k at end : ℕ} → Prints t l o k → Puts b at (take k (drop 0 o)) b' end → Puts b at t b' end
puts-printed p f = rw (printed-front p) at f

printed-most : {t l o : List ℕ} {k : ℕ} → Prints t l o k → length t ≤ length o
printed-most {t} {l} p = omega (arith, ap length p.holds, length-append t (drop (length t) l))

-- a line counted, its text printed and put behind the others, where it has room
module _ (s : Stand) {text' out' : List ℕ} {count end at : ℕ} (free : s.desk.gathered ≤ 65_600) (room : length s.out ≡ 131_200)
    (size : length text' ≡ 65_600) (counts : count ≡ next s.desk.count) (put : Puts s.out s.desk.gathered (take end (drop 0 text')) out' at) where
  pub printing-put : (passes : Bool) (after : Kept) {t : List ℕ} → Prints t s.text text' end
      → stand (record { count = count; watchdog = after.five; gathered = at; passing = passes; failed = s.desk.failed }) after.memory text' out'
      ≡ printing t passes after s
  unfolding printing
  printing-put passes after p =
      let q = (puts-printed p put).fitting (omega (arith, printed-most p)) in
      rw (counts, p.holds, q.next, q.holds)

  pub gathers : {line : List ℕ} {m' : Memory} {w' : Watchdog} → Answers (Replied (command_of line) line count (kept_in s) (kept m' w')) s.text text' end
      → Gathers line s (stand (record { count = count; watchdog = w'; gathered = at; passing = s.desk.passing; failed = s.desk.failed }) m' text' out')
  gathers {m'} {w'} a = record {
    printed = a.printed;
    after = kept m' w';
    replied = rw counts at a.told;
    does = printing-put s.desk.passing (kept m' w') a.prints;
  }

-- a line whose end was read
module _ {line : List ℕ} {s : Stand} where
  pub ends-passed : s.desk.passing ≡ true
      → Ends line s (with_desk s (record { count = s.desk.count; watchdog = s.desk.watchdog; gathered = s.desk.gathered; passing = false; failed = s.desk.failed }))
  unfolding passed_over
  ends-passed e = record { passed = λ _. refl; answered = λ h. not-both e h }

  pub ends-answered : {s' : Stand} {ready : Desk} → s.desk.passing ≡ false → ready ≡ roomy ready.failed s.desk → Gathers line (with_desk s ready) s' → Ends line s s'
  ends-answered {s'} {ready} e r g = record { passed = λ h. not-both h e; answered = λ _. (ready.failed, rw r at g) }

-- the front of a line that is too long
module _ {front : List ℕ} {s : Stand} where
  pub passes-again : s.desk.passing ≡ true → Passes front s s
  passes-again e = record { again = λ _. refl; first = λ h. not-both e h }

  pub passes-first : {ready : Desk} {text' out' : List ℕ} {count end at : ℕ} → s.desk.passing ≡ false → ready ≡ roomy ready.failed s.desk
      → length s.out ≡ 131_200 → length text' ≡ 65_600 → count ≡ next ready.count → Puts s.out ready.gathered (take end (drop 0 text')) out' at
      → Prints (over_long_line front count) s.text text' end
      → Passes front s (stand (record { count = count; watchdog = ready.watchdog; gathered = at; passing = true; failed = ready.failed }) s.memory text' out')
  unfolding over_long
  passes-first {ready} e r room size counts f p = record {
    again = λ h. not-both h e;
    first = λ _. (
      ready.failed,
      rw (← r) (printing-put (with_desk s ready) (roomy-room s.desk r) room size counts f true (kept_in (with_desk s ready)) (rw counts at p)),
    );
  }

-- one line more
pub lines_more : {input : List ℕ} {s s' s'' : Stand} {start end : ℕ} → end ≡ line_end input start → Lines input s start s' → end < length input
    → Ends (take (end - start) (drop start input)) s' s'' → Lines input s (end + 1) s''
lines_more e l h f = rw e (more l (rw e at h) (rw e at f))
