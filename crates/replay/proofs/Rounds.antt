-- A read, the end of the input, and rounds one after the other. Assumes nothing.
use Rattle.std.proofs.Common.{◌≡◌, ℕ, ◌+◌, ◌<◌, ◌≤◌, true, false, List, length, take, Result, Ok, Err, MatchResult, sym, refl, ap, subst, arith}
use Rattle.std.specs.Io.{ReadsAtMost}
use Rattle.box_calls.specs.Calls.{Memory}
use Rattle.rules_box.specs.declared.Watchdog.{Watchdog}
use Rattle.replay.specs.declared.answers.Desk.{Desk}
use Rattle.replay.specs.declared.Failure.{Failure}
use Rattle.replay.specs.declared.Failure.TheVariants.{Read, Write}
use Rattle.replay.specs.Gather.{Stand, stand, with_desk, flushed, Ends, Taken}
use Rattle.replay.specs.Rounds.{Brings, begun, Rounds, more, Finishes, outcome, Serves, finished, unread, unwritten}

-- what a read brought, and nothing where it failed
pub brought : {E : Type 0} (input input' read : List ℕ) (len : ℕ) (r : Result ℕ E) → take len input' ≡ take len input → length input' ≡ length input
    → len + length read ≤ length input' → ReadsAtMost r read → MatchResult r (λ k. Brings input len input' k) (λ _. Brings input len input' 0)
brought input input' read len (Ok k) stay size h f = record { stay = stay; size = size; within = omega (arith, h, f.0) }
brought input input' read len (Err e) stay size h f = record { stay = stay; size = size; within = omega (arith, h) }

module _ {line : List ℕ} {s : Stand} {r : Desk} where
  pub finishes-nothing : length line ≡ 0 → r ≡ flushed r.failed s.desk → Finishes line s (with_desk s r)
  finishes-nothing h e = record {
    after = s;
    fails = r.failed;
    nothing = λ _. refl;
    last = λ l. absurd (omega arith);
    flushes = ap (with_desk s) e;
  }

  pub finishes-last : {after : Stand} → 0 < length line → Ends line s after → r ≡ flushed r.failed after.desk → Finishes line s (with_desk after r)
  finishes-last {after} h f e = record {
    after = after;
    fails = r.failed;
    nothing = λ l. absurd (omega (arith, h));
    last = λ _. f;
    flushes = ap (with_desk after) e;
  }

-- one round more, after which the answers were written or that failed
pub rounds-more : {input input' brought left : List ℕ} {len k size : ℕ} {s s' s'' : Stand} {d : Desk} → Rounds input s input' len s' → s'.desk.failed ≡ false
    → Brings input' len brought k → 0 < k → Taken brought (len + k) s' left size s'' → d ≡ flushed d.failed s''.desk
    → Rounds input s left size (with_desk s'' d)
rounds-more {input} {left} {size} {s} {s''} {d} rs ok b h t f =
    subst (λ (x : Stand). Rounds input s left size x) (sym (ap (with_desk s'') f)) (more rs ok b h t d.failed)

-- the ways to end
module _ {m : Memory} {w : Watchdog} {input text out : List ℕ} (room : length input ≡ 65_536) {input' : List ℕ} {len : ℕ} {s : Stand}
    (rs : Rounds input (stand (begun w) m text out) input' len s) where
  pub serves-finished : {line : List ℕ} {s' : Stand} {r : Result (Unit {0}) Failure} → s.desk.failed ≡ false → line ≡ take len input' → Finishes line s s' → r ≡ outcome s'.desk.failed
      → Serves m w r s'.memory
  serves-finished {s'} ok e f o =
      subst (λ (x : Result (Unit {0}) Failure). Serves m w x s'.memory) (sym o)
      (record { input = input; text = text; out = out; room = room; serves = finished rs ok (rw e at f) })

  pub serves-unread : s.desk.failed ≡ false → Serves m w (Err Read) s.memory
  serves-unread ok = record { input = input; text = text; out = out; room = room; serves = unread rs ok }

  pub serves-unwritten : s.desk.failed ≡ true → Serves m w (Err Write) s.memory
  serves-unwritten bad = record { input = input; text = text; out = out; room = room; serves = unwritten rs bad }
