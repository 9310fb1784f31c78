-- What a time-code finds in memory, and what its step leaves there.
use mathlib.Core.Path.{◌≡◌, refl, sym, ap, ◌∙◌}
use mathlib.Core.Logic.{◌≢◌}
use mathlib.Core.List.{List, [], ◌∷◌, flat_map}
use Prim.Native.Nat.{ℕ, ◌+◌, ◌/◌, ◌%◌, ◌≤◌}
use native.Mathlib.Omega.{arith}
use lib.ListN.{length, get_or, set}
use borrow.Author.Tests.{ltb-false}
use Rattle.lists.specs.Rows.{test_of}
use Rattle.lists.specs.Puts.{Puts}
use Rattle.lists.specs.laws.Rows.{rise, no_row}
use Rattle.lists.specs.laws.Stores.{put_front}
use Rattle.memory_plan.specs.Memory.{spans_of, aims_of}
use Rattle.rules_box.specs.declared.Event.TheVariants.{TimeCode}
use Rattle.rules_box.specs.Answer.{Refused, Recorded}
use Rattle.rules_box.specs.declared.Watchdog.{Watchdog}
use Rattle.rules_box.specs.State.{Box, the_plan}
use Rattle.rules_box.specs.Refuse.{refusal, refusals}
use Rattle.rules_box.specs.Watch.{fed}
use Rattle.rules_box.specs.Records.{Record, record_bytes, recorded, records}
use Rattle.rules_box.specs.Step.{Outcome, step, accepts, ticked}
use Rattle.rules_box.specs.laws.Steps.{step-accepted, step-refused}
use Rattle.rules_box.specs.laws.Counts.{records-few, records-size}
use Rattle.memory_run.specs.Run.{last_of, run_of}
use Rattle.memory_run.specs.Memory.{Finds, Does}

module _ {b : Box} {rows spans aims numbers run last : List ℕ} (f : Finds b rows spans aims numbers run last) where
  pub spans-held : spans ≡ spans_of (the_plan b)
  unfolding the_plan
  spans-held = f.plan.spans

  pub aims-held : aims ≡ aims_of (the_plan b)
  unfolding the_plan
  aims-held = f.plan.aims

  pub last-told : get_or last 0 0 ≡ last_of b.last
  last-told = ap (λ (l : List ℕ). get_or l 0 0) f.runs.last

  -- the one number of `last`, handed on
  pub handed : Finds b rows spans aims numbers run (get_or last 0 0 ∷ [])
  handed = record { fit = f.fit; plan = f.plan; runs = record { run = f.runs.run; last = ap (λ (n : ℕ). n ∷ []) last-told } }

  module _ (w : Watchdog) (byte clock : ℕ) (before : List ℕ) where
    abbrev outcome : Outcome
    outcome = step (length before) b w (TimeCode byte clock)

    pub refused : (n : ℕ) → n ≡ refusal (length before) b (TimeCode byte clock) → n ≢ 0 → Does outcome clock (Refused n) w run last before before
    unfolding recorded flat_map
    refused n is d =
        rw (step-refused (length before) b w (TimeCode byte clock) (λ z. d (is ∙ z)))
        (record { answers = record { answer = ap Refused is; runs = f.runs }; watchdog = refl; records = refl })

    module _ (free : 0 ≡ refusal (length before) b (TimeCode byte clock)) where
      abbrev rs : List Record
      rs = records b w byte clock

      room : 136 ≤ length before
      unfolding refusal refusals rise test_of
      room = ltb-false (length before) 136 (no_row 29 (refusals (length before) b (TimeCode byte clock)) 0 refl (sym free))

      pub accepted : (run' after : List ℕ) (k : ℕ) (x : Watchdog) → (run' ≡ run_of (the_plan b) (ticked b byte).side) × Puts before 0 (flat_map (record_bytes clock) (records b w byte clock)) after k
          → x ≡ fed w clock → Does outcome clock (Recorded (k / 8 % 256)) x run' (set last 0 (byte + 1)) before after
      unfolding accepts ticked the_plan last_of recorded
      accepted run' after k x (er, ps) ex =
          let few = records-few b w byte clock f.fit.sound.eight in
          let size = records-size clock rs in
          let (ek, eo) = put_front (ps.fitting (omega (arith, few, size, room))) (omega (arith, few, size, room)) in
          let count : k / 8 % 256 ≡ length rs = omega (arith, few, size, ek) in
          rw (step-accepted (length before) b w (TimeCode byte clock) (sym free)) (record {
            answers = record {
              answer = ap Recorded count;
              runs = record { run = er; last = ap (λ (l : List ℕ). set l 0 (byte + 1)) f.runs.last };
            };
            watchdog = ex;
            records = eo;
          })
