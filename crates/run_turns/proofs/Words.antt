-- Lateness, told from the live transaction's word and time.
use mathlib.Core.Path.{◌≡◌, refl}
use mathlib.Core.Option.{Option, none, some}
use mathlib.Core.Bool.{Bool, true, false}
use Prim.Native.Nat.{ℕ, ◌+◌, ◌-◌}
use native.Mathlib.Omega.{arith}
use lib.Dec.{leb, ltb}
use borrow.Author.Tests.{leb-true, leb-false, lt-ltb, le-ltb}
use Rattle.rules_box.specs.State.{Live}
use Rattle.rules_box.specs.Turn.{is_late, older, survives}
use Rattle.rules_box.specs.laws.Fit.{FitLive}
use Rattle.memory_plan.specs.View.{Owner}
use Rattle.memory_run.specs.Run.{word_of, live_time}
use Rattle.run_turns.specs.Turns.{late_of}

-- lateness, told from the time
module _ (l : Live) (f : FitLive l) (q : Bool) (time : ℕ) (is : time ≡ live_time (some l)) where
  -- what is left is one time-code where the age is one below the span
  pub late-within : q ≡ true → ltb time 512 ≡ is_late q l
  unfolding is_late live_time
  late-within h = rw h (go (leb l.span (l.age + 1)) refl)
    where
      go : (b : Bool) → leb l.span (l.age + 1) ≡ b → ltb time 512 ≡ b
      go true e = lt-ltb time 512 (omega (arith, is, leb-true l.span (l.age + 1) e, f.young, f.span))
      go false e = le-ltb time 512 (omega (arith, is, leb-false l.span (l.age + 1) e, f.young, f.span))

  pub late-without : q ≡ false → true ≡ is_late q l
  unfolding is_late
  late-without h = rw h

  pub older-time : (i : ℕ) → i ≡ time - 256 → i ≡ live_time (some (older l))
  unfolding live_time older
  older-time i e = omega (arith, is, e, f.young)

-- what is answered and what survives, by whether what is live is late
module _ (q : Bool) (i : Owner) (o : Option Live) (l : Live) (e : o ≡ some l) where
  pub late-told : is_late q l ≡ true → (late_of q i o ≡ some (word_of i l.request)) × (survives q o ≡ none)
  unfolding late_of survives
  late-told h = (rw (e, h), rw (e, h))

  pub young-told : is_late q l ≡ false → (late_of q i o ≡ none) × (survives q o ≡ some (older l))
  unfolding late_of survives
  young-told h = (rw (e, h), rw (e, h))
