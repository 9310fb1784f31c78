-- A clock stepped back by one reads as late.
use mathlib.Core.Path.{◌≡◌, ap, ◌∙◌}
use mathlib.Core.Bool.{false}
use Prim.Native.Nat.{ℕ, ◌+◌, ◌-◌, ◌%◌, ◌^◌, ◌<◌, ◌≤◌}
use native.Mathlib.Omega.{arith}
use borrow.Author.Tests.{lt-ltb, ne_eqb}
use Rattle.rules_box.specs.declared.Event.TheVariants.{Reading}
use Rattle.rules_box.specs.State.{Box, no_plan}
use Rattle.rules_box.specs.Refuse.{refusal, refusals}
use Rattle.rules_box.specs.Watch.{yes?, elapsed, is_overdue}
use Rattle.rules_box.specs.Step.{Outcome, accepts}
use Rattle.rules_box.specs.Promises.{SteppedBackReadsLate}
use Rattle.rules_box.specs.laws.Steps.{step-accepted}
use Rattle.lists.specs.Rows.{first_of}

back : (last greatest : ℕ) → last < 2 ^ 32 → greatest ≤ 2_147_483_647 → greatest < ((last + 2 ^ 32 - 1) % 2 ^ 32 + 2 ^ 32 - last) % 2 ^ 32
back last greatest h g = omega arith

taken : (room : ℕ) (b : Box) (clock : ℕ) → no_plan b ≡ false → refusal room b (Reading clock) ≡ 0
unfolding refusal refusals first_of
taken room b clock h = rw h

pub stepped-back-reads-late : SteppedBackReadsLate
unfolding SteppedBackReadsLate accepts is_overdue yes? elapsed
stepped-back-reads-late room b w h seen reported last greatest =
    let clock = (w.last + 2 ^ 32 - 1) % 2 ^ 32 in
    let late = lt-ltb w.greatest ((clock + 2 ^ 32 - w.last) % 2 ^ 32) (back w.last w.greatest last greatest) in
    ap (λ (o : Outcome). o.answer) (step-accepted room b w (Reading clock) (taken room b clock h)) ∙ rw (ne_eqb w.seen 0 seen, reported, late)
