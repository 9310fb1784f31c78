-- The box and the five numbers that a clear and a load leave, from the memory that they leave.
use Rattle.std.specs.Prelude.{◌≡◌, ◌↔◌, List, Bool, cond, ℕ, replicate}
use Rattle.std.proofs.Math.Path.{refl, sym}
use Rattle.std.proofs.Common.{◌∙◌, eqb-true}
use Rattle.std.proofs.Math.Bool.{true, false}
use Rattle.rules_plan.specs.Plan.{Plan, blank}
use Rattle.rules_plan.specs.Canon.{canonical, given, plan_of}
use Rattle.rules_plan.specs.laws.Accepted.{accepted-good}
use Rattle.memory_plan.specs.Memory as plan
use Rattle.rules_plan.specs.Meaning.{least_of, greatest_of}
use Rattle.memory_plan.specs.Memory.{numbers_with, numbers_of}
use Rattle.memory_plan.specs.laws.SameMemory.{holds-canonical}
use Rattle.rules_box.specs.declared.Watchdog.{Watchdog}
use Rattle.rules_box.specs.State.{cleared, watchdog_cleared, holding, watchdog_for, is_accepted, loaded, watchdog_loaded, the_plan}
use Rattle.memory_run.specs.Run.{last_of}
use Rattle.load_plan.specs.Load.{plan_left}
use Rattle.box_calls.specs.Box.{Holds}
use Rattle.box_calls.specs.laws.Idle.{idle-run}

module _ {sets ends rows reach paths spans aims numbers run last : List ℕ} where
  -- memory holds the box of a clear exactly where it is all 0
  pub holds-cleared : Holds cleared sets ends rows reach paths spans aims numbers run last
      ↔ (plan.Holds blank sets ends rows reach paths spans aims numbers × (run ≡ replicate 96 0) × (last ≡ replicate 1 0))
  unfolding cleared the_plan last_of
  holds-cleared = (
    λ h. (h.plan, h.runs.run ∙ idle-run blank, h.runs.last),
    λ z. record { plan = z.0; runs = record { run = z.1 ∙ sym (idle-run blank); last = z.2 } },
  )

  holds-fresh : (p : Plan) → plan.Holds p sets ends rows reach paths spans aims numbers → run ≡ replicate 96 0 → last ≡ replicate 1 0
      → Holds (holding p) sets ends rows reach paths spans aims numbers run last
  unfolding holding the_plan last_of
  holds-fresh p m r l = record { plan = m; runs = record { run = r ∙ sym (idle-run p); last = l } }

  pub holds-loaded : (file : List ℕ) → plan.Holds (plan_left file) sets ends rows reach paths spans aims numbers → run ≡ replicate 96 0 → last ≡ replicate 1 0
      → Holds (loaded file) sets ends rows reach paths spans aims numbers run last
  unfolding plan_left loaded is_accepted plan_of
  holds-loaded file m r l = go (is_accepted file) refl m
    where
      go : (x : Bool) → is_accepted file ≡ x → plan.Holds (cond x (given file) blank) sets ends rows reach paths spans aims numbers
          → Holds (cond x (holding (plan_of file)) cleared) sets ends rows reach paths spans aims numbers run last
      go true e n = holds-fresh (plan_of file) ((holds-canonical (given file) (accepted-good file (eqb-true _ _ e)) sets ends rows reach paths spans aims numbers).0 n) r l
      go false e n = holds-cleared.1 (n, r, l)

-- the five numbers after a load: the intervals that memory has
abbrev fresh : ℕ → ℕ → Watchdog
fresh least greatest = record { last = 0; seen = 0; reported = 0; least = least; greatest = greatest }

pub load-watchdog : (file : List ℕ) {least greatest : ℕ} → least ≡ least_of (plan_left file).timings → greatest ≡ greatest_of (plan_left file).timings → fresh least greatest ≡ watchdog_loaded file
unfolding plan_left watchdog_loaded watchdog_for watchdog_cleared is_accepted plan_of canonical blank least_of greatest_of
load-watchdog file l g = rw (l, g) (go (is_accepted file))
  where
    go : (x : Bool) → fresh (least_of (cond x (given file) blank).timings) (greatest_of (cond x (given file) blank).timings) ≡ cond x (watchdog_for (plan_of file)) watchdog_cleared
    go true = refl
    go false = refl
