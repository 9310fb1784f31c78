-- The two sweeps of a time-code over the initiators: what memory holds, and where the sweep stands.
use Rattle.std.specs.Prelude.{◌≡◌, ℕ, ◌<◌, ◌≤◌, List, refl}
use mathlib.Core.List.{flat_map}
use Rattle.std.proofs.Math.Option.{Option, none, some}
use Rattle.std.proofs.Common.{arith}
use Rattle.lists.specs.Place.{at_place}
use Rattle.lists.specs.Puts.{Puts}
use Rattle.lists.specs.laws.At.{at-member}
use Rattle.lists.specs.laws.Flat.{flat-flat}
use Rattle.rules_plan.specs.Plan.{Plan}
use Rattle.rules_plan.specs.Meaning.{initiators}
use Rattle.rules_plan.specs.laws.Sound.{Sound}
use Rattle.rules_plan.specs.laws.Initiators.{initiator-in}
use Rattle.memory_plan.specs.Memory.{of_row}
use Rattle.memory_plan.specs.View.{owner_of}
use Rattle.rules_box.specs.State.{Side}
use Rattle.rules_box.specs.Records.{Record, record_bytes}
use Rattle.rules_box.specs.laws.Fit.{FitSide}
use Rattle.memory_run.specs.Run.{run_of}
use Rattle.memory_run.specs.laws.Sweeps.{Sweep, sweep-begin, sweep-done}

-- a plan and its sides in memory
pub record Held (run' : List ℕ) : Type 0 where
  pub plan : Plan
  pub side : ℕ → Side
  pub sound : Sound plan
  pub fit : (i : ℕ) → FitSide (side i)
  pub run : run' ≡ run_of plan side

-- the initiator of a row is a byte
pub owner-small : {run : List ℕ} (x : Held run) (k : ℕ) → (owner_of x.plan k).initiator < 256
unfolding owner_of of_row
owner-small x k = go (at_place k (initiators x.plan)) refl
  where
    go : (o : Option ℕ) → at_place k (initiators x.plan) ≡ o → elim o [ none ↦ 0 | some i ↦ i ] < 256
    go none at = omega arith
    go (some i) at =
        let s : i < 64 = x.sound.small i (initiator-in x.plan i (at-member (initiators x.plan) k i at)) in
        omega (arith, s)

-- records of a time-code at this clock
module _ (clock : ℕ) {run₀ : List ℕ} (x : Held run₀) where
  -- the first k initiators have their new sides, and their records are put
  abbrev pub Swept : (ℕ → Side) → (ℕ → List Record) → List ℕ → ℕ → List ℕ → List ℕ → ℕ → ℕ → Type 0
  Swept new part before i run after j k = Sweep x.plan x.side new (λ (n : ℕ). flat_map (record_bytes clock) (part n)) before i run after j k

  -- what is left of a sweep at its end
  abbrev pub Done : (ℕ → Side) → (ℕ → List Record) → List ℕ → ℕ → List ℕ → List ℕ → ℕ → Type 0
  Done new part before i run after j = (run ≡ run_of x.plan new) × Puts before i (flat_map (record_bytes clock) (flat_map part (initiators x.plan))) after j

  module _ (new : ℕ → Side) (part : ℕ → List Record) where
    pub swept-begin : (before : List ℕ) (i : ℕ) → Swept new part before i run₀ before i 0
    swept-begin before i = sweep-begin x.plan x.side new (λ (n : ℕ). flat_map (record_bytes clock) (part n)) before i run₀ x.run

    pub swept-done : {before run after : List ℕ} {i j k : ℕ} → Swept new part before i run after j k → 8 ≤ k → Done new part before i run after j
    swept-done a h =
        let (r, p) = sweep-done x.plan x.side new a (omega (arith, x.sound.eight)) in
        (r, rw (flat-flat (record_bytes clock) part (initiators x.plan)) p)
