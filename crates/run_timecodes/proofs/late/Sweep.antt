-- Lateness of all initiators, row after row.
use mathlib.Core.Path.{◌≡◌, refl}
use mathlib.Core.List.{List, ◌++◌, flat_map}
use mathlib.Core.Bool.{Bool}
use Prim.Native.Nat.{ℕ, ◌+◌, ◌*◌, ◌≤◌, ◌<◌}
use lib.ListN.{take, drop}
use Rattle.lists.specs.Puts.{Puts}
use Rattle.rules_plan.specs.Plan.{Plan}
use Rattle.rules_plan.specs.Meaning.{initiators}
use Rattle.rules_plan.specs.laws.Sound.{Sound}
use Rattle.memory_plan.specs.View.{Owner, owner_of}
use Rattle.rules_box.specs.State.{Side, idle}
use Rattle.rules_box.specs.Turn.{survives, aged}
use Rattle.rules_box.specs.Records.{record_bytes, late_record}
use Rattle.rules_box.specs.laws.Fit.{FitSide, aged-fit}
use Rattle.memory_run.specs.Run.{row_of, run_of}
use Rattle.memory_run.specs.laws.RunSides.{row-lent, row_back}
use Rattle.memory_run.specs.laws.Sweeps.{swept, swept-fit, sweep-next}
use Rattle.run_records.specs.laws.Sweeps.{Held, owner-small, Swept, swept-done}

abbrev pub LateSwept : ℕ → List ℕ → ℕ → Bool → List ℕ → ℕ → List ℕ → List ℕ → ℕ → ℕ → Type 0
LateSwept clock run₀ v q before i run after j k =
    (x : Held run₀) → Swept clock x (λ (n : ℕ). aged q (x.side n)) (λ (n : ℕ). late_record q n v (x.side n).live) before i run after j k

-- a row that is lent, late
abbrev pub LateRow : ℕ → List ℕ → List ℕ → ℕ → ℕ → Bool → List ℕ → List ℕ → ℕ → Type 0
LateRow clock row after j v q row' after' j' =
    (o : Owner) (s : Side) → o.initiator < 256 → FitSide s → row ≡ row_of o s →
    (row' ≡ row_of o (aged q s)) × Puts after j (flat_map (record_bytes clock) (late_record q o.initiator v s.live)) after' j'

module _ (clock v : ℕ) (q : Bool) {run₀ before : List ℕ} {i : ℕ} {run after : List ℕ} {j k : ℕ} (a : LateSwept clock run₀ v q before i run after j k) where
  pub late-next : (size : ℕ) → k < 8 → size ≡ 12 → (row' after' : List ℕ) (j' : ℕ) → LateRow clock (take size (drop (k * 12) run)) after j v q row' after' j'
      → LateSwept clock run₀ v q before i (take (k * 12) run ++ (row' ++ drop size (drop (k * 12) run))) after' j' (k + 1)
  unfolding aged survives late_record idle flat_map
  late-next size low twelve row' after' j' told x =
      let new : ℕ → Side = λ n. aged q (x.side n) in
      let p = x.plan in
      let s = swept p x.side new k in
      let fit = swept-fit p x.side new x.fit (λ n. aged-fit q (x.side n) (x.fit n)) k in
      let z = told (owner_of p k) (s k) (owner-small x k) (fit k) (row-lent (owner_of p) s fit run (a x).run k size low twelve) in
      sweep-next p x.side new (a x) (aged q) (λ (n : ℕ) (s : Side). flat_map (record_bytes clock) (late_record q n v s.live)) (λ _. (refl, refl)) (λ n _. (refl, refl)) _ after' j'
      (row_back (owner_of p) s fit run (a x).run k size low twelve (aged q (s k)) row' z.0) z.1

  pub late-done : 8 ≤ k → (p : Plan) (side : ℕ → Side) → Sound p → ((n : ℕ) → FitSide (side n)) → run₀ ≡ run_of p side
      → (run ≡ run_of p (λ (n : ℕ). aged q (side n))) × Puts before i (flat_map (record_bytes clock) (flat_map (λ (n : ℕ). late_record q n v (side n).live) (initiators p))) after j
  late-done all p side ok f ei =
      let x : Held run₀ = record { plan = p; side = side; sound = ok; fit = f; run = ei } in
      swept-done clock x (λ (n : ℕ). aged q (side n)) (λ (n : ℕ). late_record q n v (side n).live) (a x) all
