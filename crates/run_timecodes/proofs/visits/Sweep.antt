-- The visits of all initiators, row after row.
use mathlib.Core.Path.{◌≡◌, refl, sym, ◌∙◌}
use mathlib.Core.Logic.{◌≢◌}
use mathlib.Core.List.{List, ◌++◌, flat_map}
use mathlib.Core.Option.{Option, none, some}
use Prim.Native.Nat.{ℕ, ◌+◌, ◌*◌, ◌≤◌, ◌<◌}
use native.Mathlib.Omega.{arith}
use lib.ListN.{length, take, drop}
use Rattle.lists.specs.Puts.{Puts}
use Rattle.lists.specs.laws.Puts.{puts_none}
use Rattle.rules_plan.specs.Plan.{Plan, Entry}
use Rattle.rules_plan.specs.Meaning.{initiators, entry_at}
use Rattle.rules_plan.specs.laws.Sound.{Sound}
use Rattle.rules_plan.specs.laws.Runs.{entry-at}
use Rattle.memory_plan.specs.Memory.{spans_of, aims_of}
use Rattle.memory_plan.specs.View.{Owner, owner_of, Tells}
use Rattle.rules_box.specs.State.{Side}
use Rattle.rules_box.specs.Refuse.{record_size}
use Rattle.rules_box.specs.Turn.{starting, begun}
use Rattle.rules_box.specs.Records.{Record, record_bytes, start_record, still_record}
use Rattle.rules_box.specs.laws.Fit.{FitSide, begun-fit}
use Rattle.memory_run.specs.Run.{row_of, changed, rows_with, run_of}
use Rattle.memory_run.specs.laws.RunSides.{rows-kept, row-lent, row_back}
use Rattle.memory_run.specs.laws.Sweeps.{swept, swept-fit, sweep-next}
use Rattle.memory_plan.specs.laws.Entries.{span_read, targets_read, entry_in, some_read, none_read}
use Rattle.run_timecodes.specs.Then.{side_then, records_then}
use Rattle.run_records.specs.laws.Sweeps.{Held, owner-small, Swept, swept-done}

-- the sweep
abbrev pub new_side : {run : List ℕ} → Held run → ℕ → ℕ → Side
new_side x v n = side_then x.plan (entry_at x.plan.entries n v) (x.side n)

abbrev pub new_records : {run : List ℕ} → Held run → ℕ → ℕ → List Record
new_records x v n = records_then x.plan (entry_at x.plan.entries n v) n v (x.side n)

abbrev pub VisitSwept : ℕ → List ℕ → List ℕ → List ℕ → ℕ → List ℕ → ℕ → List ℕ → List ℕ → ℕ → ℕ → Type 0
VisitSwept clock spans aims run₀ v before i run after j k =
    (x : Held run₀) → spans ≡ spans_of x.plan → aims ≡ aims_of x.plan → Swept clock x (new_side x v) (new_records x v) before i run after j k

-- the same, the buffer as long as it was, and at most a record for each
abbrev pub VisitStands : ℕ → List ℕ → List ℕ → List ℕ → ℕ → List ℕ → ℕ → List ℕ → List ℕ → ℕ → ℕ → Type 0
VisitStands clock spans aims run₀ v before i run after j k = (length after ≡ length before) × (j ≤ i + record_size * k) × VisitSwept clock spans aims run₀ v before i run after j k

-- a row that is lent, visited
abbrev pub VisitRow : ℕ → List ℕ → List ℕ → ℕ → ℕ → ℕ → ℕ → List ℕ → List ℕ → ℕ → Type 0
VisitRow clock row after j v targets span row' after' j' =
    (o : Owner) (s : Side) → o.initiator < 256 → FitSide s → row ≡ row_of o s → (e : Entry) → Tells o targets span e →
    (row' ≡ row_of o (side_then o.plan (some e) s)) × Puts after j (flat_map (record_bytes clock) (records_then o.plan (some e) o.initiator v s)) after' j'

-- a number read from memory: the span or the targets of the entry at row k
abbrev pub Spanned : List ℕ → ℕ → ℕ → ℕ → Type 0
Spanned spans k v span = (p : Plan) → Sound p → spans ≡ spans_of p → span ≡ span_read p k v

abbrev pub Targeted : List ℕ → ℕ → ℕ → ℕ → Type 0
Targeted aims k v targets = (p : Plan) → Sound p → aims ≡ aims_of p → targets ≡ targets_read p k v

module _ (clock v : ℕ) {spans aims run₀ before : List ℕ} {i : ℕ} {run after : List ℕ} {j k : ℕ} (b : VisitStands clock spans aims run₀ v before i run after j k) where
  a : VisitSwept clock spans aims run₀ v before i run after j k
  a = b.2

  module _ (x : Held run₀) (es : spans ≡ spans_of x.plan) (ea : aims ≡ aims_of x.plan) where
    fits : (r : ℕ) → FitSide (swept x.plan x.side (new_side x v) k r)
    fits =
        swept-fit x.plan x.side (new_side x v) x.fit
        (λ n. begun-fit x.plan x.sound (entry_at x.plan.entries n v) (λ e at. (entry-at x.plan.entries n v e at).has) (x.side n) (x.fit n)) k

    -- the row, with the entry that stands there
    with-entry : (o : Option Entry) → entry_in x.plan k v ≡ o → (run' after' : List ℕ) (j' : ℕ) → let s = swept x.plan x.side (new_side x v) k in
        run' ≡ rows_with (owner_of x.plan) (changed k (side_then x.plan o (s k)) s)
        → Puts after j (flat_map (record_bytes clock) (records_then x.plan o (owner_of x.plan k).initiator v (s k))) after' j' → Swept clock x (new_side x v) (new_records x v) before i run' after' j' (k + 1)
    unfolding entry_in starting begun start_record still_record flat_map
    with-entry o is =
        sweep-next x.plan x.side (new_side x v) (a x es ea) (side_then x.plan o) (λ (n : ℕ) (s : Side). flat_map (record_bytes clock) (records_then x.plan o n v s))
        (λ at. rw (← is, entry_in, at) (refl, refl)) (λ n at. rw (← is, entry_in, at) (refl, refl))

  module _ (span : ℕ) (spanned : Spanned spans k v span) where
    visit-next : span ≢ 0 → (targets : ℕ) → Targeted aims k v targets → (size : ℕ) → k < 8 → size ≡ 12 → (row' after' : List ℕ) (j' : ℕ)
        → VisitRow clock (take size (drop (k * 12) run)) after j v targets span row' after' j'
        → VisitSwept clock spans aims run₀ v before i (take (k * 12) run ++ (row' ++ drop size (drop (k * 12) run))) after' j' (k + 1)
    unfolding owner_of
    visit-next d targets targeted size low twelve row' after' j' told x es ea =
        let p = x.plan in
        let s = swept p x.side (new_side x v) k in
        let fit = fits x es ea in
        let is-run = (a x es ea).run in
        let (e, is, tells) = some_read p x.sound k v span (spanned p x.sound es) d targets (targeted p x.sound ea) in
        let z = told (owner_of p k) (s k) (owner-small x k) (fit k) (row-lent (owner_of p) s fit run is-run k size low twelve) e tells in
        with-entry x es ea (some e) is _ after' j' (row_back (owner_of p) s fit run is-run k size low twelve (side_then p (some e) (s k)) row' z.0) z.1

    -- where no entry stands nothing changes
    visit-skip : span ≡ 0 → VisitSwept clock spans aims run₀ v before i run after j (k + 1)
    unfolding starting begun start_record still_record flat_map
    visit-skip d x es ea =
        let p = x.plan in
        with-entry x es ea none (none_read p x.sound k v span (spanned p x.sound es) d) run after j
        ((a x es ea).run ∙ sym (rows-kept (owner_of p) (swept p x.side (new_side x v) k) k)) (puts_none after j)

    -- what both ways come to
    pub visit-one : span ≢ 0 → (targets : ℕ) → Targeted aims k v targets → (size : ℕ) → k < 8 → size ≡ 12 → (row' after' : List ℕ) (j' : ℕ)
        → VisitRow clock (take size (drop (k * 12) run)) after j v targets span row' after' j' → length after' ≡ length after → j' ≤ j + record_size
        → (run'' after'' : List ℕ) (j'' : ℕ) → run'' ≡ take (k * 12) run ++ (row' ++ drop size (drop (k * 12) run)) → after'' ≡ after' → j'' ≡ j' → VisitStands clock spans aims run₀ v before i run'' after'' j'' (k + 1)
    visit-one d targets targeted size low twelve row' after' j' told same near run'' after'' j'' er eo ej =
        rw (er, eo, ej) (same ∙ b.0, omega (arith, near, b.1), visit-next d targets targeted size low twelve row' after' j' told)

    pub visit-no-one : span ≡ 0 → (run'' after'' : List ℕ) (j'' : ℕ) → run'' ≡ run → after'' ≡ after → j'' ≡ j → VisitStands clock spans aims run₀ v before i run'' after'' j'' (k + 1)
    visit-no-one d run'' after'' j'' er eo ej = rw (er, eo, ej) (b.0, omega (arith, b.1), visit-skip d)

  pub visit-done : 8 ≤ k → (p : Plan) (side : ℕ → Side) → Sound p → spans ≡ spans_of p → aims ≡ aims_of p → ((n : ℕ) → FitSide (side n)) → run₀ ≡ run_of p side
      → (run ≡ run_of p (λ (n : ℕ). side_then p (entry_at p.entries n v) (side n)))
      × Puts before i (flat_map (record_bytes clock) (flat_map (λ (n : ℕ). records_then p (entry_at p.entries n v) n v (side n)) (initiators p))) after j
  visit-done all p side ok es ea f ei =
      let x : Held run₀ = record { plan = p; side = side; sound = ok; fit = f; run = ei } in
      swept-done clock x (new_side x v) (new_records x v) (a x es ea) all
