-- The records of a time-code, one part behind the other, and the sides after it: in sequence, and out of it.
use mathlib.Core.Path.{◌≡◌, ap, ◌∙◌, fun_ext}
use mathlib.Core.List.{List, [], ◌++◌, flat_map}
use mathlib.Core.Bool.{Bool, true, false}
use Prim.Native.Nat.{ℕ}
use Rattle.lists.specs.Puts.{Puts}
use Rattle.lists.specs.laws.Append.{flat_append}
use Rattle.lists.specs.laws.Flat.{flat-none}
use Rattle.lists.specs.laws.Puts.{puts_none, puts_then}
use Rattle.rules_plan.specs.Plan.{Plan}
use Rattle.rules_plan.specs.Meaning.{initiators, entry_at}
use Rattle.rules_box.specs.declared.Watchdog.{Watchdog}
use Rattle.rules_box.specs.State.{Box, the_plan}
use Rattle.rules_box.specs.Turn.{value_of, in_sequence, aged, visited, starting, begun, start_of, turned}
use Rattle.rules_box.specs.Records.{Record, record_bytes, watchdog_record, sequence_record, late_record, visit_records, late_records, visits_records, records}
use Rattle.rules_box.specs.Step.{ticked}
use Rattle.rules_box.specs.laws.Counts.{no-visit}
use Rattle.memory_run.specs.Run.{run_of}
use Rattle.run_timecodes.specs.Then.{side_then, records_then}

module _ (b : Box) (w : Watchdog) (byte clock : ℕ) (q : Bool) (seq : q ≡ in_sequence b.last byte) where
  abbrev p : Plan
  p = the_plan b

  abbrev v : ℕ
  v = value_of byte

  abbrev bytes : List Record → List ℕ
  bytes = flat_map (record_bytes clock)

  abbrev lates : List Record
  lates = flat_map (λ (i : ℕ). late_record q i v (b.side i).live) (initiators p)

  abbrev visits : List Record
  visits = flat_map (λ (i : ℕ). records_then p (entry_at p.entries i v) i v (aged q (b.side i))) (initiators p)

  parts : (rs : List Record) → visits_records b byte ≡ rs → bytes (records b w byte clock) ≡ bytes (watchdog_record w clock v) ++ bytes (sequence_record q v) ++ bytes lates ++ bytes rs
  unfolding records late_records
  parts rs e =
      let f = record_bytes clock in
      rw (
        ← seq,
        e,
        flat_append f (watchdog_record w clock v ++ sequence_record q v ++ lates) rs,
        flat_append f (watchdog_record w clock v ++ sequence_record q v) lates,
        flat_append f (watchdog_record w clock v) (sequence_record q v),
      )

  visits-in : q ≡ true → visits_records b byte ≡ visits
  unfolding visits_records visit_records start_of visited aged
  visits-in h = rw (← seq, h)

  visits-out : q ≡ false → visits_records b byte ≡ []
  unfolding visits_records
  visits-out h = rw (← seq, h) (flat-none (λ (i : ℕ). visit_records p false byte i (b.side i)) (initiators p) (λ i m. no-visit p byte i (b.side i)))

  sides-in : q ≡ true → (i : ℕ) → side_then p (entry_at p.entries i v) (aged q (b.side i)) ≡ (ticked b byte).side i
  unfolding ticked turned start_of visited
  sides-in h i = rw (← seq, h)

  sides-out : q ≡ false → (i : ℕ) → aged q (b.side i) ≡ (ticked b byte).side i
  unfolding ticked turned start_of visited starting begun
  sides-out h i = rw (← seq, h)

  -- run memory and the buffer after it
  abbrev Ran : List ℕ → List ℕ → ℕ → List ℕ → ℕ → Type 0
  Ran run before i after k = (run ≡ run_of p (ticked b byte).side) × Puts before i (bytes (records b w byte clock)) after k

  module _ {l m n o : List ℕ} {h i j k : ℕ} (ws : Puts l h (bytes (watchdog_record w clock v)) m i) (ss : Puts m i (bytes (sequence_record q v)) n j) (ls : Puts n j (bytes lates) o k) where
    pub ran-in : q ≡ true → (run : List ℕ) → run ≡ run_of p (λ (x : ℕ). side_then p (entry_at p.entries x v) (aged q (b.side x))) → (after : List ℕ) (e : ℕ) → Puts o k (bytes visits) after e → Ran run l h after e
    ran-in t run is after e vs = (is ∙ ap (run_of p) (fun_ext (sides-in t)), rw (parts visits (visits-in t)) (puts_then (puts_then (puts_then ws ss) ls) vs))

    pub ran_out : q ≡ false → (run : List ℕ) → run ≡ run_of p (λ (x : ℕ). aged q (b.side x)) → Ran run l h o k
    unfolding flat_map
    ran_out t run is = (is ∙ ap (run_of p) (fun_ext (sides-out t)), rw (parts [] (visits-out t)) (puts_then (puts_then (puts_then ws ss) ls) (puts_none o k)))
