-- How many records a time-code gives, at most 17, and how many bytes.
use Rattle.std.specs.Prelude.{◌≡◌, Bool}
use Rattle.std.proofs.Math.Path.{refl, ap}
use mathlib.Core.List.{List, [], ◌∷◌, ◌++◌, flat_map}
use Rattle.std.proofs.Math.Option.{Option, none, some}
use Rattle.std.proofs.Math.Bool.{true, false}
use Prim.Native.Nat.{ℕ, ◌+◌, ◌*◌, ◌≤◌}
use native.Mathlib.Omega.{arith}
use Rattle.std.proofs.Math.ListN.{length, length-append}
use Rattle.lists.specs.Search.{only}
use Rattle.lists.specs.laws.Bools.{cond_cases}
use Rattle.lists.specs.laws.Count.{parts-length, parts-short, only-short}
use Rattle.rules_plan.specs.Plan.{Entry, Plan}
use Rattle.rules_plan.specs.Meaning.{initiators}
use Rattle.rules_box.specs.declared.Watchdog.{Watchdog}
use Rattle.rules_box.specs.State.{Box, Side, Live, the_plan}
use Rattle.rules_box.specs.Refuse.{record_size, most_records}
use Rattle.rules_box.specs.Watch.{is_early, is_overdue}
use Rattle.rules_box.specs.Turn.{Start, in_sequence, value_of, is_late, survives, visited, starting, start_of}
use Rattle.rules_box.specs.Records.{Record, record_bytes, plain, full, watchdog_record, sequence_record, late_record, late_records, start_record, still_record, visit_records, visits_records, records}
use Rattle.rules_box.specs.laws.Turns.{begins}

-- 1: one record at most
pub watchdog-short : (w : Watchdog) (clock v : ℕ) → length (watchdog_record w clock v) ≤ 1
unfolding watchdog_record
watchdog-short w clock v =
    cond_cases (λ (rs : List Record). length rs ≤ 1) (is_early w clock) (plain 1 v ∷ []) (only (is_overdue w clock) (plain 2 v)) (λ _. omega arith) (λ _. only-short (is_overdue w clock) (plain 2 v))

-- 3: one for each initiator at most
module _ (q : Bool) (i v : ℕ) where
  pub late-short : (o : Option Live) → length (late_record q i v o) ≤ 1
  unfolding late_record
  late-short none = omega arith
  late-short (some l) = only-short (is_late q l) (full 4 i v l.request)

-- 4: a start, or the one still live, and only in sequence
module _ (p : Plan) (q : Bool) (byte i : ℕ) (s : Side) where
  pub visit-short : length (visit_records p q byte i s) ≤ 1
  unfolding visit_records start_record still_record
  visit-short = go (start_of p q byte i s) refl
    where
      v : ℕ
      v = value_of byte

      idle : (o : Option Entry) → still_record o i v none ≡ []
      idle none = refl
      idle (some e) = refl

      still : (o : Option Entry) (l : Option Live) → length (still_record o i v l) ≤ 1
      still none l = omega arith
      still (some e) none = omega arith
      still (some e) (some l) = omega arith

      go : (o : Option Start) → start_of p q byte i s ≡ o → length (start_record i v (start_of p q byte i s) ++ still_record (visited p q byte i) i v (survives q s.live)) ≤ 1
      go none e = rw e (still (visited p q byte i) (survives q s.live))
      go (some x) e = rw (e, (begins p q byte i s x e).free, idle (visited p q byte i)) (omega arith)

pub no-visit : (p : Plan) (byte i : ℕ) (s : Side) → visit_records p false byte i s ≡ []
unfolding visit_records start_record still_record start_of starting visited
no-visit p byte i s = refl

-- the four parts one behind the other
module _ (b : Box) (w : Watchdog) (byte clock : ℕ) (eight : length (initiators (the_plan b)) ≤ 8) where
  -- out of sequence there is one record more and no visit
  visits-few : (q : Bool) → in_sequence b.last byte ≡ q → length (sequence_record q (value_of byte)) + length (visits_records b byte) ≤ 8
  unfolding visits_records sequence_record only
  visits-few true e =
      let p = the_plan b in
      let q = in_sequence b.last byte in
      omega (arith, parts-short (λ (i : ℕ). visit_records p q byte i (b.side i)) (λ i. visit-short p q byte i (b.side i)) (initiators p))
  visits-few false e =
      let p = the_plan b in
      rw e (omega (arith, parts-length (λ (i : ℕ). visit_records p false byte i (b.side i)) 0 (λ i. ap length (no-visit p byte i (b.side i))) (initiators p)))

  pub records-few : length (records b w byte clock) ≤ most_records
  unfolding records late_records
  records-few =
      let p = the_plan b in
      let q = in_sequence b.last byte in
      let v = value_of byte in
      let ws = watchdog_record w clock v in
      let ss = sequence_record q v in
      omega (
        arith,
        length-append (ws ++ ss ++ late_records b byte) (visits_records b byte),
        length-append (ws ++ ss) (late_records b byte),
        length-append ws ss,
        watchdog-short w clock v,
        parts-short (λ (i : ℕ). late_record q i v (b.side i).live) (λ i. late-short q i v (b.side i).live) (initiators p),
        visits-few q refl,
      )

pub records-size : (clock : ℕ) (rs : List Record) → length (flat_map (record_bytes clock) rs) ≡ record_size * length rs
unfolding record_bytes
records-size clock rs = parts-length (record_bytes clock) record_size (λ r. refl) rs
