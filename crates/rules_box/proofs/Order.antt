-- The records of a time-code: at most 17, and in document 01's order. So no initiator starts twice.
use mathlib.Core.Path.{◌≡◌, refl}
use mathlib.Core.Logic.{◌⊎◌, inl, inr}
use mathlib.Core.List.Memᴰ
use mathlib.Core.List.{List, [], ◌∷◌, ◌++◌, flat_map, Memᴰ}
use mathlib.Core.Option.{Option, none, some}
use mathlib.Core.Bool.{Bool, true, not}
use Prim.Native.Nat.{ℕ, ◌+◌, ◌≤◌}
use native.Mathlib.Omega.{arith}
use lib.ListN.{length}
use lib.Dec.{eqb}
use borrow.Author.Tests.{eqb-true}
use Rattle.lists.specs.Search.{keep, only, below64}
use Rattle.lists.specs.laws.Bools.{both_true, cond_cases}
use Rattle.lists.specs.laws.Search.{only-elim}
use Rattle.lists.specs.laws.Count.{only-short}
use Rattle.rules_plan.specs.Plan.{Entry, Plan}
use Rattle.rules_plan.specs.Meaning.{is_initiator, initiators}
use Rattle.rules_box.specs.declared.Watchdog.{Watchdog}
use Rattle.rules_box.specs.State.{Box, Side, Live, the_plan}
use Rattle.rules_box.specs.Watch.{is_early, is_overdue}
use Rattle.rules_box.specs.Turn.{Start, in_sequence, value_of, is_late, survives, visited, start_of}
use Rattle.rules_box.specs.Records.{Record, plain, full, watchdog_record, sequence_record, late_record, late_records, start_record, still_record, visit_records, visits_records, records}
use Rattle.lists.specs.Order.{Rising}
use Rattle.rules_box.specs.Promises.{is_start_of, stage, rank, RecordsInOrder, OncePerVisit}
use Rattle.rules_plan.specs.Promises.{AcceptedIsSound}
use Rattle.rules_plan.specs.laws.Initiators.{initiator-below}
use Rattle.rules_box.specs.laws.Counts.{watchdog-short, late-short, visit-short, records-few, records-size}
use Rattle.rules_box.specs.laws.Steps.{records-cases}
use Rattle.rules_box.specs.laws.Invariant.{reached-inv}
use Rattle.lists.specs.laws.Rising.{Ordered, rising-kept, wider, short-ordered, append-ordered, flat-ordered, once}

-- 1 and 2
watchdog-rank : (w : Watchdog) (clock v : ℕ) (r : Record) → Memᴰ r (watchdog_record w clock v) → rank r ≡ 64
unfolding watchdog_record plain stage
watchdog-rank w clock v r m =
    cond_cases (λ (rs : List Record). Memᴰ r rs → rank r ≡ 64) (is_early w clock) (plain 1 v ∷ []) (only (is_overdue w clock) (plain 2 v))
    (λ _ k. rw (Memᴰ.eq_of_singleton k)) (λ _ k. rw (only-elim (is_overdue w clock) r (plain 2 v) k).1) m

sequence-rank : (q : Bool) (v : ℕ) (r : Record) → Memᴰ r (sequence_record q v) → rank r ≡ 128
unfolding sequence_record plain stage
sequence-rank q v r m = rw (only-elim (not q) r (plain 3 v) m).1

-- 3
module _ (q : Bool) (i v : ℕ) where
  late-rank : (o : Option Live) (r : Record) → Memᴰ r (late_record q i v o) → rank r ≡ 192 + i
  unfolding late_record full stage
  late-rank none r m = absurd (Memᴰ.not-nil m)
  late-rank (some l) r m = rw (only-elim (is_late q l) r (full 4 i v l.request) m).1

-- 4: a start, or the one still live, and only in sequence
module _ (p : Plan) (q : Bool) (byte i : ℕ) (s : Side) where
  pub record Starts (r : Record) : Type 0 where
    pub start : Start
    pub is : start_of p q byte i s ≡ some start
    pub shown : r ≡ full 5 i (value_of byte) start.found.what

  pub record Still (r : Record) : Type 0 where
    pub entry : Entry
    pub here : visited p q byte i ≡ some entry
    pub live : Live
    pub is : survives q s.live ≡ some live
    pub shown : r ≡ full 6 i (value_of byte) live.request

  pub visit-cases : (r : Record) → Memᴰ r (visit_records p q byte i s) → Starts r ⊎ Still r
  unfolding visit_records start_record still_record
  visit-cases r m = go (Memᴰ.append_cases (start_record i v (start_of p q byte i s)) m)
    where
      v : ℕ
      v = value_of byte

      start : (o : Option Start) → start_of p q byte i s ≡ o → Memᴰ r (start_record i v o) → Starts r ⊎ Still r
      start none e k = absurd (Memᴰ.not-nil k)
      start (some x) e k = inl (record { start = x; is = e; shown = Memᴰ.eq_of_singleton k })

      still : (o : Option Entry) → visited p q byte i ≡ o → (l : Option Live) → survives q s.live ≡ l → Memᴰ r (still_record o i v l) → Starts r ⊎ Still r
      still none f l g k = absurd (Memᴰ.not-nil k)
      still (some e) f none g k = absurd (Memᴰ.not-nil k)
      still (some e) f (some l) g k = inr (record { entry = e; here = f; live = l; is = g; shown = Memᴰ.eq_of_singleton k })

      go : Memᴰ r (start_record i v (start_of p q byte i s)) ⊎ Memᴰ r (still_record (visited p q byte i) i v (survives q s.live)) → Starts r ⊎ Still r
      go (inl k) = start (start_of p q byte i s) refl k
      go (inr k) = still (visited p q byte i) refl (survives q s.live) refl k

  visit-rank : (r : Record) → Memᴰ r (visit_records p q byte i s) → rank r ≡ 256 + i
  unfolding full stage
  visit-rank r m = by (visit-cases r m)
    where
      by : Starts r ⊎ Still r → rank r ≡ 256 + i
      by (inl z) = rw z.shown
      by (inr z) = rw z.shown

initiators-rise : (p : Plan) → Rising (initiators p)
unfolding initiators below64
initiators-rise p = rising-kept (is_initiator p) 64 0

-- a part over the initiators
per-initiator : (p : Plan) (f : ℕ → List Record) (start : ℕ) → ((i : ℕ) → length (f i) ≤ 1) → ((i : ℕ) (r : Record) → Memᴰ r (f i) → rank r ≡ start + i)
    → Ordered rank start (start + 64) (flat_map f (initiators p))
per-initiator p f start short ranks =
    wider rank (start + 0) (start + 64) start (start + 64) (flat_map f (initiators p)) (omega arith) (omega arith)
    (flat-ordered rank f start 64 short ranks 0 (initiators p) (initiators-rise p) (λ i m. (omega arith, initiator-below p i m)) (omega arith))

-- the four parts one behind the other
module _ (b : Box) (w : Watchdog) (byte clock : ℕ) where
  abbrev pub front : List Record
  front = watchdog_record w clock (value_of byte) ++ sequence_record (in_sequence b.last byte) (value_of byte) ++ late_records b byte

  pub front_ordered : Ordered rank 0 256 front
  unfolding late_records sequence_record
  front_ordered =
      let p = the_plan b in
      let q = in_sequence b.last byte in
      let v = value_of byte in
      append-ordered rank 0 192 256 (watchdog_record w clock v ++ sequence_record q v) (late_records b byte) (omega arith) (omega arith)
      (append-ordered rank 0 128 192 (watchdog_record w clock v) (sequence_record q v) (omega arith) (omega arith)
      (short-ordered rank 0 128 (watchdog_record w clock v) (watchdog-short w clock v) (λ r m. let e = watchdog-rank w clock v r m in (omega arith, omega arith)))
      (short-ordered rank 128 192 (sequence_record q v) (only-short (not q) (plain 3 v)) (λ r m. let e = sequence-rank q v r m in (omega arith, omega arith))))
      (per-initiator p (λ (i : ℕ). late_record q i v (b.side i).live) 192 (λ i. late-short q i v (b.side i).live) (λ i r m. late-rank q i v (b.side i).live r m))

  visits-ordered : Ordered rank 256 320 (visits_records b byte)
  unfolding visits_records
  visits-ordered =
      let p = the_plan b in
      let q = in_sequence b.last byte in
      per-initiator p (λ (i : ℕ). visit_records p q byte i (b.side i)) 256 (λ i. visit-short p q byte i (b.side i)) (λ i r m. visit-rank p q byte i (b.side i) r m)

  pub records-ordered : Ordered rank 0 320 (records b w byte clock)
  unfolding records
  records-ordered = append-ordered rank 0 256 320 front (visits_records b byte) (omega arith) (omega arith) front_ordered visits-ordered

pub records-in-order : AcceptedIsSound → RecordsInOrder
unfolding RecordsInOrder
records-in-order ok b reached w byte clock = record {
  most = records-few b w byte clock (reached-inv ok b reached).sound.eight;
  size = records-size clock (records b w byte clock);
  order = (records-ordered b w byte clock).rises;
}

-- an initiator's starts have one rank
pub start-told : (i : ℕ) (r : Record) → is_start_of i r ≡ true → (r.kind ≡ 5) × (r.initiator ≡ i)
unfolding is_start_of
start-told i r h = let ab = both_true (eqb r.kind 5) (eqb r.initiator i) h in (eqb-true r.kind 5 ab.0, eqb-true r.initiator i ab.1)

pub start-rank : (i : ℕ) (r : Record) → is_start_of i r ≡ true → rank r ≡ 256 + i
unfolding stage
start-rank i r h = let t = start-told i r h in rw (t.0, t.1)

pub once-per-visit : OncePerVisit
unfolding OncePerVisit keep
once-per-visit b room w e i = records-cases room b w e (λ (rs : List Record). length (keep (is_start_of i) rs) ≤ 1) (omega arith)
    (λ byte clock _. once rank (is_start_of i) (256 + i) (start-rank i) (records b w byte clock) (records-ordered b w byte clock).rises)
