-- Starts and their records: a start is written down, and what is written down as one stands at an entry of the initiator. Whoever starts
-- has nothing live any more.
use mathlib.Core.Path.{◌≡◌, refl, sym, ap, ◌∙◌}
use mathlib.Core.Logic.{◌⊎◌, inl, inr}
use mathlib.Core.List.{List, Memᴰ}
use mathlib.Core.Option.{some}
use mathlib.Core.Bool.{Bool, true}
use Prim.Native.Nat.{ℕ}
use native.Mathlib.Omega.{arith}
use Rattle.lists.specs.laws.Search.{flat-intro, flat-elim}
use Rattle.lists.specs.laws.Place.{first_some_lem}
use Rattle.rules_plan.specs.Plan.{Plan}
use Rattle.rules_plan.specs.Meaning.{initiators}
use Rattle.rules_plan.specs.laws.Sound.{Sound}
use Rattle.rules_box.specs.declared.Event.TheVariants.{TimeCode}
use Rattle.rules_box.specs.declared.Watchdog.{Watchdog}
use Rattle.rules_box.specs.State.{Box, the_plan}
use Rattle.rules_box.specs.Turn.{Start, value_of, in_sequence, survives, visited, allows, start_of}
use Rattle.rules_box.specs.Records.{Record, full, start_record, still_record, visit_records, visits_records, records}
use Rattle.rules_box.specs.Promises.{is_start_of, AtAnEntry, StartsOnlyAtEntries}
use Rattle.rules_plan.specs.laws.Runs.{its-initiator}
use Rattle.rules_box.specs.laws.Turns.{begins}
use Rattle.rules_box.specs.laws.Steps.{records-cases}
use Rattle.rules_box.proofs.Order.{Starts, Still, visit-cases, front, front_ordered, start-told, start-rank}

-- a start is written down
pub start-recorded : (b : Box) (w : Watchdog) (byte clock i : ℕ) → Sound (the_plan b) → (x : Start) → start_of (the_plan b) (in_sequence b.last byte) byte i (b.side i) ≡ some x
    → Memᴰ (full 5 i (value_of byte) x.found.what) (records b w byte clock)
unfolding records visits_records visit_records start_record
start-recorded b w byte clock i ok x h =
    let p = the_plan b in
    let q = in_sequence b.last byte in
    let v = value_of byte in
    let r = full 5 i v x.found.what in
    let at = (begins p q byte i (b.side i) x h).at in
    let here : Memᴰ r (start_record i v (start_of p q byte i (b.side i))) = rw h (mathlib.Core.List.Memᴰ.head refl) in
    let mine : Memᴰ r (visit_records p q byte i (b.side i)) = mathlib.Core.List.Memᴰ.append_left (still_record (visited p q byte i) i v (survives q (b.side i).live)) here in
    let one : Memᴰ i (initiators p) = rw at.own at (its-initiator p ok x.entry at.has) in
    mathlib.Core.List.Memᴰ.append_right (front b w byte clock)
    (flat-intro (λ (j : ℕ). visit_records p q byte j (b.side j)) (initiators p) i r one mine)

-- what is written down as a start is one, at an entry of the initiator
at-an-entry : (b : Box) (w : Watchdog) (byte clock i : ℕ) (r : Record) → is_start_of i r ≡ true → Memᴰ r (records b w byte clock) → AtAnEntry b byte i r
unfolding records visits_records full allows
at-an-entry b w byte clock i r h m = go (mathlib.Core.List.Memᴰ.append_cases (front b w byte clock) m)
  where
    p : Plan
    p = the_plan b

    q : Bool
    q = in_sequence b.last byte

    told : (r.kind ≡ 5) × (r.initiator ≡ i)
    told = start-told i r h

    by : (j : ℕ) → Starts p q byte j (b.side j) r ⊎ Still p q byte j (b.side j) r → AtAnEntry b byte i r
    by j (inr z) = let six : r.kind ≡ 6 = ap (λ (x : Record). x.kind) z.shown in absurd (omega (arith, told.0))
    by j (inl z) =
        let x = z.start in
        let s = begins p q byte j (b.side j) x z.is in
        let one : r.initiator ≡ j = ap (λ (x : Record). x.initiator) z.shown in
        record {
          in-sequence = s.in-sequence;
          value = ap (λ (x : Record). x.value) z.shown;
          entry = x.entry;
          of-plan = s.at.has;
          own = s.at.own ∙ sym one ∙ told.1;
          here = s.at.slot;
          permitted = rw z.shown (first_some_lem (allows p x.entry) (b.side j).line x.found s.found).1;
        }

    go : Memᴰ r (front b w byte clock) ⊎ Memᴰ r (visits_records b byte) → AtAnEntry b byte i r
    go (inl k) = absurd (omega (arith, ((front_ordered b w byte clock).range r k).1, start-rank i r h))
    go (inr k) = let (j, _, g) = flat-elim (λ (j : ℕ). visit_records p q byte j (b.side j)) (initiators p) r k in by j (visit-cases p q byte j (b.side j) r g)

pub starts-only-at-entries : StartsOnlyAtEntries
unfolding StartsOnlyAtEntries
starts-only-at-entries b room w e i r m h =
    records-cases room b w e (λ (rs : List Record). Memᴰ r rs → (byte : ℕ) × (clock : ℕ) × (e ≡ TimeCode byte clock) × AtAnEntry b byte i r)
    (λ k. absurd (mathlib.Core.List.Memᴰ.not-nil k)) (λ byte clock is k. (byte, clock, is, at-an-entry b w byte clock i r h k)) m
