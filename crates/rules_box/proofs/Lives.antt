-- What is live: it comes with a record of kind 5, it lasts, and it ends by a reply or with a record of kind 4. At an entry of its initiator
-- it has ended, so there is no record of kind 6.
use mathlib.Core.Path.{◌≡◌, refl, sym, ap, ◌∙◌}
use mathlib.Core.Logic.{◌≢◌, ◌⊎◌, inl, inr}
use mathlib.Core.List.{List, ◌++◌, Memᴰ}
use mathlib.Core.Option.{Option, none, some}
use mathlib.Core.Bool.{Bool, true, false}
use Prim.Native.Nat.{ℕ, ◌+◌}
use native.Mathlib.Omega.{arith}
use lib.Dec.{eqb}
use borrow.Author.Tests.{eqb-true, eq-eqb, ne_eqb, not-false}
use Rattle.lists.specs.Search.{is_some, only}
use Rattle.lists.specs.Rows.{test_of}
use Rattle.lists.specs.laws.Bools.{none-some}
use Rattle.lists.specs.laws.Rows.{rise, no_row}
use Rattle.lists.specs.laws.Search.{flat-intro, flat-elim}
use Rattle.rules_plan.specs.Plan.{Entry, Plan}
use Rattle.rules_plan.specs.Meaning.{initiators}
use Rattle.rules_plan.specs.Promises.{AcceptedIsSound}
use Rattle.rules_plan.specs.laws.Sound.{Sound}
use Rattle.rules_plan.specs.laws.Runs.{its-initiator, entry-at}
use Rattle.rules_box.specs.declared.Event.{Event}
use Rattle.rules_box.specs.declared.Event.TheVariants.{TimeCode, Request, Reply, Reading}
use Rattle.rules_box.specs.declared.Watchdog.{Watchdog}
use Rattle.rules_box.specs.State.{Box, Side, Live, the_plan}
use Rattle.rules_box.specs.Refuse.{refusal, refusals, is_live_number}
use Rattle.rules_box.specs.Turn.{Start, value_of, in_sequence, is_late, survives, older, aged, visited, starting, fresh, join, finish, start_of, turned}
use Rattle.rules_box.specs.Records.{Record, full, watchdog_record, sequence_record, late_record, late_records, visit_records, visits_records, records}
use Rattle.rules_box.specs.Step.{accepts, Outcome, with_side, ticked, ended_by}
use Rattle.rules_box.specs.History.{is_tick, lasting}
use Rattle.rules_box.specs.Promises.{LiveByRecordOnly, EndedByReply, EndsByReplyOrRecord, NoneStillLive, stage, rank}
use Rattle.rules_box.specs.laws.Turns.{Outlives, visited-elim, turned-rest, live-cases}
use Rattle.rules_box.specs.laws.Steps.{step-cases, live-kept, records-cases}
use Rattle.rules_box.specs.laws.Invariant.{Inv, reached-inv}
use Rattle.rules_box.proofs.Order.{Starts, Still, visit-cases, front, front_ordered}
use Rattle.rules_box.proofs.Visits.{start-recorded}
use Rattle.rules_box.proofs.InTime.{nothing-live}

-- what lasts through an event
lasts-tick : (b : Box) (room byte clock : ℕ) (l : Live) → refusal room b (TimeCode byte clock) ≡ 0 → lasting b room (TimeCode byte clock) l ≡ older l
unfolding lasting is_tick
lasts-tick b room byte clock l h = rw (eq-eqb (refusal room b (TimeCode byte clock)) 0 h)

lasts-refused : (b : Box) (room : ℕ) (e : Event) (l : Live) → refusal room b e ≢ 0 → lasting b room e l ≡ l
unfolding lasting is_tick
lasts-refused b room (TimeCode byte clock) l h = rw (ne_eqb (refusal room b (TimeCode byte clock)) 0 h)
lasts-refused b room (Request i t k n) l h = refl
lasts-refused b room (Reply i m status) l h = refl
lasts-refused b room (Reading clock) l h = refl

-- what is live was live before, or its start is written down
abbrev Lived : Box → ℕ → Event → ℕ → Live → Type 0
Lived b room e i l = (m : Live) × ((b.side i).live ≡ some m) × (l ≡ lasting b room e m)

abbrev Shown : ℕ → ℕ → Live → List Record → Type 0
Shown kind i l rs = (v : ℕ) × Memᴰ (full kind i v l.request) rs

module _ (b : Box) (w : Watchdog) (room i : ℕ) (l : Live) where
  tick-live : (byte clock : ℕ) → Sound (the_plan b) → refusal room b (TimeCode byte clock) ≡ 0
      → (turned (the_plan b) (in_sequence b.last byte) byte i (b.side i)).live ≡ some l → Lived b room (TimeCode byte clock) i l ⊎ Shown 5 i l (records b w byte clock)
  unfolding fresh
  tick-live byte clock ok taken h = go (live-cases p q byte i (b.side i) l h)
    where
      p : Plan
      p = the_plan b

      q : Bool
      q = in_sequence b.last byte

      go : Outlives q (b.side i).live l ⊎ ((x : Start) × (start_of p q byte i (b.side i) ≡ some x) × (l ≡ fresh x)) → Lived b room (TimeCode byte clock) i l ⊎ Shown 5 i l (records b w byte clock)
      go (inl z) = inl (z.was, z.before, z.is ∙ sym (lasts-tick b room byte clock z.was taken))
      go (inr (x, is, e)) = inr (value_of byte, rw e (start-recorded b w byte clock i ok x is))

  accepted-live : (e : Event) → Sound (the_plan b) → refusal room b e ≡ 0 → ((accepts b w e).box.side i).live ≡ some l → Lived b room e i l ⊎ Shown 5 i l (accepts b w e).records
  unfolding accepts ticked join finish lasting is_tick
  accepted-live (TimeCode byte clock) ok taken h = tick-live byte clock ok taken h
  accepted-live (Request j t k n) ok taken h = inl (l, live-kept b j i (join t k n) l (λ s g. g) h, refl)
  accepted-live (Reply j m status) ok taken h = inl (l, live-kept b j i finish l (λ s g. none-some g) h, refl)
  accepted-live (Reading clock) ok taken h = inl (l, h, refl)

pub live-by-record-only : AcceptedIsSound → LiveByRecordOnly
unfolding LiveByRecordOnly
live-by-record-only ok b reached room w e i l h =
    step-cases room b w e (λ (o : Outcome). (o.box.side i).live ≡ some l → Lived b room e i l ⊎ Shown 5 i l o.records)
    (λ taken g. accepted-live b w room i l e (reached-inv ok b reached).sound taken g) (λ d g. inl (l, g, sym (lasts-refused b room e l d))) h

-- what is live and not late stays so, and nothing starts beside it
module _ (p : Plan) (q : Bool) (byte i : ℕ) (s : Side) (l : Live) (is : s.live ≡ some l) (young : is_late q l ≡ false) where
  pub outlasts : survives q s.live ≡ some (older l)
  unfolding survives
  outlasts = rw (is, survives, young)

  none-starts : start_of p q byte i s ≡ none
  unfolding start_of starting aged is_some
  none-starts = go (visited p q byte i) refl
    where
      go : (o : Option Entry) → visited p q byte i ≡ o → start_of p q byte i s ≡ none
      go none e = rw e
      go (some x) e = rw (e, outlasts)

  still-live : (turned p q byte i s).live ≡ some (older l)
  unfolding aged
  still-live = ap (λ (x : Side). x.live) (turned-rest p q byte i s none-starts) ∙ outlasts

-- what is late is written down
pub late-recorded : (b : Box) (w : Watchdog) (byte clock i : ℕ) (l : Live) → Memᴰ i (initiators (the_plan b)) → (b.side i).live ≡ some l → is_late (in_sequence b.last byte) l ≡ true
    → Memᴰ (full 4 i (value_of byte) l.request) (front b w byte clock)
unfolding late_records late_record only
late-recorded b w byte clock i l one is late =
    let q = in_sequence b.last byte in
    let v = value_of byte in
    let mine : Memᴰ (full 4 i v l.request) (late_record q i v (b.side i).live) = rw (is, late_record, late) (mathlib.Core.List.Memᴰ.head refl) in
    mathlib.Core.List.Memᴰ.append_right (watchdog_record w clock v ++ sequence_record q v) (flat-intro (λ (j : ℕ). late_record q j v (b.side j).live) (initiators (the_plan b)) i _ one mine)

-- the number that an accepted reply brings is the live one's
live-number : (m : ℕ) (l : Live) (o : Option Live) → o ≡ some l → is_live_number m o ≡ true → m ≡ l.request.number
unfolding is_live_number
live-number m l o is h = eqb-true m l.request.number (rw (is, is_live_number) at h)

its-number : (room : ℕ) (b : Box) (i m status : ℕ) → refusal room b (Reply i m status) ≡ 0 → is_live_number m (b.side i).live ≡ true
unfolding refusal refusals rise test_of
its-number room b i m status h = not-false (is_live_number m (b.side i).live) (no_row 28 (refusals room b (Reply i m status)) 0 refl h)

module _ (b : Box) (w : Watchdog) (room i : ℕ) (l : Live) (inv : Inv b) (is : (b.side i).live ≡ some l) where
  abbrev Ends : Event → Outcome → Type 0
  Ends e o = ((o.box.side i).live ≡ some (lasting b room e l)) ⊎ EndedByReply i l e o.answer ⊎ Shown 4 i l o.records

  -- a live one's initiator is one of the plan
  pub initiator : Memᴰ i (initiators (the_plan b))
  initiator = let k = inv.live i l is in rw k.own at (its-initiator (the_plan b) inv.sound k.entry k.has)

  tick-ends : (byte clock : ℕ) → refusal room b (TimeCode byte clock) ≡ 0 → Ends (TimeCode byte clock) (accepts b w (TimeCode byte clock))
  unfolding accepts ticked records
  tick-ends byte clock taken = go (is_late (in_sequence b.last byte) l) refl
    where
      go : (x : Bool) → is_late (in_sequence b.last byte) l ≡ x → Ends (TimeCode byte clock) (accepts b w (TimeCode byte clock))
      go false young = inl (still-live (the_plan b) (in_sequence b.last byte) byte i (b.side i) l is young ∙ ap some (sym (lasts-tick b room byte clock l taken)))
      go true late = inr (inr (value_of byte, mathlib.Core.List.Memᴰ.append_left (visits_records b byte) (late-recorded b w byte clock i l initiator is late)))

  reply-ends : (j m status : ℕ) → refusal room b (Reply j m status) ≡ 0 → Ends (Reply j m status) (accepts b w (Reply j m status))
  unfolding accepts lasting is_tick with_side ended_by
  reply-ends j m status taken = go (eqb i j) refl
    where
      go : (x : Bool) → eqb i j ≡ x → Ends (Reply j m status) (accepts b w (Reply j m status))
      go false e = inl (rw e is)
      go true e =
          let same = eqb-true i j e in
          let number = live-number m l (b.side j).live (rw same at is) (its-number room b j m status taken) in
          inr (inl (record { status = status; event = rw (same, number); answer = rw (← same, is, ended_by) }))

  accepted-ends : (e : Event) → refusal room b e ≡ 0 → Ends e (accepts b w e)
  unfolding accepts lasting is_tick with_side join
  accepted-ends (TimeCode byte clock) taken = tick-ends byte clock taken
  accepted-ends (Request j t k n) taken = inl (go (eqb i j) refl)
    where
      go : (x : Bool) → eqb i j ≡ x → ((with_side b j (join t k n)).side i).live ≡ some l
      go true e = rw e is
      go false e = rw e is
  accepted-ends (Reply j m status) taken = reply-ends j m status taken
  accepted-ends (Reading clock) taken = inl is

pub ends-by-reply-or-record : AcceptedIsSound → EndsByReplyOrRecord
unfolding EndsByReplyOrRecord
ends-by-reply-or-record ok b reached room w e i l is =
    let inv = reached-inv ok b reached in
    step-cases room b w e (Ends b w room i l inv is e) (λ taken. accepted-ends b w room i l inv is e taken) (λ d. inl (is ∙ ap some (sym (lasts-refused b room e l d))))

-- at an entry of its initiator it has ended
pub no_six : (b : Box) (w : Watchdog) (byte clock : ℕ) → Inv b → (r : Record) → Memᴰ r (records b w byte clock) → r.kind ≢ 6
unfolding records visits_records full stage
no_six b w byte clock inv r m six = go (mathlib.Core.List.Memᴰ.append_cases (front b w byte clock) m)
  where
    p : Plan
    p = the_plan b

    q : Bool
    q = in_sequence b.last byte

    still : (i : ℕ) → Still p q byte i (b.side i) r → ⊥
    still i z =
        let (seq, at) = visited-elim p q byte i z.entry z.here in
        let stands = entry-at p.entries i (value_of byte) z.entry at in
        let ended = nothing-live p inv.sound z.entry stands.has b.last byte seq (sym stands.slot) (b.side i).live (λ l is. rw stands.own (inv.live i l is)) in
        none-some (sym ended ∙ z.is)

    by : (i : ℕ) → Starts p q byte i (b.side i) r ⊎ Still p q byte i (b.side i) r → ⊥
    by i (inl z) = let five : r.kind ≡ 5 = ap (λ (x : Record). x.kind) z.shown in omega arith
    by i (inr z) = still i z

    go : Memᴰ r (front b w byte clock) ⊎ Memᴰ r (visits_records b byte) → ⊥
    go (inl k) = let high : rank r ≡ 256 + r.initiator = rw six in omega (arith, ((front_ordered b w byte clock).range r k).1)
    go (inr k) = let (i, _, g) = flat-elim (λ (j : ℕ). visit_records p q byte j (b.side j)) (initiators p) r k in by i (visit-cases p q byte i (b.side i) r g)

pub none-still-live : AcceptedIsSound → NoneStillLive
unfolding NoneStillLive
none-still-live ok b reached room w e r m =
    records-cases room b w e (λ (rs : List Record). Memᴰ r rs → r.kind ≢ 6) (λ k. absurd (mathlib.Core.List.Memᴰ.not-nil k))
    (λ byte clock _ k. no_six b w byte clock (reached-inv ok b reached) r k) m
