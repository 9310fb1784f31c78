-- How what is live in a row came there, and how it ends: by the records and the answer of the event.
use mathlib.Core.Path.{◌≡◌, refl, sym, ap, ◌∙◌}
use mathlib.Core.Logic.{◌≢◌, ◌⊎◌, inl, inr}
use mathlib.Core.List.{List, Memᴰ}
use mathlib.Core.Option.{some}
use mathlib.Core.Bool.{Bool, true, false, cond}
use Prim.Native.Nat.{ℕ, ◌+◌, ◌<◌}
use native.Mathlib.Omega.{arith}
use lib.ListN.{length}
use Rattle.lists.specs.Place.{at_place}
use Rattle.lists.specs.laws.At.{at-member}
use Rattle.rules_plan.specs.Plan.{nth}
use Rattle.rules_plan.specs.Meaning.{initiators}
use Rattle.rules_plan.specs.Promises.{AcceptedIsSound}
use Rattle.memory_plan.specs.View.{owner}
use Rattle.rules_box.specs.declared.Event.{Event}
use Rattle.rules_box.specs.declared.Watchdog.{Watchdog}
use Rattle.rules_box.specs.State.{Box, Live, the_plan}
use Rattle.rules_box.specs.Turn.{older}
use Rattle.rules_box.specs.Records.{record_bytes, full}
use Rattle.rules_box.specs.Step.{Outcome, step}
use Rattle.rules_box.specs.History.{is_tick, lasting}
use Rattle.rules_box.specs.Promises as box
use Rattle.rules_box.specs.laws.Steps.{plan-kept}
use Rattle.memory_run.specs.Run.{word_of}
use Rattle.box_calls.specs.Calls.{StepLeaves, Came, by-event, Done}
use Rattle.box_promises.specs.Words.{run_word, request_in, tick_of, record_at}
use Rattle.box_promises.specs.Promises.{HeldBy, OutcomeOf, Shows, StillLive, LiveByRecordOnly, EndedByReply, EndsByReplyOrRecord, NoneStillLive}
use Rattle.box_promises.proofs.Held.{held, outcome}
use Rattle.box_promises.proofs.Requests.{request-told}
use Rattle.box_promises.proofs.Rows.{initiator-row}
use Rattle.box_promises.proofs.Lives.{Lives, lives, word-is, time-is}
use Rattle.box_promises.proofs.Written.{shown-in, at-place, written_at}
use Rattle.box_promises.proofs.Moves.{tick_is, at_after}

-- what lasts is the same request with the same span, and older by the time-code
lasting-is : (b : Box) (room : ℕ) (e : Event) (l : Live)
    → ((lasting b room e l).request ≡ l.request) × ((lasting b room e l).span ≡ l.span) × ((lasting b room e l).age ≡ l.age + cond (is_tick b room e) 1 0)
unfolding lasting older
lasting-is b room e l = go (is_tick b room e) refl
  where
    go : (x : Bool) → is_tick b room e ≡ x → ((lasting b room e l).request ≡ l.request) × ((lasting b room e l).span ≡ l.span) × ((lasting b room e l).age ≡ l.age + cond (is_tick b room e) 1 0)
    go true h = rw h (refl, refl, refl)
    go false h = rw h (refl, refl, omega arith)

module _ (ok : AcceptedIsSound) (b : Box) (d : Done) (came : Came d.before.memory b) (s : StepLeaves d.before d.event d.answer d.after) (r : ℕ) (low : r < 8) where
  abbrev room : ℕ
  room = length d.before.records

  abbrev w : Watchdog
  w = d.before.five

  abbrev o : Outcome
  o = step room b w d.event

  h : HeldBy d.before.memory b
  h = held ok d.before.memory b came

  h' : HeldBy d.after.memory o.box
  h' = held ok d.after.memory o.box (by-event came d.event s)

  -- the words of what lasts
  module _ (i : ℕ) (at : at_place r (initiators (the_plan b)) ≡ some i) (l : Live) (is : (b.side i).live ≡ some l) (lasts : (o.box.side i).live ≡ some (lasting b room d.event l)) where
    lives-on : StillLive d.before.memory d.after.memory (tick_of d.event d.answer) r
    lives-on =
        let m = lasting b room d.event l in
        let (request, span, age) = lasting-is b room d.event l in
        let at' = at_after ok b d came s r i at in
        let f = (h.finds.fit.sides i).live l is in
        let f' = (h'.finds.fit.sides i).live m lasts in
        let time = time-is d.before.memory b h r i low at l is in
        let time' = time-is d.after.memory o.box h' r i low at' m lasts in
        let tick : cond (is_tick b room d.event) 1 0 ≡ tick_of d.event d.answer = ap (λ (x : Bool). cond x 1 0) (tick_is ok b d came s) in
        record {
          live = λ z. omega (arith, f.young);
          still = λ z. omega (arith, f'.young);
          request = word' m at' lasts ∙ ap (word_of (owner (the_plan b) i)) request ∙ sym (word-is d.before.memory b h r i low at l is);
          time = omega (arith, f.young, f'.young);
        }
      where
        word' : (m : Live) → at_place r (initiators (the_plan o.box)) ≡ some i → (o.box.side i).live ≡ some m → run_word d.after.memory r 10 ≡ word_of (owner (the_plan b) i) m.request
        word' m at' lasts' = rw (plan-kept room b w d.event) at (word-is d.after.memory o.box h' r i low at' m lasts')

  -- what is live was so before, or starts
  came-live : box.LiveByRecordOnly → run_word d.after.memory r 11 ≢ 0
      → StillLive d.before.memory d.after.memory (tick_of d.event d.answer) r
      ⊎ Shows 5 d.event d.answer d.after.records (nth d.after.memory.rows r) (request_in (run_word d.after.memory r 10))
  unfolding box.LiveByRecordOnly
  came-live only n = go (only b h.reached room w d.event x.initiator x.live x.is)
    where
      x : Lives d.after.memory o.box r
      x = lives d.after.memory o.box h' r low n

      at : at_place r (initiators (the_plan b)) ≡ some x.initiator
      at = rw (plan-kept room b w d.event) at x.place

      go : ((m : Live) × ((b.side x.initiator).live ≡ some m) × (x.live ≡ lasting b room d.event m))
          ⊎ ((v : ℕ) × Memᴰ (full 5 x.initiator v x.live.request) o.records)
          → StillLive d.before.memory d.after.memory (tick_of d.event d.answer) r
          ⊎ Shows 5 d.event d.answer d.after.records (nth d.after.memory.rows r) (request_in (run_word d.after.memory r 10))
      go (inl (m, is, lasts)) = inl (lives-on x.initiator at m is (x.is ∙ ap some lasts))
      go (inr (v, m)) =
          let f' = (h'.finds.fit.sides x.initiator).live x.live x.is in
          let own = initiator-row d.after.memory o.box h' r x.initiator x.place in
          let word = word-is d.after.memory o.box h' r x.initiator low x.place x.live x.is in
          inr (rw (own, word, request-told (owner (the_plan o.box) x.initiator) x.live.request f'.request) (shown-in room b w d.event (outcome ok b d.event s h) 5 x.initiator v x.live.request m))

  -- what was live is so still, or was ended by a reply, or is reported late
  live-ends : box.EndsByReplyOrRecord → run_word d.before.memory r 11 ≢ 0
      → StillLive d.before.memory d.after.memory (tick_of d.event d.answer) r
      ⊎ EndedByReply (nth d.before.memory.rows r) (request_in (run_word d.before.memory r 10)) d.event d.answer
      ⊎ Shows 4 d.event d.answer d.after.records (nth d.before.memory.rows r) (request_in (run_word d.before.memory r 10))
  unfolding box.EndsByReplyOrRecord
  live-ends ends n = go (ends b h.reached room w d.event x.initiator x.live x.is)
    where
      x : Lives d.before.memory b r
      x = lives d.before.memory b h r low n

      own : nth d.before.memory.rows r ≡ x.initiator
      own = initiator-row d.before.memory b h r x.initiator x.place

      request : request_in (run_word d.before.memory r 10) ≡ x.live.request
      request = ap request_in (word-is d.before.memory b h r x.initiator low x.place x.live x.is)
          ∙ request-told (owner (the_plan b) x.initiator) x.live.request ((h.finds.fit.sides x.initiator).live x.live x.is).request

      out : OutcomeOf o d.before d.event d.answer d.after
      out = outcome ok b d.event s h

      go : ((o.box.side x.initiator).live ≡ some (lasting b room d.event x.live))
          ⊎ box.EndedByReply x.initiator x.live d.event o.answer
          ⊎ ((v : ℕ) × Memᴰ (full 4 x.initiator v x.live.request) o.records)
          → StillLive d.before.memory d.after.memory (tick_of d.event d.answer) r
          ⊎ EndedByReply (nth d.before.memory.rows r) (request_in (run_word d.before.memory r 10)) d.event d.answer
          ⊎ Shows 4 d.event d.answer d.after.records (nth d.before.memory.rows r) (request_in (run_word d.before.memory r 10))
      go (inl lasts) = inl (lives-on x.initiator x.place x.live x.is lasts)
      go (inr (inl e)) = inr (inl (rw (own, request) (record { status = e.status; event = e.event; answer = out.answer ∙ e.answer })))
      go (inr (inr (v, m))) = inr (inr (rw (own, request) (shown-in room b w d.event out 4 x.initiator v x.live.request m)))

pub live-by-record-only : AcceptedIsSound → box.LiveByRecordOnly → LiveByRecordOnly
unfolding LiveByRecordOnly
live-by-record-only ok only before after e answer b came s r low n =
    came-live ok b (record { before = before; event = e; answer = answer; after = after }) came s r low only n

pub ends-by-reply-or-record : AcceptedIsSound → box.EndsByReplyOrRecord → EndsByReplyOrRecord
unfolding EndsByReplyOrRecord
ends-by-reply-or-record ok ends before after e answer b came s r low n =
    live-ends ok b (record { before = before; event = e; answer = answer; after = after }) came s r low ends n

-- no record of kind 6
pub none-still-live : AcceptedIsSound → box.NoneStillLive → NoneStillLive
unfolding NoneStillLive box.NoneStillLive record_bytes
none-still-live ok none-still before after e answer b came s j low six =
    let room = length before.records in
    let h = held ok before.memory b came in
    let out = outcome ok b e s h in
    let (r, at) = at-place room b before.five e out j low in
    let kind : nth (record_at after.records j) 0 ≡ r.kind = ap (λ (bytes : List ℕ). nth bytes 0) (written_at room b before.five e out j r at) in
    none-still b h.reached room before.five e r (at-member (step room b before.five e).records j r at) (sym kind ∙ six)
