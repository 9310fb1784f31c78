-- A request starts in time: the events that were answered, as the history of the definitions has them.
use mathlib.Core.Path.{◌≡◌, refl, sym, ap, ap₂, ◌∙◌}
use mathlib.Core.List.Memᴰ
use mathlib.Core.List.{List, [], ◌∷◌, ◌++◌, map}
use mathlib.Core.Option.{some}
use mathlib.Core.Bool.{Bool, true, false, not, ◌||◌, cond}
use Prim.Native.Nat.{ℕ, ◌+◌, ◌-◌}
use native.Mathlib.Omega.{arith}
use lib.ListN.{length, length-map}
use lib.Dec.{eqb, ltb}
use borrow.Author.Tests.{eqb-true, eqb-false, not-false}
use Rattle.lists.specs.Rows.{test_of}
use Rattle.lists.specs.Place.{at_place}
use Rattle.lists.specs.laws.Bools.{true-both, not-both, some-some}
use Rattle.lists.specs.laws.Rows.{rise, no_row}
use Rattle.lists.specs.laws.Place.{at-without, at-append, at-end}
use Rattle.lists.specs.laws.At.{at-member}
use Rattle.rules_plan.specs.Meaning.{is_initiator, initiators}
use Rattle.rules_plan.specs.Promises.{AcceptedIsSound}
use Rattle.memory_plan.specs.View.{owner, row_for}
use Rattle.memory_plan.specs.laws.Rows.{row-for-place}
use Rattle.rules_box.specs.declared.Event.{Event}
use Rattle.rules_box.specs.declared.Event.TheVariants.{TimeCode, Request, Reply, Reading}
use Rattle.rules_box.specs.Answer.{Joined, values}
use Rattle.rules_box.specs.State as state
use Rattle.rules_box.specs.State.{Box, Side, the_plan}
use Rattle.rules_box.specs.Refuse.{refusal, refusals}
use Rattle.rules_box.specs.Turn.{in_sequence, asked, join}
use Rattle.rules_box.specs.Step.{step, accepts}
use Rattle.rules_box.specs.History.{Offer, offered, is_tick, is_next, ticks, all_next, leaving, fate, has_started}
use Rattle.rules_box.specs.Promises as box
use Rattle.rules_box.specs.laws.Steps.{step-accepted, side-changed}
use Rattle.rules_box.specs.laws.Fit.{FitRequest}
use Rattle.memory_run.specs.Run.{word_of}
use Rattle.box_calls.specs.Calls.{Memory, Lent, StepLeaves, Came, by-event, Done, Follow, nothing, then}
use Rattle.box_promises.specs.Words.{RowOf, waiting_in, request_in, line_in, number_of, InSequence, time_codes, AllInSequence}
use Rattle.box_promises.specs.Promises.{Leaves, stays, moves, Starts, now, later, RequestsStartInTime}
use Rattle.box_promises.proofs.Held.{held, outcome}
use Rattle.box_promises.proofs.Nothing.{accepted-by}
use Rattle.box_promises.proofs.Requests.{request-told}
use Rattle.box_promises.proofs.Rows.{line-words}
use Rattle.box_promises.proofs.Says.{says}
use Rattle.box_promises.proofs.Moves.{accepted-is, tick_is, at_after, grows, Moved, kept, gone, moved}

-- an answered event as the history has it
abbrev pub offer_of : Done → Offer
offer_of d = record { room = length d.before.records; lent = d.before.five; event = d.event }

module _ (ok : AcceptedIsSound) where
  module _ (b : Box) (d : Done) (came : Came d.before.memory b) (s : StepLeaves d.before d.event d.answer d.after) where
    abbrev room : ℕ
    room = length d.before.records

    -- an accepted time-code is in sequence
    next-is : ((byte clock : ℕ) → d.event ≡ TimeCode byte clock → number_of d.answer ≡ 0 → InSequence d.before.memory byte)
        → not (is_tick b room d.event) || is_next b d.event ≡ true
    unfolding is_tick is_next
    next-is q = go d.event refl
      where
        by : (byte clock : ℕ) → d.event ≡ TimeCode byte clock → (a : Bool) → eqb (number_of d.answer) 0 ≡ a → not a || in_sequence b.last byte ≡ true
        by byte clock is false h = refl
        by byte clock is true h = ((says d.before.memory b (held ok d.before.memory b came)).in-sequence byte).0 (q byte clock is (eqb-true _ 0 h))

        go : (e : Event) → d.event ≡ e → not (is_tick b room d.event) || is_next b d.event ≡ true
        go (TimeCode byte clock) is = rw (is, is_tick, is_next, rw is at (accepted-is ok b d came s)) (by byte clock is (eqb (number_of d.answer) 0) refl)
        go (Request i t k n) is = rw (is, is_tick, is_next)
        go (Reply i m status) is = rw (is, is_tick, is_next)
        go (Reading clock) is = rw (is, is_tick, is_next)

  -- the events that follow
  pub ticks-are : (m : Memory) (b : Box) (ds : List Done) → Came m b → Follow m ds → ticks b (map offer_of ds) ≡ time_codes ds
  unfolding ticks time_codes offered
  ticks-are m b ds came nothing = refl
  ticks-are m b ds came (then {d} {ds = es} s f) =
      ap₂ (λ (x : Bool) (n : ℕ). cond x 1 0 + n) (tick_is ok b d came s) (ticks-are d.after.memory (offered b (offer_of d)) es (by-event came d.event s) f)

  pub all-next : (m : Memory) (b : Box) (ds : List Done) → Came m b → Follow m ds → AllInSequence ds → all_next b (map offer_of ds) ≡ true
  unfolding all_next AllInSequence offered
  all-next m b ds came nothing q = refl
  all-next m b ds came (then {d} {ds = es} s f) q =
      true-both (next-is b d came s (λ byte clock is h. q d (Memᴰ.head refl) byte clock is h))
      (all-next d.after.memory (offered b (offer_of d)) es (by-event came d.event s) f (λ x m. q x (Memᴰ.tail m)))

  -- where the history has a start, the request leaves its line
  module _ (this-one : box.ThisVeryRequest) (r i word : ℕ) where
    pub starts-in : (m : Memory) (b : Box) (ds : List Done) (k : ℕ) → Came m b → Follow m ds → at_place r (initiators (the_plan b)) ≡ some i → at_place k (line_in m r) ≡ some word
        → has_started i k b (map offer_of ds) ≡ true → Starts r i word k ds
    unfolding has_started offered leaving
    starts-in m b ds k came nothing row at h = not-both h refl
    starts-in m b ds k came (then {d} {ds = es} s f) row at h =
        go (λ j a g. starts-in d.after.memory (offered b (offer_of d)) es j (by-event came d.event s) f (at_after ok b d came s r i row) a g) (moved ok b d came s r i row this-one)
      where
        n : ℕ
        n = length d.before.records

        by : ((j : ℕ) → at_place j (line_in d.after.memory r) ≡ some word → has_started i j (offered b (offer_of d)) (map offer_of es) ≡ true → Starts r i word j es)
            → (other place : ℕ) → Leaves d r i other place → fate b i k n d.event ≡ leaving place k → (x : Bool) → eqb place k ≡ x → Starts r i word k (d ∷ es)
        by ih other place l e true x =
            let same = eqb-true place k x in
            let one : other ≡ word = some-some (sym l.was ∙ ap (λ (j : ℕ). at_place j (line_in d.before.memory r)) same ∙ at) in
            now (rw (one, same) at l)
        by ih other place l e false x =
            let apart = eqb-false place k x in
            let on : at_place (cond (ltb place k) (k - 1) k) (line_in d.after.memory r) ≡ some word = ap (at_place _) l.line ∙ at-without (line_in d.before.memory r) place k word at apart in
            later (moves l apart) (ih (cond (ltb place k) (k - 1) k) on (rw (e, leaving, x, has_started) at h))

        go : ((j : ℕ) → at_place j (line_in d.after.memory r) ≡ some word → has_started i j (offered b (offer_of d)) (map offer_of es) ≡ true → Starts r i word j es)
            → Moved ok b d came s r i row → Starts r i word k (d ∷ es)
        go ih (kept more e fates) = later (stays more e) (ih k (ap (at_place k) e ∙ at-append (line_in d.before.memory r) more k word at) (rw (fates k, has_started) at h))
        go ih (gone other place l fates) = by ih other place l (fates k) (eqb place k) refl

  -- who asks and is accepted is an initiator
  asks : (n : ℕ) (b : Box) (i t k z : ℕ) → refusal n b (Request i t k z) ≡ 0 → is_initiator (the_plan b) i ≡ true
  unfolding refusal refusals rise test_of
  asks n b i t k z h = not-false (is_initiator (the_plan b) i) (no_row 22 (refusals n b (Request i t k z)) 0 refl h)

  -- a request that was accepted, and its place in the line of its row
  pub record Joining (before after : Lent) (b : Box) (i t k n transaction : ℕ) : Type 0 where
    pub taken : refusal (length before.records) b (Request i t k n) ≡ 0
    pub row : ℕ
    pub place : at_place row (initiators (the_plan b)) ≡ some i
    pub own : RowOf before.memory row i
    pub waiting : waiting_in before.memory row ≡ length (b.side i).line
    pub word : ℕ
    pub joins : line_in after.memory row ≡ line_in before.memory row ++ (word ∷ [])
    pub asked : request_in word ≡ state.request t k n transaction
    pub stands : at_place (length (b.side i).line) (line_in after.memory row) ≡ some word
    pub place_after : at_place row (initiators (the_plan (step (length before.records) b before.five (Request i t k n)).box)) ≡ some i

  pub joining : (before after : Lent) (i t k n transaction : ℕ) (b : Box) → Came before.memory b → StepLeaves before (Request i t k n) (Joined transaction) after
      → Joining before after b i t k n transaction
  unfolding values accepts join asked
  joining before after i t k n transaction b came s =
      let e = Request i t k n in
      let d : Done = record { before = before; event = e; answer = Joined transaction; after = after } in
      let h = held ok before.memory b came in
      let o = outcome ok b e s h in
      let size = length before.records in
      let w = before.five in
      let taken = accepted-by size b w e (ap number_of (sym o.answer)) in
      let joined = (step size b w e).box in
      let answered : Joined transaction ≡ Joined (b.side i).next = o.answer ∙ ap (λ z. z.answer) (step-accepted size b w e taken) in
      let same : transaction ≡ (b.side i).next = cc in
      let p = the_plan b in
      let row = row_for p i in
      let place = row-for-place p h.finds.fit.sound i (asks size b i t k n taken) in
      let own = ((says before.memory b h).row row i).1 place in
      let line = (b.side i).line in
      let r = state.request t k n (b.side i).next in
      let side : (joined.side i).line ≡ line ++ (r ∷ []) = ap (λ z. (z.box.side i).line) (step-accepted size b w e taken) ∙ ap (λ (z : Side). z.line) (side-changed b i (join t k n)) in
      let word = word_of (owner p i) r in
      let joins = grows ok b d came s row i place (r ∷ []) side in
      let h' = held ok after.memory joined (by-event came e s) in
      let fit : FitRequest r = (h'.finds.fit.sides i).line r (rw side (at-member (line ++ (r ∷ [])) (length line) r (at-end line r))) in
      let long : length (line_in before.memory row) ≡ length line = ap length (line-words before.memory b h row i place) ∙ length-map line (word_of (owner p i)) in
      record {
        taken = taken;
        row = row;
        place = place;
        own = own;
        waiting = (says before.memory b h).waiting row i own;
        word = word;
        joins = joins;
        asked = request-told (owner p i) r fit ∙ ap (state.request t k n) (sym same);
        stands = ap₂ at_place (sym long) joins ∙ at-end (line_in before.memory row) word;
        place_after = at_after ok b d came s row i place;
      }

  pub requests-start-in-time : box.RequestsStartInTime → box.ThisVeryRequest → RequestsStartInTime
  unfolding RequestsStartInTime box.RequestsStartInTime
  requests-start-in-time in-time this-one before after i t k n transaction b came s =
      let j = joining before after i t k n transaction b came s in
      let e = Request i t k n in
      let size = length before.records in
      let w = before.five in
      let joined = (step size b w e).box in
      let next = by-event came e s in
      let waiting = j.waiting in
      record {
        row = j.row;
        own = j.own;
        word = j.word;
        joins = j.joins;
        asked = j.asked;
        within = λ ds follow all enough.
            let ticking = ticks-are after.memory joined ds next follow in
            let started =
            in-time b (held ok before.memory b came).reached size w i t k n j.taken (map offer_of ds) (all-next after.memory joined ds next follow all) (omega arith) in
            rw waiting (starts-in this-one j.row i j.word after.memory joined ds (length (b.side i).line) next follow j.place_after j.stands started);
      }
