-- What an answered event does to the line of one row: it stays, one more joins at its end, or one leaves it, which is live then and written down.
use mathlib.Core.Path.{◌≡◌, refl, sym, ap, ◌∙◌}
use mathlib.Core.Logic.{◌≢◌}
use mathlib.Core.List.{List, [], ◌∷◌, ◌++◌, map, append-nil, map-append}
use mathlib.Core.Option.{Option, none, some}
use mathlib.Core.Bool.{Bool, true, false, ◌&&◌}
use Prim.Native.Nat.{ℕ, zero, suc, ◌<◌}
use native.Mathlib.Omega.{arith}
use lib.ListN.{length}
use lib.Dec.{eqb}
use borrow.Author.Tests.{eqb-true, eqb-false, eq-eqb}
use Rattle.lists.specs.Place.{Found, first, at_place, without}
use Rattle.lists.specs.laws.Bools.{same_test, none-some, some-some}
use Rattle.lists.specs.laws.Place.{first_some_lem, first-has}
use Rattle.lists.specs.laws.At.{at-member}
use Rattle.lists.specs.laws.Lines.{map-without}
use Rattle.rules_plan.specs.Meaning.{initiators}
use Rattle.rules_plan.specs.Promises.{AcceptedIsSound}
use Rattle.memory_plan.specs.View.{Owner, owner}
use Rattle.rules_box.specs.declared.Event.{Event}
use Rattle.rules_box.specs.declared.Event.TheVariants.{TimeCode, Request, Reply, Reading}
use Rattle.rules_box.specs.declared.Watchdog.{Watchdog}
use Rattle.rules_box.specs.State as state
use Rattle.rules_box.specs.State.{Box, Side, Live, the_plan}
use Rattle.rules_box.specs.Refuse.{refusal}
use Rattle.rules_box.specs.Turn.{Start, in_sequence, asked, join, finish, aged, allows, start_of, turned}
use Rattle.rules_box.specs.Step.{Outcome, step, accepts, ticked}
use Rattle.rules_box.specs.History.{is_tick, waits, leaving, fate_by, fate}
use Rattle.rules_box.specs.Promises as box
use Rattle.rules_box.specs.laws.Turns.{Begins, begins, turned-start, turned-rest}
use Rattle.rules_box.specs.laws.Steps.{step-accepted, step-refused, side-cases, plan-kept}
use Rattle.rules_box.specs.laws.Fit.{FitRequest}
use Rattle.memory_run.specs.Run.{word_of}
use Rattle.box_calls.specs.Calls.{StepLeaves, Came, by-event, Done}
use Rattle.box_promises.specs.Words.{request_in, line_in, number_of, is_time_code}
use Rattle.box_promises.specs.Promises.{HeldBy, Leaves}
use Rattle.box_promises.proofs.Held.{held, outcome}
use Rattle.box_promises.proofs.Nothing.{accepted-by, accepts-by}
use Rattle.box_promises.proofs.Requests.{request-told}
use Rattle.box_promises.proofs.Rows.{eight-rows, line-words}
use Rattle.box_promises.proofs.Written.{shown-in}
use Rattle.box_promises.proofs.Lives.{word-is, time-is}

-- places of a list whose elements are changed one by one
module _ {A B : Type 0} (f : A → B) where
  at_map : (k : ℕ) (xs : List A) (x : A) → at_place k xs ≡ some x → at_place k (map f xs) ≡ some (f x)
  unfolding at_place
  at_map k [] x h = none-some h
  at_map zero (y ∷ ys) x h = ap some (ap f (some-some h))
  at_map (suc k) (y ∷ ys) x h = at_map k ys x h

  at-mapped : (k : ℕ) (xs : List A) (y : B) → at_place k (map f xs) ≡ some y → (x : A) × (at_place k xs ≡ some x) × (f x ≡ y)
  unfolding at_place
  at-mapped k [] y h = none-some h
  at-mapped zero (x ∷ xs) y h = (x, refl, some-some h)
  at-mapped (suc k) (x ∷ xs) y h = at-mapped k xs y h

module _ (ok : AcceptedIsSound) (b : Box) (d : Done) (came : Came d.before.memory b) (s : StepLeaves d.before d.event d.answer d.after) where
  abbrev room : ℕ
  room = length d.before.records

  abbrev w : Watchdog
  w = d.before.five

  abbrev o : Outcome
  o = step room b w d.event

  before : HeldBy d.before.memory b
  before = held ok d.before.memory b came

  after : HeldBy d.after.memory o.box
  after = held ok d.after.memory o.box (by-event came d.event s)

  number_is : number_of d.answer ≡ number_of o.answer
  number_is = ap number_of (outcome ok b d.event s before).answer

  -- an event is accepted by the rules where its answer says so
  pub accepted-is : eqb (refusal room b d.event) 0 ≡ eqb (number_of d.answer) 0
  accepted-is =
      same_test (eqb (refusal room b d.event) 0) (eqb (number_of d.answer) 0)
      (λ h. eq-eqb _ 0 (number_is ∙ accepts-by room b w d.event (eqb-true _ 0 h)))
      (λ h. eq-eqb _ 0 (accepted-by room b w d.event (sym number_is ∙ eqb-true _ 0 h)))

  pub tick_is : is_tick b room d.event ≡ is_time_code d.event && eqb (number_of d.answer) 0
  unfolding is_tick is_time_code
  tick_is = go d.event refl
    where
      go : (e : Event) → d.event ≡ e → is_tick b room d.event ≡ is_time_code d.event && eqb (number_of d.answer) 0
      go (TimeCode byte clock) is = rw (is, is_tick, is_time_code) (rw is at accepted-is)
      go (Request i t k n) is = rw (is, is_tick, is_time_code)
      go (Reply i m status) is = rw (is, is_tick, is_time_code)
      go (Reading clock) is = rw (is, is_tick, is_time_code)

  module _ (r i : ℕ) (at : at_place r (initiators (the_plan b)) ≡ some i) where
    abbrev n : Owner
    n = owner (the_plan b) i

    abbrev line : List state.Request
    line = (b.side i).line

    pub at_after : at_place r (initiators (the_plan o.box)) ≡ some i
    at_after = rw (plan-kept room b w d.event) at

    line_before : line_in d.before.memory r ≡ map (word_of n) line
    line_before = line-words d.before.memory b before r i at

    line_after : line_in d.after.memory r ≡ map (word_of n) (o.box.side i).line
    line_after = rw (plan-kept room b w d.event) at (line-words d.after.memory o.box after r i at_after)

    pub grows : (more : List state.Request) → (o.box.side i).line ≡ line ++ more → line_in d.after.memory r ≡ line_in d.before.memory r ++ map (word_of n) more
    grows more e = line_after ∙ ap (map (word_of n)) e ∙ map-append (word_of n) line more ∙ ap (λ (ws : List ℕ). ws ++ map (word_of n) more) (sym line_before)

    fits : (k : ℕ) (q : state.Request) → at_place k line ≡ some q → FitRequest q
    fits k q h = (before.finds.fit.sides i).line q (at-member line k q h)

    -- what becomes of each place of the line
    pub data Moved : Type 0 where
      kept : (more : List ℕ) → line_in d.after.memory r ≡ line_in d.before.memory r ++ more → ((k : ℕ) → fate b i k room d.event ≡ waits k) → Moved
      gone : (word place : ℕ) → Leaves d r i word place → ((k : ℕ) → fate b i k room d.event ≡ leaving place k) → Moved

    module _ (this-one : box.ThisVeryRequest) where
      -- one that starts
      module _ (byte clock : ℕ) (is : d.event ≡ TimeCode byte clock) (taken : refusal room b d.event ≡ 0) where
        abbrev q : Bool
        q = in_sequence b.last byte

        side_after : (o.box.side i) ≡ turned (the_plan b) q byte i (b.side i)
        unfolding accepts ticked
        side_after = ap (λ (x : Outcome). x.box.side i) (step-accepted room b w d.event taken) ∙ rw (is, accepts)

        fate-is : (k : ℕ) → fate b i k room d.event ≡ fate_by (start_of (the_plan b) q byte i (b.side i)) k
        unfolding fate
        fate-is k = let z : eqb (refusal room b (TimeCode byte clock)) 0 ≡ true = rw is at (eq-eqb (refusal room b d.event) 0 taken) in rw (is, fate, z)

        module _ (x : Start) (start : start_of (the_plan b) q byte i (b.side i) ≡ some x) where
          abbrev place : ℕ
          place = x.found.place

          abbrev what : state.Request
          what = x.found.what

          found : (at_place place line ≡ some what) × (allows (the_plan b) x.entry what ≡ true)
          found = first_some_lem (allows (the_plan b) x.entry) line x.found (begins (the_plan b) q byte i (b.side i) x start).found

          fate-gone : (k : ℕ) → fate b i k room d.event ≡ leaving place k
          unfolding fate_by
          fate-gone k = fate-is k ∙ rw (start, fate_by)

          this : box.HasStarted i what o
          unfolding box.ThisVeryRequest leaving
          this = (this-one b before.reached room w i place what found.0 d.event).now (fate-gone place ∙ rw (eq-eqb place place refl, leaving))

          told : request_in (word_of n what) ≡ what
          told = request-told n what (fits place what found.0)

          first-with : (j : ℕ) → j < place → at_place j (line_in d.before.memory r) ≢ some (word_of n what)
          first-with j low e =
              let (y, at_j, same) = at-mapped (word_of n) j line (word_of n what) (ap (at_place j) (sym line_before) ∙ e) in
              let equal : y ≡ what = sym (request-told n y (fits j y at_j)) ∙ ap request_in same ∙ told in
              let (g, is-g, no-further) = first-has (allows (the_plan b) x.entry) line j y at_j (rw equal found.1) in
              omega (arith, no-further, same_place (begins (the_plan b) q byte i (b.side i) x start) g is-g)
            where
              same_place : Begins (the_plan b) q byte i (b.side i) x → (g : Found state.Request) → first (allows (the_plan b) x.entry) line ≡ some g → g.place ≡ place
              same_place z g is-g = ap (λ (f : Found state.Request). f.place) (some-some (sym is-g ∙ z.found))

          goes : Leaves d r i (word_of n what) place
          goes = record {
            was = ap (at_place place) line_before ∙ at_map (word_of n) place line what found.0;
            oldest = first-with;
            line = line_after ∙ ap (λ (z : Side). map (word_of n) z.line) (side_after ∙ turned-start (the_plan b) q byte i (b.side i) x start)
                ∙ map-without (word_of n) place line ∙ ap (without place) (sym line_before);
            live = (
              rw (plan-kept room b w d.event, this.request) at (word-is d.after.memory o.box after r i (eight-rows d.before.memory b before r i at) at_after this.live this.is_live),
              let young = ((after.finds.fit.sides i).live this.live this.is_live).young in
                  let time = time-is d.after.memory o.box after r i (eight-rows d.before.memory b before r i at) at_after this.live this.is_live in
                  λ z. omega arith,
            );
            started = rw told (shown-in room b w d.event (outcome ok b d.event s before) 5 i this.value what this.recorded);
          }

        tick-moved : Moved
        unfolding fate_by aged
        tick-moved = go (start_of (the_plan b) q byte i (b.side i)) refl
          where
            go : (z : Option Start) → start_of (the_plan b) q byte i (b.side i) ≡ z → Moved
            go none e =
                kept [] (grows [] (ap (λ (z : Side). z.line) (side_after ∙ turned-rest (the_plan b) q byte i (b.side i) e) ∙ sym (append-nil line)))
                (λ k. fate-is k ∙ rw (e, fate_by))
            go (some x) e = gone (word_of n x.found.what) x.found.place (goes x e) (fate-gone x e)

      -- any event
      pub moved : Moved
      unfolding fate accepts join finish is_time_code
      moved = go d.event refl (eqb (refusal room b d.event) 0) refl
        where
          stays : (x : Event) → d.event ≡ x → is_time_code x ≡ false → (k : ℕ) → fate b i k room d.event ≡ waits k
          stays (TimeCode byte clock) is h k = absurd (let z : ◌≡◌ {A = ℕ} 0 1 = cc in omega arith)
          stays (Request j t kind m) is h k = rw (is, fate)
          stays (Reply j m status) is h k = rw (is, fate)
          stays (Reading clock) is h k = rw (is, fate)

          refuses : (x : Event) → d.event ≡ x → eqb (refusal room b d.event) 0 ≡ false → (k : ℕ) → fate b i k room d.event ≡ waits k
          refuses (TimeCode byte clock) is h k = let z : eqb (refusal room b (TimeCode byte clock)) 0 ≡ false = rw is at h in rw (is, fate, z)
          refuses (Request j t kind m) is h k = rw (is, fate)
          refuses (Reply j m status) is h k = rw (is, fate)
          refuses (Reading clock) is h k = rw (is, fate)

          taken_as : (x : Event) → d.event ≡ x → eqb (refusal room b d.event) 0 ≡ true → o ≡ accepts b w x
          taken_as x is h = step-accepted room b w d.event (eqb-true _ 0 h) ∙ ap (accepts b w) is

          more : (x : Event) → d.event ≡ x → eqb (refusal room b d.event) 0 ≡ true → is_time_code x ≡ false
              → (ys : List state.Request) × (((accepts b w x).box.side i).line ≡ line ++ ys) → Moved
          more x is h f (ys, e) = kept (map (word_of n) ys) (grows ys (ap (λ (z : Outcome). (z.box.side i).line) (taken_as x is h) ∙ e)) (stays x is f)

          go : (x : Event) → d.event ≡ x → (a : Bool) → eqb (refusal room b d.event) 0 ≡ a → Moved
          go x is false h =
              kept [] (grows [] (ap (λ (z : Outcome). (z.box.side i).line) (step-refused room b w d.event (eqb-false _ 0 h)) ∙ sym (append-nil line))) (refuses x is h)
          go (TimeCode byte clock) is true h = tick-moved byte clock is (eqb-true _ 0 h)
          go (Request j t kind m) is true h =
              more (Request j t kind m) is h refl
              (side-cases (λ (z : Side). (ys : List state.Request) × (z.line ≡ line ++ ys)) b j i (join t kind m) (asked t kind m (b.side i) ∷ [], refl) ([], sym (append-nil line)))
          go (Reply j m status) is true h =
              more (Reply j m status) is h refl
              (side-cases (λ (z : Side). (ys : List state.Request) × (z.line ≡ line ++ ys)) b j i finish ([], sym (append-nil line)) ([], sym (append-nil line)))
          go (Reading clock) is true h = more (Reading clock) is h refl ([], sym (append-nil line))
