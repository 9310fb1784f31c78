-- A request is followed by its place in the line: where it waits it is still this one, and where it starts it is this one that starts.
use mathlib.Core.Path.{◌≡◌, refl, sym, ap, ◌∙◌}
use mathlib.Core.Option.{Option, none, some}
use mathlib.Core.Bool.{Bool, true, false, cond}
use Prim.Native.Nat.{ℕ, ◌-◌, ◌≤◌}
use native.Mathlib.Omega.{arith}
use lib.Dec.{eqb, ltb}
use borrow.Author.Tests.{eqb-true, eqb-false, ne_eqb}
use Rattle.lists.specs.Place.{at_place}
use Rattle.lists.specs.laws.Bools.{cond_cases, some-some}
use Rattle.lists.specs.laws.Place.{first_some_lem, at-without, at-append, at-end}
use Rattle.rules_plan.specs.Plan.{Plan}
use Rattle.rules_plan.specs.laws.Sound.{Sound}
use Rattle.rules_box.specs.declared.Event.{Event}
use Rattle.rules_box.specs.declared.Event.TheVariants.{TimeCode, Request, Reply, Reading}
use Rattle.rules_box.specs.declared.Watchdog.{Watchdog}
use Rattle.rules_box.specs.State as state
use Rattle.rules_box.specs.State.{Box, Side, the_plan}
use Rattle.rules_box.specs.Refuse.{refusal}
use Rattle.rules_box.specs.Turn.{Start, in_sequence, value_of, asked, join, finish, aged, allows, fresh, start_of, turned}
use Rattle.rules_box.specs.Step.{step, accepts, Outcome, with_side, ticked}
use Rattle.rules_box.specs.History.{Fate, starts, waits, leaving, fate_by, fate}
use Rattle.rules_box.specs.Promises.{HasStarted, ThisOne, ThisVeryRequest, JoinsAsAsked}
use Rattle.rules_plan.specs.Promises.{AcceptedIsSound}
use Rattle.rules_box.specs.laws.Turns.{begins, turned-start, turned-rest}
use Rattle.rules_box.specs.laws.Steps.{refused, step-accepted, step-cases, side-cases, side-changed}
use Rattle.rules_box.specs.laws.Invariant.{reached-inv}
use Rattle.rules_box.proofs.Visits.{start-recorded}

-- the request at place k of a line when a time-code turns the side: it starts, or waits no further back
module _ (p : Plan) (q : Bool) (byte i : ℕ) (s : Side) (k : ℕ) (r : state.Request) (h : at_place k s.line ≡ some r) (P : Fate → Type 0) where
  leaving-cases : (x : Start) → start_of p q byte i s ≡ some x → (x.found.what ≡ r → P starts)
      → ((j : ℕ) → j ≤ k → at_place j (turned p q byte i s).line ≡ some r → P (waits j)) → P (leaving x.found.place k)
  unfolding leaving
  leaving-cases x is f g = go (eqb x.found.place k) refl
    where
      n : ℕ
      n = x.found.place

      at : at_place n s.line ≡ some x.found.what
      at = (first_some_lem (allows p x.entry) s.line x.found (begins p q byte i s x is).found).0

      go : (a : Bool) → eqb n k ≡ a → P (leaving n k)
      go true e = rw (e, leaving) (f (some-some (sym at ∙ rw (eqb-true n k e) h)))
      go false e = rw (e, leaving) (g (cond (ltb n k) (k - 1) k) back (rw (turned-start p q byte i s x is) (at-without s.line n k r h (eqb-false n k e))))
        where
          back : cond (ltb n k) (k - 1) k ≤ k
          back = cond_cases (λ (j : ℕ). j ≤ k) (ltb n k) (k - 1) k (λ _. omega arith) (λ _. omega arith)

  pub fate-cases : ((x : Start) → start_of p q byte i s ≡ some x → x.found.what ≡ r → P starts)
      → ((j : ℕ) → j ≤ k → at_place j (turned p q byte i s).line ≡ some r → P (waits j)) → P (fate_by (start_of p q byte i s) k)
  unfolding fate_by aged
  fate-cases f g = go (start_of p q byte i s) refl
    where
      go : (o : Option Start) → start_of p q byte i s ≡ o → P (fate_by (start_of p q byte i s) k)
      go none e = rw (e, fate_by) (g k (omega arith) (rw (turned-rest p q byte i s e) h))
      go (some x) e = rw (e, fate_by) (leaving-cases x e (f x e) g)

-- how a fate is told
module _ (i : ℕ) (r : state.Request) (o : Outcome) where
  waiting-one : (k : ℕ) → at_place k (o.box.side i).line ≡ some r → ThisOne i r o (waits k)
  waiting-one k h = record {
    still = λ j e. let z : k ≡ j = cc in rw (← z) h;
    now = λ e. let z : ◌≡◌ {A = ℕ} 0 1 = cc in absurd (omega arith);
  }

  starting-one : HasStarted i r o → ThisOne i r o starts
  starting-one h = record { still = λ j e. let z : ◌≡◌ {A = ℕ} 0 1 = cc in absurd (omega arith); now = λ _. h }

module _ (b : Box) (w : Watchdog) (i k : ℕ) (r : state.Request) (h : at_place k (b.side i).line ≡ some r) where
  -- a time-code
  tick-one : (byte clock : ℕ) → Sound (the_plan b) → ThisOne i r (accepts b w (TimeCode byte clock)) (fate_by (start_of (the_plan b) (in_sequence b.last byte) byte i (b.side i)) k)
  unfolding accepts ticked fresh
  tick-one byte clock ok =
      let p = the_plan b in
      let q = in_sequence b.last byte in
      let s = b.side i in
      let o = accepts b w (TimeCode byte clock) in
      fate-cases p q byte i s k r h (ThisOne i r o)
      (λ x is what.
      starting-one i r o
      (record {
        value = value_of byte;
        recorded = rw what at (start-recorded b w byte clock i ok x is);
        live = fresh x;
        is_live = ap (λ (z : Side). z.live) (turned-start p q byte i s x is);
        request = what;
      }))
      (λ j _ at. waiting-one i r o j at)

  -- a change of one side that takes nothing from its line
  line_kept : (j : ℕ) (f : Side → Side) → ((s : Side) → at_place k s.line ≡ some r → at_place k (f s).line ≡ some r) → at_place k ((with_side b j f).side i).line ≡ some r
  line_kept j f keeps = side-cases (λ (s : Side). at_place k s.line ≡ some r) b j i f (keeps (b.side i) h) h

  -- an event that leaves it at its place
  waits-on : (room : ℕ) (e : Event) → at_place k ((accepts b w e).box.side i).line ≡ some r → ThisOne i r (step room b w e) (waits k)
  waits-on room e at = step-cases room b w e (λ (o : Outcome). ThisOne i r o (waits k)) (λ _. waiting-one i r (accepts b w e) k at) (λ _. waiting-one i r (refused room b w e) k h)

  -- any event
  pub event-one : (room : ℕ) (e : Event) → Sound (the_plan b) → ThisOne i r (step room b w e) (fate b i k room e)
  unfolding accepts fate join finish
  event-one room (TimeCode byte clock) ok =
      let e = TimeCode byte clock in
      step-cases room b w e (λ (o : Outcome). ThisOne i r o (fate b i k room e)) (λ a. rw (a, fate) (tick-one byte clock ok))
      (λ d. rw (ne_eqb (refusal room b e) 0 d, fate) (waiting-one i r (refused room b w e) k h))
  event-one room (Request j t kind n) ok = waits-on room (Request j t kind n) (line_kept j (join t kind n) (λ s at. at-append s.line _ k r at))
  event-one room (Reply j m status) ok = waits-on room (Reply j m status) (line_kept j finish (λ s at. at))
  event-one room (Reading clock) ok = waits-on room (Reading clock) h

pub this-very-request : AcceptedIsSound → ThisVeryRequest
unfolding ThisVeryRequest
this-very-request ok b reached room w i k r h e = event-one b w i k r h room e (reached-inv ok b reached).sound

pub joins-as-asked : JoinsAsAsked
unfolding JoinsAsAsked accepts join asked
joins-as-asked b room w i t k n h =
    rw (step-accepted room b w (Request i t k n) h, side-changed b i (join t k n)) (at-end (b.side i).line (asked t k n (b.side i)))
