-- Every number of a reached box fits its place: requests, live transactions, lines and numbers are within document 01's bounds, and
-- whoever is no initiator of the plan is idle. Run memory rests on this.
use Rattle.std.specs.Prelude.{◌≡◌, ◌⊎◌, Bool, true, false, cond, ℕ, ◌≤◌, ◌<◌, eqb}
use Rattle.std.proofs.Math.Path.{refl}
use Rattle.std.proofs.Common.{inl, inr, arith}
use mathlib.Core.List.Memᴰ
use mathlib.Core.List.{List, [], ◌∷◌, Memᴰ}
use Rattle.std.proofs.Math.Option.{Option, none, some}
use Rattle.std.proofs.Math.ListN.{length, length-append}
use borrow.Author.Tests.{eqb-true, ltb-false, leb-false, not-false}
use Rattle.lists.specs.Rows.{test_of}
use Rattle.lists.specs.laws.Bools.{not-both, none-some, some-some, cond_cases}
use Rattle.lists.specs.laws.Rows.{rise, no_row}
use Rattle.lists.specs.laws.At.{at-member}
use Rattle.lists.specs.laws.Place.{first_some_lem, without-member, without-short}
use Rattle.rules_plan.specs.Plan.{Entry, Plan}
use Rattle.rules_plan.specs.Meaning.{is_initiator, may_start}
use Rattle.rules_plan.specs.Verdict.{number}
use Rattle.rules_plan.specs.Judge.{judge}
use Rattle.rules_plan.specs.Canon.{plan_of}
use Rattle.rules_plan.specs.Promises.{AcceptedIsSound}
use Rattle.rules_plan.specs.laws.Sound.{Sound}
use Rattle.rules_plan.specs.laws.Runs.{permits-target, sound-blank}
use Rattle.rules_box.specs.declared.Event.{Event}
use Rattle.rules_box.specs.declared.Event.TheVariants.{TimeCode, Request, Reply, Reading}
use Rattle.rules_box.specs.declared.Watchdog.{Watchdog}
use Rattle.rules_box.specs.State as state
use Rattle.rules_box.specs.State.{Box, Side, Live, idle, cleared, holding, loaded, is_accepted, the_plan}
use Rattle.rules_box.specs.Refuse.{refusal, refusals}
use Rattle.rules_box.specs.Turn.{Start, asked, join, finish, older, survives, aged, visited, allows, starting, fresh, begun, start_of, turned, in_sequence}
use Rattle.rules_box.specs.Step.{Outcome, accepts, with_side, ticked}
use Rattle.rules_box.specs.History.{Reached, by-clear, by-load, by-event}
use Rattle.rules_box.specs.laws.Turns.{Outlives, outlives, visited-has, starting-elim, begins, turned-rest}
use Rattle.rules_box.specs.laws.Steps.{step-cases}
use Rattle.rules_plan.specs.laws.Permitted.{permitted-by}

pub record FitRequest (r : state.Request) : Type 0 where
  pub target : r.target < 64
  pub kind : r.kind ≤ 1
  pub length : r.length ≤ 4096
  pub number : r.number < 65_536

pub record FitLive (l : Live) : Type 0 where
  pub request : FitRequest l.request
  pub span : l.span ≤ 16
  pub young : l.age < l.span

pub record FitSide (s : Side) : Type 0 where
  pub next : s.next < 65_536
  pub few : length s.line ≤ 8
  pub line : (r : state.Request) → Memᴰ r s.line → FitRequest r
  pub live : (l : Live) → s.live ≡ some l → FitLive l

pub record Fit (b : Box) : Type 0 where
  pub sound : Sound (the_plan b)
  pub sides : (i : ℕ) → FitSide (b.side i)
  pub others : (i : ℕ) → is_initiator (the_plan b) i ≡ false → b.side i ≡ idle
  pub byte : (w : ℕ) → b.last ≡ some w → w < 64

pub idle-fit : FitSide idle
unfolding idle
idle-fit = record { next = omega arith; few = omega arith; line = λ r m. absurd (Memᴰ.not-nil m); live = λ l h. none-some h }

-- lateness: the line is as it was, and what is still live was live before
pub aged-fit : (q : Bool) (s : Side) → FitSide s → FitSide (aged q s)
unfolding aged older
aged-fit q s f = record { next = f.next; few = f.few; line = f.line; live = λ l h. by l (outlives q s.live l h) }
  where
    by : (l : Live) → Outlives q s.live l → FitLive l
    by l o =
        let w = f.live o.was o.before in
        rw o.is (record { request = w.request; span = w.span; young = o.young })

module _ (p : Plan) (ok : Sound p) where
  -- a start at an entry of the plan: the line is the old one, or the old one without the one that starts
  pub begun-fit : (o : Option Entry) → ((e : Entry) → o ≡ some e → Memᴰ e p.entries) → (s : Side) → FitSide s → FitSide (begun s (starting p o s))
  unfolding begun fresh
  begun-fit o has s f = go (starting p o s) refl
    where
      go : (y : Option Start) → starting p o s ≡ y → FitSide (begun s y)
      go none h = f
      go (some x) h =
          let z = starting-elim p o s x h in
          let m = has x.entry z.entry in
          let at = (first_some_lem (allows p x.entry) s.line x.found z.found).0 in
          let l : FitLive (fresh x) = record {
            request = f.line x.found.what (at-member s.line x.found.place x.found.what at);
            span = ok.spans x.entry m;
            young = ok.some-span x.entry m;
          } in
          record {
            next = f.next;
            few = omega (arith, f.few, without-short s.line x.found.place);
            line = λ r k. f.line r (without-member s.line x.found.place r k);
            live = λ y e. rw (← some-some e) l;
          }

  -- one side at a time-code
  turned-fit : (q : Bool) (byte i : ℕ) (s : Side) → FitSide s → FitSide (turned p q byte i s)
  unfolding turned start_of
  turned-fit q byte i s f = begun-fit (visited p q byte i) (λ e h. visited-has p q byte i e h) (aged q s) (aged-fit q s f)

-- an idle side of no initiator stays idle: no entry of it stands anywhere
idle-turned : (p : Plan) → Sound p → (q : Bool) (byte i : ℕ) → is_initiator p i ≡ false → turned p q byte i idle ≡ idle
unfolding aged survives idle
idle-turned p ok q byte i out = go (start_of p q byte i idle) refl
  where
    go : (o : Option Start) → start_of p q byte i idle ≡ o → turned p q byte i idle ≡ idle
    go none e = turned-rest p q byte i idle e
    go (some x) e =
        let g = begins p q byte i idle x e in
        not-both (rw g.at.own at (ok.initiator x.entry g.at.has)) out

-- a request that is accepted
module _ (room : ℕ) (b : Box) (i t k n : ℕ) (ok : Sound (the_plan b)) (h : refusal room b (Request i t k n) ≡ 0) where
  asks-initiator : is_initiator (the_plan b) i ≡ true
  unfolding refusal refusals rise test_of
  asks-initiator = not-false (is_initiator (the_plan b) i) (no_row 22 (refusals room b (Request i t k n)) 0 refl h)

  asked-fit : FitSide (b.side i) → FitRequest (asked t k n (b.side i))
  unfolding refusal refusals rise test_of asked
  asked-fit f =
      let may = not-false (may_start (the_plan b) (the_plan b).entries i t n) (no_row 25 (refusals room b (Request i t k n)) 0 refl h) in
      let (e, m, own, fit) = permitted-by (the_plan b) (the_plan b).entries i t n may in
      record {
        target = ok.targets e m t (permits-target (the_plan b) e t n fit);
        kind = ltb-false 1 k (no_row 23 (refusals room b (Request i t k n)) 0 refl h);
        length = ltb-false 4096 n (no_row 24 (refusals room b (Request i t k n)) 0 refl h);
        number = f.next;
      }

  join-fit : FitSide (b.side i) → FitSide (join t k n (b.side i))
  unfolding join refusal refusals rise test_of
  join-fit f =
      let short = leb-false 8 (length (b.side i).line) (no_row 26 (refusals room b (Request i t k n)) 0 refl h) in
      record {
        next = omega arith;
        few = omega (arith, length-append (b.side i).line (asked t k n (b.side i) ∷ []));
        line = λ r m. by r (Memᴰ.append_cases (b.side i).line m);
        live = f.live;
      }
    where
      by : (r : state.Request) → Memᴰ r (b.side i).line ⊎ Memᴰ r (asked t k n (b.side i) ∷ []) → FitRequest r
      by r (inl m) = f.line r m
      by r (inr m) = rw (Memᴰ.eq_of_singleton m) (asked-fit f)

finish-fit : (s : Side) → FitSide s → FitSide (finish s)
unfolding finish
finish-fit s f = record { next = f.next; few = f.few; line = f.line; live = λ l h. none-some h }

-- one side changed, of an initiator
changed-fit : (b : Box) (i : ℕ) (f : Side → Side) → Fit b → is_initiator (the_plan b) i ≡ true → FitSide (f (b.side i)) → Fit (with_side b i f)
unfolding with_side the_plan
changed-fit b i f fit is new = record {
  sound = fit.sound;
  sides = λ j. by j (eqb j i) refl;
  others = λ j out. alone j out (eqb j i) refl;
  byte = fit.byte;
}
  where
    by : (j : ℕ) (x : Bool) → eqb j i ≡ x → FitSide (cond x (f (b.side j)) (b.side j))
    by j true e = rw (eqb-true j i e) new
    by j false e = fit.sides j

    alone : (j : ℕ) → is_initiator (the_plan b) j ≡ false → (x : Bool) → eqb j i ≡ x → cond x (f (b.side j)) (b.side j) ≡ idle
    alone j out true e = not-both is (rw (eqb-true j i e) at out)
    alone j out false e = fit.others j out

ticked-fit : (b : Box) (byte : ℕ) → byte < 64 → Fit b → Fit (ticked b byte)
unfolding ticked the_plan
ticked-fit b byte small fit = record {
  sound = fit.sound;
  sides = λ i. turned-fit (the_plan b) fit.sound (in_sequence b.last byte) byte i (b.side i) (fit.sides i);
  others = λ i out. rw (fit.others i out) (idle-turned (the_plan b) fit.sound (in_sequence b.last byte) byte i out);
  byte = λ w h. rw (← (some-some h)) small;
}

accepts-fit : (room : ℕ) (b : Box) (w : Watchdog) (e : Event) → refusal room b e ≡ 0 → Fit b → Fit (accepts b w e).box
unfolding accepts refusal refusals rise test_of
accepts-fit room b w (TimeCode byte clock) h fit = ticked-fit b byte (leb-false 64 byte (no_row 21 (refusals room b (TimeCode byte clock)) 0 refl h)) fit
accepts-fit room b w (Request i t k n) h fit = changed-fit b i (join t k n) fit (asks-initiator room b i t k n fit.sound h) (join-fit room b i t k n fit.sound h (fit.sides i))
accepts-fit room b w (Reply i m status) h fit =
    changed-fit b i finish fit (not-false (is_initiator (the_plan b) i) (no_row 22 (refusals room b (Reply i m status)) 0 refl h)) (finish-fit (b.side i) (fit.sides i))
accepts-fit room b w (Reading clock) h fit = fit

blank-fit : Fit cleared
unfolding cleared the_plan
blank-fit = record { sound = sound-blank; sides = λ i. idle-fit; others = λ i _. refl; byte = λ w h. none-some h }

loaded-fit : AcceptedIsSound → (file : List ℕ) → Fit (loaded file)
unfolding loaded is_accepted holding the_plan AcceptedIsSound
loaded-fit ok file =
    cond_cases Fit (is_accepted file) (holding (plan_of file)) cleared
    (λ h. record { sound = ok file (eqb-true (number (judge file)) 0 h); sides = λ i. idle-fit; others = λ i _. refl; byte = λ w e. none-some e })
    (λ _. blank-fit)

pub reached-fit : AcceptedIsSound → (b : Box) → Reached b → Fit b
reached-fit ok b by-clear = blank-fit
reached-fit ok b (by-load file) = loaded-fit ok file
reached-fit ok b (by-event {b = c} r room w e) =
    step-cases room c w e (λ (o : Outcome). Fit o.box) (λ h. accepts-fit room c w e h (reached-fit ok c r)) (λ _. reached-fit ok c r)
