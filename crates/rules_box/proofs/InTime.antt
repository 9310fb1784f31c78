-- A request starts in time. One entry that permits it is enough: each time-code in sequence comes nearer to that entry's slot, and each
-- visit there starts the request or brings it one place forward.
use mathlib.Core.Path.{◌≡◌, refl, sym, ap, ◌∙◌}
use mathlib.Core.Logic.{◌≢◌}
use mathlib.Core.List.{List, [], ◌∷◌, Memᴰ}
use mathlib.Core.Option.{Option, none, some}
use mathlib.Core.Bool.{Bool, true, false, not, ◌||◌, cond}
use Prim.Native.Nat.{ℕ, suc, ◌+◌, ◌-◌, ◌*◌, ◌%◌, ◌≤◌, ◌<◌}
use native.Mathlib.Omega.{arith}
use native.Mathlib.Decide.{ℕ_discrete}
use lib.ListN.{length}
use lib.Dec.{eqb}
use borrow.Author.Tests.{eqb-false, lt-ltb, ne_eqb, not-false}
use Rattle.lists.specs.Place.{Found, first, at_place}
use Rattle.lists.specs.Rows.{test_of}
use Rattle.lists.specs.laws.Bools.{both_true, some-some}
use Rattle.lists.specs.laws.Rows.{rise, no_row}
use Rattle.lists.specs.laws.Place.{first-has}
use Rattle.rules_plan.specs.Plan.{Entry, Plan}
use Rattle.rules_plan.specs.Meaning.{permits, may_start}
use Rattle.rules_plan.specs.laws.Sound.{Sound}
use Rattle.rules_box.specs.declared.Event.{Event}
use Rattle.rules_box.specs.declared.Event.TheVariants.{TimeCode, Request, Reply, Reading}
use Rattle.rules_box.specs.declared.Watchdog.{Watchdog}
use Rattle.rules_box.specs.State as state
use Rattle.rules_box.specs.State.{Box, Side, Live, the_plan}
use Rattle.rules_box.specs.Refuse.{refusal, refusals}
use Rattle.rules_box.specs.Turn.{in_sequence, value_of, older, survives, allows, start_of}
use Rattle.rules_box.specs.Step.{step, accepts, Outcome, with_side, ticked}
use Rattle.rules_box.specs.History.{Offer, offered, is_tick, is_next, ticks, all_next, Fate, starts, waits, leaving, fate_by, fate, has_started}
use Rattle.rules_box.specs.Promises.{RequestsStartInTime, JoinsAsAsked}
use Rattle.rules_plan.specs.Promises.{AcceptedIsSound}
use Rattle.rules_plan.specs.laws.Runs.{found_at, no-entry-after}
use Rattle.rules_box.specs.laws.Turns.{Outlives, outlives, begins-at}
use Rattle.rules_box.specs.laws.Steps.{step-cases, plan-kept}
use Rattle.rules_plan.specs.laws.Permitted.{permitted-by}
use Rattle.rules_box.specs.laws.Invariant.{AtWork, Inv, next-value, older-at-work, step-inv, reached-inv}
use Rattle.rules_box.proofs.Places.{fate-cases, event-one, joins-as-asked}

-- the time-codes in sequence until the value is t, at most
abbrev dist : Option ℕ → ℕ → ℕ
dist none t = 64
dist (some w) t = (t + 63 - value_of w) % 64 + 1

dist-range : (last : Option ℕ) (t : ℕ) → (1 ≤ dist last t) × (dist last t ≤ 64)
dist-range none t = (omega arith, omega arith)
dist-range (some w) t = (omega arith, omega arith)

-- a time-code in sequence with another value comes one nearer
nearer : (last : Option ℕ) (byte t : ℕ) → in_sequence last byte ≡ true → t < 64 → value_of byte ≢ t → dist (some byte) t + 1 ≤ dist last t
unfolding value_of
nearer none byte t q ht d = omega arith
nearer (some w) byte t q ht d = omega (arith, next-value w byte q)

module _ (p : Plan) (ok : Sound p) (e : Entry) (me : Memᴰ e p.entries) (last : Option ℕ) (byte : ℕ) (q : in_sequence last byte ≡ true) (here : value_of byte ≡ e.slot) where
  -- at an entry nothing of its initiator is live any more
  pub nothing-live : (o : Option Live) → ((m : Live) → o ≡ some m → AtWork p last e.initiator m) → survives (in_sequence last byte) o ≡ none
  unfolding older
  nothing-live o old = go (survives (in_sequence last byte) o) refl
    where
      on : (l : Live) → (z : Outlives (in_sequence last byte) o l) → AtWork p (some byte) e.initiator l → ⊥
      on l z k =
          let now : e.slot ≡ (k.entry.slot + l.age) % 64 = sym here ∙ ap value_of (some-some k.seen) ∙ k.now in
          let age : l.age ≡ z.was.age + 1 = ap (λ (x : Live). x.age) z.is in
          no-entry-after p ok k.entry k.has e me k.own l.age (omega arith) k.young now

      go : (x : Option Live) → survives (in_sequence last byte) o ≡ x → survives (in_sequence last byte) o ≡ none
      go none h = h
      go (some l) h = let z = outlives (in_sequence last byte) o l h in absurd (on l z (older-at-work p last byte e.initiator o l old z))

  -- so a request that it allows starts, or comes one place forward
  pub own-visit : (s : Side) (k : ℕ) (r : state.Request) → ((m : Live) → s.live ≡ some m → AtWork p last e.initiator m) → at_place k s.line ≡ some r → allows p e r ≡ true
      → (P : Fate → Type 0) → P starts → ((j : ℕ) → suc j ≡ k → P (waits j)) → P (fate_by (start_of p (in_sequence last byte) byte e.initiator s) k)
  unfolding fate_by leaving
  own-visit s k r old at fit P f g = go (first-has (allows p e) s.line k r at fit)
    where
      start : (x : Found state.Request) → first (allows p e) s.line ≡ some x → start_of p (in_sequence last byte) byte e.initiator s ≡ some (record { entry = e; found = x })
      start x is = begins-at p (in_sequence last byte) byte e.initiator s e x q (rw here (found_at p ok e me)) (nothing-live s.live old) is

      by : (n : ℕ) → n ≤ k → (a : Bool) → eqb n k ≡ a → P (leaving n k)
      by n l true h = rw (h, leaving) f
      by n l false h = let d = eqb-false n k h in let b : n < k = omega arith in rw (h, leaving, lt-ltb n k b) (g (k - 1) (omega arith))

      go : (x : Found state.Request) × (first (allows p e) s.line ≡ some x) × (x.place ≤ k) → P (fate_by (start_of p (in_sequence last byte) byte e.initiator s) k)
      go (x, is, l) = rw (start x is) (by x.place l (eqb x.place k) refl)

-- a request waits at place k, and entry e allows it
record Waiting (e : Entry) (r : state.Request) (b : Box) (k : ℕ) : Type 0 where
  inv : Inv b
  has : Memᴰ e (the_plan b).entries
  fits : allows (the_plan b) e r ≡ true
  at : at_place k (b.side e.initiator).line ≡ some r

-- what is left of the time: the time-codes until the entry's slot, and 64 for each place before the request
abbrev Within : ℕ → ℕ → Fate → Type 0
Within most rest starts = Unit {0}
Within most rest (waits k) = rest + 64 * k ≤ most

module _ (e : Entry) (r : state.Request) where
  -- a time-code in sequence uses up one
  tick-within : (b : Box) (byte k : ℕ) → Waiting e r b k → in_sequence b.last byte ≡ true
      → Within (dist b.last e.slot + 64 * k) (dist (some byte) e.slot + 1) (fate_by (start_of (the_plan b) (in_sequence b.last byte) byte e.initiator (b.side e.initiator)) k)
  unfolding value_of
  tick-within b byte k z q = go (ℕ_discrete (value_of byte) e.slot)
    where
      slot : e.slot < 64
      slot = z.inv.sound.slots e z.has

      most : ℕ
      most = dist b.last e.slot + 64 * k

      go : Dec (value_of byte ≡ e.slot) → Within most (dist (some byte) e.slot + 1) (fate_by (start_of (the_plan b) (in_sequence b.last byte) byte e.initiator (b.side e.initiator)) k)
      go (yes here) =
          own-visit (the_plan b) z.inv.sound e z.has b.last byte q here (b.side e.initiator) k r (z.inv.live e.initiator) z.at z.fits
          (Within most (dist (some byte) e.slot + 1)) tt (λ j s. omega (arith, dist-range b.last e.slot))
      go (no d) =
          fate-cases (the_plan b) (in_sequence b.last byte) byte e.initiator (b.side e.initiator) k r z.at
          (Within most (dist (some byte) e.slot + 1)) (λ _ _ _. tt) (λ j l _. omega (arith, nearer b.last byte e.slot q slot d))

  -- an event that brings no new value
  steady : (room : ℕ) (b : Box) (w : Watchdog) (x : Event) (k : ℕ) → (accepts b w x).box.last ≡ b.last
      → dist (step room b w x).box.last e.slot + 0 + 64 * k ≤ dist b.last e.slot + 64 * k
  steady room b w x k same =
      step-cases room b w x (λ (o : Outcome). dist o.box.last e.slot + 0 + 64 * k ≤ dist b.last e.slot + 64 * k) (λ _. rw same (omega arith)) (λ _. omega arith)

  -- any event
  event-within : (room : ℕ) (b : Box) (w : Watchdog) (x : Event) (k : ℕ) → Waiting e r b k → not (is_tick b room x) || is_next b x ≡ true
      → Within (dist b.last e.slot + 64 * k) (dist (step room b w x).box.last e.slot + cond (is_tick b room x) 1 0) (fate b e.initiator k room x)
  unfolding is_tick is_next fate accepts ticked with_side
  event-within room b w (TimeCode byte clock) k z next =
      let x = TimeCode byte clock in
      step-cases room b w x
      (λ (o : Outcome). Within (dist b.last e.slot + 64 * k) (dist o.box.last e.slot + cond (is_tick b room x) 1 0) (fate b e.initiator k room x))
      (λ a. rw (a, fate) (tick-within b byte k z (rw a at next))) (λ d. rw (ne_eqb (refusal room b x) 0 d, fate) (omega arith))
  event-within room b w (Request j t kind n) k z next = steady room b w (Request j t kind n) k refl
  event-within room b w (Reply j m status) k z next = steady room b w (Reply j m status) k refl
  event-within room b w (Reading clock) k z next = steady room b w (Reading clock) k refl

  -- the request after an event at which it does not start
  still-waiting : (room : ℕ) (b : Box) (w : Watchdog) (x : Event) (k j : ℕ) → Waiting e r b k → fate b e.initiator k room x ≡ waits j → Waiting e r (step room b w x).box j
  still-waiting room b w x k j z f = record {
    inv = step-inv room b w x z.inv;
    has = rw (plan-kept room b w x) z.has;
    fits = rw (plan-kept room b w x) z.fits;
    at = (event-one b w e.initiator k r z.at room x z.inv.sound).still j f;
  }

  -- so it starts before the time is used up
  started : (fs : List Offer) (b : Box) (k : ℕ) → Waiting e r b k → all_next b fs ≡ true → dist b.last e.slot + 64 * k ≤ ticks b fs → has_started e.initiator k b fs ≡ true
  unfolding all_next ticks has_started offered
  started [] b k z next h = absurd (omega (arith, dist-range b.last e.slot))
  started (f ∷ fs) b k z next h =
      let c = both_true (not (is_tick b f.room f.event) || is_next b f.event) (all_next (offered b f) fs) next in
      go (started fs (offered b f)) c.1 (fate b e.initiator k f.room f.event) refl (event-within f.room b f.lent f.event k z c.0)
    where
      tick : ℕ
      tick = cond (is_tick b f.room f.event) 1 0

      go : ((j : ℕ) → Waiting e r (offered b f) j → all_next (offered b f) fs ≡ true → dist (offered b f).last e.slot + 64 * j ≤ ticks (offered b f) fs → has_started e.initiator j (offered b f) fs ≡ true)
          → all_next (offered b f) fs ≡ true → (a : Fate) → fate b e.initiator k f.room f.event ≡ a
          → Within (dist b.last e.slot + 64 * k) (dist (offered b f).last e.slot + tick) (fate b e.initiator k f.room f.event) → has_started e.initiator k b (f ∷ fs) ≡ true
      go ih rest starts g l = rw (g, has_started)
      go ih rest (waits j) g l = rw (g, has_started) (ih j (still-waiting f.room b f.lent f.event k j z g) rest (omega (arith, rw g at l)))

-- what is asked and accepted is allowed by some entry
allowed : (room : ℕ) (b : Box) (i t k n : ℕ) → refusal room b (Request i t k n) ≡ 0
    → (e : Entry) × Memᴰ e (the_plan b).entries × (e.initiator ≡ i) × (permits (the_plan b) e t n ≡ true)
unfolding refusal refusals rise test_of
allowed room b i t k n h =
    permitted-by (the_plan b) (the_plan b).entries i t n
    (not-false (may_start (the_plan b) (the_plan b).entries i t n) (no_row 25 (refusals room b (Request i t k n)) 0 refl h))

pub requests-start-in-time : AcceptedIsSound → RequestsStartInTime
unfolding RequestsStartInTime allows JoinsAsAsked
requests-start-in-time ok b reached room w i t k n h fs next enough = go (allowed room b i t k n h)
  where
    x : Event
    x = Request i t k n

    joined : Box
    joined = (step room b w x).box

    place : ℕ
    place = length (b.side i).line

    r : state.Request
    r = state.request t k n (b.side i).next

    go : (e : Entry) × Memᴰ e (the_plan b).entries × (e.initiator ≡ i) × (permits (the_plan b) e t n ≡ true) → has_started i place joined fs ≡ true
    go (e, m, own, fit) =
        let waiting : Waiting e r joined place =
        record {
          inv = step-inv room b w x (reached-inv ok b reached);
          has = rw (plan-kept room b w x) m;
          fits = rw (plan-kept room b w x) fit;
          at = rw own (joins-as-asked b room w i t k n h);
        } in
        rw own at (started e r fs joined place waiting next (omega (arith, dist-range joined.last e.slot)))
