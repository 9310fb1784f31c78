-- A request that stands first in its line starts at the next turn of the plan: each time-code in sequence comes one slot nearer to it, none
-- before it starts the request, and the turn does.
use mathlib.Core.Path.{◌≡◌, refl, sym, ap, ap₂, ◌∙◌}
use mathlib.Core.List.{List, [], ◌∷◌}
use mathlib.Core.Option.{Option, none, some, map}
use mathlib.Core.Bool.{Bool, true, false, not, ◌||◌, cond}
use Prim.Native.Nat.{ℕ, suc, ◌+◌, ◌≤◌, ◌<◌}
use native.Mathlib.Omega.{arith}
use lib.ListN.{length}
use lib.Dec.{leb, eqb}
use borrow.Author.Tests.{leb-true, leb-false, lt-leb, le-leb, le-ltb, ne_eqb, not-false}
use Rattle.lists.specs.Place.{at_place}
use Rattle.lists.specs.Rows.{test_of}
use Rattle.lists.specs.Search.{is_some}
use Rattle.lists.specs.laws.Bools.{both_true, not-both, none-some, some-some}
use Rattle.lists.specs.laws.Rows.{rise, no_row}
use Rattle.lists.specs.laws.Place.{first_some_lem}
use Rattle.rules_plan.specs.Plan.{Plan}
use Rattle.rules_plan.specs.Meaning.{is_initiator, may_start}
use Rattle.rules_plan.specs.Next.{Turn, is_turn, slot_after, next_turn, next_answer}
use Rattle.rules_plan.specs.Promises.{AcceptedIsSound}
use Rattle.rules_plan.specs.laws.Turns.{turn_at, turn_low, some_turn, next-finds, next-now, next-on, next-answered}
use Rattle.rules_box.specs.declared.Event.{Event}
use Rattle.rules_box.specs.declared.Event.TheVariants.{TimeCode, Request, Reply, Reading}
use Rattle.rules_box.specs.declared.Watchdog.{Watchdog}
use Rattle.rules_box.specs.State as state
use Rattle.rules_box.specs.State.{Box, no_plan, the_plan}
use Rattle.rules_box.specs.Refuse.{refusal, refusals}
use Rattle.rules_box.specs.Turn.{in_sequence, value_of, allows, start_of}
use Rattle.rules_box.specs.Step.{step, accepts, Outcome, with_side, ticked}
use Rattle.rules_box.specs.History.{Offer, offered, after, is_tick, is_next, ticks, all_next, Fate, starts, waits, fate_by, fate, has_started}
use Rattle.rules_box.specs.Promises.{slot_now, StartsAtItsTurn, JoinsAsAsked}
use Rattle.rules_box.specs.laws.Turns.{begins}
use Rattle.rules_box.specs.laws.Steps.{step-accepted, step-cases, plan-kept}
use Rattle.rules_box.specs.laws.Invariant.{Inv, next-value, step-inv, reached-inv}
use Rattle.rules_box.proofs.Places.{fate-cases, event-one, joins-as-asked}
use Rattle.rules_box.proofs.InTime.{own-visit}

-- the slot of the last time-code, and that of the next one in sequence
slot-low : (b : Box) (s : ℕ) → slot_now b ≡ some s → s < 64
unfolding slot_now value_of
slot-low b s h = go b.last h
  where
    go : (o : Option ℕ) → map value_of o ≡ some s → s < 64
    go none e = none-some e
    go (some w) e = let z = some-some e in omega arith

slot_next : (b : Box) (s byte : ℕ) → slot_now b ≡ some s → in_sequence b.last byte ≡ true → value_of byte ≡ slot_after s 1
unfolding slot_now slot_after
slot_next b s byte h q = go b.last h q
  where
    go : (o : Option ℕ) → map value_of o ≡ some s → in_sequence o byte ≡ true → value_of byte ≡ slot_after s 1
    go none e f = none-some e
    go (some w) e f = next-value w byte f ∙ ap (λ (v : ℕ). slot_after v 1) (some-some e)

-- an accepted time-code is one slot on, and nothing else moves the slot
slot-on : (room : ℕ) (b : Box) (w : Watchdog) (x : Event) (s : ℕ) → slot_now b ≡ some s → not (is_tick b room x) || is_next b x ≡ true
    → slot_now (step room b w x).box ≡ some (slot_after s (cond (is_tick b room x) 1 0))
unfolding is_tick is_next accepts ticked with_side slot_now slot_after
slot-on room b w x s h next = go x next
  where
    stays : s ≡ slot_after s 0
    stays = omega (arith, slot-low b s h)

    go : (y : Event) → not (is_tick b room y) || is_next b y ≡ true → slot_now (step room b w y).box ≡ some (slot_after s (cond (is_tick b room y) 1 0))
    go (TimeCode byte clock) n =
        step-cases room b w (TimeCode byte clock) (λ (o : Outcome). slot_now o.box ≡ some (slot_after s (cond (is_tick b room (TimeCode byte clock)) 1 0)))
        (λ a. rw (a, is_tick) (ap some (slot_next b s byte h (rw (a, is_tick, is_next) at n)))) (λ d. rw (ne_eqb (refusal room b (TimeCode byte clock)) 0 d, is_tick) (h ∙ ap some stays))
    go (Request j t k n) m = step-cases room b w (Request j t k n) (λ (o : Outcome). slot_now o.box ≡ some (slot_after s 0)) (λ _. h ∙ ap some stays) (λ _. h ∙ ap some stays)
    go (Reply j m status) n = step-cases room b w (Reply j m status) (λ (o : Outcome). slot_now o.box ≡ some (slot_after s 0)) (λ _. h ∙ ap some stays) (λ _. h ∙ ap some stays)
    go (Reading clock) n = step-cases room b w (Reading clock) (λ (o : Outcome). slot_now o.box ≡ some (slot_after s 0)) (λ _. h ∙ ap some stays) (λ _. h ∙ ap some stays)

-- so many time-codes, so many slots
slots-on : (fs : List Offer) (b : Box) (s : ℕ) → slot_now b ≡ some s → all_next b fs ≡ true → slot_now (after b fs) ≡ some (slot_after s (ticks b fs))
unfolding after all_next ticks offered slot_after
slots-on [] b s h next = h ∙ ap some (omega (arith, slot-low b s h))
slots-on (f ∷ fs) b s h next =
    let c = both_true (not (is_tick b f.room f.event) || is_next b f.event) (all_next (offered b f) fs) next in
    slots-on fs (offered b f) _ (slot-on f.room b f.lent f.event s h c.0) c.1 ∙ ap some (omega arith)

module _ (i : ℕ) (r : state.Request) where
  abbrev turns : Box → ℕ → Bool
  turns b = is_turn (the_plan b) (the_plan b).entries i r.target r.length

  abbrev count : Box → ℕ → ℕ
  count b = next_turn (the_plan b) (the_plan b).entries i r.target r.length

  -- the request stands first, and the plan has a turn for it
  record First (b : Box) (s : ℕ) : Type 0 where
    inv : Inv b
    at : at_place 0 (b.side i).line ≡ some r
    slot : slot_now b ≡ some s
    turn : ℕ
    is : turns b turn ≡ true

  module _ (b : Box) (s : ℕ) (z : First b s) where
    -- a time-code in sequence: at a turn it starts, at no other slot does it
    module _ (byte : ℕ) (q : in_sequence b.last byte ≡ true) where
      abbrev met : Fate
      met = fate_by (start_of (the_plan b) (in_sequence b.last byte) byte i (b.side i)) 0

      at_turn : turns b (value_of byte) ≡ true → met ≡ starts
      unfolding allows
      at_turn h =
          let x = (turn_at (the_plan b) i r.target r.length z.inv.sound (value_of byte)).0 h in
          rw x.own at (own-visit (the_plan b) z.inv.sound x.entry x.has b.last byte q (sym x.here) (b.side x.entry.initiator) 0 r
          (z.inv.live x.entry.initiator) (rw x.own z.at) x.permitted (λ (f : Fate). f ≡ starts) refl (λ j e. absurd (omega arith)))

      at_none : turns b (value_of byte) ≡ false → met ≡ waits 0
      unfolding allows
      at_none h =
          fate-cases (the_plan b) (in_sequence b.last byte) byte i (b.side i) 0 r z.at (λ (f : Fate). f ≡ waits 0)
          (λ x is what.
          let d = begins (the_plan b) (in_sequence b.last byte) byte i (b.side i) x is in
          let fit = (first_some_lem (allows (the_plan b) x.entry) (b.side i).line x.found d.found).1 in
          not-both ((turn_at (the_plan b) i r.target r.length z.inv.sound (value_of byte)).1
          (record { entry = x.entry; has = d.at.has; own = d.at.own; here = d.at.slot; permitted = rw what at fit })) h)
          (λ j l _. ap waits (omega arith))

    below : z.turn < 64
    below = turn_low (the_plan b) i r.target r.length z.inv.sound z.turn z.is

    -- what an event does to it: nothing, or it starts with the next turn one slot on, or that comes one nearer
    data Met (x : Event) (room : ℕ) : Type 0 where
      quiet : is_tick b room x ≡ false → fate b i 0 room x ≡ waits 0 → Met x room
      starts-now : is_tick b room x ≡ true → fate b i 0 room x ≡ starts → count b s ≡ 1 → Met x room
      nearer : is_tick b room x ≡ true → fate b i 0 room x ≡ waits 0 → count b s ≡ suc (count b (slot_after s 1)) → Met x room

    event-met : (room : ℕ) (x : Event) → not (is_tick b room x) || is_next b x ≡ true → Met x room
    unfolding is_tick is_next fate
    event-met room (TimeCode byte clock) next = go (eqb (refusal room b (TimeCode byte clock)) 0) refl
      where
        on : eqb (refusal room b (TimeCode byte clock)) 0 ≡ true → in_sequence b.last byte ≡ true → (y : Bool) → turns b (slot_after s 1) ≡ y → Met (TimeCode byte clock) room
        on a q true t =
            starts-now a (rw (a, fate) (at_turn byte q (ap (turns b) (slot_next b s byte z.slot q) ∙ t)))
            (next-now (the_plan b) i r.target r.length (the_plan b).entries s t)
        on a q false t =
            nearer a (rw (a, fate) (at_none byte q (ap (turns b) (slot_next b s byte z.slot q) ∙ t)))
            (next-on (the_plan b) i r.target r.length (the_plan b).entries s (slot-low b s z.slot) z.turn below z.is t)

        go : (a : Bool) → eqb (refusal room b (TimeCode byte clock)) 0 ≡ a → Met (TimeCode byte clock) room
        go false a = quiet a (rw (a, fate))
        go true a = on a (rw (a, is_tick, is_next) at next) (turns b (slot_after s 1)) refl
    event-met room (Request j t k n) next = quiet refl refl
    event-met room (Reply j m status) next = quiet refl refl
    event-met room (Reading clock) next = quiet refl refl

    still-first : (room : ℕ) (w : Watchdog) (x : Event) (v : ℕ) → fate b i 0 room x ≡ waits 0 → slot_now (step room b w x).box ≡ some v → First (step room b w x).box v
    still-first room w x v f h = record {
      inv = step-inv room b w x z.inv;
      at = (event-one b w i 0 r z.at room x z.inv.sound).still 0 f;
      slot = h;
      turn = z.turn;
      is = rw (plan-kept room b w x) z.is;
    }

  count_kept : (room : ℕ) (b : Box) (w : Watchdog) (x : Event) (s : ℕ) → count (step room b w x).box s ≡ count b s
  count_kept room b w x s = ap (λ (p : Plan). next_turn p p.entries i r.target r.length s) (plan-kept room b w x)

  count-some : (b : Box) (s : ℕ) → 1 ≤ count b s
  count-some b s = (next-finds (the_plan b) i r.target r.length (the_plan b).entries s).from

  -- so it has started once so many time-codes were accepted, and not before
  starts-when : (fs : List Offer) (b : Box) (s : ℕ) → First b s → all_next b fs ≡ true → has_started i 0 b fs ≡ leb (count b s) (ticks b fs)
  unfolding all_next ticks has_started offered slot_after
  starts-when [] b s z next = sym (lt-leb (count b s) 0 (count-some b s))
  starts-when (f ∷ fs) b s z next =
      let c = both_true (not (is_tick b f.room f.event) || is_next b f.event) (all_next (offered b f) fs) next in
      go (starts-when fs (offered b f)) c.1 (slot-on f.room b f.lent f.event s z.slot c.0) (event-met b s z f.room f.event c.0)
    where
      go : ((v : ℕ) → First (offered b f) v → all_next (offered b f) fs ≡ true → has_started i 0 (offered b f) fs ≡ leb (count (offered b f) v) (ticks (offered b f) fs))
          → all_next (offered b f) fs ≡ true → slot_now (offered b f) ≡ some (slot_after s (cond (is_tick b f.room f.event) 1 0)) → Met b s z f.event f.room
          → has_started i 0 b (f ∷ fs) ≡ leb (count b s) (ticks b (f ∷ fs))
      go ih rest h (quiet a e) =
          let same : slot_after s 0 ≡ s = omega (arith, slot-low b s z.slot) in
          let v : slot_now (offered b f) ≡ some s = (rw a at h) ∙ ap some same in
          let none_more : 0 + ticks (offered b f) fs ≡ ticks (offered b f) fs = omega arith in
          rw (e, has_started, a) (ih s (still-first b s z f.room f.lent f.event s e v) rest
          ∙ ap₂ leb (count_kept f.room b f.lent f.event s) (sym none_more))
      go ih rest h (starts-now a e one) = rw (e, has_started, a, one) (sym (le-leb 1 (1 + ticks (offered b f) fs) (omega arith)))
      go ih rest h (nearer a e one) =
          let v : slot_now (offered b f) ≡ some (slot_after s 1) = rw a at h in
          rw (e, has_started, a) (ih (slot_after s 1) (still-first b s z f.room f.lent f.event (slot_after s 1) e v) rest
          ∙ same-leb (count (offered b f) (slot_after s 1)) (count b s) (ticks (offered b f) fs) (one ∙ ap suc (sym (count_kept f.room b f.lent f.event (slot_after s 1)))))
        where
          same-leb : (c d m : ℕ) → d ≡ suc c → leb c m ≡ leb d (1 + m)
          same-leb c d m e = by (leb c m) refl
            where
              by : (x : Bool) → leb c m ≡ x → x ≡ leb d (1 + m)
              by true l = sym (le-leb d (1 + m) (omega (arith, leb-true c m l)))
              by false l = sym (lt-leb d (1 + m) (omega (arith, leb-false c m l)))

-- a request that is accepted: some entry permits it, it moves no slot, and the question for its turn is not refused
module _ (room : ℕ) (b : Box) (i t k n : ℕ) (h : refusal room b (Request i t k n) ≡ 0) where
  permitted : may_start (the_plan b) (the_plan b).entries i t n ≡ true
  unfolding refusal refusals rise test_of
  permitted = not-false _ (no_row 25 (refusals room b (Request i t k n)) 0 refl h)

  same-slot : (w : Watchdog) → slot_now (step room b w (Request i t k n)).box ≡ slot_now b
  unfolding accepts with_side slot_now
  same-slot w = rw (step-accepted room b w (Request i t k n) h)

  named : (s : ℕ) → s < 64 → next_answer b.plan i t n s ≡ Turn (next_turn (the_plan b) (the_plan b).entries i t n s)
  unfolding refusal refusals rise test_of the_plan no_plan
  named s low =
      let rows = refusals room b (Request i t k n) in
      let loaded = not-false (is_some b.plan) (no_row 20 rows 0 refl h) in
      let own = not-false (is_initiator (the_plan b) i) (no_row 22 rows 0 refl h) in
      next-answered b.plan i t n s ∙ rw (loaded, own, no_row 24 rows 0 refl h, permitted, le-ltb 63 s (omega arith))

pub starts-at-its-turn : AcceptedIsSound → StartsAtItsTurn
unfolding StartsAtItsTurn JoinsAsAsked
starts-at-its-turn ok b reached room w i t k n h alone s slot = (
  count i r b s,
  named room b i t k n h s (slot-low b s slot),
  record {
    when = λ fs next. starts-when i r fs joined s first next ∙ ap (λ (c : ℕ). leb c (ticks joined fs)) (count_kept i r room b w x s);
    slot = λ fs next. slots-on fs joined s here next;
  },
)
  where
    x : Event
    x = Request i t k n

    r : state.Request
    r = state.request t k n (b.side i).next

    joined : Box
    joined = (step room b w x).box

    inv : Inv b
    inv = reached-inv ok b reached

    here : slot_now joined ≡ some s
    here = same-slot room b i t k n h w ∙ slot

    first : First i r joined s
    first = let (v, is) = some_turn (the_plan b) i t n inv.sound (permitted room b i t k n h) in record {
      inv = step-inv room b w x inv;
      at = ap (λ (m : ℕ). at_place m (joined.side i).line) (ap length (sym alone)) ∙ joins-as-asked b room w i t k n h;
      slot = here;
      turn = v;
      is = rw (plan-kept room b w x) is;
    }
