-- A request that joins an empty line starts at the turn that was named: the events that were answered, as the history of the definitions has them.
use mathlib.Core.Path.{◌≡◌, refl, sym, ap, ap₂, ◌∙◌}
use mathlib.Core.Logic.{◌≢◌}
use mathlib.Core.List.{List, [], ◌∷◌, ◌++◌, map}
use mathlib.Core.Option
use mathlib.Core.Option.{Option, none, some}
use mathlib.Core.Bool.{Bool, true, false, cond}
use Prim.Native.Nat.{ℕ, ◌+◌, ◌-◌, ◌*◌, ◌%◌}
use native.Mathlib.Omega.{arith}
use lib.ListN.{length, take, drop}
use lib.Dec.{eqb, ltb}
use borrow.Author.Tests.{eqb-false, le-leb, lt-leb}
use Rattle.lists.specs.Place.{at_place}
use Rattle.lists.specs.laws.Bools.{not-both, none-some, some-some}
use Rattle.rules_plan.specs.Plan.{nth}
use Rattle.rules_plan.specs.Meaning.{initiators}
use Rattle.rules_plan.specs.Next.{slot_after}
use Rattle.rules_plan.specs.Promises.{AcceptedIsSound}
use Rattle.rules_box.specs.declared.Event.TheVariants.{Request}
use Rattle.rules_box.specs.State.{Box, the_plan}
use Rattle.rules_box.specs.Turn.{value_of}
use Rattle.rules_box.specs.Step.{step}
use Rattle.rules_box.specs.History.{offered, after, leaving, fate, has_started}
use Rattle.rules_box.specs.Promises as box
use Rattle.memory_run.specs.Run.{last_of}
use Rattle.box_calls.specs.Calls.{Memory, Came, by-event, Done, Follow, nothing, then}
use Rattle.box_promises.specs.Words.{waiting_in, line_in, slot_in, memory_after}
use Rattle.box_promises.specs.Promises.{HeldBy, Leaves, stays, moves, WaitsOn, still, through, NextOfTheRules, StartsAtItsTurn}
use Rattle.box_promises.proofs.Held.{held}
use Rattle.box_promises.proofs.Says.{last_word}
use Rattle.box_promises.proofs.Moves.{at_after, Moved, kept, gone, moved}
use Rattle.box_promises.proofs.InTime.{offer_of, ticks-are, all-next, starts-in, joining}

-- nothing waits: the line has no word
no-elements : {A : Type 0} (xs : List A) → length xs ≡ 0 → xs ≡ []
no-elements [] z = refl
no-elements (x ∷ xs) z = absurd (omega arith)

empty-line : (m : Memory) (r : ℕ) → waiting_in m r ≡ 0 → line_in m r ≡ []
unfolding line_in
empty-line m r z = ap (λ (n : ℕ). take n (drop (12 * r + 2) m.run)) z

module _ (ok : AcceptedIsSound) where
  pub next-of-the-rules : NextOfTheRules
  unfolding NextOfTheRules
  next-of-the-rules m b came i t n s answer told = told b.plan m.spans (held ok m b came).finds.plan

  -- the slot by the word of memory, and by the last byte
  slot-says : (m : Memory) (b : Box) → HeldBy m b → nth m.last 0 ≢ 0 → box.slot_now b ≡ some (slot_in m)
  unfolding box.slot_now last_of value_of
  slot-says m b h d = go b.last refl
    where
      go : (o : Option ℕ) → b.last ≡ o → Option.map value_of b.last ≡ some (slot_in m)
      go none is = absurd (d (last_word m b h 0 none is))
      go (some w) is = ap (Option.map value_of) is ∙ ap some (omega (arith, last_word m b h 0 (some w) is))

  slot-told : (m : Memory) (b : Box) → HeldBy m b → (s : ℕ) → box.slot_now b ≡ some s → slot_in m ≡ s
  unfolding box.slot_now last_of value_of
  slot-told m b h s e = go b.last refl
    where
      go : (o : Option ℕ) → b.last ≡ o → slot_in m ≡ s
      go none is = none-some (sym (ap (Option.map value_of) is) ∙ e)
      go (some w) is = let z = some-some (sym (ap (Option.map value_of) is) ∙ e) in omega (arith, last_word m b h 0 (some w) is)

  -- the memory after the events is that of the box after them
  came-after : (m : Memory) (b : Box) (ds : List Done) → Came m b → Follow m ds → Came (memory_after m ds) (after b (map offer_of ds))
  unfolding memory_after after offered
  came-after m b ds came nothing = came
  came-after m b ds came (then {d} {ds = es} s f) = came-after d.after.memory (offered b (offer_of d)) es (by-event came d.event s) f

  -- where the history has no start, the request waits on
  module _ (this-one : box.ThisVeryRequest) (r i word : ℕ) where
    waits_in : (m : Memory) (b : Box) (ds : List Done) (k : ℕ) → Came m b → Follow m ds → at_place r (initiators (the_plan b)) ≡ some i
        → has_started i k b (map offer_of ds) ≡ false → WaitsOn r i k ds
    unfolding has_started offered leaving
    waits_in m b ds k came nothing row h = still
    waits_in m b ds k came (then {d} {ds = es} s f) row h =
        go (λ j g. waits_in d.after.memory (offered b (offer_of d)) es j (by-event came d.event s) f (at_after ok b d came s r i row) g) (moved ok b d came s r i row this-one)
      where
        n : ℕ
        n = length d.before.records

        by : ((j : ℕ) → has_started i j (offered b (offer_of d)) (map offer_of es) ≡ false → WaitsOn r i j es)
            → (other place : ℕ) → Leaves d r i other place → fate b i k n d.event ≡ leaving place k → (x : Bool) → eqb place k ≡ x → WaitsOn r i k (d ∷ es)
        by ih other place l e true x = not-both refl (rw (e, leaving, x, has_started) at h)
        by ih other place l e false x = through (moves l (eqb-false place k x)) (ih (cond (ltb place k) (k - 1) k) (rw (e, leaving, x, has_started) at h))

        go : ((j : ℕ) → has_started i j (offered b (offer_of d)) (map offer_of es) ≡ false → WaitsOn r i j es) → Moved ok b d came s r i row → WaitsOn r i k (d ∷ es)
        go ih (kept more e fates) = through (stays more e) (ih k (rw (fates k, has_started) at h))
        go ih (gone other place l fates) = by ih other place l (fates k) (eqb place k) refl

  pub starts-at-its-turn : box.StartsAtItsTurn → box.ThisVeryRequest → StartsAtItsTurn
  unfolding StartsAtItsTurn box.StartsAtItsTurn NextOfTheRules slot_after
  starts-at-its-turn at_turn this-one before' after' i t k n transaction b came s row own empty some-code answer told =
      let m = before'.memory in
      let h = held ok m b came in
      let j = joining ok before' after' i t k n transaction b came s in
      let same : j.row ≡ row = own.only j.row j.own.low j.own.is in
      let none-waits : length (b.side i).line ≡ 0 = sym j.waiting ∙ ap (waiting_in m) same ∙ empty in
      let alone = no-elements (b.side i).line none-waits in
      let e = Request i t k n in
      let size = length before'.records in
      let joined = (step size b before'.five e).box in
      let next = by-event came e s in
      let (c, named, starts) = at_turn b h.reached size before'.five i t k n j.taken alone (slot_in m) (slot-says m b h some-code) in
      let before-it : line_in m row ≡ [] = empty-line m row empty in
      let at : at_place row (initiators (the_plan joined)) ≡ some i = rw same at j.place_after in
      let stands : at_place 0 (line_in after'.memory row) ≡ some j.word = ap₂ (λ (x y : ℕ). at_place x (line_in after'.memory y)) (sym none-waits) (sym same) ∙ j.stands in (
        c,
        next-of-the-rules m b came i t n (slot_in m) answer told ∙ named,
        record {
          word = j.word;
          joins = (rw same at j.joins) ∙ ap (λ (xs : List ℕ). xs ++ (j.word ∷ [])) before-it;
          asked = j.asked;
          by-then = λ ds follow all enough.
              let ticking = ticks-are ok after'.memory joined ds next follow in
              starts-in ok this-one row i j.word after'.memory joined ds 0 next follow at stands
              (starts.when (map offer_of ds) (all-next ok after'.memory joined ds next follow all) ∙ le-leb c _ (omega arith));
          not-before = λ ds follow all early.
              let ticking = ticks-are ok after'.memory joined ds next follow in
              waits_in this-one row i j.word after'.memory joined ds 0 next follow at
              (starts.when (map offer_of ds) (all-next ok after'.memory joined ds next follow all) ∙ lt-leb c _ (omega arith));
          slot = λ ds follow all.
              slot-told (memory_after after'.memory ds) (after joined (map offer_of ds)) (held ok _ _ (came-after after'.memory joined ds next follow)) _
              (starts.slot (map offer_of ds) (all-next ok after'.memory joined ds next follow all))
              ∙ ap (λ (x : ℕ). (slot_in m + x) % 64) (ticks-are ok after'.memory joined ds next follow);
        },
      )
