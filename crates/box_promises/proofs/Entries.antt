-- A record of kind 5 in the buffer stands at an entry in memory, and at one visit no initiator has two.
use mathlib.Core.Path.{◌≡◌, refl, sym, ap, ap₂, ◌∙◌}
use mathlib.Core.List.{List, [], ◌∷◌, Memᴰ}
use mathlib.Core.Option.{some}
use mathlib.Core.Bool.{Bool, true}
use Prim.Native.Nat.{ℕ, zero, suc, ◌+◌, ◌*◌, ◌%◌, ◌≤◌, ◌<◌}
use native.Mathlib.Omega.{arith}
use lib.ListN.{length}
use borrow.Author.Tests.{eq-eqb}
use Rattle.lists.specs.Search.{keep}
use Rattle.lists.specs.Place.{at_place}
use Rattle.lists.specs.laws.Bools.{true-both, none-some, some-some, cond_cases}
use Rattle.lists.specs.laws.Search.{is_in-intro, keep-intro}
use Rattle.lists.specs.laws.At.{at-member, at-within, member-at}
use Rattle.bitsets.specs.Set.{member}
use Rattle.rules_plan.specs.Plan.{nth, two}
use Rattle.rules_plan.specs.Meaning.{initiators, fits_in}
use Rattle.rules_plan.specs.Promises.{AcceptedIsSound}
use Rattle.rules_plan.specs.laws.Runs.{permits-fits, permits-target, its-initiator, found_at}
use Rattle.memory_plan.specs.Spans.{fits_in_words}
use Rattle.memory_plan.specs.laws.InRows.{span-cell, aim-cell}
use Rattle.memory_plan.specs.laws.Entries.{entry-told}
use Rattle.rules_box.specs.declared.Event.{Event}
use Rattle.rules_box.specs.Answer.{Answer}
use Rattle.rules_box.specs.State.{Box, the_plan}
use Rattle.rules_box.specs.Turn.{value_of}
use Rattle.rules_box.specs.Records.{Record, record_bytes}
use Rattle.rules_box.specs.Step.{Outcome, step, clock_of}
use Rattle.rules_box.specs.Promises as box
use Rattle.box_calls.specs.Calls.{Lent, StepLeaves, Came}
use Rattle.box_promises.specs.Words.{count_of, record_at}
use Rattle.box_promises.specs.Promises.{StartsOnlyAtEntries, OncePerVisit}
use Rattle.box_promises.proofs.Held.{held, outcome}
use Rattle.box_promises.proofs.Says.{says}
use Rattle.box_promises.proofs.Written.{written_at, at-place}

-- a record of kind 5 at a place of the buffer
module _ (ok : AcceptedIsSound) {before after : Lent} {answer : Answer} (b : Box) (e : Event) (came : Came before.memory b) (s : StepLeaves before e answer after) where
  abbrev o : Outcome
  o = step (length before.records) b before.five e

  -- the record, and its bytes
  record StartAt (j : ℕ) : Type 0 where
    what : Record
    place : at_place j o.records ≡ some what
    bytes : record_at after.records j ≡ record_bytes (clock_of e) what
    start : box.is_start_of (nth (record_at after.records j) 1) what ≡ true

  start-at : (j : ℕ) → j < count_of answer → nth (record_at after.records j) 0 ≡ 5 → StartAt j
  unfolding record_bytes box.is_start_of
  start-at j low five =
      let out = outcome ok b e s (held ok before.memory b came) in
      let (r, at) = at-place (length before.records) b before.five e out j low in
      let bytes = written_at (length before.records) b before.five e out j r at in
      let byte : (k : ℕ) → nth (record_at after.records j) k ≡ nth (record_bytes (clock_of e) r) k = λ k. ap (λ (l : List ℕ). nth l k) bytes in
      record { what = r; place = at; bytes = bytes; start = true-both (eq-eqb r.kind 5 (sym (byte 0) ∙ five)) (eq-eqb r.initiator _ (sym (byte 1))) }

pub starts-only-at-entries : AcceptedIsSound → box.StartsOnlyAtEntries → StartsOnlyAtEntries
unfolding StartsOnlyAtEntries box.StartsOnlyAtEntries record_bytes value_of
starts-only-at-entries ok only before after e answer b came s j low five =
    let h = held ok before.memory b came in
    let p = the_plan b in
    let sound = h.finds.fit.sound in
    let x = start-at ok b e came s j low five in
    let bytes = record_at after.records j in
    let byte : (k : ℕ) → nth bytes k ≡ nth (record_bytes (clock_of e) x.what) k = λ k. ap (λ (l : List ℕ). nth l k) x.bytes in
    let (v, clock, is, a) = only b (length before.records) before.five e (nth bytes 1) x.what (at-member _ j x.what x.place) x.start in
    let (row, _, at) = member-at (initiators p) a.entry.initiator (its-initiator p sound a.entry a.of-plan) in
    let aimed = permits-target p a.entry x.what.target x.what.length a.permitted in
    let own = ((says before.memory b h).row row (nth bytes 1)).1 (at ∙ ap some a.own) in
    let value : nth bytes 3 ≡ v % 64 = byte 3 ∙ a.value in
    let slot : nth bytes 3 ≡ a.entry.slot = value ∙ sym a.here in
    let eight : row < 8 = omega (arith, at-within (initiators p) row a.entry.initiator at, sound.eight) in
    let low-slot = sound.slots a.entry a.of-plan in
    let cell : 64 * row + nth bytes 3 ≡ row * 64 + a.entry.slot = omega arith in
    let (stands, told) =
    entry-told p sound row a.entry.initiator at a.entry.slot _ (ap₂ nth h.at.plan.spans cell ∙ span-cell p row a.entry.slot eight low-slot)
    a.entry (found_at p sound a.entry a.of-plan) _ (ap₂ nth h.at.plan.aims cell ∙ aim-cell p row a.entry.slot eight low-slot) in
    record {
      byte = v;
      clock = clock;
      event = is;
      in-sequence = ((says before.memory b h).in-sequence v).1 a.in-sequence;
      value = value;
      row = row;
      own = own;
      stands = stands;
      aims = ap (λ (t : ℕ). member t (nth before.memory.aims (64 * row + nth bytes 3))) (byte 2) ∙ sym (told.targets x.what.target) ∙ is_in-intro x.what.target a.entry.targets aimed;
      long =
          let n = before.memory.numbers in
          let span = nth before.memory.spans (64 * row + nth bytes 3) in
          let t = x.what.target in
          let size : two bytes 6 ≡ x.what.length = omega (arith, byte 6, byte 7) in
          ap (λ (u : ℕ). fits_in_words n row u (two bytes 6) span) (byte 2) ∙ ap (λ (k : ℕ). fits_in_words n row t k span) size
          ∙ ap (fits_in_words n row t x.what.length) (sym told.span)
          ∙ (says before.memory b h).fits row (nth bytes 1) t x.what.length a.entry.span own (sound.targets a.entry a.of-plan t aimed)
          ∙ ap (λ (i : ℕ). fits_in p i t x.what.length a.entry.span) (sym a.own) ∙ permits-fits p a.entry t x.what.length a.permitted;
    }

-- two places of a list with at most one element that passes
module _ {A : Type 0} (t : A → Bool) where
  some-length : (xs : List A) (x : A) → Memᴰ x xs → 0 < length xs
  some-length [] x m = elim m [ ]
  some-length (y ∷ ys) x m = omega arith

  first-only : (z : A) (zs : List A) (x y : A) (k : ℕ) → length (keep t (z ∷ zs)) ≤ 1 → some z ≡ some x → at_place k zs ≡ some y → t x ≡ true → t y ≡ true → ⊥
  unfolding keep
  first-only z zs x y k l e f tx ty =
      let tz : t z ≡ true = rw (some-some e) tx in
      let two : suc (length (keep t zs)) ≤ 1 = rw (tz, keep) at l in
      omega (arith, some-length (keep t zs) y (keep-intro t zs y (at-member zs k y f) ty))

  one_place : (xs : List A) (j k : ℕ) (x y : A) → length (keep t xs) ≤ 1 → at_place j xs ≡ some x → at_place k xs ≡ some y → t x ≡ true → t y ≡ true → j ≡ k
  unfolding keep at_place
  one_place [] j k x y l e f tx ty = none-some e
  one_place (z ∷ zs) zero zero x y l e f tx ty = refl
  one_place (z ∷ zs) zero (suc k) x y l e f tx ty = absurd (first-only z zs x y k l e f tx ty)
  one_place (z ∷ zs) (suc j) zero x y l e f tx ty = absurd (first-only z zs y x j l f e ty tx)
  one_place (z ∷ zs) (suc j) (suc k) x y l e f tx ty =
      let less = cond_cases (λ (ys : List A). length ys ≤ 1 → length (keep t zs) ≤ 1) (t z) (z ∷ keep t zs) (keep t zs) (λ _ h. omega arith) (λ _ h. h) l in
      ap suc (one_place zs j k x y less e f tx ty)

pub once-per-visit : AcceptedIsSound → box.OncePerVisit → OncePerVisit
unfolding OncePerVisit box.OncePerVisit
once-per-visit ok once before after e answer b came s j j' low low' d five five' same =
    let x = start-at ok b e came s j low five in
    let y = start-at ok b e came s j' low' five' in
    let i = nth (record_at after.records j) 1 in
    d (one_place (box.is_start_of i) _ j j' x.what y.what (once b (length before.records) before.five e i) x.place y.place x.start (rw (← same) at y.start))
