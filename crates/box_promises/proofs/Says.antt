-- What the words and bytes of memory say is what the box says.
use mathlib.Core.Path.{◌≡◌, refl, sym, ap, ap₂, ◌∙◌}
use mathlib.Core.Logic.{inl, inr}
use mathlib.Core.List.{List}
use mathlib.Core.Option.{Option, none, some}
use mathlib.Core.Bool.{true}
use Prim.Native.Nat.{ℕ, ◌+◌, ◌*◌, ◌%◌, ◌<◌}
use native.Mathlib.Omega.{arith}
use borrow.Author.Tests.{eqb-true, eq-eqb}
use Rattle.lists.specs.Place.{at_place}
use Rattle.rules_plan.specs.Plan.{nth, Entry, Plan}
use Rattle.rules_plan.specs.Meaning.{initiators, fits_in, entry_at}
use Rattle.rules_plan.specs.Next.{is_turn}
use Rattle.rules_plan.specs.Promises.{AcceptedIsSound}
use Rattle.rules_plan.specs.laws.Sound.{Sound}
use Rattle.memory_plan.specs.Spans.{fits_in_words, least_in_words}
use Rattle.memory_plan.specs.Turns.{turn_in_words}
use Rattle.memory_plan.specs.laws.Costs.{fits_told, least-told}
use Rattle.memory_plan.specs.laws.Entries.{span_read, targets_read, entry-told, entry-none}
use Rattle.memory_plan.specs.laws.InRows.{span-cell, aim-cell}
use Rattle.memory_plan.specs.laws.Turns.{turn-told}
use Rattle.rules_box.specs.State.{Box, the_plan}
use Rattle.rules_box.specs.Turn.{value_of, in_sequence}
use Rattle.memory_run.specs.Run.{last_of}
use Rattle.box_calls.specs.Calls.{Memory}
use Rattle.box_promises.specs.Words.{RowOf, span_in, aims_in, InSequence}
use Rattle.box_promises.specs.Promises.{HeldBy, EntrySays, Says, WordsOfTheBox}
use Rattle.box_promises.proofs.Held.{held}
use Rattle.box_promises.proofs.Rows.{row-says, row-of, eight-rows, next-says, waiting-says, line-says, live-says, unused-says}
use Rattle.box_promises.proofs.Paths.{path-says}

-- in sequence by the word of memory, and by the last byte
module _ (m : Memory) (b : Box) (h : HeldBy m b) (byte : ℕ) where
  pub last_word : (o : Option ℕ) → b.last ≡ o → nth m.last 0 ≡ last_of o
  last_word o is = ap (λ (ws : List ℕ). nth ws 0) h.at.runs.last ∙ ap last_of is

  next-there : InSequence m byte → in_sequence b.last byte ≡ true
  unfolding in_sequence value_of last_of
  next-there = go b.last refl
    where
      go : (o : Option ℕ) → b.last ≡ o → InSequence m byte → in_sequence b.last byte ≡ true
      go none is q = rw (is, in_sequence)
      go (some w) is (inl z) = absurd (omega (arith, last_word (some w) is))
      go (some w) is (inr z) = rw (is, in_sequence) (eq-eqb (byte % 64) ((w % 64 + 1) % 64) (omega (arith, last_word (some w) is)))

  next-back : in_sequence b.last byte ≡ true → InSequence m byte
  unfolding in_sequence value_of last_of
  next-back q = go b.last refl
    where
      go : (o : Option ℕ) → b.last ≡ o → InSequence m byte
      go none is = inl (last_word none is)
      go (some w) is = inr (omega (arith, last_word (some w) is, eqb-true (byte % 64) ((w % 64 + 1) % 64) (rw (is, in_sequence) at q)))

-- the span and the targets at a slot are those of the entry that stands there
entry-says : (m : Memory) (b : Box) → HeldBy m b → (r i v : ℕ) → RowOf m r i → v < 64 → EntrySays (span_in m r v) (aims_in m r v) (entry_at (the_plan b).entries i v)
unfolding EntrySays
entry-says m b h r i v own low = go (entry_at p.entries i v) refl
  where
    p : Plan
    p = the_plan b

    at : at_place r (initiators p) ≡ some i
    at = row-of m b h r i own.low own.is

    eight : r < 8
    eight = eight-rows m b h r i at

    cell : 64 * r + v ≡ r * 64 + v
    cell = omega arith

    span : span_in m r v ≡ span_read p r v
    span = ap₂ nth h.at.plan.spans cell ∙ span-cell p r v eight low

    aims : aims_in m r v ≡ targets_read p r v
    aims = ap₂ nth h.at.plan.aims cell ∙ aim-cell p r v eight low

    sound : Sound p
    sound = h.finds.fit.sound

    go : (o : Option Entry) → entry_at p.entries i v ≡ o → EntrySays (span_in m r v) (aims_in m r v) (entry_at p.entries i v)
    go none e = rw (e, EntrySays) (entry-none p sound r i at v (span_in m r v) span e)
    go (some x) e =
        let (stands, told) = entry-told p sound r i at v (span_in m r v) span x e (aims_in m r v) aims in
        rw (e, EntrySays) (stands, sym told.span, λ t. sym (told.targets t))

-- how long a transaction may be
fits-says : (m : Memory) (b : Box) → HeldBy m b → (r i t n k : ℕ) → RowOf m r i → t < 64 → fits_in_words m.numbers r t n k ≡ fits_in (the_plan b) i t n k
fits-says m b h r i t n k own low = fits_told (the_plan b) _ m.numbers h.at.plan.numbers h.finds.fit.sound r i t (row-of m b h r i own.low own.is) low n k

-- at which slots it may start, by the summary
turn-says : (m : Memory) (b : Box) → HeldBy m b → (r i t n v : ℕ) → RowOf m r i → t < 64
    → turn_in_words m.aims r t (least_in_words m.numbers r t n) v ≡ is_turn (the_plan b) (the_plan b).entries i t n v
turn-says m b h r i t n v own low =
    let at = row-of m b h r i own.low own.is in
    let sound = h.finds.fit.sound in
    turn-told (the_plan b) sound r i at (eight-rows m b h r i at) t low n m.aims h.at.plan.aims (least_in_words m.numbers r t n)
    (least-told (the_plan b) _ m.numbers h.at.plan.numbers sound r i t at low n) v

pub says : (m : Memory) (b : Box) → HeldBy m b → Says m b
says m b h = record {
  row = row-says m b h;
  next = next-says m b h;
  waiting = waiting-says m b h;
  line = line-says m b h;
  live = live-says m b h;
  unused = unused-says m b h;
  entry = entry-says m b h;
  path = path-says m b h;
  fits = fits-says m b h;
  turn = turn-says m b h;
  in-sequence = λ byte. (next-there m b h byte, next-back m b h byte);
}

pub words-of-the-box : AcceptedIsSound → WordsOfTheBox
unfolding WordsOfTheBox
words-of-the-box ok m b came = says m b (held ok m b came)
