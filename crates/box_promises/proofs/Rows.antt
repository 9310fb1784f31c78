-- The words of run memory that the promises read: the next number, who waits, and what is live.
use mathlib.Core.Path.{◌≡◌, refl, sym, ap, ap₂, ◌∙◌}
use mathlib.Core.List.{List, [], ◌∷◌, ◌++◌, map, append_assoc}
use mathlib.Core.Logic.{◌≢◌, ◌↔◌}
use mathlib.Core.Option.{Option, none, some}
use mathlib.Core.Bool.{cond}
use Prim.Native.Nat.{ℕ, ◌+◌, ◌-◌, ◌*◌, ◌/◌, ◌%◌, ◌≤◌, ◌<◌}
use native.Mathlib.Omega.{arith}
use lib.ListN.{length, take, drop, replicate, length-map, take-append-drop}
use lib.Seq.{get_or-take, get_or-drop, drop-drop, take_at}
use lib.Dec.{eqb}
use borrow.Author.Tests.{ne_eqb}
use Rattle.lists.specs.Place.{at_place}
use Rattle.lists.specs.Cells.{padded}
use Rattle.lists.specs.laws.At.{at_none, at-within, place-once}
use Rattle.rules_plan.specs.Plan.{nth}
use Rattle.rules_plan.specs.Meaning.{initiators}
use Rattle.rules_plan.specs.laws.Initiators.{initiators-once}
use Rattle.memory_plan.specs.Memory.{of_row, numbers_with}
use Rattle.memory_plan.specs.laws.InRows.{of_row_lem, row-cell}
use Rattle.memory_plan.specs.View.{Owner, owner, owner_of}
use Rattle.memory_plan.specs.laws.Entries.{owner_at}
use Rattle.memory_plan.specs.laws.Rows.{row-initiator}
use Rattle.rules_box.specs.State.{Box, Side, Live, idle, the_plan}
use Rattle.rules_box.specs.laws.Fit.{FitSide, Fit}
use Rattle.memory_run.specs.Run.{word_of, live_word, live_time, row_of, side_of, run_of}
use Rattle.memory_run.specs.laws.RunRows.{run-part}
use Rattle.memory_run.specs.laws.RunSides.{sides-fit}
use Rattle.memory_run.specs.laws.Words.{live-word-in, live-time-in}
use Rattle.box_calls.specs.Calls.{Memory}
use Rattle.box_promises.specs.Words.{RowOf, run_word, waiting_in, request_in, line_in, live_in}
use Rattle.box_promises.specs.Promises.{HeldBy}
use Rattle.box_promises.proofs.Requests.{request-told, requests-told}

-- what is live, told from the last two words of a row
module _ (n : Owner) (s : Side) (f : FitSide s) where
  live-told : (a c : ℕ) → a ≡ live_time s.live → c ≡ live_word n s.live
      → cond (eqb a 0) none (some (record { request = request_in c; span = a % 256; age = a % 256 - a / 256 })) ≡ s.live
  unfolding live_time live_word
  live-told a c ea ec = go s.live refl
    where
      go : (o : Option Live) → s.live ≡ o → cond (eqb a 0) none (some (record { request = request_in c; span = a % 256; age = a % 256 - a / 256 })) ≡ s.live
      go none is = rw (ea, is, live_time)
      go (some l) is =
          let g = f.live l is in
          let time : a ≡ (l.span - l.age) * 256 + l.span = rw (ea, is) in
          let request : request_in c ≡ l.request = rw (ec, is, live_word) (request-told n l.request g.request) in
          let some-time : a ≢ 0 = λ z. omega (arith, g.young) in
          let span : a % 256 ≡ l.span = omega (arith, g.span) in
          let left : a / 256 ≡ l.span - l.age = omega (arith, g.span) in
          let age : a % 256 - a / 256 ≡ l.age = omega (arith, g.young) in
          rw (ne_eqb a 0 some-time, is) (ap some (λ z. record { request = request z; span = span z; age = age z }))

module _ (m : Memory) (b : Box) (h : HeldBy m b) where
  abbrev fit : Fit b
  fit = h.finds.fit

  run-word : (r k : ℕ) → r < 8 → k < 12 → run_word m r k ≡ nth (row_of (owner_of (the_plan b) r) (side_of (the_plan b) b.side r)) k
  unfolding run_of
  run-word r k low l =
      let e : 12 * r + k ≡ r * 12 + k = omega arith in
      let run = m.run in
      ap (nth run) e ∙ sym (get_or-drop (r * 12) run k 0) ∙ sym (get_or-take 12 (drop (r * 12) run) k 0 l)
      ∙ ap (λ (ws : List ℕ). nth (take 12 (drop (r * 12) ws)) k) h.at.runs.run
      ∙ ap (λ (ws : List ℕ). nth ws k) (run-part (owner_of (the_plan b)) (side_of (the_plan b) b.side) (sides-fit b fit) r low)

  -- what is live by the words of a row is live in the box
  pub live-word : (r : ℕ) → r < 8 → run_word m r 10 ≡ live_word (owner_of (the_plan b) r) (side_of (the_plan b) b.side r).live
  live-word r low = run-word r 10 low (omega arith) ∙ live-word-in (owner_of (the_plan b) r) (side_of (the_plan b) b.side r) (sides-fit b fit r)

  pub live-time : (r : ℕ) → r < 8 → run_word m r 11 ≡ live_time (side_of (the_plan b) b.side r).live
  live-time r low = run-word r 11 low (omega arith) ∙ live-time-in (owner_of (the_plan b) r) (side_of (the_plan b) b.side r) (sides-fit b fit r)

  live-in : (r : ℕ) → r < 8 → live_in m r ≡ (side_of (the_plan b) b.side r).live
  unfolding live_in
  live-in r low = live-told (owner_of (the_plan b) r) (side_of (the_plan b) b.side r) (sides-fit b fit r) (run_word m r 11) (run_word m r 10) (live-time r low) (live-word r low)

  -- the rows that are in use are those of the initiators
  in_use : nth m.numbers 2 ≡ length (initiators (the_plan b))
  unfolding numbers_with
  in_use = rw h.at.plan.numbers

  pub eight-rows : (r i : ℕ) → at_place r (initiators (the_plan b)) ≡ some i → r < 8
  eight-rows r i at = omega (arith, at-within (initiators (the_plan b)) r i at, fit.sound.eight)

  row_read : (r : ℕ) → nth m.rows r ≡ of_row (the_plan b) r (λ (i : ℕ). i)
  row_read r = ap (λ (l : List ℕ). nth l r) h.at.plan.rows ∙ row-cell (the_plan b) r

  pub initiator-row : (r i : ℕ) → at_place r (initiators (the_plan b)) ≡ some i → nth m.rows r ≡ i
  initiator-row r i at = row_read r ∙ of_row_lem (the_plan b) r i (λ (j : ℕ). j) at

  pub row-of : (r i : ℕ) → r < nth m.numbers 2 → nth m.rows r ≡ i → at_place r (initiators (the_plan b)) ≡ some i
  row-of r i low is = row-initiator (the_plan b) r (omega (arith, in_use)) ∙ ap some (sym (row_read r) ∙ is)

  pub row-says : (r i : ℕ) → RowOf m r i ↔ (at_place r (initiators (the_plan b)) ≡ some i)
  row-says r i = (
    λ w. row-of r i w.low w.is,
    λ at. record {
      low = omega (arith, in_use, at-within (initiators (the_plan b)) r i at);
      is = initiator-row r i at;
      only = λ k low is. place-once (initiators (the_plan b)) k r i (initiators-once (the_plan b)) (row-of k i low is) at;
    },
  )

  pub row-used : (r : ℕ) → r < nth m.numbers 2 → RowOf m r (nth m.rows r)
  row-used r low = (row-says r (nth m.rows r)).1 (row-of r (nth m.rows r) low refl)

  pub next-says : (r i : ℕ) → RowOf m r i → run_word m r 0 ≡ (b.side i).next
  unfolding side_of row_of
  next-says r i w = let at = row-of r i w.low w.is in run-word r 0 (eight-rows r i at) (omega arith) ∙ rw (at, side_of)

  pub waiting-says : (r i : ℕ) → RowOf m r i → waiting_in m r ≡ length (b.side i).line
  unfolding side_of row_of
  waiting-says r i w = let at = row-of r i w.low w.is in run-word r 1 (eight-rows r i at) (omega arith) ∙ rw (at, side_of)

  -- behind the first two words of a row: its line, and what else
  line-behind : (r i : ℕ) → at_place r (initiators (the_plan b)) ≡ some i → (more : List ℕ) × (drop (12 * r + 2) m.run ≡ map (word_of (owner (the_plan b) i)) (b.side i).line ++ more)
  unfolding side_of row_of run_of padded
  line-behind r i at =
      let p = the_plan b in
      let side = b.side i in
      let words = map (word_of (owner p i)) side.line in
      let two = live_word (owner p i) side.live ∷ live_time side.live ∷ [] in
      let fill = replicate {A = ℕ} (8 - length words) 0 in
      let e : 12 * r + 2 ≡ r * 12 + 2 = omega arith in
      let rest = drop 12 (drop (r * 12) m.run) in
      let row : take 12 (drop (r * 12) m.run) ≡ row_of (owner p i) side =
      ap (λ (ws : List ℕ). take 12 (drop (r * 12) ws)) h.at.runs.run
      ∙ run-part (owner_of p) (side_of p b.side) (sides-fit b fit) r (eight-rows r i at) ∙ ap (λ (o : Owner). row_of o (side_of p b.side r)) (owner_at p r i at) ∙ ap (row_of (owner p i)) (rw (at, side_of)) in
      let whole : drop (r * 12) m.run ≡ row_of (owner p i) side ++ rest = sym (take-append-drop 12 (drop (r * 12) m.run)) ∙ ap (λ (ws : List ℕ). ws ++ rest) row in (
        fill ++ (two ++ rest),
        ap (λ (k : ℕ). drop k m.run) e ∙ sym (drop-drop 2 (r * 12) m.run) ∙ ap (drop 2) whole
            ∙ append_assoc (words ++ fill) two rest ∙ append_assoc words fill (two ++ rest),
      )

  -- the words of a line are those of its requests
  pub line-words : (r i : ℕ) → at_place r (initiators (the_plan b)) ≡ some i → line_in m r ≡ map (word_of (owner (the_plan b) i)) (b.side i).line
  unfolding line_in
  line-words r i at =
      let (more, behind) = line-behind r i at in
      let words = map (word_of (owner (the_plan b) i)) (b.side i).line in
      ap₂ take (waiting-says r i ((row-says r i).1 at)) behind ∙ take_at words more (length (b.side i).line) (length-map (b.side i).line (word_of (owner (the_plan b) i)))

  pub line-says : (r i : ℕ) → RowOf m r i → map request_in (line_in m r) ≡ (b.side i).line
  line-says r i w = ap (map request_in) (line-words r i (row-of r i w.low w.is)) ∙ requests-told (owner (the_plan b) i) (b.side i).line (fit.sides i).line

  pub live-says : (r i : ℕ) → RowOf m r i → live_in m r ≡ (b.side i).live
  unfolding side_of
  live-says r i w = let at = row-of r i w.low w.is in live-in r (eight-rows r i at) ∙ rw (at, side_of)

  pub unused-says : (r : ℕ) → nth m.numbers 2 ≤ r → r < 8 → live_in m r ≡ none
  unfolding side_of idle
  unused-says r h low = live-in r low ∙ rw (at_none (initiators (the_plan b)) r (omega (arith, in_use)), side_of)
