-- What each store makes of a row: the row of the side that one has joined, or that one has left.
use Rattle.std.proofs.Common.{◌≡◌, ℕ, suc, ◌+◌, ◌-◌, ◌%◌, ◌<◌, List, [], ◌∷◌, ◌++◌, map, length, get_or, take, drop, set, sym, ap, ◌∙◌, ap₂, arith, length-append, take_at, drop_at}
use mathlib.Core.List.{map-append}
use lib.ListN.{length-map}
use lib.Seq.{set-append_left}
use Rattle.lists.specs.Place.{without}
use Rattle.lists.specs.Cells.{padded}
use Rattle.lists.specs.laws.Lines.{padded-join, padded-leave, length_without, map-without}
use Rattle.rules_box.specs.State.{request, Side}
use Rattle.rules_box.specs.Turn.{asked, join}
use Rattle.rules_box.specs.laws.Fit.{FitSide}
use Rattle.memory_run.specs.Run.{word_of, live_word, live_time, row_of}
use Rattle.memory_plan.specs.View.{Owner}
use Rattle.run_line.specs.Line.{leaves}
use Rattle.memory_run.specs.laws.Words.{eight}
use Rattle.memory_run.specs.laws.RowWords.{next-at, count_at}

module _ (m : Owner) (s : Side) (f : FitSide s) (row : List ℕ) (is : row ≡ row_of m s) where
  words : List ℕ
  words = map (word_of m) s.line

  few : length words ≡ length s.line
  unfolding words
  few = length-map s.line (word_of m)

  rest : List ℕ
  rest = live_word m s.live ∷ live_time s.live ∷ []

  -- one more joins the line
  pub joined : (t k n w i : ℕ) → length s.line < 8 → w ≡ word_of m (asked t k n s) → i ≡ (s.next + 1) % 65_536
      → set (set (set row (get_or row 1 0 + 2) w) 1 (get_or row 1 0 + 1)) 0 i ≡ row_of m (join t k n s)
  unfolding row_of join words rest
  joined t k n w i room ew ei =
      let c = length s.line in
      let e : c + 2 ≡ suc (suc c) = omega arith in
      let more : c + 1 ≡ length (s.line ++ (asked t k n s ∷ [])) = omega (arith, length-append s.line (asked t k n s ∷ [])) in
      ap (λ (l : List ℕ). set (set (set l (get_or l 1 0 + 2) w) 1 (get_or l 1 0 + 1)) 0 i) is
      ∙ ap (λ (j : ℕ). set (set (set (row_of m s) j w) 1 (c + 1)) 0 i) e
      ∙ ap₂ (λ (a b : ℕ). a ∷ b ∷ set (padded 8 0 words ++ rest) c w) ei more
      ∙ ap (λ (l : List ℕ). (s.next + 1) % 65_536 ∷ length (s.line ++ (asked t k n s ∷ [])) ∷ l)
      (set-append_left (padded 8 0 words) rest c w (omega (arith, eight m s f))
      ∙ ap (λ (l : List ℕ). l ++ rest)
      (ap (λ (j : ℕ). set (padded 8 0 words) j w) (sym few) ∙ padded-join 8 0 words w (omega (arith, few))
      ∙ ap (λ (l : List ℕ). padded 8 0 l) (ap (λ (x : ℕ). words ++ (x ∷ [])) ew ∙ sym (map-append (word_of m) s.line (asked t k n s ∷ [])))))

  number_at : get_or row 0 0 % 65_536 ≡ s.next
  number_at = omega (arith, next-at m s f row is, f.next)

  -- the word and the next number as the code has them
  pub joins : (t k n w i : ℕ) → length s.line < 8 → w ≡ word_of m (request t k n (get_or row 0 0 % 65_536))
      → i ≡ (get_or row 0 0 % 65_536 + 1) % 65_536
      → (get_or row 0 0 % 65_536 ≡ s.next) × (set (set (set row (get_or row 1 0 + 2) w) 1 (get_or row 1 0 + 1)) 0 i ≡ row_of m (join t k n s))
  unfolding asked
  joins t k n w i room ew ei = (number_at, joined t k n w i room (rw number_at at ew) (rw number_at at ei))

  -- one leaves the line
  pub left : (k : ℕ) (x : List ℕ) → k < get_or row 1 0 → x ≡ without k (take 8 (drop 2 row)) ++ (0 ∷ [])
      → set (take 2 row ++ (x ++ drop 8 (drop 2 row))) 1 (get_or row 1 0 - 1) ≡ row_of m (leaves k s)
  unfolding row_of leaves words rest
  left k x h ex =
      let room : k < length words = omega (arith, few, count_at m s f row is) in
      let less : length s.line - 1 ≡ length (without k s.line) = omega (arith, length_without k s.line (omega (arith, count_at m s f row is))) in
      let y : x ≡ padded 8 0 (map (word_of m) (without k s.line)) =
      ex ∙ ap (λ (l : List ℕ). without k (take 8 (drop 2 l)) ++ (0 ∷ [])) is
      ∙ ap (λ (l : List ℕ). without k l ++ (0 ∷ [])) (take_at (padded 8 0 words) rest 8 (eight m s f))
      ∙ padded-leave 8 0 words k (omega (arith, few, f.few)) room
      ∙ ap (λ (l : List ℕ). padded 8 0 l) (sym (map-without (word_of m) k s.line))
      in
      ap (λ (l : List ℕ). set (take 2 l ++ (x ++ drop 8 (drop 2 l))) 1 (get_or l 1 0 - 1)) is
      ∙ ap₂ (λ (j : ℕ) (l : List ℕ). s.next ∷ j ∷ x ++ l) less (drop_at (padded 8 0 words) rest 8 (eight m s f))
      ∙ ap (λ (l : List ℕ). s.next ∷ length (without k s.line) ∷ l ++ rest) y
