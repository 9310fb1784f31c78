-- Lateness of a row: the row of the side that is a time-code older.
use mathlib.Core.Path.{◌≡◌, sym, ap, ◌∙◌}
use mathlib.Core.List.{List, ◌∷◌, map}
use mathlib.Core.Option.{some}
use mathlib.Core.Bool.{Bool, true, false}
use Prim.Native.Nat.{ℕ, ◌-◌}
use lib.ListN.{length, get_or, set}
use borrow.Author.Tests.{eq-eqb, ne_eqb}
use Rattle.std.specs.Prelude.{Some, None}
use Rattle.lists.specs.Cells.{padded}
use Rattle.lists.specs.Options.{as_option}
use Rattle.lists.specs.laws.Bools.{is-some, not_some}
use Rattle.rules_box.specs.State.{Live, Side}
use Rattle.rules_box.specs.Turn.{finish, is_late, older, survives, aged}
use Rattle.rules_box.specs.laws.Fit.{FitSide, FitLive}
use Rattle.memory_plan.specs.View.{Owner}
use Rattle.memory_run.specs.Run.{word_of, live_word, live_time, row_of}
use Rattle.run_turns.specs.Turns.{late_of}
use Rattle.memory_run.specs.laws.Words.{eight}
use Rattle.memory_run.specs.laws.RowWords.{time-stored, live-word-at, live-time-at, live-is}
use Rattle.run_turns.proofs.Words.{late-told, young-told, older-time}

module _ (m : Owner) (s : Side) (f : FitSide s) (row : List ℕ) (is : row ≡ row_of m s) where
  -- lateness: nothing is live, what is live ends, it is one time-code older
  live-one : (get_or row 11 0 ≡ 0 → ⊥) → (l : Live) × (s.live ≡ some l)
  live-one n = is-some s.live (sym (live-is m s f row is) ∙ rw (ne_eqb (get_or row 11 0) 0 n))

  pub ages-none : (q : Bool) → get_or row 11 0 ≡ 0 → (None ≡ as_option (late_of q m s.live)) × (row ≡ row_of m (aged q s))
  unfolding late_of row_of aged survives
  ages-none q h =
      let e = not_some s.live (sym (live-is m s f row is) ∙ rw (eq-eqb (get_or row 11 0) 0 h)) in
      (rw e, is ∙ rw e)

  module _ (q b : Bool) (n : get_or row 11 0 ≡ 0 → ⊥) (told : (l : Live) → FitLive l → get_or row 11 0 ≡ live_time (some l) → b ≡ is_late q l) where
    at_one : (l : Live) → s.live ≡ some l → get_or row 11 0 ≡ live_time (some l)
    at_one l e = live-time-at m s f row is ∙ ap live_time e

    pub ages-late : b ≡ true → (x : List ℕ) → x ≡ row_of m (finish s) → (Some (get_or row 10 0) ≡ as_option (late_of q m s.live)) × (x ≡ row_of m (aged q s))
    unfolding row_of aged finish live_word
    ages-late h x ex =
        let (l, e) = live-one n in
        let (a, v) = late-told q m s.live l e (sym (told l (f.live l e) (at_one l e)) ∙ h) in
        let w : get_or row 10 0 ≡ word_of m l.request = live-word-at m s f row is ∙ ap (live_word m) e in
        (rw (w, a), ex ∙ rw v)

    pub ages-young : b ≡ false → (i : ℕ) → i ≡ get_or row 11 0 - 256 → (None ≡ as_option (late_of q m s.live)) × (set row 11 i ≡ row_of m (aged q s))
    unfolding row_of aged older live_word
    ages-young h i ei =
        let (l, e) = live-one n in
        let (a, v) = young-told q m s.live l e (sym (told l (f.live l e) (at_one l e)) ∙ h) in
        let j = older-time l (f.live l e) q (get_or row 11 0) (at_one l e) i ei in
        let w : live_word m s.live ≡ word_of m l.request = ap (live_word m) e in (
          rw a,
          ap (λ (x : List ℕ). set x 11 i) is
              ∙ ap (λ (x : List ℕ). s.next ∷ length s.line ∷ x) (time-stored (padded 8 0 (map (word_of m) s.line)) (live_word m s.live) (live_time s.live) i (eight m s f))
              ∙ rw (v, w, j),
        )
