-- The words of a row: what each tells, and the row with another live transaction.
use Rattle.std.specs.Prelude.{◌≡◌, refl, not, replicate, eqb}
use Rattle.std.proofs.Common.{sym, ◌∙◌, length-append, ne_eqb}
use Rattle.std.proofs.Math.Path.{ap, ap₂}
use mathlib.Core.List.{List, [], ◌∷◌, ◌++◌, map, append_assoc}
use Rattle.std.proofs.Math.Option.{Option, none, some}
use Prim.Native.Nat.{ℕ, suc, ◌+◌, ◌-◌, ◌*◌}
use native.Mathlib.Omega.{arith}
use Rattle.std.proofs.Math.ListN.{length, get_or, set}
use Rattle.std.proofs.lemmas.List.{set_at}
use Rattle.lists.specs.Search.{is_some}
use Rattle.lists.specs.Place.{at_place}
use Rattle.lists.specs.Cells.{padded}
use Rattle.lists.specs.laws.Lines.{map_at}
use Rattle.memory_plan.specs.View.{Owner}
use Rattle.rules_box.specs.State.{Request, Live, Side}
use Rattle.rules_box.specs.laws.Fit.{FitSide, FitLive}
use Rattle.memory_run.specs.Run.{swapped, word_of, target_in, number_in, length_in, live_word, live_time, row_of}
use Rattle.memory_run.specs.Row.{live_request}
use Rattle.memory_run.specs.laws.Words.{Apart, apart, eight, live-word-in, live-time-in}

live-apart : (i : Owner) (o : Option Live) → ((l : Live) → o ≡ some l → FitLive l) → Apart (live_word i o) (live_request o)
unfolding live_word live_request swapped target_in number_in length_in
live-apart i none f = record { kind = refl; target = refl; number = refl; length = refl }
live-apart i (some l) f = apart i l.request (f l refl).request

-- a live transaction's time is never 0
live-told : (o : Option Live) → ((l : Live) → o ≡ some l → FitLive l) → not (eqb (live_time o) 0) ≡ is_some o
unfolding live_time is_some
live-told none f = refl
live-told (some l) f = let g = f l refl in rw (ne_eqb ((l.span - l.age) * 256 + l.span) 0 (λ e. omega (arith, g.young)))

-- two words at the end of eight
pub time-stored : (q : List ℕ) (a b t : ℕ) → length q ≡ 8 → set (q ++ (a ∷ b ∷ [])) 9 t ≡ q ++ (a ∷ t ∷ [])
time-stored q a b t e =
    ap (λ (l : List ℕ). set l 9 t) (sym (append_assoc q (a ∷ []) (b ∷ [])))
    ∙ set_at (q ++ (a ∷ [])) b [] t 9 (omega (arith, length-append q (a ∷ [])))
    ∙ append_assoc q (a ∷ []) (t ∷ [])

live-stored : (q : List ℕ) (a b w t : ℕ) → length q ≡ 8 → set (set (q ++ (a ∷ b ∷ [])) 8 w) 9 t ≡ q ++ (w ∷ t ∷ [])
live-stored q a b w t e = ap (λ (l : List ℕ). set l 9 t) (set_at q a (b ∷ []) w 8 e) ∙ time-stored q w b t e

module _ (i : Owner) (s : Side) (f : FitSide s) (row : List ℕ) (is : row ≡ row_of i s) where
  words : List ℕ
  words = map (word_of i) s.line

  rest : List ℕ
  rest = live_word i s.live ∷ live_time s.live ∷ []

  -- each word of the row
  pub next-at : get_or row 0 0 ≡ s.next
  unfolding row_of
  next-at = ap (λ (l : List ℕ). get_or l 0 0) is

  pub count_at : get_or row 1 0 ≡ length s.line
  unfolding row_of
  count_at = ap (λ (l : List ℕ). get_or l 1 0) is

  pub place_at : (k : ℕ) (r : Request) → at_place k s.line ≡ some r → get_or row (k + 2) 0 ≡ word_of i r
  unfolding row_of padded words rest
  place_at k r h =
      let e : k + 2 ≡ suc (suc k) = omega arith in
      ap₂ (λ (l : List ℕ) (j : ℕ). get_or l j 0) is e
      ∙ ap (λ (l : List ℕ). get_or l k 0) (append_assoc words (replicate (8 - length words) 0) rest)
      ∙ map_at (word_of i) 0 k s.line (replicate (8 - length words) 0 ++ rest) r h

  pub live-word-at : get_or row 10 0 ≡ live_word i s.live
  live-word-at = ap (λ (l : List ℕ). get_or l 10 0) is ∙ live-word-in i s f

  pub live-time-at : get_or row 11 0 ≡ live_time s.live
  live-time-at = ap (λ (l : List ℕ). get_or l 11 0) is ∙ live-time-in i s f

  pub live-parts : Apart (get_or row 10 0) (live_request s.live)
  live-parts = rw live-word-at (live-apart i s.live f.live)

  pub live-is : not (eqb (get_or row 11 0) 0) ≡ is_some s.live
  live-is = rw live-time-at (live-told s.live f.live)

  -- what is live is another
  pub live-set : (w t : ℕ) → set (set row 10 w) 11 t ≡ s.next ∷ length s.line ∷ padded 8 0 (map (word_of i) s.line) ++ (w ∷ t ∷ [])
  unfolding row_of words
  live-set w t =
      ap (λ (l : List ℕ). set (set l 10 w) 11 t) is
      ∙ ap (λ (l : List ℕ). s.next ∷ length s.line ∷ l) (live-stored (padded 8 0 words) (live_word i s.live) (live_time s.live) w t (eight i s f))
