-- The verdict on a file, case by case in the order in which they are judged.
use Rattle.std.specs.Prelude.{◌≡◌, ◌≢◌, ℕ, ◌≤◌, ◌<◌, length}
use Rattle.std.proofs.Math.Path.{refl}
use Rattle.std.proofs.Common.{sym, ◌∙◌, lt-ltb, le-ltb}
use mathlib.Core.List.{List, [], ◌∷◌, cons≢nil}
use Rattle.std.proofs.Math.Option.{Option, none, some}
use Rattle.lists.specs.Search.{first_some}
use Rattle.rules_plan.specs.declared.Verdict.{Verdict}
use Rattle.rules_plan.specs.declared.Verdict.TheVariants.{Faulty}
use Rattle.rules_plan.specs.Plan.{Timing, Entry, Plan}
use Rattle.rules_plan.specs.Judge.{plan, fault, read_file, missing, no_timing, no_entry, overrun, clash, counts, whole_plan, judge}
use Rattle.rules_plan.specs.Words.{Complete}

-- which row decides on the plan of a whole file, and that none before it holds
pub data Decided (s : List ℕ) (p : Plan) : Verdict → Type 0 where
  by-12 : p.timings ≡ [] → Decided s p (Faulty 12 (length s))
  by-15 : p.timings ≢ [] → p.entries ≡ [] → Decided s p (Faulty 15 (length s))
  by-13 : Complete p → {v : Verdict} → overrun p.entries ≡ some v → Decided s p v
  by-14 : Complete p → overrun p.entries ≡ none → {v : Verdict} → clash p p.entries ≡ some v → Decided s p v
  by-none : Complete p → overrun p.entries ≡ none → clash p p.entries ≡ none → Decided s p (counts p)

module _ {A : Type 0} (n : ℕ) (s : List ℕ) where
  all-missing : (xs : List A) → xs ≡ [] → missing n s xs ≡ some (Faulty n (length s))
  unfolding missing
  all-missing xs e = rw e

  none-missing : (xs : List A) → xs ≢ [] → missing n s xs ≡ none
  unfolding missing
  none-missing [] h = absurd (h refl)
  none-missing (x ∷ xs) h = refl

module _ (s : List ℕ) (p : Plan) where
  has-timing : p.timings ≢ [] → no_timing s p ≡ none
  unfolding no_timing
  has-timing h = none-missing 12 s p.timings h

  has-entry : p.entries ≢ [] → no_entry s p ≡ none
  unfolding no_entry
  has-entry h = none-missing 15 s p.entries h

  whole_is : {v : Verdict} → Decided s p v → whole_plan s p ≡ v
  unfolding whole_plan first_some no_timing no_entry
  whole_is (by-12 e) = rw (all-missing 12 s p.timings e)
  whole_is (by-15 t e) = rw (has-timing t, all-missing 15 s p.entries e)
  whole_is (by-13 c o) = rw (has-timing c.timing, has-entry c.entry, o)
  whole_is (by-14 c n o) = rw (has-timing c.timing, has-entry c.entry, n, o)
  whole_is (by-none c n m) = rw (has-timing c.timing, has-entry c.entry, n, m)

  decided-so : {v : Verdict} → Decided s p v → Decided s p (whole_plan s p)
  decided-so d = rw (whole_is d) d

  -- some row does, or none
  pub whole-decided : Decided s p (whole_plan s p)
  whole-decided = go p.timings refl p.entries refl
    where
      searched : Complete p → (x : Option Verdict) → overrun p.entries ≡ x → (y : Option Verdict) → clash p p.entries ≡ y → Decided s p (whole_plan s p)
      searched c (some v) f y g = decided-so (by-13 c f)
      searched c none f (some v) g = decided-so (by-14 c f g)
      searched c none f none g = decided-so (by-none c f g)

      go : (ts : List Timing) → p.timings ≡ ts → (es : List Entry) → p.entries ≡ es → Decided s p (whole_plan s p)
      go [] a es b = decided-so (by-12 a)
      go (t ∷ ts) a [] b = decided-so (by-15 (λ z. cons≢nil (sym a ∙ z)) b)
      go (t ∷ ts) a (e ∷ es) b =
          searched (record { timing = λ z. cons≢nil (sym a ∙ z); entry = λ z. cons≢nil (sym b ∙ z) }) (overrun p.entries) refl (clash p p.entries) refl

module _ (s : List ℕ) where
  -- 1
  pub too_long : 16_384 < length s → judge s ≡ Faulty 1 0
  unfolding judge
  too_long h = rw (lt-ltb 16_384 (length s) h, judge)

  module _ (short : length s ≤ 16_384) where
    -- 2 to 11
    pub field-faulty : (n at : ℕ) → read_file s ≡ fault n at → judge s ≡ Faulty n at
    unfolding judge
    field-faulty n at h = rw (le-ltb 16_384 (length s) short, judge, h)

    -- 12, 15, 13, 14, and 0
    module _ (p : Plan) (reads : read_file s ≡ plan p) where
      of-whole : judge s ≡ whole_plan s p
      unfolding judge
      of-whole = rw (le-ltb 16_384 (length s) short, judge, reads)

      pub decides : {v : Verdict} → Decided s p v → judge s ≡ v
      decides d = of-whole ∙ whole_is s p d

      pub decided : Decided s p (judge s)
      decided = rw of-whole (whole-decided s p)
