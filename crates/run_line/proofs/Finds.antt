-- The search of the line, place by place: what was passed, and what is found.
use Rattle.std.proofs.Common.{◌≡◌, ℕ, ◌+◌, ◌<◌, ◌≤◌, Bool, true, false, eqb, List, length, get_or, sym, refl, ap, ◌∙◌, arith, ne_eqb}
use mathlib.Core.Option.{Option, none, some}
use mathlib.Core.Logic.{by_cases}
use native.Mathlib.Decide.{dec_lt}
use Rattle.lists.specs.Place.{Found, first}
use Rattle.lists.specs.laws.Bools.{not-both}
use Rattle.lists.specs.laws.At.{at-member}
use Rattle.lists.specs.laws.Place.{first_some_lem}
use Rattle.lists.specs.laws.Lines.{Passed, placed, first-at, first-none}
use Rattle.rules_plan.specs.Plan.{Entry}
use Rattle.rules_box.specs.State.{Request, Side}
use Rattle.rules_box.specs.Turn.{allows}
use Rattle.rules_box.specs.laws.Fit.{FitSide, FitRequest}
use Rattle.memory_plan.specs.View.{place_or, Owner, Tells}
use Rattle.memory_run.specs.Run.{row_of, word_of}
use Rattle.memory_run.specs.laws.RowWords.{count_at, place_at}

-- none before place i is permitted
abbrev pub Sought : List ℕ → ℕ → ℕ → ℕ → Type 0
Sought row targets span i = (n : Owner) (s : Side) → FitSide s → row ≡ row_of n s → (e : Entry) → Tells n targets span e → Passed (allows n.plan e) s.line i

-- the answer for one word
abbrev pub Says : ℕ → ℕ → ℕ → Bool → Type 0
Says word targets span b = (n : Owner) (e : Entry) (r : Request) → Tells n targets span e → FitRequest r → word ≡ word_of n r → b ≡ allows n.plan e r

abbrev pub Finds : List ℕ → ℕ → ℕ → ℕ → Type 0
Finds row targets span i =
    (n : Owner) (s : Side) → FitSide s → row ≡ row_of n s → (e : Entry) → Tells n targets span e → i ≡ place_or 8 (first (allows n.plan e) s.line)

-- whether what is found is the oldest of all
abbrev pub FindsOldest : List ℕ → ℕ → ℕ → Bool → Type 0
FindsOldest row targets span b =
    (n : Owner) (s : Side) → FitSide s → row ≡ row_of n s → (e : Entry) → Tells n targets span e → b ≡ eqb (place_or 8 (first (allows n.plan e) s.line)) 0

module _ (row : List ℕ) (targets span : ℕ) where
  pub seek-begin : Sought row targets span 0
  seek-begin n s f is e t k r h = absurd (omega arith)

  -- each word before place i told apart
  pub seek-passed : (i : ℕ) → ((k : ℕ) → k < i → Says (get_or row (k + 2) 0) targets span false) → Sought row targets span i
  seek-passed i no' n s f is e t k r h at = sym (no' k h n e r t (f.line r (at-member s.line k r at)) (place_at n s f row is k r at))

  module _ (i : ℕ) (before : Sought row targets span i) where
    pub seek-next : (b : Bool) → Says (get_or row (i + 2) 0) targets span b → b ≡ false → Sought row targets span (i + 1)
    seek-next b says no' n s f is e t k r h at =
        by_cases (dec_lt k i) (λ l. before n s f is e t k r l at) (λ l. here (omega arith))
      where
        here : k ≡ i → allows n.plan e r ≡ false
        here z = sym (says n e r t (f.line r (at-member s.line k r at)) (rw (← z) (place_at n s f row is k r at))) ∙ no'

    pub seek_found : (b : Bool) → Says (get_or row (i + 2) 0) targets span b → b ≡ true → i < get_or row 1 0 → Finds row targets span i
    unfolding place_or
    seek_found b says yes' l n s f is e t =
        let (r, at) = placed i s.line (omega (arith, count_at n s f row is)) in
        let y = sym (says n e r t (f.line r (at-member s.line i r at)) (place_at n s f row is i r at)) ∙ yes' in
        rw (first-at (allows n.plan e) s.line i r (before n s f is e t) at y)

    pub seek-none : ((n : Owner) (s : Side) → FitSide s → row ≡ row_of n s → length s.line ≤ i) → Finds row targets span 8
    unfolding place_or
    seek-none all n s f is e t = rw (first-none (allows n.plan e) s.line i (before n s f is e t) (all n s f is))

  -- the oldest of all, by itself
  pub oldest-none : get_or row 1 0 ≡ 0 → FindsOldest row targets span false
  oldest-none z n s f is e t =
      ap (λ (i : ℕ). eqb i 0) (seek-none 0 seek-begin (λ m w g at. omega (arith, count_at m w g row at)) n s f is e t)

  pub oldest-told : (b : Bool) → Says (get_or row 2 0) targets span b → 0 < get_or row 1 0 → FindsOldest row targets span b
  unfolding place_or
  oldest-told true says l n s f is e t = ap (λ (i : ℕ). eqb i 0) (seek_found 0 seek-begin true says refl l n s f is e t)
  oldest-told false says l n s f is e t = by (first (allows n.plan e) s.line) refl
    where
      by : (o : Option (Found Request)) → first (allows n.plan e) s.line ≡ o → false ≡ eqb (place_or 8 o) 0
      by none q = refl
      by (some g) q =
          let (at, yes') = first_some_lem (allows n.plan e) s.line g q in
          sym (ne_eqb g.place 0 (λ z. not-both yes' (seek-next 0 seek-begin false says refl n s f is e t g.place g.what (omega arith) at)))
