-- What the cells tell of the entries of a sound plan, and how long a span a transaction needs.
use mathlib.Core.Path.{◌≡◌, refl, sym, ap, ◌∙◌}
use mathlib.Core.List.{List}
use mathlib.Core.Option.{Option, none, some}
use mathlib.Core.Logic.{◌≢◌}
use mathlib.Core.Bool.{Bool, true, false, and-false}
use Prim.Native.Nat.{ℕ, ◌+◌, ◌*◌, ◌/◌, ◌≤◌, ◌<◌}
use native.Mathlib.Nat.{mul-le-mul_right}
use native.Mathlib.Omega.{arith}
use lib.Dec.{leb, eqb}
use mir.Val.{bool_byte}
use borrow.Author.Tests.{le-leb, lt-leb, eqb-true, eqb-false, eq-eqb, ne_eqb}
use Rattle.lists.specs.Numbers.{first_from}
use Rattle.lists.specs.Place.{at_place}
use Rattle.lists.specs.laws.At.{at_none}
use Rattle.lists.specs.laws.Sweep.{first-here, first-none}
use Rattle.rules_plan.specs.Plan.{nth, Entry, Plan}
use Rattle.rules_plan.specs.Meaning.{initiators, entry_at}
use Rattle.rules_plan.specs.laws.Sound.{Sound}
use Rattle.rules_plan.specs.laws.Runs.{entry-at}
use Rattle.memory_plan.specs.Memory.{of_row, span_of, spans_of, aim_of, aims_of, rate_in, slot_in, cost_in}
use Rattle.memory_plan.specs.Spans.{Halved, fits_in_words, least_in_words}
use Rattle.memory_plan.specs.laws.InRows.{of_row_lem, of-no-row, span-cell, aim-cell}

module _ (p : Plan) (ok : Sound p) where
  -- no row from the eighth on, and no entry stands at a slot from the 64th on
  past-rows : (g : Option Entry → ℕ) (r v : ℕ) → 8 ≤ r → 0 ≡ of_row p r (λ (i : ℕ). g (entry_at p.entries i v))
  past-rows g r v h = sym (of-no-row p r _ (at_none (initiators p) r (omega (arith, ok.eight))))

  no-entry : (i v : ℕ) → 64 ≤ v → (o : Option Entry) → entry_at p.entries i v ≡ o → o ≡ none
  no-entry i v h none q = refl
  no-entry i v h (some e) q = let s = entry-at p.entries i v e q in absurd (omega (arith, ok.slots e s.has, s.slot))

  past-slots : (g : Option Entry → ℕ) → g none ≡ 0 → (r v : ℕ) → 64 ≤ v → 0 ≡ of_row p r (λ (i : ℕ). g (entry_at p.entries i v))
  past-slots g z r v h = go (at_place r (initiators p)) refl
    where
      go : (o : Option ℕ) → at_place r (initiators p) ≡ o → 0 ≡ of_row p r (λ (i : ℕ). g (entry_at p.entries i v))
      go none e = sym (of-no-row p r _ e)
      go (some i) e = sym (of_row_lem p r i _ e ∙ ap g (no-entry i v h (entry_at p.entries i v) refl) ∙ z)

  module _ (r v : ℕ) where
    pub span-past-rows : 8 ≤ r → 0 ≡ of_row p r (λ (i : ℕ). span_of (entry_at p.entries i v))
    span-past-rows = past-rows span_of r v

    pub span-past-slots : 64 ≤ v → 0 ≡ of_row p r (λ (i : ℕ). span_of (entry_at p.entries i v))
    unfolding span_of
    span-past-slots = past-slots span_of refl r v

    pub aim-past-rows : 8 ≤ r → 0 ≡ of_row p r (λ (i : ℕ). aim_of (entry_at p.entries i v))
    aim-past-rows = past-rows aim_of r v

    pub aim-past-slots : 64 ≤ v → 0 ≡ of_row p r (λ (i : ℕ). aim_of (entry_at p.entries i v))
    unfolding aim_of
    aim-past-slots = past-slots aim_of refl r v

    pub span-told : r < 8 → v < 64 → (spans : List ℕ) → spans ≡ spans_of p → nth spans (r * 64 + v) ≡ of_row p r (λ (i : ℕ). span_of (entry_at p.entries i v))
    span-told h g spans is = rw is (span-cell p r v h g)

    pub aim-told : r < 8 → v < 64 → (aims : List ℕ) → aims ≡ aims_of p → nth aims (r * 64 + v) ≡ of_row p r (λ (i : ℕ). aim_of (entry_at p.entries i v))
    aim-told h g aims is = rw is (aim-cell p r v h g)

-- without times: by how long the transaction is
module _ (n : ℕ) where
  pub least-within : n ≤ 4096 → (n + 255) / 256 + bool_byte (eqb n 0) ≡ first_from 16 1 (λ (k : ℕ). leb n (256 * k))
  least-within h = go (eqb n 0) refl
    where
      go : (x : Bool) → eqb n 0 ≡ x → (n + 255) / 256 + bool_byte x ≡ first_from 16 1 (λ (k : ℕ). leb n (256 * k))
      go true e =
          let z = eqb-true n 0 e in
          let one : (n + 255) / 256 + 1 ≡ 1 = omega arith in
          one ∙ first-here 16 1 _ 1 (omega arith) (omega arith) (le-leb n (256 * 1) (omega arith)) (λ m low high. absurd (omega arith))
      go false e =
          let d = eqb-false n 0 e in
          let k = (n + 255) / 256 in
          let same : k + 0 ≡ k = omega arith in
          same ∙ first-here 16 1 _ k (omega arith) (omega arith) (le-leb n (256 * k) (omega arith)) (λ m low high. lt-leb n (256 * m) (omega arith))

-- with times: by the slots that the need takes
module _ (need slot : ℕ) where
  pub too_few : 16 * slot < need → 17 ≡ first_from 16 1 (λ (k : ℕ). leb need (k * slot))
  too_few h = first-none 16 1 _ 17 refl (λ m low high. lt-leb need (m * slot) (omega (arith, mul-le-mul_right {m = m} {n = 16} slot (omega arith))))

  pub just_enough : (k : ℕ) → k ≤ 15 → k * slot < need → need ≤ (k + 1) * slot → k + 1 ≡ first_from 16 1 (λ (k : ℕ). leb need (k * slot))
  just_enough k h low high =
      first-here 16 1 _ (k + 1) (omega arith) (omega arith) (le-leb need ((k + 1) * slot) high)
      (λ m _ l. lt-leb need (m * slot) (omega (arith, mul-le-mul_right {m = m} {n = k} slot (omega arith))))

  pub one-enough : 0 < need → need ≤ slot → 1 ≡ first_from 16 1 (λ (k : ℕ). leb need (k * slot))
  one-enough more h = just_enough 0 (omega arith) (omega arith) (omega arith)

-- by halves from 16
pub by-halves : (need slot a b c d : ℕ) → 0 < need → need ≤ 16 * slot → Halved need slot 0 8 a → Halved need slot a 4 b → Halved need slot b 2 c → Halved need slot c 1 d
    → d + 1 ≡ first_from 16 1 (λ (k : ℕ). leb need (k * slot))
by-halves need slot a b c d more most e f g h =
    let i = e.1 (omega arith) most in
    let j = f.1 i.0 i.1 in
    let l = g.1 j.0 j.1 in
    let m = h.1 l.0 l.1 in
    just_enough need slot d (omega (arith, e.0, f.0, g.0, h.0)) m.0 m.1

-- what the words say, case by case
module _ (numbers : List ℕ) (row t n : ℕ) where
  pub words-untimed : rate_in numbers ≡ 0 → first_from 16 1 (λ (k : ℕ). leb n (256 * k)) ≡ least_in_words numbers row t n
  unfolding least_in_words fits_in_words
  words-untimed z = rw (eq-eqb (rate_in numbers) 0 z, fits_in_words)

  pub words_long : 4096 < n → 17 ≡ least_in_words numbers row t n
  unfolding least_in_words fits_in_words
  words_long h = first-none 16 1 _ 17 refl (λ k low high. too_long k high (eqb (rate_in numbers) 0) refl)
    where
      too_long : (k : ℕ) → k < 17 → (x : Bool) → eqb (rate_in numbers) 0 ≡ x → fits_in_words numbers row t n k ≡ false
      too_long k high true e = rw (e, fits_in_words) (lt-leb n (256 * k) (omega arith))
      too_long k high false e = rw (e, fits_in_words, lt-leb n 4096 h)

  module _ (timed : rate_in numbers ≢ 0) where
    pub words-no-path : cost_in numbers row t ≡ 0 → 17 ≡ least_in_words numbers row t n
    unfolding least_in_words fits_in_words
    words-no-path h = first-none 16 1 _ 17 refl (λ m low high. rw (ne_eqb (rate_in numbers) 0 timed, fits_in_words, eq-eqb (cost_in numbers row t) 0 h, and-false (leb n 4096)))

    pub words-timed : n ≤ 4096 → cost_in numbers row t ≢ 0 → first_from 16 1 (λ (k : ℕ). leb (10_000 * (n + 1) + cost_in numbers row t) (k * slot_in numbers)) ≡ least_in_words numbers row t n
    unfolding least_in_words fits_in_words
    words-timed h c = rw (ne_eqb (rate_in numbers) 0 timed, fits_in_words, le-leb n 4096 h, ne_eqb (cost_in numbers row t) 0 c)
