-- A verdict on a file can be told from its numbers: none of them is cut, and the number of a fault in the file is neither 0 nor 13 nor 14.
use Rattle.std.specs.Prelude.{◌≡◌, ◌≢◌, List, Bool, ◌&&◌, ℕ, ◌≤◌, ◌<◌, length}
use Rattle.std.proofs.Math.Path.{refl}
use Rattle.std.proofs.Common.{sym, ap, ◌∙◌}
use Rattle.std.proofs.Math.Option.{Option, none, some}
use Rattle.std.proofs.Math.Bool.{true, false}
use native.Mathlib.Omega.{arith}
use Rattle.std.proofs.Math.Dec.{ltb}
use borrow.Author.Tests.{ltb-true, ltb-false}
use Rattle.lists.specs.Cells.{padded}
use Rattle.lists.specs.laws.Bools.{none-some, when-some}
use Rattle.lists.specs.laws.Search.{least_first}
use Rattle.rules_plan.specs.declared.Verdict.{Verdict}
use Rattle.rules_plan.specs.declared.Verdict.TheVariants.{Accepted, Faulty, Overrun, Clash}
use Rattle.rules_plan.specs.Plan.{Entry, Plan, blank}
use Rattle.rules_plan.specs.Meaning.{is_at_work}
use Rattle.rules_plan.specs.Verdict.{number, place}
use Rattle.rules_plan.specs.Judge.{Reading, plan, fault, read_file, overrun_at, overrun_of, overrun, clash_on, clash_with, clash_of, clash_in, clash, counts, judge}
use Rattle.rules_plan.specs.laws.Faults.{read-fault}
use Rattle.rules_plan.specs.laws.Whole.{Clean}
use Rattle.rules_plan.specs.laws.Accepted.{clean-good}
use Rattle.rules_plan.specs.laws.Size.{most-devices, most-links, most-entries}
use Rattle.rules_plan.specs.laws.Verdicts.{Decided, by-12, by-15, by-13, by-14, by-none, too_long, field-faulty, decided}
use Rattle.c_numbers.specs.Numbers.{verdict_numbers, verdict_of}
use Rattle.c_numbers.specs.laws.Verdicts.{accepted, overran, clashed, faulty}

-- its numbers have the widths that a verdict has for them
unfoldable Narrow : Verdict → Type 0
Narrow (Accepted d l p e) = (d < 256) × (l < 256) × (p < 256) × (e < 65_536)
Narrow (Faulty n at) = (n ≢ 0) × (n ≢ 13) × (n ≢ 14) × (n < 256) × (at < 65_536)
Narrow (Overrun i s) = (i < 256) × (s < 256)
Narrow (Clash s i j l) = (s < 256) × (i < 256) × (j < 256) × (l < 256)

narrow_back : (v : Verdict) → Narrow v → verdict_of (verdict_numbers v) ≡ v
unfolding Narrow verdict_numbers padded number place
narrow_back (Accepted d l p e) (a, b, c, f) = sym (accepted (verdict_numbers (Accepted d l p e)) refl (omega arith) (omega arith) (omega arith) (omega arith))
narrow_back (Faulty n at) (a, b, c, d, f) = sym (faulty (verdict_numbers (Faulty n at)) a b c (omega arith) (omega arith))
narrow_back (Overrun i s) (a, b) = sym (overran (verdict_numbers (Overrun i s)) refl (omega arith) (omega arith))
narrow_back (Clash s i j l) (a, b, c, f) = sym (clashed (verdict_numbers (Clash s i j l)) refl (omega arith) (omega arith) (omega arith) (omega arith))

-- behind a test
behind : {A : Type 0} (b : Bool) (o : Option A) {x : A} → elim b [ false ↦ none | true ↦ o ] ≡ some x → o ≡ some x
behind true o e = e
behind false o e = none-some e

-- what the searches find lies below 64
module _ (p : Plan) (es : List Entry) (v : Verdict) where
  overran-at : (i s : ℕ) → i < 64 → s < 64 → overrun_at es i s ≡ some v → Narrow v
  unfolding overrun_at Narrow
  overran-at i s a b e = rw (← (when-some _ _ v e).1) (omega arith, omega arith)

  overrun-narrow : overrun es ≡ some v → Narrow v
  unfolding overrun overrun_of
  overrun-narrow e =
      let a = least_first (overrun_of es) v e in
      let b = least_first (overrun_at es a.at) v a.here in
      overran-at a.at b.at a.within b.within b.here

  clashed-on : (s i j l : ℕ) → s < 64 → i < 64 → j < 64 → l < 64 → clash_on p es s i j l ≡ some v → Narrow v
  unfolding clash_on Narrow
  clashed-on s i j l a b c d e = rw (← (when-some _ _ v e).1) (omega arith, omega arith, omega arith, omega arith)

  clashed-with : (s i j : ℕ) → s < 64 → i < 64 → j < 64 → clash_with p es s i j ≡ some v → Narrow v
  unfolding clash_with
  clashed-with s i j a b c e =
      let d = least_first (clash_on p es s i j) v (behind (ltb i j && is_at_work es s j) _ e) in
      clashed-on s i j d.at a b c d.within d.here

  clashed-of : (s i : ℕ) → s < 64 → i < 64 → clash_of p es s i ≡ some v → Narrow v
  unfolding clash_of
  clashed-of s i a b e =
      let c = least_first (clash_with p es s i) v (behind (is_at_work es s i) _ e) in
      clashed-with s i c.at a b c.within c.here

  clash-narrow : clash p es ≡ some v → Narrow v
  unfolding clash clash_in
  clash-narrow e =
      let a = least_first (clash_in p es) v e in
      let b = least_first (clash_of p es a.at) v a.here in
      clashed-of a.at b.at a.within b.within b.here

module _ (s : List ℕ) where
  counts-narrow : (p : Plan) → Clean s p → Narrow (counts p)
  unfolding counts Narrow
  counts-narrow p c =
      let good = clean-good s p c in
      (omega (arith, most-devices p good), omega (arith, most-links p good), omega (arith, good.most), omega (arith, most-entries p good))

  whole-narrow : length s ≤ 16_384 → (p : Plan) → read_file s ≡ plan p → Narrow (judge s)
  unfolding Narrow
  whole-narrow short p reads = go (decided s short p reads)
    where
      go : {v : Verdict} → Decided s p v → Narrow v
      go (by-12 e) = (λ z. omega arith, λ z. omega arith, λ z. omega arith, omega arith, omega arith)
      go (by-15 t e) = (λ z. omega arith, λ z. omega arith, λ z. omega arith, omega arith, omega arith)
      go (by-13 c {v} f) = overrun-narrow p p.entries v f
      go (by-14 c f {v} g) = clash-narrow p p.entries v g
      go (by-none c f g) = counts-narrow p (record { short = short; reads = reads; complete = c; no-overrun = f; no-clash = g })

  judge-narrow : Narrow (judge s)
  unfolding read_file Narrow
  judge-narrow = go (ltb 16_384 (length s)) refl (read_file s) refl
    where
      go : (x : Bool) → ltb 16_384 (length s) ≡ x → (r : Reading) → read_file s ≡ r → Narrow (judge s)
      go true e r f = rw (too_long s (ltb-true 16_384 (length s) e)) (λ z. omega arith, λ z. omega arith, λ z. omega arith, omega arith, omega arith)
      go false e (fault n at) f =
          let short = ltb-false 16_384 (length s) e in
          let h = read-fault (length s) s 0 0 blank n at f in
          rw (field-faulty s short n at f) (λ z. omega (arith, h.0), λ z. omega (arith, h.1), λ z. omega (arith, h.1), omega (arith, h.1), omega (arith, h.2))
      go false e (plan p) f = whole-narrow (ltb-false 16_384 (length s) e) p f

  pub judged : {ns : List ℕ} → ns ≡ verdict_numbers (judge s) → verdict_of ns ≡ judge s
  judged e = ap verdict_of e ∙ narrow_back (judge s) judge-narrow
