-- The verdict on a whole file: it is 0 exactly when the fields give a plan with intervals and an entry, without overrun and without clash.
use Rattle.std.specs.Prelude.{◌≡◌, refl, List, Bool, true, false, ◌&&◌, ℕ, ◌≤◌, length, ltb}
use Rattle.std.proofs.Math.Option.{Option, none, some}
use Rattle.std.proofs.Common.{arith, ltb-false}
use Rattle.lists.specs.Search.{least}
use Rattle.lists.specs.laws.Bools.{none-some, when-some}
use Rattle.lists.specs.laws.Search.{least_first}
use Rattle.rules_plan.specs.declared.Verdict.{Verdict}
use Rattle.rules_plan.specs.declared.Verdict.TheVariants.{Overrun, Clash}
use Rattle.rules_plan.specs.Plan.{Entry, Plan, blank}
use Rattle.rules_plan.specs.Verdict.{number}
use Rattle.rules_plan.specs.Meaning.{is_at_work}
use Rattle.rules_plan.specs.Judge.{Reading, plan, fault, read_file, overrun, overrun_of, overrun_at, clash, clash_in, clash_of, clash_with, clash_on, counts, whole_plan, judge}
use Rattle.rules_plan.specs.Canon.{given}
use Rattle.rules_plan.specs.Words.{Complete}
use Rattle.rules_plan.specs.laws.Faults.{read-fault}
use Rattle.rules_plan.specs.laws.Verdicts.{Decided, by-12, by-15, by-13, by-14, by-none, whole-decided, decides}

-- a file that gives the plan p and no verdict from 1 to 15
pub record Clean (s : List ℕ) (p : Plan) : Type 0 where
  pub short : length s ≤ 16_384
  pub reads : read_file s ≡ plan p
  pub complete : Complete p
  pub no-overrun : overrun p.entries ≡ none
  pub no-clash : clash p p.entries ≡ none

-- the numbers of what the searches find
found-least : {A : Type 0} (P : A → Type 0) (f : ℕ → Option A) → ((n : ℕ) (r : A) → f n ≡ some r → P r) → (r : A) → least f ≡ some r → P r
found-least P f h r e = let z = least_first f r e in h z.at r z.here

overrun-number : (es : List Entry) (v : Verdict) → overrun es ≡ some v → number v ≡ 13
unfolding overrun overrun_of overrun_at number
overrun-number es = found-least (λ v. number v ≡ 13) (overrun_of es) (λ i. found-least (λ v. number v ≡ 13) (overrun_at es i) (λ s v e. rw (← (when-some _ (Overrun i s) v e).1)))

clash-number : (p : Plan) (es : List Entry) (v : Verdict) → clash p es ≡ some v → number v ≡ 14
unfolding clash clash_in clash_of clash_with clash_on number
clash-number p es = found-least Is (clash_in p es) (λ s. found-least Is (clash_of p es s) (λ i. in-slot s i (is_at_work es s i) refl))
  where
    Is : Verdict → Type 0
    Is v = number v ≡ 14

    between : (s i j : ℕ) (b : Bool) → ltb i j && is_at_work es s j ≡ b → (v : Verdict) → clash_with p es s i j ≡ some v → Is v
    between s i j false e v h = none-some (rw (e, clash_with) at h)
    between s i j true e v h = found-least Is (clash_on p es s i j) (λ l w g. rw (← (when-some _ (Clash s i j l) w g).1)) v (rw (e, clash_with) at h)

    in-slot : (s i : ℕ) (b : Bool) → is_at_work es s i ≡ b → (v : Verdict) → clash_of p es s i ≡ some v → Is v
    in-slot s i false e v h = none-some (rw (e, clash_of) at h)
    in-slot s i true e v h = found-least Is (clash_with p es s i) (λ j. between s i j (ltb i j && is_at_work es s j) refl) v (rw (e, clash_of) at h)

clean-whole : (s : List ℕ) (p : Plan) → length s ≤ 16_384 → read_file s ≡ plan p → number (whole_plan s p) ≡ 0 → Clean s p
unfolding number
clean-whole s p l r h = go (whole-decided s p) h
  where
    go : {v : Verdict} → Decided s p v → number v ≡ 0 → Clean s p
    go (by-12 e) z = absurd (omega (arith, z))
    go (by-15 t e) z = absurd (omega (arith, z))
    go (by-13 c {v} o) z = absurd (omega (arith, z, overrun-number p.entries v o))
    go (by-14 c n {v} o) z = absurd (omega (arith, z, clash-number p p.entries v o))
    go (by-none c n m) z = record { short = l; reads = r; complete = c; no-overrun = n; no-clash = m }

pub given-plan : (s : List ℕ) (p : Plan) → read_file s ≡ plan p → given s ≡ p
unfolding given
given-plan s p h = rw (h, given)

-- an accepted file is clean
pub accepted-clean : (s : List ℕ) → number (judge s) ≡ 0 → Clean s (given s)
unfolding judge number read_file
accepted-clean s h = go (ltb 16_384 (length s)) refl (read_file s) refl
  where
    go : (x : Bool) → ltb 16_384 (length s) ≡ x → (r : Reading) → read_file s ≡ r → Clean s (given s)
    go true e r f = let z : ◌≡◌ {A = ℕ} 1 0 = rw (e, judge) at h in absurd (omega arith)
    go false e (fault n at) f = let z : n ≡ 0 = rw (e, f, judge) at h in absurd (omega (arith, (read-fault (length s) s 0 0 blank n at f).0))
    go false e (plan p) f = rw (given-plan s p f) (clean-whole s p (ltb-false 16_384 (length s) e) f (rw (e, f, judge) at h))

-- a clean file is accepted, with the counts of its plan
pub clean-counts : (s : List ℕ) (p : Plan) → Clean s p → judge s ≡ counts p
clean-counts s p c = decides s c.short p c.reads (by-none c.complete c.no-overrun c.no-clash)
