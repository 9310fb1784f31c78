-- Plans that differ in their orders only get one verdict on the whole: the same overrun, the same clash, the same counts.
use Rattle.std.specs.Prelude.{◌≡◌, List, ◌&&◌, ℕ, ltb}
use Rattle.std.proofs.Math.Path.{ap, ap₂, fun_ext}
use Rattle.std.proofs.Common.{◌∙◌}
use Rattle.std.proofs.Math.Option.{Option, none}
use Rattle.std.proofs.Math.Bool.{true, false}
use Rattle.lists.specs.Search.{when, least}
use Rattle.lists.specs.Order.{Shuffled}
use Rattle.lists.specs.laws.Search.{any_same}
use Rattle.lists.specs.laws.Shuffle.{shuffled-refl, shuffled-length, any-shuffled}
use Rattle.rules_plan.specs.declared.Verdict.{Verdict}
use Rattle.rules_plan.specs.declared.Verdict.TheVariants.{Overrun}
use Rattle.rules_plan.specs.Plan.{Entry, Plan}
use Rattle.rules_plan.specs.Meaning.{stands_at, overruns}
use Rattle.rules_plan.specs.Judge.{overrun_at, overrun_of, overrun, clash_on, clash_with, clash_of, clash_in, clash, counts}
use Rattle.rules_plan.specs.Canon.{SameEntry, SamePlan}
use Rattle.rules_plan.specs.laws.Same.{entry-refl, same-stands_at, same-is_at_work, same-overruns, same-may_use}

module _ {es fs : List Entry} (s : Shuffled SameEntry es fs) where
  same-overrun_at : (i v : ℕ) → overrun_at es i v ≡ overrun_at fs i v
  unfolding overrun_at
  same-overrun_at i v = ap (λ b. when b (Overrun i v)) (any_same _ _ es (λ e m. here e) ∙ any-shuffled _ there s)
    where
      here : (e : Entry) → stands_at i v e && overruns es e ≡ stands_at i v e && overruns fs e
      here e = rw (same-overruns s e e (entry-refl e))

      there : (e f : Entry) → SameEntry e f → stands_at i v e && overruns fs e ≡ stands_at i v f && overruns fs f
      there e f h = rw (same-stands_at i v e f h, same-overruns (shuffled-refl entry-refl fs) e f h)

  -- 13
  pub same-overrun : overrun es ≡ overrun fs
  unfolding overrun overrun_of
  same-overrun = ap least (fun_ext (λ i. ap least (fun_ext (same-overrun_at i))))

  -- 14
  module _ {p q : Plan} (h : SamePlan p q) where
    same-clash_on : (v i j l : ℕ) → clash_on p es v i j l ≡ clash_on q fs v i j l
    unfolding clash_on
    same-clash_on v i j l = rw (same-may_use s h v i l, same-may_use s h v j l)

    same-clash_with : (v i j : ℕ) → clash_with p es v i j ≡ clash_with q fs v i j
    unfolding clash_with
    same-clash_with v i j = ap₂ {C = Option Verdict} (λ b f. elim (ltb i j && b) [ false ↦ none | true ↦ least f ]) (same-is_at_work s v j) (fun_ext (same-clash_on v i j))

    same-clash_of : (v i : ℕ) → clash_of p es v i ≡ clash_of q fs v i
    unfolding clash_of
    same-clash_of v i = ap₂ {C = Option Verdict} (λ b f. elim b [ false ↦ none | true ↦ least f ]) (same-is_at_work s v i) (fun_ext (same-clash_with v i))

    pub same-clash : clash p es ≡ clash q fs
    unfolding clash clash_in
    same-clash = ap least (fun_ext (λ v. ap least (fun_ext (same-clash_of v))))

-- 0
pub same-counts : {p q : Plan} → SamePlan p q → counts p ≡ counts q
unfolding counts
same-counts s = rw (shuffled-length s.devices, shuffled-length s.links, shuffled-length s.paths, shuffled-length s.entries)
