-- A transaction uses the links of its path and those of its reply's own way.
use Rattle.std.specs.Prelude.{◌≡◌, ◌↔◌, ◌⊎◌, List, true, ◌&&◌, ℕ, eqb}
use Rattle.std.proofs.Common.{inl, inr, eqb-true, eq-eqb}
use Rattle.std.proofs.Math.Bool.{or-true}
use Rattle.lists.specs.Search.{is_in}
use Rattle.lists.specs.laws.Bools.{both_true, true-both, either}
use Rattle.lists.specs.laws.Search.{any-elim, any-intro, is_in-elim, is_in-intro}
use Rattle.rules_plan.specs.Plan.{Route, Plan}
use Rattle.rules_plan.specs.Meaning.{leads_from, goes_over, uses}
use Rattle.rules_plan.specs.Promises.{OnRoute, OnPath}

pub goes_over_lem : (xs : List Route) (a b l : ℕ) → (goes_over xs a b l ≡ true) ↔ OnRoute xs a b l
unfolding leads_from
goes_over_lem xs a b l = (there, back)
  where
    there : goes_over xs a b l ≡ true → OnRoute xs a b l
    there h =
        let (x, m, g) = any-elim _ xs h in
        let (c, d) = both_true (eqb a x.start && eqb b x.end) (is_in l x.links) g in
        let (e, f) = both_true (eqb a x.start) (eqb b x.end) c in
        record { route = x; has = m; from = eqb-true _ _ e; to = eqb-true _ _ f; on = is_in-elim l x.links d }

    back : OnRoute xs a b l → goes_over xs a b l ≡ true
    back o =
        any-intro _ xs o.route o.has
        (true-both (true-both (eq-eqb _ _ o.from) (eq-eqb _ _ o.to)) (is_in-intro l o.route.links o.on))

pub on-path : (p : Plan) (i t l : ℕ) → (uses p i t l ≡ true) ↔ OnPath p i t l
unfolding uses
on-path p i t l = (λ h. there (either (goes_over p.paths i t l) (goes_over p.replies t i l) h), back)
  where
    there : (goes_over p.paths i t l ≡ true) ⊎ (goes_over p.replies t i l ≡ true) → OnPath p i t l
    there (inl h) = inl ((goes_over_lem p.paths i t l).0 h)
    there (inr h) = inr ((goes_over_lem p.replies t i l).0 h)

    back : OnPath p i t l → uses p i t l ≡ true
    back (inl o) = rw ((goes_over_lem p.paths i t l).1 o)
    back (inr o) = rw ((goes_over_lem p.replies t i l).1 o) (or-true (goes_over p.paths i t l))
