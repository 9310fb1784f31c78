-- The plan with one path more: its initiators, and where there are paths.
use Rattle.std.specs.Prelude.{◌≡◌, refl, ◌≢◌, [], ◌∷◌, Bool, ◌||◌, ℕ, ◌<◌}
use Rattle.std.proofs.Math.Path.{ap}
use Rattle.std.proofs.Common.{◌∙◌, eq-eqb, ne_eqb, eqb-true}
use Rattle.std.proofs.Math.Bool.{true, false, or-false}
use Rattle.std.proofs.Math.Dec.{eqb}
use Rattle.lists.specs.Search.{any, below64}
use Rattle.lists.specs.laws.Search.{any_append, keep_same}
use Rattle.lists.specs.laws.Insert.{Inserted, inserted-number}
use Rattle.rules_plan.specs.Plan.{Route, Plan, path, grow}
use Rattle.rules_plan.specs.Meaning.{is_initiator, initiators, leads_from, has_path}

module _ (p : Plan) (x : Route) where
  pub grown-is_initiator : (n : ℕ) → is_initiator (grow p (path x)) n ≡ (is_initiator p n || eqb n x.start)
  unfolding is_initiator grow any
  grown-is_initiator n = any_append (λ (y : Route). eqb n y.start) p.paths (x ∷ []) ∙ ap (λ b. is_initiator p n || b) (or-false (eqb n x.start))

  pub grown-has_path : (j u : ℕ) → has_path (grow p (path x)) j u ≡ (has_path p j u || leads_from j u x)
  unfolding has_path grow any
  grown-has_path j u = any_append (leads_from j u) p.paths (x ∷ []) ∙ ap (λ b. has_path p j u || b) (or-false (leads_from j u x))

  -- from the path's initiator to one more target, from others as before
  pub own-has_path : (u : ℕ) → has_path (grow p (path x)) x.start u ≡ (has_path p x.start u || eqb u x.end)
  unfolding leads_from
  own-has_path u = grown-has_path x.start u ∙ (rw (eq-eqb x.start x.start refl))

  pub other-has_path : (j u : ℕ) → j ≢ x.start → has_path (grow p (path x)) j u ≡ has_path p j u
  unfolding leads_from
  other-has_path j u d = grown-has_path j u ∙ (rw (ne_eqb j x.start d) (or-false (has_path p j u)))

  -- the initiators: the same, or one more at its place
  pub kept-initiators : is_initiator p x.start ≡ true → initiators (grow p (path x)) ≡ initiators p
  unfolding initiators
  kept-initiators h = keep_same (is_initiator (grow p (path x))) (is_initiator p) below64 (λ n m. grown-is_initiator n ∙ by n (eqb n x.start) refl)
    where
      by : (n : ℕ) (b : Bool) → eqb n x.start ≡ b → is_initiator p n || b ≡ is_initiator p n
      by n true e = rw (eqb-true n x.start e, h)
      by n false e = or-false (is_initiator p n)

  pub one-initiator : x.start < 64 → is_initiator p x.start ≡ false
      → Inserted (λ n. n < x.start) (λ n. x.start < n) (initiators p) x.start (initiators (grow p (path x)))
  unfolding initiators
  one-initiator h e = inserted-number (is_initiator p) (is_initiator (grow p (path x))) x.start h e grown-is_initiator
