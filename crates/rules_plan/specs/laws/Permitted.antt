-- A request that the plan permits: the entry that does, and that its length and its target are within document 01's bounds.
use Rattle.std.specs.Prelude.{◌≡◌, true, false, ℕ, ◌≤◌, eqb}
use Rattle.std.proofs.Common.{sym, arith, eqb-true}
use mathlib.Core.List.{List, Memᴰ}
use Rattle.lists.specs.laws.Bools.{both_true, never_true}
use Rattle.lists.specs.laws.Search.{any-elim}
use Rattle.rules_plan.specs.Plan.{Entry, Plan}
use Rattle.rules_plan.specs.Meaning.{permits, may_start}
use Rattle.rules_plan.specs.laws.Sound.{Sound}
use Rattle.rules_plan.specs.laws.Runs.{permits-short, permits-target}

pub permitted-by : (p : Plan) (es : List Entry) (i t n : ℕ) → may_start p es i t n ≡ true
    → (e : Entry) × Memᴰ e es × (e.initiator ≡ i) × (permits p e t n ≡ true)
unfolding may_start
permitted-by p es i t n h =
    let (e, m, g) = any-elim _ es h in
    let a = both_true (eqb i e.initiator) (permits p e t n) g in
    (e, m, sym (eqb-true i e.initiator a.0), a.1)

pub permitted-short : (p : Plan) → Sound p → (i t n : ℕ) → may_start p p.entries i t n ≡ true → n ≤ 4096
permitted-short p ok i t n h = let (e, m, own, fit) = permitted-by p p.entries i t n h in permits-short p ok e m t n fit

-- no entry has a target over 63
pub never-beyond : (p : Plan) → Sound p → (i t n : ℕ) → 64 ≤ t → may_start p p.entries i t n ≡ false
never-beyond p ok i t n beyond =
    never_true _ (λ h. let (e, m, own, fit) = permitted-by p p.entries i t n h in absurd (omega (arith, ok.targets e m t (permits-target p e t n fit))))
