-- The kinds of devices.
use Rattle.std.specs.Prelude.{◌≡◌, refl, ◌⊎◌, Bool, true, false, ◌&&◌, ◌||◌, ℕ, zero, suc, eqb}
use Rattle.std.proofs.Common.{sym, inl, inr, arith, eq-eqb}
use mathlib.Core.List.{Memᴰ}
use Rattle.std.proofs.Math.Bool.{or-true}
use Rattle.lists.specs.Search.{any}
use Rattle.lists.specs.laws.Bools.{both_true, true-both, either, same_test}
use Rattle.lists.specs.laws.Search.{any-elim, any-intro}
use Rattle.rules_plan.specs.Plan.{Device, Plan, device}
use Rattle.rules_plan.specs.Meaning.{is_device, has_kind}
use Rattle.rules_plan.specs.Judge.{out_of_range}
use Rattle.rules_plan.specs.Good.{Each}
use Rattle.rules_plan.specs.laws.Items.{device-in}
use Rattle.rules_plan.specs.laws.Ranges.{device-range}

-- a device in range is a node or a router
pub node-or-router : (p : Plan) → Each p out_of_range false → (n : ℕ) → is_device p n ≡ has_kind p 0 n || has_kind p 1 n
unfolding is_device has_kind
node-or-router p r n = same_test _ _ (λ h. let (d, m, e) = any-elim _ p.devices h in there d m e d.kind refl) (λ h. back (either _ _ h))
  where
    kind : ℕ → Device → Bool
    kind k d = eqb n d.num && eqb k d.kind

    has : (k : ℕ) (d : Device) → Memᴰ d p.devices → eqb n d.num ≡ true → d.kind ≡ k → any (kind k) p.devices ≡ true
    has k d m e g = any-intro (kind k) p.devices d m (true-both e (eq-eqb k d.kind (sym g)))

    there : (d : Device) → Memᴰ d p.devices → eqb n d.num ≡ true → (k : ℕ) → d.kind ≡ k → any (kind 0) p.devices || any (kind 1) p.devices ≡ true
    there d m e zero g = rw (has 0 d m e g)
    there d m e (suc zero) g = rw (has 1 d m e g) (or-true (any (kind 0) p.devices))
    there d m e (suc (suc k)) g = absurd (omega (arith, (device-range d (r (device d) (device-in p d m))).kind))

    one : (k : ℕ) → any (kind k) p.devices ≡ true → any (λ (d : Device). eqb n d.num) p.devices ≡ true
    one k h = let (d, m, e) = any-elim (kind k) p.devices h in any-intro _ p.devices d m (both_true (eqb n d.num) (eqb k d.kind) e).0

    back : (any (kind 0) p.devices ≡ true) ⊎ (any (kind 1) p.devices ≡ true) → any (λ (d : Device). eqb n d.num) p.devices ≡ true
    back (inl h) = one 0 h
    back (inr h) = one 1 h
