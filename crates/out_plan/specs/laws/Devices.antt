-- The devices of a plan in canonical order: what its sets give number by number is their fields.
use Rattle.std.specs.Prelude.{◌≡◌, refl, Bool, ◌||◌, ℕ, zero, suc, ◌≤◌, ◌<◌, length}
use Rattle.std.proofs.Math.Path.{sym, ap, ap₂}
use Rattle.std.proofs.Common.{◌∙◌, arith, eqb-true}
use mathlib.Core.List.{List, [], ◌∷◌, ◌++◌, map, flat_map, Memᴰ}
use Rattle.std.proofs.Math.Bool.{cond}
use Rattle.std.proofs.Math.Dec.{eqb}
use Rattle.lists.specs.Search.{any, keep, below64}
use Rattle.lists.specs.Numbers.{digit}
use Rattle.lists.specs.laws.Search.{keep-elim, below64-range}
use Rattle.lists.specs.laws.Order.{flat-same, one_key}
use Rattle.lists.specs.laws.Kept.{any-kept}
use Rattle.lists.specs.laws.Flat.{flat-map, flat-order}
use Rattle.bitsets.specs.Set.{member, packed}
use Rattle.bitsets.specs.Packed.{member-packed-below}
use Rattle.rules_plan.specs.Plan.{Device, Plan, device}
use Rattle.rules_plan.specs.Fields.{tag_for, content_for, field_for}
use Rattle.rules_plan.specs.Meaning.{has_kind}
use Rattle.rules_plan.specs.Canon.{canonical}
use Rattle.rules_plan.specs.Good.{Good, same_device_number}
use Rattle.rules_plan.specs.laws.InRange.{device-ranged}
use Rattle.memory_plan.specs.Take.{device_item}
use Rattle.out_items.specs.Out.{device_bytes}

-- the field of a device
unfoldable device_field : Device → List ℕ
device_field d = field_for (device d)

-- the devices of number n, at most one of them, by their kinds
of_number : (n : ℕ) (ks : List Device) → length ks ≤ 1 → ((d : Device) → Memᴰ d ks → (d.num ≡ n) × (d.kind < 2))
    → cond (any (λ (d : Device). eqb 0 d.kind) ks || any (λ (d : Device). eqb 1 d.kind) ks) (field_for (device_item n (digit (any (λ (d : Device). eqb 1 d.kind) ks)))) []
    ≡ flat_map device_field ks
unfolding any digit flat_map device_field field_for tag_for content_for
of_number n [] l h = refl
of_number n (d ∷ []) l h = let (e, b) = h d (Memᴰ.head refl) in rw (← e) (go d.kind b)
  where
    go : (k : ℕ) → k < 2
        → cond (any (λ (x : ℕ). eqb 0 x) (k ∷ []) || any (λ (x : ℕ). eqb 1 x) (k ∷ [])) (1 ∷ 0 ∷ 2 ∷ d.num ∷ digit (any (λ (x : ℕ). eqb 1 x) (k ∷ [])) ∷ []) []
        ≡ (1 ∷ 0 ∷ 2 ∷ d.num ∷ k ∷ []) ++ []
    go zero b = refl
    go (suc zero) b = refl
    go (suc (suc k)) b = absurd (omega arith)
of_number n (d ∷ e ∷ ks) l h = absurd (omega arith)

module _ (p : Plan) (good : Good p) where
  numbered : ℕ → List Device
  numbered n = keep (λ (d : Device). eqb n d.num) p.devices

  kinds : (kind n : ℕ) → n < 64 → member n (packed (has_kind p kind)) ≡ any (λ (d : Device). eqb kind d.kind) (numbered n)
  unfolding has_kind numbered
  kinds kind n h = member-packed-below n (has_kind p kind) h ∙ any-kept (λ d. eqb n d.num) (λ d. eqb kind d.kind) p.devices

  one_number : (n : ℕ) → n < 64 → device_bytes (packed (has_kind p 0)) (packed (has_kind p 1)) n ≡ flat_map device_field (numbered n)
  unfolding device_bytes numbered same_device_number
  one_number n h =
      ap₂ (λ (a b : Bool). cond (a || b) (field_for (device_item n (digit b))) []) (kinds 0 n h) (kinds 1 n h)
      ∙ of_number n (numbered n) (one_key (λ d. d.num) p.devices good.devices n)
      (λ d m. let (i, e) = keep-elim (λ d. eqb n d.num) p.devices d m in (sym (eqb-true n d.num e), (device-ranged p good.ranges d i).kind))

  pub devices-out : canonical p ≡ p → flat_map (device_bytes (packed (has_kind p 0)) (packed (has_kind p 1))) below64 ≡ flat_map field_for (map device p.devices)
  unfolding canonical numbered device_field
  devices-out e =
      flat-same _ _ below64 (λ n m. one_number n (below64-range n m)) ∙ sym (flat-order device_field (λ d. d.num) p.devices)
      ∙ ap (flat_map device_field) (ap (λ (q : Plan). q.devices) e) ∙ sym (flat-map field_for device p.devices)
