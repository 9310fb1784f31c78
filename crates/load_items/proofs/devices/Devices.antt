-- A device after a plan: the verdict on it, and the sets with it, for each way that the code goes.
use mathlib.Core.Path.{◌≡◌, refl, sym, ◌∙◌}
use mathlib.Core.List.{List}
use mathlib.Core.Bool.{Bool, true, false, ◌||◌}
use Prim.Native.Nat.{ℕ, ◌^◌, ◌<◌}
use native.Mathlib.Omega.{arith}
use lib.ListN.{set}
use Rattle.bitsets.specs.Set.{member, added}
use Rattle.rules_plan.specs.Plan.{nth, Device, Plan, device, grow}
use Rattle.rules_plan.specs.Judge.{out_of_range, given_before, not_given, too_many, no_walk, no_path}
use Rattle.rules_plan.specs.laws.Fair.{Fair}
use Rattle.rules_plan.specs.laws.Ranges.{DeviceRange, device-range}
use Rattle.memory_plan.specs.Memory.{sets_of}
use Rattle.memory_plan.specs.Take.{item_fault, taken}
use Rattle.load_items.specs.laws.Judged.{Judged, holds-taken, judged-6, judged-7, judged-0}
use Rattle.load_items.specs.laws.Sets.{device-told, sets-node, sets-router}

-- r is the verdict on x after every fair plan that the sets hold before, and then they hold the plan with x
abbrev pub DeviceAnswer : List ℕ → List ℕ → Device → ℕ → Type 0
DeviceAnswer sets sets' x r = (p : Plan) → Fair p → sets ≡ sets_of p → (r ≡ item_fault p (device x)) × (sets' ≡ sets_of (taken p (device x)))

module _ (sets : List ℕ) (x : Device) where
  pub device-refused : out_of_range (device x) ≡ true → DeviceAnswer sets sets x 6
  device-refused h p fair e = let j = judged-6 p (device x) h in (j.fault, holds-taken sets_of j sets e)

  -- in range, u being the union of nodes and routers
  module _ (inside : out_of_range (device x) ≡ false) (u : ℕ) (joined : (j : ℕ) → member j u ≡ (member j (nth sets 0) || member j (nth sets 1))) where
    range : DeviceRange x
    range = device-range x inside

    given : (p : Plan) → Fair p → sets ≡ sets_of p → (b : Bool) → member x.num u ≡ b → given_before p (device x) ≡ b
    unfolding given_before
    given p fair e b h = sym (joined x.num ∙ device-told p sets e fair.ranges x.num range.num) ∙ h

    pub device-again : member x.num u ≡ true → DeviceAnswer sets sets x 7
    device-again h p fair e = let j = judged-7 p (device x) inside (given p fair e true h) in (j.fault, holds-taken sets_of j sets e)

    -- not given before, w being the word with it
    module _ (new : member x.num u ≡ false) (w : ℕ) (fits : w < 2 ^ 64) where
      accepted : (p : Plan) → Fair p → sets ≡ sets_of p → Judged p (device x) 0 (grow p (device x))
      unfolding not_given too_many no_walk no_path
      accepted p fair e = judged-0 p (device x) inside (given p fair e false new) refl refl refl refl

      pub node-taken : x.kind ≡ 0 → ((j : ℕ) → member j w ≡ added x.num (nth sets 0) j) → DeviceAnswer sets (set sets 0 w) x 0
      node-taken z a p fair e = let j = accepted p fair e in (j.fault, holds-taken sets_of j _ (rw z (sets-node p sets e x.num w fits a)))

      pub router-taken : (x.kind ≡ 0 → ⊥) → ((j : ℕ) → member j w ≡ added x.num (nth sets 1) j) → DeviceAnswer sets (set sets 1 w) x 0
      router-taken z a p fair e =
          let j = accepted p fair e in
          let o : x.kind ≡ 1 = omega (arith, range.kind) in
          (j.fault, holds-taken sets_of j _ (rw o (sets-router p sets e x.num w fits a)))
