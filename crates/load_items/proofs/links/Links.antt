-- A link after a plan: the verdict on it, and sets and ends with it, for each way that the code goes.
use mathlib.Core.Path.{◌≡◌, refl, sym, ◌∙◌}
use mathlib.Core.Logic.{◌⊎◌, inl, inr}
use mathlib.Core.List.{List}
use mathlib.Core.Bool.{Bool, true, false, ◌||◌, and-false}
use Prim.Native.Nat.{ℕ, ◌+◌, ◌*◌, ◌^◌, ◌<◌, min, max}
use lib.ListN.{set}
use Rattle.bitsets.specs.Set.{member, added}
use Rattle.rules_plan.specs.Plan.{nth, Link, Plan, link}
use Rattle.rules_plan.specs.Meaning.{is_device}
use Rattle.rules_plan.specs.Judge.{out_of_range, given_before, not_given, too_many, no_walk, no_path}
use Rattle.rules_plan.specs.laws.Fair.{Fair}
use Rattle.rules_plan.specs.laws.Ranges.{LinkRange, link-range}
use Rattle.memory_plan.specs.Memory.{sets_of, ends_of}
use Rattle.memory_plan.specs.Take.{item_fault, taken}
use Rattle.load_items.specs.laws.Judged.{Judged, holds-taken, judged-6, judged-7, judged-8, judged-0}
use Rattle.load_items.specs.laws.Sets.{device-told, link-told, sets-link}
use Rattle.load_items.proofs.links.Ends.{ends-link}

-- r is the verdict on x after every fair plan that sets and ends hold before, and then they hold the plan with x
abbrev pub LinkAnswer : List ℕ → List ℕ → List ℕ → List ℕ → Link → ℕ → Type 0
LinkAnswer sets ends sets' ends' x r = (p : Plan) → Fair p → sets ≡ sets_of p → ends ≡ ends_of p
    → (r ≡ item_fault p (link x))
    × (sets' ≡ sets_of (taken p (link x)))
    × (ends' ≡ ends_of (taken p (link x)))

module _ (sets ends : List ℕ) (x : Link) where
  -- refused with n, and nothing stored
  refused : (n : ℕ) → ((p : Plan) → Fair p → sets ≡ sets_of p → Judged p (link x) n p) → LinkAnswer sets ends sets ends x n
  refused n f p fair e g = let j = f p fair e in (j.fault, holds-taken sets_of j sets e, holds-taken ends_of j ends g)

  pub link-refused : out_of_range (link x) ≡ true → LinkAnswer sets ends sets ends x 6
  link-refused h = refused 6 (λ p fair e. judged-6 p (link x) h)

  module _ (inside : out_of_range (link x) ≡ false) where
    range : LinkRange x
    range = link-range x inside

    given : (p : Plan) → sets ≡ sets_of p → (b : Bool) → member x.num (nth sets 2) ≡ b → given_before p (link x) ≡ b
    unfolding given_before
    given p e b h = sym (link-told p sets e x.num range.num) ∙ h

    pub link-again : member x.num (nth sets 2) ≡ true → LinkAnswer sets ends sets ends x 7
    link-again h = refused 7 (λ p fair e. judged-7 p (link x) inside (given p e true h))

    -- not given before, u being the union of nodes and routers
    module _ (new : member x.num (nth sets 2) ≡ false) (u : ℕ) (joined : (j : ℕ) → member j u ≡ (member j (nth sets 0) || member j (nth sets 1))) where
      known : (p : Plan) → Fair p → sets ≡ sets_of p → (n : ℕ) → n < 64 → (b : Bool) → member n u ≡ b → is_device p n ≡ b
      known p fair e n l b h = sym (joined n ∙ device-told p sets e fair.ranges n l) ∙ h

      pub link-to-none : (member x.one u ≡ false) ⊎ (member x.other u ≡ false) → LinkAnswer sets ends sets ends x 8
      unfolding not_given
      link-to-none (inl h) = refused 8 (λ p fair e. judged-8 p (link x) inside (given p e false new) (rw (known p fair e x.one range.one false h)))
      link-to-none (inr h) =
          refused 8 (λ p fair e. judged-8 p (link x) inside (given p e false new)
          (rw (known p fair e x.other range.other false h, and-false (is_device p x.one))))

      -- the word w has it too, and the two ends are in order
      pub link-taken : member x.one u ≡ true → member x.other u ≡ true → (w : ℕ) → w < 2 ^ 64 → ((j : ℕ) → member j w ≡ added x.num (nth sets 2) j)
          → (low high : ℕ) → low ≡ min x.one x.other → high ≡ max x.one x.other
          → LinkAnswer sets ends (set sets 2 w) (set (set ends (x.num * 2) low) (x.num * 2 + 1) high) x 0
      unfolding given_before not_given too_many no_walk no_path
      link-taken a b w fits more low high el eh p fair e g =
          let free = given p e false new in
          let ends-known : not_given p (link x) ≡ false = rw (known p fair e x.one range.one true a, known p fair e x.other range.other true b) in
          let j = judged-0 p (link x) inside free ends-known refl refl refl in (
            j.fault,
            holds-taken sets_of j _ (sets-link p sets e x.num w fits x.one x.other more),
            holds-taken ends_of j _ (ends-link p x range.num free ends g low high el eh),
          )
