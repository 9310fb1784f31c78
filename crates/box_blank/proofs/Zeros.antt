-- Plan memory that is all 0 is that of no plan.
use mathlib.Core.Path.{◌≡◌, sym, ◌∙◌}
use mathlib.Core.Logic.{◌↔◌}
use mathlib.Core.List.{List}
use mathlib.Core.Bool.{Bool, true}
use Prim.Native.Nat.{ℕ}
use lib.ListN.{length, replicate}
use Rattle.rules_plan.specs.Plan.{blank}
use Rattle.memory_plan.specs.Memory as plan
use Rattle.memory_plan.specs.laws.BlankMemory.{holds-blank}

abbrev pub Zeros : ℕ → List ℕ → Type 0
Zeros n s = s ≡ replicate n 0

-- what it says that a list is all 0, of one whose length is known
pub zeros_of : {r : Bool} (n : ℕ) {s : List ℕ} → length s ≡ n → (r ≡ true) ↔ (s ≡ replicate (length s) 0) → (r ≡ true) ↔ Zeros n s
zeros_of n e f = rw e at f

-- the first seven arrays, each with those before it, and the last
abbrev pub First : (sets ends rows reach paths spans aims : List ℕ) → Type 0
First sets ends rows reach paths spans aims = (((((Zeros 3 sets × Zeros 128 ends) × Zeros 8 rows) × Zeros 8 reach) × Zeros 2816 paths) × Zeros 512 spans) × Zeros 1152 aims

pub holds-zeros : {sets ends rows reach paths spans aims numbers : List ℕ}
    → (First sets ends rows reach paths spans aims × Zeros 524 numbers) ↔ plan.Holds blank sets ends rows reach paths spans aims numbers
holds-zeros = (
  λ z. record {
    sets = z.0.0.0.0.0.0.0 ∙ holds-blank.sets;
    ends = z.0.0.0.0.0.0.1 ∙ holds-blank.ends;
    rows = z.0.0.0.0.0.1 ∙ holds-blank.rows;
    reach = z.0.0.0.0.1 ∙ holds-blank.reach;
    paths = z.0.0.0.1 ∙ holds-blank.paths;
    spans = z.0.0.1 ∙ holds-blank.spans;
    aims = z.0.1 ∙ holds-blank.aims;
    numbers = z.1 ∙ holds-blank.numbers;
  },
  λ h. (
    (
      (
        (
          (
            ((h.sets ∙ sym holds-blank.sets, h.ends ∙ sym holds-blank.ends), h.rows ∙ sym holds-blank.rows),
            h.reach ∙ sym holds-blank.reach,
          ),
          h.paths ∙ sym holds-blank.paths,
        ),
        h.spans ∙ sym holds-blank.spans,
      ),
      h.aims ∙ sym holds-blank.aims,
    ),
    h.numbers ∙ sym holds-blank.numbers,
  ),
)
