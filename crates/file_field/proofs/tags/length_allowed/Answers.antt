-- `tags::length_allowed` meets its contract: each arm has the bounds of the row with its number. Assumes nothing.
use mathlib.Core.Path.{refl, ◌∙◌}
use mathlib.Core.Logic.{◌≢◌}
use Prim.Native.Nat.{ℕ, ◌≤◌}
use native.Mathlib.Omega.{arith}
use Rattle.lists.specs.Search.{find}
use Rattle.rules_plan.specs.Fields.{tags, tag_of}
use Rattle.file_field.specs.laws.Tags.{allowed-by, none_allowed}
use Rattle.file_field.proofs.tags.length_allowed.Goals as goal

-- a number that is none of the first seven, in two steps
from-four : (n : ℕ) → n ≢ 1 → n ≢ 2 → n ≢ 3 → 1 ≤ n → 4 ≤ n
from-four n a b c l = omega arith

past-seven : (n : ℕ) → 4 ≤ n → n ≤ 7 → n ≢ 4 → n ≢ 5 → n ≢ 6 → n ≢ 7 → ⊥
past-seven n l h a b c d = omega arith

pub returns-in-1 : goal.returns-in-1
unfolding find tags tag_of
returns-in-1 c = c.between.ensures ∙ allowed-by c.args.size c.in-1.is refl

pub returns-in-2 : goal.returns-in-2
unfolding find tags tag_of
returns-in-2 c = c.between-in-2.ensures ∙ allowed-by c.args.size c.in-2.is refl

pub returns-in-3 : goal.returns-in-3
unfolding find tags tag_of
returns-in-3 c = c.between-in-3.ensures ∙ allowed-by c.args.size c.in-3.is refl

pub returns-in-4 : goal.returns-in-4
unfolding find tags tag_of
returns-in-4 c = c.between-in-4.ensures ∙ allowed-by c.args.size c.in-4.is refl

pub returns-in-5 : goal.returns-in-5
unfolding find tags tag_of
returns-in-5 c = c.between-in-5.ensures ∙ allowed-by c.args.size c.in-5.is refl

pub returns-in-6 : goal.returns-in-6
unfolding find tags tag_of
returns-in-6 c = c.between-in-6.ensures ∙ allowed-by c.args.size c.in-6.is refl

pub returns-in-7 : goal.returns-in-7
unfolding find tags tag_of
returns-in-7 c = c.between-in-7.ensures ∙ allowed-by c.args.size c.in-7.is refl

pub returns-in_default : goal.returns-in_default
returns-in_default c =
    let r = c.in_default.in_default-own.rest in
    let four : 1 ≤ c.args.tag → 4 ≤ c.args.tag = from-four c.args.tag r.0.0.0.0.0.0.1 r.0.0.0.0.0.1 r.0.0.0.0.1 in
    none_allowed c.args.tag c.args.size (λ l h. past-seven c.args.tag (four l) h r.0.0.0.1 r.0.0.1 r.0.1 r.1)
