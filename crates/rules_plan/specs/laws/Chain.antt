-- Items one after another, each judged by rows 4 to 11 in the plan that those before it give: what a file is, without its bytes.
use Rattle.std.specs.Prelude.{◌≡◌, List, [], ◌∷◌, ◌++◌, false, ◌&&◌, ◌||◌, ℕ, ◌≤◌, ltb, eqb}
use Rattle.std.proofs.Common.{ltb-false}
use Rattle.lists.specs.Rows.{first_of}
use Rattle.lists.specs.laws.Bools.{neither}
use Rattle.rules_plan.specs.Plan.{Plan, Item, grow}
use Rattle.rules_plan.specs.Fields.{comes_once, tag_for}
use Rattle.rules_plan.specs.Judge.{out_of_range, given_before, not_given, too_many, no_walk, no_path, item_rows}
use Rattle.rules_plan.specs.laws.Lengths.{Sized}

-- no row 6 to 11 holds of the item after the plan
pub record Passes (p : Plan) (x : Item) : Type 0 where
  pub range : out_of_range x ≡ false
  pub new : given_before p x ≡ false
  pub known : not_given p x ≡ false
  pub few : too_many p x ≡ false
  pub walk : no_walk p x ≡ false
  pub reached : no_path p x ≡ false

pub passed : (p : Plan) (x : Item) → Passes p x → first_of (item_rows p x) ≡ 0
unfolding item_rows first_of
passed p x h = rw (h.range, h.new, h.known, h.few, h.walk, h.reached)

-- row 4 does not hold of the item after an item with the tag before
abbrev pub InOrder : ℕ → Item → Type 0
InOrder before x = ltb (tag_for x) before || eqb (tag_for x) before && comes_once (tag_for x) ≡ false

pub no-fall : (before : ℕ) (x : Item) → InOrder before x → before ≤ tag_for x
no-fall before x h = ltb-false (tag_for x) before (neither (ltb (tag_for x) before) (eqb (tag_for x) before && comes_once (tag_for x)) h).0

pub record Follows (p : Plan) (before : ℕ) (x : Item) : Type 0 where
  pub order : InOrder before x
  pub size : Sized x
  pub passes : Passes p x

-- the items lead from plan p, after an item with the tag before, to plan q and the tag last
pub data Chain : Plan → ℕ → List Item → Plan → ℕ → Type 0 where
  end : {p : Plan} {before : ℕ} → Chain p before [] p before
  next : {p q : Plan} {before last : ℕ} {x : Item} {xs : List Item} → Follows p before x → Chain (grow p x) (tag_for x) xs q last → Chain p before (x ∷ xs) q last

pub chain-append : {p q r : Plan} {a b c : ℕ} {xs ys : List Item} → Chain p a xs q b → Chain q b ys r c → Chain p a (xs ++ ys) r c
chain-append end d = d
chain-append (next f c) d = next f (chain-append c d)
