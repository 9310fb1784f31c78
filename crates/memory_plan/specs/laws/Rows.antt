-- The row of an initiator: below 8, and there the initiator stands; 8 exactly where the plan has no such initiator.
use Rattle.std.specs.Prelude.{◌≡◌, refl, ◌↔◌, Bool, true, false, ℕ, ◌<◌, length, eqb}
use Rattle.std.proofs.Common.{sym, ap, ◌∙◌, arith, eqb-true, eq-eqb}
use Rattle.std.proofs.Math.Option.{Option, none, some}
use Rattle.lists.specs.Place.{Found, first, at_place}
use Rattle.lists.specs.laws.Bools.{not-both}
use Rattle.lists.specs.laws.Found.{place_of}
use Rattle.lists.specs.laws.At.{at-member, place-once}
use Rattle.lists.specs.laws.Lines.{placed}
use Rattle.lists.specs.laws.Place.{first_some_lem, first-has}
use Rattle.rules_plan.specs.Plan.{Plan}
use Rattle.rules_plan.specs.Meaning.{is_initiator, initiators}
use Rattle.rules_plan.specs.laws.Initiators.{initiator-in, in-initiators, initiators-once}
use Rattle.rules_plan.specs.laws.Sound.{Sound}
use Rattle.memory_plan.specs.Memory.{of_row}
use Rattle.memory_plan.specs.laws.InRows.{of_row_lem}
use Rattle.memory_plan.specs.View.{place_or, row_for}

-- each row below their number has an initiator, and it is what is read there
pub row-initiator : (p : Plan) (r : ℕ) → r < length (initiators p) → at_place r (initiators p) ≡ some (of_row p r (λ (i : ℕ). i))
row-initiator p r h = let (i, at) = placed r (initiators p) h in at ∙ ap some (sym (of_row_lem p r i (λ (j : ℕ). j) at))

-- what is found for i is i
found-own : (p : Plan) (i : ℕ) (f : Found ℕ) → first (eqb i) (initiators p) ≡ some f → at_place f.place (initiators p) ≡ some i
found-own p i f h = let (at, e) = first_some_lem (eqb i) (initiators p) f h in at ∙ ap some (sym (eqb-true i f.what e))

pub row-for-at : (p : Plan) (r i : ℕ) → at_place r (initiators p) ≡ some i → row_for p i ≡ r
unfolding row_for place_or
row-for-at p r i at =
    let (f, h, _) = first-has (eqb i) (initiators p) r i at (eq-eqb i i refl) in
    ap (place_or 8) h ∙ place-once (initiators p) f.place r i (initiators-once p) (found-own p i f h) at

no_row : (p : Plan) (i : ℕ) → is_initiator p i ≡ false → row_for p i ≡ 8
unfolding row_for place_or
no_row p i h = go (first (eqb i) (initiators p)) refl
  where
    go : (o : Option (Found ℕ)) → first (eqb i) (initiators p) ≡ o → place_or 8 o ≡ 8
    go none e = refl
    go (some f) e = not-both (initiator-in p i (at-member (initiators p) f.place i (found-own p i f e))) h

module _ (p : Plan) (ok : Sound p) (i : ℕ) where
  row-for : is_initiator p i ≡ true → (row_for p i < 8) × (at_place (row_for p i) (initiators p) ≡ some i)
  row-for h =
      let (k, l, at) = place_of (initiators p) i (in-initiators p i (ok.small i h) h) in
      rw (row-for-at p k i at) (omega (arith, ok.eight), at)

  pub row-for-place : is_initiator p i ≡ true → at_place (row_for p i) (initiators p) ≡ some i
  row-for-place h = (row-for h).1

  pub row-for-some : (row_for p i < 8) ↔ (is_initiator p i ≡ true)
  row-for-some = (λ l. go l (is_initiator p i) refl, λ h. (row-for h).0)
    where
      go : row_for p i < 8 → (b : Bool) → is_initiator p i ≡ b → b ≡ true
      go l true h = refl
      go l false h = absurd (omega (arith, no_row p i h))

  pub row-for-none : (row_for p i ≡ 8) ↔ (is_initiator p i ≡ false)
  row-for-none = (λ e. go e (is_initiator p i) refl, no_row p i)
    where
      go : row_for p i ≡ 8 → (b : Bool) → is_initiator p i ≡ b → b ≡ false
      go e true h = absurd (omega (arith, (row-for h).0))
      go e false h = refl
