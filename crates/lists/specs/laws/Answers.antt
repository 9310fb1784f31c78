-- Answers that say whether something holds, and one such answer got from others.
use Rattle.std.specs.Prelude.{◌≡◌, refl, ◌↔◌, Bool, true, false, not}
use Rattle.std.proofs.Common.{sym, ◌∙◌}
use Rattle.std.proofs.lemmas.Bool.{not-true, not-false}
use Rattle.lists.specs.laws.Bools.{not-both}

pub it-is : {P : Type 0} → P → (true ≡ true) ↔ P
it-is p = (λ e. p, λ q. refl)

pub it-is-not : {P : Type 0} → (P → ⊥) → (false ≡ true) ↔ P
it-is-not n = (λ e. not-both e refl, λ p. absurd (n p))

module _ {r : Bool} {P : Type 0} (says : (r ≡ true) ↔ P) where
  -- the answer was no, and so is that to anything that P follows from
  pub denied : {Q : Type 0} → not r ≡ true → (Q → P) → (false ≡ true) ↔ Q
  denied h f = it-is-not (λ q. not-both (says.1 (f q)) (not-true r h))

  pub granted : not r ≡ false → P
  granted h = says.0 (not-false r h)

  -- the last answer decides
  pub decides : {Q : Type 0} → (P → Q) → (Q → P) → (r ≡ true) ↔ Q
  decides f g = (λ e. f (says.0 e), λ q. says.1 (g q))

-- two questions, the second asked only where the first is answered yes
module _ {a both : Bool} {P Q : Type 0} (first : (a ≡ true) ↔ P) where
  pub and_asked : {b : Bool} → a ≡ true → both ≡ b → (b ≡ true) ↔ Q → (both ≡ true) ↔ (P × Q)
  and_asked h e second = (λ t. (first.0 h, second.0 (sym e ∙ t)), λ p. e ∙ second.1 p.1)

  pub and_not_asked : a ≡ false → both ≡ a → (both ≡ true) ↔ (P × Q)
  and_not_asked h e = (λ t. not-both t (e ∙ h), λ p. not-both (first.1 p.0) h)
