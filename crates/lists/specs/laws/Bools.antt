-- Laws of true and false, and of answers: taking tests apart, and telling answers apart.
use Rattle.std.specs.Prelude.{◌≡◌, refl, ◌⊎◌, Bool, true, false, ◌&&◌, ◌||◌, cond, ℕ, eqb}
use Rattle.std.proofs.Common.{sym, ◌∙◌, inl, inr, true≢false, arith, eqb-true, eq-eqb}
use Rattle.std.proofs.Math.Option.{Option, none, some}
use Rattle.lists.specs.Search.{when, is_some}

pub both_true : (a b : Bool) → a && b ≡ true → (a ≡ true) × (b ≡ true)
both_true true b e = (refl, e)
both_true false b e = (e, cc)

pub true-both : {a b : Bool} → a ≡ true → b ≡ true → a && b ≡ true
true-both e f = rw (e, f)

pub neither : (a b : Bool) → a || b ≡ false → (a ≡ false) × (b ≡ false)
neither true b e = (e, cc)
neither false b e = (refl, e)

pub false-either : {a b : Bool} → a ≡ false → b ≡ false → a || b ≡ false
false-either e f = rw (e, f)

pub either : (a b : Bool) → a || b ≡ true → (a ≡ true) ⊎ (b ≡ true)
either true b e = inl refl
either false b e = inr e

pub not-both : {A : Type 0} {a : Bool} → a ≡ true → a ≡ false → A
not-both e f = absurd (true≢false (sym e ∙ f))

-- a test that cannot be passed
pub never_true : (a : Bool) → (a ≡ true → ⊥) → a ≡ false
never_true true f = absurd (f refl)
never_true false f = refl

-- two tests that hold together are the same test
pub same_test : (a b : Bool) → (a ≡ true → b ≡ true) → (b ≡ true → a ≡ true) → a ≡ b
same_test true b f g = sym (f refl)
same_test false true f g = g refl
same_test false false f g = refl

pub cond_cases : {A : Type 0} (P : A → Type 0) (b : Bool) (x y : A) → (b ≡ true → P x) → (b ≡ false → P y) → P (cond b x y)
cond_cases P true x y f g = f refl
cond_cases P false x y f g = g refl

pub none-some : {A B : Type 0} {x : A} → none ≡ some x → B
none-some {x} e = let z : ◌≡◌ {A = ℕ} 0 1 = cc in absurd (omega arith)

pub some-some : {A : Type 0} {x y : A} → some x ≡ some y → x ≡ y
some-some e = cc

pub not_some : {A : Type 0} (o : Option A) → is_some o ≡ false → o ≡ none
unfolding is_some
not_some none h = refl
not_some (some x) h = not-both refl h

pub is-some : {A : Type 0} (o : Option A) → is_some o ≡ true → (x : A) × (o ≡ some x)
unfolding is_some
is-some none h = not-both h refl
is-some (some x) h = (x, refl)

pub when-some : {A : Type 0} (b : Bool) (x y : A) → when b x ≡ some y → (b ≡ true) × (x ≡ y)
unfolding when
when-some true x y e = (refl, some-some e)
when-some false x y e = none-some e

pub when-none : {A : Type 0} (b : Bool) (x : A) → when b x ≡ none → b ≡ false
unfolding when
when-none true x e = none-some (sym e)
when-none false x e = refl

pub eqb-sym : (a b : ℕ) → eqb a b ≡ eqb b a
eqb-sym a b = same_test (eqb a b) (eqb b a) (λ h. eq-eqb b a (sym (eqb-true a b h))) (λ h. eq-eqb a b (sym (eqb-true b a h)))
