-- Laws of `ends`: the array with the ends of one more link.
use mathlib.Core.Path.{◌≡◌, refl, sym, ap, ap₂, ◌∙◌}
use mathlib.Core.List.{List}
use mathlib.Core.Option.{some}
use mathlib.Core.Bool.{Bool, false}
use Prim.Native.Nat.{ℕ, ◌+◌, ◌*◌, ◌/◌, ◌%◌, ◌<◌, min, max}
use native.Mathlib.Omega.{arith}
use lib.ListN.{set}
use lib.Dec.{eqb}
use borrow.Author.Tests.{eq-eqb, ne_eqb}
use Rattle.lists.specs.Search.{find}
use Rattle.lists.specs.laws.More.{find-more, find-same}
use Rattle.lists.specs.laws.Cells.{cells-set-two}
use Rattle.rules_plan.specs.Plan.{Link, Plan, link, grow}
use Rattle.rules_plan.specs.Meaning.{is_link}
use Rattle.memory_plan.specs.Memory.{end_of, ends_of}

module _ (p : Plan) (l : Link) where
  abbrev named : ℕ → Link → Bool
  named n m = eqb n m.num

  new-link : (n : ℕ) → n ≡ l.num → is_link p l.num ≡ false → find (named n) (grow p (link l)).links ≡ some l
  unfolding grow is_link
  new-link n e h = rw e (find-more (named l.num) p.links l h (eq-eqb l.num l.num refl))

  old-link : (n : ℕ) → (n ≡ l.num → ⊥) → find (named n) (grow p (link l)).links ≡ find (named n) p.links
  unfolding grow
  old-link n e = find-same (named n) p.links l (ne_eqb n l.num e)

  pub ends-link : l.num < 64 → is_link p l.num ≡ false → (ends : List ℕ) → ends ≡ ends_of p
      → (low high : ℕ) → low ≡ min l.one l.other → high ≡ max l.one l.other
      → set (set ends (l.num * 2) low) (l.num * 2 + 1) high ≡ ends_of (grow p (link l))
  unfolding ends_of end_of
  ends-link b h ends held low high el eh =
      let first : l.num * 2 % 2 ≡ 0 = omega arith in
      let second : (l.num * 2 + 1) % 2 ≡ 1 = omega arith in
      rw held (cells-set-two 128 _ _ 0 (l.num * 2) (l.num * 2 + 1) low high (omega arith) (omega arith) (λ e. omega arith)
      (el ∙ sym (ap₂ end_of first (new-link (l.num * 2 / 2) (omega arith) h)))
      (eh ∙ sym (ap₂ end_of second (new-link ((l.num * 2 + 1) / 2) (omega arith) h)))
      (λ k _ s t. ap (end_of (k % 2)) (sym (old-link (k / 2) (λ e. omega arith)))))
