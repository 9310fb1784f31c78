-- Verdict 13: what `overrun` finds is the entry in words, with the least initiator and then the least slot.
use Rattle.std.specs.Prelude.{◌≡◌, refl, ◌≢◌, ◌↔◌, true, not, ◌&&◌, eqb}
use Rattle.std.proofs.Common.{sym, ap, ◌∙◌, arith, eqb-true, eq-eqb, ne_eqb, ltb-true, lt-ltb}
use mathlib.Core.List.{List, Memᴰ}
use Rattle.std.proofs.Math.Option.{none, some}
use Prim.Native.Nat.{ℕ, ◌+◌, ◌-◌, ◌*◌, ◌%◌, ◌≤◌, ◌<◌}
use Rattle.std.proofs.Math.Decide.{ℕ_discrete, dec_lt}
use Rattle.std.proofs.lemmas.Bool.{eqb-false, not-true}
use Rattle.lists.specs.Search.{any}
use Rattle.lists.specs.laws.Bools.{both_true, true-both}
use Rattle.lists.specs.laws.Search.{any-elim, any-intro}
use Rattle.lists.specs.laws.Least.{Least, Finds, finds, finds-none, finds-when, finds-within}
use Rattle.rules_plan.specs.declared.Verdict.{Verdict}
use Rattle.rules_plan.specs.declared.Verdict.TheVariants.{Overrun}
use Rattle.rules_plan.specs.Plan.{Entry}
use Rattle.rules_plan.specs.Meaning.{covers, stands_at, runs_into, overruns}
use Rattle.rules_plan.specs.Judge.{overrun_at, overrun_of, overrun}
use Rattle.rules_plan.specs.Words.{Overrunning, LeastOverrun}
use Rattle.rules_plan.specs.laws.Ranges.{EntryRange}

-- the entry of initiator i in slot v
pub stands_at_lem : (i v : ℕ) (e : Entry) → (stands_at i v e ≡ true) ↔ ((i ≡ e.initiator) × (v ≡ e.slot))
unfolding stands_at
stands_at_lem i v e = (
  λ h. let a = both_true (eqb i e.initiator) (eqb v e.slot) h in (eqb-true _ _ a.0, eqb-true _ _ a.1),
  λ h. true-both (eq-eqb i e.initiator h.0) (eq-eqb v e.slot h.1),
)

-- entry e runs into entry f
pub runs-into : (e f : Entry) → (runs_into e f ≡ true) ↔ ((e.initiator ≡ f.initiator) × (e.slot ≢ f.slot) × (covers e f.slot ≡ true))
unfolding runs_into
runs-into e f = (
  λ h.
      let a = both_true (eqb e.initiator f.initiator && not (eqb e.slot f.slot)) (covers e f.slot) h in
      let b = both_true (eqb e.initiator f.initiator) (not (eqb e.slot f.slot)) a.0 in
      (eqb-true _ _ b.0, eqb-false _ _ (not-true _ b.1), a.1),
  λ h. true-both (true-both (eq-eqb e.initiator f.initiator h.0) (ap not (ne_eqb e.slot f.slot h.1))) h.2,
)

-- the test of the search holds exactly of an overrun in words
overrun-test : (es : List Entry) (i v : ℕ) → (any (λ (e : Entry). stands_at i v e && overruns es e) es ≡ true) ↔ Overrunning es i v
unfolding overruns
overrun-test es i v = (
  λ h.
      let (e, m, g) = any-elim (λ (e : Entry). stands_at i v e && overruns es e) es h in
      let a = both_true (stands_at i v e) (overruns es e) g in
      let b = (stands_at_lem i v e).0 a.0 in
      let (f, n, c) = any-elim (runs_into e) es a.1 in
      let d = (runs-into e f).0 c in
      record { mine = e; other = f; has-mine = m; has_other = n; of-mine = sym b.0; of_other = sym (b.0 ∙ d.0); at-mine = sym b.1; apart = d.1; over = d.2 },
  λ o. any-intro (λ (e : Entry). stands_at i v e && overruns es e) es o.mine o.has-mine
      (true-both ((stands_at_lem i v o.mine).1 (sym o.of-mine, sym o.at-mine))
      (any-intro (runs_into o.mine) es o.other o.has_other ((runs-into o.mine o.other).1 (o.of-mine ∙ sym o.of_other, o.apart, o.over)))),
)

-- an overrun by its initiator and its slot, in their order
abbrev Place : Type 0
Place = ℕ × (ℕ × Unit {0})

abbrev code : Place → ℕ
code x = x.0 * 64 + (x.1.0 * 1 + 0)

abbrev verdict : Place → Verdict
verdict x = Overrun x.0 x.1.0

abbrev OverrunsAt : List Entry → Place → Type 0
OverrunsAt es x = Overrunning es x.0 x.1.0

module _ (es : List Entry) (below : (e : Entry) → Memᴰ e es → EntryRange e) where
  -- only numbers below 64 have to be searched
  overrun-low : (i v : ℕ) → Overrunning es i v → (i < 64) × (v < 64)
  overrun-low i v o = let b = below o.mine o.has-mine in (omega (arith, o.of-mine, b.initiator), omega (arith, o.at-mine, b.slot))

  overrun-finds : Finds code verdict (OverrunsAt es) (overrun es)
  unfolding overrun overrun_of overrun_at
  overrun-finds =
      finds-within 64 _ _ _ (overrun_of es) (λ i k o. let b = overrun-low i k.0 o in (b.0, omega arith)) λ i _.
      finds-within 1 _ _ _ (overrun_at es i) (λ v k o. let b = overrun-low i v o in (b.1, omega arith)) λ v _.
      finds-when _ _ _ (overrun-test es i v)

  -- What is found is the least overrun; nothing is found exactly when there is none.
  pub overrun-says : (r : Verdict) → (overrun es ≡ some r) ↔ ((i : ℕ) × (v : ℕ) × (r ≡ Overrun i v) × LeastOverrun es i v)
  overrun-says r = let says = finds _ _ _ overrun-finds r in (λ e. there (says.0 e), λ x. says.1 (back x))
    where
      there : Least code verdict (OverrunsAt es) r → (i : ℕ) × (v : ℕ) × (r ≡ Overrun i v) × LeastOverrun es i v
      there l = (l.key.0, l.key.1.0, l.same, record { here = l.here; least = λ j w o. omega (arith, l.under (j, (w, tt)) o) })

      back : (i : ℕ) × (v : ℕ) × (r ≡ Overrun i v) × LeastOverrun es i v → Least code verdict (OverrunsAt es) r
      back x = record { key = (x.0, (x.1, tt)); same = x.2; here = x.3.here; under = λ k o. omega (arith, x.3.least k.0 k.1.0 o) }

  pub overrun-none : (overrun es ≡ none) ↔ ((i v : ℕ) → Overrunning es i v → ⊥)
  overrun-none = let n = finds-none _ _ _ overrun-finds in (λ e i v. n.0 e (i, (v, tt)), λ h. n.1 (λ k. h k.0 k.1.0))

  -- Where there is none, the entries of one initiator that cover one slot stand in one slot.
  pub cover-once : overrun es ≡ none → (v : ℕ) (e f : Entry) → Memᴰ e es → Memᴰ f es → e.initiator ≡ f.initiator → covers e v ≡ true → covers f v ≡ true → e.slot ≡ f.slot
  unfolding covers
  cover-once h v e f m n i c d = go (ℕ_discrete e.slot f.slot) (dec_lt (from f) (from e))
    where
      from : Entry → ℕ
      from g = (v + 64 - g.slot) % 64

      -- of two entries that cover a slot the one further back covers the slot of the other
      runs : (a b : Entry) → Memᴰ a es → Memᴰ b es → a.initiator ≡ b.initiator → a.slot ≢ b.slot → covers a v ≡ true → from b ≤ from a → ⊥
      runs a b k l j apart o w =
          let low = below a k in
          let high = below b l in
          let s = ltb-true (from a) a.span o in
          overrun-none.0 h a.initiator a.slot
          (record { mine = a; other = b; has-mine = k; has_other = l; of-mine = refl; of_other = sym j; at-mine = refl; apart = apart; over = lt-ltb ((b.slot + 64 - a.slot) % 64) a.span (omega (arith, low.slot, high.slot)) })

      go : Dec (e.slot ≡ f.slot) → Dec (from f < from e) → e.slot ≡ f.slot
      go (yes s) w = s
      go (no s) (yes w) = absurd (runs e f m n i s c (omega arith))
      go (no s) (no w) = absurd (runs f e n m (sym i) (λ z. s (sym z)) d (omega arith))
