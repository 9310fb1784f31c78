-- What a sound plan says to whoever runs it: entries at a slot, slots that an entry covers, links that may be used there, initiators.
use Rattle.std.specs.Prelude.{◌≡◌, refl, ◌≢◌, true, ℕ, ◌+◌, ◌-◌, ◌%◌, ◌≤◌, ◌<◌}
use Rattle.std.proofs.Common.{sym, ◌∙◌, arith}
use Rattle.std.proofs.Math.Path.{ap}
use mathlib.Core.List.Memᴰ
use mathlib.Core.List.{List, Memᴰ}
use Rattle.std.proofs.Math.Option.{some}
use borrow.Author.Tests.{lt-ltb}
use Rattle.lists.specs.Search.{any, repeats, is_in, below64}
use Rattle.lists.specs.laws.Bools.{both_true, not-both}
use Rattle.lists.specs.laws.Search.{find-some, find-has, keep-none, is_in-elim}
use Rattle.rules_plan.specs.Plan.{Entry, Plan, blank}
use Rattle.rules_plan.specs.laws.Spans.{fits-longer, fits-short}
use Rattle.rules_plan.specs.Meaning.{is_initiator, initiators, uses, covers, fits_in, fits, permits, stands_at, entry_at, may_use}
use Rattle.rules_plan.specs.laws.Sound.{Sound}
use Rattle.rules_plan.specs.laws.Initiators.{in-initiators}
use Rattle.rules_plan.specs.laws.Overruns.{stands_at_lem, runs-into}
use Rattle.rules_plan.specs.laws.Clashes

-- the entry of initiator i at slot v
pub record StandsAt (es : List Entry) (i v : ℕ) (e : Entry) : Type 0 where
  pub has : Memᴰ e es
  pub own : e.initiator ≡ i
  pub slot : e.slot ≡ v

pub entry-at : (es : List Entry) (i v : ℕ) (e : Entry) → entry_at es i v ≡ some e → StandsAt es i v e
unfolding entry_at
entry-at es i v e h =
    let f = find-some (stands_at i v) es e h in
    let (own, slot) = (stands_at_lem i v e).0 f.1 in
    record { has = f.0; own = sym own; slot = sym slot }

-- what is permitted goes to a target of the entry
pub permits-fits : (p : Plan) (e : Entry) (t n : ℕ) → permits p e t n ≡ true → fits_in p e.initiator t n e.span ≡ true
unfolding permits fits
permits-fits p e t n h = (both_true (is_in t e.targets) (fits p e t n) h).1

pub permits-target : (p : Plan) (e : Entry) (t n : ℕ) → permits p e t n ≡ true → Memᴰ t e.targets
unfolding permits
permits-target p e t n h = is_in-elim t e.targets (both_true (is_in t e.targets) (fits p e t n) h).0

module _ (p : Plan) (ok : Sound p) (e : Entry) (me : Memᴰ e p.entries) where
  -- what it permits fits 16 slots too
  pub permits-short : (t n : ℕ) → permits p e t n ≡ true → n ≤ 4096
  unfolding permits fits
  permits-short t n h =
      fits-short p e.initiator t n (fits-longer p e.initiator t n e.span 16 (omega (arith, ok.spans e me)) (both_true (is_in t e.targets) (fits p e t n) h).1)

  pub its-initiator : Memᴰ e.initiator (initiators p)
  its-initiator = in-initiators p e.initiator (ok.below e me) (ok.initiator e me)

  -- the search for an entry finds it
  pub found_at : entry_at p.entries e.initiator e.slot ≡ some e
  unfolding entry_at
  found_at =
      let here = (stands_at_lem e.initiator e.slot e).1 (refl, refl) in
      let (f, is) = find-has (stands_at e.initiator e.slot) p.entries e me here in
      let s = entry-at p.entries e.initiator e.slot f is in
      is ∙ ap some (ok.unique f e s.has me s.own s.slot)

  -- it covers the slots from its own on, as many as its span
  covers-on : (n : ℕ) → n < e.span → covers e ((e.slot + n) % 64) ≡ true
  unfolding covers
  covers-on n h = lt-ltb (((e.slot + n) % 64 + 64 - e.slot) % 64) e.span (omega (arith, ok.slots e me, ok.spans e me))

  -- there its initiator may use the links of its targets
  pub may-use : (t l n : ℕ) → Memᴰ t e.targets → uses p e.initiator t l ≡ true → n < e.span
      → may_use p p.entries ((e.slot + n) % 64) e.initiator l ≡ true
  may-use t l n m u h =
      (Clashes.may-use p p.entries ((e.slot + n) % 64) e.initiator l).1
      (record { entry = e; has = me; own = refl; over = covers-on n h; target = t; aims = m; on = u })

  -- and no other entry of its initiator stands there
  pub no-entry-after : (f : Entry) → Memᴰ f p.entries → e.initiator ≡ f.initiator → (n : ℕ) → 0 < n → n < e.span → f.slot ≢ (e.slot + n) % 64
  no-entry-after f mf same n low h at =
      let other : e.slot ≢ f.slot = λ z. omega (arith, ok.slots e me, ok.spans e me) in
      let over : covers e f.slot ≡ true = rw at (covers-on n h) in
      not-both ((runs-into e f).1 (same, other, over)) (ok.no-overrun e f me mf)

-- the plan with nothing in it, which stands for none
pub sound-blank : Sound blank
unfolding blank initiators is_initiator may_use any repeats
sound-blank = record {
  initiator = λ e m. absurd (Memᴰ.not-nil m);
  below = λ e m. absurd (Memᴰ.not-nil m);
  slots = λ e m. absurd (Memᴰ.not-nil m);
  some-span = λ e m. absurd (Memᴰ.not-nil m);
  spans = λ e m. absurd (Memᴰ.not-nil m);
  targets = λ e m. absurd (Memᴰ.not-nil m);
  unique = λ e f m. absurd (Memᴰ.not-nil m);
  no-overrun = λ e f m. absurd (Memᴰ.not-nil m);
  no-clash = λ s i j l h d u. not-both u refl;
  eight = rw (keep-none (is_initiator blank) below64 (λ i m. refl)) (omega arith);
  small = λ i h. not-both h refl;
  one-path = refl;
  times = λ x m. absurd (Memᴰ.not-nil m);
}
