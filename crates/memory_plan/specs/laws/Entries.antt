-- What the span and the targets read at a row and a slot tell: the entry that stands there, or that none does.
use Rattle.std.specs.Prelude.{◌≡◌, ◌≢◌, ◌⊎◌, Bool, true, false, ◌&&◌, ℕ, leb, ltb}
use Rattle.std.proofs.Math.Path.{refl, sym}
use Rattle.std.proofs.Common.{ap, ap₂, ◌∙◌, ⊎_elim, arith, lt-ltb}
use Rattle.std.proofs.Math.Logic.{inl, inr}
use mathlib.Core.List.{Memᴰ}
use Rattle.std.proofs.Math.Option.{Option, none, some}
use Rattle.std.proofs.Math.Bool.{and-false}
use Rattle.lists.specs.Search.{is_in}
use Rattle.lists.specs.Place.{at_place}
use Rattle.lists.specs.laws.Search.{is_in-elim}
use Rattle.bitsets.specs.Set.{member}
use Rattle.bitsets.specs.Packed.{member-packed}
use Rattle.rules_plan.specs.Plan.{Entry, Plan}
use Rattle.rules_plan.specs.Meaning.{initiators, fits, permits, least_span, entry_at}
use Rattle.rules_plan.specs.laws.Sound.{Sound}
use Rattle.rules_plan.specs.laws.Spans.{fits-by-least}
use Rattle.rules_plan.specs.laws.Runs.{StandsAt, entry-at}
use Rattle.memory_plan.specs.Memory.{of_row, span_of, aim_of}
use Rattle.memory_plan.specs.laws.InRows.{of_row_lem, of-no-row}
use Rattle.memory_plan.specs.View.{Owner, owner_of, Tells, owner}

-- what is read at row r and slot v
abbrev pub span_read : Plan → ℕ → ℕ → ℕ
span_read p r v = of_row p r (λ (i : ℕ). span_of (entry_at p.entries i v))

abbrev pub targets_read : Plan → ℕ → ℕ → ℕ
targets_read p r v = of_row p r (λ (i : ℕ). aim_of (entry_at p.entries i v))

-- the entry that stands there, none also where the row has no initiator
unfoldable pub entry_in : Plan → ℕ → ℕ → Option Entry
entry_in p r v = elim (at_place r (initiators p)) [ none ↦ none | some i ↦ entry_at p.entries i v ]

-- the initiator of a row owns it
pub owner_at : (p : Plan) (r i : ℕ) → at_place r (initiators p) ≡ some i → owner_of p r ≡ owner p i
unfolding owner_of of_row
owner_at p r i at = rw (at, owner_of, of_row)

-- what the targets and the span of an entry tell of what it permits
pub permits-told : (o : Owner) (targets span : ℕ) (e : Entry) → Tells o targets span e → (t n : ℕ)
    → member t targets && leb (least_span o.plan o.initiator t n) span ≡ permits o.plan e t n
unfolding permits fits
permits-told o targets span e tells t n =
    ap₂ ◌&&◌ (sym (tells.targets t))
    (sym (rw (tells.own, tells.span) (fits-by-least o.plan o.initiator t n span tells.some-span tells.short-span)))

module _ (p : Plan) (ok : Sound p) (r i : ℕ) (row : at_place r (initiators p) ≡ some i) (v span : ℕ) (is : span ≡ span_read p r v) where
  span-is : (o : Option Entry) → entry_at p.entries i v ≡ o → span ≡ span_of o
  span-is o h = is ∙ of_row_lem p r i _ row ∙ ap span_of h

  pub entry-told : (e : Entry) → entry_at p.entries i v ≡ some e → (targets : ℕ) → targets ≡ targets_read p r v → (span ≢ 0) × Tells (owner p i) targets span e
  unfolding span_of aim_of
  entry-told e h targets ts = (
    λ z. omega (arith, span-is (some e) h, ok.some-span e here),
    record {
      own = stands.own;
      targets = among;
      span = sym (span-is (some e) h);
      some-span = omega (arith, span-is (some e) h, ok.some-span e here);
      short-span = omega (arith, span-is (some e) h, ok.spans e here);
    },
  )
    where
      stands : StandsAt p.entries i v e
      stands = entry-at p.entries i v e h

      here : Memᴰ e p.entries
      here = stands.has

      -- a word has room for every target
      low : (t : ℕ) (b : Bool) → is_in t e.targets ≡ b → b ≡ ltb t 64 && b
      low t true q = rw (lt-ltb t 64 (ok.targets e here t (is_in-elim t e.targets q)))
      low t false q = sym (and-false (ltb t 64))

      among : (t : ℕ) → is_in t e.targets ≡ member t targets
      among t =
          low t (is_in t e.targets) refl
          ∙ sym (ap (member t) (ts ∙ of_row_lem p r i _ row ∙ ap aim_of h) ∙ member-packed t (λ (u : ℕ). is_in u e.targets))

  pub entry-none : entry_at p.entries i v ≡ none → span ≡ 0
  unfolding span_of
  entry-none h = span-is none h

-- the same of every row: an entry stands there, and the span is not 0, or none does, and it is 0
module _ (p : Plan) (ok : Sound p) (r v span : ℕ) (is : span ≡ span_read p r v) where
  abbrev Told : ℕ → Option Entry → Type 0
  Told targets o = ((e : Entry) × (o ≡ some e) × ((span ≢ 0) × Tells (owner_of p r) targets span e)) ⊎ ((o ≡ none) × (span ≡ 0))

  row_told : (targets : ℕ) → targets ≡ targets_read p r v → Told targets (entry_in p r v)
  unfolding entry_in
  row_told targets ts = row (at_place r (initiators p)) refl
    where
      slot : (i : ℕ) → at_place r (initiators p) ≡ some i → (o : Option Entry) → entry_at p.entries i v ≡ o → Told targets o
      slot i at none h = inr (refl, entry-none p ok r i at v span is h)
      slot i at (some e) h = let (d, t) = entry-told p ok r i at v span is e h targets ts in inl (e, refl, (d, rw (owner_at p r i at) t))

      row : (o : Option ℕ) → at_place r (initiators p) ≡ o → Told targets (elim o [ none ↦ none | some i ↦ entry_at p.entries i v ])
      row none at = inr (refl, is ∙ of-no-row p r _ at)
      row (some i) at = slot i at (entry_at p.entries i v) refl

  pub some_read : span ≢ 0 → (targets : ℕ) → targets ≡ targets_read p r v → (e : Entry) × (entry_in p r v ≡ some e) × Tells (owner_of p r) targets span e
  some_read d targets ts = ⊎_elim (λ s. (s.0, s.1, s.2.1)) (λ n. absurd (d n.1)) (row_told targets ts)

  pub none_read : span ≡ 0 → entry_in p r v ≡ none
  none_read z = ⊎_elim (λ s. absurd (s.2.0 z)) (λ n. n.0) (row_told (targets_read p r v) refl)
