-- One side at a time-code: what outlives the report of lateness, what starts, and what is then live and waiting.
use Rattle.std.specs.Prelude.{◌≡◌, ◌⊎◌, Bool, true, false, ℕ, ◌+◌, ◌<◌, leb}
use Rattle.std.proofs.Math.Path.{refl, ap}
use Rattle.std.proofs.Common.{sym, ◌∙◌, leb-false}
use Rattle.std.proofs.Math.Logic.{inl, inr}
use mathlib.Core.List.{Memᴰ}
use Rattle.std.proofs.Math.Option.{Option, none, some}
use Rattle.lists.specs.Search.{is_some}
use Rattle.lists.specs.Place.{Found, first, without}
use Rattle.lists.specs.laws.Bools.{none-some, some-some, not_some}
use Rattle.rules_plan.specs.Plan.{Entry, Plan}
use Rattle.rules_plan.specs.Meaning.{entry_at}
use Rattle.rules_plan.specs.laws.Runs.{StandsAt, entry-at}
use Rattle.rules_box.specs.State.{Side, with_line, with_live, Live, Request}
use Rattle.rules_box.specs.Turn.{Start, value_of, is_late, older, survives, aged, visited, allows, start_at, starting, fresh, begun, start_of, turned}

-- what is still live after the report was live before, in sequence, with time left
pub record Outlives (q : Bool) (o : Option Live) (l : Live) : Type 0 where
  pub in-sequence : q ≡ true
  pub was : Live
  pub before : o ≡ some was
  pub is : l ≡ older was
  pub young : was.age + 1 < was.span

pub outlives : (q : Bool) (o : Option Live) (l : Live) → survives q o ≡ some l → Outlives q o l
unfolding survives is_late
outlives q none l h = none-some h
outlives false (some m) l h = none-some h
outlives true (some m) l h = go (leb m.span (m.age + 1)) refl
  where
    go : (x : Bool) → leb m.span (m.age + 1) ≡ x → Outlives true (some m) l
    go true k = none-some (rw (k, survives) at h)
    go false k = record {
      in-sequence = refl;
      was = m;
      before = refl;
      is = sym (some-some (rw (k, survives) at h));
      young = leb-false m.span (m.age + 1) k;
    }

pub visited-elim : (p : Plan) (q : Bool) (byte i : ℕ) (e : Entry) → visited p q byte i ≡ some e → (q ≡ true) × (entry_at p.entries i (value_of byte) ≡ some e)
unfolding visited
visited-elim p true byte i e h = (refl, h)
visited-elim p false byte i e h = none-some h

pub visited-has : (p : Plan) (q : Bool) (byte i : ℕ) (e : Entry) → visited p q byte i ≡ some e → Memᴰ e p.entries
visited-has p q byte i e h = (entry-at p.entries i (value_of byte) e (visited-elim p q byte i e h).1).has

pub record Starting (p : Plan) (o : Option Entry) (s : Side) (x : Start) : Type 0 where
  pub entry : o ≡ some x.entry
  pub free : s.live ≡ none
  pub found : first (allows p x.entry) s.line ≡ some x.found

pub starting-elim : (p : Plan) (o : Option Entry) (s : Side) (x : Start) → starting p o s ≡ some x → Starting p o s x
unfolding starting start_at
starting-elim p none s x h = none-some h
starting-elim p (some e) s x h = go (is_some s.live) refl (first (allows p e) s.line) refl
  where
    on : (f : Found Request) → s.live ≡ none → first (allows p e) s.line ≡ some f → record { entry = e; found = f } ≡ x → Starting p (some e) s x
    on f free is z = rw (← z) (record { entry = refl; free = free; found = is })

    go : (a : Bool) → is_some s.live ≡ a → (o : Option (Found Request)) → first (allows p e) s.line ≡ o → Starting p (some e) s x
    go true k o g = none-some (rw (k, starting) at h)
    go false k none g = none-some (rw (k, starting, g, start_at) at h)
    go false k (some f) g = on f (not_some s.live k) g (some-some (rw (k, starting, g, start_at) at h))

-- what a start says: in sequence, an entry stands at the value, nothing is live, and the request is the first in line that the entry
-- allows
pub record Begins (p : Plan) (q : Bool) (byte i : ℕ) (s : Side) (x : Start) : Type 0 where
  pub in-sequence : q ≡ true
  pub at : StandsAt p.entries i (value_of byte) x.entry
  pub free : survives q s.live ≡ none
  pub found : first (allows p x.entry) s.line ≡ some x.found

module _ (p : Plan) (q : Bool) (byte i : ℕ) (s : Side) where
  pub begins : (x : Start) → start_of p q byte i s ≡ some x → Begins p q byte i s x
  unfolding start_of aged
  begins x h =
      let z = starting-elim p (visited p q byte i) (aged q s) x h in
      let (seq, at) = visited-elim p q byte i x.entry z.entry in
      record { in-sequence = seq; at = entry-at p.entries i (value_of byte) x.entry at; free = z.free; found = z.found }

  -- and when there is one
  pub begins-at : (e : Entry) (f : Found Request) → q ≡ true → entry_at p.entries i (value_of byte) ≡ some e → survives q s.live ≡ none
      → first (allows p e) s.line ≡ some f → start_of p q byte i s ≡ some (record { entry = e; found = f })
  unfolding start_of starting start_at visited aged is_some
  begins-at e f seq at free is = rw (free, seq, at, is)

  pub turned-start : (x : Start) → start_of p q byte i s ≡ some x
      → turned p q byte i s ≡ with_line (without x.found.place s.line) (with_live (some (fresh x)) s)
  unfolding turned begun aged
  turned-start x h = rw (h, begun)

  pub turned-rest : start_of p q byte i s ≡ none → turned p q byte i s ≡ aged q s
  unfolding turned begun
  turned-rest h = rw (h, begun)

  -- what is live then: it was before, or it starts
  pub live-cases : (l : Live) → (turned p q byte i s).live ≡ some l → Outlives q s.live l ⊎ ((x : Start) × (start_of p q byte i s ≡ some x) × (l ≡ fresh x))
  unfolding aged
  live-cases l h = go (start_of p q byte i s) refl
    where
      go : (o : Option Start) → start_of p q byte i s ≡ o → Outlives q s.live l ⊎ ((x : Start) × (start_of p q byte i s ≡ some x) × (l ≡ fresh x))
      go none k = inl (outlives q s.live l (sym (ap (λ (z : Side). z.live) (turned-rest k)) ∙ h))
      go (some x) k = inr (x, k, some-some (sym h ∙ ap (λ (z : Side). z.live) (turned-start x k)))
