-- The start of a request: nothing starts, or the one that is found leaves the line and is live.
use mathlib.Core.Path.{◌≡◌, refl, sym, ap, ◌∙◌}
use mathlib.Core.List.{List}
use mathlib.Core.Option.{Option, none, some}
use mathlib.Core.Bool.{false}
use Prim.Native.Nat.{ℕ, ◌+◌, ◌-◌, ◌*◌, ◌≤◌, ◌<◌}
use native.Mathlib.Omega.{arith}
use lib.ListN.{get_or, set}
use Rattle.std.specs.Prelude as code
use Rattle.std.specs.Prelude.{Some, None}
use Rattle.lists.specs.Options.{as_option}
use Rattle.lists.specs.Search.{is_some}
use Rattle.lists.specs.Place.{Found, first, at_place}
use Rattle.lists.specs.laws.Place.{first_some_lem, without-member, without-short}
use Rattle.lists.specs.laws.Lines.{at-below}
use Rattle.rules_plan.specs.Plan.{Entry}
use Rattle.rules_box.specs.State.{Request, Side}
use Rattle.rules_box.specs.Turn.{Start, allows, start_at, starting, fresh, begun}
use Rattle.rules_box.specs.laws.Fit.{FitSide}
use Rattle.memory_plan.specs.View.{place_or, Owner}
use Rattle.memory_run.specs.Run.{live_word, live_time, row_of}
use Rattle.run_line.specs.Line.{leaves}
use Rattle.run_turns.specs.Turns.{started_of, StartsAt}
use Rattle.memory_run.specs.laws.RowWords.{place_at, live-set}

-- the answer and the row once a start has been made, or none
abbrev pub Begins : Owner → Side → Option Start → code.Option ℕ → List ℕ → Type 0
Begins m s o r row = (r ≡ as_option (started_of m o)) × (row ≡ row_of m (begun s o))

-- the same once the entry has been visited
abbrev pub Starts : Owner → Side → Entry → code.Option ℕ → List ℕ → Type 0
Starts m s e r row = Begins m s (starting m.plan (some e) s) r row

leaves-fit : (s : Side) (k : ℕ) → FitSide s → FitSide (leaves k s)
unfolding leaves
leaves-fit s k f = record {
  next = f.next;
  few = omega (arith, f.few, without-short s.line k);
  line = λ r m. f.line r (without-member s.line k r m);
  live = f.live;
}

-- the request at place k leaves the line and is live
pub begins-at : (m : Owner) (s : Side) → FitSide s → (row : List ℕ) → row ≡ row_of m s → (k span : ℕ) (x : Start) → StartsAt k span s x
    → (y : List ℕ) (t : ℕ) → y ≡ row_of m (leaves k s) → t ≡ (span - 0) * 256 + span
    → Begins m s (some x) (Some (get_or row (k + 2) 0)) (set (set y 10 (get_or row (k + 2) 0)) 11 t)
unfolding started_of begun fresh row_of leaves live_word live_time
begins-at m s f row is k span x a y t ey et =
    let w = place_at m s f row is k x.found.what a.what in
    (rw w, live-set m (leaves k s) (leaves-fit s k f) y ey (get_or row (k + 2) 0) t ∙ rw (w, et, a.place, a.span))

module _ (m : Owner) (s : Side) (f : FitSide s) (row : List ℕ) (is : row ≡ row_of m s) (e : Entry) where
  starts_none : starting m.plan (some e) s ≡ none → Starts m s e None row
  unfolding started_of begun
  starts_none h = (rw h, rw h is)

  module _ (free : is_some s.live ≡ false) (k : ℕ) (at : k ≡ place_or 8 (first (allows m.plan e) s.line)) where
    sought : starting m.plan (some e) s ≡ start_at e (first (allows m.plan e) s.line)
    unfolding starting
    sought = rw (free, starting)

    stands : (g : Found Request) → first (allows m.plan e) s.line ≡ some g → at_place g.place s.line ≡ some g.what
    stands g h = (first_some_lem (allows m.plan e) s.line g h).0

    -- what is found stands within the line, so that 8 tells none
    none_found : 8 ≤ k → (o : Option (Found Request)) → first (allows m.plan e) s.line ≡ o → o ≡ none
    unfolding place_or
    none_found h none q = refl
    none_found h (some g) q =
        let z : k ≡ g.place = at ∙ ap (place_or 8) q in
        absurd (omega (arith, f.few, at-below g.place s.line g.what (stands g q)))

    one_found : k < 8 → (o : Option (Found Request)) → first (allows m.plan e) s.line ≡ o → (g : Found Request) × (o ≡ some g) × (k ≡ g.place)
    unfolding place_or
    one_found h none q = let z : k ≡ 8 = at ∙ ap (place_or 8) q in absurd (omega arith)
    one_found h (some g) q = (g, refl, at ∙ ap (place_or 8) q)

    pub starts-nothing : 8 ≤ k → Starts m s e None row
    unfolding start_at
    starts-nothing h = starts_none (sought ∙ ap (start_at e) (none_found h (first (allows m.plan e) s.line) refl))

    pub starts-one : k < 8 → (span : ℕ) → e.span ≡ span → (r : code.Option ℕ) (y : List ℕ) → ((x : Start) → StartsAt k span s x → Begins m s (some x) r y) → Starts m s e r y
    unfolding start_at
    starts-one h span es r y does =
        let (g, q, z) = one_found h (first (allows m.plan e) s.line) refl in
        rw (sought ∙ ap (start_at e) q)
        (does (record { entry = e; found = g }) (record { place = sym z; what = ap (λ (j : ℕ). at_place j s.line) z ∙ stands g q; span = es }))
