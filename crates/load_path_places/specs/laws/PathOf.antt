-- The path of a pair stands one before the place that a search for its pair finds.
use Rattle.std.specs.Prelude.{◌≡◌, refl, ◌≢◌, Bool, true, false, ℕ, ◌+◌, ◌-◌, ◌*◌, ◌≤◌, ◌<◌, eqb}
use Rattle.std.proofs.Math.Path.{sym}
use Rattle.std.proofs.Common.{ap, ◌∙◌}
use mathlib.Core.List.{List, Memᴰ}
use Rattle.std.proofs.Math.Option.{some}
use native.Mathlib.Omega.{arith}
use Rattle.std.proofs.Math.Decide.{dec_lt}
use Rattle.std.proofs.Math.ListN.{length}
use borrow.Author.Tests.{eqb-true}
use Rattle.lists.specs.Place.{at_place}
use Rattle.lists.specs.laws.Bools.{both_true}
use Rattle.lists.specs.laws.Search.{any-elim}
use Rattle.lists.specs.laws.At.{at_some, at-within, at_split}
use Rattle.lists.specs.laws.Place.{at-seam}
use Rattle.lists.specs.laws.Insert.{Before, Inserted, orders-member}
use Rattle.rules_plan.specs.Plan.{nth, Route, Plan}
use Rattle.rules_plan.specs.Meaning.{leads_from, has_path}
use Rattle.rules_plan.specs.Good.{same_path_ends}
use Rattle.rules_plan.specs.laws.Fair.{Fair}
use Rattle.rules_plan.specs.laws.InRange.{path-ranged}
use Rattle.memory_plan.specs.Memory.{paths_in_order, paths_of}
use Rattle.memory_plan.specs.laws.PathRows.{RowsFrom, path-count, path-rows, start-byte, end-byte}
use Rattle.load_path_places.specs.Places.{precedes, precedes_at, IsPlace, PathAt}
use Rattle.load_path_places.specs.laws.PathPlace.{later-target, before-precedes, behind-precedes}

module _ (p : Plan) (f : Fair p) where
  as_many : length (paths_in_order p) ≡ length p.paths
  as_many = path-count p f.lengths f.ranges

  abbrev rows : RowsFrom (paths_of p) 0 (paths_in_order p)
  rows = path-rows p f.lengths f.ranges

  -- path x at its place, with those before it and those behind it
  module _ (x : Route) {ys : List Route}
      (i : Inserted (λ y. Before y.start y.end x.start x.end) (λ y. Before x.start x.end y.start y.end) ys x (paths_in_order p)) where
    abbrev j : ℕ
    j = length i.before

    tested : (k : ℕ) (y : Route) → at_place k (paths_in_order p) ≡ some y → precedes_at (paths_of p) x.start x.end k ≡ precedes x.start x.end y.start y.end
    tested k y at = rw (start-byte rows k k y at (omega arith), end-byte rows k k y at (omega arith))

    -- where row k stands
    stands : (k : ℕ) (y : Route) → at_place k (paths_in_order p) ≡ some y → (k < j → Memᴰ y i.before) × (k ≡ j → y ≡ x) × (j < k → Memᴰ y i.behind)
    stands k y at = at_split i.before x i.behind k y (rw i.new at at)

    up_to : (k : ℕ) → k < j + 1 → k < length p.paths → precedes_at (paths_of p) x.start x.end k ≡ false
    up_to k h l =
        let (y, at) = at_some (paths_in_order p) k (omega (arith, as_many)) in
        tested k y at ∙ go y (stands k y at) (dec_lt k j)
      where
        go : (y : Route) → (k < j → Memᴰ y i.before) × (k ≡ j → y ≡ x) × (j < k → Memᴰ y i.behind) → Dec (k < j) → precedes x.start x.end y.start y.end ≡ false
        go y s (yes b) = behind-precedes _ _ _ _ (i.less y (s.0 b))
        go y s (no b) = rw (s.1 (omega arith)) (later-target _ _ _ _ refl (omega arith))

    behind : (k : ℕ) → j + 1 ≤ k → k < length p.paths → precedes_at (paths_of p) x.start x.end k ≡ true
    behind k h l =
        let (y, at) = at_some (paths_in_order p) k (omega (arith, as_many)) in
        tested k y at ∙ before-precedes _ _ _ _ (i.more y ((stands k y at).2 (omega arith)))

    here : at_place j (paths_in_order p) ≡ some x
    here = rw i.new (at-seam i.before x i.behind)

    next_place : IsPlace (paths_of p) (length p.paths) x.start x.end (j + 1)
    next_place =
        let l = at-within (paths_in_order p) j x here in
        record { within = omega (arith, as_many); less = λ k h. up_to k h (omega (arith, as_many)); more = behind }

  module _ {paths : List ℕ} {count i t r : ℕ} (held : paths ≡ paths_of p) (all : count ≡ length p.paths) (place : (r ≤ count) × ((m : ℕ) → IsPlace paths count i t m → r ≡ m)) where
    -- the path of the pair stands one before the place that was found
    record Stands (x : Route) : Type 0 where
      from : x.start ≡ i
      to : x.end ≡ t
      some-place : 0 < r
      at : at_place (r - 1) (paths_in_order p) ≡ some x

    at-is : (x : Route) (m : ℕ) → i ≡ x.start → t ≡ x.end → IsPlace (paths_of p) (length p.paths) x.start x.end m → r ≡ m
    at-is x m a b q = place.1 m (rw (held, all, a, b) q)

    one-before : has_path p i t ≡ true → (x : Route) × Stands x
    unfolding has_path leads_from paths_in_order same_path_ends
    one-before h =
        let (x, m, e) = any-elim (leads_from i t) p.paths h in
        let (a, b) = both_true (eqb i x.start) (eqb t x.end) e in
        let from : i ≡ x.start = eqb-true i x.start a in
        let to : t ≡ x.end = eqb-true t x.end b in
        let w = path-ranged p f.ranges x m in
        let (ys, v) = orders-member (λ (y : Route). y.start) (λ (y : Route). y.end) p.paths x w.start w.end m f.lists.paths.once in
        let q : r ≡ length v.before + 1 = at-is x (length v.before + 1) from to (next_place x v) in
        let z : r - 1 ≡ length v.before = omega arith in
        (x, record { from = sym from; to = sym to; some-place = omega arith; at = rw z (here x v) })

    missing : ((x : Route) → Stands x → ⊥) → PathAt p i t 128
    missing n = record { found = λ l. absurd (omega arith); missed = λ l. go (has_path p i t) refl }
      where
        go : (b : Bool) → has_path p i t ≡ b → has_path p i t ≡ false
        go false e = e
        go true e = let (x, s) = one-before e in absurd (n x s)

    pub not-at-0 : r ≡ 0 → PathAt p i t 128
    not-at-0 e = missing (λ x s. omega (arith, s.some-place))

    byte : (n : ℕ) → nth paths n ≡ nth (paths_of p) n
    byte n = ap (λ l. nth l n) held

    pub other-start : nth paths ((r - 1) * 11) ≢ i → PathAt p i t 128
    other-start n = missing (λ x s. n (byte _ ∙ start-byte rows (r - 1) (r - 1) x s.at (omega arith) ∙ s.from))

    pub other-end : nth paths ((r - 1) * 11 + 1) ≢ t → PathAt p i t 128
    other-end n = missing (λ x s. n (byte _ ∙ end-byte rows (r - 1) (r - 1) x s.at (omega arith) ∙ s.to))

    pub at-place : 0 < r → nth paths ((r - 1) * 11) ≡ i → nth paths ((r - 1) * 11 + 1) ≡ t → PathAt p i t (r - 1)
    at-place l a b =
        let (x, at) = at_some (paths_in_order p) (r - 1) (omega (arith, as_many, place.0)) in
        record {
          found = λ _. (x, at, sym (byte _ ∙ start-byte rows (r - 1) (r - 1) x at (omega arith)) ∙ a, sym (byte _ ∙ end-byte rows (r - 1) (r - 1) x at (omega arith)) ∙ b);
          missed = λ h. absurd (omega (arith, f.lists.paths.most, place.0));
        }
