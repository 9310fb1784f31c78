-- The rows of the replies, each at the place of its path, have the replies of the plan in the order of writing out: a pair has one at most, and
-- each has its path. So a row of a path and that of its reply tell which links a transaction uses.
use Rattle.std.specs.Prelude.{◌≡◌, ◌⊎◌, Bool, false, not, ◌&&◌, ℕ, ◌≤◌, length, eqb}
use Rattle.std.proofs.Math.Path.{refl, sym, ap}
use Rattle.std.proofs.Common.{◌∙◌, arith}
use Rattle.std.proofs.Math.Logic.{inl, inr}
use mathlib.Core.List.Memᴰ
use mathlib.Core.List.{List, [], ◌∷◌, map, flat_map, Memᴰ}
use Rattle.std.proofs.Math.Option.{Option, none, some}
use Rattle.std.proofs.Math.Bool.{true, and_comm}
use borrow.Author.Tests.{eqb-true, eq-eqb, ne_eqb, not-false}
use Rattle.lists.specs.Search.{find, keep, only, repeats, below64}
use Rattle.lists.specs.Order.{in_order}
use Rattle.lists.specs.laws.Bools.{both_true, true-both, not-both}
use Rattle.lists.specs.laws.Search.{keep_same, any-elim, find-some}
use Rattle.lists.specs.laws.Found.{find-one}
use Rattle.lists.specs.laws.Order.{flat-same, flat-only, one-pair}
use Rattle.lists.specs.laws.Kept.{Kept, nothing, one, kept}
use Rattle.lists.specs.laws.Flat.{flat-map, flat-nil, flat-one, flat-singles, flat-orders}
use Rattle.rules_plan.specs.Plan.{Route, Plan, Item, reply}
use Rattle.rules_plan.specs.Meaning.{leads_from, has_path, uses}
use Rattle.rules_plan.specs.Promises.{OnPath}
use Rattle.rules_plan.specs.laws.Uses.{on-path}
use Rattle.rules_plan.specs.Judge.{no_path}
use Rattle.rules_plan.specs.Canon.{items}
use Rattle.rules_plan.specs.Good.{Each, same_path_ends}
use Rattle.rules_plan.specs.laws.Items.{reply-in}
use Rattle.rules_plan.specs.laws.Lengths.{Sized, reply-length}
use Rattle.memory_plan.specs.laws.PathRows.{reply-none, reply-some}
use Rattle.memory_plan.specs.Memory.{paths_in_order, turned, no_route, reply_of, replies_in_order}

-- a row with links is that of a reply
unfoldable pub is_given : Route → Bool
is_given x = not (eqb (length x.links) 0)

turned-twice : (ys : List Route) → map turned (map turned ys) ≡ ys
unfolding turned
turned-twice [] = refl
turned-twice (y ∷ ys) = ap (λ l. y ∷ l) (turned-twice ys)

module _ (p : Plan) (lengths : (x : Item) → Memᴰ x (items p) → Sized x) (paths-once : repeats same_path_ends p.paths ≡ false)
    (replies-once : repeats same_path_ends p.replies ≡ false) (reached : Each p (no_path p) false) where
  -- a reply has its path
  pub has-command : (y : Route) → Memᴰ y p.replies → has_path p y.end y.start ≡ true
  unfolding no_path
  has-command y m = not-false _ (reached (reply y) (reply-in p y m))

  command : (y : Route) → Memᴰ y p.replies → (x : Route) × Memᴰ x p.paths × (x.start ≡ y.end) × (x.end ≡ y.start)
  unfolding has_path leads_from
  command y m =
      let (x, n, h) = any-elim (leads_from y.end y.start) p.paths (has-command y m) in
      let (c, d) = both_true (eqb y.end x.start) (eqb y.start x.end) h in
      (x, n, sym (eqb-true y.end x.start c), sym (eqb-true y.start x.end d))

  one-reply : (a b : ℕ) → length (keep (leads_from a b) p.replies) ≤ 1
  unfolding leads_from same_path_ends
  one-reply a b = one-pair (λ y. y.start) (λ y. y.end) p.replies replies-once a b

  homeward : (x y : Route) → x.start ≡ y.end → x.end ≡ y.start → leads_from x.end x.start y ≡ true
  unfolding leads_from
  homeward x y a b = true-both (eq-eqb x.end y.start b) (eq-eqb x.start y.end a)

  some-links : (y : Route) → Memᴰ y p.replies → is_given (turned y) ≡ true
  unfolding is_given turned
  some-links y m = rw (ne_eqb (length y.links) 0 (λ e. omega (arith, (reply-length y (lengths (reply y) (reply-in p y m))).0)))

  -- the row of a path, where it has a reply
  row : Route → List Route
  row x = only (is_given (reply_of p.replies x)) (reply_of p.replies x)

  -- of one pair
  module _ (i t : ℕ) where
    at : (x : Route) {o : Option Route} → eqb i x.start ≡ true → eqb t x.end ≡ true → find (leads_from t i) p.replies ≡ o → find (leads_from x.end x.start) p.replies ≡ o
    at x c d f = rw (← eqb-true i x.start c, ← eqb-true t x.end d) f

    by-pair : Kept (leads_from i t) p.paths → Kept (leads_from t i) p.replies
        → flat_map row (keep (leads_from i t) p.paths) ≡ flat_map (λ (y : Route). turned y ∷ []) (keep (leads_from t i) p.replies)
    unfolding has_path leads_from is_given no_route row only
    by-pair (nothing k f a) (nothing l g b) = rw (k, l, flat-nil row) (sym (flat-nil (λ (y : Route). turned y ∷ [])))
    by-pair (nothing k f a) (one y l g b e) =
        let (m, h) = find-some (leads_from t i) p.replies y g in
        let (c, d) = both_true (eqb t y.start) (eqb i y.end) h in
        let here : has_path p i t ≡ true = rw (eqb-true i y.end d, eqb-true t y.start c) (has-command y m) in
        not-both here a
    by-pair (one x k f a e) (nothing l g b) =
        let (c, d) = both_true (eqb i x.start) (eqb t x.end) e in
        rw (k, l, flat-one row x, reply-none p.replies x (at x c d g)) (sym (flat-nil (λ (y : Route). turned y ∷ [])))
    by-pair (one x k f a e) (one y l g b h) =
        let (c, d) = both_true (eqb i x.start) (eqb t x.end) e in
        rw (k, l, flat-one row x, flat-one (λ (y : Route). turned y ∷ []) y, reply-some p.replies x y (at x c d g), some-links y (find-some (leads_from t i) p.replies y g).0)

    pair-rows : flat_map row (keep (λ (x : Route). eqb i x.start && eqb t x.end) p.paths)
        ≡ flat_map (λ (y : Route). turned y ∷ []) (keep (λ (y : Route). eqb i y.end && eqb t y.start) p.replies)
    unfolding leads_from same_path_ends
    pair-rows =
        by-pair (kept (leads_from i t) p.paths (one-pair (λ x. x.start) (λ x. x.end) p.paths paths-once i t))
        (kept (leads_from t i) p.replies (one-reply t i))
        ∙ ap (flat_map (λ (y : Route). turned y ∷ [])) (keep_same _ _ p.replies (λ y _. and_comm (eqb t y.start) (eqb i y.end)))

  pub rows-given : keep is_given (replies_in_order p) ≡ map turned (in_order (λ (y : Route). y.end) (in_order (λ (y : Route). y.start) p.replies))
  unfolding replies_in_order paths_in_order row
  rows-given =
      sym (flat-only is_given (replies_in_order p)) ∙ flat-map (λ x. only (is_given x) x) (reply_of p.replies) (paths_in_order p)
      ∙ flat-orders row (λ x. x.start) (λ x. x.end) p.paths
      ∙ flat-same _ _ below64 (λ i _. flat-same _ _ below64 (λ t _. pair-rows i t))
      ∙ sym (flat-orders (λ y. turned y ∷ []) (λ y. y.end) (λ y. y.start) p.replies)
      ∙ flat-singles turned _

  -- so the rows tell the replies
  pub replies-told : in_order (λ (y : Route). y.end) (in_order (λ (y : Route). y.start) p.replies) ≡ map turned (keep is_given (replies_in_order p))
  replies-told = sym (ap (map turned) rows-given ∙ turned-twice _)

  -- a transaction uses a link exactly when the path of its pair goes over it, or that path's row of the replies does
  abbrev pub OnWay : Route → ℕ → Type 0
  OnWay x l = Memᴰ l x.links ⊎ Memᴰ l (reply_of p.replies x).links

  pub way-used : (x : Route) → Memᴰ x p.paths → (l : ℕ) → OnWay x l → uses p x.start x.end l ≡ true
  unfolding leads_from no_route turned
  way-used x m l (inl o) = (on-path p x.start x.end l).1 (inl (record { route = x; has = m; from = refl; to = refl; on = o }))
  way-used x m l (inr o) = go (find (leads_from x.end x.start) p.replies) refl
    where
      go : (f : Option Route) → find (leads_from x.end x.start) p.replies ≡ f → uses p x.start x.end l ≡ true
      go none f = absurd (Memᴰ.not-nil (rw (reply-none p.replies x f) at o))
      go (some y) f =
          let (n, h) = find-some (leads_from x.end x.start) p.replies y f in
          let (c, d) = both_true (eqb x.end y.start) (eqb x.start y.end) h in
          (on-path p x.start x.end l).1 (inr (record { route = y; has = n; from = eqb-true _ _ c; to = eqb-true _ _ d; on = rw (reply-some p.replies x y f) at o }))

  -- a path of the pair i, t that goes over link l, or whose reply does
  pub record Way (i t l : ℕ) : Type 0 where
    pub route : Route
    pub has : Memᴰ route p.paths
    pub from : route.start ≡ i
    pub to : route.end ≡ t
    pub on : OnWay route l

  pub used-way : (i t l : ℕ) → uses p i t l ≡ true → Way i t l
  unfolding turned
  used-way i t l u = go ((on-path p i t l).0 u)
    where
      go : OnPath p i t l → Way i t l
      go (inl o) = record { route = o.route; has = o.has; from = sym o.from; to = sym o.to; on = inl o.on }
      go (inr o) = home o.route o.has o.from o.to o.on
        where
          home : (y : Route) → Memᴰ y p.replies → t ≡ y.start → i ≡ y.end → Memᴰ l y.links → Way i t l
          home y m a b c =
              let (x, n, d, e) = command y m in
              let found = find-one (leads_from x.end x.start) p.replies y (one-reply x.end x.start) m (homeward x y d e) in
              record { route = x; has = n; from = d ∙ sym b; to = e ∙ sym a; on = inr (rw (reply-some p.replies x y found) c) }
