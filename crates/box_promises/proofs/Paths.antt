-- The bytes of a path in memory, and of its reply, say which links a transaction uses.
use mathlib.Core.Path.{◌≡◌, refl, sym, ◌∙◌}
use mathlib.Core.Logic.{◌⊎◌, inl, inr}
use mathlib.Core.List.{List, Memᴰ}
use mathlib.Core.Option.{Option, none, some}
use mathlib.Core.Bool.{true, ◌&&◌, ◌||◌, or-true}
use Prim.Native.Nat.{ℕ, ◌+◌, ◌*◌}
use native.Mathlib.Omega.{arith}
use lib.ListN.{length}
use lib.Dec.{eqb}
use borrow.Author.Tests.{eqb-true, eq-eqb}
use Rattle.lists.specs.Search.{is_in}
use Rattle.lists.specs.Place.{at_place}
use Rattle.lists.specs.laws.Bools.{both_true, true-both, either, same_test}
use Rattle.lists.specs.laws.Search.{is_in-elim, is_in-intro}
use Rattle.lists.specs.laws.Numbers.{any-true}
use Rattle.lists.specs.laws.Sweep.{any_below_lem}
use Rattle.lists.specs.laws.At.{member-at, at_some}
use Rattle.rules_plan.specs.Plan.{nth, Route, Plan}
use Rattle.rules_plan.specs.Meaning.{uses}
use Rattle.rules_plan.specs.laws.Fair.{Fair, blank-fair, good-fair}
use Rattle.memory_plan.specs.Memory.{paths_in_order, reply_of, paths_of, numbers_with}
use Rattle.memory_plan.specs.laws.PathRows.{RowsFrom, start-byte, end-byte, count-byte, link-bytes, path-count, to-order, path-at, path-rows, reply-rows, reply-at}
use Rattle.memory_plan.specs.laws.Replies.{way-used, used-way}
use Rattle.rules_box.specs.State.{Box, the_plan}
use Rattle.rules_box.specs.History.{Reached}
use Rattle.box_calls.specs.Calls.{Memory}
use Rattle.box_promises.specs.Words.{links_in, is_path, path_has}
use Rattle.box_promises.specs.Promises.{HeldBy}
use Rattle.box_promises.proofs.Held.{reached-good}

-- a box's plan is fair
fair : (b : Box) → Reached b → Fair (the_plan b)
unfolding the_plan
fair b r = go b.plan refl
  where
    go : (o : Option Plan) → b.plan ≡ o → Fair (the_plan b)
    go none is = rw (is, the_plan) blank-fair
    go (some p) is = rw (is, the_plan) (good-fair p (reached-good b r p is))

module _ (m : Memory) (b : Box) (h : HeldBy m b) (i t l : ℕ) where
  abbrev p : Plan
  p = the_plan b

  f : Fair p
  f = fair b h.reached

  -- the links of row number n
  links-are : {first : ℕ} {xs : List Route} → RowsFrom (paths_of p) first xs → (k n : ℕ) (x : Route) → at_place k xs ≡ some x → n ≡ first + k → links_in m n ≡ x.links
  unfolding links_in
  links-are r k n x at is =
      let turn : 11 * n ≡ n * 11 = omega arith in
      rw (h.at.plan.paths, turn, count-byte r k n x at is, link-bytes r k n x at is)

  rows : RowsFrom (paths_of p) 0 (paths_in_order p)
  rows = path-rows p f.lengths f.ranges

  -- the row of a path, and that of its reply
  row_is : (k : ℕ) (x : Route) → at_place k (paths_in_order p) ≡ some x → is_path m i t l k ≡ eqb x.start i && eqb x.end t && (is_in l x.links || is_in l (reply_of p.replies x).links)
  unfolding is_path
  row_is k x at =
      let n : 11 * k ≡ k * 11 = omega arith in
      let own = links-are rows k k x at (omega arith) in
      let home = links-are (reply-rows p f.lengths f.ranges f.lists.paths.most) k (128 + k) (reply_of p.replies x) (reply-at p f.lengths f.ranges k x at) refl in
      rw (own, home, h.at.plan.paths, n, start-byte rows k k x at (omega arith), end-byte rows k k x at (omega arith))

  all : nth m.numbers 3 ≡ length p.paths
  unfolding numbers_with
  all = rw h.at.plan.numbers

  as_many : length (paths_in_order p) ≡ length p.paths
  as_many = path-count p f.lengths f.ranges

  row-uses : (k : ℕ) (x : Route) → at_place k (paths_in_order p) ≡ some x → is_path m i t l k ≡ true → uses p i t l ≡ true
  row-uses k x at is =
      let a = both_true (eqb x.start i && eqb x.end t) (is_in l x.links || is_in l (reply_of p.replies x).links) (sym (row_is k x at) ∙ is) in
      let c = both_true (eqb x.start i) (eqb x.end t) a.0 in
      let used = way-used p f.lengths f.lists.paths.once f.lists.replies f.reached x (path-at p f.lengths f.ranges k x at) l (on (either _ _ a.1)) in
      rw (← eqb-true x.start i c.0, ← eqb-true x.end t c.1) used
    where
      on : (is_in l x.links ≡ true) ⊎ (is_in l (reply_of p.replies x).links ≡ true) → Memᴰ l x.links ⊎ Memᴰ l (reply_of p.replies x).links
      on (inl e) = inl (is_in-elim l x.links e)
      on (inr e) = inr (is_in-elim l (reply_of p.replies x).links e)

  there : path_has m i t l ≡ true → uses p i t l ≡ true
  unfolding path_has
  there e =
      let (k, within, is) = any-true (nth m.numbers 3) (is_path m i t l) e in
      let (x, at) = at_some (paths_in_order p) k (omega (arith, all, as_many)) in
      row-uses k x at is

  back : uses p i t l ≡ true → path_has m i t l ≡ true
  unfolding path_has
  back e =
      let w = used-way p f.lengths f.lists.paths.once f.lists.replies f.reached i t l e in
      let x = w.route in
      let (k, within, at) = member-at (paths_in_order p) x (to-order p f.lengths f.ranges x w.has) in
      any_below_lem (nth m.numbers 3) (is_path m i t l) k (omega (arith, all, as_many))
      (row_is k x at ∙ true-both (true-both (eq-eqb x.start i w.from) (eq-eqb x.end t w.to)) (on x w.on))
    where
      on : (x : Route) → Memᴰ l x.links ⊎ Memᴰ l (reply_of p.replies x).links → is_in l x.links || is_in l (reply_of p.replies x).links ≡ true
      on x (inl o) = rw (is_in-intro l x.links o)
      on x (inr o) = rw (is_in-intro l (reply_of p.replies x).links o) (or-true (is_in l x.links))

  pub path-says : path_has m i t l ≡ uses p i t l
  path-says = same_test (path_has m i t l) (uses p i t l) there back
