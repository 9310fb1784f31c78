-- What rows 7 and 11 ask of a reply, read off the memory of a fair plan.
use Rattle.std.specs.Prelude.{◌≡◌, Bool, ℕ, ◌+◌, ◌*◌, ◌≤◌, ◌<◌, length}
use Rattle.std.proofs.Math.Path.{refl}
use Rattle.std.proofs.Common.{sym, ◌∙◌, arith}
use mathlib.Core.List.{List, Memᴰ}
use Rattle.std.proofs.Math.Option.{Option, none, some}
use Rattle.std.proofs.Math.Bool.{true, false, not}
use Rattle.std.proofs.Math.Decide.{dec_lt}
use Rattle.std.proofs.Math.Dec.{eqb}
use borrow.Author.Tests.{lt-ltb, le-ltb, eqb-true, eq-eqb, ne_eqb}
use Rattle.lists.specs.Search.{find}
use Rattle.lists.specs.Place.{at_place}
use Rattle.lists.specs.laws.Bools.{both_true, true-both, not-both}
use Rattle.lists.specs.laws.Search.{any-elim, any-intro, find-some, find_none}
use Rattle.rules_plan.specs.Plan.{nth, Route, Plan, reply}
use Rattle.rules_plan.specs.Meaning.{leads_from, has_route, has_path}
use Rattle.rules_plan.specs.laws.Fair.{Fair}
use Rattle.rules_plan.specs.laws.Items.{reply-in}
use Rattle.rules_plan.specs.laws.Lengths.{reply-length}
use Rattle.memory_plan.specs.Memory.{paths_in_order, turned, no_route, reply_of, paths_of}
use Rattle.memory_plan.specs.laws.PathRows.{count-byte, reply-none, reply-some, path-at, reply-rows, reply-at}
use Rattle.memory_plan.specs.laws.Replies.{has-command}
use Rattle.memory_plan.specs.Take.{item_fault, reply_item}
use Rattle.load_path_faults.specs.Routes.{route, route_fault}
use Rattle.load_path_faults.specs.laws.Routes.{reply-fault}
use Rattle.load_path_places.specs.Places.{PathAt}
use Rattle.load_replies.specs.Home.{has_row}

-- a reply of the pair has its path
command : (p : Plan) → Fair p → (i t : ℕ) (y : Route) → Memᴰ y p.replies → leads_from t i y ≡ true → has_path p i t ≡ true
unfolding leads_from
command p f i t y m h =
    let (c, d) = both_true (eqb t y.start) (eqb i y.end) h in
    rw (eqb-true t y.start c, eqb-true i y.end d) (has-command p f.lengths f.lists.paths.once f.lists.replies f.reached y m)

module _ (p : Plan) (f : Fair p) {i t k : ℕ} (r : PathAt p i t k) where
  -- 7: where there is a path, its row of the replies
  given-read : (x : Route) → at_place k (paths_in_order p) ≡ some x → x.start ≡ i → x.end ≡ t → not (eqb (nth (paths_of p) ((128 + k) * 11 + 2)) 0) ≡ has_route p.replies t i
  unfolding leads_from turned no_route
  given-read x at from to =
      let rows = reply-rows p f.lengths f.ranges f.lists.paths.most in
      let count = count-byte rows k (128 + k) (reply_of p.replies x) (reply-at p f.lengths f.ranges k x at) refl in
      rw (count, ← from, ← to) (go (find (leads_from x.end x.start) p.replies) refl)
    where
      go : (o : Option Route) → find (leads_from x.end x.start) p.replies ≡ o → not (eqb (length (reply_of p.replies x).links) 0) ≡ has_route p.replies x.end x.start
      go none e = rw (reply-none p.replies x e) (no_one (has_route p.replies x.end x.start) refl)
        where
          no_one : (b : Bool) → has_route p.replies x.end x.start ≡ b → false ≡ b
          no_one false g = refl
          no_one true g = let (y, m, h) = any-elim (leads_from x.end x.start) p.replies g in absurd (find_none (leads_from x.end x.start) p.replies y e m h)
      go (some y) e =
          let (m, h) = find-some (leads_from x.end x.start) p.replies y e in
          let some-link = (reply-length y (f.lengths (reply y) (reply-in p y m))).0 in
          rw (reply-some p.replies x y e, ne_eqb (length y.links) 0 (λ z. omega arith)) (sym (any-intro (leads_from x.end x.start) p.replies y m h))

  -- without a path there is no reply
  no-reply : has_path p i t ≡ false → (b : Bool) → has_route p.replies t i ≡ b → b ≡ false
  no-reply n false e = refl
  no-reply n true e = let (y, m, h) = any-elim (leads_from t i) p.replies e in not-both (command p f i t y m h) n

  pub again-read : has_row (paths_of p) k ≡ has_route p.replies t i
  unfolding has_row
  again-read = go (dec_lt k 128)
    where
      go : Dec (k < 128) → has_row (paths_of p) k ≡ has_route p.replies t i
      go (yes l) = let (x, at, from, to) = r.found l in rw (lt-ltb k 128 l) (given-read x at from to)
      go (no l) = rw (le-ltb k 128 (omega arith)) (sym (no-reply (r.missed (omega arith)) (has_route p.replies t i) refl))

  -- 11
  pub alone-read : k ≤ 128 → eqb k 128 ≡ not (has_path p i t)
  unfolding has_path leads_from
  alone-read h = go (dec_lt k 128)
    where
      go : Dec (k < 128) → eqb k 128 ≡ not (has_path p i t)
      go (yes l) =
          let (x, at, from, to) = r.found l in
          let here : has_path p i t ≡ true = any-intro (leads_from i t) p.paths x (path-at p f.lengths f.ranges k x at) (true-both (eq-eqb i x.start (sym from)) (eq-eqb t x.end (sym to))) in
          rw (ne_eqb k 128 (λ e. omega arith), here)
      go (no l) = rw (eq-eqb k 128 (omega arith), r.missed (omega arith))

  -- so the verdict on its route is that on the reply
  pub reply-verdict : (ls : List ℕ) (again alone : Bool) → k ≤ 128 → again ≡ has_row (paths_of p) k → alone ≡ eqb k 128
      → route_fault p (route t i ls) again false alone ≡ item_fault p (reply_item i t ls)
  reply-verdict ls again alone h a b = rw (a ∙ again-read, b ∙ alone-read h) (sym (reply-fault p (route t i ls)))
