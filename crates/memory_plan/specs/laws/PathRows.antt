-- The rows of `paths`: the order of the paths there, their replies behind them, and what the eleven bytes of a row are.
use Rattle.std.specs.Prelude.{◌≡◌, refl, false, ℕ, suc, ◌+◌, ◌-◌, ◌*◌, ◌≤◌, take}
use Rattle.std.proofs.Math.Path.{sym, ap}
use Rattle.std.proofs.Common.{subst, ◌∙◌, add-zero, get_or-drop, drop-drop}
use mathlib.Core.List.Memᴰ
use mathlib.Core.List.{List, [], ◌∷◌, ◌++◌, map, flat_map, append_assoc, Memᴰ}
use Rattle.std.proofs.Math.Option.{Option, none, some}
use native.Mathlib.Omega.{arith}
use Rattle.std.proofs.Math.ListN.{length, drop, replicate, length-append, length-map}
use Rattle.std.proofs.lemmas.List.{length-replicate, replicate-append-replicate}
use Rattle.std.proofs.Math.Seq.{drop_at, take-append_seam}
use Rattle.lists.specs.Search.{find, repeats}
use Rattle.lists.specs.Place.{at_place}
use Rattle.lists.specs.Order.{Shuffled}
use Rattle.lists.specs.Cells.{padded}
use Rattle.lists.specs.laws.Cells.{length-padded}
use Rattle.lists.specs.laws.Shuffle.{eq-respects, each-shuffled, shuffled-sym, shuffled-length}
use Rattle.lists.specs.laws.Order.{pair-repeats, in_orders-shuffled}
use Rattle.lists.specs.laws.At.{at-member, at_map}
use Rattle.lists.specs.laws.Even.{flat-row}
use Rattle.lists.specs.laws.Chunks.{Wide, length-chunks}
use Rattle.lists.specs.laws.Search.{find-some}
use Rattle.rules_plan.specs.Plan.{nth, Route, Plan, Item, path, reply}
use Rattle.rules_plan.specs.Meaning.{leads_from}
use Rattle.rules_plan.specs.Judge.{out_of_range}
use Rattle.rules_plan.specs.Canon.{items}
use Rattle.rules_plan.specs.Good.{Each, same_path_ends}
use Rattle.rules_plan.specs.laws.Items.{path-in, reply-in}
use Rattle.rules_plan.specs.laws.Lengths.{Sized, path-length, reply-length}
use Rattle.rules_plan.specs.laws.InRange.{path-ranged}
use Rattle.memory_plan.specs.Memory.{path_row, paths_in_order, turned, no_route, reply_of, replies_in_order, places_for, paths_of}

-- eleven bytes
pub row-length : (x : Route) → length x.links ≤ 8 → length (path_row x) ≡ 11
unfolding path_row
row-length x h = omega (arith, length-padded 8 0 x.links h)

-- the row of a path whose reply has no way of its own, and of one that has
pub reply-none : (ys : List Route) (x : Route) → find (leads_from x.end x.start) ys ≡ none → reply_of ys x ≡ no_route
unfolding reply_of
reply-none ys x f = rw (f, reply_of)

pub reply-some : (ys : List Route) (x y : Route) → find (leads_from x.end x.start) ys ≡ some y → reply_of ys x ≡ turned y
unfolding reply_of
reply-some ys x y f = rw (f, reply_of)

-- routes of eight links at most, 128 of them at most: their list has its length
abbrev pub Short : List Route → Type 0
Short xs = (x : Route) → Memᴰ x xs → length x.links ≤ 8

pub wide : (xs : List Route) → Short xs → Wide path_row 11 xs
wide xs h x m = row-length x (h x m)

pub places-length : (xs : List Route) → Short xs → length xs ≤ 128 → length (places_for xs) ≡ 1408
unfolding places_for
places-length xs h l = length-padded 1408 0 _ (omega (arith, length-chunks path_row 11 xs (wide xs h)))

-- the bytes m have the rows of the routes xs from row number b on: what the bytes of row number n are, that of the route at place k
pub record RowsFrom (m : List ℕ) (b : ℕ) (xs : List Route) : Type 0 where
  pub short : Short xs
  pub behind : List ℕ
  pub rows : drop (b * 11) m ≡ flat_map path_row xs ++ behind

module _ {m : List ℕ} {b : ℕ} {xs : List Route} (r : RowsFrom m b xs) (k n : ℕ) (x : Route) (at : at_place k xs ≡ some x) (is : n ≡ b + k) where
  pub links-most : length x.links ≤ 8
  links-most = r.short x (at-member xs k x at)

  row : (rest : List ℕ) × (drop (n * 11) m ≡ path_row x ++ rest)
  row =
      let (rest, e) = flat-row path_row 11 xs r.behind (wide xs r.short) k x at in
      let f : n * 11 ≡ b * 11 + k * 11 = omega arith in
      (rest, ap (λ j. drop j m) f ∙ sym (drop-drop (k * 11) (b * 11) m) ∙ ap (drop (k * 11)) r.rows ∙ e)

  byte : (j : ℕ) → nth m (n * 11 + j) ≡ nth (path_row x ++ row.0) j
  byte j = sym (get_or-drop (n * 11) m j 0) ∙ ap (λ (l : List ℕ). nth l j) row.1

  pub start-byte : nth m (n * 11) ≡ x.start
  unfolding path_row
  start-byte = ap (nth m) (sym (add-zero (n * 11))) ∙ byte 0

  pub end-byte : nth m (n * 11 + 1) ≡ x.end
  unfolding path_row
  end-byte = byte 1

  pub count-byte : nth m (n * 11 + 2) ≡ length x.links
  unfolding path_row
  count-byte = byte 2

  pub link-bytes : take (length x.links) (drop (n * 11 + 3) m) ≡ x.links
  unfolding path_row padded
  link-bytes =
      let d : drop (n * 11 + 3) m ≡ x.links ++ (replicate (8 - length x.links) 0 ++ row.0) =
      sym (drop-drop 3 (n * 11) m) ∙ ap (drop 3) row.1 ∙ append_assoc x.links _ row.0 in
      rw d (take-append_seam x.links _)

module _ (p : Plan) (lengths : (x : Item) → Memᴰ x (items p) → Sized x) (ranges : Each p out_of_range false) where
  pub path-order : Shuffled ◌≡◌ p.paths (paths_in_order p)
  unfolding paths_in_order
  path-order = in_orders-shuffled _ _ p.paths (λ x m. let r = path-ranged p ranges x m in (r.start, r.end))

  pub path-count : length (paths_in_order p) ≡ length p.paths
  path-count = sym (shuffled-length path-order)

  pub from-order : (x : Route) → Memᴰ x (paths_in_order p) → Memᴰ x p.paths
  from-order = each-shuffled (λ y. Memᴰ y p.paths) (λ x y e m. subst (λ z. Memᴰ z p.paths) e m) path-order (λ x m. m)

  pub to-order : (x : Route) → Memᴰ x p.paths → Memᴰ x (paths_in_order p)
  to-order = each-shuffled (λ y. Memᴰ y (paths_in_order p)) (λ x y e m. subst (λ z. Memᴰ z (paths_in_order p)) e m) (shuffled-sym (λ x y e. sym e) path-order) (λ x m. m)

  pub order-once : repeats same_path_ends p.paths ≡ false → repeats same_path_ends (paths_in_order p) ≡ false
  unfolding same_path_ends
  order-once u = sym (pair-repeats path-order (λ x. x.start) (λ x. x.end) (eq-respects _) (eq-respects _)) ∙ u

  pub path-at : (k : ℕ) (x : Route) → at_place k (paths_in_order p) ≡ some x → Memᴰ x p.paths
  path-at k x at = from-order x (at-member (paths_in_order p) k x at)

  pub paths-short : Short (paths_in_order p)
  paths-short x m = (path-length x (lengths (path x) (path-in p x (from-order x m)))).1

  pub replies-short : Short (replies_in_order p)
  unfolding replies_in_order turned no_route
  replies-short x m = let (z, n, e) = Memᴰ.of_map (reply_of p.replies) (paths_in_order p) m in rw (← e) (go z (find (leads_from z.end z.start) p.replies) refl)
    where
      go : (z : Route) (o : Option Route) → find (leads_from z.end z.start) p.replies ≡ o → length (reply_of p.replies z).links ≤ 8
      go z none f = rw (reply-none p.replies z f) (omega arith)
      go z (some y) f = rw (reply-some p.replies z y f) (reply-length y (lengths (reply y) (reply-in p y (find-some _ p.replies y f).0))).1

  pub reply-count : length (replies_in_order p) ≡ length p.paths
  unfolding replies_in_order
  reply-count = length-map (paths_in_order p) (reply_of p.replies) ∙ path-count

  -- the rows of the paths, and those of the replies behind them
  pub path-rows : RowsFrom (paths_of p) 0 (paths_in_order p)
  unfolding paths_of places_for padded
  path-rows = record { short = paths-short; behind = _; rows = append_assoc (flat_map path_row (paths_in_order p)) _ _ }

  pub reply-rows : length p.paths ≤ 128 → RowsFrom (paths_of p) 128 (replies_in_order p)
  unfolding paths_of places_for padded
  reply-rows l = record {
    short = replies-short;
    behind = replicate (1408 - length (flat_map path_row (replies_in_order p))) 0;
    rows = drop_at (places_for (paths_in_order p)) _ 1408 (places-length (paths_in_order p) paths-short (omega (arith, path-count)));
  }

  pub reply-at : (k : ℕ) (x : Route) → at_place k (paths_in_order p) ≡ some x → at_place k (replies_in_order p) ≡ some (reply_of p.replies x)
  unfolding replies_in_order
  reply-at k x at = at_map (reply_of p.replies) (paths_in_order p) k x at

  pub all-length : length p.paths ≤ 128 → length (paths_of p) ≡ 2816
  unfolding paths_of
  all-length l = omega (
    arith,
    length-append (places_for (paths_in_order p)) (places_for (replies_in_order p)),
    places-length (paths_in_order p) paths-short (omega (arith, path-count)),
    places-length (replies_in_order p) replies-short (omega (arith, reply-count)),
  )

-- without replies their rows are all 0
no_rows : (xs : List Route) → flat_map path_row (map (reply_of []) xs) ≡ replicate (length xs * 11) 0
unfolding flat_map path_row reply_of no_route find padded
no_rows [] = refl
no_rows (x ∷ xs) =
    let n : 11 + length xs * 11 ≡ suc (length xs) * 11 = omega arith in
    ap (λ (l : List ℕ). replicate 11 0 ++ l) (no_rows xs) ∙ replicate-append-replicate 11 (length xs * 11) 0 ∙ ap (λ k. replicate k 0) n

pub no-replies : (p : Plan) → p.replies ≡ [] → length (paths_in_order p) ≤ 128 → places_for (replies_in_order p) ≡ replicate 1408 0
unfolding places_for replies_in_order padded
no-replies p e l =
    let n : ℕ = length (paths_in_order p) * 11 in
    let zeros : List ℕ = replicate n 0 in
    let m : n + (1408 - length zeros) ≡ 1408 = omega (arith, length-replicate {A = ℕ} n 0) in
    ap (λ (ys : List Route). places_for (map (reply_of ys) (paths_in_order p))) e ∙ ap (padded 1408 0) (no_rows (paths_in_order p))
    ∙ replicate-append-replicate n (1408 - length zeros) 0 ∙ ap (λ k. replicate k 0) m
