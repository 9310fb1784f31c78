-- The paths and the replies of a plan in canonical order: what their rows give, one by one, is their fields.
use Rattle.std.specs.Prelude.{◌≡◌, Bool, replicate, ltb, eqb}
use Rattle.std.proofs.Math.Path.{refl, sym, ap, ap₂}
use Rattle.std.proofs.Common.{◌∙◌, get_or-drop, drop-drop, le-ltb, ne_eqb}
use mathlib.Core.List.{List, [], ◌∷◌, ◌++◌, map, flat_map, append_assoc, Memᴰ}
use Rattle.std.proofs.Math.Bool.{true, false, cond, or-true}
use Prim.Native.Nat.{ℕ, zero, suc, ◌+◌, ◌-◌, ◌*◌, ◌≤◌, min}
use native.Mathlib.Omega.{arith}
use Rattle.std.proofs.Math.ListN.{length, drop}
use Rattle.std.proofs.Math.Seq.{drop_at}
use Rattle.lists.specs.Search.{keep, only, up_from}
use Rattle.lists.specs.Cells.{padded}
use Rattle.lists.specs.laws.Search.{keep_all, up_from-range}
use Rattle.lists.specs.laws.Append.{flat_append}
use Rattle.lists.specs.laws.Order.{flat-same}
use Rattle.lists.specs.laws.Filled.{filling}
use Rattle.lists.specs.laws.Flat.{flat-map, flat-nil, flat-one, flat-none, flat-from}
use Rattle.rules_plan.specs.Plan.{nth, Route, Plan, path, reply}
use Rattle.rules_plan.specs.Fields.{tag_for, content_for, field_for}
use Rattle.rules_plan.specs.Canon.{canonical}
use Rattle.rules_plan.specs.Good.{Good}
use Rattle.rules_plan.specs.laws.Items.{path-in}
use Rattle.rules_plan.specs.laws.Lengths.{path-length}
use Rattle.memory_plan.specs.Memory.{path_row, paths_in_order, turned, paths_of}
use Rattle.memory_plan.specs.laws.PathRows.{row-length, Short, RowsFrom, path-count, path-rows, reply-rows, reply-count}
use Rattle.memory_plan.specs.laws.Replies.{is_given, rows-given}
use Rattle.out_rows.specs.Out.{links_from, route_field, path_bytes, row_bytes}

-- the field of a row, under a tag
unfoldable row_field : ℕ → Route → List ℕ
row_field tag x = route_field tag x.start x.end x.links

module _ (tag : ℕ) (m : List ℕ) where
  -- links that stand at a place of memory are read from there
  read-links : (links rest : List ℕ) (start : ℕ) → drop start m ≡ links ++ rest → links_from m start (length links) ≡ links
  unfolding links_from up_from
  read-links [] rest start e = refl
  read-links (x ∷ links) rest start e =
      let z : start + 0 ≡ start = omega arith in
      let s : start + 1 ≡ suc start = omega arith in
      ap₂ (λ y ys. y ∷ ys) (ap (nth m) (sym z) ∙ sym (get_or-drop start m 0 0) ∙ ap (λ (l : List ℕ). nth l 0) e)
      (read-links links rest (suc start) (ap (λ j. drop j m) (sym s) ∙ sym (drop-drop 1 start m) ∙ ap (drop 1) e))

  -- row n begins with the row of a route
  one-row : (n : ℕ) (x : Route) (rest : List ℕ) → length x.links ≤ 8 → drop (11 * n) m ≡ path_row x ++ rest → path_bytes tag m n ≡ flat_map (row_field tag) (only (is_given x) x)
  unfolding path_bytes row_field path_row padded is_given only
  one-row n x rest h e = go (eqb count 0) refl
    where
      count : ℕ
      count = length x.links

      at : (k : ℕ) → nth m (11 * n + k) ≡ nth (path_row x ++ rest) k
      at k = sym (get_or-drop (11 * n) m k 0) ∙ ap (λ (l : List ℕ). nth l k) e

      go : (b : Bool) → eqb (length x.links) 0 ≡ b → path_bytes tag m n ≡ flat_map (row_field tag) (only (is_given x) x)
      go true z = rw (at 2, z, or-true (ltb 8 count)) (sym (flat-nil (row_field tag)))
      go false z =
          let first : 11 * n ≡ 11 * n + 0 = omega arith in
          let fill : List ℕ = replicate (8 - count) 0 in
          let links : links_from m (11 * n + 3) count ≡ x.links = read-links x.links (fill ++ rest) (11 * n + 3) (sym (drop-drop 3 (11 * n) m) ∙ ap (drop 3) e ∙ append_assoc x.links fill rest) in
          rw (at 2, le-ltb 8 count h, z, at 1, links, ap (nth m) first ∙ at 0) (sym (flat-one (row_field tag) x))

  -- no route from row n on
  no_rows : (n k z : ℕ) → drop (11 * n) m ≡ replicate z 0 → flat_map (path_bytes tag m) (up_from k n) ≡ []
  unfolding path_bytes
  no_rows n k z e = flat-none (path_bytes tag m) (up_from k n) (λ j i. rw (empty j (up_from-range k n j i).0))
    where
      empty : (j : ℕ) → n ≤ j → nth m (11 * j + 2) ≡ 0
      empty j h =
          let s : 11 * j + 2 ≡ 11 * n + (11 * (j - n) + 2) = omega arith in
          ap (nth m) s ∙ sym (get_or-drop (11 * n) m (11 * (j - n) + 2) 0) ∙ ap (λ (l : List ℕ). nth l (11 * (j - n) + 2)) e ∙ filling z (11 * (j - n) + 2) 0

  rows_out : (xs : List Route) (n k : ℕ) (behind : List ℕ) → length xs ≡ k → Short xs → drop (11 * n) m ≡ flat_map path_row xs ++ behind
      → flat_map (path_bytes tag m) (up_from k n) ≡ flat_map (row_field tag) (keep is_given xs)
  unfolding flat_map up_from keep only
  rows_out [] n zero behind l h e = refl
  rows_out [] n (suc k) behind l h e = absurd (omega arith)
  rows_out (x ∷ xs) n zero behind l h e = absurd (omega arith)
  rows_out (x ∷ xs) n (suc k) behind l h e =
      let w = h x (Memᴰ.head refl) in
      let f : drop (11 * n) m ≡ path_row x ++ (flat_map path_row xs ++ behind) = e ∙ append_assoc (path_row x) (flat_map path_row xs) behind in
      let s : 11 * suc n ≡ 11 * n + 11 = omega arith in
      ap₂ (λ (a b : List ℕ). a ++ b) (one-row n x (flat_map path_row xs ++ behind) w f)
      (rows_out xs (suc n) k behind (omega arith) (λ y i. h y (Memᴰ.tail i))
      (ap (λ j. drop j m) s ∙ sym (drop-drop 11 (11 * n) m) ∙ ap (drop 11) f ∙ drop_at (path_row x) (flat_map path_row xs ++ behind) 11 (row-length x w)))
      ∙ sym (flat_append (row_field tag) (only (is_given x) x) (keep is_given xs)) ∙ ap (flat_map (row_field tag)) (kept (is_given x))
    where
      kept : (b : Bool) → only b x ++ keep is_given xs ≡ cond b (x ∷ keep is_given xs) (keep is_given xs)
      kept true = refl
      kept false = refl

  -- from a first row on
  from_first : {first : ℕ} {xs : List Route} → RowsFrom m first xs → (k : ℕ) → length xs ≡ k → flat_map (row_bytes tag m first) (up_from k 0) ≡ flat_map (row_field tag) (keep is_given xs)
  unfolding row_bytes
  from_first {first} {xs} r k l =
      let z : first ≡ first + 0 = omega arith in
      let turn : first * 11 ≡ 11 * first = omega arith in
      sym (flat-from (path_bytes tag m) k first 0) ∙ ap (λ n. flat_map (path_bytes tag m) (up_from k n)) (sym z)
      ∙ rows_out xs first k r.behind l r.short (ap (λ n. drop n m) (sym turn) ∙ r.rows)

module _ (p : Plan) (good : Good p) (e : canonical p ≡ p) where
  counted : min (length p.paths) 128 ≡ length p.paths
  counted = omega (arith, good.most)

  -- each path has a link
  pub paths-out : flat_map (row_bytes 3 (paths_of p) 0) (up_from (min (length p.paths) 128) 0) ≡ flat_map field_for (map path p.paths)
  unfolding canonical paths_in_order row_field route_field field_for tag_for content_for is_given
  paths-out =
      let ordered : paths_in_order p ≡ p.paths = ap (λ (q : Plan). q.paths) e in
      let all : keep is_given p.paths ≡ p.paths = keep_all is_given p.paths (λ x m. rw (ne_eqb (length x.links) 0 (λ z. omega (arith, (path-length x (good.lengths (path x) (path-in p x m))).0)))) in
      ap (λ n. flat_map (row_bytes 3 (paths_of p) 0) (up_from n 0)) counted
      ∙ from_first 3 (paths_of p) (path-rows p good.lengths good.ranges) (length p.paths) (path-count p good.lengths good.ranges)
      ∙ ap (λ xs. flat_map (row_field 3) (keep is_given xs)) ordered ∙ ap (flat_map (row_field 3)) all
      ∙ flat-same _ _ p.paths (λ x _. refl) ∙ sym (flat-map field_for path p.paths)

  pub replies-out : flat_map (row_bytes 7 (paths_of p) 128) (up_from (min (length p.paths) 128) 0) ≡ flat_map field_for (map reply p.replies)
  unfolding canonical turned row_field route_field field_for tag_for content_for
  replies-out =
      let ordered = ap (λ (q : Plan). q.replies) e in
      ap (λ n. flat_map (row_bytes 7 (paths_of p) 128) (up_from n 0)) counted
      ∙ from_first 7 (paths_of p) (reply-rows p good.lengths good.ranges good.most) (length p.paths) (reply-count p good.lengths good.ranges)
      ∙ ap (flat_map (row_field 7)) (rows-given p good.lengths good.paths good.replies good.reached ∙ ap (map turned) ordered)
      ∙ flat-map (row_field 7) turned p.replies ∙ flat-same _ _ p.replies (λ y _. refl) ∙ sym (flat-map field_for reply p.replies)
