-- A reply kept: its row stands behind that of its path.
use Rattle.std.specs.Prelude.{◌≡◌, refl, Bool, ℕ, ◌+◌, ◌*◌, ◌≤◌, ◌<◌, set, eqb}
use Rattle.std.proofs.Math.Path.{sym, ap}
use Rattle.std.proofs.Common.{◌∙◌}
use mathlib.Core.List.{List, [], ◌∷◌, ◌++◌, flat_map}
use Rattle.std.proofs.Math.Option.{Option, none, some}
use Rattle.std.proofs.Math.Bool.{true, false}
use native.Mathlib.Omega.{arith}
use Rattle.std.proofs.Math.ListN.{length}
use Rattle.std.proofs.Math.Seq.{paste}
use borrow.Author.Tests.{eqb-true, eq-eqb}
use Rattle.lists.specs.Place.{at_place}
use Rattle.lists.specs.Cells.{padded}
use Rattle.lists.specs.laws.At.{at-within, same_place, map-set}
use Rattle.lists.specs.laws.Bools.{both_true, true-both}
use Rattle.lists.specs.laws.More.{find-more, find-same}
use Rattle.lists.specs.laws.Chunks.{length-chunks, chunk-set}
use Rattle.lists.specs.laws.Moved.{padded-paste, paste-back}
use Rattle.rules_plan.specs.Plan.{Route, Plan, reply, grow}
use Rattle.rules_plan.specs.Meaning.{leads_from}
use Rattle.rules_plan.specs.Judge.{given_before}
use Rattle.rules_plan.specs.Good.{same_path_ends}
use Rattle.memory_plan.specs.Memory.{path_row, paths_in_order, turned, no_route, reply_of, replies_in_order, places_for, paths_of}
use Rattle.memory_plan.specs.laws.PathRows.{row-length, wide, places-length, reply-some, path-count, order-once, paths-short, replies-short, reply-count}
use Rattle.load_replies.specs.Home.{HomeTo}

module _ (p : Plan) (y x : Route) (k : ℕ) (h : HomeTo p y x k) where
  -- of its path it is found, of others what was found
  own_row : reply_of (p.replies ++ (y ∷ [])) x ≡ turned y
  unfolding given_before leads_from
  own_row = reply-some _ x y (find-more (leads_from x.end x.start) p.replies y (rw (h.from, h.to) h.passes.new) (true-both (eq-eqb x.end y.start h.to) (eq-eqb x.start y.end h.from)))

  other_row : (j : ℕ) (z : Route) → at_place j (paths_in_order p) ≡ some z → (j ≡ k → ⊥) → reply_of p.replies z ≡ reply_of (p.replies ++ (y ∷ [])) z
  unfolding reply_of leads_from same_path_ends
  other_row j z at n = ap (λ (o : Option Route). elim o as (λ _. Route) [ none ↦ no_route | some w ↦ turned w ]) (sym (find-same (leads_from z.end z.start) p.replies y (go (leads_from z.end z.start y) refl)))
    where
      go : (b : Bool) → leads_from z.end z.start y ≡ b → leads_from z.end z.start y ≡ false
      go false e = e
      go true e =
          let (c, d) = both_true (eqb z.end y.start) (eqb z.start y.end) e in
          let starts : z.start ≡ x.start = eqb-true z.start y.end d ∙ sym h.from in
          let ends : z.end ≡ x.end = eqb-true z.end y.start c ∙ sym h.to in
          absurd (n (same_place same_path_ends (paths_in_order p) j k z x (order-once p h.fair.lengths h.fair.ranges h.fair.lists.paths.once) at h.at
          (true-both (eq-eqb _ _ starts) (eq-eqb _ _ ends)) (true-both (eq-eqb _ _ (sym starts)) (eq-eqb _ _ (sym ends)))))

  rows-set : replies_in_order (grow p (reply y)) ≡ set (replies_in_order p) k (turned y)
  unfolding replies_in_order paths_in_order grow
  rows-set = map-set (reply_of p.replies) (reply_of (p.replies ++ (y ∷ []))) (paths_in_order p) k x h.at other_row ∙ ap (set (replies_in_order p) k) own_row

  pub row_kept : length y.links ≤ 8 → paste (paths_of p) ((128 + k) * 11) (path_row (turned y)) 11 ≡ paths_of (grow p (reply y))
  unfolding paths_of places_for paths_in_order grow turned
  row_kept l =
      let lengths = h.fair.lengths in
      let ranges = h.fair.ranges in
      let few = h.fair.lists.paths.most in
      let narrow = wide (replies_in_order p) (replies-short p lengths ranges) in
      let row = row-length (turned y) l in
      let within : k < length (replies_in_order p) = omega (arith, at-within (paths_in_order p) k x h.at, path-count p lengths ranges, reply-count p lengths ranges) in
      let long = places-length (paths_in_order p) (paths-short p lengths ranges) (omega (arith, path-count p lengths ranges)) in
      let place : (128 + k) * 11 ≡ length (places_for (paths_in_order p)) + k * 11 = omega arith in
      ap (λ (n : ℕ). paste (paths_of p) n (path_row (turned y)) 11) place
      ∙ sym (paste-back (places_for (paths_in_order p)) (places_for (replies_in_order p)) (k * 11) 11 (path_row (turned y)))
      ∙ ap (λ (s : List ℕ). places_for (paths_in_order p) ++ s)
      (sym (padded-paste 1408 0 (flat_map path_row (replies_in_order p)) (k * 11) 11 (path_row (turned y)) row (omega (arith, length-chunks path_row 11 (replies_in_order p) narrow)))
      ∙ ap (padded 1408 0) (sym (chunk-set path_row 11 k (replies_in_order p) (turned y) narrow row within))
      ∙ ap places_for (sym rows-set))
