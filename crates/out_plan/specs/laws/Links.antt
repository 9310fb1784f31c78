-- The links of a plan in canonical order: what its set and their ends give number by number is their fields.
use Rattle.std.specs.Prelude.{◌≡◌, Bool, eqb}
use Rattle.std.proofs.Math.Path.{sym, ap}
use Rattle.std.proofs.Common.{◌∙◌}
use mathlib.Core.List.{List, map, flat_map}
use Prim.Native.Nat.{ℕ, ◌+◌, ◌*◌, ◌/◌, ◌%◌, ◌<◌, min, max}
use native.Mathlib.Omega.{arith}
use borrow.Author.Tests.{eqb-true}
use Rattle.lists.specs.Search.{keep, find, below64}
use Rattle.lists.specs.laws.Search.{below64-range}
use Rattle.lists.specs.laws.Cells.{cell_at}
use Rattle.lists.specs.laws.Order.{flat-same, one_key}
use Rattle.lists.specs.laws.Kept.{Kept, nothing, one, kept}
use Rattle.lists.specs.laws.Flat.{flat-map, flat-order}
use Rattle.bitsets.specs.Set.{packed}
use Rattle.bitsets.specs.Packed.{member-packed-below}
use Rattle.rules_plan.specs.Plan.{nth, Link, Plan, link}
use Rattle.rules_plan.specs.Fields.{tag_for, content_for, field_for}
use Rattle.rules_plan.specs.Meaning.{is_link}
use Rattle.rules_plan.specs.Canon.{small_first, canonical}
use Rattle.rules_plan.specs.Good.{Good, same_link_number}
use Rattle.memory_plan.specs.Memory.{end_of, ends_of}
use Rattle.out_items.specs.Out.{link_bytes}

-- the field of a link, its smaller device first
unfoldable link_field : Link → List ℕ
link_field l = field_for (link (small_first l))

numbered : ℕ → Link → Bool
numbered n l = eqb n l.num

module _ (p : Plan) where
  end-at : (n side : ℕ) → n < 64 → side < 2 → nth (ends_of p) (2 * n + side) ≡ end_of side (find (numbered n) p.links)
  unfolding ends_of numbered
  end-at n side h g =
      let d : (2 * n + side) / 2 ≡ n = omega arith in
      let m : (2 * n + side) % 2 ≡ side = omega arith in
      cell_at 128 _ (2 * n + side) 0 (omega arith) ∙ rw (d, m)

  of_number : (n : ℕ) → n < 64 → Kept (numbered n) p.links → link_bytes (packed (is_link p)) (ends_of p) n ≡ flat_map link_field (keep (numbered n) p.links)
  unfolding link_bytes is_link link_field small_first field_for tag_for content_for end_of flat_map numbered
  of_number n h (nothing k f a) = rw (member-packed-below n (is_link p) h, a, k)
  of_number n h (one l k f a e) =
      let z : 2 * n ≡ 2 * n + 0 = omega arith in
      let first : nth (ends_of p) (2 * n) ≡ min l.one l.other = ap (nth (ends_of p)) z ∙ end-at n 0 h (omega arith) ∙ ap (end_of 0) f in
      let second : nth (ends_of p) (2 * n + 1) ≡ max l.one l.other = end-at n 1 h (omega arith) ∙ ap (end_of 1) f in
      rw (member-packed-below n (is_link p) h, a, k, first, second, eqb-true n l.num e)

module _ (p : Plan) (good : Good p) where
  pub links-out : canonical p ≡ p → flat_map (link_bytes (packed (is_link p)) (ends_of p)) below64 ≡ flat_map field_for (map link p.links)
  unfolding canonical link_field same_link_number numbered
  links-out e =
      flat-same _ _ below64 (λ n m. of_number p n (below64-range n m) (kept (numbered n) p.links (one_key (λ l. l.num) p.links good.links n)))
      ∙ sym (flat-order link_field (λ l. l.num) p.links) ∙ sym (flat-map (λ l. field_for (link l)) small_first _)
      ∙ ap (flat_map (λ l. field_for (link l))) (ap (λ (q : Plan). q.links) e) ∙ sym (flat-map field_for link p.links)
