-- What the rows reach when a path is kept: its target is added to the row of its initiator.
use Rattle.std.proofs.Math.Path.{◌≡◌, refl, sym, ap}
use Rattle.std.proofs.Common.{ap₂, ◌∙◌, arith}
use Rattle.std.specs.Prelude.{◌≢◌, Bool, true, false, ℕ, ◌≤◌, ◌<◌, take, drop, set, eqb}
use mathlib.Core.List.{List, [], ◌∷◌, map, map-append, Memᴰ}
use Rattle.std.proofs.Math.Option.{Option, none, some}
use Rattle.std.proofs.Math.Bool.{or_comm}
use Rattle.std.proofs.Math.ListN.{length}
use Rattle.std.proofs.lemmas.List.{length-map}
use Rattle.lists.specs.Place.{at_place}
use Rattle.lists.specs.Cells.{padded}
use Rattle.lists.specs.Insert.{put_in}
use Rattle.lists.specs.laws.Bools.{not-both}
use Rattle.lists.specs.laws.Cells.{length-cells, cells-set}
use Rattle.lists.specs.laws.At.{place-once}
use Rattle.lists.specs.laws.Padded.{map-take, map-drop, cells-padded}
use Rattle.lists.specs.laws.Moved.{put_in-at, put_in-set, padded-put_in}
use Rattle.bitsets.specs.Set.{member, added, packed}
use Rattle.bitsets.specs.Laws.{member-empty}
use Rattle.bitsets.specs.Packed.{member-packed-below, packed-same}
use Rattle.rules_plan.specs.Plan.{nth, Route, Plan, path, grow}
use Rattle.rules_plan.specs.Meaning.{is_initiator, initiators, has_path}
use Rattle.rules_plan.specs.laws.Fair.{Fair}
use Rattle.rules_plan.specs.laws.Chain.{Passes}
use Rattle.rules_plan.specs.laws.Initiators.{initiator-in, initiators-once, eight-grows}
use Rattle.memory_plan.specs.Memory.{rows_of, of_row, reach_of}
use Rattle.load_paths.specs.Keep.{kept_reach}
use Rattle.memory_plan.specs.Rows.{row_among}
use Rattle.bitsets.specs.Laws.{added-below}
use Rattle.load_path_faults.specs.laws.PathRows.{reach-some, no-paths}
use Rattle.load_paths.specs.laws.GrownPath.{own-has_path, other-has_path, kept-initiators}
use Rattle.load_path_places.specs.laws.OwnRow.{old_row, old-array, new_row, new-array}
use Rattle.load_paths.specs.laws.KeptRows.{row-of-x, has-row, no-row-yet, room, inserted, row-place}

-- the word of an initiator
abbrev pub reached : Plan → ℕ → ℕ
reached p i = packed (has_path p i)

-- as a list that is filled up
pub reach-padded : (p : Plan) → length (initiators p) ≤ 8 → reach_of p ≡ padded 8 0 (map (reached p) (initiators p))
unfolding reach_of of_row
reach-padded p h = sym (cells-padded 8 0 (reached p) (initiators p) h)

pub reach-length : (p : Plan) → length (reach_of p) ≡ 8
unfolding reach_of
reach-length p = length-cells 8 _

module _ (p : Plan) (x : Route) where
  -- the word of the path's initiator, with the target; the words of the others stay
  pub own-word : (s : ℕ) → ((u : ℕ) → u < 64 → member u s ≡ has_path p x.start u) → packed (added x.end s) ≡ reached (grow p (path x)) x.start
  own-word s h = packed-same _ _ (λ u b. added-below x.end s u b ∙ (rw (h u b)) ∙ or_comm (eqb u x.end) (has_path p x.start u) ∙ sym (own-has_path p x u))

  pub other_word : (j : ℕ) → j ≢ x.start → reached p j ≡ reached (grow p (path x)) j
  other_word j d = packed-same _ _ (λ u b. sym (other-has_path p x j u d))

module _ (p : Plan) (f : Fair p) (x : Route) (g : Passes p (path x)) where
  abbrev i : ℕ
  i = x.start

  abbrev count : ℕ
  count = length (initiators p)

  abbrev q : Plan
  q = grow p (path x)

  -- an initiator that has a row: only its cell changes
  module _ (e : is_initiator p x.start ≡ true) (r : ℕ) (h : r < 8) (a : at_place r (initiators p) ≡ some x.start) where
    own-cell : of_row q r (reached q) ≡ reached q i
    unfolding of_row
    own-cell = rw (kept-initiators p x e, a, of_row)

    other-cell : (j : ℕ) → j ≢ r → of_row p j (reached p) ≡ of_row q j (reached q)
    unfolding of_row
    other-cell j d = rw (kept-initiators p x e, of_row) (go (at_place j (initiators p)) refl)
      where
        go : (o : Option ℕ) → at_place j (initiators p) ≡ o → ◌≡◌ {A = ℕ} (elim o [ none ↦ 0 | some n ↦ reached p n ]) (elim o [ none ↦ 0 | some n ↦ reached q n ])
        go none b = refl
        go (some n) b = other_word p x n (λ c. d (place-once (initiators p) j r i (initiators-once p) (b ∙ ap some c) a))

    reach-set : set (reach_of p) r (packed (added x.end (nth (reach_of p) r))) ≡ reach_of q
    unfolding reach_of
    reach-set = cells-set 8 _ _ 0 r _ h
        (own-word p x (nth (reach_of p) r) (λ u b. ap (member u) (reach-some p r i h a) ∙ member-packed-below u (has_path p i) b) ∙ sym own-cell)
        (λ j l d. other-cell j d)

  reach-old : is_initiator p x.start ≡ true → kept_reach (rows_of p) (reach_of p) (length (initiators p)) x ≡ reach_of (grow p (path x))
  unfolding kept_reach
  reach-old e =
      let w = row-of-x p f x g in
      let d : row_among (rows_of p) count i ≢ count = has-row p f x g e in
      let l : row_among (rows_of p) count i < count = omega (arith, w.within) in
      rw (old_row (rows_of p) count i d, old-array (rows_of p) count i d 0 (reach_of p))
      (reach-set e (row_among (rows_of p) count i) (omega (arith, f.lists.paths.eight)) (w.found l))

  -- a new one: its word stands at its place among the others
  module _ (e : is_initiator p x.start ≡ false) where
    abbrev k : ℕ
    k = (inserted p f x g e).place

    words : (js : List ℕ) → ((j : ℕ) → Memᴰ j js → is_initiator p j ≡ true) → map (reached p) js ≡ map (reached q) js
    words [] h = refl
    words (j ∷ js) h = ap₂ ◌∷◌ (other_word p x j (λ c. not-both (h j (Memᴰ.head refl)) (rw c e))) (words js (λ n m. h n (Memᴰ.tail m)))

    reach-put : put_in k count (reached q i ∷ []) (reach_of p) ≡ reach_of q
    reach-put =
        let r = inserted p f x g e in
        let M = map (reached q) (initiators p) in
        let n : length M ≡ count = length-map (initiators p) (reached q) in
        ap (put_in k count (reached q i ∷ [])) (reach-padded p f.lists.paths.eight ∙ ap (padded 8 0) (words (initiators p) (initiator-in p)))
        ∙ ap (λ c. put_in k c (reached q i ∷ []) (padded 8 0 M)) (sym n)
        ∙ sym (padded-put_in 8 k 0 (reached q i ∷ []) M (omega (arith, r.within)) (omega (arith, room p f x g e)))
        ∙ ap (padded 8 0) (sym (ap (map (reached q)) r.new ∙ map-append (reached q) (take k (initiators p)) (i ∷ drop k (initiators p)) ∙ (rw (map-take (reached q) k (initiators p), map-drop (reached q) k (initiators p)))))
        ∙ sym (reach-padded q (eight-grows p x g.few f.lists.paths.eight))

  reach-new : is_initiator p x.start ≡ false → kept_reach (rows_of p) (reach_of p) (length (initiators p)) x ≡ reach_of (grow p (path x))
  unfolding kept_reach
  reach-new e =
      let l : k e ≤ length (reach_of p) = omega (arith, (inserted p f x g e).within, f.lists.paths.eight, reach-length p) in
      rw (new_row (rows_of p) count i (no-row-yet p f x g e), new-array (rows_of p) count i (no-row-yet p f x g e) 0 (reach_of p), row-place p f x g e, put_in-at (k e) count 0 (reach_of p) 0 l)
      (put_in-set (k e) count 0 _ (reach_of p) l ∙ ap (λ w. put_in (k e) count (w ∷ []) (reach_of p)) (own-word p x 0 (λ u b. member-empty u ∙ sym (no-paths p i u e))) ∙ reach-put e)

  pub reach-kept : kept_reach (rows_of p) (reach_of p) (length (initiators p)) x ≡ reach_of (grow p (path x))
  reach-kept = go (is_initiator p i) refl
    where
      go : (b : Bool) → is_initiator p i ≡ b → kept_reach (rows_of p) (reach_of p) count x ≡ reach_of q
      go true e = reach-old e
      go false e = reach-new e
