-- What two plans with equal arrays have in common: devices, links, initiators, paths, intervals and times.
use Rattle.std.specs.Prelude.{◌≡◌, Bool, false, eqb}
use Rattle.std.proofs.Math.Path.{refl, sym, ap₂}
use Rattle.std.proofs.Common.{ap, ◌∙◌, arith, eqb-true, eq-eqb}
use mathlib.Core.List.{List, [], ◌∷◌, Memᴰ}
use Rattle.std.proofs.Math.Option.{some}
use Rattle.std.proofs.Math.Bool.{true}
use Prim.Native.Nat.{ℕ, zero, suc, ◌+◌, ◌*◌, ◌/◌, ◌%◌, ◌≤◌, ◌<◌, min, max}
use Rattle.std.proofs.Math.Nat.{eq_of_mul-eq-mul_left}
use Rattle.std.proofs.Math.ListN.{length}
use Rattle.lists.specs.Search.{find, repeats}
use Rattle.lists.specs.Cells.{padded}
use Rattle.lists.specs.laws.Bools.{both_true, true-both}
use Rattle.lists.specs.laws.Search.{any-elim, any-intro, find-some, find-has}
use Rattle.lists.specs.laws.Order.{one_key}
use Rattle.lists.specs.laws.Found.{find-one}
use Rattle.lists.specs.laws.Told.{cells_told, append-told, padded-told, even-length, parts-told}
use Rattle.lists.specs.laws.OneOrder.{Among}
use Rattle.bitsets.specs.Set.{member, packed}
use Rattle.bitsets.specs.Packed.{member-packed-below}
use Rattle.rules_plan.specs.Plan.{nth, Device, Link, Route, Timing, Times, Plan}
use Rattle.rules_plan.specs.Meaning.{has_kind, is_link, initiators, least_of, greatest_of, times_of}
use Rattle.rules_plan.specs.Judge.{out_of_range}
use Rattle.rules_plan.specs.Canon.{small_first}
use Rattle.rules_plan.specs.Good.{Good, Each, same_link_number}
use Rattle.rules_plan.specs.laws.InRange.{device-ranged, link-ranged}
use Rattle.memory_plan.specs.laws.PathRows.{row-length, Short, places-length, path-count, paths-short, replies-short, reply-count}
use Rattle.memory_plan.specs.Memory.{sets_of, end_of, ends_of, rows_of, path_row, paths_in_order, replies_in_order, places_for, paths_of, numbers_with, numbers_of}

-- a word tells the test that it was made of
pub packed-told : (t u : ℕ → Bool) → packed t ≡ packed u → (k : ℕ) → k < 64 → t k ≡ u k
packed-told t u e k h = sym (member-packed-below k t h) ∙ ap (member k) e ∙ member-packed-below k u h

-- `sets`
module _ (p q : Plan) (e : sets_of p ≡ sets_of q) where
  kind-told : (kind n : ℕ) → kind < 2 → n < 64 → has_kind p kind n ≡ has_kind q kind n
  unfolding sets_of
  kind-told zero n l h = packed-told _ _ (ap (λ xs. nth xs 0) e) n h
  kind-told (suc zero) n l h = packed-told _ _ (ap (λ xs. nth xs 1) e) n h
  kind-told (suc (suc k)) n l h = absurd (omega arith)

  link-told : (n : ℕ) → n < 64 → is_link p n ≡ is_link q n
  unfolding sets_of
  link-told n h = packed-told _ _ (ap (λ xs. nth xs 2) e) n h

  -- each device of p is one of q
  pub told-devices : Each p out_of_range false → Among (λ (d : Device). d) p.devices q.devices
  unfolding has_kind
  told-devices r d m =
      let g = device-ranged p r d m in
      let here : has_kind p d.kind d.num ≡ true = any-intro _ p.devices d m (true-both (eq-eqb d.num d.num refl) (eq-eqb d.kind d.kind refl)) in
      let (c, n, f) = any-elim _ q.devices (sym (kind-told d.kind d.num g.kind g.num) ∙ here) in
      let (a, b) = both_true (eqb d.num c.num) (eqb d.kind c.kind) f in
      (c, n, ap₂ make (eqb-true d.num c.num a) (eqb-true d.kind c.kind b))
    where
      make : ℕ → ℕ → Device
      make n k = record { num = n; kind = k }

-- `ends`
ends-told : (p q : Plan) → ends_of p ≡ ends_of q → (side n : ℕ) → side < 2 → n < 64
    → end_of side (find (λ (l : Link). eqb n l.num) p.links) ≡ end_of side (find (λ (l : Link). eqb n l.num) q.links)
unfolding ends_of
ends-told p q e side n l h =
    let a : (2 * n + side) % 2 ≡ side = omega arith in
    let b : (2 * n + side) / 2 ≡ n = omega arith in
    rw (a, b) at (cells_told 128 _ _ e (2 * n + side) (omega arith))

-- each link of p is one of q, up to which end stands first
pub told-links : (p q : Plan) → sets_of p ≡ sets_of q → ends_of p ≡ ends_of q → Each p out_of_range false → repeats same_link_number p.links ≡ false
    → Among small_first p.links q.links
unfolding is_link same_link_number end_of small_first
told-links p q e f r u l m =
    let h = (link-ranged p r l m).num in
    let mine : t l ≡ true = eq-eqb l.num l.num refl in
    let here : is_link p l.num ≡ true = any-intro t p.links l m mine in
    let (j, i, yours) = any-elim t q.links (sym (link-told p q e l.num h) ∙ here) in
    let (k, found) = find-has t q.links j i yours in
    let (n, g) = find-some t q.links k found in
    let one : find t p.links ≡ some l = find-one t p.links l (one_key (λ l. l.num) p.links u l.num) m mine in
    let small : min l.one l.other ≡ min k.one k.other = rw (one, found) at (ends-told p q f 0 l.num (omega arith) h) in
    let great : max l.one l.other ≡ max k.one k.other = rw (one, found) at (ends-told p q f 1 l.num (omega arith) h) in
    let num : l.num ≡ k.num = eqb-true l.num k.num g in
    (k, n, λ i. record { num = num i; one = small i; other = great i })
  where
    t : Link → Bool
    t k = eqb l.num k.num

-- `paths`: a row of eleven bytes tells its path
row_told : (x y : Route) → path_row x ≡ path_row y → x ≡ y
unfolding path_row
row_told x y e =
    let a : x.start ≡ y.start = cc in
    let b : x.end ≡ y.end = cc in
    let l : length x.links ≡ length y.links = cc in
    let d : padded 8 0 x.links ≡ padded 8 0 y.links = cc in
    let f = padded-told 8 0 x.links y.links l d in
    λ i. record { start = a i; end = b i; links = f i }

-- a list of as many rows tells its routes
places-told : (xs ys : List Route) → Short xs → Short ys → length xs ≡ length ys → places_for xs ≡ places_for ys → xs ≡ ys
unfolding places_for
places-told xs ys a b l e =
    let same = even-length path_row 11 _ row-length xs a ∙ ap (λ n. 11 * n) l ∙ sym (even-length path_row 11 _ row-length ys b) in
    parts-told path_row 11 _ row-length row_told xs ys a b l (padded-told 1408 0 _ _ same e)

-- `numbers`
module _ (p q : Plan) (e : numbers_of p ≡ numbers_of q) where
  number-told : (k : ℕ) → nth (numbers_of p) k ≡ nth (numbers_of q) k
  number-told k = ap (λ xs. nth xs k) e

  pub told-timings : length p.timings ≡ 1 → length q.timings ≡ 1 → p.timings ≡ q.timings
  unfolding numbers_with least_of greatest_of
  told-timings g h = go p.timings q.timings g h (number-told 0) (number-told 1)
    where
      go : (ts us : List Timing) → length ts ≡ 1 → length us ≡ 1 → least_of ts ≡ least_of us → greatest_of ts ≡ greatest_of us → ts ≡ us
      go [] us g h a b = absurd (omega arith)
      go (t ∷ ts) [] g h a b = absurd (omega arith)
      go (t ∷ []) (u ∷ []) g h a b = λ i. record { least = a i; greatest = b i } ∷ []
      go (t ∷ []) (u ∷ v ∷ us) g h a b = absurd (omega arith)
      go (t ∷ s ∷ ts) (u ∷ us) g h a b = absurd (omega arith)

  -- (a rate is not 0, and so a slot by the rate tells the slot)
  pub told-times : length p.times ≤ 1 → length q.times ≤ 1 → ((x : Times) → Memᴰ x p.times → 0 < x.rate) → ((x : Times) → Memᴰ x q.times → 0 < x.rate)
      → p.times ≡ q.times
  unfolding numbers_with times_of
  told-times g h j k = go p.times q.times g h j k (number-told 6) (number-told 7) (number-told 8) (number-told 9) (number-told 10) (number-told 11)
    where
      go : (xs ys : List Times) → length xs ≤ 1 → length ys ≤ 1 → ((x : Times) → Memᴰ x xs → 0 < x.rate) → ((x : Times) → Memᴰ x ys → 0 < x.rate)
          → (times_of xs).rate ≡ (times_of ys).rate → (times_of xs).a ≡ (times_of ys).a → (times_of xs).d ≡ (times_of ys).d → (times_of xs).f ≡ (times_of ys).f → (times_of xs).g ≡ (times_of ys).g
          → (times_of xs).rate * (times_of xs).slot ≡ (times_of ys).rate * (times_of ys).slot → xs ≡ ys
      go [] [] g h j k r a d f l s = refl
      go [] (y ∷ ys) g h j k r a d f l s = absurd (omega (arith, k y (Memᴰ.head refl), r))
      go (x ∷ xs) [] g h j k r a d f l s = absurd (omega (arith, j x (Memᴰ.head refl), r))
      go (x ∷ []) (y ∷ []) g h j k r a d f l s =
          let t : x.slot ≡ y.slot = eq_of_mul-eq-mul_left x.rate (j x (Memᴰ.head refl)) x.slot y.slot (rw (← r) at s) in
          λ i. record { rate = r i; a = a i; d = d i; f = f i; g = l i; slot = t i } ∷ []
      go (x ∷ []) (y ∷ z ∷ ys) g h j k r a d f l s = absurd (omega arith)
      go (x ∷ z ∷ xs) (y ∷ ys) g h j k r a d f l s = absurd (omega arith)

  pub told-initiators : rows_of p ≡ rows_of q → initiators p ≡ initiators q
  unfolding numbers_with rows_of
  told-initiators f = padded-told 8 0 (initiators p) (initiators q) (number-told 2) f

  -- both lists of rows
  pub told-paths : Good p → Good q → paths_of p ≡ paths_of q → (paths_in_order p ≡ paths_in_order q) × (replies_in_order p ≡ replies_in_order q)
  unfolding numbers_with paths_of
  told-paths g h f =
      let l : length p.paths ≡ length q.paths = number-told 3 in
      let m = path-count p g.lengths g.ranges in
      let n = path-count q h.lengths h.ranges in
      let a = paths-short p g.lengths g.ranges in
      let b = paths-short q h.lengths h.ranges in
      let long : length (places_for (paths_in_order p)) ≡ length (places_for (paths_in_order q)) = places-length _ a (omega (arith, m, g.most)) ∙ sym (places-length _ b (omega (arith, n, h.most))) in
      let (c, d) = append-told (places_for (paths_in_order p)) (places_for (paths_in_order q)) _ _ long f in (
        places-told _ _ a b (m ∙ l ∙ sym n) c,
        places-told _ _ (replies-short p g.lengths g.ranges) (replies-short q h.lengths h.ranges) (reply-count p g.lengths g.ranges ∙ l ∙ sym (reply-count q h.lengths h.ranges)) d,
      )
