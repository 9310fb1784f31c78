-- What memory holds of the paths of a plan: a row of eleven bytes for each and one for its reply, and the union of the links of those that lead
-- to one of some targets.
use Rattle.std.specs.Prelude.{◌≡◌, refl, ◌≢◌, ◌↔◌, ◌⊎◌, Bool, true, false, ◌&&◌, ◌||◌, get_or, take, drop, ltb, eqb}
use Rattle.std.proofs.Common.{sym, ap₂, subst, ◌∙◌, inl, inr, arith, ltb-true, lt-ltb, eqb-true, eq-eqb, ne_eqb}
use mathlib.Core.List.{List, Memᴰ}
use Rattle.std.proofs.Math.Option.{some}
use Rattle.std.proofs.Math.Bool.{and-false, or-false, or-true}
use Prim.Native.Nat.{ℕ, ◌+◌, ◌-◌, ◌*◌, ◌<◌, min}
use Rattle.std.proofs.Math.ListN.{length}
use Rattle.lists.specs.Search.{is_in}
use Rattle.lists.specs.Numbers.{any_below}
use Rattle.lists.specs.Place.{at_place}
use Rattle.lists.specs.laws.Bools.{both_true, true-both, either}
use Rattle.lists.specs.laws.Search.{is_in-elim, is_in-intro}
use Rattle.lists.specs.laws.Numbers.{any-true}
use Rattle.lists.specs.laws.Sweep.{any_below_lem}
use Rattle.lists.specs.laws.At.{member-at, at_some, at-within}
use Rattle.bitsets.specs.Set.{member, listed}
use Rattle.rules_plan.specs.Plan.{Route, Plan}
use Rattle.rules_plan.specs.Meaning.{uses}
use Rattle.rules_plan.specs.laws.Clashes.{used_low}
use Rattle.rules_plan.specs.laws.Fair.{Fair}
use Rattle.memory_plan.specs.Memory.{paths_in_order, reply_of, paths_of}
use Rattle.load_slot_links.specs.Lanes.{links_at, leads_over}
use Rattle.memory_plan.specs.laws.PathRows.{RowsFrom, links-most, start-byte, end-byte, count-byte, link-bytes, path-count, to-order, path-at, path-rows, reply-rows, reply-at}
use Rattle.memory_plan.specs.laws.Replies.{way-used, used-way}

-- the part that is lent for path number k
pub links-part : (paths : List ℕ) (k size : ℕ) → size ≡ min (get_or paths (k * 11 + 2) 0) 8 → take ((k * 11 + 3 + size) - (k * 11 + 3)) (drop (k * 11 + 3) paths) ≡ links_at paths k
unfolding links_at
links-part paths k size e = let n : (k * 11 + 3 + size) - (k * 11 + 3) ≡ min 8 (get_or paths (k * 11 + 2) 0) = omega arith in rw n

-- whether path number k counts, by its initiator and its target
module _ (paths : List ℕ) (initiator targets k : ℕ) (b : Bool) (l : ℕ) where
  pub not-from : get_or paths (k * 11) 0 ≢ initiator → b ≡ b || leads_over paths initiator targets l k
  unfolding leads_over
  not-from h = rw (ne_eqb (get_or paths (k * 11) 0) initiator h) (sym (or-false b))

  pub not-to : member (get_or paths (k * 11 + 1) 0) targets ≡ false → b ≡ b || leads_over paths initiator targets l k
  unfolding leads_over
  not-to h = rw (h, and-false (eqb (get_or paths (k * 11) 0) initiator)) (sym (or-false b))

  pub from-to : get_or paths (k * 11) 0 ≡ initiator → member (get_or paths (k * 11 + 1) 0) targets ≡ true → b || (listed (links_at paths k) l || listed (links_at paths (128 + k)) l) ≡ b || leads_over paths initiator targets l k
  unfolding leads_over
  from-to h g = rw (eq-eqb (get_or paths (k * 11) 0) initiator h, g)

-- the test of path number k in words
abbrev LeadsOver : List ℕ → (initiator targets l k : ℕ) → Type 0
LeadsOver paths initiator targets l k =
    (get_or paths (k * 11) 0 ≡ initiator) × (member (get_or paths (k * 11 + 1) 0) targets ≡ true) × (Memᴰ l (links_at paths k) ⊎ Memᴰ l (links_at paths (128 + k))) × (l < 64)

leads-over : (paths : List ℕ) (initiator targets l k : ℕ) → (leads_over paths initiator targets l k ≡ true) ↔ LeadsOver paths initiator targets l k
unfolding leads_over
leads-over paths initiator targets l k = (there, back)
  where
    way : ℕ → Bool
    way n = listed (links_at paths n) l

    on : (n : ℕ) → way n ≡ true → Memᴰ l (links_at paths n) × (l < 64)
    on n h = let (a, b) = both_true (is_in l (links_at paths n)) (ltb l 64) h in (is_in-elim l (links_at paths n) a, ltb-true l 64 b)

    off : (n : ℕ) → Memᴰ l (links_at paths n) → l < 64 → way n ≡ true
    off n m h = true-both (is_in-intro l (links_at paths n) m) (lt-ltb l 64 h)

    which : (way k ≡ true) ⊎ (way (128 + k) ≡ true) → (Memᴰ l (links_at paths k) ⊎ Memᴰ l (links_at paths (128 + k))) × (l < 64)
    which (inl h) = let (m, b) = on k h in (inl m, b)
    which (inr h) = let (m, b) = on (128 + k) h in (inr m, b)

    there : leads_over paths initiator targets l k ≡ true → LeadsOver paths initiator targets l k
    there h =
        let a = both_true (eqb (get_or paths (k * 11) 0) initiator) (member (get_or paths (k * 11 + 1) 0) targets && (way k || way (128 + k))) h in
        let b = both_true (member (get_or paths (k * 11 + 1) 0) targets) (way k || way (128 + k)) a.1 in
        let (m, c) = which (either (way k) (way (128 + k)) b.1) in
        (eqb-true _ _ a.0, b.0, m, c)

    either_way : Memᴰ l (links_at paths k) ⊎ Memᴰ l (links_at paths (128 + k)) → l < 64 → way k || way (128 + k) ≡ true
    either_way (inl m) h = rw (off k m h)
    either_way (inr m) h = rw (off (128 + k) m h) (or-true (way k))

    back : LeadsOver paths initiator targets l k → leads_over paths initiator targets l k ≡ true
    back h = true-both (eq-eqb (get_or paths (k * 11) 0) initiator h.0) (true-both h.1 (either_way h.2 h.3))

module _ (p : Plan) (fair : Fair p) where
  as_many : length (paths_in_order p) ≡ length p.paths
  as_many = path-count p fair.lengths fair.ranges

  abbrev rows : RowsFrom (paths_of p) 0 (paths_in_order p)
  rows = path-rows p fair.lengths fair.ranges

  -- the links of row number n
  links-are : {b : ℕ} {xs : List Route} → RowsFrom (paths_of p) b xs → (k n : ℕ) (x : Route) → at_place k xs ≡ some x → n ≡ b + k → links_at (paths_of p) n ≡ x.links
  unfolding links_at
  links-are r k n x at is =
      let m : min 8 (get_or (paths_of p) (n * 11 + 2) 0) ≡ length x.links = omega (arith, count-byte r k n x at is, links-most r k n x at is) in
      rw m (link-bytes r k n x at is)

  -- of path number k, and of its reply
  module _ (k : ℕ) (x : Route) (at : at_place k (paths_in_order p) ≡ some x) where
    own-links : links_at (paths_of p) k ≡ x.links
    own-links = links-are rows k k x at (omega arith)

    home-links : links_at (paths_of p) (128 + k) ≡ (reply_of p.replies x).links
    home-links = links-are (reply-rows p fair.lengths fair.ranges fair.lists.paths.most) k (128 + k) (reply_of p.replies x) (reply-at p fair.lengths fair.ranges k x at) refl

  -- what is read of them
  ways : (k : ℕ) (x : Route) → at_place k (paths_in_order p) ≡ some x → (l : ℕ)
      → (Memᴰ l (links_at (paths_of p) k) ⊎ Memᴰ l (links_at (paths_of p) (128 + k))) ≡ (Memᴰ l x.links ⊎ Memᴰ l (reply_of p.replies x).links)
  ways k x at l = ap₂ (λ a b. Memᴰ l a ⊎ Memᴰ l b) (own-links k x at) (home-links k x at)

  -- The union that is worked out has the links that transactions with one of the targets use.
  pub links-used : (i targets l : ℕ) → (any_below (min 128 (length p.paths)) (leads_over (paths_of p) i targets l) ≡ true) ↔ ((t : ℕ) × (member t targets ≡ true) × (uses p i t l ≡ true))
  links-used i targets l = (there, back)
    where
      all : ℕ
      all = min 128 (length p.paths)

      test : ℕ → Bool
      test = leads_over (paths_of p) i targets l

      there : any_below all test ≡ true → (t : ℕ) × (member t targets ≡ true) × (uses p i t l ≡ true)
      there h =
          let (k, low, e) = any-true all test h in
          let (x, at) = at_some (paths_in_order p) k (omega (arith, as_many)) in
          let (a, b, c, d) = (leads-over (paths_of p) i targets l k).0 e in
          let from : x.start ≡ i = sym (start-byte rows k k x at (omega arith)) ∙ a in
          let used = way-used p fair.lengths fair.lists.paths.once fair.lists.replies fair.reached x (path-at p fair.lengths fair.ranges k x at) l (rw (ways k x at l) at c) in
          (x.end, rw (end-byte rows k k x at (omega arith)) at b, subst (λ n. uses p n x.end l ≡ true) from used)

      back : (t : ℕ) × (member t targets ≡ true) × (uses p i t l ≡ true) → any_below all test ≡ true
      back (t, m, u) =
          let w = used-way p fair.lengths fair.lists.paths.once fair.lists.replies fair.reached i t l u in
          let x = w.route in
          let (k, _, at) = member-at (paths_in_order p) x (to-order p fair.lengths fair.ranges x w.has) in
          any_below_lem all test k (omega (arith, as_many, at-within (paths_in_order p) k x at, fair.lists.paths.most))
          ((leads-over (paths_of p) i targets l k).1 (
            start-byte rows k k x at (omega arith) ∙ w.from,
            rw (end-byte rows k k x at (omega arith), w.to) m,
            rw (ways k x at l) w.on,
            used_low p i t l fair.ranges u,
          ))
