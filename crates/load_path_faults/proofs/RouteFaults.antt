-- The verdict on a route: which row of the table holds, and the tests of the rows read off the memory of a fair plan.
use mathlib.Core.Path.{◌≡◌, sym, ◌∙◌}
use mathlib.Core.List.{List, Memᴰ}
use mathlib.Core.Bool.{Bool, true, false, ◌&&◌, ◌||◌, or-true, and-false}
use Prim.Native.Nat.{ℕ, ◌<◌, ◌≤◌}
use lib.Dec.{eqb}
use borrow.Author.Tests.{lt-ltb, le-ltb, eq-eqb, ne_eqb}
use Rattle.lists.specs.Search.{any, all}
use Rattle.lists.specs.Rows.{first_of}
use Rattle.lists.specs.laws.Bools.{neither, same_test, true-both}
use Rattle.lists.specs.laws.Search.{all-elim, all-intro}
use Rattle.bitsets.specs.Set.{member, listed, within_of}
use Rattle.bitsets.specs.Laws.{within-listed}
use Rattle.bitsets.specs.Packed.{member-packed-below}
use Rattle.rules_plan.specs.Plan.{nth, Route, Plan}
use Rattle.rules_plan.specs.Meaning.{has_kind, is_node, is_link, is_walk}
use Rattle.rules_plan.specs.Judge.{over63, route_out_of_range}
use Rattle.rules_plan.specs.laws.Ranges.{Below64, RouteRange, in-range}
use Rattle.memory_plan.specs.Memory.{sets_of}
use Rattle.load_path_faults.specs.Routes.{route, route_fault}

-- 6, from the tests that the code makes: one that fails is enough
module _ (a b : ℕ) (ls : List ℕ) where
  pub range-start : 63 < a → route_out_of_range (route a b ls) ≡ true
  unfolding over63
  range-start h = rw (lt-ltb 63 a h)

  pub range-end : 63 < b → route_out_of_range (route a b ls) ≡ true
  unfolding over63
  range-end h = simp (lt-ltb 63 b h, or-true)

  pub range-links : any over63 ls ≡ true → route_out_of_range (route a b ls) ≡ true
  range-links e = rw (e, or-true (over63 a || over63 b))

  pub range-same : a ≡ b → route_out_of_range (route a b ls) ≡ true
  range-same e = simp (eq-eqb a b e, or-true)

  pub range-none : a ≤ 63 → b ≤ 63 → any over63 ls ≡ false → (a ≡ b → ⊥) → route_out_of_range (route a b ls) ≡ false
  unfolding over63
  range-none h g e d = rw (e, le-ltb 63 a h, le-ltb 63 b g, ne_eqb a b d)

-- the row that decides
module _ (p : Plan) (x : Route) (again many alone : Bool) where
  pub fault-6 : route_out_of_range x ≡ true → 6 ≡ route_fault p x again many alone
  unfolding route_fault first_of
  fault-6 a = rw a

  module _ (a : route_out_of_range x ≡ false) where
    pub fault-7 : again ≡ true → 7 ≡ route_fault p x again many alone
    unfolding route_fault first_of
    fault-7 b = rw (a, b)

    module _ (b : again ≡ false) where
      pub fault-8 : is_node p x.start && is_node p x.end && all (is_link p) x.links ≡ false → 8 ≡ route_fault p x again many alone
      unfolding route_fault first_of
      fault-8 c = rw (a, b, c)

      module _ (c : is_node p x.start && is_node p x.end && all (is_link p) x.links ≡ true) where
        pub fault-9 : many ≡ true → 9 ≡ route_fault p x again many alone
        unfolding route_fault first_of
        fault-9 d = rw (a, b, c, d)

        pub fault-10 : many ≡ false → is_walk p x.start x.links x.end ≡ false → 10 ≡ route_fault p x again many alone
        unfolding route_fault first_of
        fault-10 d e = rw (a, b, c, d, e)

        pub fault-11 : many ≡ false → is_walk p x.start x.links x.end ≡ true → alone ≡ true → 11 ≡ route_fault p x again many alone
        unfolding route_fault first_of
        fault-11 d e f = rw (a, b, c, d, e, f)

        pub fault-none : many ≡ false → is_walk p x.start x.links x.end ≡ true → alone ≡ false → 0 ≡ route_fault p x again many alone
        unfolding route_fault first_of
        fault-none d e f = rw (a, b, c, d, e, f)

-- 8: the sets of nodes and links
module _ (p : Plan) {sets : List ℕ} (is : sets ≡ sets_of p) where
  node-read : {n : ℕ} → n < 64 → member n (nth sets 0) ≡ is_node p n
  unfolding sets_of is_node
  node-read {n} h = rw is (member-packed-below n (has_kind p 0) h)

  links-read : {ls : List ℕ} → Below64 ls → all (λ (n : ℕ). member n (nth sets 2)) ls ≡ all (is_link p) ls
  unfolding sets_of
  links-read {ls} h = same_test _ _ (λ e. all-intro (is_link p) ls (λ n m. sym (here n m) ∙ all-elim _ ls n e m)) (λ e. all-intro _ ls (λ n m. here n m ∙ all-elim (is_link p) ls n e m))
    where
      here : (n : ℕ) → Memᴰ n ls → member n (nth sets 2) ≡ is_link p n
      here n m = rw is (member-packed-below n (is_link p) (h n m))

  -- of a route in range, of whose links this is the set
  module _ (x : Route) (inside : route_out_of_range x ≡ false) (set : ℕ) (marks : any over63 x.links ≡ false → (k : ℕ) → member k set ≡ listed x.links k) where
    low : RouteRange x
    low = in-range x inside

    within-read : within_of set (nth sets 2) ≡ all (is_link p) x.links
    within-read = within-listed x.links set (nth sets 2) low.links (marks (neither (over63 x.start || over63 x.end) (any over63 x.links) (neither _ (eqb x.start x.end) inside).0).1) ∙ links-read low.links

    pub start-none : member x.start (nth sets 0) ≡ false → is_node p x.start && is_node p x.end && all (is_link p) x.links ≡ false
    start-none e = let z = sym (node-read low.start) ∙ e in rw z

    pub end-none : member x.end (nth sets 0) ≡ false → is_node p x.start && is_node p x.end && all (is_link p) x.links ≡ false
    end-none e = let z = sym (node-read low.end) ∙ e in rw (z, and-false)

    pub links_none : within_of set (nth sets 2) ≡ false → is_node p x.start && is_node p x.end && all (is_link p) x.links ≡ false
    links_none e = let z = sym within-read ∙ e in rw (z, and-false)

    pub links-known : within_of set (nth sets 2) ≡ true → all (is_link p) x.links ≡ true
    links-known e = sym within-read ∙ e

    pub known : member x.start (nth sets 0) ≡ true → member x.end (nth sets 0) ≡ true → within_of set (nth sets 2) ≡ true
        → is_node p x.start && is_node p x.end && all (is_link p) x.links ≡ true
    known e f g = true-both (true-both (sym (node-read low.start) ∙ e) (sym (node-read low.end) ∙ f)) (links-known g)

    pub start-low : x.start < 64
    start-low = low.start
