-- Plans that differ in their orders only have equal memory.
use Rattle.std.specs.Prelude.{◌≡◌, refl, ◌↔◌, Bool, false, cond, eqb}
use Rattle.std.proofs.Math.Path.{ap, ap₂, fun_ext}
use Rattle.std.proofs.Common.{◌∙◌, arith}
use mathlib.Core.List.{List, ◌++◌, map}
use Rattle.std.proofs.Math.Option.{Option, none, some}
use Prim.Native.Nat.{ℕ, ◌/◌, ◌%◌, min, max}
use Rattle.lists.specs.Search.{repeats, is_in}
use Rattle.lists.specs.Place.{at_place}
use Rattle.lists.specs.Cells.{cells, padded}
use Rattle.lists.specs.laws.Shuffle.{Respects, eq-respects, shuffled-length, any-shuffled}
use Rattle.lists.specs.laws.Order.{one_key, one-pair, orders-same}
use Rattle.lists.specs.laws.Found.{read-shuffled}
use Rattle.bitsets.specs.Set.{packed}
use Rattle.rules_plan.specs.Plan.{Link, Route, Entry, Times, Plan}
use Rattle.rules_plan.specs.Meaning.{leads_from, stands_at, entry_at, times_of}
use Rattle.rules_plan.specs.Canon.{canonical, SameLink, SameEntry, SamePlan}
use Rattle.rules_plan.specs.Good.{Good, same_link_number, same_path_ends, same_entry_place}
use Rattle.rules_plan.specs.laws.Same.{link-refl, entry-refl, plan-sym, same_ends, same-has_kind, same-is_link, same-has_path, same-initiators, same-stands_at}
use Rattle.rules_plan.specs.laws.SameItems.{same_length, good-same}
use Rattle.rules_plan.specs.laws.Canonical.{same-canonical}
use Rattle.memory_plan.specs.Memory.{sets_of, end_of, ends_of, rows_of, of_row, reach_of, paths_in_order, turned, no_route, reply_of, replies_in_order, places_for, paths_of, span_of, spans_of, aim_of, slot_aims, has_target, longer_than, slots_with, turns_of, long_of, aims_of, costs_among, costs_of, numbers_with, numbers_of, Holds}
use Rattle.memory_plan.specs.laws.Costs.{costs-shuffled}

-- a link's ends in order, whichever stands first
same-end_of : (side : ℕ) → Respects SameLink (λ (l : Link). end_of side (some l))
unfolding end_of
same-end_of side = same_ends (λ a b. cond (eqb side 0) (min a b) (max a b)) (λ a b. ap₂ (cond (eqb side 0)) (omega arith) (omega arith))

same-aim_of : Respects SameEntry (λ (e : Entry). aim_of (some e))
unfolding aim_of is_in
same-aim_of e f h = ap packed (fun_ext (λ t. any-shuffled (eqb t) (eq-respects (eqb t)) h.targets))

same-has_target : (t : ℕ) → Respects SameEntry (λ (e : Entry). has_target t (some e))
unfolding has_target is_in
same-has_target t e f h = any-shuffled (eqb t) (eq-respects (eqb t)) h.targets

same-longer_than : (k : ℕ) → Respects SameEntry (λ (e : Entry). longer_than k (some e))
unfolding longer_than
same-longer_than k e f h = rw h.span

same-span_of : Respects SameEntry (λ (e : Entry). span_of (some e))
unfolding span_of
same-span_of e f h = h.span

module _ {p q : Plan} (s : SamePlan p q) where
  pub same-sets : sets_of p ≡ sets_of q
  unfolding sets_of
  same-sets = rw (fun_ext (same-has_kind s 0), fun_ext (same-has_kind s 1), fun_ext (same-is_link s))

  -- where no link number is there twice
  pub same-ends-of : repeats same_link_number p.links ≡ false → ends_of p ≡ ends_of q
  unfolding ends_of same_link_number
  same-ends-of u = ap (cells 128) (fun_ext λ n.
      read-shuffled _ (λ l m h. ap (eqb (n / 2)) h.num) (end_of (n % 2)) (same-end_of (n % 2)) link-refl s.links (one_key (λ l. l.num) p.links u (n / 2)))

  pub same_rows : rows_of p ≡ rows_of q
  unfolding rows_of
  same_rows = ap (padded 8 0) (same-initiators s)

  -- what two plans give for an initiator, put into its row
  same-of_row : (r : ℕ) (f g : ℕ → ℕ) → ((i : ℕ) → f i ≡ g i) → of_row p r f ≡ of_row q r g
  unfolding of_row
  same-of_row r f g h = ap₂ {C = ℕ} (λ (is : List ℕ) (e : ℕ → ℕ). elim (at_place r is) [ none ↦ 0 | some i ↦ e i ]) (same-initiators s) (fun_ext h)

  pub same-reach : reach_of p ≡ reach_of q
  unfolding reach_of
  same-reach = ap (cells 8) (fun_ext λ r. same-of_row r _ _ (λ i. ap packed (fun_ext (same-has_path s i))))

  -- where no path is there twice
  pub same-paths_in_order : repeats same_path_ends p.paths ≡ false → paths_in_order p ≡ paths_in_order q
  unfolding paths_in_order same_path_ends
  same-paths_in_order u = orders-same s.paths (λ x. x.start) (λ x. x.end) u

  same-reply_of : repeats same_path_ends p.replies ≡ false → (x : Route) → reply_of p.replies x ≡ reply_of q.replies x
  unfolding reply_of leads_from same_path_ends
  same-reply_of v x =
      read-shuffled (leads_from x.end x.start) (eq-respects _) (λ (o : Option Route). elim o [ none ↦ no_route | some y ↦ turned y ]) (eq-respects _) (λ y. refl) s.replies
      (one-pair (λ y. y.start) (λ y. y.end) p.replies v x.end x.start)

  pub same-paths : repeats same_path_ends p.paths ≡ false → repeats same_path_ends p.replies ≡ false → paths_of p ≡ paths_of q
  unfolding paths_of replies_in_order
  same-paths u v = ap₂ (λ (f : Route → Route) (xs : List Route). places_for xs ++ places_for (map f xs)) (fun_ext (same-reply_of v)) (same-paths_in_order u)

  -- where no entry is there twice
  module _ (u : repeats same_entry_place p.entries ≡ false) where
    pub same-entry_at : {A : Type 0} (g : Option Entry → A) → Respects SameEntry (λ (e : Entry). g (some e)) → (i v : ℕ) → g (entry_at p.entries i v) ≡ g (entry_at q.entries i v)
    unfolding entry_at stands_at same_entry_place
    same-entry_at g c i v = read-shuffled (stands_at i v) (same-stands_at i v) g c entry-refl s.entries (one-pair (λ e. e.initiator) (λ e. e.slot) p.entries u i v)

    pub same-spans : spans_of p ≡ spans_of q
    unfolding spans_of
    same-spans = ap (cells 512) (fun_ext λ n. same-of_row (n / 64) _ _ (λ i. same-entry_at span_of same-span_of i (n % 64)))

    same-slot_aims : slot_aims p ≡ slot_aims q
    unfolding slot_aims
    same-slot_aims = ap (cells 512) (fun_ext λ n. same-of_row (n / 64) _ _ (λ i. same-entry_at aim_of same-aim_of i (n % 64)))

    same-slots_with : (g : Option Entry → Bool) → Respects SameEntry (λ (e : Entry). g (some e)) → (i : ℕ) → slots_with g p.entries i ≡ slots_with g q.entries i
    unfolding slots_with
    same-slots_with g c i = ap packed (fun_ext λ v. same-entry_at g c i v)

    pub same-aims : aims_of p ≡ aims_of q
    unfolding aims_of turns_of long_of
    same-aims = ap₂ ◌++◌ same-slot_aims (ap₂ ◌++◌
        (ap (cells 512) (fun_ext λ n. same-of_row (n / 64) _ _ (same-slots_with (has_target (n % 64)) (same-has_target (n % 64)))))
        (ap (cells 128) (fun_ext λ n. same-of_row (n / 16) _ _ (same-slots_with (longer_than (n % 16)) (same-longer_than (n % 16))))))

  -- where no path and no reply is there twice
  pub same-costs : repeats same_path_ends p.paths ≡ false → repeats same_path_ends p.replies ≡ false → costs_of p ≡ costs_of q
  unfolding costs_among
  same-costs u v =
      ap (λ (xs : List Times). costs_among p (times_of xs) p.replies p.paths) s.times ∙ costs-shuffled p (times_of q.times) s.replies v s.paths u
      ∙ ap (cells 512) (fun_ext λ n. same-of_row (n / 64) _ _ (λ i. refl))

  pub same_numbers : repeats same_path_ends p.paths ≡ false → repeats same_path_ends p.replies ≡ false → numbers_of p ≡ numbers_of q
  unfolding numbers_with
  same_numbers u v = rw (same-costs u v, same_length s, same-initiators s, shuffled-length s.paths, shuffled-length s.entries, s.timings, s.times)

-- the eight arrays of two plans are equal
pub record SameArrays (p q : Plan) : Type 0 where
  pub sets : sets_of p ≡ sets_of q
  pub ends : ends_of p ≡ ends_of q
  pub rows : rows_of p ≡ rows_of q
  pub reach : reach_of p ≡ reach_of q
  pub paths : paths_of p ≡ paths_of q
  pub spans : spans_of p ≡ spans_of q
  pub aims : aims_of p ≡ aims_of q
  pub numbers : numbers_of p ≡ numbers_of q

pub same_memory : {p q : Plan} → SamePlan p q → Good p → SameArrays p q
same_memory s g = record {
  sets = same-sets s;
  ends = same-ends-of s g.links;
  rows = same_rows s;
  reach = same-reach s;
  paths = same-paths s g.paths g.replies;
  spans = same-spans s g.entries;
  aims = same-aims s g.entries;
  numbers = same_numbers s g.paths g.replies;
}

-- what holds a plan holds each plan that is the same
pub holds_same : {p q : Plan} → SamePlan p q → Good p → (sets ends rows reach paths spans aims numbers : List ℕ)
    → Holds p sets ends rows reach paths spans aims numbers → Holds q sets ends rows reach paths spans aims numbers
holds_same s g sets ends rows reach paths spans aims numbers h =
    let m = same_memory s g in
    record {
      sets = h.sets ∙ m.sets;
      ends = h.ends ∙ m.ends;
      rows = h.rows ∙ m.rows;
      reach = h.reach ∙ m.reach;
      paths = h.paths ∙ m.paths;
      spans = h.spans ∙ m.spans;
      aims = h.aims ∙ m.aims;
      numbers = h.numbers ∙ m.numbers;
    }

-- memory holds a plan in the order in which a file gave it exactly when it holds its canonical plan
pub holds-canonical : (p : Plan) → Good p → (sets ends rows reach paths spans aims numbers : List ℕ)
    → Holds p sets ends rows reach paths spans aims numbers ↔ Holds (canonical p) sets ends rows reach paths spans aims numbers
holds-canonical p g sets ends rows reach paths spans aims numbers =
    let s = same-canonical p g in
    (holds_same s g sets ends rows reach paths spans aims numbers, holds_same (plan-sym s) (good-same s g) sets ends rows reach paths spans aims numbers)
