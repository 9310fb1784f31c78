-- What holds of every plan that a beginning of an accepted file gives: all of Good that the rows 4 to 11 say, item by item.
use Rattle.std.specs.Prelude.{◌≡◌, refl, ◌≢◌, ◌⊎◌, Bool, true, false, ◌&&◌, ◌||◌, ℕ, ◌≤◌, ◌<◌, length, ltb, eqb}
use Rattle.std.proofs.Common.{sym, ◌∙◌, inl, inr, arith, ltb-false, eq-eqb}
use mathlib.Core.List.Memᴰ
use mathlib.Core.List.{List, [], ◌∷◌, ◌++◌, append-nil, append_assoc, Memᴰ}
use Rattle.std.proofs.Math.ListN.{length-append}
use Rattle.lists.specs.Search.{any, keep, find, repeats, twice, up_from, below64}
use Rattle.lists.specs.laws.Bools.{neither, true-both, not-both}
use Rattle.lists.specs.laws.Append.{once_more}
use Rattle.rules_plan.specs.Plan.{Device, Link, Route, Entry, Timing, Times, Plan, blank, Item, device, link, path, entry, timing, times, reply, grow}
use Rattle.rules_plan.specs.Fields.{tags, tag_of, comes_once, tag_for}
use Rattle.rules_plan.specs.Meaning.{is_initiator, initiators}
use Rattle.rules_plan.specs.Judge.{out_of_range, given_before, not_given, no_walk, no_path}
use Rattle.rules_plan.specs.Canon.{items}
use Rattle.rules_plan.specs.Good.{same_device_number, same_link_number, same_path_ends, same_entry_place, Each, Good}
use Rattle.rules_plan.specs.laws.Lengths.{Sized}
use Rattle.rules_plan.specs.laws.Items.{UpTo, items-grow, no-timings, no-times}
use Rattle.rules_plan.specs.laws.Growth.{Within, grow-within, known-grows, walk-grows, reach-grows}
use Rattle.rules_plan.specs.laws.Initiators.{same-initiators, eight-grows, most-grows}
use Rattle.rules_plan.specs.laws.Once.{given-device, given-link, given-path, given-entry, given-reply}
use Rattle.rules_plan.specs.laws.Chain.{InOrder, no-fall, Passes, Follows, Chain, end, next}

-- of the paths
pub record FairPaths (p : Plan) : Type 0 where
  pub once : repeats same_path_ends p.paths ≡ false
  pub eight : length (initiators p) ≤ 8
  pub most : length p.paths ≤ 128

-- of the entries
pub record FairEntries (es : List Entry) : Type 0 where
  pub once : repeats same_entry_place es ≡ false
  pub targets : (e : Entry) → Memᴰ e es → twice e.targets ≡ false

-- of each list by itself
pub record FairLists (p : Plan) : Type 0 where
  pub devices : repeats same_device_number p.devices ≡ false
  pub links : repeats same_link_number p.links ≡ false
  pub paths : FairPaths p
  pub entries : FairEntries p.entries
  pub timings : length p.timings ≤ 1
  pub times : length p.times ≤ 1
  pub replies : repeats same_path_ends p.replies ≡ false

pub record Fair (p : Plan) : Type 0 where
  pub lengths : (x : Item) → Memᴰ x (items p) → Sized x
  pub ranges : Each p out_of_range false
  pub known : Each p (not_given p) false
  pub walks : Each p (no_walk p) false
  pub reached : Each p (no_path p) false
  pub lists : FairLists p

-- a tag that comes once follows only smaller tags: after itself row 4 holds of it
pub follows-smaller : (n before : ℕ) → ltb n before || eqb n before && true ≡ false → before < n
follows-smaller n before o =
    let c = neither (ltb n before) (eqb n before && true) o in
    let z : before ≢ n = λ e. not-both (true-both (eq-eqb n before (sym e)) refl) c.1 in
    omega (arith, ltb-false n before c.0)

module _ (p : Plan) (old : FairLists p) where
  more-devices : (d : Device) → given_before p (device d) ≡ false → repeats same_device_number (p.devices ++ (d ∷ [])) ≡ false
  more-devices d h = once_more same_device_number p.devices d old.devices (sym (given-device p d) ∙ h)

  more-links : (l : Link) → given_before p (link l) ≡ false → repeats same_link_number (p.links ++ (l ∷ [])) ≡ false
  more-links l h = once_more same_link_number p.links l old.links (sym (given-link p l) ∙ h)

  more-paths : (x : Route) → Passes p (path x) → FairPaths (grow p (path x))
  unfolding grow
  more-paths x h = record {
    once = once_more same_path_ends p.paths x old.paths.once (sym (given-path p x) ∙ h.new);
    eight = eight-grows p x h.few old.paths.eight;
    most = simp length-append (omega (arith, most-grows p x h.few));
  }

  more-entries : (e : Entry) → given_before p (entry e) ≡ false → FairEntries (p.entries ++ (e ∷ []))
  more-entries e h = record {
    once = once_more same_entry_place p.entries e old.entries.once n.0;
    targets = λ f m. go f (Memᴰ.append_cases p.entries m);
  }
    where
      n : (any (λ (f : Entry). same_entry_place f e) p.entries ≡ false) × (twice e.targets ≡ false)
      n = neither (any (λ (f : Entry). same_entry_place f e) p.entries) (twice e.targets) (sym (given-entry p e) ∙ h)

      go : (f : Entry) → Memᴰ f p.entries ⊎ Memᴰ f (e ∷ []) → twice f.targets ≡ false
      go f (inl m) = old.entries.targets f m
      go f (inr m) = rw (Memᴰ.eq_of_singleton m) n.1

  more-replies : (x : Route) → given_before p (reply x) ≡ false → repeats same_path_ends (p.replies ++ (x ∷ [])) ≡ false
  more-replies x h = once_more same_path_ends p.replies x old.replies (sym (given-reply p x) ∙ h)

  kept : (q : Plan) → q.paths ≡ p.paths → FairPaths q
  kept q e = record { once = rw e old.paths.once; eight = rw (same-initiators q p e) old.paths.eight; most = rw e old.paths.most }

  one-timing : (before : ℕ) (t : Timing) → UpTo p before → InOrder before (timing t) → length (p.timings ++ (t ∷ [])) ≤ 1
  unfolding tag_for comes_once tag_of tags find
  one-timing before t up o = rw (no-timings p before up (follows-smaller 5 before o)) (omega arith)

  one-times : (before : ℕ) (x : Times) → UpTo p before → InOrder before (times x) → length (p.times ++ (x ∷ [])) ≤ 1
  unfolding tag_for comes_once tag_of tags find
  one-times before x up o = rw (no-times p before up (follows-smaller 6 before o)) (omega arith)

  pub lists-grow : (before : ℕ) (x : Item) → UpTo p before → Follows p before x → FairLists (grow p x)
  unfolding grow
  lists-grow before (device d) u f = record { devices = more-devices d f.passes.new; links = old.links; paths = kept _ refl; entries = old.entries; timings = old.timings; times = old.times; replies = old.replies }
  lists-grow before (link l) u f = record { devices = old.devices; links = more-links l f.passes.new; paths = kept _ refl; entries = old.entries; timings = old.timings; times = old.times; replies = old.replies }
  lists-grow before (path x) u f = record { devices = old.devices; links = old.links; paths = more-paths x f.passes; entries = old.entries; timings = old.timings; times = old.times; replies = old.replies }
  lists-grow before (entry e) u f = record { devices = old.devices; links = old.links; paths = kept _ refl; entries = more-entries e f.passes.new; timings = old.timings; times = old.times; replies = old.replies }
  lists-grow before (timing t) u f = record { devices = old.devices; links = old.links; paths = kept _ refl; entries = old.entries; timings = one-timing before t u f.order; times = old.times; replies = old.replies }
  lists-grow before (times x) u f = record { devices = old.devices; links = old.links; paths = kept _ refl; entries = old.entries; timings = old.timings; times = one-times before x u f.order; replies = old.replies }
  lists-grow before (reply x) u f = record { devices = old.devices; links = old.links; paths = kept _ refl; entries = old.entries; timings = old.timings; times = old.times; replies = more-replies x f.passes.new }

-- what holds of the items and of one more holds of the items of the grown plan
each-grow : (P : Item → Type 0) (p : Plan) (x : Item) → UpTo p (tag_for x) → ((y : Item) → Memᴰ y (items p) → P y) → P x → (y : Item) → Memᴰ y (items (grow p x)) → P y
each-grow P p x u f h y m = go (Memᴰ.append_cases (items p) (rw (items-grow p x u) at m))
  where
    go : Memᴰ y (items p) ⊎ Memᴰ y (x ∷ []) → P y
    go (inl n) = f y n
    go (inr n) = rw (Memᴰ.eq_of_singleton n) h

module _ (p : Plan) (before : ℕ) (x : Item) (up : UpTo p before) (f : Follows p before x) where
  reaches-to : UpTo p (tag_for x)
  reaches-to y m = omega (arith, up y m, no-fall before x f.order)

  pub up-grow : UpTo (grow p x) (tag_for x)
  up-grow = each-grow (λ y. tag_for y ≤ tag_for x) p x reaches-to reaches-to (omega arith)

  pub fair-grow : Fair p → Fair (grow p x)
  fair-grow old = record {
    lengths = each-grow Sized p x reaches-to old.lengths f.size;
    ranges = each-grow (λ y. out_of_range y ≡ false) p x reaches-to old.ranges f.passes.range;
    known = on not_given (known-grows p (grow p x)) old.known f.passes.known;
    walks = on no_walk (walk-grows p (grow p x)) old.walks f.passes.walk;
    reached = on no_path (reach-grows p (grow p x)) old.reached f.passes.reached;
    lists = lists-grow p old.lists before x up f;
  }
    where
      -- a row that only asks for more does not hold after either
      on : (row : Plan → Item → Bool) → ((y : Item) → Within (tag_for y) p (grow p x) → row p y ≡ false → row (grow p x) y ≡ false) → Each p (row p) false → row p x ≡ false → Each (grow p x) (row (grow p x)) false
      on row g e h = each-grow (λ y. row (grow p x) y ≡ false) p x reaches-to (λ y m. g y (grow-within (tag_for y) p x) (e y m)) (g x (grow-within (tag_for x) p x) h)

blank-items : items blank ≡ []
unfolding items blank
blank-items = refl

pub no_items : (P : Item → Type 0) (y : Item) → Memᴰ y (items blank) → P y
no_items P y m = absurd (Memᴰ.not-nil (rw blank-items at m))

pub blank-fair : Fair blank
unfolding blank repeats initiators is_initiator any keep below64 up_from
blank-fair = record {
  lengths = no_items Sized;
  ranges = no_items (λ y. out_of_range y ≡ false);
  known = no_items (λ y. not_given blank y ≡ false);
  walks = no_items (λ y. no_walk blank y ≡ false);
  reached = no_items (λ y. no_path blank y ≡ false);
  lists = record {
    devices = refl;
    links = refl;
    paths = record { once = refl; eight = omega arith; most = omega arith };
    entries = record { once = refl; targets = λ e m. absurd (Memᴰ.not-nil m) };
    timings = omega arith;
    times = omega arith;
    replies = refl;
  };
}

-- a good plan is fair
pub good-fair : (p : Plan) → Good p → Fair p
good-fair p g = record {
  lengths = g.lengths;
  ranges = g.ranges;
  known = g.known;
  walks = g.walks;
  reached = g.reached;
  lists = record {
    devices = g.devices;
    links = g.links;
    paths = record { once = g.paths; eight = g.eight; most = g.most };
    entries = record { once = g.entries; targets = g.targets };
    timings = omega (arith, g.timing);
    times = g.times;
    replies = g.replies;
  };
}

-- a chain leads from a fair plan to a fair plan, with the chain's items behind the others
pub record Grown (p : Plan) (xs : List Item) (q : Plan) (last : ℕ) : Type 0 where
  pub fair : Fair q
  pub up : UpTo q last
  pub items : items q ≡ items p ++ xs

chain-grown : (p : Plan) (before : ℕ) (xs : List Item) (q : Plan) (last : ℕ) → Chain p before xs q last → Fair p → UpTo p before → Grown p xs q last
chain-grown p before [] q last end h u = record { fair = h; up = u; items = sym (append-nil (items p)) }
chain-grown p before (x ∷ xs) q last (next f c) h u =
    let g = chain-grown (grow p x) (tag_for x) xs q last c (fair-grow p before x u f h) (up-grow p before x u f) in
    record { fair = g.fair; up = g.up; items = g.items ∙ (rw (items-grow p x (reaches-to p before x u f)) (append_assoc (items p) (x ∷ []) xs)) }

-- a chain from the start: its items are those of the plan, and the plan is fair
pub chain-whole : (xs : List Item) (q : Plan) (last : ℕ) → Chain blank 0 xs q last → Fair q × (items q ≡ xs)
chain-whole xs q last c =
    let g = chain-grown blank 0 xs q last c blank-fair (no_items (λ y. tag_for y ≤ 0)) in
    (g.fair, rw blank-items at g.items)
