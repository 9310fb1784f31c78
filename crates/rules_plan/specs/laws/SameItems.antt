-- Plans that differ in their orders only have the same items up to order, and so files of equal lengths; what is good of one is good of the other.
use Rattle.std.specs.Prelude.{◌≡◌, map, Bool, true, false, ◌&&◌, ◌||◌, ℕ, suc, length, eqb}
use Rattle.std.proofs.Math.Path.{refl, fun_ext}
use Rattle.std.proofs.Common.{sym, ap, ◌∙◌}
use Rattle.std.proofs.Math.Bool.{not, and_comm, or_comm, or_assoc}
use Rattle.lists.specs.Search.{repeats, twice}
use Rattle.lists.specs.Order.{Shuffled}
use Rattle.lists.specs.laws.Shuffle.{Respects, eq-respects, each-shuffled, shuffled-refl, shuffled-length, shuffled-map, shuffled-append, any-shuffled, all_shuffled, flat-length}
use Rattle.lists.specs.laws.Bools.{eqb-sym}
use Rattle.lists.specs.laws.Order.{key-repeats, pair-repeats}
use Rattle.rules_plan.specs.Plan.{Device, Link, Route, Entry, Timing, Times, Plan, Item, device, link, path, entry, timing, times, reply}
use Rattle.rules_plan.specs.Fields.{tag_for, content_for, field_for}
use Rattle.rules_plan.specs.Meaning.{is_device, is_node, has_path}
use Rattle.rules_plan.specs.Judge.{over63, out_of_range, route_not_given, not_given, route_no_walk, no_walk, no_path}
use Rattle.rules_plan.specs.Canon.{items, written, SameLink, SameEntry, SamePlan}
use Rattle.rules_plan.specs.Good.{Good, Each, same_device_number, same_link_number, same_path_ends, same_entry_place}
use Rattle.rules_plan.specs.laws.Same.{link-refl, entry-refl, same_ends, same-is_device, same-is_node, same-is_link, same-has_path, same-is_walk, same-initiators}
use Rattle.rules_plan.specs.laws.SameVerdict.{same-overrun, same-clash}

-- items that are the same
pub data SameItem : Item → Item → Type 0 where
  devices : {c d : Device} → c ≡ d → SameItem (device c) (device d)
  links : {l m : Link} → SameLink l m → SameItem (link l) (link m)
  paths : {x y : Route} → x ≡ y → SameItem (path x) (path y)
  entries : {e f : Entry} → SameEntry e f → SameItem (entry e) (entry f)
  timings : {t u : Timing} → t ≡ u → SameItem (timing t) (timing u)
  timed : {x y : Times} → x ≡ y → SameItem (times x) (times y)
  replies : {x y : Route} → x ≡ y → SameItem (reply x) (reply y)

pub item-refl : (x : Item) → SameItem x x
item-refl (device d) = devices refl
item-refl (link l) = links (link-refl l)
item-refl (path x) = paths refl
item-refl (entry e) = entries (entry-refl e)
item-refl (timing t) = timings refl
item-refl (times x) = timed refl
item-refl (reply x) = replies refl

pub same-items : {p q : Plan} → SamePlan p q → Shuffled SameItem (items p) (items q)
unfolding items
same-items {q} s =
    let i = item-refl in
    shuffled-append i (shuffled-append i (shuffled-append i (shuffled-append i (shuffled-append i (shuffled-append i
    (shuffled-map device (λ c d. devices) s.devices)
    (shuffled-map link (λ l m. links) s.links))
    (shuffled-map path (λ x y. paths) s.paths))
    (shuffled-map entry (λ e f. entries) s.entries))
    (rw s.timings (shuffled-refl i (map timing q.timings))))
    (rw s.times (shuffled-refl i (map times q.times))))
    (shuffled-map reply (λ x y. replies) s.replies)

-- the tests of one item
pub same_tag : Respects SameItem tag_for
unfolding tag_for
same_tag x y (devices e) = refl
same_tag x y (links e) = refl
same_tag x y (paths e) = refl
same_tag x y (entries e) = refl
same_tag x y (timings e) = refl
same_tag x y (timed e) = refl
same_tag x y (replies e) = refl

pub same_size : Respects SameItem (λ (x : Item). length (content_for x))
unfolding content_for
same_size x y (devices e) = refl
same_size x y (links e) = refl
same_size x y (paths e) = ap (λ z. suc (suc (length z.links))) e
same_size x y (entries e) = ap (λ n. suc (suc (suc n))) (shuffled-length e.targets)
same_size x y (timings e) = ap (λ z. length (content_for (timing z))) e
same_size x y (timed e) = ap (λ z. length (content_for (times z))) e
same_size x y (replies e) = ap (λ z. suc (suc (length z.links))) e

-- plans that are the same have files of equal lengths
pub same_length : {p q : Plan} → SamePlan p q → length (written p) ≡ length (written q)
unfolding written field_for
same_length s = flat-length field_for (λ x y h. ap (λ n. suc (suc (suc n))) (same_size x y h)) (same-items s)

pub same-out_of_range : Respects SameItem out_of_range
unfolding out_of_range
same-out_of_range x y (devices e) = ap (λ z. out_of_range (device z)) e
same-out_of_range x y (links {l} {m} e) = rw e.num (same_ends (λ a b. over63 m.num || over63 a || over63 b || eqb a b) ends l m e)
  where
    ends : (a b : ℕ) → over63 m.num || over63 a || over63 b || eqb a b ≡ over63 m.num || over63 b || over63 a || eqb b a
    ends a b = rw (eqb-sym a b, or_assoc (over63 m.num) (over63 a) (over63 b), or_comm (over63 a) (over63 b), ← or_assoc (over63 m.num) (over63 b) (over63 a))
same-out_of_range x y (paths e) = ap (λ z. out_of_range (path z)) e
same-out_of_range x y (entries e) = rw (e.initiator, e.slot, e.span, any-shuffled over63 (eq-respects over63) e.targets)
same-out_of_range x y (timings e) = ap (λ z. out_of_range (timing z)) e
same-out_of_range x y (timed e) = ap (λ z. out_of_range (times z)) e
same-out_of_range x y (replies e) = ap (λ z. out_of_range (reply z)) e

-- what is asked of an item after the whole plan
module _ {p q : Plan} (s : SamePlan p q) where
  same-route-not_given : {x y : Route} → x ≡ y → route_not_given p x ≡ route_not_given q y
  same-route-not_given {y} e = rw (e, same-is_node s y.start, same-is_node s y.end, fun_ext (same-is_link s))

  pub same-not_given : (x y : Item) → SameItem x y → not_given p x ≡ not_given q y
  unfolding not_given
  same-not_given x y (devices e) = refl
  same-not_given x y (links {l} {m} e) = rw (same-is_device s l.one, same-is_device s l.other)
      (ap not (same_ends (λ a b. is_device q a && is_device q b) (λ a b. and_comm (is_device q a) (is_device q b)) l m e))
  same-not_given x y (paths e) = same-route-not_given e
  same-not_given x y (entries {e = a} {f = b} e) = rw (e.initiator, same-is_node s b.initiator, fun_ext (same-is_node s), all_shuffled (is_node q) (eq-respects _) e.targets)
  same-not_given x y (timings e) = refl
  same-not_given x y (timed e) = refl
  same-not_given x y (replies e) = same-route-not_given e

  pub same-no_path : (x y : Item) → SameItem x y → no_path p x ≡ no_path q y
  unfolding no_path
  same-no_path x y (devices e) = refl
  same-no_path x y (links e) = refl
  same-no_path x y (paths e) = refl
  same-no_path x y (entries {e = a} {f = b} e) = rw (e.initiator, fun_ext (same-has_path s b.initiator), all_shuffled (has_path q b.initiator) (eq-respects _) e.targets)
  same-no_path x y (timings e) = refl
  same-no_path x y (timed e) = refl
  same-no_path x y (replies {x = a} {y = b} e) = rw (e, same-has_path s b.end b.start)

  same-route-no_walk : repeats same_link_number p.links ≡ false → {x y : Route} → x ≡ y → route_no_walk p x ≡ route_no_walk q y
  same-route-no_walk u {y} e = rw (e, same-is_walk s u y.start y.links y.end)

  pub same-no_walk : repeats same_link_number p.links ≡ false → (x y : Item) → SameItem x y → no_walk p x ≡ no_walk q y
  unfolding no_walk
  same-no_walk u x y (devices e) = refl
  same-no_walk u x y (links e) = refl
  same-no_walk u x y (paths e) = same-route-no_walk u e
  same-no_walk u x y (entries e) = refl
  same-no_walk u x y (timings e) = refl
  same-no_walk u x y (timed e) = refl
  same-no_walk u x y (replies e) = same-route-no_walk u e

  -- a test that holds of every item of one plan holds of every item of the other
  pub same-each : (t u : Item → Bool) (r : Bool) → ((x y : Item) → SameItem x y → t x ≡ u y) → Each p t r → Each q u r
  same-each t u r c h = each-shuffled (λ y. u y ≡ r) (λ x y k e. sym (c x y k) ∙ alike x ∙ e) (same-items s) (λ x m. sym (alike x) ∙ h x m)
    where
      alike : (x : Item) → t x ≡ u x
      alike x = c x x (item-refl x)

-- a plan that is the same as a good one is good
pub good-same : {p q : Plan} → SamePlan p q → Good p → Good q
unfolding twice same_device_number same_link_number same_path_ends same_entry_place
good-same {p} {q} s g = record {
  short = rw (← same_length s) g.short;
  lengths = same-each s _ _ true (λ x y h. rw (same_tag x y h, same_size x y h)) g.lengths;
  ranges = same-each s _ _ false same-out_of_range g.ranges;
  devices = sym (key-repeats s.devices (λ d. d.num) (eq-respects _)) ∙ g.devices;
  links = sym (key-repeats s.links (λ l. l.num) (λ l m h. h.num)) ∙ g.links;
  paths = sym (pair-repeats s.paths (λ x. x.start) (λ x. x.end) (eq-respects _) (eq-respects _)) ∙ g.paths;
  entries = sym (pair-repeats s.entries (λ e. e.initiator) (λ e. e.slot) (λ e f h. h.initiator) (λ e f h. h.slot)) ∙ g.entries;
  targets = each-shuffled (λ e. twice e.targets ≡ false) (λ e f h k. sym (key-repeats h.targets (λ t. t) (eq-respects _)) ∙ k) s.entries g.targets;
  known = same-each s _ _ false (same-not_given s) g.known;
  eight = rw (← same-initiators s) g.eight;
  most = rw (← shuffled-length s.paths) g.most;
  walks = same-each s _ _ false (same-no_walk s g.links) g.walks;
  reached = same-each s _ _ false (same-no_path s) g.reached;
  timing = rw (← s.timings) g.timing;
  times = rw (← s.times) g.times;
  replies = sym (pair-repeats s.replies (λ x. x.start) (λ x. x.end) (eq-respects _) (eq-respects _)) ∙ g.replies;
  some-entry = rw (← shuffled-length s.entries) g.some-entry;
  no-overrun = sym (same-overrun s.entries) ∙ g.no-overrun;
  no-clash = sym (same-clash s.entries s) ∙ g.no-clash;
}
