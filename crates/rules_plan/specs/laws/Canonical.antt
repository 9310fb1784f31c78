-- The canonical plan: it is the same plan, and plans are the same exactly when they have one canonical plan.
use Rattle.std.specs.Prelude.{◌≡◌, refl, ◌↔◌, ◌⊎◌, Bool, true, false, ℕ, min, max, ◌<◌, leb, eqb}
use Rattle.std.proofs.Common.{sym, ap, ◌∙◌, inl, inr, arith, leb-true, leb-false}
use Rattle.std.proofs.Math.Path.{fun_ext}
use mathlib.Core.List.{List, Memᴰ}
use Rattle.lists.specs.Search.{keep, is_in, twice, below64}
use Rattle.lists.specs.Order.{Shuffled}
use Rattle.lists.specs.laws.Shuffle.{Respects, eq-respects, shuffled-each, any-shuffled}
use Rattle.lists.specs.laws.Order.{order-shuffled, orders-shuffled, order_same, orders-same, pair-turned, in_order-shuffled, in_orders-shuffled, in_order-numbers}
use Rattle.rules_plan.specs.Plan.{Link, Entry, Plan}
use Rattle.rules_plan.specs.Judge.{out_of_range}
use Rattle.rules_plan.specs.Canon.{small_first, rising, with_rising, canonical, SameLink, SameEntry, SamePlan}
use Rattle.rules_plan.specs.Good.{Good, Each, same_device_number, same_link_number, same_path_ends, same_entry_place}
use Rattle.rules_plan.specs.laws.Same.{link-refl, entry-refl, plan-sym, plan-trans, same_ends}
use Rattle.rules_plan.specs.laws.SameItems.{good-same}
use Rattle.rules_plan.specs.laws.InRange.{device-ranged, link-ranged, path-ranged, entry-ranged, reply-ranged}

-- small_first gives the same link, and with_rising the same entry ..
pub small_first-same : (l : Link) → SameLink l (small_first l)
unfolding small_first
small_first-same l = record { num = refl; ends = go (leb l.one l.other) refl }
  where
    go : (b : Bool) → leb l.one l.other ≡ b
        → ((l.one ≡ min l.one l.other) × (l.other ≡ max l.one l.other)) ⊎ ((l.one ≡ max l.one l.other) × (l.other ≡ min l.one l.other))
    go true e = inl (omega (arith, leb-true l.one l.other e))
    go false e = inr (omega (arith, leb-false l.one l.other e))

pub with_rising-same : (e : Entry) → twice e.targets ≡ false → ((t : ℕ) → Memᴰ t e.targets → t < 64) → SameEntry e (with_rising e)
unfolding with_rising rising
with_rising-same e u h = record { initiator = refl; slot = refl; span = refl; targets = rw (← in_order-numbers e.targets u) (in_order-shuffled (λ t. t) e.targets h) }

-- .. and one for all links, all entries that are the same
pub small_first-respects : Respects SameLink small_first
unfolding small_first
small_first-respects l m h = rw h.num (same_ends put (λ a b. turned a b (omega arith) (omega arith)) l m h)
  where
    put : ℕ → ℕ → Link
    put a b = record { num = m.num; one = min a b; other = max a b }

    turned : (a b : ℕ) → min a b ≡ min b a → max a b ≡ max b a → put a b ≡ put b a
    turned a b e f = rw (e, f)

pub rising-shuffled : {ts us : List ℕ} → Shuffled ◌≡◌ ts us → rising ts ≡ rising us
unfolding rising is_in
rising-shuffled s = ap (λ f. keep f below64) (fun_ext (λ t. any-shuffled (eqb t) (eq-respects (eqb t)) s))

pub with_rising-respects : Respects SameEntry with_rising
unfolding with_rising
with_rising-respects e f h = rw (h.initiator, h.slot, h.span, rising-shuffled h.targets)

-- a plan in range, with no target twice in an entry, is the same as its canonical plan
pub same-ordered : (p : Plan) → Each p out_of_range false → ((e : Entry) → Memᴰ e p.entries → twice e.targets ≡ false)
    → SamePlan p (canonical p)
unfolding canonical
same-ordered p r u = record {
  devices = in_order-shuffled (λ d. d.num) p.devices (λ d m. (device-ranged p r d m).num);
  links = shuffled-each link-refl small_first (in_order-shuffled (λ l. l.num) p.links (λ l m. (link-ranged p r l m).num)) (λ l m. small_first-same l);
  paths = in_orders-shuffled (λ x. x.start) (λ x. x.end) p.paths (λ x m. let h = path-ranged p r x m in (h.start, h.end));
  entries = shuffled-each entry-refl with_rising (in_orders-shuffled (λ e. e.initiator) (λ e. e.slot) p.entries (λ e m. let h = entry-ranged p r e m in (h.initiator, h.slot)))
      (λ e m. with_rising-same e (u e m) (entry-ranged p r e m).targets);
  timings = refl;
  times = refl;
  replies = in_orders-shuffled (λ x. x.end) (λ x. x.start) p.replies (λ x m. let h = reply-ranged p r x m in (h.end, h.start));
}

pub same-canonical : (p : Plan) → Good p → SamePlan p (canonical p)
same-canonical p g = same-ordered p g.ranges g.targets

pub good-canonical : (p : Plan) → Good p → Good (canonical p)
good-canonical p g = good-same (same-canonical p g) g

-- plans that are the same have one canonical plan, where no number and no pair of numbers is there twice in one of them
pub canonical-same : (p q : Plan) → Good p → SamePlan p q → canonical p ≡ canonical q
unfolding canonical same_device_number same_link_number same_path_ends same_entry_place
canonical-same p q g s = rw (
  order_same s.devices (λ d. d.num) g.devices,
  order-shuffled link-refl small_first small_first-respects (λ l. l.num) (λ l m h. h.num) s.links g.links,
  orders-same s.paths (λ x. x.start) (λ x. x.end) g.paths,
  orders-shuffled entry-refl with_rising with_rising-respects (λ e. e.initiator) (λ e. e.slot) (λ e f h. h.initiator) (λ e f h. h.slot) s.entries g.entries,
  s.timings,
  s.times,
  orders-same s.replies (λ x. x.end) (λ x. x.start) (pair-turned (λ x. x.start) (λ x. x.end) p.replies ∙ g.replies),
)

pub canonical-twice : (p : Plan) → Good p → canonical (canonical p) ≡ canonical p
canonical-twice p g = sym (canonical-same p (canonical p) g (same-canonical p g))

-- plans are the same exactly when they have one canonical plan
pub same-plans : (p q : Plan) → Good p → Good q → SamePlan p q ↔ (canonical p ≡ canonical q)
same-plans p q g h = (canonical-same p q g, λ e. plan-trans (same-canonical p g) (rw e (plan-sym (same-canonical q h))))
