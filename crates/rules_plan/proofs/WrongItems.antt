-- Rows 6 to 11 against their sentences: of an item after a fair plan a row holds exactly where one of its sentences does.
use mathlib.Core.Path.{◌≡◌, refl}
use mathlib.Core.Logic.{◌⊎◌, inl, inr}
use mathlib.Core.List.Memᴰ
use mathlib.Core.List.{[], ◌∷◌, Memᴰ}
use mathlib.Core.Bool.{true, false, not, ◌&&◌}
use Prim.Native.Nat.{ℕ, ◌≤◌}
use lib.ListN.{length}
use Rattle.lists.specs.Search.{all}
use Rattle.lists.specs.Rows.{test_of}
use Rattle.lists.specs.laws.Bools.{not-both}
use Rattle.rules_plan.specs.Plan.{Route, Entry, Plan, Item, device, link, path, entry, timing, times, reply}
use Rattle.rules_plan.specs.Meaning.{is_device, is_node, is_link, is_initiator, has_path, is_walk}
use Rattle.rules_plan.specs.Judge.{route_not_given, route_no_walk, given_before, not_given, too_many, no_walk, no_path, item_rows}
use Rattle.rules_plan.specs.Walk.{IsRouter, Twice, Walk}
use Rattle.rules_plan.specs.Wrong.{IsDevice, IsLink, HasRoute, HasPath, HasEntry, IsInitiator, Eight, ends_of, devices_of, links_of, Gives, a-path, a-reply, WrongItem, device-over, named-device-over, link-over, named-link-over, kind-over, slot-over, span-under, span-over, greatest-under, greatest-over, least-over, rate-under, rate-over, time-over, to-itself, ends-equal, device-before, link-before, path-before, entry-before, reply-before, target-twice, no-device, no-link, router-end, ninth, past-128, no-walk, no-path, no-command}
use Rattle.rules_plan.specs.laws.Fair.{Fair}
use Rattle.rules_plan.proofs.Asks.{Asks, le-asks, or-asks, and-asks, not-asks, not-and-asks, not-all-asks, row-says}
use Rattle.rules_plan.proofs.Walks.{walk-asks}
use Rattle.rules_plan.proofs.Given.{device-asks, link-asks, route-asks, path-asks, entry-asks, initiator-asks, twice-asks, links-differ, no-node-asks, eight-asks}
use Rattle.rules_plan.proofs.OutOfRange.{range-asks, outside-wrong, device-outside, link-outside, time-outside}

module _ (p : Plan) where
  -- a device that is no node
  abbrev NoNode : ℕ → Type 0
  NoNode n = (IsDevice p n → ⊥) ⊎ IsRouter p n

  -- what rows 7, 8 and 9 ask of an item
  abbrev Before : Item → Type 0
  Before (device d) = IsDevice p d.num
  Before (link l) = IsLink p l.num
  Before (path x) = HasPath p x.start x.end
  Before (entry e) = HasEntry p e.initiator e.slot ⊎ Twice e.targets
  Before (timing t) = ⊥
  Before (times x) = ⊥
  Before (reply x) = HasRoute p.replies x.start x.end

  abbrev MissingRoute : Route → Type 0
  MissingRoute x = (NoNode x.start ⊎ NoNode x.end) ⊎ ((n : ℕ) × Memᴰ n x.links × (IsLink p n → ⊥))

  abbrev Missing : Item → Type 0
  Missing (device d) = ⊥
  Missing (link l) = (IsDevice p l.one → ⊥) ⊎ (IsDevice p l.other → ⊥)
  Missing (path x) = MissingRoute x
  Missing (entry e) = NoNode e.initiator ⊎ ((n : ℕ) × Memᴰ n e.targets × NoNode n)
  Missing (timing t) = ⊥
  Missing (times x) = ⊥
  Missing (reply x) = MissingRoute x

  never : Asks false ⊥
  never = (λ h. not-both h refl, λ h. absurd h)

  before-asks : (x : Item) → Asks (given_before p x) (Before x)
  unfolding given_before
  before-asks (device d) = device-asks p d.num
  before-asks (link l) = link-asks p l.num
  before-asks (path x) = path-asks p x.start x.end
  before-asks (entry e) = or-asks (entry-asks p e.initiator e.slot) (twice-asks e.targets)
  before-asks (timing t) = never
  before-asks (times x) = never
  before-asks (reply x) = route-asks p.replies x.start x.end

  before-wrong : (x : Item) → Before x → WrongItem p x 7
  before-wrong (device d) h = device-before {d = d} h
  before-wrong (link l) h = link-before {l = l} h
  before-wrong (path x) h = path-before {x = x} h
  before-wrong (entry e) (inl h) = entry-before {e = e} h
  before-wrong (entry e) (inr h) = target-twice {e = e} h
  before-wrong (timing t) h = absurd h
  before-wrong (times x) h = absurd h
  before-wrong (reply x) h = reply-before {x = x} h

  no-node-wrong : (x : Item) (n : ℕ) → Memᴰ n (devices_of x) → Memᴰ n (ends_of x) → NoNode n → WrongItem p x 8
  no-node-wrong x n m e (inl h) = no-device m h
  no-node-wrong x n m e (inr h) = router-end e h

  missing-route : {x : Route} (y : Item) → Gives x y → MissingRoute x → WrongItem p y 8
  unfolding devices_of ends_of links_of
  missing-route (device _) x4 _ = elim x4 [ ]
  missing-route (link _) x5 _ = elim x5 [ ]
  missing-route (entry _) x6 _ = elim x6 [ ]
  missing-route (timing _) x7 _ = elim x7 [ ]
  missing-route (times _) x8 _ = elim x8 [ ]
  missing-route (path x) a-path (inl (inl h)) = no-node-wrong (path x) x.start (Memᴰ.head refl) (Memᴰ.head refl) h
  missing-route (path x) a-path (inl (inr h)) = no-node-wrong (path x) x.end (Memᴰ.tail (Memᴰ.head refl)) (Memᴰ.tail (Memᴰ.head refl)) h
  missing-route (path x) a-path (inr (n, m, h)) = no-link m h
  missing-route (reply x) a-reply (inl (inl h)) = no-node-wrong (reply x) x.start (Memᴰ.head refl) (Memᴰ.head refl) h
  missing-route (reply x) a-reply (inl (inr h)) = no-node-wrong (reply x) x.end (Memᴰ.tail (Memᴰ.head refl)) (Memᴰ.tail (Memᴰ.head refl)) h
  missing-route (reply x) a-reply (inr (n, m, h)) = no-link m h

  missing-wrong : (x : Item) → Missing x → WrongItem p x 8
  unfolding devices_of ends_of links_of
  missing-wrong (device d) h = absurd h
  missing-wrong (link l) (inl h) = no-device (Memᴰ.head refl) h
  missing-wrong (link l) (inr h) = no-device (Memᴰ.tail (Memᴰ.head refl)) h
  missing-wrong (path x) h = missing-route (path x) a-path h
  missing-wrong (entry e) (inl h) = no-node-wrong (entry e) e.initiator (Memᴰ.head refl) (Memᴰ.head refl) h
  missing-wrong (entry e) (inr (n, m, h)) = no-node-wrong (entry e) n (Memᴰ.tail m) (Memᴰ.tail m) h
  missing-wrong (timing t) h = absurd h
  missing-wrong (times x) h = absurd h
  missing-wrong (reply x) h = missing-route (reply x) a-reply h

  -- a device that an item names and that is not given, and a router at an end, are asked about
  end-missing : (x : Route) (n : ℕ) → Memᴰ n (x.start ∷ x.end ∷ []) → NoNode n → MissingRoute x
  end-missing x n (Memᴰ.head e) h = inl (inl (rw e at h))
  end-missing x n (Memᴰ.tail (Memᴰ.head e)) h = inl (inr (rw e at h))
  end-missing x n (Memᴰ.tail (Memᴰ.tail m)) h = absurd (Memᴰ.not-nil m)

  device-missing : (x : Item) (n : ℕ) → Memᴰ n (devices_of x) → (IsDevice p n → ⊥) → Missing x
  unfolding devices_of ends_of
  device-missing (device d) n m h = absurd (Memᴰ.not-nil m)
  device-missing (link l) n (Memᴰ.head e) h = inl (rw e at h)
  device-missing (link l) n (Memᴰ.tail (Memᴰ.head e)) h = inr (rw e at h)
  device-missing (link l) n (Memᴰ.tail (Memᴰ.tail m)) h = absurd (Memᴰ.not-nil m)
  device-missing (path x) n m h = end-missing x n m (inl h)
  device-missing (entry e) n (Memᴰ.head g) h = inl (inl (rw g at h))
  device-missing (entry e) n (Memᴰ.tail m) h = inr (n, m, inl h)
  device-missing (timing t) n m h = absurd (Memᴰ.not-nil m)
  device-missing (times x) n m h = absurd (Memᴰ.not-nil m)
  device-missing (reply x) n m h = end-missing x n m (inl h)

  router-missing : (x : Item) (n : ℕ) → Memᴰ n (ends_of x) → IsRouter p n → Missing x
  unfolding ends_of
  router-missing (device d) n m h = absurd (Memᴰ.not-nil m)
  router-missing (link l) n m h = absurd (Memᴰ.not-nil m)
  router-missing (path x) n m h = end-missing x n m (inr h)
  router-missing (entry e) n (Memᴰ.head g) h = inl (inr (rw g at h))
  router-missing (entry e) n (Memᴰ.tail m) h = inr (n, m, inr h)
  router-missing (timing t) n m h = absurd (Memᴰ.not-nil m)
  router-missing (times x) n m h = absurd (Memᴰ.not-nil m)
  router-missing (reply x) n m h = end-missing x n m (inr h)

  link-missing : (x : Item) (n : ℕ) → Memᴰ n (links_of x) → (IsLink p n → ⊥) → Missing x
  unfolding links_of
  link-missing (device d) n m h = absurd (Memᴰ.not-nil m)
  link-missing (link l) n m h = absurd (Memᴰ.not-nil m)
  link-missing (path x) n m h = inr (n, m, h)
  link-missing (entry e) n m h = absurd (Memᴰ.not-nil m)
  link-missing (timing t) n m h = absurd (Memᴰ.not-nil m)
  link-missing (times x) n m h = absurd (Memᴰ.not-nil m)
  link-missing (reply x) n m h = inr (n, m, h)

module _ (p : Plan) (fair : Fair p) where
  no-device-asks : (n : ℕ) → Asks (not (is_device p n)) (IsDevice p n → ⊥)
  no-device-asks n = not-asks (is_device p n) (device-asks p n)

  no-link-asks : (n : ℕ) → Asks (not (is_link p n)) (IsLink p n → ⊥)
  no-link-asks n = not-asks (is_link p n) (link-asks p n)

  missing-route-asks : (x : Route) → Asks (route_not_given p x) (MissingRoute p x)
  missing-route-asks x =
      not-and-asks (is_node p x.start && is_node p x.end) (all (is_link p) x.links)
      (not-and-asks (is_node p x.start) (is_node p x.end) (no-node-asks p fair x.start) (no-node-asks p fair x.end))
      (not-all-asks (is_link p) _ no-link-asks x.links)

  missing-asks : (x : Item) → Asks (not_given p x) (Missing p x)
  unfolding not_given
  missing-asks (device d) = never p
  missing-asks (link l) = not-and-asks (is_device p l.one) (is_device p l.other) (no-device-asks l.one) (no-device-asks l.other)
  missing-asks (path x) = missing-route-asks x
  missing-asks (entry e) = not-and-asks (is_node p e.initiator) (all (is_node p) e.targets) (no-node-asks p fair e.initiator) (not-all-asks (is_node p) _ (no-node-asks p fair) e.targets)
  missing-asks (timing t) = never p
  missing-asks (times x) = never p
  missing-asks (reply x) = missing-route-asks x

  -- 9 of a path, 10 of a route
  many-asks : (x : Route) → Asks (too_many p (path x)) (((IsInitiator p x.start → ⊥) × Eight p) ⊎ (128 ≤ length p.paths))
  unfolding too_many
  many-asks x = or-asks (and-asks (not-asks (is_initiator p x.start) (initiator-asks p x.start)) (eight-asks p fair)) (le-asks 128 (length p.paths))

  no-walk-asks : (x : Route) → Asks (route_no_walk p x) (Walk p x.start x.links x.end → ⊥)
  no-walk-asks x = not-asks (is_walk p x.start x.links x.end) (walk-asks p (links-differ p fair) x.start x.links x.end)

  -- 11, of an entry and of a reply
  no-path-asks : (e : Entry) → Asks (no_path p (entry e)) ((t : ℕ) × Memᴰ t e.targets × (HasPath p e.initiator t → ⊥))
  unfolding no_path
  no-path-asks e = not-all-asks (has_path p e.initiator) _ (λ t. not-asks (has_path p e.initiator t) (path-asks p e.initiator t)) e.targets

  no-command-asks : (x : Route) → Asks (no_path p (reply x)) (HasPath p x.end x.start → ⊥)
  unfolding no_path
  no-command-asks x = not-asks (has_path p x.end x.start) (path-asks p x.end x.start)

  many-wrong : (x : Item) → too_many p x ≡ true → WrongItem p x 9
  unfolding too_many
  many-wrong (device d) h = not-both h refl
  many-wrong (link l) h = not-both h refl
  many-wrong (path x) h = by ((many-asks x).0 h)
    where
      by : ((IsInitiator p x.start → ⊥) × Eight p) ⊎ (128 ≤ length p.paths) → WrongItem p (path x) 9
      by (inl (n, e)) = ninth e n
      by (inr l) = past-128 l
  many-wrong (entry e) h = not-both h refl
  many-wrong (timing t) h = not-both h refl
  many-wrong (times x) h = not-both h refl
  many-wrong (reply x) h = not-both h refl

  no-walk-wrong : (x : Item) → no_walk p x ≡ true → WrongItem p x 10
  unfolding no_walk
  no-walk-wrong (device d) h = not-both h refl
  no-walk-wrong (link l) h = not-both h refl
  no-walk-wrong (path x) h = no-walk a-path ((no-walk-asks x).0 h)
  no-walk-wrong (entry e) h = not-both h refl
  no-walk-wrong (timing t) h = not-both h refl
  no-walk-wrong (times x) h = not-both h refl
  no-walk-wrong (reply x) h = no-walk a-reply ((no-walk-asks x).0 h)

  no-path-wrong : (x : Item) → no_path p x ≡ true → WrongItem p x 11
  unfolding no_path
  no-path-wrong (device d) h = not-both h refl
  no-path-wrong (link l) h = not-both h refl
  no-path-wrong (path x) h = not-both h refl
  no-path-wrong (entry e) h = let (t, m, n) = (no-path-asks e).0 h in no-path {e = e} {t = t} m n
  no-path-wrong (timing t) h = not-both h refl
  no-path-wrong (times x) h = not-both h refl
  no-path-wrong (reply x) h = no-command ((no-command-asks x).0 h)

  row-wrong : (x : Item) (n : ℕ) → test_of n (item_rows p x) ≡ true → WrongItem p x n
  unfolding item_rows
  row-wrong x = row-says (WrongItem p x) (item_rows p x) (
    λ h. outside-wrong p x ((range-asks x).0 h),
    (λ h. before-wrong p x ((before-asks p x).0 h), (λ h. missing-wrong p x ((missing-asks x).0 h), (many-wrong x, (no-walk-wrong x, (no-path-wrong x, tt))))),
  )

  wrong_row : {x : Item} {n : ℕ} → WrongItem p x n → test_of n (item_rows p x) ≡ true
  unfolding item_rows test_of no_walk
  wrong_row {x} (device-over h) = (range-asks x).1 (inl h)
  wrong_row {x} (named-device-over {n} m h) = (range-asks x).1 (device-outside x n m h)
  wrong_row {x} (link-over h) = (range-asks x).1 (inl (inl (inl h)))
  wrong_row {x} (named-link-over {n} m h) = (range-asks x).1 (link-outside x n m h)
  wrong_row {x} (kind-over h) = (range-asks x).1 (inr h)
  wrong_row {x} (slot-over h) = (range-asks x).1 (inl (inl (inl (inr h))))
  wrong_row {x} (span-under h) = (range-asks x).1 (inl (inl (inr h)))
  wrong_row {x} (span-over h) = (range-asks x).1 (inl (inr h))
  wrong_row {x} (greatest-under h) = (range-asks x).1 (inl (inl h))
  wrong_row {x} (greatest-over h) = (range-asks x).1 (inl (inr h))
  wrong_row {x} (least-over h) = (range-asks x).1 (inr h)
  wrong_row {x} (rate-under h) = (range-asks x).1 (inl (inl (inl (inl (inl (inl h))))))
  wrong_row {x} (rate-over h) = (range-asks x).1 (inl (inl (inl (inl (inl (inr h))))))
  wrong_row (time-over {x} {n} m h) = (range-asks (times x)).1 (time-outside x n m h)
  wrong_row {x} (to-itself h) = (range-asks x).1 (inr h)
  wrong_row (ends-equal {x} a-path h) = (range-asks (path x)).1 (inr h)
  wrong_row (ends-equal {x} a-reply h) = (range-asks (reply x)).1 (inr h)
  wrong_row {x} (device-before h) = (before-asks p x).1 h
  wrong_row {x} (link-before h) = (before-asks p x).1 h
  wrong_row {x} (path-before h) = (before-asks p x).1 h
  wrong_row {x} (entry-before h) = (before-asks p x).1 (inl h)
  wrong_row {x} (reply-before h) = (before-asks p x).1 h
  wrong_row {x} (target-twice h) = (before-asks p x).1 (inr h)
  wrong_row {x} (no-device {n} m h) = (missing-asks x).1 (device-missing p x n m h)
  wrong_row {x} (no-link {n} m h) = (missing-asks x).1 (link-missing p x n m h)
  wrong_row {x} (router-end {n} m h) = (missing-asks x).1 (router-missing p x n m h)
  wrong_row (ninth {x} e h) = (many-asks x).1 (inl (h, e))
  wrong_row (past-128 {x} h) = (many-asks x).1 (inr h)
  wrong_row (no-walk {x} a-path h) = (no-walk-asks x).1 h
  wrong_row (no-walk {x} a-reply h) = (no-walk-asks x).1 h
  wrong_row (no-path {e} {t} m h) = (no-path-asks e).1 (t, m, h)
  wrong_row (no-command {x} h) = (no-command-asks x).1 h

  pub item-wrong : (x : Item) (n : ℕ) → Asks (test_of n (item_rows p x)) (WrongItem p x n)
  item-wrong x n = (row-wrong x n, wrong_row)
