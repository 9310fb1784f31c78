-- What is given in a plan, against the words: devices, links, paths, entries, initiators, and a number twice.
use mathlib.Core.Path.{◌≡◌, refl, sym, ap, ◌∙◌}
use mathlib.Core.Logic.{◌⊎◌, inl, inr}
use mathlib.Core.List.{List, [], ◌∷◌, Memᴰ}
use mathlib.Core.Option.{some}
use mathlib.Core.Bool.{Bool, true, false, not, ◌||◌}
use Prim.Native.Nat.{ℕ, suc, ◌≤◌, ◌<◌}
use native.Mathlib.Omega.{arith}
use lib.ListN.{length, take}
use lib.Seq.{length-take-le, get_or-take}
use lib.Dec.{leb, eqb}
use borrow.Author.Tests.{leb-true, le-leb, eqb-true, eq-eqb, not-true}
use Rattle.lists.specs.Search.{any, repeats, twice}
use Rattle.lists.specs.laws.Bools.{both_true, either, not-both}
use Rattle.lists.specs.laws.Search.{any-elim}
use Rattle.lists.specs.laws.Append.{repeats-one}
use Rattle.lists.specs.laws.At.{place_at, place-once, read-member, member-read}
use Rattle.lists.specs.laws.Pigeonhole.{fewer}
use Rattle.rules_plan.specs.Plan.{nth, Device, Link, Route, Entry, Plan}
use Rattle.rules_plan.specs.Meaning.{is_device, has_kind, is_node, is_router, is_link, is_initiator, initiators, leads_from, has_route, has_path, stands_at}
use Rattle.rules_plan.specs.Good.{same_device_number, same_link_number}
use Rattle.rules_plan.specs.Walk.{IsRouter, Twice, LinksDiffer}
use Rattle.rules_plan.specs.Wrong.{IsDevice, IsLink, HasRoute, HasPath, HasEntry, IsInitiator, Eight}
use Rattle.rules_plan.specs.laws.InRange.{path-ranged}
use Rattle.rules_plan.specs.laws.Initiators.{initiator-in, in-initiators, initiators-once}
use Rattle.rules_plan.specs.laws.Kinds.{node-or-router}
use Rattle.rules_plan.specs.laws.Fair.{Fair}
use Rattle.rules_plan.proofs.Asks.{Asks, is-asks, false-asks, any-asks, any-two-asks}
use Rattle.rules_plan.proofs.Walks.{router-asks}

pub route-asks : (xs : List Route) (a b : ℕ) → Asks (has_route xs a b) (HasRoute xs a b)
unfolding leads_from
route-asks xs a b = any-two-asks _ _ _ _ (λ (x : Route). is-asks a x.start) (λ (x : Route). is-asks b x.end) xs

module _ (p : Plan) where
  pub device-asks : (n : ℕ) → Asks (is_device p n) (IsDevice p n)
  unfolding is_device
  device-asks n = any-asks _ _ (λ (d : Device). is-asks n d.num) p.devices

  pub link-asks : (n : ℕ) → Asks (is_link p n) (IsLink p n)
  unfolding is_link
  link-asks n = any-asks _ _ (λ (l : Link). is-asks n l.num) p.links

  pub path-asks : (i t : ℕ) → Asks (has_path p i t) (HasPath p i t)
  unfolding has_path
  path-asks i t = route-asks p.paths i t

  pub entry-asks : (i v : ℕ) → Asks (any (stands_at i v) p.entries) (HasEntry p i v)
  unfolding stands_at
  entry-asks i v = any-two-asks _ _ _ _ (λ (e : Entry). is-asks i e.initiator) (λ (e : Entry). is-asks v e.slot) p.entries

  pub initiator-asks : (i : ℕ) → Asks (is_initiator p i) (IsInitiator p i)
  unfolding is_initiator
  initiator-asks i = any-asks _ _ (λ (x : Route). is-asks i x.start) p.paths

-- a number stands twice
stands-twice : (xs : List ℕ) → twice xs ≡ true → Twice xs
unfolding twice repeats
stands-twice [] h = not-both h refl
stands-twice (x ∷ xs) h = go (stands-twice xs) (either (any (eqb x) xs) (repeats eqb xs) h)
  where
    go : (twice xs ≡ true → Twice xs) → (any (eqb x) xs ≡ true) ⊎ (repeats eqb xs ≡ true) → Twice (x ∷ xs)
    go ih (inl e) =
        let (y, m, g) = any-elim (eqb x) xs e in
        let (k, l, r) = member-read xs y 0 m in
        record { one = 0; other = suc k; apart = omega arith; within = omega arith; same = eqb-true x y g ∙ sym r }
    go ih (inr e) = let t = ih e in record { one = suc t.one; other = suc t.other; apart = omega (arith, t.apart); within = omega (arith, t.within); same = t.same }

pub twice-asks : (xs : List ℕ) → Asks (twice xs) (Twice xs)
twice-asks xs = (stands-twice xs, back (twice xs) refl)
  where
    back : (b : Bool) → twice xs ≡ b → Twice xs → twice xs ≡ true
    back true e t = e
    back false e t =
        let here = place_at xs t.one 0 (omega (arith, t.apart, t.within)) in
        let there = place_at xs t.other 0 t.within in
        absurd (omega (arith, t.apart, place-once xs t.one t.other (nth xs t.other) e (here ∙ ap some t.same) there))

module _ (p : Plan) (fair : Fair p) where
  pub links-differ : LinksDiffer p
  unfolding same_link_number
  links-differ l m a b e = repeats-one same_link_number p.links l m fair.lists.links a b (eq-eqb l.num m.num e) (eq-eqb m.num l.num (sym e))

  -- a device is of one kind
  one-kind : (n : ℕ) → is_node p n ≡ true → IsRouter p n → ⊥
  unfolding is_node has_kind same_device_number
  one-kind n h r =
      let (d, m, g) = any-elim _ p.devices h in
      let (a, b) = both_true (eqb n d.num) (eqb 0 d.kind) g in
      let same : d.num ≡ r.0.num = sym (eqb-true n d.num a) ∙ sym r.2 in
      let one : d ≡ r.0 = repeats-one same_device_number p.devices d r.0 fair.lists.devices m r.1 (eq-eqb _ _ same) (eq-eqb _ _ (sym same)) in
      omega (arith, eqb-true 0 d.kind b, ap (λ (c : Device). c.kind) one, r.3)

  kinds : (n : ℕ) → is_device p n ≡ is_node p n || is_router p n
  unfolding is_node is_router
  kinds n = node-or-router p fair.ranges n

  -- no node: not given, or a router
  pub no-node-asks : (n : ℕ) → Asks (not (is_node p n)) ((IsDevice p n → ⊥) ⊎ IsRouter p n)
  no-node-asks n = (λ h. there (not-true (is_node p n) h) (is_device p n) refl, λ h. back h (is_node p n) refl)
    where
      there : is_node p n ≡ false → (b : Bool) → is_device p n ≡ b → (IsDevice p n → ⊥) ⊎ IsRouter p n
      there h true e = inr ((router-asks p n).0 (rw h at (sym (kinds n) ∙ e)))
      there h false e = inl ((false-asks (is_device p n) (device-asks p n)).0 e)

      back : (IsDevice p n → ⊥) ⊎ IsRouter p n → (b : Bool) → is_node p n ≡ b → not (is_node p n) ≡ true
      back (inl h) true e = absurd (h ((device-asks p n).0 (kinds n ∙ rw e)))
      back (inr r) true e = absurd (one-kind n e r)
      back h false e = rw e

  -- eight initiators
  pub eight-asks : Asks (leb 8 (length (initiators p))) (Eight p)
  eight-asks = (λ h. there (leb-true 8 (length (initiators p)) h), λ e. le-leb 8 (length (initiators p)) (back e))
    where
      there : 8 ≤ length (initiators p) → Eight p
      there h = record {
        list = take 8 (initiators p);
        eight = length-take-le 8 (initiators p) h;
        once = λ t. not-both ((twice-asks (initiators p)).1 (longer t)) (initiators-once p);
        each = λ i m. let (k, l, r) = member-read (take 8 (initiators p)) i 0 m in among i k (omega (arith, length-take-le 8 (initiators p) h)) (sym (get_or-take 8 (initiators p) k 0 (omega (arith, length-take-le 8 (initiators p) h))) ∙ r);
      }
        where
          longer : Twice (take 8 (initiators p)) → Twice (initiators p)
          longer t =
              let size = length-take-le 8 (initiators p) h in
              record {
                one = t.one;
                other = t.other;
                apart = t.apart;
                within = omega (arith, t.within, size);
                same = sym (get_or-take 8 (initiators p) t.one 0 (omega (arith, t.apart, t.within, size))) ∙ t.same ∙ get_or-take 8 (initiators p) t.other 0 (omega (arith, t.within, size));
              }

          among : (i k : ℕ) → k < 8 → nth (initiators p) k ≡ i → IsInitiator p i
          among i k l e = (initiator-asks p i).0 (initiator-in p i (rw e at (read-member (initiators p) k 0 (omega arith))))

      back : Eight p → 8 ≤ length (initiators p)
      back e = omega (arith, e.eight, fewer e.list (initiators p) (λ i m. among i (e.each i m)) ((false-asks (twice e.list) (twice-asks e.list)).1 e.once))
        where
          among : (i : ℕ) → IsInitiator p i → Memᴰ i (initiators p)
          among i x = in-initiators p i (omega (arith, x.2, (path-ranged p fair.ranges x.0 x.1).start)) ((initiator-asks p i).1 x)
