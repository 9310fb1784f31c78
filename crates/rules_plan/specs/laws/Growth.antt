-- Rows 8, 10 and 11 ask for items of smaller tags: what is found in a plan is found in every plan that has those items too.
use Rattle.std.specs.Prelude.{◌≡◌, ◌⊎◌, false, not, ◌&&◌, ◌||◌, ℕ, ◌<◌}
use Rattle.std.proofs.Math.Path.{refl}
use Rattle.std.proofs.Common.{inl, inr, arith}
use mathlib.Core.List.{List, [], ◌∷◌}
use Rattle.std.proofs.Math.Option.{Option, none, some}
use Rattle.std.proofs.Math.Bool.{Bool, true, or-true}
use Rattle.std.proofs.Math.Dec.{eqb}
use Rattle.std.proofs.lemmas.Bool.{not-false}
use Rattle.lists.specs.Search.{all, find, is_in}
use Rattle.lists.specs.laws.Bools.{both_true, true-both, either, none-some, not-both}
use Rattle.lists.specs.laws.Append.{Begins, begins-self, begins-append, any-begins, find-begins, all_more}
use Rattle.rules_plan.specs.Plan.{Link, Route, Plan, Item, device, link, path, entry, timing, times, reply, grow}
use Rattle.rules_plan.specs.Fields.{tag_for}
use Rattle.rules_plan.specs.Meaning.{is_device, has_kind, is_node, is_router, is_link, has_path, leads_from, leads, walks, is_walk}
use Rattle.rules_plan.specs.Judge.{route_not_given, not_given, route_no_walk, no_walk, no_path}

-- the devices, links and paths of p stand in front in q, as far as their tags are below n
pub record Within (n : ℕ) (p q : Plan) : Type 0 where
  pub devices : 1 < n → Begins p.devices q.devices
  pub links : 2 < n → Begins p.links q.links
  pub paths : 3 < n → Begins p.paths q.paths

pub grow-within : (n : ℕ) (p : Plan) (x : Item) → Within n p (grow p x)
unfolding grow
grow-within n p (device d) = record { devices = λ _. begins-append p.devices (d ∷ []); links = λ _. begins-self p.links; paths = λ _. begins-self p.paths }
grow-within n p (link l) = record { devices = λ _. begins-self p.devices; links = λ _. begins-append p.links (l ∷ []); paths = λ _. begins-self p.paths }
grow-within n p (path x) = record { devices = λ _. begins-self p.devices; links = λ _. begins-self p.links; paths = λ _. begins-append p.paths (x ∷ []) }
grow-within n p (entry e) = record { devices = λ _. begins-self p.devices; links = λ _. begins-self p.links; paths = λ _. begins-self p.paths }
grow-within n p (timing t) = record { devices = λ _. begins-self p.devices; links = λ _. begins-self p.links; paths = λ _. begins-self p.paths }
grow-within n p (times x) = record { devices = λ _. begins-self p.devices; links = λ _. begins-self p.links; paths = λ _. begins-self p.paths }
grow-within n p (reply x) = record { devices = λ _. begins-self p.devices; links = λ _. begins-self p.links; paths = λ _. begins-self p.paths }

module _ (p q : Plan) where
  device-grows : Begins p.devices q.devices → (n : ℕ) → is_device p n ≡ true → is_device q n ≡ true
  unfolding is_device
  device-grows b n = any-begins _ p.devices q.devices b

  kind_grows : Begins p.devices q.devices → (kind n : ℕ) → has_kind p kind n ≡ true → has_kind q kind n ≡ true
  unfolding has_kind
  kind_grows b kind n = any-begins _ p.devices q.devices b

  node-grows : Begins p.devices q.devices → (n : ℕ) → is_node p n ≡ true → is_node q n ≡ true
  unfolding is_node
  node-grows b n = kind_grows b 0 n

  router-grows : Begins p.devices q.devices → (n : ℕ) → is_router p n ≡ true → is_router q n ≡ true
  unfolding is_router
  router-grows b n = kind_grows b 1 n

  link-grows : Begins p.links q.links → (n : ℕ) → is_link p n ≡ true → is_link q n ≡ true
  unfolding is_link
  link-grows b n = any-begins _ p.links q.links b

  has-path-grows : Begins p.paths q.paths → (i t : ℕ) → has_path p i t ≡ true → has_path q i t ≡ true
  unfolding has_path
  has-path-grows b i t = any-begins (leads_from i t) p.paths q.paths b

  leads-grows : Begins p.links q.links → (n d e : ℕ) → leads p n d ≡ some e → leads q n d ≡ some e
  unfolding leads
  leads-grows b n d e h = go (find named p.links) refl
    where
      named : Link → Bool
      named l = eqb n l.num

      go : (o : Option Link) → find named p.links ≡ o → leads q n d ≡ some e
      go none f = none-some (rw (f, leads) at h)
      go (some l) f = rw (find-begins named p.links q.links l b f, leads) (rw (f, leads) at h)

  walks-grows : Begins p.devices q.devices → Begins p.links q.links → (met : List ℕ) (d : ℕ) (ls : List ℕ) (end : ℕ) → walks p met d ls end ≡ true → walks q met d ls end ≡ true
  unfolding walks
  walks-grows bd bl met d [] end h = h
  walks-grows bd bl met d (l ∷ ls) end h = go (λ e. walks-grows bd bl (e ∷ met) e ls end) (leads p l d) refl
    where
      on : (e : ℕ) → (eqb e end ≡ true) ⊎ (is_router p e ≡ true) → eqb e end || is_router q e ≡ true
      on e (inl f) = rw f
      on e (inr f) = rw (router-grows bd e f) (or-true (eqb e end))

      go : ((e : ℕ) → walks p (e ∷ met) e ls end ≡ true → walks q (e ∷ met) e ls end ≡ true) → (o : Option ℕ) → leads p l d ≡ o → walks q met d (l ∷ ls) end ≡ true
      go ih none f = not-both (rw (f, walks) at h) refl
      go ih (some e) f =
          let a = both_true (not (is_in e met) && (eqb e end || is_router p e)) (walks p (e ∷ met) e ls end) (rw (f, walks) at h) in
          let b = both_true (not (is_in e met)) (eqb e end || is_router p e) a.0 in
          rw (leads-grows bl l d e f, walks) (true-both (true-both b.0 (on e (either (eqb e end) (is_router p e) b.1))) (ih e a.1))

  not-not : (a b : Bool) → (a ≡ true → b ≡ true) → not a ≡ false → not b ≡ false
  not-not a b f h = rw (f (not-false a h))

  -- 8 and 10 of a route
  route-known-grows : (x : Route) → Begins p.devices q.devices → Begins p.links q.links → route_not_given p x ≡ false → route_not_given q x ≡ false
  route-known-grows x b l h = not-not _ _ on h
    where
      on : is_node p x.start && is_node p x.end && all (is_link p) x.links ≡ true → is_node q x.start && is_node q x.end && all (is_link q) x.links ≡ true
      on g =
          let a = both_true (is_node p x.start && is_node p x.end) (all (is_link p) x.links) g in
          let c = both_true (is_node p x.start) (is_node p x.end) a.0 in
          true-both (true-both (node-grows b x.start c.0) (node-grows b x.end c.1)) (all_more (is_link p) (is_link q) x.links (link-grows l) a.1)

  route-walk-grows : (x : Route) → Begins p.devices q.devices → Begins p.links q.links → route_no_walk p x ≡ false → route_no_walk q x ≡ false
  unfolding is_walk
  route-walk-grows x b l h = not-not _ _ (walks-grows b l (x.start ∷ []) x.start x.links x.end) h

  -- 8
  pub known-grows : (x : Item) → Within (tag_for x) p q → not_given p x ≡ false → not_given q x ≡ false
  unfolding not_given tag_for
  known-grows (device d) w h = refl
  known-grows (link l) w h = not-not _ _ (λ g. let a = both_true (is_device p l.one) (is_device p l.other) g in true-both (device-grows b l.one a.0) (device-grows b l.other a.1)) h
    where
      b : Begins p.devices q.devices
      b = w.devices (omega arith)
  known-grows (path x) w h = route-known-grows x (w.devices (omega arith)) (w.links (omega arith)) h
  known-grows (entry e) w h = not-not _ _ (λ g. let a = both_true (is_node p e.initiator) (all (is_node p) e.targets) g in true-both (node-grows b e.initiator a.0) (all_more (is_node p) (is_node q) e.targets (node-grows b) a.1)) h
    where
      b : Begins p.devices q.devices
      b = w.devices (omega arith)
  known-grows (timing t) w h = refl
  known-grows (times x) w h = refl
  known-grows (reply x) w h = route-known-grows x (w.devices (omega arith)) (w.links (omega arith)) h

  -- 10
  pub walk-grows : (x : Item) → Within (tag_for x) p q → no_walk p x ≡ false → no_walk q x ≡ false
  unfolding no_walk tag_for is_walk
  walk-grows (device d) w h = refl
  walk-grows (link l) w h = refl
  walk-grows (path x) w h = route-walk-grows x (w.devices (omega arith)) (w.links (omega arith)) h
  walk-grows (entry e) w h = refl
  walk-grows (timing t) w h = refl
  walk-grows (times x) w h = refl
  walk-grows (reply x) w h = route-walk-grows x (w.devices (omega arith)) (w.links (omega arith)) h

  -- 11
  pub reach-grows : (x : Item) → Within (tag_for x) p q → no_path p x ≡ false → no_path q x ≡ false
  unfolding no_path tag_for
  reach-grows (device d) w h = refl
  reach-grows (link l) w h = refl
  reach-grows (path x) w h = refl
  reach-grows (entry e) w h = not-not _ _ (all_more (has_path p e.initiator) (has_path q e.initiator) e.targets (has-path-grows (w.paths (omega arith)) e.initiator)) h
  reach-grows (timing t) w h = refl
  reach-grows (times x) w h = refl
  reach-grows (reply x) w h = not-not _ _ (has-path-grows (w.paths (omega arith)) x.end x.start) h
