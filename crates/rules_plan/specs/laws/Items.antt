-- The items of a plan: what is among them, and where one more item stands.
use Rattle.std.specs.Prelude.{◌≡◌, refl, ℕ, ◌≤◌, ◌<◌}
use mathlib.Core.List.Memᴰ
use mathlib.Core.List.{List, [], ◌∷◌, ◌++◌, map, append-nil, append_assoc, Memᴰ, map-append}
use Rattle.std.proofs.Common.{arith}
use Rattle.rules_plan.specs.Plan.{Device, Link, Route, Entry, Timing, Times, Plan, Item, device, link, path, entry, timing, times, reply, grow}
use Rattle.rules_plan.specs.Fields.{tag_for}
use Rattle.rules_plan.specs.Canon.{items}

module _ (p : Plan) where
  pub device-in : (d : Device) → Memᴰ d p.devices → Memᴰ (device d) (items p)
  unfolding items
  device-in d m = Memᴰ.append_left _ (Memᴰ.append_left _ (Memᴰ.append_left _ (Memᴰ.append_left _ (Memᴰ.append_left _ (Memᴰ.append_left _ (Memᴰ.map device m))))))

  pub link-in : (l : Link) → Memᴰ l p.links → Memᴰ (link l) (items p)
  unfolding items
  link-in l m = Memᴰ.append_left _ (Memᴰ.append_left _ (Memᴰ.append_left _ (Memᴰ.append_left _ (Memᴰ.append_left _ (Memᴰ.append_right (map device p.devices) (Memᴰ.map link m))))))

  pub path-in : (x : Route) → Memᴰ x p.paths → Memᴰ (path x) (items p)
  unfolding items
  path-in x m = Memᴰ.append_left _ (Memᴰ.append_left _ (Memᴰ.append_left _ (Memᴰ.append_left _ (Memᴰ.append_right (map device p.devices ++ map link p.links) (Memᴰ.map path m)))))

  pub entry_in_lem : (e : Entry) → Memᴰ e p.entries → Memᴰ (entry e) (items p)
  unfolding items
  entry_in_lem e m = Memᴰ.append_left _ (Memᴰ.append_left _ (Memᴰ.append_left _ (Memᴰ.append_right (map device p.devices ++ map link p.links ++ map path p.paths) (Memᴰ.map entry m))))

  pub timing-in : (t : Timing) → Memᴰ t p.timings → Memᴰ (timing t) (items p)
  unfolding items
  timing-in t m = Memᴰ.append_left _ (Memᴰ.append_left _ (Memᴰ.append_right (map device p.devices ++ map link p.links ++ map path p.paths ++ map entry p.entries) (Memᴰ.map timing m)))

  pub times-in : (x : Times) → Memᴰ x p.times → Memᴰ (times x) (items p)
  unfolding items
  times-in x m = Memᴰ.append_left _ (Memᴰ.append_right (map device p.devices ++ map link p.links ++ map path p.paths ++ map entry p.entries ++ map timing p.timings) (Memᴰ.map times m))

  pub reply-in : (x : Route) → Memᴰ x p.replies → Memᴰ (reply x) (items p)
  unfolding items
  reply-in x m = Memᴰ.append_right (map device p.devices ++ map link p.links ++ map path p.paths ++ map entry p.entries ++ map timing p.timings ++ map times p.times) (Memᴰ.map reply m)

-- no item of the plan has a tag above n
abbrev pub UpTo : Plan → ℕ → Type 0
UpTo p n = (y : Item) → Memᴰ y (items p) → tag_for y ≤ n

none_in : {A : Type 0} (xs : List A) → ((x : A) → Memᴰ x xs → ⊥) → xs ≡ []
none_in [] h = refl
none_in (x ∷ xs) h = absurd (h x (Memᴰ.head refl))

module _ (p : Plan) (n : ℕ) (up : UpTo p n) where
  pub no-links : n < 2 → p.links ≡ []
  unfolding tag_for
  no-links h = none_in p.links (λ l m. omega (arith, up (link l) (link-in p l m)))

  pub no-paths : n < 3 → p.paths ≡ []
  unfolding tag_for
  no-paths h = none_in p.paths (λ x m. omega (arith, up (path x) (path-in p x m)))

  pub no-entries : n < 4 → p.entries ≡ []
  unfolding tag_for
  no-entries h = none_in p.entries (λ e m. omega (arith, up (entry e) (entry_in_lem p e m)))

  pub no-timings : n < 5 → p.timings ≡ []
  unfolding tag_for
  no-timings h = none_in p.timings (λ t m. omega (arith, up (timing t) (timing-in p t m)))

  pub no-times : n < 6 → p.times ≡ []
  unfolding tag_for
  no-times h = none_in p.times (λ x m. omega (arith, up (times x) (times-in p x m)))

  pub no-replies : n < 7 → p.replies ≡ []
  unfolding tag_for
  no-replies h = none_in p.replies (λ x m. omega (arith, up (reply x) (reply-in p x m)))

-- an item of no smaller tag comes last
pub items-grow : (p : Plan) (x : Item) → UpTo p (tag_for x) → items (grow p x) ≡ items p ++ (x ∷ [])
unfolding items grow tag_for
items-grow p (device d) u =
    rw (no-links p 1 u (omega arith), no-paths p 1 u (omega arith), no-entries p 1 u (omega arith), no-timings p 1 u (omega arith), no-times p 1 u (omega arith), no-replies p 1 u (omega arith))
    (simp (append-nil, map-append))
items-grow p (link l) u =
    rw (no-paths p 2 u (omega arith), no-entries p 2 u (omega arith), no-timings p 2 u (omega arith), no-times p 2 u (omega arith), no-replies p 2 u (omega arith))
    (simp (append-nil, map-append, append_assoc))
items-grow p (path x) u =
    rw (no-entries p 3 u (omega arith), no-timings p 3 u (omega arith), no-times p 3 u (omega arith), no-replies p 3 u (omega arith)) (simp (append-nil, map-append, append_assoc))
items-grow p (entry e) u = rw (no-timings p 4 u (omega arith), no-times p 4 u (omega arith), no-replies p 4 u (omega arith)) (simp (append-nil, map-append, append_assoc))
items-grow p (timing t) u = rw (no-times p 5 u (omega arith), no-replies p 5 u (omega arith)) (simp (append-nil, map-append, append_assoc))
items-grow p (times x) u = rw (no-replies p 6 u (omega arith)) (simp (append-nil, map-append, append_assoc))
items-grow p (reply x) u = simp (map-append, append_assoc)
