-- The items of a good plan, in order of tag, are a chain: each may follow those in front of it.
use Rattle.std.specs.Prelude.{◌≡◌, false, ℕ, ◌+◌, ◌≤◌, ◌<◌, length, eqb}
use Rattle.std.proofs.Math.Path.{refl}
use Rattle.std.proofs.Common.{sym, ◌∙◌, arith, le-ltb, ne_eqb}
use mathlib.Core.List.{List, [], ◌∷◌, ◌++◌, map, append-nil, append_assoc, Memᴰ}
use Rattle.std.proofs.Math.Bool.{and-false}
use Rattle.lists.specs.Search.{find}
use Rattle.lists.specs.laws.Bools.{false-either}
use Rattle.lists.specs.laws.Append.{Begins, begins-self, begins-last, once-before}
use Rattle.rules_plan.specs.Plan.{Device, Link, Route, Entry, Timing, Times, Plan, blank, with_devices, with_links, with_paths, with_entries, with_timings, with_times, with_replies, Item, device, link, path, entry, timing, times, reply, grow}
use Rattle.rules_plan.specs.Fields.{tags, tag_of, comes_once, tag_for}
use Rattle.rules_plan.specs.Judge.{given_before, too_many}
use Rattle.rules_plan.specs.Canon.{items}
use Rattle.rules_plan.specs.Good.{Good, same_device_number, same_link_number, same_path_ends, same_entry_place}
use Rattle.rules_plan.specs.laws.Ranges.{route-range}
use Rattle.rules_plan.specs.laws.Lengths.{Sized}
use Rattle.rules_plan.specs.laws.Items.{device-in, link-in, path-in, entry_in_lem, timing-in, times-in, reply-in}
use Rattle.rules_plan.specs.laws.Growth.{Within, known-grows, walk-grows, reach-grows}
use Rattle.rules_plan.specs.laws.Initiators.{few-before}
use Rattle.rules_plan.specs.laws.Once.{given-device, given-link, given-path, given-entry, given-reply}
use Rattle.rules_plan.specs.laws.Chain.{InOrder, Passes, Chain, end, next, chain-append}

-- a chain that ends with a tag up to n
abbrev Led : Plan → ℕ → List Item → Plan → ℕ → Type 0
Led p before xs q n = (last : ℕ) × Chain p before xs q last × (last ≤ n)

-- the items of one kind, one after another: each passes in the plan that those in front of it give
module _ {A : Type 0} (make : A → Item) (n : ℕ) (so_far : List A → Plan) (all : List A)
    (tag : (x : A) → tag_for (make x) ≡ n) (often : comes_once n ≡ false)
    (adds : (front : List A) (x : A) → grow (so_far front) (make x) ≡ so_far (front ++ (x ∷ [])))
    (fine : (front : List A) (x : A) → Begins (front ++ (x ∷ [])) all → Sized (make x) × Passes (so_far front) (make x)) where
  rises : (before : ℕ) (x : A) → before ≤ n → InOrder before (make x)
  rises before x h = rw (tag x, often) (false-either (le-ltb n before h) (and-false (eqb n before)))

  stage-from : (front back : List A) (before : ℕ) → front ++ back ≡ all → before ≤ n → Led (so_far front) before (map make back) (so_far all) n
  stage-from front [] before e h = (before, rw (sym (append-nil front) ∙ e) end, h)
  stage-from front (x ∷ back) before e h =
      let b : (front ++ (x ∷ [])) ++ back ≡ all = append_assoc front (x ∷ []) back ∙ e in
      let (last, c, l) = stage-from (front ++ (x ∷ [])) back n b (omega arith) in
      let d : Chain (grow (so_far front) (make x)) (tag_for (make x)) (map make back) (so_far all) last = rw (adds front x, tag x) c in
      let (size, pass) = fine front x (back, b) in
      (last, next (record { order = rises before x h; size = size; passes = pass }) d, l)

  stage : (before : ℕ) → before ≤ n → Led (so_far []) before (map make all) (so_far all) n
  stage before h = stage-from [] all before refl h

-- the same of a tag that comes once
module _ {A : Type 0} (make : A → Item) (n : ℕ) (so_far : List A → Plan) (all : List A)
    (tag : (x : A) → tag_for (make x) ≡ n) (once : length all ≤ 1)
    (adds : (x : A) → grow (so_far []) (make x) ≡ so_far (x ∷ []))
    (fine : (x : A) → Memᴰ x all → Sized (make x) × Passes (so_far []) (make x)) where
  stage-once : (before : ℕ) → before < n → Led (so_far []) before (map make all) (so_far all) n
  stage-once before h = go all refl
    where
      go : (xs : List A) → all ≡ xs → Led (so_far []) before (map make xs) (so_far xs) n
      go [] e = (before, end, omega arith)
      go (x ∷ y ∷ xs) e = let z : length all ≡ 2 + length xs = rw e (omega arith) in absurd (omega arith)
      go (x ∷ []) e =
          let (size, pass) = fine x (rw e (Memᴰ.head refl)) in
          let order : InOrder before (make x) = rw (tag x, ne_eqb n before (omega arith)) (false-either (le-ltb n before (omega arith)) refl) in
          let c : Chain (grow (so_far []) (make x)) (tag_for (make x)) [] (so_far (x ∷ [])) n = rw (adds x, tag x) end in
          (n, next (record { order = order; size = size; passes = pass }) c, omega arith)

-- the plan so far, while its devices, links, paths, entries, timing, times or replies are read
abbrev devices_only : List Device → Plan
devices_only ds = with_devices ds blank

abbrev plus_links : Plan → List Link → Plan
plus_links p ls = with_links ls (devices_only p.devices)

abbrev plus_paths : Plan → List Route → Plan
plus_paths p xs = with_paths xs (plus_links p p.links)

abbrev plus_entries : Plan → List Entry → Plan
plus_entries p es = with_entries es (plus_paths p p.paths)

abbrev plus_timings : Plan → List Timing → Plan
plus_timings p ts = with_timings ts (plus_entries p p.entries)

abbrev plus_times : Plan → List Times → Plan
plus_times p xs = with_times xs (plus_timings p p.timings)

abbrev plus_replies : Plan → List Route → Plan
plus_replies p xs = with_replies xs (plus_times p p.times)

module _ (p : Plan) (good : Good p) where
  -- rows 6, 8, 10 and 11 of an item, in a plan that has the items of smaller tags
  fine-item : (q : Plan) (x : Item) → Memᴰ x (items p) → Within (tag_for x) p q → given_before q x ≡ false → too_many q x ≡ false → Sized x × Passes q x
  fine-item q x m w new few = (
    good.lengths x m,
    record {
      range = good.ranges x m;
      new = new;
      known = known-grows p q x w (good.known x m);
      few = few;
      walk = walk-grows p q x w (good.walks x m);
      reached = reach-grows p q x w (good.reached x m);
    },
  )

  -- a plan with all devices, links and paths
  last_within : {n : ℕ} (q : Plan) → q.devices ≡ p.devices → q.links ≡ p.links → q.paths ≡ p.paths → Within n p q
  last_within q d l x = record { devices = λ _. rw d (begins-self p.devices); links = λ _. rw l (begins-self p.links); paths = λ _. rw x (begins-self p.paths) }

  device-stage : Led (devices_only []) 0 (map device p.devices) (devices_only p.devices) 1
  unfolding tag_for grow comes_once tag_of tags find too_many
  device-stage = stage device 1 devices_only p.devices (λ d. refl) refl (λ ds d. refl) fine 0 (omega arith)
    where
      fine : (ds : List Device) (d : Device) → Begins (ds ++ (d ∷ [])) p.devices → Sized (device d) × Passes (devices_only ds) (device d)
      fine ds d b = fine-item (devices_only ds) (device d) (device-in p d (begins-last ds d b))
          (record { devices = λ h. absurd (omega arith); links = λ h. absurd (omega arith); paths = λ h. absurd (omega arith) })
          (given-device (devices_only ds) d ∙ once-before same_device_number ds d p.devices b good.devices) refl

  link-stage : (before : ℕ) → before ≤ 1 → Led (plus_links p []) before (map link p.links) (plus_links p p.links) 2
  unfolding tag_for grow comes_once tag_of tags find too_many
  link-stage before h = stage link 2 (plus_links p) p.links (λ l. refl) refl (λ ls l. refl) fine before (omega arith)
    where
      fine : (ls : List Link) (l : Link) → Begins (ls ++ (l ∷ [])) p.links → Sized (link l) × Passes (plus_links p ls) (link l)
      fine ls l b = fine-item (plus_links p ls) (link l) (link-in p l (begins-last ls l b))
          (record { devices = λ _. begins-self p.devices; links = λ h. absurd (omega arith); paths = λ h. absurd (omega arith) })
          (given-link (plus_links p ls) l ∙ once-before same_link_number ls l p.links b good.links) refl

  path-stage : (before : ℕ) → before ≤ 2 → Led (plus_paths p []) before (map path p.paths) (plus_paths p p.paths) 3
  unfolding tag_for grow comes_once tag_of tags find
  path-stage before h = stage path 3 (plus_paths p) p.paths (λ x. refl) refl (λ xs x. refl) fine before (omega arith)
    where
      fine : (xs : List Route) (x : Route) → Begins (xs ++ (x ∷ [])) p.paths → Sized (path x) × Passes (plus_paths p xs) (path x)
      fine xs x b =
          let m = path-in p x (begins-last xs x b) in
          fine-item (plus_paths p xs) (path x) m
          (record { devices = λ _. begins-self p.devices; links = λ _. begins-self p.links; paths = λ h. absurd (omega arith) })
          (given-path (plus_paths p xs) x ∙ once-before same_path_ends xs x p.paths b good.paths)
          (few-before (plus_paths p xs) p x (route-range x (good.ranges (path x) m)).start b good.eight good.most)

  entry-stage : (before : ℕ) → before ≤ 3 → Led (plus_entries p []) before (map entry p.entries) (plus_entries p p.entries) 4
  unfolding tag_for grow comes_once tag_of tags find too_many
  entry-stage before h = stage entry 4 (plus_entries p) p.entries (λ e. refl) refl (λ es e. refl) fine before (omega arith)
    where
      fine : (es : List Entry) (e : Entry) → Begins (es ++ (e ∷ [])) p.entries → Sized (entry e) × Passes (plus_entries p es) (entry e)
      fine es e b =
          let m = begins-last es e b in
          fine-item (plus_entries p es) (entry e) (entry_in_lem p e m)
          (record { devices = λ _. begins-self p.devices; links = λ _. begins-self p.links; paths = λ _. begins-self p.paths })
          (given-entry (plus_entries p es) e ∙ false-either (once-before same_entry_place es e p.entries b good.entries) (good.targets e m)) refl

  timing-stage : (before : ℕ) → before ≤ 4 → Led (plus_timings p []) before (map timing p.timings) (plus_timings p p.timings) 5
  unfolding tag_for grow given_before too_many
  timing-stage before h = stage-once timing 5 (plus_timings p) p.timings (λ t. refl) (omega (arith, good.timing)) (λ t. refl)
      (λ t m. fine-item (plus_timings p []) (timing t) (timing-in p t m) (last_within (plus_timings p []) refl refl refl) refl refl) before (omega arith)

  times-stage : (before : ℕ) → before ≤ 5 → Led (plus_times p []) before (map times p.times) (plus_times p p.times) 6
  unfolding tag_for grow given_before too_many
  times-stage before h = stage-once times 6 (plus_times p) p.times (λ x. refl) good.times (λ x. refl)
      (λ x m. fine-item (plus_times p []) (times x) (times-in p x m) (last_within (plus_times p []) refl refl refl) refl refl) before (omega arith)

  reply-stage : (before : ℕ) → before ≤ 6 → Led (plus_replies p []) before (map reply p.replies) (plus_replies p p.replies) 7
  unfolding tag_for grow comes_once tag_of tags find too_many
  reply-stage before h = stage reply 7 (plus_replies p) p.replies (λ x. refl) refl (λ xs x. refl) fine before (omega arith)
    where
      fine : (xs : List Route) (x : Route) → Begins (xs ++ (x ∷ [])) p.replies → Sized (reply x) × Passes (plus_replies p xs) (reply x)
      fine xs x b = fine-item (plus_replies p xs) (reply x) (reply-in p x (begins-last xs x b)) (last_within (plus_replies p xs) refl refl refl)
          (given-reply (plus_replies p xs) x ∙ once-before same_path_ends xs x p.replies b good.replies) refl

  pub good-chain : (last : ℕ) × Chain blank 0 (items p) p last
  unfolding items blank
  good-chain =
      let (a, c, h) = device-stage in
      let (b, d, i) = link-stage a h in
      let (e, f, j) = path-stage b i in
      let (g, k, l) = entry-stage e j in
      let (m, n, o) = timing-stage g l in
      let (q, r, t) = times-stage m o in
      let (u, v, w) = reply-stage q t in
      (u, chain-append (chain-append (chain-append (chain-append (chain-append (chain-append c d) f) k) n) r) v)
