-- Plans that differ in their orders only mean the same: the names of specs/Meaning give one answer for both.
use Rattle.std.proofs.Math.Path.{◌≡◌, refl, sym, ap, ap₂, fun_ext}
use Rattle.std.proofs.Common.{◌∙◌, inl, inr, eqb-true}
use Rattle.std.specs.Prelude.{◌⊎◌, true, ◌&&◌, cond, ℕ}
use mathlib.Core.List.{List, [], ◌∷◌}
use Rattle.std.proofs.Math.Option.{Option, none, some, map, get_or}
use Rattle.std.proofs.Math.Bool.{Bool, false, not, ◌||◌}
use Rattle.std.proofs.Math.Dec.{eqb}
use Rattle.lists.specs.Search.{any, keep, find, is_in, repeats, below64}
use Rattle.lists.specs.Order.{Shuffled, then}
use Rattle.lists.specs.laws.Search.{any_same}
use Rattle.lists.specs.laws.Shuffle.{Respects, eq-respects, shuffled-refl, shuffled-sym, any-shuffled, find-shuffled}
use Rattle.lists.specs.laws.Order.{one_key, one-pair}
use Rattle.lists.specs.laws.Found.{read-shuffled}
use Rattle.rules_plan.specs.Plan.{Link, Route, Entry, Plan}
use Rattle.rules_plan.specs.Meaning.{is_device, has_kind, is_node, is_router, is_link, is_initiator, initiators, leads_from, has_path, across, leads, walks, is_walk, uses, home_of, covers, stands_at, reaches, may_use, is_at_work, runs_into, overruns}
use Rattle.rules_plan.specs.Canon.{SameLink, SameEntry, SamePlan}
use Rattle.rules_plan.specs.Good.{same_link_number, same_path_ends}

-- what is the same: each link and each entry to itself, all of them both ways round, plans through a third
pub link-refl : (l : Link) → SameLink l l
link-refl l = record { num = refl; ends = inl (refl, refl) }

pub link-sym : (l m : Link) → SameLink l m → SameLink m l
link-sym l m s = record { num = sym s.num; ends = go s.ends }
  where
    go : ((l.one ≡ m.one) × (l.other ≡ m.other)) ⊎ ((l.one ≡ m.other) × (l.other ≡ m.one))
        → ((m.one ≡ l.one) × (m.other ≡ l.other)) ⊎ ((m.one ≡ l.other) × (m.other ≡ l.one))
    go (inl e) = inl (sym e.0, sym e.1)
    go (inr e) = inr (sym e.1, sym e.0)

pub entry-refl : (e : Entry) → SameEntry e e
entry-refl e = record { initiator = refl; slot = refl; span = refl; targets = shuffled-refl (λ t. refl) e.targets }

pub entry-sym : (e f : Entry) → SameEntry e f → SameEntry f e
entry-sym e f s = record { initiator = sym s.initiator; slot = sym s.slot; span = sym s.span; targets = shuffled-sym (λ t u h. sym h) s.targets }

pub plan-sym : {p q : Plan} → SamePlan p q → SamePlan q p
plan-sym s = record {
  devices = shuffled-sym (λ c d e. sym e) s.devices;
  links = shuffled-sym link-sym s.links;
  paths = shuffled-sym (λ x y e. sym e) s.paths;
  entries = shuffled-sym entry-sym s.entries;
  timings = sym s.timings;
  times = sym s.times;
  replies = shuffled-sym (λ x y e. sym e) s.replies;
}

pub plan-trans : {p q r : Plan} → SamePlan p q → SamePlan q r → SamePlan p r
plan-trans s t = record {
  devices = then s.devices t.devices;
  links = then s.links t.links;
  paths = then s.paths t.paths;
  entries = then s.entries t.entries;
  timings = s.timings ∙ t.timings;
  times = s.times ∙ t.times;
  replies = then s.replies t.replies;
}

-- what does not tell a link's ends apart is the same for links that are
pub same_ends : {A : Type 0} (f : ℕ → ℕ → A) → ((a b : ℕ) → f a b ≡ f b a) → Respects SameLink (λ (l : Link). f l.one l.other)
same_ends f c l m h = by h.ends
  where
    by : ((l.one ≡ m.one) × (l.other ≡ m.other)) ⊎ ((l.one ≡ m.other) × (l.other ≡ m.one)) → f l.one l.other ≡ f m.one m.other
    by (inl e) = rw (e.0, e.1)
    by (inr e) = rw (e.0, e.1) (c m.other m.one)

-- a link leads to the other end from both
pub same-across : (d : ℕ) → Respects SameLink (λ (l : Link). across l d)
unfolding across
same-across d = same_ends over (λ a b. turned a b (eqb d a) (eqb d b) refl refl)
  where
    over : ℕ → ℕ → Option ℕ
    over a b = cond (eqb d a) (some b) (cond (eqb d b) (some a) none)

    turned : (a b : ℕ) (x y : Bool) → eqb d a ≡ x → eqb d b ≡ y
        → cond x (some b) (cond y (some a) none) ≡ cond y (some a) (cond x (some b) none)
    turned a b true true e f = ap some (sym (eqb-true d b f) ∙ eqb-true d a e)
    turned a b true false e f = refl
    turned a b false true e f = refl
    turned a b false false e f = refl

-- the way that a reply comes home, where no pair has two
pub home-shuffled : {ys zs : List Route} → Shuffled ◌≡◌ ys zs → repeats same_path_ends ys ≡ false → (r : Route) → home_of ys r ≡ home_of zs r
unfolding home_of leads_from same_path_ends
home-shuffled {ys} s u r =
    read-shuffled (leads_from r.end r.start) (eq-respects _) (λ o. get_or o r) (eq-respects _) (λ y. refl) s (one-pair (λ y. y.start) (λ y. y.end) ys u r.end r.start)

-- the plan
module _ {p q : Plan} (s : SamePlan p q) where
  pub same-is_device : (n : ℕ) → is_device p n ≡ is_device q n
  unfolding is_device
  same-is_device n = any-shuffled _ (eq-respects _) s.devices

  pub same-has_kind : (kind n : ℕ) → has_kind p kind n ≡ has_kind q kind n
  unfolding has_kind
  same-has_kind kind n = any-shuffled _ (eq-respects _) s.devices

  pub same-is_node : (n : ℕ) → is_node p n ≡ is_node q n
  unfolding is_node
  same-is_node = same-has_kind 0

  pub same-is_router : (n : ℕ) → is_router p n ≡ is_router q n
  unfolding is_router
  same-is_router = same-has_kind 1

  pub same-is_link : (n : ℕ) → is_link p n ≡ is_link q n
  unfolding is_link
  same-is_link n = any-shuffled _ (λ l m h. ap (eqb n) h.num) s.links

  pub same-is_initiator : (i : ℕ) → is_initiator p i ≡ is_initiator q i
  unfolding is_initiator
  same-is_initiator i = any-shuffled _ (eq-respects _) s.paths

  pub same-initiators : initiators p ≡ initiators q
  unfolding initiators
  same-initiators = ap (λ f. keep f below64) (fun_ext same-is_initiator)

  pub same-has_path : (i t : ℕ) → has_path p i t ≡ has_path q i t
  unfolding has_path
  same-has_path i t = any-shuffled _ (eq-respects _) s.paths

  pub same-uses : (i t l : ℕ) → uses p i t l ≡ uses q i t l
  unfolding uses
  same-uses i t l = ap₂ ◌||◌ (any-shuffled _ (eq-respects _) s.paths) (any-shuffled _ (eq-respects _) s.replies)

  -- where no link number is there twice
  module _ (u : repeats same_link_number p.links ≡ false) where
    pub same-leads : (n d : ℕ) → leads p n d ≡ leads q n d
    unfolding leads same_link_number
    same-leads n d = by (find t p.links) ∙ ap flat found ∙ sym (by (find t q.links))
      where
        t : Link → Bool
        t l = eqb n l.num

        found : map (λ (l : Link). across l d) (find t p.links) ≡ map (λ (l : Link). across l d) (find t q.links)
        found = find-shuffled t (λ l m h. ap (eqb n) h.num) (λ l. across l d) (same-across d) link-refl s.links (one_key (λ l. l.num) p.links u n)

        flat : Option (Option ℕ) → Option ℕ
        flat none = none
        flat (some o) = o

        by : (o : Option Link) → elim o [ none ↦ none | some l ↦ across l d ] ≡ flat (map (λ (l : Link). across l d) o)
        by none = refl
        by (some l) = refl

    pub same_walks : (met : List ℕ) (d : ℕ) (ls : List ℕ) (end : ℕ) → walks p met d ls end ≡ walks q met d ls end
    unfolding walks
    same_walks met d [] end = refl
    same_walks met d (l ∷ ls) end = rw (same-leads l d, walks) (go (leads q l d) (λ e. same_walks (e ∷ met) e ls end))
      where
        go : (o : Option ℕ) → ((e : ℕ) → walks p (e ∷ met) e ls end ≡ walks q (e ∷ met) e ls end)
            → ◌≡◌ {A = Bool} (elim o [ none ↦ false | some e ↦ not (is_in e met) && (eqb e end || is_router p e) && walks p (e ∷ met) e ls end ])
            (elim o [ none ↦ false | some e ↦ not (is_in e met) && (eqb e end || is_router q e) && walks q (e ∷ met) e ls end ])
        go none ih = refl
        go (some e) ih = rw (same-is_router e, ih e)

    pub same-is_walk : (start : ℕ) (ls : List ℕ) (end : ℕ) → is_walk p start ls end ≡ is_walk q start ls end
    unfolding is_walk
    same-is_walk start ls end = same_walks (start ∷ []) start ls end

-- the entries
pub same-covers : (v : ℕ) → Respects SameEntry (λ (e : Entry). covers e v)
unfolding covers
same-covers v e f h = rw (h.slot, h.span)

pub same-stands_at : (i v : ℕ) → Respects SameEntry (stands_at i v)
unfolding stands_at
same-stands_at i v e f h = rw (h.initiator, h.slot)

pub same-runs_into : (e f g : Entry) → SameEntry e f → (runs_into e g ≡ runs_into f g) × (runs_into g e ≡ runs_into g f)
unfolding runs_into
same-runs_into e f g h = (rw (same-covers g.slot e f h, h.initiator, h.slot), rw (h.initiator, h.slot))

module _ {es fs : List Entry} (s : Shuffled SameEntry es fs) where
  pub same-is_at_work : (v i : ℕ) → is_at_work es v i ≡ is_at_work fs v i
  unfolding is_at_work
  same-is_at_work v i = any-shuffled _ (λ e f h. rw (same-covers v e f h, h.initiator)) s

  pub same-overruns : (e f : Entry) → SameEntry e f → overruns es e ≡ overruns fs f
  unfolding overruns
  same-overruns e f h =
      any_same (runs_into e) (runs_into f) es (λ g m. (same-runs_into e f g h).0)
      ∙ any-shuffled (runs_into f) (λ a b k. (same-runs_into a b f k).1) s

  pub same-may_use : {p q : Plan} → SamePlan p q → (v i l : ℕ) → may_use p es v i l ≡ may_use q fs v i l
  unfolding may_use reaches
  same-may_use {p} {q} h v i l = any_same (reaches p v i l) (reaches q v i l) es (λ e m. here e) ∙ any-shuffled (reaches q v i l) there s
    where
      here : (e : Entry) → reaches p v i l e ≡ reaches q v i l e
      here e = ap (λ f. eqb i e.initiator && covers e v && any f e.targets) (fun_ext (λ t. same-uses h i t l))

      there : Respects SameEntry (reaches q v i l)
      there e f k = rw (same-covers v e f k, k.initiator, any-shuffled (λ t. uses q i t l) (eq-respects _) k.targets)
