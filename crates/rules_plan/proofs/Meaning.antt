-- What a plan means, against the paper's sentences: covering, using a link, coming home, permitting.
use mathlib.Core.Path.{◌≡◌, refl, sym, ap, subst}
use mathlib.Core.List.{List, [], ◌∷◌, Memᴰ}
use mathlib.Core.Option.{Option, none, some, get_or}
use mathlib.Core.Bool.{Bool, true, ◌&&◌}
use Prim.Native.Nat.{ℕ, ◌+◌, ◌-◌, ◌%◌, ◌<◌}
use native.Mathlib.Omega.{arith}
use lib.Dec.{eqb}
use borrow.Author.Tests.{ltb-true, lt-ltb, leb-true, le-leb, eqb-true, eq-eqb}
use Rattle.lists.specs.Search.{find, is_in}
use Rattle.lists.specs.laws.Bools.{both_true, true-both}
use Rattle.lists.specs.laws.Search.{find-some, find_none, is_in-elim, is_in-intro}
use Rattle.lists.specs.laws.Order.{one-pair}
use Rattle.lists.specs.laws.Found.{find-one}
use Rattle.rules_plan.specs.Plan.{Route, Times}
use Rattle.rules_plan.specs.Meaning.{leads_from, covers, home_of, fits_in, fits, permits}
use Rattle.rules_plan.specs.Good.{same_path_ends}
use Rattle.rules_plan.specs.laws.Sheets.{sheet-longer}
use Rattle.rules_plan.specs.laws.Spans.{fits-untimed, fits-timed}
use Rattle.rules_plan.specs.laws.Uses.{on-path}
use Rattle.rules_plan.specs.Promises.{CoversAsWorded, UsesAsWorded, Home, another-way, same_way, HomeAsWorded, Short, by_span, by-time, PermitsAsWorded, LongerTakesLonger}

pub covers-as-worded : CoversAsWorded
unfolding CoversAsWorded covers
covers-as-worded e s a b c = (
  λ h.
      let l = ltb-true ((s + 64 - e.slot) % 64) e.span h in
      ((s + 64 - e.slot) % 64, l, omega arith),
  λ x.
      let k = x.0 in
      let l : k < e.span = x.1 in
      let g : s ≡ (e.slot + k) % 64 = x.2 in
      lt-ltb ((s + 64 - e.slot) % 64) e.span (omega arith),
)

pub uses-as-worded : UsesAsWorded
unfolding UsesAsWorded
uses-as-worded = on-path

pub home-as-worded : HomeAsWorded
unfolding HomeAsWorded home_of leads_from same_path_ends
home-as-worded p once r h = (λ e. subst (Home p r) e (there (find homeward p.replies) refl), back h)
  where
    homeward : Route → Bool
    homeward y = eqb r.end y.start && eqb r.start y.end

    leads : (y : Route) → y.start ≡ r.end → y.end ≡ r.start → homeward y ≡ true
    leads y a b = true-both (eq-eqb r.end y.start (sym a)) (eq-eqb r.start y.end (sym b))

    found : (y : Route) → find homeward p.replies ≡ some y → Memᴰ y p.replies × (y.start ≡ r.end) × (y.end ≡ r.start)
    found y f =
        let (m, e) = find-some homeward p.replies y f in
        let (a, b) = both_true (eqb r.end y.start) (eqb r.start y.end) e in
        (m, sym (eqb-true r.end y.start a), sym (eqb-true r.start y.end b))

    there : (o : Option Route) → find homeward p.replies ≡ o → Home p r (get_or o r)
    there none f = same_way (λ y m a b. find_none homeward p.replies y f m (leads y a b))
    there (some y) f = let (m, a, b) = found y f in another-way m a b

    back : (g : Route) → Home p r g → get_or (find homeward p.replies) r ≡ g
    back g (another-way m a b) = ap (λ o. get_or o r) (find-one homeward p.replies g (one-pair (λ y. y.start) (λ y. y.end) p.replies once r.end r.start) m (leads g a b))
    back g (same_way n) = by (find homeward p.replies) refl
      where
        by : (o : Option Route) → find homeward p.replies ≡ o → get_or o r ≡ r
        by none f = refl
        by (some y) f = let (m, a, b) = found y f in absurd (n y m a b)

pub permits-as-worded : PermitsAsWorded
unfolding PermitsAsWorded permits fits
permits-as-worded p e t n = (
  λ h.
      let a = both_true (is_in t e.targets) (fits p e t n) h in
      (is_in-elim t e.targets a.0, there p.times refl a.1),
  λ x. true-both (is_in-intro t e.targets x.0) (back x.1),
)
  where
    i : ℕ
    i = e.initiator

    there : (xs : List Times) → p.times ≡ xs → fits_in p i t n e.span ≡ true → Short p e t n
    there [] g h = by_span g (leb-true _ _ (rw (fits-untimed p i t n g e.span) at h))
    there (x ∷ xs) g h =
        let (short, z) = (fits-timed p i t n x xs g e.span).0 h in
        by-time {x = x} {r = z.route} g z.has z.from z.to short z.in-time

    back : Short p e t n → fits_in p i t n e.span ≡ true
    back (by_span g h) = rw (fits-untimed p i t n g e.span) (le-leb _ _ h)
    back (by-time {x} {xs} {r} g has from to short h) =
        (fits-timed p i t n x xs g e.span).1 (short, record { route = r; has = has; from = from; to = to; in-time = h })

pub longer-takes-longer : LongerTakesLonger
unfolding LongerTakesLonger
longer-takes-longer = sheet-longer
