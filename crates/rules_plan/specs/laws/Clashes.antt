-- Verdict 14: what `clash` finds is the clash in words, with the least slot, then the least initiators, then the least link.
use Rattle.std.specs.Prelude.{◌≡◌, refl, ◌↔◌, true, false, ◌&&◌, ℕ, ◌+◌, ◌*◌, ◌≤◌, ◌<◌, ltb, eqb}
use Rattle.std.proofs.Common.{sym, inl, inr, arith, ltb-true, lt-ltb, eqb-true, eq-eqb}
use mathlib.Core.List.{List, Memᴰ}
use Rattle.std.proofs.Math.Option.{none, some}
use Rattle.lists.specs.Search.{any}
use Rattle.lists.specs.laws.Bools.{both_true, true-both}
use Rattle.lists.specs.laws.Search.{any-elim, any-intro}
use Rattle.lists.specs.laws.Least.{Least, Finds, finds, finds-none, finds-behind, finds-when, finds-within}
use Rattle.rules_plan.specs.declared.Verdict.{Verdict}
use Rattle.rules_plan.specs.declared.Verdict.TheVariants.{Clash}
use Rattle.rules_plan.specs.Plan.{Entry, Plan}
use Rattle.rules_plan.specs.Meaning.{uses, covers, reaches, may_use, is_at_work}
use Rattle.rules_plan.specs.Judge.{out_of_range, clash_on, clash_with, clash_of, clash_in, clash}
use Rattle.rules_plan.specs.Good.{Each}
use Rattle.rules_plan.specs.Words.{Clashing, pair, LeastClash}
use Rattle.rules_plan.specs.laws.Ranges.{EntryRange}
use Rattle.rules_plan.specs.laws.InRange.{path-ranged, reply-ranged}
use Rattle.rules_plan.specs.laws.Uses.{on-path}
use Rattle.rules_plan.specs.Promises.{OnPath}

-- initiator i may use link l in slot v: by an entry that covers v, for a target
pub record May (p : Plan) (es : List Entry) (v i l : ℕ) : Type 0 where
  pub entry : Entry
  pub has : Memᴰ entry es
  pub own : entry.initiator ≡ i
  pub over : covers entry v ≡ true
  pub target : ℕ
  pub aims : Memᴰ target entry.targets
  pub on : uses p i target l ≡ true

pub may-use : (p : Plan) (es : List Entry) (v i l : ℕ) → (may_use p es v i l ≡ true) ↔ May p es v i l
unfolding may_use reaches
may-use p es v i l = (
  λ h.
      let (e, m, g) = any-elim (reaches p v i l) es h in
      let a = both_true (eqb i e.initiator && covers e v) (any (λ (t : ℕ). uses p i t l) e.targets) g in
      let b = both_true (eqb i e.initiator) (covers e v) a.0 in
      let (t, n, u) = any-elim (λ (t : ℕ). uses p i t l) e.targets a.1 in
      record { entry = e; has = m; own = sym (eqb-true i e.initiator b.0); over = b.1; target = t; aims = n; on = u },
  λ m.
      any-intro (reaches p v i l) es m.entry m.has
      (true-both (true-both (eq-eqb i m.entry.initiator (sym m.own)) m.over) (any-intro (λ (t : ℕ). uses p i t l) m.entry.targets m.target m.aims m.on)),
)

-- who may use a link in a slot is at work there
pub at-work : (p : Plan) (es : List Entry) (v i l : ℕ) → May p es v i l → is_at_work es v i ≡ true
unfolding is_at_work
at-work p es v i l m = any-intro (λ (e : Entry). eqb i e.initiator && covers e v) es m.entry m.has (true-both (eq-eqb i m.entry.initiator (sym m.own)) m.over)

-- a link that is used is below 64
pub used_low : (p : Plan) (i t l : ℕ) → Each p out_of_range false → uses p i t l ≡ true → l < 64
used_low p i t l r h = by ((on-path p i t l).0 h)
  where
    by : OnPath p i t l → l < 64
    by (inl o) = (path-ranged p r o.route o.has).links l o.on
    by (inr o) = (reply-ranged p r o.route o.has).links l o.on

-- two initiators clash on a link exactly when both may use it
module _ {p : Plan} {es : List Entry} {v i j l : ℕ} (c : Clashing p es v i j l) where
  pub mine : May p es v i l
  mine = record { entry = c.mine; has = c.has-mine; own = c.of-mine; over = c.over-mine; target = c.to-mine; aims = c.aims-mine; on = c.on-mine }

  pub yours : May p es v j l
  yours = record { entry = c.yours; has = c.has-yours; own = c.of-yours; over = c.over-yours; target = c.to-yours; aims = c.aims-yours; on = c.on-yours }

pub both-use : {p : Plan} {es : List Entry} {v i j l : ℕ} → v < 64 → i < j → May p es v i l → May p es v j l → Clashing p es v i j l
both-use h o x y = record {
  slot = h;
  order = o;
  mine = x.entry;
  yours = y.entry;
  has-mine = x.has;
  has-yours = y.has;
  of-mine = x.own;
  of-yours = y.own;
  over-mine = x.over;
  over-yours = y.over;
  to-mine = x.target;
  to-yours = y.target;
  aims-mine = x.aims;
  aims-yours = y.aims;
  on-mine = x.on;
  on-yours = y.on;
}

pub clash-test : (p : Plan) (es : List Entry) (v i j l : ℕ) → v < 64 → i < j → (may_use p es v i l && may_use p es v j l ≡ true) ↔ Clashing p es v i j l
clash-test p es v i j l h o = (
  λ e. let a = both_true (may_use p es v i l) (may_use p es v j l) e in both-use h o ((may-use p es v i l).0 a.0) ((may-use p es v j l).0 a.1),
  λ c. true-both ((may-use p es v i l).1 (mine c)) ((may-use p es v j l).1 (yours c)),
)

-- the least clash in a slot
pub record LeastIn (p : Plan) (es : List Entry) (v i j l : ℕ) : Type 0 where
  pub here : Clashing p es v i j l
  pub least : (a b m : ℕ) → Clashing p es v a b m → pair (pair i j) l ≤ pair (pair a b) m

-- a clash by its slot, its initiators and its link, in their order
abbrev Place : Type 0
Place = ℕ × (ℕ × (ℕ × (ℕ × Unit {0})))

abbrev code_in : ℕ × (ℕ × (ℕ × Unit {0})) → ℕ
code_in x = x.0 * 4_096 + (x.1.0 * 64 + (x.1.1.0 * 1 + 0))

abbrev code : Place → ℕ
code x = x.0 * 262_144 + code_in x.1

abbrev verdict : Place → Verdict
verdict x = Clash x.0 x.1.0 x.1.1.0 x.1.1.1.0

abbrev ClashesAt : Plan → List Entry → Place → Type 0
ClashesAt p es x = Clashing p es x.0 x.1.0 x.1.1.0 x.1.1.1.0

module _ (p : Plan) (es : List Entry) (r : Each p out_of_range false) (below : (e : Entry) → Memᴰ e es → EntryRange e) where
  -- only numbers below 64 have to be searched
  record Low (v i j l : ℕ) : Type 0 where
    slot : v < 64
    smaller : i < 64
    greater : j < 64
    link : l < 64

  clash-low : {v i j l : ℕ} → Clashing p es v i j l → Low v i j l
  clash-low {v} {i} {j} {l} c =
      let a = below c.mine c.has-mine in
      let b = below c.yours c.has-yours in
      record { slot = c.slot; smaller = omega (arith, a.initiator, c.of-mine); greater = omega (arith, b.initiator, c.of-yours); link = used_low p i c.to-mine l r c.on-mine }

  in-finds : (v : ℕ) → v < 64 → Finds code_in (λ k. verdict (v, k)) (λ k. ClashesAt p es (v, k)) (clash_in p es v)
  unfolding clash_in clash_of clash_with clash_on
  in-finds v h =
      finds-within 4_096 _ _ _ (clash_of p es v) (λ i k c. let b = clash-low c in omega arith) λ i _.
      finds-behind _ _ _ (is_at_work es v i) (λ k c. at-work p es v i k.1.0 (mine c)) λ _.
      finds-within 64 _ _ _ (clash_with p es v i) (λ j k c. let b = clash-low c in omega arith) λ j _.
      finds-behind _ _ _ (ltb i j && is_at_work es v j) (λ k c. true-both (lt-ltb i j c.order) (at-work p es v j k.0 (yours c))) λ t.
      finds-within 1 _ _ _ (clash_on p es v i j) (λ l k c. let b = clash-low c in omega arith) λ l _.
      finds-when _ _ _ (clash-test p es v i j l h (ltb-true i j (both_true (ltb i j) (is_at_work es v j) t).0))

  clash-finds : Finds code verdict (ClashesAt p es) (clash p es)
  unfolding clash
  clash-finds = finds-within 262_144 _ _ _ (clash_in p es) (λ v k c. let b = clash-low c in omega arith) in-finds

  -- In one slot: the least clash is found, and nothing where there is none.
  pub clash-in-is : (v i j l : ℕ) → v < 64 → LeastIn p es v i j l → clash_in p es v ≡ some (Clash v i j l)
  clash-in-is v i j l h x = (finds _ _ _ (in-finds v h) (Clash v i j l)).1 (record { key = (i, (j, (l, tt))); same = refl; here = x.here; under = λ k c. omega (arith, x.least k.0 k.1.0 k.1.1.0 c) })

  pub clash-in-none : (v : ℕ) → v < 64 → ((i j l : ℕ) → Clashing p es v i j l → ⊥) → clash_in p es v ≡ none
  clash-in-none v h n = (finds-none _ _ _ (in-finds v h)).1 (λ k c. n k.0 k.1.0 k.1.1.0 c)

  -- What is found is the least clash; nothing is found exactly when there is none.
  pub clash-says : (o : Verdict) → (clash p es ≡ some o) ↔ ((v : ℕ) × (i : ℕ) × (j : ℕ) × (l : ℕ) × (o ≡ Clash v i j l) × LeastClash p es v i j l)
  clash-says o = let says = finds _ _ _ clash-finds o in (λ e. there (says.0 e), λ x. says.1 (back x))
    where
      there : Least code verdict (ClashesAt p es) o → (v : ℕ) × (i : ℕ) × (j : ℕ) × (l : ℕ) × (o ≡ Clash v i j l) × LeastClash p es v i j l
      there x = (x.key.0, x.key.1.0, x.key.1.1.0, x.key.1.1.1.0, x.same, record { here = x.here; least = λ w a b m c. omega (arith, x.under (w, (a, (b, (m, tt)))) c) })

      back : (v : ℕ) × (i : ℕ) × (j : ℕ) × (l : ℕ) × (o ≡ Clash v i j l) × LeastClash p es v i j l → Least code verdict (ClashesAt p es) o
      back x = record { key = (x.0, (x.1, (x.2, (x.3, tt)))); same = x.4; here = x.5.here; under = λ k c. omega (arith, x.5.least k.0 k.1.0 k.1.1.0 k.1.1.1.0 c) }

  pub clash-none : (clash p es ≡ none) ↔ ((v i j l : ℕ) → Clashing p es v i j l → ⊥)
  clash-none = let n = finds-none _ _ _ clash-finds in (λ e v i j l. n.0 e (v, (i, (j, (l, tt)))), λ h. n.1 (λ k. h k.0 k.1.0 k.1.1.0 k.1.1.1.0))
