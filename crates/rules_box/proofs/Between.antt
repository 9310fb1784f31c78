-- What the records of a time-code tell of what is live, after each of them: before the starts it was live already, and from then on it is at
-- work in the new slot. So no two share a link.
use mathlib.Core.Path.{◌≡◌, refl, sym, ap, ◌∙◌}
use mathlib.Core.Logic.{◌≢◌, ◌⊎◌, inl, inr}
use mathlib.Core.List.Memᴰ
use mathlib.Core.List.{List, [], ◌∷◌, ◌++◌, Memᴰ}
use mathlib.Core.Option.{Option, none, some, map}
use mathlib.Core.Bool.{Bool, true, false, ◌&&◌, cond}
use Prim.Native.Nat.{ℕ, ◌+◌, ◌-◌, ◌≤◌, ◌<◌}
use native.Mathlib.Decide.{dec_lt}
use native.Mathlib.Omega.{arith}
use lib.ListN.{length, take, drop, take-append-drop}
use lib.Seq.{take-append-le, take-append-add}
use lib.Dec.{eqb, leb}
use borrow.Author.Tests.{eqb-true, eqb-false, eq-eqb, leb-true, ne_eqb, le-ltb}
use Rattle.lists.specs.laws.Bools.{both_true, none-some, some-some}
use Rattle.lists.specs.laws.Search.{flat-elim}
use Rattle.rules_plan.specs.Plan.{Plan}
use Rattle.rules_plan.specs.Meaning.{initiators, uses}
use Rattle.rules_plan.specs.Promises.{AcceptedIsSound}
use Rattle.rules_box.specs.declared.Watchdog.{Watchdog}
use Rattle.rules_box.specs.State.{Box, Side, Live, the_plan}
use Rattle.rules_box.specs.Turn.{value_of, in_sequence, is_late, older, fresh, turned}
use Rattle.rules_box.specs.Records.{Record, full, visit_records, visits_records, records}
use Rattle.rules_box.specs.Promises.{runs, Apart, LinksNeverShared, told_by, told_target, live_target, NotEvenAsTold, stage}
use Rattle.rules_box.specs.laws.Turns.{outlives, turned-start}
use Rattle.rules_box.specs.laws.Invariant.{AtWork, Inv, older-at-work, turned-at-work, reached-inv}
use Rattle.rules_box.proofs.Order.{Starts, Still, visit-cases, front, front_ordered}
use Rattle.rules_box.proofs.Links.{two-apart, links-never-shared}
use Rattle.rules_box.proofs.Lives.{outlasts, late-recorded, initiator, no_six}

module _ (i : ℕ) where
  -- one record: it tells nothing of i, or it is one of i's of kind 4 or more
  told-cases : (P : Option ℕ → Type 0) (t : Option ℕ) (r : Record) → P t → (i ≡ r.initiator → r.kind ≡ 4 → P none) → (i ≡ r.initiator → 5 ≤ r.kind → P (some r.target)) → P (told_by i t r)
  unfolding told_by
  told-cases P t r same four five = go (eqb i r.initiator && leb 4 r.kind) refl (eqb r.kind 4) refl
    where
      go : (x : Bool) → eqb i r.initiator && leb 4 r.kind ≡ x → (y : Bool) → eqb r.kind 4 ≡ y → P (cond x (cond y none (some r.target)) t)
      go false h y g = same
      go true h true g = let a = both_true (eqb i r.initiator) (leb 4 r.kind) h in four (eqb-true i r.initiator a.0) (eqb-true r.kind 4 g)
      go true h false g =
          let a = both_true (eqb i r.initiator) (leb 4 r.kind) h in
          five (eqb-true i r.initiator a.0) (omega (arith, leb-true 4 r.kind a.1, eqb-false r.kind 4 g))

  told-append : (t : Option ℕ) (rs ss : List Record) → told_target i t (rs ++ ss) ≡ told_target i (told_target i t rs) ss
  unfolding told_target
  told-append t [] ss = refl
  told-append t (r ∷ rs) ss = told-append (told_by i t r) rs ss

  -- records of kinds up to 4 start nothing, and what one of kind 4 ended is not live
  module _ (rs : List Record) where
    abbrev NoStarts : Type 0
    NoStarts = (r : Record) → Memᴰ r rs → r.kind ≤ 4

  none_stays : (rs : List Record) → NoStarts rs → told_target i none rs ≡ none
  unfolding told_target
  none_stays [] low = refl
  none_stays (r ∷ rs) low =
      ap (λ (t : Option ℕ). told_target i t rs)
      (told-cases (λ (t : Option ℕ). t ≡ none) none r refl (λ _ _. refl) (λ _ h. absurd (omega (arith, low r (Memᴰ.head refl)))))
      ∙ none_stays rs (λ x m. low x (Memᴰ.tail m))

  was-live : (t : Option ℕ) (rs : List Record) (u : ℕ) → NoStarts rs → told_target i t rs ≡ some u → t ≡ some u
  unfolding told_target
  was-live t [] u low h = h
  was-live t (r ∷ rs) u low h =
      told-cases (λ (x : Option ℕ). x ≡ some u → t ≡ some u) t r (λ e. e) (λ _ _ e. none-some e) (λ _ k. absurd (omega (arith, low r (Memᴰ.head refl))))
      (was-live (told_by i t r) rs u (λ x m. low x (Memᴰ.tail m)) h)

  ended : (t : Option ℕ) (rs : List Record) (r : Record) → NoStarts rs → Memᴰ r rs → i ≡ r.initiator → r.kind ≡ 4 → told_target i t rs ≡ none
  unfolding told_target told_by
  ended t [] r low x4 own four = elim x4 [ ]
  ended t (s ∷ rs) r low (Memᴰ.head e) own four =
      let here : told_by i t s ≡ none = rw (← e, ← own, four, eq-eqb i i refl) in
      ap (λ (x : Option ℕ). told_target i x rs) here ∙ none_stays rs (λ x m. low x (Memᴰ.tail m))
  ended t (s ∷ rs) r low (Memᴰ.tail m) own four = ended (told_by i t s) rs r (λ x n. low x (Memᴰ.tail n)) m own four

  -- what records tell was live before them, or one of them tells of its start
  abbrev Begun : List Record → ℕ → Type 0
  Begun rs u = (r : Record) × Memᴰ r rs × (i ≡ r.initiator) × (5 ≤ r.kind) × (r.target ≡ u)

  was-or-begun : (t : Option ℕ) (rs : List Record) (u : ℕ) → told_target i t rs ≡ some u → (t ≡ some u) ⊎ Begun rs u
  unfolding told_target
  was-or-begun t [] u h = inl h
  was-or-begun t (r ∷ rs) u h = go (was-or-begun (told_by i t r) rs u h)
    where
      go : (told_by i t r ≡ some u) ⊎ Begun rs u → (t ≡ some u) ⊎ Begun (r ∷ rs) u
      go (inr (x, m, own, five, target)) = inr (x, Memᴰ.tail m, own, five, target)
      go (inl e) =
          told-cases (λ (x : Option ℕ). x ≡ some u → (t ≡ some u) ⊎ Begun (r ∷ rs) u) t r (λ k. inl k) (λ _ _ k. none-some k)
          (λ own five k. inr (r, Memᴰ.head refl, own, five, some-some k)) e

-- the records before the starts
high-stage : (kind : ℕ) → 5 ≤ kind → stage kind ≡ 4
unfolding stage
high-stage kind h =
    let a : 3 ≤ kind = omega arith in
    let three : kind ≢ 3 = λ z. omega arith in
    let four : kind ≢ 4 = λ z. omega arith in
    rw (le-ltb kind 3 a, ne_eqb kind 3 three, ne_eqb kind 4 four)

front_low : (b : Box) (w : Watchdog) (byte clock : ℕ) (r : Record) → Memᴰ r (front b w byte clock) → r.kind ≤ 4
front_low b w byte clock r m = go (dec_lt 4 r.kind)
  where
    go : Dec (4 < r.kind) → r.kind ≤ 4
    go (no h) = omega arith
    go (yes h) = absurd (omega (arith, ((front_ordered b w byte clock).range r m).1, high-stage r.kind (omega arith)))

targeted : (s : Side) (u : ℕ) → live_target s ≡ some u → (l : Live) × (s.live ≡ some l) × (l.request.target ≡ u)
unfolding live_target
targeted s u h = go s.live refl
  where
    go : (o : Option Live) → s.live ≡ o → (l : Live) × (s.live ≡ some l) × (l.request.target ≡ u)
    go none e = none-some (sym (ap (map (λ (l : Live). l.request.target)) e) ∙ h)
    go (some l) e = (l, e, some-some (sym (ap (map (λ (x : Live). x.request.target)) e) ∙ h))

-- part of a list
part-member : {A : Type 0} (n : ℕ) (xs : List A) (x : A) → Memᴰ x (take n xs) → Memᴰ x xs
part-member n xs x m = rw (take-append-drop n xs) at (Memᴰ.append_left (drop n xs) m)

module _ (b : Box) (w : Watchdog) (byte clock : ℕ) (inv : Inv b) where
  abbrev p : Plan
  p = the_plan b

  abbrev q : Bool
  q = in_sequence b.last byte

  -- what is told live before the starts was live, and is not late
  abbrev told : ℕ → List Record → Option ℕ
  told i rs = told_target i (live_target (b.side i)) rs

  record Works (i u : ℕ) : Type 0 where
    live : Live
    work : AtWork p (some byte) i live
    target : live.request.target ≡ u

  front-works : (i u : ℕ) → told i (front b w byte clock) ≡ some u → Works i u
  unfolding older full
  front-works i u h = go (targeted (b.side i) u (was-live i (live_target (b.side i)) (front b w byte clock) u (front_low b w byte clock) h))
    where
      by : (l : Live) → (is : (b.side i).live ≡ some l) → l.request.target ≡ u → (x : Bool) → is_late q l ≡ x → Works i u
      by l is t false young =
          let z = outlives q (b.side i).live (older l) (outlasts p q byte i (b.side i) l is young) in
          record { live = older l; work = older-at-work p b.last byte i (b.side i).live (older l) (inv.live i) z; target = t }
      by l is t true late =
          none-some (sym (ended i (live_target (b.side i)) (front b w byte clock) (full 4 i (value_of byte) l.request) (front_low b w byte clock)
          (late-recorded b w byte clock i l (initiator b w 0 i l inv is) is late) refl refl) ∙ h)

      go : (l : Live) × ((b.side i).live ≡ some l) × (l.request.target ≡ u) → Works i u
      go (l, is, t) = by l is t (is_late q l) refl

  -- what a start tells is at work
  start-works : (i u : ℕ) (r : Record) → Memᴰ r (visits_records b byte) → i ≡ r.initiator → 5 ≤ r.kind → r.target ≡ u → Works i u
  unfolding records visits_records full fresh
  start-works i u r m own five t = go (flat-elim (λ (j : ℕ). visit_records p q byte j (b.side j)) (initiators p) r m)
    where
      by : (j : ℕ) → Starts p q byte j (b.side j) r ⊎ Still p q byte j (b.side j) r → Works i u
      by j (inr z) = let six : r.kind ≡ 6 = ap (λ (x : Record). x.kind) z.shown in absurd (no_six b w byte clock inv r (Memᴰ.append_right (front b w byte clock) m) six)
      by j (inl z) =
          let same : i ≡ j = own ∙ ap (λ (x : Record). x.initiator) z.shown in
          let x = z.start in
          let live : (turned p q byte j (b.side j)).live ≡ some (fresh x) = ap (λ (s : Side). s.live) (turned-start p q byte j (b.side j) x z.is) in
          rw same (record {
            live = fresh x;
            work = turned-at-work p b.last byte j inv.sound (b.side j) (fresh x) (inv.live j) live;
            target = sym (ap (λ (y : Record). y.target) z.shown) ∙ t;
          })

      go : (j : ℕ) × Memᴰ j (initiators p) × Memᴰ r (visit_records p q byte j (b.side j)) → Works i u
      go (j, _, g) = by j (visit-cases p q byte j (b.side j) r g)

  visits-work : (i u n : ℕ) → told i (front b w byte clock ++ take n (visits_records b byte)) ≡ some u → Works i u
  visits-work i u n h =
      go (was-or-begun i (told i (front b w byte clock)) (take n (visits_records b byte)) u (sym (told-append i (live_target (b.side i)) (front b w byte clock) (take n (visits_records b byte))) ∙ h))
    where
      go : (told i (front b w byte clock) ≡ some u) ⊎ Begun i (take n (visits_records b byte)) u → Works i u
      go (inl e) = front-works i u e
      go (inr (r, m, own, five, t)) = start-works i u r (part-member n (visits_records b byte) r m) own five t

  -- after the first n records
  parts : (n : ℕ) (P : List Record → Type 0) → (n ≤ length (front b w byte clock) → P (take n (front b w byte clock)))
      → ((k : ℕ) → P (front b w byte clock ++ take k (visits_records b byte))) → P (take n (records b w byte clock))
  unfolding records
  parts n P before behind = go (dec_lt (length (front b w byte clock)) n)
    where
      go : Dec (length (front b w byte clock) < n) → P (take n (front b w byte clock ++ visits_records b byte))
      go (no h) = let low : n ≤ length (front b w byte clock) = omega arith in rw (take-append-le n (front b w byte clock) (visits_records b byte) low) (before low)
      go (yes h) =
          let k = n - length (front b w byte clock) in
          let e : n ≡ length (front b w byte clock) + k = omega arith in
          rw (e, take-append-add (front b w byte clock) (visits_records b byte) k) (behind k)

pub not-even-as-told : AcceptedIsSound → NotEvenAsTold
unfolding NotEvenAsTold LinksNeverShared Apart runs
not-even-as-told ok b reached w byte clock n i j t t' l d =
    parts b w byte clock inv n
    (λ (rs : List Record). told_target i (live_target (b.side i)) rs ≡ some t → told_target j (live_target (b.side j)) rs ≡ some t' → uses (the_plan b) i t l ≡ true → uses (the_plan b) j t' l ≡ true → ⊥)
    (λ _ h h' on on'.
    let low : (r : Record) → Memᴰ r (take n (front b w byte clock)) → r.kind ≤ 4 = λ r m. front_low b w byte clock r (part-member n (front b w byte clock) r m) in
    let (x, is, target) = targeted (b.side i) t (was-live i (live_target (b.side i)) (take n (front b w byte clock)) t low h) in
    let (y, is', target') = targeted (b.side j) t' (was-live j (live_target (b.side j)) (take n (front b w byte clock)) t' low h') in
    links-never-shared ok b reached i j x y l d is is' (rw target on) (rw target' on'))
    (λ k h h' on on'.
    let x = visits-work b w byte clock inv i t k h in
    let y = visits-work b w byte clock inv j t' k h' in
    two-apart (the_plan b) inv.sound (some byte) i j l x.live y.live d x.work y.work (rw x.target on) (rw y.target on'))
  where
    inv : Inv b
    inv = reached-inv ok b reached
