-- A walk over the memory: what the two ends of a link say of where it leads, and a walk taken link by link with the devices met as a set.
use mathlib.Core.Path.{◌≡◌, refl, sym, ap, ◌∙◌}
use mathlib.Core.Logic.{◌≢◌}
use mathlib.Core.List.Memᴰ
use mathlib.Core.List.{List, [], ◌∷◌, Memᴰ}
use mathlib.Core.Option.{Option, none, some}
use mathlib.Core.Bool.{Bool, true, false, not, ◌&&◌, ◌||◌, cond, and-true, and-false, and_comm, or_comm, or-true, or-false, and-or_distrib_right, false≢true}
use Prim.Native.Nat.{ℕ, suc, ◌+◌, ◌*◌, ◌/◌, ◌%◌, ◌^◌, ◌<◌, ◌≤◌, min, max}
use native.Mathlib.Nat.{add-zero}
use native.Mathlib.Omega.{arith}
use lib.Bits.{bit_or, bit_and, bit_xor, or_zero_l, or_add_and, and_le_l, and_le_r}
use lib.ListN.{length, drop, drop_of_length-le}
use lib.Seq.{drop-cons}
use lib.Dec.{eqb, ltb}
use borrow.Author.Tests.{eq-eqb, ne_eqb, eqb-true, eqb-false, lt-ltb}
use Rattle.lists.specs.Search.{any, all, find, is_in}
use Rattle.lists.specs.laws.Bools.{some-some, none-some, true-both}
use Rattle.lists.specs.laws.Search.{any-elim, all-elim, find-some, find-has}
use Rattle.lists.specs.laws.More.{all_same}
use Rattle.lists.specs.laws.Cells.{cell_at}
use Rattle.lists.specs.laws.At.{read-member}
use Rattle.bitsets.specs.Set.{member, alone, listed}
use Rattle.bitsets.specs.Laws.{member-empty, member-and, member-or, no-members}
use Rattle.bitsets.specs.Packed.{member-packed-below}
use Rattle.rules_plan.specs.Plan.{nth, Link, Plan, link}
use Rattle.rules_plan.specs.Meaning.{has_kind, is_router, is_link, across, leads, walks, is_walk}
use Rattle.rules_plan.specs.Canon.{small_first}
use Rattle.rules_plan.specs.laws.Fair.{Fair}
use Rattle.rules_plan.specs.laws.Items.{link-in}
use Rattle.rules_plan.specs.laws.Ranges.{LinkRange, link-range}
use Rattle.rules_plan.specs.laws.Same.{same-across}
use Rattle.rules_plan.specs.laws.Canonical.{small_first-same}
use Rattle.memory_plan.specs.Memory.{sets_of, end_of, ends_of}
use Rattle.load_walks.proofs.Unlike.{unlike, member-xor, other-left, stays}

-- the link with number n, where there is one
pub given-link : (p : Plan) (n : ℕ) → is_link p n ≡ true → (l : Link) × (find (λ (m : Link). eqb n m.num) p.links ≡ some l)
unfolding is_link
given-link p n h = let (m, k, e) = any-elim _ p.links h in find-has _ p.links m k e

-- from device d over a link with the ends one and other
abbrev pub over : ℕ → ℕ → ℕ → Option ℕ
over one other d = cond (eqb d one) (some other) (cond (eqb d other) (some one) none)

pub over_first : (one other d : ℕ) → d ≡ one → over one other d ≡ some other
over_first one other d e = rw (eq-eqb d one e)

pub over-second : (one other d : ℕ) → d ≢ one → d ≡ other → over one other d ≡ some one
over-second one other d e f = rw (ne_eqb d one e, eq-eqb d other f)

pub over_none : (one other d : ℕ) → d ≢ one → d ≢ other → over one other d ≡ none
over_none one other d e f = rw (ne_eqb d one e, ne_eqb d other f)

pub over_below : (one other d e : ℕ) → over one other d ≡ some e → one < 64 → other < 64 → e < 64
over_below one other d e h a b = first (eqb d one) h
  where
    second : (x : Bool) → cond x (some one) none ≡ some e → e < 64
    second true g = omega (arith, some-some g)
    second false g = none-some g

    first : (x : Bool) → cond x (some other) (cond (eqb d other) (some one) none) ≡ some e → e < 64
    first true g = omega (arith, some-some g)
    first false g = second (eqb d other) g

-- the ends of link n stand at 2n and 2n + 1
pub end-at : (p : Plan) (n side : ℕ) → n < 64 → side < 2 → nth (ends_of p) (n * 2 + side) ≡ end_of side (find (λ (m : Link). eqb n m.num) p.links)
unfolding ends_of
end-at p n side h g =
    let a : (n * 2 + side) / 2 ≡ n = omega arith in
    let b : (n * 2 + side) % 2 ≡ side = omega arith in
    cell_at 128 _ (n * 2 + side) 0 (omega arith) ∙ (rw (a, b))

-- a link of a fair plan leads over the ends in memory, and to a device below 64
pub record LinkRead (p : Plan) (n one other : ℕ) : Type 0 where
  pub leads : (d : ℕ) → leads p n d ≡ over one other d
  pub below : (one < 64) × (other < 64)
  pub apart : one ≢ other

pub link-read : (p : Plan) → Fair p → (n : ℕ) → n < 64 → is_link p n ≡ true → LinkRead p n (nth (ends_of p) (n * 2)) (nth (ends_of p) (n * 2 + 1))
unfolding leads end_of across small_first
link-read p f n h e = go (given-link p n e)
  where
    go : (l : Link) × (find (λ (m : Link). eqb n m.num) p.links ≡ some l) → LinkRead p n (nth (ends_of p) (n * 2)) (nth (ends_of p) (n * 2 + 1))
    go (l, g) = rw (first, second) (record { leads = λ d. (rw (g, leads)) ∙ same-across d l (small_first l) (small_first-same l); below = (omega (arith, range), omega (arith, range)); apart = λ e. range.apart (omega arith) })
      where
        range : LinkRange l
        range = link-range l (f.ranges (link l) (link-in p l (find-some _ p.links l g).0))

        first : nth (ends_of p) (n * 2) ≡ min l.one l.other
        first = ap (nth (ends_of p)) (sym (add-zero (n * 2))) ∙ end-at p n 0 h (omega arith) ∙ (rw g)

        second : nth (ends_of p) (n * 2 + 1) ≡ max l.one l.other
        second = end-at p n 1 h (omega arith) ∙ (rw g)

-- what a walk is taken over: a fair plan in memory, from a device below 64, over links of the plan
pub record Walking (p : Plan) (sets' ends' : List ℕ) (start : ℕ) (links : List ℕ) : Type 0 where
  pub fair : Fair p
  pub from : start < 64
  pub known : all (is_link p) links ≡ true
  pub sets : sets' ≡ sets_of p
  pub ends : ends' ≡ ends_of p

pub walking : {p : Plan} {sets' ends' : List ℕ} {start : ℕ} {links : List ℕ} → Fair p → start < 64 → all (is_link p) links ≡ true → sets' ≡ sets_of p → ends' ≡ ends_of p
    → Walking p sets' ends' start links
walking f h g a b = record { fair = f; from = h; known = g; sets = a; ends = b }

-- a device may be passed: it is the end or a router
abbrev pub passable : Plan → ℕ → ℕ → Bool
passable p end d = eqb d end || is_router p d

-- where an unbroken walk stands after k links: at a device, which is here alone, with the devices met as a set; those behind the start may be
-- passed and what is walked from here is a walk just where the whole is
pub record Stands (p : Plan) (start : ℕ) (links : List ℕ) (end here met k : ℕ) : Type 0 where
  pub at : ℕ
  pub at_low : at < 64
  pub alone-here : (m : ℕ) → member m here ≡ alone at m
  pub at-met : member at met ≡ true
  pub start-met : member start met ≡ true
  pub before : List ℕ
  pub low : (m : ℕ) → Memᴰ m before → m < 64
  pub marks : (m : ℕ) → member m met ≡ listed before m
  pub behind : List ℕ
  pub away : (m : ℕ) → Memᴰ m behind → eqb m start ≡ false
  pub same : (t : ℕ → Bool) → t start ≡ true → all t before ≡ all t behind
  pub whole : is_walk p start links end ≡ all (passable p end) behind && walks p before at (drop k links) end

-- a walk that is not broken stands somewhere, and one that is broken is none
pub record Goes (p : Plan) (start : ℕ) (links : List ℕ) (end here met broken k : ℕ) : Type 0 where
  pub stands : broken ≡ 0 → Stands p start links end here met k
  pub lost : broken ≢ 0 → is_walk p start links end ≡ false

alone-self : (n : ℕ) → n < 64 → alone n n ≡ true
alone-self n h = true-both (eq-eqb n n refl) (lt-ltb n 64 h)

pub goes_first : {p : Plan} {start : ℕ} {links : List ℕ} {end here : ℕ} → start < 64 → ((m : ℕ) → member m here ≡ alone start m) → Goes p start links end here here 0 0
unfolding is_walk is_in any all
goes_first {start} h a = record {
  stands = λ _. record {
    at = start;
    at_low = h;
    alone-here = a;
    at-met = a start ∙ alone-self start h;
    start-met = a start ∙ alone-self start h;
    before = start ∷ [];
    low = low;
    marks = λ m. a m ∙ ap (λ b. b && ltb m 64) (sym (or-false (eqb m start)));
    behind = [];
    away = λ m i. absurd (Memᴰ.not-nil i);
    same = λ t e. rw e;
    whole = refl;
  };
  lost = λ d. absurd (d refl);
}
  where
    low : (m : ℕ) → Memᴰ m (start ∷ []) → m < 64
    low m (Memᴰ.head e) = rw e h
    low m (Memᴰ.tail i) = absurd (Memᴰ.not-nil i)

-- a walk that stops is none
stopped : {x b : Bool} (a : Bool) → x ≡ a && b → b ≡ false → x ≡ false
stopped a e f = e ∙ ap (λ c. a && c) f ∙ and-false a

-- the device that is passed next joins those behind the start
joins : (a b c : Bool) → a && (b && c) ≡ (b && a) && c
joins true b c = ap (λ d. d && c) (sym (and-true b))
joins false b c = ap (λ d. d && c) (sym (and-false b))

-- nothing is in a set that is 0
not_none : (m x : ℕ) → member m x ≡ true → x ≢ 0
not_none m x e z = false≢true (sym (member-empty m) ∙ ap (member m) (sym z) ∙ e)

-- sets of which one is not empty, together
pub still-broken : (a b : ℕ) → a ≢ 0 → bit_or a b ≢ 0
still-broken a b d e = d (omega (arith, or_add_and a b, and_le_r a b))

-- all links are gone through
module _ {p : Plan} {sets' ends' : List ℕ} {start : ℕ} {links : List ℕ} {end here met broken k : ℕ} (h : length links ≤ k)
    (w : Walking p sets' ends' start links) (g : Goes p start links end here met broken k) where
  abbrev allowed : ℕ → Bool
  allowed x = eqb x start || (eqb x end || member x (nth sets' 1))

  module _ (s : Stands p start links end here met k) where
    whole-last : is_walk p start links end ≡ all (passable p end) s.behind && eqb s.at end
    unfolding walks
    whole-last = s.whole ∙ (rw (drop_of_length-le links h))

    end-here : member end here ≡ eqb s.at end
    end-here = s.alone-here end ∙ go (eqb s.at end) refl
      where
        go : (b : Bool) → eqb s.at end ≡ b → alone s.at end ≡ b
        go true e = let f = eqb-true s.at end e in true-both (eq-eqb end s.at (sym f)) (lt-ltb end 64 (omega (arith, s.at_low)))
        go false e = rw (ne_eqb end s.at (λ f. eqb-false s.at end e (sym f)))

    all-passed : all allowed s.before ≡ all (passable p end) s.behind
    unfolding sets_of is_router
    all-passed =
        all_same allowed (λ x. eqb x start || passable p end x) s.before (λ m i. ap (λ b. eqb m start || (eqb m end || b)) (rw w.sets (member-packed-below m (has_kind p 1) (s.low m i))))
        ∙ s.same (λ x. eqb x start || passable p end x) (rw (eq-eqb start start refl))
        ∙ all_same _ (passable p end) s.behind (λ m i. rw (s.away m i))

  pub goes_last : (r : Bool) → (broken ≢ 0 → r ≡ false)
      → (broken ≡ 0 → (xs : List ℕ) → ((x : ℕ) → Memᴰ x xs → x < 64) → ((m : ℕ) → member m met ≡ listed xs m) → r ≡ (member end here && all allowed xs))
      → r ≡ is_walk p start links end
  goes_last r lost found = go (eqb broken 0) refl
    where
      go : (b : Bool) → eqb broken 0 ≡ b → r ≡ is_walk p start links end
      go true e =
          let z = eqb-true broken 0 e in
          let s = g.stands z in
          found z s.before s.low s.marks ∙ rw (end-here s, all-passed s) (and_comm (eqb s.at end) (all (passable p end) s.behind)) ∙ sym (whole-last s)
      go false e = let d = eqb-false broken 0 e in lost d ∙ sym (g.lost d)

-- at the next link, whose ends stand in memory
module _ {p : Plan} {sets' ends' : List ℕ} {start : ℕ} {links : List ℕ} {k : ℕ} (h : k < length links)
    (w : Walking p sets' ends' start links) where
  abbrev one : ℕ
  one = nth ends' (nth links k * 2)

  abbrev other : ℕ
  other = nth ends' (nth links k * 2 + 1)

  next-link : is_link p (nth links k) ≡ true
  next-link = all-elim (is_link p) links (nth links k) w.known (read-member links k 0 h)

  pub next-below : nth links k < 64
  unfolding is_link
  next-below =
      let (m, i, e) = any-elim (λ (m : Link). eqb (nth links k) m.num) p.links next-link in
      omega (arith, (link-range m (w.fair.ranges (link m) (link-in p m i))).num, eqb-true (nth links k) m.num e)

  pub next-read : LinkRead p (nth links k) one other
  next-read = rw w.ends (link-read p w.fair (nth links k) next-below next-link)

  module _ {end here met : ℕ} (s : Stands p start links end here met k) (met-fits : met < 2 ^ 64) (pair : ℕ) (both : (m : ℕ) → member m pair ≡ (alone one m || alone other m)) where
    abbrev then : ℕ
    then = bit_xor here pair

    then_is : (m : ℕ) → member m then ≡ unlike (alone s.at m) (alone one m || alone other m)
    then_is m = member-xor m here pair ∙ rw (s.alone-here m, both m)

    -- it does not lead on: the device reached stays
    stuck : s.at ≢ one → s.at ≢ other → Goes p start links end then (bit_or then met) (bit_and met then) (suc k)
    unfolding walks
    stuck d e =
        let c : member s.at (bit_and met then) ≡ true = member-and s.at met then ∙ true-both s.at-met (then_is s.at ∙ stays s.at one other s.at_low d e) in
        record {
          stands = λ z. absurd (not_none s.at (bit_and met then) c z);
          lost = λ _. stopped (all (passable p end) s.behind) s.whole (rw (drop-cons links k 0 h, next-read.leads s.at ∙ over_none one other s.at d e, walks));
        }

    -- it leads to a device, which is then here alone
    module _ (next : ℕ) (o : over one other s.at ≡ some next) (a : (m : ℕ) → member m then ≡ alone next m) where
      b : next < 64
      b = over_below one other s.at next o next-read.below.0 next-read.below.1

      marked : member next met ≡ is_in next s.before
      marked = s.marks next ∙ rw (lt-ltb next 64 b) (and-true (is_in next s.before))

      from-here : walks p s.before s.at (drop k links) end ≡ (not (member next met) && passable p end next && walks p (next ∷ s.before) next (drop (suc k) links) end)
      unfolding walks
      from-here = rw (drop-cons links k 0 h, next-read.leads s.at ∙ o, walks, marked)

      then-has : member next then ≡ true
      then-has = a next ∙ alone-self next b

      meets : member next met ≡ true → Goes p start links end then (bit_or then met) (bit_and met then) (suc k)
      meets t = record {
        stands = λ z. absurd (not_none next (bit_and met then) (member-and next met then ∙ true-both t then-has) z);
        lost = λ _. stopped (all (passable p end) s.behind) s.whole (from-here ∙ (rw t));
      }

      module _ (f : member next met ≡ false) where
        apart : bit_and met then ≡ 0
        apart = no-members (bit_and met then) (omega (arith, and_le_l met then)) (λ m _. member-and m met then ∙ rw (a m) (go m (eqb m next) refl))
          where
            go : (m : ℕ) (c : Bool) → eqb m next ≡ c → (member m met && alone next m) ≡ false
            go m true e = rw (eqb-true m next e, f)
            go m false e = rw e (and-false (member m met))

        goes_on : Stands p start links end then (bit_or then met) (suc k)
        unfolding is_in any all
        goes_on = record {
          at = next;
          at_low = b;
          alone-here = a;
          at-met = member-or next then met ∙ rw then-has;
          start-met = member-or start then met ∙ rw s.start-met (or-true (member start then));
          before = next ∷ s.before;
          low = low;
          marks = λ m. member-or m then met ∙ rw (a m, s.marks m) (sym (and-or_distrib_right (eqb m next) (is_in m s.before) (ltb m 64)));
          behind = next ∷ s.behind;
          away = away;
          same = λ t e. ap (λ c. t next && c) (s.same t e);
          whole = s.whole ∙ ap (λ d. all (passable p end) s.behind && d) (from-here ∙ (rw f)) ∙ joins (all (passable p end) s.behind) (passable p end next) _;
        }
          where
            low : (m : ℕ) → Memᴰ m (next ∷ s.before) → m < 64
            low m (Memᴰ.head e) = rw e b
            low m (Memᴰ.tail i) = s.low m i

            away : (m : ℕ) → Memᴰ m (next ∷ s.behind) → eqb m start ≡ false
            away m (Memᴰ.head e) = ne_eqb m start (λ q. false≢true (sym f ∙ ap (λ x. member x met) (sym e ∙ q) ∙ s.start-met))
            away m (Memᴰ.tail i) = s.away m i

        leaves : Goes p start links end then (bit_or then met) (bit_and met then) (suc k)
        leaves = record { stands = λ _. goes_on; lost = λ d. absurd (d apart) }

      led : Goes p start links end then (bit_or then met) (bit_and met then) (suc k)
      led = go (member next met) refl
        where
          go : (c : Bool) → member next met ≡ c → Goes p start links end then (bit_or then met) (bit_and met then) (suc k)
          go true e = meets e
          go false e = leaves e

    further : Goes p start links end then (bit_or then met) (bit_and met then) (suc k)
    further = go (eqb s.at one) refl (eqb s.at other) refl
      where
        go : (c : Bool) → eqb s.at one ≡ c → (d : Bool) → eqb s.at other ≡ d → Goes p start links end then (bit_or then met) (bit_and met then) (suc k)
        go true e _ _ =
            let q = eqb-true s.at one e in
            led other (over_first one other s.at q) (λ m. then_is m ∙ rw q (other-left one other m next-read.apart))
        go false e true f =
            let q = eqb-true s.at other f in
            led one (over-second one other s.at (eqb-false s.at one e) q)
            (λ m. then_is m ∙ rw (q, or_comm (alone one m) (alone other m)) (other-left other one m (λ z. next-read.apart (sym z))))
        go false e false f = stuck (eqb-false s.at one e) (eqb-false s.at other f)

  pub goes-next : {end here met broken : ℕ} → Goes p start links end here met broken k → met < 2 ^ 64 → (pair : ℕ) → ((m : ℕ) → member m pair ≡ (alone one m || alone other m))
      → Goes p start links end (bit_xor here pair) (bit_or (bit_xor here pair) met) (bit_or broken (bit_and met (bit_xor here pair))) (suc k)
  goes-next {end} {here} {met} {broken} g fits pair both = go (eqb broken 0) refl
    where
      go : (b : Bool) → eqb broken 0 ≡ b
          → Goes p start links end (bit_xor here pair) (bit_or (bit_xor here pair) met) (bit_or broken (bit_and met (bit_xor here pair))) (suc k)
      go true e = let z = eqb-true broken 0 e in rw (z, or_zero_l (bit_and met (bit_xor here pair))) (further (g.stands z) fits pair both)
      go false e =
          let d = eqb-false broken 0 e in
          record { stands = λ z. absurd (still-broken broken (bit_and met (bit_xor here pair)) d z); lost = λ _. g.lost d }
