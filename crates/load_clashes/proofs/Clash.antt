-- Verdict 14 in memory: two rows' sets meet exactly when their initiators clash, and the first pair that meets is the least.
use mathlib.Core.Path.{◌≡◌, refl, sym, ap, ap₂, fun_ext, ◌∙◌}
use mathlib.Core.List.{List}
use mathlib.Core.Option.{Option, none, some}
use mathlib.Core.Bool.{Bool, true, false, not}
use Prim.Native.Nat.{ℕ, ◌+◌, ◌-◌, ◌≤◌, ◌<◌}
use native.Mathlib.Omega.{arith}
use native.Mathlib.Decide.{dec_lt}
use lib.ListN.{get_or}
use lib.Dec.{ltb}
use borrow.Author.Count.{below_more}
use borrow.Author.Tests.{lt-ltb, not-true}
use Rattle.std.specs.Prelude.{Some, None}
use Rattle.lists.specs.Numbers.{first_from}
use Rattle.lists.specs.Options.{as_option}
use Rattle.lists.specs.Place.{at_place}
use Rattle.lists.specs.laws.Bools.{both_true, true-both, not-both, some-some}
use Rattle.lists.specs.laws.Numbers.{Finds, first-from}
use Rattle.lists.specs.laws.Sweep.{any_below_lem, least-is, least-nothing}
use Rattle.lists.specs.laws.Cells.{cell_at}
use Rattle.lists.specs.laws.At.{at-member}
use Rattle.lists.specs.laws.Members.{rising-at, rising-order}
use Rattle.bitsets.specs.Set.{member, common, disjoint_of, least_of}
use Rattle.bitsets.specs.Laws.{member-empty, disjoint-common}
use Rattle.bitsets.specs.Packed.{member-packed}
use Rattle.rules_plan.specs.declared.Verdict.{Verdict}
use Rattle.rules_plan.specs.declared.Verdict.TheVariants.{Clash}
use Rattle.rules_plan.specs.Plan.{Plan}
use Rattle.rules_plan.specs.Meaning.{initiators, may_use}
use Rattle.rules_plan.specs.Judge.{overrun, clash_in, clash}
use Rattle.rules_plan.specs.Words.{Clashing, pair}
use Rattle.rules_plan.specs.laws.Initiators.{initiator-below}
use Rattle.rules_plan.specs.laws.InRange.{entry-ranged}
use Rattle.rules_plan.specs.laws.Clashes.{used_low, May, may-use, mine, yours, both-use, clash-in-is, clash-in-none}
use Rattle.rules_plan.specs.laws.Fair.{Fair}
use Rattle.memory_plan.specs.Memory.{rows_of, paths_of, spans_of, aims_of, numbers_with}
use Rattle.load_slot_links.specs.Lanes.{lane_of, lanes_of, Searched}
use Rattle.load_clashes.specs.Clashes.{meets, least_common}
use Rattle.load_overruns.specs.laws.Entries.{RowOf, rows-rise, row_reads, row_small, entry_row}
use Rattle.lists.specs.laws.Below.{none-told, some-told}
use Rattle.load_slot_links.specs.laws.Lanes.{lane-of, lane-none}

-- no row before this one meets one after it
abbrev pub Apart : List ℕ → ℕ → Type 0
Apart lanes n = (i : ℕ) → i < n → (j : ℕ) → i < j → j < 8 → meets lanes i j ≡ false

pub apart_more : (lanes : List ℕ) (n j : ℕ) → n < 8 → Apart lanes n → j ≡ first_from (7 - n) (n + 1) (meets lanes n) → 8 ≤ j → Apart lanes (n + 1)
apart_more lanes n j small old e h =
    below_more (λ i. (m : ℕ) → i < m → m < 8 → meets lanes i m ≡ false) n old
    (λ m l g. (first-from (7 - n) (n + 1) (meets lanes n)).before m (omega arith) (omega arith))

-- rows with a link in common meet
meets_on : (lanes : List ℕ) (i j l : ℕ) → l < 64 → member l (get_or lanes i 0) ≡ true → member l (get_or lanes j 0) ≡ true → meets lanes i j ≡ true
unfolding meets disjoint_of
meets_on lanes i j l h a b = ap (λ (c : Bool). not (not c)) (any_below_lem 64 (common (get_or lanes i 0) (get_or lanes j 0)) l h (true-both a b))

meets_at : (lanes : List ℕ) (i j : ℕ) → meets lanes i j ≡ true → (l : ℕ) × (l < 64) × (common (get_or lanes i 0) (get_or lanes j 0) l ≡ true)
unfolding meets
meets_at lanes i j h = disjoint-common (get_or lanes i 0) (get_or lanes j 0) (not-true (disjoint_of (get_or lanes i 0) (get_or lanes j 0)) h)

-- the least common link, from the set of the common links
pub least-of-both : (a b x : ℕ) → ((k : ℕ) → member k x ≡ common a b k) → least_of x ≡ least_common a b
unfolding least_of least_common
least-of-both a b x h = ap (first_from 64 0) (fun_ext h)

module _ {p : Plan} {rows paths spans aims numbers : List ℕ} (s : Searched p rows paths spans aims numbers) (v : ℕ) (slot : v < 64) (lanes : List ℕ) (same : lanes ≡ lanes_of p v) where
  May-here : ℕ → ℕ → Type 0
  May-here i l = May p p.entries v i l

  lane : (r : ℕ) → r < 8 → get_or lanes r 0 ≡ lane_of p v r
  unfolding lanes_of
  lane r h = ap (λ (m : List ℕ). get_or m r 0) same ∙ cell_at 8 (lane_of p v) r 0 h

  -- a row's set has the links that its initiator may use
  in_lane : (r i l : ℕ) → RowOf p r i → May-here i l → (l < 64) × (member l (get_or lanes r 0) ≡ true)
  unfolding May-here
  in_lane r i l row m =
      let low = used_low p i m.target l s.fair.ranges m.on in (
        low,
        ap (member l) (lane r (row_small p s.fair r i row) ∙ lane-of p v r i row)
            ∙ member-packed l (may_use p p.entries v i) ∙ true-both (lt-ltb l 64 low) ((may-use p p.entries v i l).1 m),
      )

  from-lane : (r l : ℕ) → r < 8 → member l (get_or lanes r 0) ≡ true → (i : ℕ) × RowOf p r i × May-here i l
  unfolding May-here
  from-lane r l small h = go (at_place r (initiators p)) refl
    where
      go : (o : Option ℕ) → at_place r (initiators p) ≡ o → (i : ℕ) × RowOf p r i × May p p.entries v i l
      go none e = not-both h (ap (member l) (lane r small ∙ lane-none p v r e) ∙ member-empty l)
      go (some i) e =
          let a = sym (member-packed l (may_use p p.entries v i)) ∙ ap (member l) (sym (lane r small ∙ lane-of p v r i e)) ∙ h in
          (i, e, (may-use p p.entries v i l).0 (both_true (ltb l 64) (may_use p p.entries v i l) a).1)

  -- a clash in words is seen in its initiators' rows
  record Seen (i j l : ℕ) : Type 0 where
    one : ℕ
    other : ℕ
    row : RowOf p one i
    column : RowOf p other j
    order : one < other
    in_one : member l (get_or lanes one 0) ≡ true
    in-other : member l (get_or lanes other 0) ≡ true
    meet : meets lanes one other ≡ true

  seen : (i j l : ℕ) → Clashing p p.entries v i j l → Seen i j l
  unfolding May-here
  seen i j l c =
      let (a, x) = entry_row p s.fair c.mine c.has-mine in
      let (b, y) = entry_row p s.fair c.yours c.has-yours in
      let row : RowOf p a i = x ∙ ap some c.of-mine in
      let column : RowOf p b j = y ∙ ap some c.of-yours in
      let (low, m) = in_lane a i l row (mine c) in
      let (low', n) = in_lane b j l column (yours c) in
      record {
        one = a;
        other = b;
        row = row;
        column = column;
        order = rising-order (initiators p) a b i j (rows-rise p) row column c.order;
        in_one = m;
        in-other = n;
        meet = meets_on lanes a b l low m n;
      }

  -- What the search answers: the first pair of rows that meet, with their least common link, or nothing.
  pub clash-found : (i j : ℕ) → i < 8 → Apart lanes i → j ≡ first_from (7 - i) (i + 1) (meets lanes i) → j < 8
      → Some (Clash v (get_or rows i 0) (get_or rows j 0) (least_common (get_or lanes i 0) (get_or lanes j 0))) ≡ as_option (clash_in p p.entries v)
  unfolding May-here least_common
  clash-found i j small apart e low = answer (from-lane i link small on_both.0) (from-lane j link low on_both.1)
    where
      both : ℕ → Bool
      both = common (get_or lanes i 0) (get_or lanes j 0)

      link : ℕ
      link = first_from 64 0 both

      pairs : Finds (7 - i) (i + 1) (meets lanes i) (first_from (7 - i) (i + 1) (meets lanes i))
      pairs = first-from (7 - i) (i + 1) (meets lanes i)

      -- every common link is at least the least
      least : (l : ℕ) → both l ≡ true → Dec (l < link) → link ≤ l
      least l c (yes h) = not-both c ((first-from 64 0 both).before l (omega arith) h)
      least l c (no h) = omega arith

      link-low : link < 64
      link-low = let (l, h, c) = meets_at lanes i j (rw e (pairs.found (omega arith))) in omega (arith, least l c (dec_lt l link))

      on_both : (member link (get_or lanes i 0) ≡ true) × (member link (get_or lanes j 0) ≡ true)
      on_both = both_true (member link (get_or lanes i 0)) (member link (get_or lanes j 0)) ((first-from 64 0 both).found (omega (arith, link-low)))

      answer : (a : ℕ) × RowOf p i a × May p p.entries v a link → (b : ℕ) × RowOf p j b × May p p.entries v b link
          → Some (Clash v (get_or rows i 0) (get_or rows j 0) link) ≡ as_option (clash_in p p.entries v)
      answer (a, row, m) (b, column, n) =
          ap₂ (λ y z. Some (Clash v y z link)) (ap (λ l. get_or l i 0) s.rows ∙ row_reads p i a row) (ap (λ l. get_or l j 0) s.rows ∙ row_reads p j b column)
          ∙ ap as_option (sym (clash-in-is p p.entries s.fair.ranges (entry-ranged p s.fair.ranges) v a b link slot (record { here = both-use slot order m n; least = under })))
        where
          order : a < b
          order = rising-at (initiators p) i j a b (rows-rise p) row column (omega (arith, e, pairs.from))

          below : b < 64
          below = initiator-below p b (at-member (initiators p) j b column)

          under : (c d l : ℕ) → Clashing p p.entries v c d l → pair (pair a b) link ≤ pair (pair c d) l
          under c d l k = let w = seen c d l k in go w (dec_lt w.one i) (dec_lt i w.one)
            where
              go : (w : Seen c d l) → Dec (w.one < i) → Dec (i < w.one) → pair (pair a b) link ≤ pair (pair c d) l
              go w (yes h) g = not-both w.meet (apart w.one h w.other w.order (row_small p s.fair w.other d w.column))
              go w (no h) (yes g) = omega (arith, link-low, below, rising-at (initiators p) i w.one a c (rows-rise p) row w.row g)
              go w (no h) (no g) = on (dec_lt w.other j) (dec_lt j w.other)
                where
                  one : w.one ≡ i
                  one = omega arith

                  a_c : a ≡ c
                  a_c = some-some (sym row ∙ ap (λ n. at_place n (initiators p)) (sym one) ∙ w.row)

                  on : Dec (w.other < j) → Dec (j < w.other) → pair (pair a b) link ≤ pair (pair c d) l
                  on (yes f) o = not-both (ap (λ n. meets lanes n w.other) (sym one) ∙ w.meet) (pairs.before w.other (omega (arith, one, w.order)) (omega arith))
                  on (no f) (yes o) = omega (arith, link-low, a_c, rising-at (initiators p) j w.other b d (rows-rise p) column w.column o)
                  on (no f) (no o) =
                      let other : w.other ≡ j = omega arith in
                      let b-d : b ≡ d = some-some (sym column ∙ ap (λ n. at_place n (initiators p)) (sym other) ∙ w.column) in
                      let c : both l ≡ true =
                      true-both (ap (λ n. member l (get_or lanes n 0)) (sym one) ∙ w.in_one) (ap (λ n. member l (get_or lanes n 0)) (sym other) ∙ w.in-other) in
                      omega (arith, a_c, b-d, least l c (dec_lt l link))

  pub clash-nothing : (n : ℕ) → 8 ≤ n → Apart lanes n → None ≡ as_option (clash_in p p.entries v)
  clash-nothing n h apart = ap as_option (sym (clash-in-none p p.entries s.fair.ranges (entry-ranged p s.fair.ranges) v slot none-meet))
    where
      none-meet : (i j l : ℕ) → Clashing p p.entries v i j l → ⊥
      none-meet i j l c =
          let w = seen i j l c in
          let last = row_small p s.fair w.other j w.column in
          not-both w.meet (apart w.one (omega (arith, last, w.order)) w.other w.order last)

-- the arrays as find_clash has them
pub searched : {p : Plan} {rows paths spans aims numbers : List ℕ} (size : ℕ) → Fair p → overrun p.entries ≡ none → rows ≡ rows_of p → paths ≡ paths_of p → spans ≡ spans_of p → aims ≡ aims_of p → numbers ≡ numbers_with size p
    → Searched p rows paths spans aims numbers
searched size fair alone rows paths spans aims numbers = record { fair = fair; alone = alone; rows = rows; paths = paths; spans = spans; aims = aims; size = size; numbers = numbers }

-- no slot before this one has a clash
abbrev pub Quiet : Plan → ℕ → Type 0
Quiet p slot = (v : ℕ) → v < slot → clash_in p p.entries v ≡ none

module _ (p : Plan) (slot : ℕ) (quiet : Quiet p slot) where
  pub quiet-more : None ≡ as_option (clash_in p p.entries slot) → Quiet p (slot + 1)
  quiet-more e = below_more (λ v. clash_in p p.entries v ≡ none) slot quiet (none-told (clash_in p p.entries slot) e)

  pub clash-first : (r : Verdict) → slot < 64 → Some r ≡ as_option (clash_in p p.entries slot) → Some r ≡ as_option (clash p p.entries)
  unfolding clash
  clash-first r h e = ap as_option (sym (least-is (clash_in p p.entries) slot r h (some-told (clash_in p p.entries slot) r e) quiet))

  pub clash-never : 64 ≤ slot → None ≡ as_option (clash p p.entries)
  unfolding clash
  clash-never h = ap as_option (sym (least-nothing (clash_in p p.entries) (λ v l. quiet v (omega arith))))
