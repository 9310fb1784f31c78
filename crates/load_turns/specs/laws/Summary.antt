-- `aims` with one entry more: its set of targets stored at its slot, and its slot marked in the summary.
use Rattle.std.proofs.Math.Path.{◌≡◌, refl, sym, ap}
use Rattle.std.proofs.Common.{◌∙◌, arith, ext_get_or, get_or-set_same, get_or-set_other, get_or-append-add}
use mathlib.Core.List.{List, [], ◌∷◌, ◌++◌, Memᴰ}
use Rattle.std.proofs.Math.Option.{Option, none, some}
use Rattle.std.specs.Prelude.{Bool, true, ◌&&◌, ◌||◌, length, set, leb, ltb, eqb}
use Rattle.std.proofs.Math.Bool.{false, and-true, and-false, or-false}
use Prim.Native.Nat.{ℕ, ◌+◌, ◌-◌, ◌*◌, ◌/◌, ◌%◌, ◌^◌, ◌≤◌, ◌<◌}
use Rattle.std.proofs.Math.Decide.{ℕ_discrete, dec_lt}
use Rattle.std.proofs.Math.ListN.{length-set, get_or-append, get_or-eq_default}
use Rattle.std.proofs.lemmas.List.{set-append_left}
use borrow.Author.Tests.{eqb-true, eq-eqb, ne_eqb, ltb-true, ltb-false, lt-ltb, le-ltb, le-leb, lt-leb}
use Rattle.lists.specs.Search.{any, find, is_in}
use Rattle.lists.specs.Place.{at_place}
use Rattle.lists.specs.Cells.{cells}
use Rattle.lists.specs.laws.Cells.{length-cells, cell_at}
use Rattle.lists.specs.laws.Bools.{both_true, true-both, never_true, not-both, some-some}
use Rattle.lists.specs.laws.Search.{is_in-elim, any-intro, find-some}
use Rattle.lists.specs.laws.More.{find-more, find-same}
use Rattle.bitsets.specs.Set.{member, alone, packed}
use Rattle.bitsets.specs.Laws.{same-members}
use Rattle.bitsets.specs.Packed.{packed_lt, packed-is, member-packed-below}
use Rattle.rules_plan.specs.Plan.{nth, Entry, Plan, entry, grow}
use Rattle.rules_plan.specs.Meaning.{is_initiator, initiators, stands_at, entry_at}
use Rattle.memory_plan.specs.Memory.{of_row, aim_of, slot_aims, has_target, longer_than, slots_with, turns_of, long_of, aims_of}
use Rattle.memory_plan.specs.laws.InRows.{of_row_lem, of-no-row, length-slot_aims, length-aims_of, turn-cell, long-cell}
use Rattle.memory_plan.specs.laws.Among.{row-once}
use Rattle.memory_plan.specs.laws.RowCells.{cell-more}
use Rattle.load_turns.specs.Marked.{Marked, is_target, is_span, is_marked}

module _ (p : Plan) (r : ℕ) (e : Entry) (row : at_place r (initiators p) ≡ some e.initiator) (low : e.slot < 64)
    (free : any (stands_at e.initiator e.slot) p.entries ≡ false) where
  abbrev more : List Entry
  more = p.entries ++ (e ∷ [])

  -- what stands at a slot with the entry more: it, and else what stood there
  at_own : entry_at more e.initiator e.slot ≡ some e
  unfolding entry_at stands_at
  at_own = find-more _ p.entries e free (true-both (eq-eqb e.initiator e.initiator refl) (eq-eqb e.slot e.slot refl))

  at_other : (j v : ℕ) → ((j ≡ e.initiator) × (v ≡ e.slot) → ⊥) → entry_at more j v ≡ entry_at p.entries j v
  unfolding entry_at stands_at
  at_other j v d =
      find-same _ p.entries e
      (never_true _ (λ h. let (a, b) = both_true (eqb j e.initiator) (eqb v e.slot) h in d (eqb-true j e.initiator a, eqb-true v e.slot b)))

  was-none : entry_at p.entries e.initiator e.slot ≡ none
  unfolding entry_at
  was-none = go (find (stands_at e.initiator e.slot) p.entries) refl
    where
      go : (o : Option Entry) → find (stands_at e.initiator e.slot) p.entries ≡ o → o ≡ none
      go none h = refl
      go (some f) h = let (m, t) = find-some (stands_at e.initiator e.slot) p.entries f h in not-both (any-intro _ p.entries f m t) free

  -- a word of the summary with the slot marked in it, where the entry is of the row and passes the test
  module _ (g : Option Entry → Bool) (nothing : g none ≡ false) (q : ℕ) (word : ℕ) (small : word < 2 ^ 64) (mark : Bool) (is : mark ≡ (eqb q r && g (some e)))
      (read : (v : ℕ) → member v word ≡ ((mark && alone e.slot v) || member v (of_row p q (slots_with g p.entries)))) where
    -- below 64, of the initiator of the row
    marked-at : (j : ℕ) → at_place q (initiators p) ≡ some j → (v : ℕ) → v < 64 → member v word ≡ g (entry_at more j v)
    unfolding slots_with
    marked-at j own v l = read v ∙ ap (λ (w : ℕ). (mark && alone e.slot v) || member v w) (of_row_lem p q j _ own) ∙ rw (member-packed-below v (λ (u : ℕ). g (entry_at p.entries j u)) l, lt-ltb v 64 l) (go (ℕ_discrete q r) (ℕ_discrete v e.slot))
      where
        go : Dec (q ≡ r) → Dec (v ≡ e.slot) → (mark && (eqb v e.slot && true)) || g (entry_at p.entries j v) ≡ g (entry_at more j v)
        go (yes a) (yes b) =
            let mine : j ≡ e.initiator = some-some (sym own ∙ ap (λ (n : ℕ). at_place n (initiators p)) a ∙ row) in
            rw (is, eq-eqb q r a, eq-eqb v e.slot b, mine, b, was-none, at_own, nothing) (or-false _ ∙ and-true (g (some e)))
        go (yes a) (no b) = rw (ne_eqb v e.slot b, and-false mark, at_other j v (λ z. b z.1))
        go (no a) s = rw (is, ne_eqb q r a, at_other j v (λ z. a (row-once p q r e.initiator (own ∙ ap some z.0) row)))

    pub grown-word : word ≡ of_row p q (slots_with g more)
    unfolding slots_with
    grown-word = go (at_place q (initiators p)) refl
      where
        go : (o : Option ℕ) → at_place q (initiators p) ≡ o → word ≡ of_row p q (slots_with g more)
        go (some j) own = packed-is word (λ (v : ℕ). g (entry_at more j v)) small (λ v l. marked-at j own v l) ∙ sym (of_row_lem p q j _ own)
        go none own = same-members word 0 small (omega arith) (λ v. read v ∙ rw (unmarked, of-no-row p q (slots_with g p.entries) own)) ∙ sym (of-no-row p q _ own)
          where
            unmarked : mark ≡ false
            unmarked = is ∙ ap (λ (b : Bool). b && g (some e)) (ne_eqb q r (λ a. let z : ◌≡◌ {A = ℕ} 0 1 = cc in absurd (omega arith)))

-- every word of `aims` is one
below-append : (b : ℕ) (xs ys : List ℕ) → ((n : ℕ) → nth xs n < b) → ((n : ℕ) → nth ys n < b) → (n : ℕ) → nth (xs ++ ys) n < b
below-append b xs ys f g n = go (dec_lt n (length xs))
  where
    go : Dec (n < length xs) → nth (xs ++ ys) n < b
    go (yes l) = rw (get_or-append xs ys 0 n l) (f n)
    go (no l) =
        let k = n - length xs in
        let e : n ≡ length xs + k = omega arith in
        rw (e, get_or-append-add xs ys k 0) (g k)

below-cells : (b size : ℕ) (f : ℕ → ℕ) → 0 < b → ((n : ℕ) → f n < b) → (n : ℕ) → nth (cells size f) n < b
below-cells b size f positive h n = go (dec_lt n size)
  where
    go : Dec (n < size) → nth (cells size f) n < b
    go (yes l) = rw (cell_at size f n 0 l) (h n)
    go (no l) = rw (get_or-eq_default (cells size f) 0 {n = n} (omega (arith, length-cells size f))) positive

below_row : (p : Plan) (r b : ℕ) (f : ℕ → ℕ) → 0 < b → ((i : ℕ) → f i < b) → of_row p r f < b
below_row p r b f positive h = go (at_place r (initiators p)) refl
  where
    go : (o : Option ℕ) → at_place r (initiators p) ≡ o → of_row p r f < b
    go none e = rw (of-no-row p r f e) positive
    go (some i) e = rw (of_row_lem p r i f e) (h i)

below-aim : (o : Option Entry) → aim_of o < 2 ^ 64
unfolding aim_of
below-aim none = omega arith
below-aim (some e) = packed_lt (λ (t : ℕ). is_in t e.targets)

aims-fit : (p : Plan) (n : ℕ) → nth (aims_of p) n < 2 ^ 64
unfolding aims_of slot_aims turns_of long_of slots_with
aims-fit p =
    below-append (2 ^ 64) (slot_aims p) (turns_of p ++ long_of p)
    (below-cells (2 ^ 64) 512 _ (omega arith) (λ n. below_row p (n / 64) (2 ^ 64) _ (omega arith) (λ i. below-aim _)))
    (below-append (2 ^ 64) (turns_of p) (long_of p)
    (below-cells (2 ^ 64) 512 _ (omega arith) (λ n. below_row p (n / 64) (2 ^ 64) _ (omega arith) (λ i. packed_lt _)))
    (below-cells (2 ^ 64) 128 _ (omega arith) (λ n. below_row p (n / 16) (2 ^ 64) _ (omega arith) (λ i. packed_lt _))))

-- which places are marked, part by part
module _ (r : ℕ) (short : r < 8) (ts : List ℕ) (low : (t : ℕ) → Memᴰ t ts → t < 64) (span : ℕ) (most : span ≤ 16) where
  high : (t : ℕ) → 64 ≤ t → is_in t ts ≡ false
  high t h = never_true _ (λ e. absurd (omega (arith, low t (is_in-elim t ts e))))

  no_target : (n : ℕ) → n < 512 → is_target r ts n ≡ false
  unfolding is_target
  no_target n h = rw (lt-leb (512 + r * 64) n (omega arith))

  no-target-after : (n : ℕ) → 1_024 ≤ n → is_target r ts n ≡ false
  unfolding is_target
  no-target-after n h = rw (high (n - (512 + r * 64)) (omega arith)) (and-false (leb (512 + r * 64) n))

  no_span : (n : ℕ) → n < 1_024 → is_span r span n ≡ false
  unfolding is_span
  no_span n h = rw (lt-leb (1_024 + r * 16) n (omega arith))

  target-here : (q t : ℕ) → t < 64 → is_target r ts (512 + (q * 64 + t)) ≡ (eqb q r && is_in t ts)
  unfolding is_target
  target-here q t l = go (ℕ_discrete q r) (dec_lt q r)
    where
      n : ℕ
      n = 512 + (q * 64 + t)

      go : Dec (q ≡ r) → Dec (q < r) → leb (512 + r * 64) n && is_in (n - (512 + r * 64)) ts ≡ (eqb q r && is_in t ts)
      go (yes e) d = let z : n - (512 + r * 64) ≡ t = omega arith in rw (eq-eqb q r e, z, le-leb (512 + r * 64) n (omega arith))
      go (no d) (yes h) = rw (ne_eqb q r d, lt-leb (512 + r * 64) n (omega arith))
      go (no d) (no h) = rw (ne_eqb q r d, high (n - (512 + r * 64)) (omega arith)) (and-false (leb (512 + r * 64) n))

  span-here : (q k : ℕ) → k < 16 → is_span r span (1_024 + (q * 16 + k)) ≡ (eqb q r && ltb k span)
  unfolding is_span
  span-here q k l = go (ℕ_discrete q r) (dec_lt q r)
    where
      n : ℕ
      n = 1_024 + (q * 16 + k)

      by : q ≡ r → (b : Bool) → ltb k span ≡ b → ltb n (1_024 + r * 16 + span) ≡ b
      by e true h = lt-ltb n (1_024 + r * 16 + span) (omega (arith, ltb-true k span h))
      by e false h = le-ltb n (1_024 + r * 16 + span) (omega (arith, ltb-false k span h))

      go : Dec (q ≡ r) → Dec (q < r) → leb (1_024 + r * 16) n && ltb n (1_024 + r * 16 + span) ≡ (eqb q r && ltb k span)
      go (yes e) d = rw (eq-eqb q r e, le-leb (1_024 + r * 16) n (omega arith)) (by e (ltb k span) refl)
      go (no d) (yes h) = rw (ne_eqb q r d, lt-leb (1_024 + r * 16) n (omega arith))
      go (no d) (no h) = rw (ne_eqb q r d, le-ltb n (1_024 + r * 16 + span) (omega arith)) (and-false (leb (1_024 + r * 16) n))

module _ (p : Plan) (r : ℕ) (e : Entry) (row : at_place r (initiators p) ≡ some e.initiator) (short : r < 8) (low : e.slot < 64)
    (free : any (stands_at e.initiator e.slot) p.entries ≡ false) (most : e.span ≤ 16) (aims-low : (t : ℕ) → Memᴰ t e.targets → t < 64)
    (before : List ℕ) (held : before ≡ aims_of p) (w : ℕ) (word : w ≡ packed (λ (t : ℕ). is_in t e.targets))
    (after : List ℕ) (marked : Marked (is_marked r e.span e.targets) e.slot (set before (r * 64 + e.slot) w) after) where
  abbrev at : ℕ
  at = r * 64 + e.slot

  abbrev stored : List ℕ
  stored = set before at w

  abbrev grown : Plan
  grown = grow p (entry e)

  stored-length : length stored ≡ 1_152
  stored-length = length-set before at w ∙ ap length held ∙ length-aims_of p

  stored-fit : (n : ℕ) → nth stored n < 2 ^ 64
  stored-fit n = go (ℕ_discrete n at)
    where
      go : Dec (n ≡ at) → nth stored n < 2 ^ 64
      go (yes z) = rw (z, get_or-set_same before at w 0 (omega (arith, ap length held ∙ length-aims_of p)), word) (packed_lt (λ (t : ℕ). is_in t e.targets))
      go (no d) = rw (get_or-set_other before at n w 0 d, held) (aims-fit p n)

  after-fit : (n : ℕ) → nth after n < 2 ^ 64
  after-fit = marked.fit stored-fit

  -- where nothing is marked
  unmarked : (n : ℕ) → n < 1_152 → is_marked r e.span e.targets n ≡ false → nth after n ≡ nth stored n
  unmarked n l no' =
      same-members (nth after n) (nth stored n) (after-fit n) (stored-fit n)
      (λ v. marked.words n v (omega (arith, stored-length)) ∙ rw no')

  -- the aims of the slots
  first_part : (n : ℕ) → n < 512 → nth after n ≡ nth (aims_of grown) n
  unfolding aims_of slot_aims aim_of entry_at stands_at grow of_row initiators is_initiator
  first_part n l =
      unmarked n (omega arith) (rw (no_target r short e.targets aims-low e.span most n l, no_span r short e.targets aims-low e.span most n (omega arith)))
      ∙ ap (λ (xs : List ℕ). nth (set xs at w) n) held
      ∙ ap (λ (xs : List ℕ). nth xs n) (set-append_left (slot_aims p) (turns_of p ++ long_of p) at w (omega (arith, length-slot_aims p)))
      ∙ get_or-append (set (slot_aims p) at w) (turns_of p ++ long_of p) 0 n (omega (arith, length-set (slot_aims p) at w, length-slot_aims p))
      ∙ ap (λ (xs : List ℕ). nth xs n) (ap (set (slot_aims p) at) word ∙ cell-more aim_of (λ f. f.initiator) (λ f. f.slot) p r p.entries e row short low free)
      ∙ sym (get_or-append (slot_aims grown) (turns_of grown ++ long_of grown) 0 n (omega (arith, length-slot_aims grown)))

  -- a word of the summary: what was there, and the slot where it is marked
  module _ (n : ℕ) (l : 512 ≤ n) (h : n < 1_152) (g : Option Entry → Bool) (nothing : g none ≡ false) (q : ℕ)
      (was : nth (aims_of p) n ≡ of_row p q (slots_with g p.entries)) (is : is_marked r e.span e.targets n ≡ (eqb q r && g (some e))) where
    apart : n ≡ at → ⊥
    apart z = omega arith

    summary-word : nth after n ≡ of_row p q (slots_with g (p.entries ++ (e ∷ [])))
    summary-word =
        grown-word p r e row low free g nothing q (nth after n) (after-fit n) (is_marked r e.span e.targets n) is
        (λ v. marked.words n v (omega (arith, stored-length))
        ∙ ap (λ (x : ℕ). (is_marked r e.span e.targets n && alone e.slot v) || member v x) (get_or-set_other before at n w 0 apart ∙ ap (λ (xs : List ℕ). nth xs n) held ∙ was))

  turns-part : (q t : ℕ) → q < 8 → t < 64 → nth after (512 + (q * 64 + t)) ≡ nth (aims_of grown) (512 + (q * 64 + t))
  unfolding has_target grow of_row initiators is_initiator
  turns-part q t a b =
      summary-word (512 + (q * 64 + t)) (omega arith) (omega arith) (has_target t) refl q (turn-cell p q t a b)
      (rw (no_span r short e.targets aims-low e.span most (512 + (q * 64 + t)) (omega arith), target-here r short e.targets aims-low e.span most q t b) (or-false _))
      ∙ sym (turn-cell grown q t a b)

  long-part : (q k : ℕ) → q < 8 → k < 16 → nth after (1_024 + (q * 16 + k)) ≡ nth (aims_of grown) (1_024 + (q * 16 + k))
  unfolding longer_than grow of_row initiators is_initiator
  long-part q k a b =
      summary-word (1_024 + (q * 16 + k)) (omega arith) (omega arith) (longer_than k) refl q (long-cell p q k a b)
      (rw (no-target-after r short e.targets aims-low e.span most (1_024 + (q * 16 + k)) (omega arith)) (span-here r short e.targets aims-low e.span most q k b))
      ∙ sym (long-cell grown q k a b)

  pub aims-more : after ≡ aims_of grown
  aims-more = ext_get_or 0 after (aims_of grown) (marked.as_many ∙ stored-length ∙ sym (length-aims_of grown)) (λ n h. go n (omega (arith, marked.as_many, stored-length)) (dec_lt n 512) (dec_lt n 1_024))
    where
      go : (n : ℕ) → n < 1_152 → Dec (n < 512) → Dec (n < 1_024) → nth after n ≡ nth (aims_of grown) n
      go n h (yes a) b = first_part n a
      go n h (no a) (yes b) =
          let z : n ≡ 512 + ((n - 512) / 64 * 64 + (n - 512) % 64) = omega arith in
          rw z (turns-part ((n - 512) / 64) ((n - 512) % 64) (omega arith) (omega arith))
      go n h (no a) (no b) =
          let z : n ≡ 1_024 + ((n - 1_024) / 16 * 16 + (n - 1_024) % 16) = omega arith in
          rw z (long-part ((n - 1_024) / 16) ((n - 1_024) % 16) (omega arith) (omega arith))
