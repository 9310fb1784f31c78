-- The turns of a transaction, as the two words of the summary tell them: the slots at which an entry stands that permits it.
use Rattle.std.specs.Prelude.{◌≡◌, Bool, not, ◌&&◌, ℕ, ◌+◌, ◌-◌, ◌%◌, ◌^◌, ◌≤◌, ◌<◌, eqb}
use Rattle.std.proofs.Math.Path.{refl, sym, ap, fun_ext}
use Rattle.std.proofs.Common.{◌∙◌, arith}
use mathlib.Core.List.{List, []}
use Rattle.std.proofs.Math.Option.{Option, none, some}
use Rattle.std.proofs.Math.Bool.{true, false, and-false}
use Rattle.std.proofs.Math.Decide.{dec_lt}
use Rattle.std.proofs.Math.Dec.{leb, ltb}
use borrow.Author.Tests.{ltb-false, leb-true, leb-false, lt-ltb, le-ltb, eq-eqb, ne_eqb}
use Rattle.lists.specs.Search.{find, is_in}
use Rattle.lists.specs.Numbers.{any_below, first_from}
use Rattle.lists.specs.Place.{at_place}
use Rattle.lists.specs.laws.Bools.{not-both, never_true}
use Rattle.lists.specs.laws.Numbers.{any-true, any_false}
use Rattle.bitsets.specs.Set.{member}
use Rattle.bitsets.specs.Laws.{member-empty, no-members}
use Rattle.bitsets.specs.Packed.{member-packed, packed-is}
use Rattle.rules_plan.specs.Plan.{Entry, Plan}
use Rattle.rules_plan.specs.Meaning.{initiators, fits, permits, least_span, entry_at, may_start}
use Rattle.rules_plan.specs.Next.{is_turn, slot_after, next_turn}
use Rattle.rules_plan.specs.laws.Sound.{Sound}
use Rattle.rules_plan.specs.laws.Spans.{fits-by-least, least-span-most}
use Rattle.rules_plan.specs.laws.Runs.{entry-at, permits-fits}
use Rattle.rules_plan.specs.laws.Permitted.{never-beyond}
use Rattle.rules_plan.specs.laws.Turns.{turn-some, turn-none, turn_at, turn_low, may-start-turn}
use Rattle.memory_plan.specs.Memory.{has_target, longer_than, slots_with, aims_of}
use Rattle.memory_plan.specs.Turns.{turns_in, long_in, Aimed, long_at, turn_in_words}
use Rattle.memory_plan.specs.laws.InRows.{of_row_lem, turn-cell, long-cell}

-- a member of the slots whose entry passes a test
pub with-member : (g : Option Entry → Bool) (es : List Entry) (i v : ℕ) → member v (slots_with g es i) ≡ ltb v 64 && g (entry_at es i v)
unfolding slots_with
with-member g es i v = member-packed v (λ (u : ℕ). g (entry_at es i u))

-- without entries there are none
pub no-slots : (g : Option Entry → Bool) → g none ≡ false → (i : ℕ) → slots_with g [] i ≡ 0
unfolding slots_with entry_at find
no-slots g z i = sym (packed-is 0 (λ (v : ℕ). g (entry_at [] i v)) (omega arith) (λ v _. member-empty v ∙ sym z))

-- a word is not 0 where one of the sixty-four is in it
some-member : (word : ℕ) → word < 2 ^ 64 → (f : ℕ → Bool) → ((v : ℕ) → member v word ≡ f v) → not (eqb word 0) ≡ any_below 64 f
some-member word small f is = go (any_below 64 f) refl
  where
    go : (x : Bool) → any_below 64 f ≡ x → not (eqb word 0) ≡ any_below 64 f
    go true h =
        let (v, _, t) = any-true 64 f h in
        ap not (ne_eqb word 0 (λ z. not-both (is v ∙ t) (ap (member v) z ∙ member-empty v))) ∙ sym h
    go false h = ap not (eq-eqb word 0 (no-members word small (λ k l. is k ∙ any_false 64 f h k l))) ∙ sym h

-- what is aimed at is a target up to 63
pub aimed-low : (aims : List ℕ) (r t slots : ℕ) → Aimed aims r t slots → (slots ≡ 0 → ⊥) → t < 64
aimed-low aims r t slots a d = go (dec_lt t 64)
  where
    go : Dec (t < 64) → t < 64
    go (yes l) = l
    go (no l) = absurd (d (a.beyond (omega arith)))

-- a set of turns, by the words that it was made of
pub by-words : (aims : List ℕ) (r t need aimed : ℕ) → aimed ≡ turns_in aims r t → (set : ℕ) → ((v : ℕ) → member v set ≡ (member v aimed && long_at aims r need v))
    → (v : ℕ) → member v set ≡ turn_in_words aims r t need v
unfolding turn_in_words
by-words aims r t need aimed is set read v = read v ∙ ap (λ (w : ℕ). member v w && long_at aims r need v) is

module _ (p : Plan) (ok : Sound p) (r i : ℕ) (row : at_place r (initiators p) ≡ some i) (short : r < 8) (t : ℕ) (low : t < 64) (n : ℕ) where
  -- the entry at a slot has the target and is as long as the transaction needs
  permitted-at : (need v : ℕ) → need ≡ least_span p i t n → need ≤ 16 → (o : Option Entry) → entry_at p.entries i v ≡ o
      → has_target t o && longer_than (need - 1) o ≡ is_turn p p.entries i t n v
  unfolding has_target longer_than permits fits
  permitted-at need v is most none h = sym (turn-none p i t n p.entries v h)
  permitted-at need v is most (some e) h =
      let s = entry-at p.entries i v e h in
      let z : ltb (need - 1) e.span ≡ fits p e t n = long e.span (ok.some-span e s.has) (ok.spans e s.has) ∙ sym (rw s.own (fits-by-least p i t n e.span (omega (arith, ok.some-span e s.has)) (ok.spans e s.has))) in
      ap (λ (b : Bool). is_in t e.targets && b) z ∙ sym (turn-some p i t n p.entries v e h)
    where
      long : (span : ℕ) → 0 < span → span ≤ 16 → ltb (need - 1) span ≡ leb (least_span p i t n) span
      long span a b = by (leb need span) refl ∙ ap (λ (m : ℕ). leb m span) is
        where
          by : (x : Bool) → leb need span ≡ x → ltb (need - 1) span ≡ leb need span
          by true l = lt-ltb (need - 1) span (omega (arith, leb-true need span l, least-span-most p i t n)) ∙ sym l
          by false l = le-ltb (need - 1) span (omega (arith, leb-false need span l)) ∙ sym l

  -- what has a turn needs at most 16 slots
  turn-needs : (v : ℕ) → is_turn p p.entries i t n v ≡ true → least_span p i t n ≤ 16
  turn-needs v h =
      let z = (turn_at p i t n ok v).0 h in
      let e = z.entry in
      let fit : leb (least_span p i t n) e.span ≡ true =
      sym (fits-by-least p i t n e.span (omega (arith, ok.some-span e z.has)) (ok.spans e z.has)) ∙ (rw z.own at (permits-fits p e t n z.permitted)) in
      omega (arith, leb-true (least_span p i t n) e.span fit, ok.spans e z.has)

  module _ (aims : List ℕ) (held : aims ≡ aims_of p) (need : ℕ) (is : need ≡ least_span p i t n) where
    pub turn-told : (v : ℕ) → turn_in_words aims r t need v ≡ is_turn p p.entries i t n v
    unfolding turn_in_words long_at
    turn-told v = go (leb need 16) refl
      where
        es : List Entry
        es = p.entries

        aimed : member v (turns_in aims r t) ≡ ltb v 64 && has_target t (entry_at es i v)
        aimed = ap (member v) (ap (λ (xs : List ℕ). turns_in xs r t) held ∙ turn-cell p r t short low ∙ of_row_lem p r i _ row) ∙ with-member (has_target t) es i v

        long : need ≤ 16 → member v (long_in aims r (need - 1)) ≡ ltb v 64 && longer_than (need - 1) (entry_at es i v)
        long most =
            ap (member v) (ap (λ (xs : List ℕ). long_in xs r (need - 1)) held ∙ long-cell p r (need - 1) short (omega (arith, least-span-most p i t n)) ∙ of_row_lem p r i _ row)
            ∙ with-member (longer_than (need - 1)) es i v

        both : (need ≤ 16) → (x : Bool) → ltb v 64 ≡ x → (x && has_target t (entry_at es i v)) && (x && longer_than (need - 1) (entry_at es i v)) ≡ is_turn p es i t n v
        both most true h = permitted-at need v is most (entry_at es i v) refl
        both most false h = sym (never_true _ (λ z. absurd (omega (arith, ltb-false v 64 h, turn_low p i t n ok v z))))

        go : (x : Bool) → leb need 16 ≡ x → member v (turns_in aims r t) && (x && member v (long_in aims r (need - 1))) ≡ is_turn p es i t n v
        go true h = let most = leb-true need 16 h in rw (aimed, long most) (both most (ltb v 64) refl)
        go false h = and-false (member v (turns_in aims r t)) ∙ sym (never_true _ (λ z. absurd (omega (arith, leb-false need 16 h, turn-needs v z))))

    -- the set of the turns, as it is read: 25 asks whether it is empty, and the next turn is the next member
    module _ (word : ℕ) (fits' : word < 2 ^ 64) (read : (v : ℕ) → member v word ≡ turn_in_words aims r t need v) where
      turn-member : (v : ℕ) → member v word ≡ is_turn p p.entries i t n v
      turn-member v = read v ∙ turn-told v

      pub may-told : not (eqb word 0) ≡ may_start p p.entries i t n
      may-told = some-member word fits' (is_turn p p.entries i t n) turn-member ∙ sym (may-start-turn p i t n ok)

      pub next-told : (s : ℕ) → first_from 64 1 (λ (k : ℕ). member ((s + k) % 64) word) ≡ next_turn p p.entries i t n s
      unfolding next_turn slot_after
      next-told s = ap (first_from 64 1) (fun_ext λ k. turn-member ((s + k) % 64))

    -- where no entry has the target there is no turn
    no-turns : turns_in aims r t ≡ 0 → may_start p p.entries i t n ≡ false
    unfolding turn_in_words
    no-turns z =
        sym (may-told 0 (omega arith) (λ v. member-empty v ∙ sym (ap (λ (w : ℕ). member v w && long_at aims r need v) z ∙ ap (λ (b : Bool). b && long_at aims r need v) (member-empty v))))

-- and so of a target of any number
pub none-aimed : (p : Plan) → Sound p → (r i : ℕ) → at_place r (initiators p) ≡ some i → r < 8 → (t n : ℕ) (aims : List ℕ) → aims ≡ aims_of p
    → (slots : ℕ) → Aimed aims r t slots → slots ≡ 0 → may_start p p.entries i t n ≡ false
none-aimed p ok r i row short t n aims held slots a z = go (dec_lt t 64)
  where
    go : Dec (t < 64) → may_start p p.entries i t n ≡ false
    go (yes l) = no-turns p ok r i row short t l n aims held (least_span p i t n) refl (sym (a.within l) ∙ z)
    go (no l) = never-beyond p ok i t n (omega arith)
