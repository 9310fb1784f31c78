-- `items::several::gather` meets its contract: where no number is over 63, the lowest bit of the sets, each moved down by the number that
-- comes next, tells whether that number was among those before.
-- Assumes nothing.
use mathlib.Core.Path.{◌≡◌, sym, ap, ap₂, ◌∙◌}
use mathlib.Core.List.{List}
use mathlib.Core.Bool.{true, false, ◌&&◌, ◌||◌, and-true}
use Prim.Native.Nat.{ℕ, ◌+◌, ◌/◌, ◌%◌, ◌^◌, ◌≤◌, ◌<◌}
use native.Mathlib.Nat.{div-one}
use native.Mathlib.Omega.{arith}
use lib.Bits.{bit_or}
use Rattle.std.proofs.lemmas.Nat.{or_comm}
use lib.Dec.{ltb}
use lib.ListN.{length, get_or, take}
use lib.Seq.{take_all}
use borrow.Author.Tests.{lt-ltb, le-ltb}
use Rattle.lists.specs.Search.{any, repeats, is_in, twice}
use Rattle.lists.specs.Rows.{first_of}
use Rattle.lists.specs.laws.Scan.{twice-next}
use Rattle.bitsets.specs.Set.{member, alone, listed}
use Rattle.bitsets.specs.Laws.{member-empty, member-or}
use Rattle.rules_plan.specs.Judge.{over63}
use Rattle.load_items.specs.Several.{several_fault}
use Rattle.load_items.proofs.Gathers.{gathers-none, none_before, next_low, gathers-next, gathers-all}
use Rattle.load_items.proofs.several.gather.Invariants.{Passed}
use Rattle.load_items.proofs.several.gather.Goals as goal

-- a set moved down by a number of it has the lowest bit
moved_down : (n s : ℕ) → n < 64 → member 0 (s / 2 ^ (n % 64)) ≡ member n s
unfolding member
moved_down n s h = let e : n % 64 ≡ n = omega arith in rw (e, div-one (s / 2 ^ n))

first : (s : List ℕ) → Passed s 0 0 0 0
unfolding twice repeats
first s = record { numbers = gathers-none s; repeat = λ _. member-empty 0 }

-- one number more
module _ {s : List ℕ} {over again set k : ℕ} (h : k < length s) (p : Passed s over again set k) where
  among : any over63 (take (k + 1) s) ≡ false → member 0 (set / 2 ^ (get_or s k 0 % 64)) ≡ is_in (get_or s k 0) (take k s)
  among e =
      let n = get_or s k 0 in
      let l = next_low s k h e in
      moved_down n set l ∙ p.numbers.marks (none_before s k h e) n ∙ ap (λ b. is_in n (take k s) && b) (lt-ltb n 64 l) ∙ and-true _

  next : (bit : ℕ) → (get_or s k 0 < 64 → (j : ℕ) → member j bit ≡ alone (get_or s k 0) j)
      → Passed s (bit_or over (get_or s k 0)) (bit_or again (set / 2 ^ (get_or s k 0 % 64))) (bit_or set bit) (k + 1)
  next bit a = record {
    numbers = rw (or_comm set bit) (gathers-next h p.numbers bit a);
    repeat = λ e. member-or 0 again _ ∙ ap₂ (λ b c. b || c) (p.repeat (none_before s k h e)) (among e) ∙ sym (twice-next s k h);
  }

-- the whole list: row 6, row 7, or its set
module _ {s : List ℕ} {over again set k : ℕ} (h : length s ≤ k) (p : Passed s over again set k) where
  high : any over63 s ≡ ltb 63 over
  high = sym (gathers-all h p.numbers).0

  repeated : any over63 s ≡ false → member 0 again ≡ twice s
  repeated e = p.repeat (ap (any over63) (take_all k s h) ∙ e) ∙ ap twice (take_all k s h)

  fault-6 : 63 < over → 6 ≡ several_fault s
  unfolding several_fault first_of
  fault-6 o = rw (high, lt-ltb 63 over o)

  module _ (l : over ≤ 63) where
    low : any over63 s ≡ false
    low = high ∙ le-ltb 63 over l

    fault-7 : member 0 again ≡ true → (7 ≡ several_fault s) × ((j : ℕ) → member j set ≡ listed s j)
    unfolding several_fault first_of
    fault-7 b = (rw (low, sym (repeated low) ∙ b), (gathers-all h p.numbers).1 low)

    fault-none : member 0 again ≡ false → (0 ≡ several_fault s) × ((j : ℕ) → member j set ≡ listed s j)
    unfolding several_fault first_of
    fault-none b = (rw (low, sym (repeated low) ∙ b), (gathers-all h p.numbers).1 low)

pub loop-n-init : goal.loop-n-init
loop-n-init c = first c.args.s.now

pub loop-n-preserved : goal.loop-n-preserved
loop-n-preserved c = next c.loop-n-test.true c.loop-n.invariant c.bit_of-set.result c.bit_of-set.ensures

pub returns-then-over-gt63 : goal.returns-then-over-gt63
returns-then-over-gt63 c = (fault-6 c.loop-n-test.false c.loop-n.invariant c.if-over-gt63.true, _)

pub returns-then-has : goal.returns-then-has
returns-then-has c = fault-7 c.loop-n-test.false c.loop-n.invariant c.if-over-gt63.false (sym c.has.ensures ∙ c.if-has.true)

pub returns : goal.returns
returns c = fault-none c.loop-n-test.false c.loop-n.invariant c.if-over-gt63.false (sym c.has.ensures ∙ c.if-has.false)
