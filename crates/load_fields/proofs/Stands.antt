-- Where reading stands in a file: the plan so far, which memory holds, and that what is judged from here on is the verdict on the whole.
use mathlib.Core.Path.{◌≡◌, refl, sym, subst, ◌∙◌}
use mathlib.Core.Logic.{◌≢◌}
use Rattle.std.specs.Prelude.{Ok, Err}
use mathlib.Core.List.{List, flat_map}
use mathlib.Core.Option.{some}
use mathlib.Core.Bool.{◌&&◌}
use Prim.Native.Nat.{ℕ, zero, suc, ◌+◌, ◌≤◌, ◌<◌}
use native.Mathlib.Omega.{arith}
use lib.ListN.{length, set}
use lib.Dec.{ltb, eqb}
use borrow.Author.Tests.{ltb-false, lt-leb, le-leb, eq-eqb, ne_eqb}
use Rattle.lists.specs.Search.{find}
use Rattle.lists.specs.laws.Bools.{neither, some-some}
use Rattle.rules_plan.specs.Plan.{Plan, Item, blank, grow}
use Rattle.rules_plan.specs.Fields.{tags, tag_of, comes_once, tag_for, tag_at, next_at, item_at}
use Rattle.rules_plan.specs.Judge.{field_fault, with_field, plan, fault, read_from, read_file}
use Rattle.rules_plan.specs.Canon.{items, written, given}
use Rattle.rules_plan.specs.laws.Items.{UpTo, no-timings, no-times}
use Rattle.rules_plan.specs.laws.Chain.{Follows}
use Rattle.rules_plan.specs.laws.Fair.{Fair, no_items, blank-fair, follows-smaller, up-grow, fair-grow}
use Rattle.rules_plan.specs.laws.Fields.{tag-here}
use Rattle.rules_plan.specs.laws.Reading.{holds}
use Rattle.rules_plan.specs.laws.Whole.{given-plan}
use Rattle.rules_plan.specs.laws.Accepted.{file-length}
use Rattle.memory_plan.specs.Memory.{numbers_with, HoldsSized, Holds}
use Rattle.memory_plan.specs.Take.{item_fault, taken}
use Rattle.file_field.specs.Head.{faulty, head_of}
use Rattle.rules_plan.specs.declared.Fault.{Fault}
use Rattle.rules_plan.specs.Numbers.{fault_number}
use Rattle.rules_plan.specs.laws.Numbers.{some-fault}
use Rattle.load_fields.specs.declared.FaultAt.{FaultAt}
use Rattle.load_fields.specs.Fields.{Awaits, Takes, ReadIn}
use Rattle.load_fields.proofs.Heads.{Fine, head-fault, fault-of-head, fault-of-item}

pub record Stands (s : List ℕ) (at before : ℕ) (sets' ends' rows' reach' paths' spans' aims' numbers' : List ℕ) : Type 0 where
  pub so_far : Plan
  pub fair : Fair so_far
  pub up_to : UpTo so_far before
  pub memory : HoldsSized at so_far sets' ends' rows' reach' paths' spans' aims' numbers'
  pub within : at ≤ length s
  -- how many fields there can be
  pub fuel : ℕ
  pub enough : length s ≤ at + fuel
  pub same : read_file s ≡ read_from fuel s at before so_far

-- the size that memory names, stored anew
resized : (k n : ℕ) (p : Plan) {w : List ℕ} → w ≡ numbers_with k p → set w 5 n ≡ numbers_with n p
unfolding numbers_with
resized k n p h = rw h

-- c to j: the eight arrays, in their order
module _ {c d e f g h i j : List ℕ} where
  -- at the start of a file, with memory that holds no plan
  pub starts : (s : List ℕ) → Holds blank c d e f g h i j → Stands s 0 0 c d e f g h i j
  unfolding read_file written items blank flat_map
  starts s m = record {
    so_far = blank;
    fair = blank-fair;
    up_to = no_items (λ y. tag_for y ≤ 0);
    memory = m;
    within = omega arith;
    fuel = length s;
    enough = omega arith;
    same = refl;
  }

  module _ {s : List ℕ} {at before : ℕ} (w : Stands s at before c d e f g h i j) where
    -- at the end of the file memory has its plan
    pub ends_there : length s ≤ at → ReadIn s (Ok _) c d e f g h i j
    unfolding read_from
    ends_there l = record { within = _; faulty = _; whole = rw is reads; memory = rw is kept }
      where
        reads : read_file s ≡ plan w.so_far
        reads = w.same ∙ go w.fuel
          where
            go : (k : ℕ) → read_from k s at before w.so_far ≡ plan w.so_far
            go zero = refl
            go (suc k) = rw (le-leb (length s) at l, read_from)

        is : given s ≡ w.so_far
        is = given-plan s w.so_far reads

        kept : Holds w.so_far c d e f g h i j
        kept =
            let n : at ≡ length (written w.so_far) = omega (arith, w.within, file-length s w.so_far reads) in
            subst (λ (k : ℕ). HoldsSized k w.so_far c d e f g h i j) n w.memory

    -- a field with a fault ends the reading
    module _ (more : at < length s) where
      stops : field_fault w.so_far s at before ≢ 0 → read_file s ≡ fault (field_fault w.so_far s at before) at
      unfolding read_from
      stops z = w.same ∙ go w.fuel w.enough
        where
          go : (k : ℕ) → length s ≤ at + k → read_from k s at before w.so_far ≡ fault (field_fault w.so_far s at before) at
          go zero l = absurd (omega arith)
          go (suc k) l = rw (lt-leb (length s) at more, read_from, ne_eqb (field_fault w.so_far s at before) 0 z)

      -- what is answered then
      abbrev pub fault_here : Fault → FaultAt
      fault_here f = record { fault = f; at = at }

      answers : (f : Fault) → field_fault w.so_far s at before ≡ fault_number f → {c' d' e' f' g' h' i' j' : List ℕ} → ReadIn s (Err (fault_here f)) c' d' e' f' g' h' i' j'
      answers f is = record { within = w.within; faulty = rw is at (stops (λ y. some-fault f (sym is ∙ y))); whole = _; memory = _ }

      pub stops-at-head : (f : Fault) → faulty (fault_number f) ≡ head_of s at before → {c' d' e' f' g' h' i' j' : List ℕ} → ReadIn s (Err (fault_here f)) c' d' e' f' g' h' i' j'
      stops-at-head f head =
          let r = head-fault s at before (fault_number f) (sym head) in
          answers f (fault-of-head s at before w.so_far (λ y. r.1 (sym r.0 ∙ y)) ∙ r.0)

      module _ {tag size : ℕ} (good : Fine s at before tag size) where
        rises : before ≤ tag
        rises = omega (arith, good.tag_is, ltb-false (tag_at s at) before (neither (ltb (tag_at s at) before) (eqb (tag_at s at) before && comes_once (tag_at s at)) good.order).0)

        pub awaits : Awaits w.so_far tag
        unfolding comes_once tag_of tags find
        awaits = record {
          up_to = λ y m. omega (arith, w.up_to y m, rises);
          timings = λ is. no-timings w.so_far before w.up_to (follows-smaller 5 before (rw (sym good.tag_is ∙ is) at good.order));
          times = λ is. no-times w.so_far before w.up_to (follows-smaller 6 before (rw (sym good.tag_is ∙ is) at good.order));
        }

        module _ (x : Item) (item : item_at s at ≡ some x) where
          pub stops-at-item : (f : Fault) → fault_number f ≡ item_fault w.so_far x → {c' d' e' f' g' h' i' j' : List ℕ} → ReadIn s (Err (fault_here f)) c' d' e' f' g' h' i' j'
          stops-at-item f is = answers f (fault-of-item s at before w.so_far x good.clean item ∙ sym is)

          -- a field without one is passed
          pub passes : {c' d' e' f' g' h' i' j' : List ℕ} → Takes at w.so_far x 0 c' d' e' f' g' h' i' j'
              → Stands s (at + 3 + size) tag c' d' e' f' g' h' i' (set j' 5 (at + 3 + size))
          unfolding taken with_field read_from
          passes {c'} {d'} {e'} {f'} {g'} {h'} {i'} {j'} t = rw (good.tag_is, good.size_is) (go w.fuel w.enough w.same)
            where
              p : Plan
              p = w.so_far

              fine : item_fault p x ≡ 0
              fine = sym t.answer

              faultless : field_fault p s at before ≡ 0
              faultless = fault-of-item s at before p x good.clean item ∙ fine

              follows : Follows p before x
              follows = let r = holds p s at before faultless in rw (some-some (sym item ∙ r.is)) r.follows

              tag-of : tag_for x ≡ tag_at s at
              tag-of = tag-here s at x good.room good.fits item

              kept : taken p x ≡ grow p x
              kept = rw (eq-eqb (item_fault p x) 0 fine)

              grown : with_field p s at ≡ grow p x
              grown = rw (item, with_field)

              go : (k : ℕ) → length s ≤ at + k → read_file s ≡ read_from k s at before p → Stands s (next_at s at) (tag_at s at) c' d' e' f' g' h' i' (set j' 5 (next_at s at))
              go zero l y = absurd (omega arith)
              go (suc k) l y =
                  let m = rw kept at t.memory in
                  record {
                    so_far = grow p x;
                    fair = fair-grow p before x w.up_to follows w.fair;
                    up_to = rw tag-of at (up-grow p before x w.up_to follows);
                    memory = record { sets = m.sets; ends = m.ends; rows = m.rows; reach = m.reach; paths = m.paths; spans = m.spans; aims = m.aims; numbers = resized at (next_at s at) (grow p x) m.numbers };
                    within = good.room;
                    fuel = k;
                    enough = omega arith;
                    same = y ∙ rw (lt-leb (length s) at more, read_from, eq-eqb (field_fault p s at before) 0 faultless, grown);
                  }
