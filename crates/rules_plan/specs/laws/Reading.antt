-- A file is read without a fault exactly when it is a chain of items written out.
use Rattle.std.specs.Prelude.{◌≡◌, refl, Bool, true, ◌||◌, ℕ, zero, suc, ◌+◌, ◌≤◌, drop, leb, eqb}
use Rattle.std.proofs.Common.{ap, ◌∙◌, arith, length-append, length-drop, drop_of_length-le}
use mathlib.Core.List.{List, [], ◌∷◌, ◌++◌, flat_map}
use Rattle.std.proofs.Math.Option.{some}
use Rattle.std.proofs.Math.Bool.{false}
use Rattle.std.proofs.Math.ListN.{length}
use Rattle.std.proofs.Math.Dec.{ltb}
use borrow.Author.Tests.{ltb-false, le-ltb, leb-true, le-leb, lt-leb, eqb-true, eq-eqb, not-false}
use Rattle.lists.specs.Rows.{first_of, test_of}
use Rattle.lists.specs.laws.Bools.{neither, false-either}
use Rattle.rules_plan.specs.Plan.{Plan, Item, grow}
use Rattle.rules_plan.specs.Fields.{length_allowed, tag_for, field_for, tag_at, size_at, next_at, item_at}
use Rattle.rules_plan.specs.Judge.{item_rows, head_rows, field_rows, field_fault, with_field, plan, fault, read_from}
use Rattle.rules_plan.specs.Good.{Bytes}
use Rattle.rules_plan.specs.laws.FieldRows.{no_rows}
use Rattle.rules_plan.specs.laws.Tags.{item-of, item-tag}
use Rattle.rules_plan.specs.laws.Fields.{field-length, tag_back, size_back, item_back, rest_back, room_back, tag-here, size-here, field-here}
use Rattle.rules_plan.specs.laws.Chain.{passed, Follows, Chain, end, next}

-- a field without a fault holds an item that may follow
pub record Holds (p : Plan) (s : List ℕ) (at before : ℕ) : Type 0 where
  pub item : Item
  pub is : item_at s at ≡ some item
  pub room : next_at s at ≤ length s
  pub fits : length_allowed (tag_at s at) (size_at s at) ≡ true
  pub follows : Follows p before item

module _ (p : Plan) (s : List ℕ) (at before : ℕ) where
  module _ (h : field_fault p s at before ≡ 0) where
    fails : (n : ℕ) → test_of n (field_rows p s at before) ≡ false
    fails = (no_rows p s at before).0 h

    has-item : (x : Item) × (item_at s at ≡ some x)
    unfolding head_rows field_rows test_of item_at
    has-item = item-of (tag_at s at) _ (not-false _ (fails 3))

    pub holds : Holds p s at before
    unfolding head_rows field_rows item_rows test_of
    holds = go has-item.0 has-item.1
      where
        room : next_at s at ≤ length s
        room = ltb-false (length s) (next_at s at) (neither (ltb (length s) (at + 3)) (ltb (length s) (next_at s at)) (fails 2)).1

        fits : length_allowed (tag_at s at) (size_at s at) ≡ true
        fits = not-false _ (fails 5)

        go : (x : Item) → item_at s at ≡ some x → Holds p s at before
        go x e = record {
          item = x;
          is = e;
          room = room;
          fits = fits;
          follows = record {
            order = rw (tag-here s at x room fits e) (fails 4);
            size = rw (tag-here s at x room fits e, size-here s at x room fits e) fits;
            passes = record {
              range = rw e at (fails 6);
              new = rw e at (fails 7);
              known = rw e at (fails 8);
              few = rw e at (fails 9);
              walk = rw e at (fails 10);
              reached = rw e at (fails 11);
            };
          };
        }

-- a reading that came to its end: the chain of the items read, and the bytes they were read from
pub record ReadOut (s : List ℕ) (at : ℕ) (p : Plan) (before : ℕ) (q : Plan) : Type 0 where
  pub list : List Item
  pub last : ℕ
  pub chain : Chain p before list q last
  pub size : length s ≡ at + length (flat_map field_for list)
  pub bytes : Bytes s → drop at s ≡ flat_map field_for list

-- a fault is no plan
pub not-plan : {A : Type 0} {n at : ℕ} {q : Plan} → fault n at ≡ plan q → A
not-plan h = let z : ◌≡◌ {A = ℕ} 0 1 = cc in absurd (omega arith)

at-end : (s : List ℕ) (at : ℕ) (p : Plan) (before : ℕ) (q : Plan) → at ≤ length s → length s ≤ at → plan p ≡ plan q → ReadOut s at p before q
unfolding flat_map
at-end s at p before q l m h =
    let e : p ≡ q = cc in
    record { list = []; last = before; chain = rw e end; size = omega arith; bytes = λ b. drop_of_length-le s m }

one_more : (s : List ℕ) (at : ℕ) (p : Plan) (before : ℕ) (q : Plan) (f : Holds p s at before) → ReadOut s (next_at s at) (with_field p s at) (tag_at s at) q → ReadOut s at p before q
unfolding flat_map with_field
one_more s at p before q f r = record {
  list = f.item ∷ r.list;
  last = r.last;
  chain = next f.follows (rw (f.is, with_field, ← tag) at r.chain);
  size = rw length-append (omega (arith, r.size, field-length f.item, size-here s at f.item f.room f.fits f.is));
  bytes = λ b. field-here s at f.item f.room f.fits f.is b ∙ ap (◌++◌ (field_for f.item)) (r.bytes b);
}
  where
    tag : tag_for f.item ≡ tag_at s at
    tag = tag-here s at f.item f.room f.fits f.is

pub read_out : (k : ℕ) (s : List ℕ) (at before : ℕ) (p q : Plan) → at ≤ length s → length s ≤ at + k → read_from k s at before p ≡ plan q → ReadOut s at p before q
unfolding read_from
read_out zero s at before p q l m h = at-end s at p before q l (omega arith) h
read_out (suc k) s at before p q l m h = go (read_out k s (next_at s at) (tag_at s at) (with_field p s at) q) (leb (length s) at) refl (eqb (field_fault p s at before) 0) refl
  where
    go : (next_at s at ≤ length s → length s ≤ next_at s at + k → read_from k s (next_at s at) (tag_at s at) (with_field p s at) ≡ plan q → ReadOut s (next_at s at) (with_field p s at) (tag_at s at) q)
        → (x : Bool) → leb (length s) at ≡ x → (y : Bool) → eqb (field_fault p s at before) 0 ≡ y → ReadOut s at p before q
    go ih true e y f = at-end s at p before q l (leb-true (length s) at e) (rw (e, read_from) at h)
    go ih false e true f =
        let fine = holds p s at before (eqb-true (field_fault p s at before) 0 f) in
        one_more s at p before q fine (ih fine.room (omega arith) (rw (e, f, read_from) at h))
    go ih false e false f = not-plan (rw (e, f, read_from) at h)

-- an item that may follow, written at an offset: the field there has no fault, and grows the plan by the item
module _ (p : Plan) (s : List ℕ) (at before : ℕ) (x : Item) (rest : List ℕ) (f : Follows p before x) (here : drop at s ≡ field_for x ++ rest) where
  no-fault : field_fault p s at before ≡ 0
  unfolding field_fault head_rows field_rows first_of
  no-fault =
      let room : next_at s at ≤ length s = room_back s at x rest here in
      let cut : ltb (length s) (at + 3) || ltb (length s) (next_at s at) ≡ false = false-either (le-ltb (length s) (at + 3) (omega arith)) (le-ltb (length s) (next_at s at) room) in
      rw (cut, tag_back s at x rest here, item-tag x, f.order, size_back s at x rest here, f.size, item_back s at x rest here f.passes.range) (passed p x f.passes)

  grown : with_field p s at ≡ grow p x
  unfolding with_field
  grown = rw (item_back s at x rest here f.passes.range, with_field)

-- a chain of items written out is read, and gives the chain's plan
pub read-chain : (k : ℕ) (s : List ℕ) (at : ℕ) (p : Plan) (before : ℕ) (xs : List Item) (q : Plan) (last : ℕ) → Chain p before xs q last → drop at s ≡ flat_map field_for xs → length s ≤ at + k → read_from k s at before p ≡ plan q
unfolding read_from flat_map
read-chain zero s at p before [] q last end e m = refl
read-chain (suc k) s at p before [] q last end e m = rw (le-leb (length s) at (omega (arith, simp length-drop at (ap length e))), read_from)
read-chain zero s at p before (x ∷ xs) q last (next f c) e m = absurd (omega (arith, room_back s at x (flat_map field_for xs) e))
read-chain (suc k) s at p before (x ∷ xs) q last (next f c) e m =
    let rest = flat_map field_for xs in
    let room : next_at s at ≤ length s = room_back s at x rest e in
    let ih = read-chain k s (next_at s at) (grow p x) (tag_for x) xs q last c (rest_back s at x rest e) (omega arith) in
    rw (lt-leb (length s) at (omega arith), read_from, eq-eqb (field_fault p s at before) 0 (no-fault p s at before x rest f e), grown p s at before x rest f e, tag_back s at x rest e) ih
