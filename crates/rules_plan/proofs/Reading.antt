-- The fields front to back: what `read_file` computes is what the words say, the first field with a fault or the plan of all fields.
use mathlib.Core.Path.{◌≡◌, refl, sym, ap, ◌∙◌}
use mathlib.Core.Logic.{◌↔◌}
use mathlib.Core.List.{List}
use Prim.Native.Nat.{ℕ, zero, suc, ◌+◌, ◌≤◌, ◌<◌}
use native.Mathlib.Omega.{arith}
use native.Mathlib.Decide.{ℕ_discrete, dec_lt}
use lib.ListN.{length}
use borrow.Author.Tests.{le-leb, lt-leb, eq-eqb, ne_eqb}
use Rattle.rules_plan.specs.Plan.{Plan, blank}
use Rattle.rules_plan.specs.Fields.{tag_at, next_at, tag_for}
use Rattle.rules_plan.specs.Judge.{field_fault, with_field, Reading, plan, fault, read_from, read_file}
use Rattle.rules_plan.specs.Words.{Faultless, Fault, ReadTo, start, next}
use Rattle.rules_plan.specs.laws.Items.{UpTo}
use Rattle.rules_plan.specs.laws.Fair.{Fair, fair-grow, up-grow, no_items, blank-fair}
use Rattle.rules_plan.specs.laws.Fields.{tag-here}
use Rattle.rules_plan.specs.laws.Reading.{holds}
use Rattle.rules_plan.proofs.Faults.{faultless, has-fault}

-- the field at an offset, after a field with the tag before and the plan p; the reading from here: at the end of the file, past a
-- faultless field, at a fault
module _ (p : Plan) (s : List ℕ) (at before : ℕ) where
  read-end : (k : ℕ) → length s ≤ at → read_from k s at before p ≡ plan p
  unfolding read_from
  read-end zero h = refl
  read-end (suc k) h = rw (le-leb (length s) at h, read_from)

  module _ (fair : Fair p) where
    read_past : (k : ℕ) → at < length s → Faultless p s at before → read_from (suc k) s at before p ≡ read_from k s (next_at s at) (tag_at s at) (with_field p s at)
    unfolding read_from
    read_past k h f = rw (lt-leb (length s) at h, eq-eqb (field_fault p s at before) 0 ((faultless p fair s at before).1 f), read_from)

    read-fault : (k n : ℕ) → at < length s → Fault p s at before n → read_from (suc k) s at before p ≡ fault n at
    unfolding read_from
    read-fault k n h f =
        let (e, z) = (has-fault p fair s at before n).1 f in
        rw (lt-leb (length s) at h, ne_eqb (field_fault p s at before) 0 (λ y. z (sym e ∙ y)), read_from) (ap (λ (m : ℕ). fault m at) e)

-- what is so wherever a file is read to: the offset is no place beyond the file, and the plan is fair
record FairTo (s : List ℕ) (at before : ℕ) (p : Plan) : Type 0 where
  within : at ≤ length s
  fair : Fair p
  up : UpTo p before

fair-next : (s : List ℕ) (at before : ℕ) (p : Plan) → FairTo s at before p → Faultless p s at before → FairTo s (next_at s at) (tag_at s at) (with_field p s at)
unfolding with_field
fair-next s at before p c f =
    let h = holds p s at before ((faultless p c.fair s at before).1 f) in
    let x = h.item in
    let tag : tag_for x ≡ tag_at s at = tag-here s at x h.room h.fits h.is in
    rw (h.is, with_field, ← tag) (record { within = h.room; fair = fair-grow p before x c.up h.follows c.fair; up = up-grow p before x c.up h.follows })

fair-to : {s : List ℕ} {at before : ℕ} {p : Plan} → ReadTo s at before p → FairTo s at before p
fair-to start = record { within = omega arith; fair = blank-fair; up = no_items (λ y. tag_for y ≤ 0) }
fair-to {s} (next {at} {before} {p} r l f) = fair-next s at before p (fair-to r) f

-- what a reading says: the first faulty field; or all fields, and the plan that they make
pub record FaultAt (s : List ℕ) (n at : ℕ) : Type 0 where
  pub before : ℕ
  pub plan : Plan
  pub read : ReadTo s at before plan
  pub inside : at < length s
  pub number : Fault plan s at before n

pub record AllFields (s : List ℕ) (p : Plan) : Type 0 where
  pub before : ℕ
  pub read : ReadTo s (length s) before p

abbrev pub Says : List ℕ → Reading → Type 0
Says s (plan p) = AllFields s p
Says s (fault n at) = FaultAt s n at

-- with fuel for the rest of the file, the reading from an offset that the file is read to says what is so
reads_end : (k : ℕ) (s : List ℕ) (at before : ℕ) (p : Plan) → ReadTo s at before p → length s ≤ at → Says s (read_from k s at before p)
reads_end k s at before p r h =
    let e : at ≡ length s = omega (arith, (fair-to r).within) in
    rw (read-end p s at before k h) (record { before = before; read = rw e at r })

reads : (k : ℕ) (s : List ℕ) (at before : ℕ) (p : Plan) → ReadTo s at before p → length s ≤ at + k → Says s (read_from k s at before p)
reads zero s at before p r h = reads_end zero s at before p r (omega arith)
reads (suc k) s at before p r h = go (reads k s (next_at s at) (tag_at s at) (with_field p s at)) (dec_lt at (length s)) (ℕ_discrete (field_fault p s at before) 0)
  where
    go : (ReadTo s (next_at s at) (tag_at s at) (with_field p s at) → length s ≤ next_at s at + k → Says s (read_from k s (next_at s at) (tag_at s at) (with_field p s at)))
        → Dec (at < length s) → Dec (field_fault p s at before ≡ 0) → Says s (read_from (suc k) s at before p)
    go ih (no l) d = reads_end (suc k) s at before p r (omega arith)
    go ih (yes l) (yes e) =
        let f = (faultless p (fair-to r).fair s at before).0 e in
        rw (read_past p s at before (fair-to r).fair k l f) (ih (next r l f) (omega arith))
    go ih (yes l) (no e) =
        let f = (has-fault p (fair-to r).fair s at before _).0 (refl, e) in
        rw (read-fault p s at before (fair-to r).fair k _ l f) (record { before = before; plan = p; read = r; inside = l; number = f })

-- the reading of the whole file is the reading from each offset that it is read to
record From (s : List ℕ) (at before : ℕ) (p : Plan) : Type 0 where
  fuel : ℕ
  enough : length s ≤ at + fuel
  same : read_file s ≡ read_from fuel s at before p

-- before the end there is fuel for one field more
fuelled : {s : List ℕ} {at before : ℕ} {p : Plan} → From s at before p → at < length s → (k : ℕ) × (length s ≤ at + suc k) × (read_file s ≡ read_from (suc k) s at before p)
fuelled {s} {at} {before} {p} x l = go x.fuel x.enough x.same
  where
    go : (k : ℕ) → length s ≤ at + k → read_file s ≡ read_from k s at before p → (k : ℕ) × (length s ≤ at + suc k) × (read_file s ≡ read_from (suc k) s at before p)
    go zero h e = absurd (omega arith)
    go (suc k) h e = (k, h, e)

read-from : {s : List ℕ} {at before : ℕ} {p : Plan} → ReadTo s at before p → From s at before p
unfolding read_file
read-from {s} start = record { fuel = length s; enough = omega arith; same = refl }
read-from {s} (next {at} {before} {p} r l f) =
    let (k, h, e) = fuelled (read-from r) l in
    record { fuel = k; enough = omega arith; same = e ∙ read_past p s at before (fair-to r).fair k l f }

-- The reading of a file is what the words say of it, and there is no other.
pub file-says : (s : List ℕ) (r : Reading) → (read_file s ≡ r) ↔ Says s r
unfolding read_file
file-says s r = (λ e. rw e at (reads (length s) s 0 0 blank start (omega arith)), back r)
  where
    back : (r : Reading) → Says s r → read_file s ≡ r
    back (plan p) h = let x = read-from h.read in x.same ∙ read-end p s (length s) h.before x.fuel (omega arith)
    back (fault n at) h =
        let (k, l, e) = fuelled (read-from h.read) h.inside in
        e ∙ read-fault h.plan s at h.before (fair-to h.read).fair k n h.inside h.number
