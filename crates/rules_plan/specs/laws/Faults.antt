-- The faults of fields: a number from 1 to 11, at a place within the file.
use Rattle.std.specs.Prelude.{◌≡◌, refl, ◌≢◌, List, [], ◌∷◌, ◌++◌, Bool, true, false, ℕ, zero, suc, ◌≤◌, ◌<◌, length, leb, eqb}
use Rattle.std.proofs.Common.{sym, ◌∙◌, arith, leb-true, leb-false}
use Rattle.std.proofs.Math.Option.{Option, none, some}
use Rattle.std.proofs.lemmas.Bool.{eqb-false}
use Rattle.lists.specs.Search.{all}
use Rattle.lists.specs.Rows.{Row, first_of}
use Rattle.lists.specs.laws.Bools.{both_true, cond_cases}
use Rattle.rules_plan.specs.Plan.{Plan, Item}
use Rattle.rules_plan.specs.Fields.{tag_at, next_at, item_at}
use Rattle.rules_plan.specs.Judge.{head_rows, item_rows, field_rows, field_fault, with_field, fault, read_from}
use Rattle.rules_plan.specs.laws.Reading.{not-plan}

-- a field's fault is 11 at most
rows-most : (m : ℕ) (rs : List Row) → all (λ (r : Row). leb r.0 m) rs ≡ true → first_of rs ≤ m
unfolding first_of all
rows-most m [] h = omega arith
rows-most m (r ∷ rs) h =
    let q = both_true (leb r.0 m) (all (λ (r : Row). leb r.0 m) rs) h in
    cond_cases (λ (n : ℕ). n ≤ m) r.1 r.0 (first_of rs) (λ _. leb-true r.0 m q.0) (λ _. rows-most m rs q.1)

fault-most : (p : Plan) (s : List ℕ) (at before : ℕ) → field_fault p s at before ≤ 11
unfolding field_fault field_rows head_rows item_rows all
fault-most p s at before = by (item_at s at)
  where
    by : (o : Option Item) → first_of (head_rows s at before ++ elim o [ none ↦ [] | some x ↦ item_rows p x ]) ≤ 11
    by none = rows-most 11 _ refl
    by (some x) = rows-most 11 _ refl

-- a fault that is read is a field's, within the file
pub read-fault : (k : ℕ) (s : List ℕ) (at before : ℕ) (p : Plan) (n off : ℕ) → read_from k s at before p ≡ fault n off → (0 < n) × (n < 13) × (off < length s)
unfolding read_from
read-fault zero s at before p n off h = not-plan (sym h)
read-fault (suc k) s at before p n off h = go (read-fault k s (next_at s at) (tag_at s at) (with_field p s at) n off) (leb (length s) at) refl (eqb (field_fault p s at before) 0) refl
  where
    go : (read_from k s (next_at s at) (tag_at s at) (with_field p s at) ≡ fault n off → (0 < n) × (n < 13) × (off < length s))
        → (x : Bool) → leb (length s) at ≡ x → (y : Bool) → eqb (field_fault p s at before) 0 ≡ y → (0 < n) × (n < 13) × (off < length s)
    go ih true e y f = not-plan (sym (rw (e, read_from) at h))
    go ih false e true f = ih (rw (e, f, read_from) at h)
    go ih false e false f =
        let g : fault (field_fault p s at before) at ≡ fault n off = rw (e, f, read_from) at h in
        let number : field_fault p s at before ≡ n = cc in
        let offset : at ≡ off = cc in
        let some : n ≢ 0 = λ z. eqb-false (field_fault p s at before) 0 f (number ∙ z) in
        let most = fault-most p s at before in
        let inside = leb-false (length s) at e in
        (omega arith, omega arith, omega arith)
