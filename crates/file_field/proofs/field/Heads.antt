-- The head of a field by the tests of its four rows: what each way out of the reader cites. Assumes nothing.
use mathlib.Core.Path.{◌≡◌, refl, sym, ap}
use mathlib.Core.List.{List, [], ◌∷◌}
use mathlib.Core.Bool.{Bool, true, false, not, ◌&&◌, ◌||◌}
use Prim.Native.Nat.{ℕ, ◌+◌, ◌≤◌, ◌<◌}
use native.Mathlib.Omega.{arith}
use lib.ListN.{length}
use lib.Dec.{ltb, eqb}
use borrow.Author.Tests.{lt-ltb, le-ltb, eq-eqb, ltb-true, eqb-true}
use Rattle.lists.specs.Rows.{first_of}
use Rattle.rules_plan.specs.Fields.{is_tag, comes_once, length_allowed, tag_at, size_at, next_at}
use Rattle.rules_plan.specs.Judge.{head_rows}
use Rattle.file_field.specs.Head.{HeadRead, field, faulty, head_fault, head_of}

-- what four tests give for a tag and a size
abbrev pub head_by : ℕ → ℕ → Bool → Bool → Bool → Bool → HeadRead
head_by tag size a b c d =
    let n = first_of ((2, a) ∷ (3, b) ∷ (4, c) ∷ (5, d) ∷ []) in
    elim (eqb n 0) [ true ↦ field tag size | false ↦ faulty n ]

-- the test of row 4, "tag below the one before, or a second 05"
abbrev pub out_of_order : ℕ → ℕ → Bool
out_of_order tag before = ltb tag before || eqb tag before && comes_once tag

-- of two ends of a file the second is enough
ends : (l m n : ℕ) → (ltb l m || ltb l (m + n)) ≡ ltb l (m + n)
ends l m n = go (ltb l m) refl
  where
    go : (b : Bool) → ltb l m ≡ b → (b || ltb l (m + n)) ≡ ltb l (m + n)
    go true e = sym (lt-ltb l (m + n) (omega (arith, ltb-true l m e)))
    go false e = refl

-- the head, from the outcomes of its four tests
pub head-by : (s : List ℕ) (at before : ℕ) {a b c d : Bool} → ltb (length s) (next_at s at) ≡ a → not (is_tag (tag_at s at)) ≡ b
    → out_of_order (tag_at s at) before ≡ c → not (length_allowed (tag_at s at) (size_at s at)) ≡ d
    → head_by (tag_at s at) (size_at s at) a b c d ≡ head_of s at before
unfolding head_rows head_fault head_of
head-by s at before e f g h =
    let tag = tag_at s at in
    let size = size_at s at in
    rw (← e, ← f, ← g, ← h)
    (ap (λ (b : Bool). head_by tag size b (not (is_tag tag)) (out_of_order tag before) (not (length_allowed tag size))) (sym (ends (length s) (at + 3) size)))

-- row 2: "under 3 bytes left for tag and length, or content runs past the end"
pub past_end : (s : List ℕ) (at before : ℕ) → length s < next_at s at → faulty 2 ≡ head_of s at before
unfolding first_of
past_end s at before h = head-by s at before (lt-ltb (length s) (next_at s at) h) refl refl refl

-- behind it the field lies in the file, and rows 3 to 5 are left
module _ (s : List ℕ) (at before : ℕ) (room : next_at s at ≤ length s) where
  rest : {a b c : Bool} → not (is_tag (tag_at s at)) ≡ a → out_of_order (tag_at s at) before ≡ b → not (length_allowed (tag_at s at) (size_at s at)) ≡ c
      → head_by (tag_at s at) (size_at s at) false a b c ≡ head_of s at before
  rest = head-by s at before (le-ltb (length s) (next_at s at) room)

  -- row 3
  pub unknown : is_tag (tag_at s at) ≡ false → faulty 3 ≡ head_of s at before
  unfolding first_of
  unknown h = rest (ap not h) refl refl

  module _ (known : is_tag (tag_at s at) ≡ true) where
    -- row 4
    pub wrong_order : out_of_order (tag_at s at) before ≡ true → faulty 4 ≡ head_of s at before
    unfolding first_of
    wrong_order h = rest (ap not known) h refl

    -- row 5, and none
    pub judged : out_of_order (tag_at s at) before ≡ false → (b : Bool) → length_allowed (tag_at s at) (size_at s at) ≡ b
        → head_by (tag_at s at) (size_at s at) false false false (not b) ≡ head_of s at before
    judged h b f = rest (ap not known) h (ap not f)

-- row 4 holds for a tag that falls and for one that comes again, and for no other
pub falls : (tag before : ℕ) → tag < before → out_of_order tag before ≡ true
falls tag before h = rw (lt-ltb tag before h)

pub comes-again : (tag before : ℕ) → tag ≡ before → comes_once tag ≡ true → out_of_order tag before ≡ true
comes-again tag before h e = rw (le-ltb tag before (omega arith), eq-eqb tag before h, e)

pub in_order_lem : (tag before : ℕ) → before ≤ tag → (tag ≡ before → comes_once tag ≡ false) → out_of_order tag before ≡ false
in_order_lem tag before h e = rw (le-ltb tag before h) (go (eqb tag before) refl)
  where
    go : (b : Bool) → eqb tag before ≡ b → (b && comes_once tag) ≡ false
    go true f = e (eqb-true tag before f)
    go false f = refl
