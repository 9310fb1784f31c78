-- The verdict on an item, row by row, with the plan afterwards: the plan itself where a row holds, and the plan with the item where
-- none does.
use Rattle.std.specs.Prelude.{◌≡◌, List, true, ℕ, suc}
use Rattle.std.proofs.Math.Path.{sym}
use Rattle.std.proofs.Common.{ap, ◌∙◌, arith}
use Rattle.std.proofs.Math.Bool.{false}
use Rattle.std.proofs.Math.Dec.{eqb}
use borrow.Author.Tests.{ne_eqb}
use Rattle.lists.specs.Rows.{first_of}
use Rattle.rules_plan.specs.Plan.{Plan, Item, grow}
use Rattle.rules_plan.specs.Judge.{out_of_range, given_before, not_given, too_many, no_walk, no_path, item_rows}
use Rattle.memory_plan.specs.Take.{item_fault, taken}

-- n is the verdict, and q the plan afterwards
pub record Judged (p : Plan) (x : Item) (n : ℕ) (q : Plan) : Type 0 where
  pub fault : n ≡ item_fault p x
  pub plan : q ≡ taken p x

-- an array that holds the plan afterwards
pub holds-taken : (f : Plan → List ℕ) {p : Plan} {x : Item} {n : ℕ} {q : Plan} → Judged p x n q → (a : List ℕ) → a ≡ f q → a ≡ f (taken p x)
holds-taken f j a e = e ∙ ap f j.plan

module _ (p : Plan) (x : Item) where
  refused : (n : ℕ) → item_fault p x ≡ suc n → Judged p x (suc n) p
  unfolding taken
  refused n e = let z : eqb (item_fault p x) 0 ≡ false = ne_eqb (item_fault p x) 0 (λ f. omega arith) in record { fault = sym e; plan = rw z }

  pub judged-6 : out_of_range x ≡ true → Judged p x 6 p
  unfolding item_fault item_rows first_of
  judged-6 e = refused 5 (rw e)

  module _ (r : out_of_range x ≡ false) where
    pub judged-7 : given_before p x ≡ true → Judged p x 7 p
    unfolding item_fault item_rows first_of
    judged-7 e = refused 6 (rw (r, e))

    module _ (g : given_before p x ≡ false) where
      pub judged-8 : not_given p x ≡ true → Judged p x 8 p
      unfolding item_fault item_rows first_of
      judged-8 e = refused 7 (rw (r, g, e))

      module _ (k : not_given p x ≡ false) where
        pub judged-9 : too_many p x ≡ true → Judged p x 9 p
        unfolding item_fault item_rows first_of
        judged-9 e = refused 8 (rw (r, g, k, e))

        module _ (m : too_many p x ≡ false) where
          pub judged-10 : no_walk p x ≡ true → Judged p x 10 p
          unfolding item_fault item_rows first_of
          judged-10 e = refused 9 (rw (r, g, k, m, e))

          module _ (w : no_walk p x ≡ false) where
            pub judged-11 : no_path p x ≡ true → Judged p x 11 p
            unfolding item_fault item_rows first_of
            judged-11 e = refused 10 (rw (r, g, k, m, w, e))

            pub judged-0 : no_path p x ≡ false → Judged p x 0 (grow p x)
            unfolding item_fault taken item_rows first_of
            judged-0 e = let z : item_fault p x ≡ 0 = rw (r, g, k, m, w, e) in record { fault = sym z; plan = rw (z, taken) }
