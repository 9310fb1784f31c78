-- What the search through the rows tells of the row of an initiator.
use Rattle.std.specs.Prelude.{◌≡◌, refl, List, Bool, true, false, ℕ, ◌≤◌, ◌<◌, min, length}
use Rattle.std.proofs.Common.{sym, ◌∙◌, arith}
use Rattle.std.proofs.Math.Decide.{dec_lt}
use Rattle.rules_plan.specs.Plan.{nth, Plan}
use Rattle.rules_plan.specs.Meaning.{is_initiator, initiators}
use Rattle.rules_plan.specs.laws.Sound.{Sound}
use Rattle.memory_plan.specs.Memory.{rows_of, numbers_with}
use Rattle.memory_plan.specs.laws.Among.{is_row, first-behind, first-among, row-place, row-none}
use Rattle.lists.specs.Numbers.{first_from}
use Rattle.memory_plan.specs.View.{row_for}
use Rattle.memory_plan.specs.laws.Rows.{row-for-at, row-for-none}

pub counted : (size : ℕ) (p : Plan) (numbers : List ℕ) → numbers ≡ numbers_with size p → nth numbers 2 ≡ length (initiators p)
unfolding numbers_with
counted size p numbers is = rw is

-- what the search through all eight rows tells: behind the rows that are in use it finds nothing
module _ (p : Plan) (ok : Sound p) (size : ℕ) (rows numbers : List ℕ) (rs : rows ≡ rows_of p) (ns : numbers ≡ numbers_with size p) (i r : ℕ) (found : r ≡ first_from 8 0 (is_row rows i)) where
  abbrev most : ℕ
  most = min (nth numbers 2) 8

  few : most ≤ 8
  few = omega arith

  all : nth numbers 2 ≡ length (initiators p)
  all = counted size p numbers ns

  pub row_told : r < nth numbers 2 → r ≡ row_for p i
  row_told h =
      let among = found ∙ first-among (is_row rows i) most 8 few (omega (arith, found, all, ok.eight)) in
      sym (row-for-at p r i (row-place p ok.eight rows rs (nth numbers 2) all i r among h))

  behind : nth numbers 2 ≤ r → most ≡ first_from most 0 (is_row rows i)
  behind h = go (dec_lt most (first_from 8 0 (is_row rows i)))
    where
      go : Dec (most < first_from 8 0 (is_row rows i)) → most ≡ first_from most 0 (is_row rows i)
      go (yes l) = first-behind (is_row rows i) most 8 few l
      go (no l) = let same = first-among (is_row rows i) most 8 few (omega arith) in omega (arith, same, found, all, ok.eight)

  pub none_told : nth numbers 2 ≤ r → 8 ≡ row_for p i
  none_told h = sym ((row-for-none p ok i).1 (go (is_initiator p i) refl))
    where
      go : (b : Bool) → is_initiator p i ≡ b → b ≡ false
      go true e = sym e ∙ row-none p ok.eight rows rs (nth numbers 2) all i most (behind h) (ok.small i e) (omega (arith, all, ok.eight))
      go false e = refl

  pub none-behind : 8 ≤ r → 8 ≡ row_for p i
  none-behind h = none_told (omega (arith, all, ok.eight))
