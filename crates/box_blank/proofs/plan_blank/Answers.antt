-- `plan_blank` meets its contract: memory without a plan is all 0. Assumes nothing.
use mathlib.Core.Path.{◌≡◌, refl}
use mathlib.Core.Logic.{◌↔◌}
use mathlib.Core.Bool.{true}
use Rattle.lists.specs.laws.Answers.{and_asked, and_not_asked, decides}
use Rattle.box_blank.proofs.Zeros.{Zeros, zeros_of, holds-zeros}
use Rattle.box_blank.proofs.plan_blank.Goals as goal
use Rattle.box_blank.proofs.plan_blank.Goals.{then-zero, else-zero, then-zero-2, else-zero-2, then-zero-3, else-zero-3, then-zero-4, else-zero-4, then-zero-5, else-zero-5, then-zero-6, else-zero-6}

pub returns-then-zero-7 : goal.returns-then-zero-7
returns-then-zero-7 c =
    let a = c.args in
    let sets = zeros_of 3 c.told-sets c.zero.ensures in
    let upto_ends : (c.if-zero.value ≡ true) ↔ (Zeros 3 a.sets.now × Zeros 128 a.ends.now) = elim c.if-zero.branch [
      | then-zero w ↦ and_asked sets w.if-zero.true w.value-is (zeros_of 128 c.told-ends w.zero-then-zero.ensures)
      | else-zero w ↦ and_not_asked sets w.if-zero.false w.value-is
    ] in
    let upto_rows : (c.if-zero-2.value ≡ true) ↔ ((Zeros 3 a.sets.now × Zeros 128 a.ends.now) × Zeros 8 a.rows.now) = elim c.if-zero-2.branch [
      | then-zero-2 w ↦ and_asked upto_ends w.if-zero-2.true w.value-is (zeros_of 8 c.told-rows w.zero-then-zero-2.ensures)
      | else-zero-2 w ↦ and_not_asked upto_ends w.if-zero-2.false w.value-is
    ] in
    let upto_reach : (c.if-zero-3.value ≡ true) ↔ (((Zeros 3 a.sets.now × Zeros 128 a.ends.now) × Zeros 8 a.rows.now) × Zeros 8 a.reach.now) = elim c.if-zero-3.branch [
      | then-zero-3 w ↦ and_asked upto_rows w.if-zero-3.true w.value-is (zeros_of 8 c.told-reach w.zero-then-zero-3.ensures)
      | else-zero-3 w ↦ and_not_asked upto_rows w.if-zero-3.false w.value-is
    ] in
    let upto_paths : (c.if-zero-4.value ≡ true) ↔ ((((Zeros 3 a.sets.now × Zeros 128 a.ends.now) × Zeros 8 a.rows.now) × Zeros 8 a.reach.now) × Zeros 2816 a.paths.now) = elim c.if-zero-4.branch [
      | then-zero-4 w ↦ and_asked upto_reach w.if-zero-4.true w.value-is (zeros_of 2816 c.told-paths w.zero-then-zero-4.ensures)
      | else-zero-4 w ↦ and_not_asked upto_reach w.if-zero-4.false w.value-is
    ] in
    let upto_spans : (c.if-zero-5.value ≡ true) ↔ (((((Zeros 3 a.sets.now × Zeros 128 a.ends.now) × Zeros 8 a.rows.now) × Zeros 8 a.reach.now) × Zeros 2816 a.paths.now) × Zeros 512 a.spans.now) = elim c.if-zero-5.branch [
      | then-zero-5 w ↦ and_asked upto_paths w.if-zero-5.true w.value-is (zeros_of 512 c.told-spans w.zero-then-zero-5.ensures)
      | else-zero-5 w ↦ and_not_asked upto_paths w.if-zero-5.false w.value-is
    ] in
    let upto_aims : (c.if-zero-6.value ≡ true) ↔ ((((((Zeros 3 a.sets.now × Zeros 128 a.ends.now) × Zeros 8 a.rows.now) × Zeros 8 a.reach.now) × Zeros 2816 a.paths.now) × Zeros 512 a.spans.now) × Zeros 1152 a.aims.now) = elim c.if-zero-6.branch [
      | then-zero-6 w ↦ and_asked upto_spans w.if-zero-6.true w.value-is (zeros_of 1152 c.told-aims w.zero-then-zero-6.ensures)
      | else-zero-6 w ↦ and_not_asked upto_spans w.if-zero-6.false w.value-is
    ] in
    decides (and_asked upto_aims c.if-zero-7.true refl (zeros_of 524 c.told-numbers c.zero-then-zero-7.ensures)) holds-zeros.0 holds-zeros.1

pub returns-else-zero-7 : goal.returns-else-zero-7
returns-else-zero-7 c =
    let a = c.args in
    let sets = zeros_of 3 c.told-sets c.zero.ensures in
    let upto_ends : (c.if-zero.value ≡ true) ↔ (Zeros 3 a.sets.now × Zeros 128 a.ends.now) = elim c.if-zero.branch [
      | then-zero w ↦ and_asked sets w.if-zero.true w.value-is (zeros_of 128 c.told-ends w.zero-then-zero.ensures)
      | else-zero w ↦ and_not_asked sets w.if-zero.false w.value-is
    ] in
    let upto_rows : (c.if-zero-2.value ≡ true) ↔ ((Zeros 3 a.sets.now × Zeros 128 a.ends.now) × Zeros 8 a.rows.now) = elim c.if-zero-2.branch [
      | then-zero-2 w ↦ and_asked upto_ends w.if-zero-2.true w.value-is (zeros_of 8 c.told-rows w.zero-then-zero-2.ensures)
      | else-zero-2 w ↦ and_not_asked upto_ends w.if-zero-2.false w.value-is
    ] in
    let upto_reach : (c.if-zero-3.value ≡ true) ↔ (((Zeros 3 a.sets.now × Zeros 128 a.ends.now) × Zeros 8 a.rows.now) × Zeros 8 a.reach.now) = elim c.if-zero-3.branch [
      | then-zero-3 w ↦ and_asked upto_rows w.if-zero-3.true w.value-is (zeros_of 8 c.told-reach w.zero-then-zero-3.ensures)
      | else-zero-3 w ↦ and_not_asked upto_rows w.if-zero-3.false w.value-is
    ] in
    let upto_paths : (c.if-zero-4.value ≡ true) ↔ ((((Zeros 3 a.sets.now × Zeros 128 a.ends.now) × Zeros 8 a.rows.now) × Zeros 8 a.reach.now) × Zeros 2816 a.paths.now) = elim c.if-zero-4.branch [
      | then-zero-4 w ↦ and_asked upto_reach w.if-zero-4.true w.value-is (zeros_of 2816 c.told-paths w.zero-then-zero-4.ensures)
      | else-zero-4 w ↦ and_not_asked upto_reach w.if-zero-4.false w.value-is
    ] in
    let upto_spans : (c.if-zero-5.value ≡ true) ↔ (((((Zeros 3 a.sets.now × Zeros 128 a.ends.now) × Zeros 8 a.rows.now) × Zeros 8 a.reach.now) × Zeros 2816 a.paths.now) × Zeros 512 a.spans.now) = elim c.if-zero-5.branch [
      | then-zero-5 w ↦ and_asked upto_paths w.if-zero-5.true w.value-is (zeros_of 512 c.told-spans w.zero-then-zero-5.ensures)
      | else-zero-5 w ↦ and_not_asked upto_paths w.if-zero-5.false w.value-is
    ] in
    let upto_aims : (c.if-zero-6.value ≡ true) ↔ ((((((Zeros 3 a.sets.now × Zeros 128 a.ends.now) × Zeros 8 a.rows.now) × Zeros 8 a.reach.now) × Zeros 2816 a.paths.now) × Zeros 512 a.spans.now) × Zeros 1152 a.aims.now) = elim c.if-zero-6.branch [
      | then-zero-6 w ↦ and_asked upto_spans w.if-zero-6.true w.value-is (zeros_of 1152 c.told-aims w.zero-then-zero-6.ensures)
      | else-zero-6 w ↦ and_not_asked upto_spans w.if-zero-6.false w.value-is
    ] in
    decides (and_not_asked upto_aims c.if-zero-7.false refl) holds-zeros.0 holds-zeros.1
