-- How long the numbers of an answer line are.
use mathlib.Core.List.{List, [], ◌∷◌, flat_map}
use Rattle.std.specs.Prelude.{ℕ, ◌*◌, ◌≤◌, length}
use Rattle.std.proofs.Common.{arith, length-append}
use Rattle.bytes_put.specs.laws.Decimal.{decimal-most}
use Rattle.rules_plan.specs.Print.{decimal, spaced, numbers}
use Rattle.script_words.specs.Lines.{in_row}

-- a number has at most twenty digits, and a space goes with it
pub numbers-most : (ns : List ℕ) → length (numbers ns) ≤ 21 * length ns
unfolding numbers spaced flat_map
numbers-most [] = omega arith
numbers-most (n ∷ ns) = rw (length-append (decimal n) (numbers ns)) (omega (arith, numbers-most ns, decimal-most n))

pub row-most : (ns : List ℕ) → length (in_row ns) ≤ 21 * length ns
unfolding in_row
row-most [] = omega arith
row-most (n ∷ ns) = rw (length-append (decimal n) (numbers ns)) (omega (arith, numbers-most ns, decimal-most n))
