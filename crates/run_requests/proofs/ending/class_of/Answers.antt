-- `class_of` meets its contract: each range of the match is a case of the definition. Assumes nothing.
use mathlib.Core.Path.{◌≡◌}
use Prim.Native.Nat.{ℕ, ◌≤◌, ◌<◌}
use native.Mathlib.Omega.{arith}
use borrow.Author.Tests.{eq-eqb, ne_eqb, le-leb, lt-leb}
use Rattle.rules_box.specs.Turn.{class}
use Rattle.run_requests.proofs.ending.class_of.Goals as goal

low : (n : ℕ) → 0 < n → n ≤ 7 → 1 ≡ class n
unfolding class
low n a b = rw (ne_eqb n 0 (λ e. omega arith), le-leb n 7 b)

high : (n : ℕ) → 9 ≤ n → n ≤ 12 → 1 ≡ class n
unfolding class
high n a b = rw (ne_eqb n 0 (λ e. omega arith), lt-leb n 7 (omega arith), le-leb 9 n a, le-leb n 12 b)

eight : (n : ℕ) → 7 < n → n < 9 → 2 ≡ class n
unfolding class
eight n a b = rw (ne_eqb n 0 (λ e. omega arith), lt-leb n 7 a, lt-leb 9 n b)

top : (n : ℕ) → 12 < n → 2 ≡ class n
unfolding class
top n a = rw (ne_eqb n 0 (λ e. omega arith), lt-leb n 7 (omega arith), le-leb 9 n (omega arith), lt-leb n 12 a)

pub returns-in-0 : goal.returns-in-0
unfolding class
returns-in-0 c = rw (eq-eqb c.args.status 0 (omega arith))

pub returns-in_default : goal.returns-in_default
returns-in_default c = eight c.args.status (omega arith) (omega arith)

pub returns-in_default-2 : goal.returns-in_default-2
returns-in_default-2 c = top c.args.status (omega arith)

pub returns-in-1-to-7 : goal.returns-in-1-to-7
returns-in-1-to-7 c = low c.args.status (omega arith) (omega arith)

pub returns-in-1-to-7-2 : goal.returns-in-1-to-7-2
returns-in-1-to-7-2 c = high c.args.status (omega arith) (omega arith)
