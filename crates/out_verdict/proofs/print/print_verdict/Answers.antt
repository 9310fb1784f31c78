-- `line::print::print_verdict` meets its contract: each case has the word and the numbers of its line. Assumes nothing.
use mathlib.Core.Path.{◌≡◌, ap}
use mathlib.Core.List.{List, flat_map, ◌++◌}
use Prim.Native.Nat.{ℕ, ◌≤◌}
use native.Mathlib.Omega.{arith}
use lib.ListN.{length, drop}
use Rattle.lists.specs.Stores.{Put}
use Rattle.lists.specs.laws.Stores.{put_front}
use Rattle.rules_plan.specs.declared.Verdict.{Verdict}
use Rattle.rules_plan.specs.Verdict.{place}
use Rattle.rules_plan.specs.Print.{text, numbers, words, line}
use Rattle.out_verdict.proofs.print.print_verdict.Goals as goal

-- What was put from the front of the buffer on is the line of v.
printed : {l ys o : List ℕ} {k : ℕ} (v : Verdict) → line v ≡ ys → Put l 0 ys o k × (k ≤ length l) → (k ≡ length (line v)) × (o ≡ line v ++ drop (length (line v)) l)
printed v e p = rw e (put_front p.0 (omega (arith, p.0.next)))

pub returns-in-Accepted : goal.returns-in-Accepted
unfolding text numbers words place line flat_map
returns-in-Accepted c = printed c.args.v (ap line c.in-Accepted.is) c.put_line.ensures

pub returns-in-Faulty : goal.returns-in-Faulty
unfolding text numbers words place line flat_map
returns-in-Faulty c = printed c.args.v (ap line c.in-Faulty.is) c.put_line-in-Faulty.ensures

pub returns-in-Overrun : goal.returns-in-Overrun
unfolding text numbers words place line flat_map
returns-in-Overrun c = printed c.args.v (ap line c.in-Overrun.is) c.put_line-in-Overrun.ensures

pub returns-in-Clash : goal.returns-in-Clash
unfolding text numbers words place line flat_map
returns-in-Clash c = printed c.args.v (ap line c.in-Clash.is) c.put_line-in-Clash.ensures
