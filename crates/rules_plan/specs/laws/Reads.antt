-- A good plan written out is read back: the file is accepted, with the counts of the plan, and gives the plan.
use Rattle.std.specs.Prelude.{◌≡◌, length}
use Rattle.std.proofs.Math.Path.{refl}
use Rattle.std.proofs.Common.{arith}
use Rattle.lists.specs.laws.Count.{some-counted}
use Rattle.rules_plan.specs.Plan.{Plan, blank}
use Rattle.rules_plan.specs.Verdict.{number}
use Rattle.rules_plan.specs.Judge.{plan, read_file, counts, judge}
use Rattle.rules_plan.specs.Canon.{items, written, given}
use Rattle.rules_plan.specs.Good.{Good}
use Rattle.rules_plan.specs.laws.Reading.{read-chain}
use Rattle.rules_plan.specs.laws.Ordered.{good-chain}
use Rattle.rules_plan.specs.laws.Whole.{Clean, given-plan, clean-counts}

module _ (p : Plan) (good : Good p) where
  pub reads-back : read_file (written p) ≡ plan p
  unfolding read_file written
  reads-back = let (last, c) = good-chain p good in read-chain (length (written p)) (written p) 0 blank 0 (items p) p last c refl (omega arith)

  pub given_back : given (written p) ≡ p
  given_back = given-plan (written p) p reads-back

  pub good-clean : Clean (written p) p
  good-clean = record {
    short = good.short;
    reads = reads-back;
    complete = record {
      timing = (some-counted p.timings).1 (omega (arith, good.timing));
      entry = (some-counted p.entries).1 (omega (arith, good.some-entry));
    };
    no-overrun = good.no-overrun;
    no-clash = good.no-clash;
  }

  pub judge-back : judge (written p) ≡ counts p
  judge-back = clean-counts (written p) p good-clean

  pub good-accepted : number (judge (written p)) ≡ 0
  unfolding counts number
  good-accepted = rw judge-back
