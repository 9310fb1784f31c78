-- An accepted file gives a good plan, and is that plan written out in the file's order.
use Rattle.std.specs.Prelude.{◌≡◌, refl, List, [], ◌∷◌, ℕ, suc, length}
use Rattle.std.proofs.Common.{arith}
use Rattle.lists.specs.laws.Count.{some-counted}
use Rattle.rules_plan.specs.Plan.{Timing, Plan, blank}
use Rattle.rules_plan.specs.Verdict.{number}
use Rattle.rules_plan.specs.Judge.{plan, read_file, judge}
use Rattle.rules_plan.specs.Canon.{items, written, given}
use Rattle.rules_plan.specs.Good.{Bytes, Good}
use Rattle.rules_plan.specs.laws.Fair.{Fair, chain-whole}
use Rattle.rules_plan.specs.laws.Reading.{ReadOut, read_out}
use Rattle.rules_plan.specs.laws.Whole.{Clean, accepted-clean}

-- a file that is read to its end gives a fair plan
module _ (s : List ℕ) (p : Plan) (read : read_file s ≡ plan p) where
  read-items : ReadOut s 0 blank 0 p
  unfolding read_file
  read-items = read_out (length s) s 0 0 blank p (omega arith) (omega arith) read

  fair-items : Fair p × (items p ≡ read-items.list)
  fair-items = chain-whole read-items.list p read-items.last read-items.chain

  pub file-fair : Fair p
  file-fair = fair-items.0

  -- which has as many bytes written out as the file
  pub file-length : length s ≡ length (written p)
  unfolding written
  file-length = rw fair-items.1 (omega (arith, read-items.size))

module _ (s : List ℕ) (p : Plan) (clean : Clean s p) where
  abbrev read_whole : ReadOut s 0 blank 0 p
  read_whole = read-items s p clean.reads

  whole : Fair p × (items p ≡ read_whole.list)
  whole = fair-items s p clean.reads

  clean-length : length s ≡ length (written p)
  clean-length = file-length s p clean.reads

  clean-written : Bytes s → s ≡ written p
  unfolding written
  clean-written b = rw whole.1 (read_whole.bytes b)

  pub clean-good : Good p
  clean-good =
      let f = whole.0 in
      record {
        short = omega (arith, clean.short, clean-length);
        lengths = f.lengths;
        ranges = f.ranges;
        devices = f.lists.devices;
        links = f.lists.links;
        paths = f.lists.paths.once;
        entries = f.lists.entries.once;
        targets = f.lists.entries.targets;
        known = f.known;
        eight = f.lists.paths.eight;
        most = f.lists.paths.most;
        walks = f.walks;
        reached = f.reached;
        timing = one p.timings refl;
        times = omega (arith, f.lists.times);
        replies = f.lists.replies;
        some-entry = omega (arith, (some-counted p.entries).0 clean.complete.entry);
        no-overrun = clean.no-overrun;
        no-clash = clean.no-clash;
      }
    where
      one : (ts : List Timing) → p.timings ≡ ts → length p.timings ≡ 1
      one [] e = absurd (clean.complete.timing e)
      one (t ∷ ts) e = let n : length p.timings ≡ suc (length ts) = rw e in omega (arith, whole.0.lists.timings)

pub accepted-good : (s : List ℕ) → number (judge s) ≡ 0 → Good (given s)
accepted-good s h = clean-good s (given s) (accepted-clean s h)

pub accepted-written : (s : List ℕ) → Bytes s → number (judge s) ≡ 0 → s ≡ written (given s)
accepted-written s b h = clean-written s (given s) (accepted-clean s h) b

-- of any numbers: the plan written out is as long as the file
pub accepted-length : (s : List ℕ) → number (judge s) ≡ 0 → length s ≡ length (written (given s))
accepted-length s h = clean-length s (given s) (accepted-clean s h)
