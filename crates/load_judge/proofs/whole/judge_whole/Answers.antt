-- `judge_whole` meets its contract: each way out knows that the verdicts before it do not hold. Assumes nothing.
use mathlib.Core.Path.{◌≡◌, sym, ap, ◌∙◌}
use mathlib.Core.Logic.{◌≢◌}
use mathlib.Core.List.{List}
use mathlib.Core.Option.{none}
use Prim.Native.Nat.{ℕ, ◌≤◌}
use lib.ListN.{length}
use Rattle.rules_plan.specs.declared.Verdict.{Verdict}
use Rattle.rules_plan.specs.declared.Verdict.TheVariants.{Faulty}
use Rattle.rules_plan.specs.Plan.{Plan, nth}
use Rattle.rules_plan.specs.Judge.{plan, read_file, overrun, clash, judge}
use Rattle.rules_plan.specs.Canon.{given}
use Rattle.rules_plan.specs.Words.{Complete}
use Rattle.rules_plan.specs.laws.Fair.{Fair}
use Rattle.rules_plan.specs.laws.Verdicts.{Decided, by-12, by-15, by-13, by-14, decides}
use Rattle.rules_plan.specs.laws.Whole.{Clean, clean-counts}
use Rattle.rules_plan.specs.laws.Accepted.{file-fair, clean-good}
use Rattle.memory_plan.specs.Memory.{numbers_of}
use Rattle.lists.specs.laws.Below.{none-told, some-told}
use Rattle.load_judge.proofs.whole.Whole.{without, with-them, without-entries, with_entries_lem, few}
use Rattle.load_judge.proofs.whole.judge_whole.Goals as goal

module _ (file : List ℕ) (short : length file ≤ 16_384) (reads : read_file file ≡ plan (given file)) where
  abbrev p : Plan
  p = given file

  fair : Fair p
  fair = file-fair file p reads

  -- the row that decides on it gives the verdict
  decision : {v : Verdict} → Decided file p v → v ≡ judge file
  decision d = sym (decides file short p reads d)

  -- behind the first two tests the plan has intervals and entries
  module _ {numbers : List ℕ} (held : numbers ≡ numbers_of p) (timed : nth numbers 1 ≢ 0) (some : nth numbers 4 ≢ 0) where
    complete : Complete p
    complete = record { timing = with-them p held timed; entry = with_entries_lem p held some }

    -- behind the two searches the file is clean
    clean : overrun p.entries ≡ none → clash p p.entries ≡ none → Clean file p
    clean o c = record { short = short; reads = reads; complete = complete; no-overrun = o; no-clash = c }

pub returns-then-numbers-eq0 : goal.returns-then-numbers-eq0
returns-then-numbers-eq0 c =
    let r = c.requires in
    let file = c.args.file.now in
    ap (λ n. Faulty n (length file)) c.from.ensures ∙ decision file r.0 r.1 (by-12 (without _ r.7 (fair file r.0 r.1) c.if-numbers-eq0.true))

pub returns-then-numbers-eq0-2 : goal.returns-then-numbers-eq0-2
returns-then-numbers-eq0-2 c =
    let r = c.requires in
    let file = c.args.file.now in
    ap (λ n. Faulty n (length file)) c.from-then-numbers-eq0-2.ensures
    ∙ decision file r.0 r.1 (by-15 (with-them _ r.7 c.if-numbers-eq0.false) (without-entries _ r.7 c.if-numbers-eq0-2.true))

pub returns-in-Some : goal.returns-in-Some
returns-in-Some c =
    let r = c.requires in
    let file = c.args.file.now in
    let o = c.find_overrun.ensures _ _ (fair file r.0 r.1) r.3 r.5 r.7 in
    decision file r.0 r.1 (by-13 (complete file r.0 r.1 r.7 c.if-numbers-eq0.false c.if-numbers-eq0-2.false) (some-told _ _ (sym c.in-Some.is ∙ o)))

pub returns-in-Some-find_clash : goal.returns-in-Some-find_clash
returns-in-Some-find_clash c =
    let r = c.requires in
    let file = c.args.file.now in
    let f = fair file r.0 r.1 in
    let o = none-told _ (sym c.in_default.is ∙ c.find_overrun.ensures _ _ f r.3 r.5 r.7) in
    let h = c.find_clash.ensures _ _ f o r.3 r.4 r.5 r.6 r.7 in
    decision file r.0 r.1 (by-14 (complete file r.0 r.1 r.7 c.if-numbers-eq0.false c.if-numbers-eq0-2.false) o (some-told _ _ (sym c.in-Some-find_clash.is ∙ h)))

pub counted-requires : goal.counted-requires
counted-requires c =
    let r = c.requires in
    let file = c.args.file.now in
    let f = fair file r.0 r.1 in
    let o = none-told _ (sym c.in_default.is ∙ c.find_overrun.ensures _ _ f r.3 r.5 r.7) in
    let h = none-told _ (sym c.in_default-find_clash.is ∙ c.find_clash.ensures _ _ f o r.3 r.4 r.5 r.6 r.7) in
    few _ r.7 (clean-good _ _ (clean file r.0 r.1 r.7 c.if-numbers-eq0.false c.if-numbers-eq0-2.false o h))

pub returns : goal.returns
returns c =
    let r = c.requires in
    let file = c.args.file.now in
    let f = fair file r.0 r.1 in
    let o = none-told _ (sym c.in_default.is ∙ c.find_overrun.ensures _ _ f r.3 r.5 r.7) in
    let h = none-told _ (sym c.in_default-find_clash.is ∙ c.find_clash.ensures _ _ f o r.3 r.4 r.5 r.6 r.7) in
    c.counted.ensures _ _ f r.2 r.7 ∙ sym (clean-counts _ _ (clean file r.0 r.1 r.7 c.if-numbers-eq0.false c.if-numbers-eq0-2.false o h))
