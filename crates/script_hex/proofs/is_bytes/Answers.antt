-- `is_bytes` meets its contract. Assumes nothing.
use mathlib.Core.Path.{◌≡◌, sym, ◌∙◌}
use native.Mathlib.Omega.{arith}
use borrow.Author.Tests.{eqb-true, eqb-false, lt-leb}
use Rattle.std.specs.List.{list_all}
use Rattle.std.proofs.Common.{rules, tests}
use Rattle.std.proofs.lemmas.Iterator.{YieldsList-from_slice}
use Rattle.std.proofs.lemmas.Iterator.Search.{all_from_yields_List}
use Rattle.lists.specs.laws.Bools.{not-both}
use Rattle.script_hex.specs.Hex.{is_hex}
use Rattle.script_hex.proofs.Pairs.{one_byte, no_byte, too_long, half-pair, in_pairs, each-hex}
use Rattle.script_hex.proofs.is_bytes.Goals as goal
use Rattle.script_hex.proofs.is_bytes.Goals.{then-word-le-MOST_DIGITS, else-word-le-MOST_DIGITS}

pub returns-in-empty : goal.returns-in-empty
returns-in-empty c = no_byte c.args.word.now (λ e. omega arith) (omega arith)

pub returns-in-len1 : goal.returns-in-len1
returns-in-len1 c = one_byte c.args.word.now (omega arith)

pub returns-then-word-eq0 : goal.returns-then-word-eq0
returns-then-word-eq0 c =
    let word = c.args.word.now in
    let tested : c.all.result ≡ list_all is_hex word = all_from_yields_List is_hex _ _ c.all.result c.all.ensures.ran (YieldsList-from_slice word cc) (λ x b q k. search (rules, tests)) in
    elim c.if-word-le-MOST_DIGITS.branch [
      | then-word-le-MOST_DIGITS w ↦
          tested ∙ each-hex word ∙ in_pairs word (λ e. omega arith) (omega arith) w.if-word-le-MOST_DIGITS.true (eqb-true _ _ (sym w.value-is ∙ c.if-word-eq0.true))
      | else-word-le-MOST_DIGITS w ↦ not-both (sym w.value-is ∙ c.if-word-eq0.true) (lt-leb _ 32_800 w.if-word-le-MOST_DIGITS.false)
    ]

pub returns-else-word-eq0 : goal.returns-else-word-eq0
returns-else-word-eq0 c =
    let word = c.args.word.now in
    c.if-word-eq0.false ∙ elim c.if-word-le-MOST_DIGITS.branch [
      | then-word-le-MOST_DIGITS w ↦ half-pair word (λ e. omega arith) (eqb-false _ _ (sym w.value-is ∙ c.if-word-eq0.false))
      | else-word-le-MOST_DIGITS w ↦ too_long word (λ e. omega arith) w.if-word-le-MOST_DIGITS.false
    ]
