-- `word_length` meets its contract. Assumes nothing.
use Rattle.std.proofs.Common.{rules, tests}
use Rattle.std.proofs.lemmas.Iterator.{YieldsList-from_slice}
use Rattle.std.proofs.lemmas.Iterator.Search.{position_from_yields_List}
use Rattle.script_words.proofs.Split.{is_space, word-told}
use Rattle.script_words.proofs.word_length.Goals as goal

pub returns : goal.returns
returns c =
    word-told c.args.s.now c.position.result
    (position_from_yields_List is_space _ _ c.position.result c.position.ensures.ran (YieldsList-from_slice c.args.s.now cc) (λ x b q k. search (rules, tests))) c.unwrap_or.ensures
