-- Every line of the samples, by computing. Assumes nothing.
use mathlib.Core.Path.{refl}
use Rattle.lists.specs.Search.{all, when}
use Rattle.rules_plan.specs.Print.{text}
use Rattle.script_words.specs.Words.{same, in_front, words_of, is_digit, value_from, number_of, before, numbers_of}
use Rattle.script_hex.specs.Hex.{is_letter, is_hex, pairs_of, is_pairs, bytes_of}
use Rattle.script_commands.specs.Script.{mosts, made, numbered, with_bytes, alone, commands, named, of_words, command_of}
use Rattle.script_commands.specs.Samples.{samples, Samples}
use Rattle.script_commands.proofs.samples.Goals as goal

pub returns : goal.returns
unfolding all when text same in_front words_of is_digit value_from number_of is_letter is_hex pairs_of is_pairs bytes_of before numbers_of mosts made numbered with_bytes alone commands named of_words command_of samples Samples
returns c = refl
