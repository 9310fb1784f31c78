-- `numbers` meets its contract. The loop's invariant: the first i numbers are read, the words up to `at`. Assumes nothing.
use lib.ListN.{drop}
use Rattle.script_words.specs.Reading.{behind_word}
use Rattle.script_words.proofs.Several.{FirstRead}
use Rattle.script_words.proofs.numbers.Given as goal

abbrev pub invariant-loop-i : goal.invariant-loop-i
invariant-loop-i l = FirstRead l.mosts (behind_word (drop l.end l.line)) l.line l.initial.out l.out l.at l.i
