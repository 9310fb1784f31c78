-- `tags::comes_once` meets its contract: the range of the match is that of the rows that come once. Assumes nothing.
use native.Mathlib.Omega.{arith}
use mathlib.Core.Path.{sym}
use Rattle.file_field.specs.laws.Tags.{once-known, often}
use Rattle.file_field.proofs.tags.comes_once.Goals as goal

pub returns-in-5-to-6 : goal.returns-in-5-to-6
returns-in-5-to-6 c = sym (once-known c.args.tag (omega arith) (omega arith))

pub returns-in_default : goal.returns-in_default
returns-in_default c = sym (often c.args.tag (omega arith))

pub returns-in_default-2 : goal.returns-in_default-2
returns-in_default-2 c = sym (often c.args.tag (omega arith))
