-- `tags::is_tag` meets its contract: the range of the match is that of the table's rows. Assumes nothing.
use native.Mathlib.Omega.{arith}
use mathlib.Core.Path.{sym}
use Rattle.file_field.specs.laws.Tags.{tag-known, tag-unknown}
use Rattle.file_field.proofs.tags.is_tag.Goals as goal

pub returns-in-1-to-7 : goal.returns-in-1-to-7
returns-in-1-to-7 c = sym (tag-known c.args.tag (omega arith) (omega arith))

pub returns-in_default : goal.returns-in_default
returns-in_default c = sym (tag-unknown c.args.tag (omega arith))

pub returns-in_default-2 : goal.returns-in_default-2
returns-in_default-2 c = sym (tag-unknown c.args.tag (omega arith))
