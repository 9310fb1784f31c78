-- `hex::hex_of` meets its contract. Assumes nothing.
use native.Mathlib.Omega.{arith}
use borrow.Author.Rules.{rules}
use Rattle.script_hex.proofs.Values.{digit-hex, letter-hex, low-hex, between-hex, high-hex}
use Rattle.script_hex.proofs.hex_of.Goals as goal

pub returns-in-48-to-57 : goal.returns-in-48-to-57
returns-in-48-to-57 c = ((digit-hex c.args.c (omega arith) (omega arith)).1, search rules)

pub returns-in-97-to-102 : goal.returns-in-97-to-102
returns-in-97-to-102 c = ((letter-hex c.args.c (omega arith) (omega arith)).1, search rules)

pub returns-in_default : goal.returns-in_default
returns-in_default c = ((low-hex c.args.c (omega arith)).1, search rules)

pub returns-in_default-2 : goal.returns-in_default-2
returns-in_default-2 c = ((between-hex c.args.c (omega arith) (omega arith)).1, search rules)

pub returns-in_default-3 : goal.returns-in_default-3
returns-in_default-3 c = ((high-hex c.args.c (omega arith)).1, search rules)
