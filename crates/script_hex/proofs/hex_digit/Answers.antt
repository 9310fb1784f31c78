-- `hex::hex_digit` meets its contract. Assumes nothing.
use Rattle.script_hex.proofs.Text.{number-digit, letter-digit}
use Rattle.script_hex.proofs.hex_digit.Goals as goal

pub returns-then-n-lt10 : goal.returns-then-n-lt10
returns-then-n-lt10 c = number-digit c.args.n c.if-n-lt10.true

pub returns-else-n-lt10 : goal.returns-else-n-lt10
returns-else-n-lt10 c = letter-digit c.args.n c.if-n-lt10.false
