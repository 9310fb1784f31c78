-- `put_decimal` calls itself with a tenth of n, so its measure is n.
use Rattle.bytes_put.proofs.+put_decimal.Given as goal

abbrev pub decreases-put_decimal : goal.decreases-put_decimal
decreases-put_decimal l = l.n
