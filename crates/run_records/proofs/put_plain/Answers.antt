-- `put_plain` meets its contract. Assumes nothing.
use Rattle.rules_box.specs.Records.{record_bytes, plain}
use Rattle.run_records.proofs.put_plain.Goals as goal

pub returns : goal.returns
unfolding record_bytes plain
returns c = c.put.ensures
