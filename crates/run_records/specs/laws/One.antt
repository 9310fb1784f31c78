-- One record is put.
use Rattle.std.specs.Prelude.{ℕ, List, [], ◌∷◌}
use mathlib.Core.List.{flat_map}
use Rattle.lists.specs.Puts.{Puts}
use Rattle.lists.specs.laws.Flat.{flat-one}
use Rattle.rules_box.specs.Records.{Record, record_bytes}

pub puts_one : (clock : ℕ) {l o : List ℕ} {i k : ℕ} (r : Record) → Puts l i (record_bytes clock r) o k → Puts l i (flat_map (record_bytes clock) (r ∷ [])) o k
puts_one clock r p = rw (flat-one (record_bytes clock) r) p
