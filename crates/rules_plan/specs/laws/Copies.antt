-- Writing out of a plan: without room for its bytes it is refused; with room it answers their number and puts them in front.
use Rattle.std.specs.Prelude.{◌≡◌, List, ◌++◌, ℕ, ◌≤◌, ◌<◌, length, drop}
use Rattle.std.proofs.Math.Option.{some}
use Rattle.std.proofs.Common.{lt-ltb, le-ltb}
use Rattle.lists.specs.Search.{is_some}
use Rattle.lists.specs.Rows.{first_of}
use Rattle.rules_plan.specs.Plan.{Plan}
use Rattle.rules_plan.specs.Canon.{written}
use Rattle.rules_plan.specs.Copy.{Written, bytes_of, copy_rows, copy_refusal, copy_answer, copied}

pub no_room : (room : ℕ) (p : Plan) → room < length (written p) → copy_refusal room (some p) ≡ 30
unfolding copy_refusal copy_rows bytes_of first_of is_some
no_room room p h = rw (lt-ltb room (length (written p)) h)

has_room : (room : ℕ) (p : Plan) → length (written p) ≤ room → copy_refusal room (some p) ≡ 0
unfolding copy_refusal copy_rows bytes_of first_of is_some
has_room room p h = rw (le-ltb room (length (written p)) h)

module _ (p : Plan) (buffer : List ℕ) (room : length (written p) ≤ length buffer) where
  pub answers-size : copy_answer (length buffer) (some p) ≡ Written (length (written p))
  unfolding copy_answer bytes_of
  answers-size = rw (has_room (length buffer) p room, copy_answer)

  pub puts-bytes : copied (some p) buffer ≡ written p ++ drop (length (written p)) buffer
  unfolding copied bytes_of
  puts-bytes = rw (has_room (length buffer) p room, copied)
