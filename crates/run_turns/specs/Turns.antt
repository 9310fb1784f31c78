-- What the functions on one initiator at a time-code answer, and what makes a start that of a place in the line.
use Rattle.std.specs.Prelude.{◌≡◌, ℕ, Bool, cond}
use Rattle.std.proofs.Math.Option.{Option, none, some}
use Rattle.lists.specs.Place.{at_place}
use Rattle.rules_box.specs.State.{Live, Side}
use Rattle.rules_box.specs.Turn.{Start, is_late}
use Rattle.memory_plan.specs.View.{Owner}
use Rattle.memory_run.specs.Run.{word_of}

-- the word of the owner's live transaction, where it is late
unfoldable pub late_of : Bool → Owner → Option Live → Option ℕ
late_of q o none = none
late_of q o (some l) = cond (is_late q l) (some (word_of o l.request)) none

-- the word of the owner's request that starts
unfoldable pub started_of : Owner → Option Start → Option ℕ
started_of o none = none
started_of o (some x) = some (word_of o x.found.what)

-- a start of the request at place k, at an entry of this span
pub record StartsAt (k span' : ℕ) (s : Side) (x : Start) : Type 0 where
  pub place : x.found.place ≡ k
  pub what : at_place k s.line ≡ some x.found.what
  pub span : x.entry.span ≡ span'
