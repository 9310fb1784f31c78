-- What the functions on one initiator's row are lent, and what they answer of what is live.
use Rattle.std.specs.Prelude.{◌≡◌, ℕ, List, length}
use Rattle.std.proofs.Math.Option.{Option, none, some}
use Rattle.rules_box.specs.State.{Request, request, Live}

abbrev pub IsRow : List ℕ → Type 0
IsRow row = length row ≡ 12

abbrev pub IsRun : List ℕ → Type 0
IsRun run = length run ≡ 96

-- the live transaction's request, all of it 0 where there is none
unfoldable pub live_request : Option Live → Request
live_request none = request 0 0 0 0
live_request (some l) = l.request
