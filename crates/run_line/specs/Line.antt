-- What the functions on an initiator's line do to its side beside a request.
use Rattle.std.specs.Prelude.{ℕ}
use Rattle.lists.specs.Place.{without}
use Rattle.rules_box.specs.State.{Side, with_line}

-- the side once the request at place k has left the line
unfoldable pub leaves : ℕ → Side → Side
leaves k s = with_line (without k s.line) s
