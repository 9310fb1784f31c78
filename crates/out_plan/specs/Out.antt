-- What writing out answers and leaves, and the bytes that it puts as the code finds them in plan memory: a part for each number, row and
-- cell in turn.
use Rattle.std.specs.Prelude.{◌≡◌, ℕ, ◌*◌, min, length}
use mathlib.Core.List.{List, ◌++◌, flat_map}
use Rattle.std.proofs.Math.Option.{Option}
use Rattle.lists.specs.Search.{up_from, below64}
use Rattle.rules_plan.specs.Plan.{nth, Plan}
use Rattle.rules_plan.specs.Copy.{Copied, copy_answer, copied}
use Rattle.memory_plan.specs.PlanHeld.{PlanHeld}
use Rattle.out_items.specs.Out.{device_bytes, link_bytes, timing_bytes, times_bytes}
use Rattle.out_rows.specs.Out.{row_bytes, entry_bytes}

-- the contract of `write_out`, of memory that a clear or a load left; it is not lent `reach`, which it need not read
abbrev pub WritesOut : (sets ends rows paths spans aims numbers out : List ℕ) → Copied → (out' : List ℕ) → Type 0
WritesOut sets ends rows paths spans aims numbers out answer out' =
    (o : Option Plan) (reach : List ℕ) → PlanHeld o sets ends rows reach paths spans aims numbers
    → (answer ≡ copy_answer (length out) o) × (out' ≡ copied o out)

-- all of its bytes, in order of tag: of as many paths and initiators as are counted
unfoldable pub out_bytes : (sets ends rows paths spans aims numbers : List ℕ) → List ℕ
out_bytes sets ends rows paths spans aims numbers =
    flat_map (device_bytes (nth sets 0) (nth sets 1)) below64
    ++ flat_map (link_bytes (nth sets 2) ends) below64
    ++ flat_map (row_bytes 3 paths 0) (up_from (min (nth numbers 3) 128) 0)
    ++ flat_map (entry_bytes rows spans aims) (up_from (64 * min (nth numbers 2) 8) 0)
    ++ timing_bytes (nth numbers 0) (nth numbers 1)
    ++ times_bytes numbers
    ++ flat_map (row_bytes 7 paths 128) (up_from (min (nth numbers 3) 128) 0)
