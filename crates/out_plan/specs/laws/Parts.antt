-- What the code puts is the plan, kind by kind.
use Rattle.std.specs.Prelude.{◌≡◌, ℕ, ◌*◌, min}
use mathlib.Core.List.{List, flat_map}
use Rattle.lists.specs.Search.{up_from, below64}
use Rattle.lists.specs.Puts.{Puts}
use Rattle.lists.specs.laws.Puts.{puts_then}
use Rattle.rules_plan.specs.Plan.{nth}
use Rattle.out_plan.specs.Out.{out_bytes}
use Rattle.out_items.specs.Out.{device_bytes, link_bytes, timing_bytes, times_bytes}
use Rattle.out_rows.specs.Out.{row_bytes, entry_bytes}

-- the seven kinds of fields, one behind the other
pub out-puts : (sets ends rows paths spans aims numbers : List ℕ) {l a b c d e f g : List ℕ} {i j k m n o q r s t : ℕ}
    → Puts l i (flat_map (device_bytes (nth sets 0) (nth sets 1)) below64) a j → Puts a j (flat_map (link_bytes (nth sets 2) ends) below64) b k
    → r ≡ min (nth numbers 3) 128 → Puts b k (flat_map (row_bytes 3 paths 0) (up_from r 0)) c m
    → s ≡ min (nth numbers 2) 8 → Puts c m (flat_map (entry_bytes rows spans aims) (up_from (64 * s) 0)) d n
    → Puts d n (timing_bytes (nth numbers 0) (nth numbers 1)) e o → Puts e o (times_bytes numbers) f q → Puts f q (flat_map (row_bytes 7 paths 128) (up_from r 0)) g t
    → Puts l i (out_bytes sets ends rows paths spans aims numbers) g t
unfolding out_bytes
out-puts sets ends rows paths spans aims numbers f g x h y p q t u = rw (← x, ← y) (puts_then (puts_then (puts_then (puts_then (puts_then (puts_then f g) h) p) q) t) u)
