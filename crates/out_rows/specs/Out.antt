-- The bytes that writing out puts for a path, a reply and an entry, as the code finds them in plan memory.
use Rattle.std.specs.Prelude.{ℕ, ◌+◌, ◌*◌, ◌/◌, ◌%◌, ◌||◌, cond, length, ltb, eqb}
use mathlib.Core.List.{List, [], ◌∷◌, map, flat_map}
use Rattle.lists.specs.Search.{keep, up_from, below64}
use Rattle.bitsets.specs.Set.{members}
use Rattle.rules_plan.specs.Plan.{nth}
use Rattle.rules_plan.specs.Fields.{field_for}
use Rattle.memory_plan.specs.Take.{entry_item}

-- the links from a place of memory on, so many of them
unfoldable pub links_from : List ℕ → ℕ → ℕ → List ℕ
links_from paths start count = map (nth paths) (up_from count start)

-- a route under its tag: initiator, target, links
unfoldable pub route_field : (tag initiator target : ℕ) → List ℕ → List ℕ
route_field tag initiator target links =
    let content = initiator ∷ target ∷ links in
    tag ∷ length content / 256 ∷ length content % 256 ∷ content

-- of row n: it has one to eight links, or is unused
unfoldable pub path_bytes : ℕ → List ℕ → ℕ → List ℕ
path_bytes tag paths n =
    let count = nth paths (11 * n + 2) in
    cond (ltb 8 count || eqb count 0) [] (route_field tag (nth paths (11 * n)) (nth paths (11 * n + 1)) (links_from paths (11 * n + 3) count))

-- of the rows from the first on
unfoldable pub row_bytes : ℕ → List ℕ → ℕ → ℕ → List ℕ
row_bytes tag paths first n = path_bytes tag paths (first + n)

-- the members of a set, rising
unfoldable pub rises : ℕ → List ℕ
rises s = keep (members s) below64

-- of the entry in cell n: an entry has a span
unfoldable pub entry_bytes : List ℕ → List ℕ → List ℕ → ℕ → List ℕ
entry_bytes rows spans aims n = cond (eqb (nth spans n) 0) [] (field_for (entry_item (nth rows (n / 64)) (n % 64) (nth spans n) (rises (nth aims n))))

-- of the entries in the eight cells from n on
unfoldable pub eight_bytes : List ℕ → List ℕ → List ℕ → ℕ → List ℕ
eight_bytes rows spans aims n = flat_map (λ (s : ℕ). entry_bytes rows spans aims (n + s)) (up_from 8 0)
