-- What is read off memory for the links in a slot: the entry of a row that covers it, links of a path, and sets of links.
use Rattle.std.specs.Prelude.{◌≡◌, List, Bool, true, false, ◌&&◌, ◌||◌, ℕ, ◌+◌, ◌-◌, ◌*◌, ◌%◌, min, get_or, take, drop, ltb, eqb}
use Rattle.std.proofs.Math.Option.{none}
use Rattle.lists.specs.Numbers.{first_from}
use Rattle.lists.specs.Cells.{cells}
use Rattle.bitsets.specs.Set.{member, listed, packed}
use Rattle.rules_plan.specs.Plan.{Plan}
use Rattle.rules_plan.specs.Meaning.{may_use}
use Rattle.rules_plan.specs.Judge.{overrun}
use Rattle.rules_plan.specs.laws.Fair.{Fair}
use Rattle.memory_plan.specs.Memory.{of_row, rows_of, paths_of, spans_of, aims_of, numbers_with}
use Rattle.load_overruns.specs.Overruns.{cell_at}

-- the entry of the row that stands so many slots back covers the slot
unfoldable pub covers_from : List ℕ → ℕ → ℕ → ℕ → Bool
covers_from spans row slot back = ltb back (cell_at spans row ((slot + 64 - back) % 64))

-- where that entry stands, for less than 16 slots back; else 512
unfoldable pub place_back : ℕ → ℕ → ℕ → ℕ
place_back row slot back = elim (ltb back 16) [ true ↦ row * 64 + (slot + 64 - back) % 64 | false ↦ 512 ]

-- where the nearest entry stands that covers the slot
abbrev pub cover_place : List ℕ → ℕ → ℕ → ℕ
cover_place spans row slot = place_back row slot (first_from 16 0 (covers_from spans row slot))

-- the links of row number k
unfoldable pub links_at : List ℕ → ℕ → List ℕ
links_at paths k = take (min 8 (get_or paths (k * 11 + 2) 0)) (drop (k * 11 + 3) paths)

-- path number k leads from the initiator to one of the targets, and it or its reply's own way over link l
unfoldable pub leads_over : List ℕ → ℕ → ℕ → ℕ → ℕ → Bool
leads_over paths initiator targets l k =
    eqb (get_or paths (k * 11) 0) initiator && (member (get_or paths (k * 11 + 1) 0) targets && (listed (links_at paths k) l || listed (links_at paths (128 + k)) l))

-- the links that the initiator of a row may use in a slot, as a set; and those of the eight rows
unfoldable pub lane_of : Plan → ℕ → ℕ → ℕ
lane_of p slot row = of_row p row (λ (i : ℕ). packed (may_use p p.entries slot i))

unfoldable pub lanes_of : Plan → ℕ → List ℕ
lanes_of p slot = cells 8 (lane_of p slot)

-- the arrays hold plan p, of which no entry runs into another
pub record Searched (p : Plan) (rows' paths' spans' aims' numbers' : List ℕ) : Type 0 where
  pub fair : Fair p
  pub alone : overrun p.entries ≡ none
  pub rows : rows' ≡ rows_of p
  pub paths : paths' ≡ paths_of p
  pub spans : spans' ≡ spans_of p
  pub aims : aims' ≡ aims_of p
  pub size : ℕ
  pub numbers : numbers' ≡ numbers_with size p
