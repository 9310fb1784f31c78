-- `paths::keep_path` meets its contract: what it calls leaves in memory, one after the other.
use mathlib.Core.Path.{◌≡◌, ap, ◌∙◌}
use mathlib.Core.List.{List}
use Prim.Native.Nat.{ℕ}
use native.Mathlib.Omega.{arith}
use Rattle.rules_plan.specs.Plan.{nth}
use Rattle.load_path_faults.specs.Routes.{route}
use Rattle.load_path_places.specs.Places.{with_count}
use Rattle.load_path_places.specs.laws.OwnRow.{count-keeps}
use Rattle.load_paths.specs.laws.Stored.{reach-stored, numbers-stored}
use Rattle.load_paths.specs.laws.Stored.{paths-stored}
use Rattle.load_paths.proofs.keep_path.Goals as goal

-- the number of paths is as it was
three : (rows numbers now : List ℕ) (i : ℕ) → now ≡ with_count rows numbers i → nth now 3 ≡ nth numbers 3
three rows numbers now i e = ap (λ l. nth l 3) e ∙ count-keeps rows numbers i

pub place_of-k-requires : goal.place_of-k-requires
place_of-k-requires c = omega (arith, three _ _ _ _ c.own_row-row.ensures.1)

pub make_room-requires : goal.make_room-requires
make_room-requires c = (omega (arith, c.place_of-k.ensures.0), omega (arith, three _ _ _ _ c.own_row-row.ensures.1))

pub store_path-requires : goal.store_path-requires
store_path-requires c = (omega (arith, c.place_of-k.ensures.0, three _ _ _ _ c.own_row-row.ensures.1), c.requires.3)

pub overflow_add-numbers : goal.overflow_add-numbers
overflow_add-numbers c = omega (arith, three _ _ _ _ c.own_row-row.ensures.1)

pub returns : goal.returns
returns c = λ e f g.
    let a = c.args in
    let x = route a.initiator a.target a.links.now in
    let m = c.own_row-row.ensures.2 e f in (
      m.1,
      reach-stored _ _ _ _ _ _ x m.0 m.2 c.add.type_inv c.add.ensures,
      paths-stored _ _ _ _ _ _ x g c.requires.3 (three _ _ _ _ c.own_row-row.ensures.1) c.requires.2 c.place_of-k.ensures c.make_room.ensures c.store_path.ensures,
      numbers-stored _ _ _ _ c.own_row-row.ensures.1,
    )
