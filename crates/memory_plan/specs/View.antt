-- What the running box reads of a plan: whether there is one, the rows of its initiators, its entries.
use Rattle.std.specs.Prelude.{◌≡◌, ℕ, ◌≤◌, ◌<◌, List, eqb}
use Rattle.std.proofs.Math.Option.{Option, none, some, get_or}
use Rattle.lists.specs.Search.{is_in}
use Rattle.lists.specs.Place.{Found, first}
use Rattle.bitsets.specs.Set.{member}
use Rattle.rules_plan.specs.Plan.{Entry, Plan, blank}
use Rattle.rules_plan.specs.Meaning.{initiators, greatest_of}
use Rattle.rules_plan.specs.laws.Sound.{Sound}
use Rattle.memory_plan.specs.Memory.{rows_of, of_row, spans_of, aims_of, numbers_of}

-- the plan, blank where there is none
abbrev pub plan_in : Option Plan → Plan
plan_in o = get_or o blank

-- `numbers` is that of the plan, and a plan's greatest interval is not 0
pub record Timed (o : Option Plan) (numbers' : List ℕ) : Type 0 where
  pub numbers : numbers' ≡ numbers_of (plan_in o)
  pub some-interval : (p : Plan) → o ≡ some p → 0 < greatest_of p.timings

-- plan memory as events read it
pub record Shown (o : Option Plan) (rows' spans' aims' numbers' : List ℕ) : Type 0 where
  pub sound : Sound (plan_in o)
  pub rows : rows' ≡ rows_of (plan_in o)
  pub spans : spans' ≡ spans_of (plan_in o)
  pub aims : aims' ≡ aims_of (plan_in o)
  pub timed : Timed o numbers'

-- the place of what is found, d for none
unfoldable pub place_or : {A : Type 0} → ℕ → Option (Found A) → ℕ
place_or d none = d
place_or d (some f) = f.place

-- the row of an initiator, 8 for none
unfoldable pub row_for : Plan → ℕ → ℕ
row_for p i = place_or 8 (first (eqb i) (initiators p))

-- an initiator of a plan, whose row it is
pub record Owner : Type 0 where
  pub plan : Plan
  pub initiator : ℕ

abbrev pub owner : Plan → ℕ → Owner
owner p i = record { plan = p; initiator = i }

-- the owner of row r, initiator 0 where the plan has no such row
unfoldable pub owner_of : Plan → ℕ → Owner
owner_of p r = owner p (of_row p r (λ (i : ℕ). i))

-- a set of targets and a span tell what an entry of the owner permits
pub record Tells (o : Owner) (targets' span' : ℕ) (e : Entry) : Type 0 where
  pub own : e.initiator ≡ o.initiator
  pub targets : (t : ℕ) → is_in t e.targets ≡ member t targets'
  pub span : e.span ≡ span'
  pub some-span : 1 ≤ span'
  pub short-span : span' ≤ 16
