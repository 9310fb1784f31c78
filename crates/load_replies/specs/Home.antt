-- What is read and stored for a reply.
use Rattle.std.specs.Prelude.{◌≡◌, List, Bool, false, not, ◌&&◌, ℕ, ◌+◌, ◌*◌, ◌≤◌, length, ltb, eqb}
use Rattle.std.proofs.Math.Option.{some}
use Rattle.lists.specs.Place.{at_place}
use Rattle.rules_plan.specs.Plan.{nth, Route, Plan, reply, grow}
use Rattle.rules_plan.specs.laws.Fair.{Fair}
use Rattle.rules_plan.specs.laws.Chain.{Passes}
use Rattle.memory_plan.specs.Memory.{rows_of, paths_in_order, paths_of, numbers_with}
use Rattle.load_path_places.specs.Places.{PathAt}

-- the path at place k has a reply: the row behind its own has links
unfoldable pub has_row : List ℕ → ℕ → Bool
has_row paths k = ltb k 128 && not (eqb (nth paths ((128 + k) * 11 + 2)) 0)

-- a reply of i from t, which rows 7 and 11 ask of by memory: the place of its path, and whether that has a reply already
pub record ReplyAsked (paths numbers : List ℕ) (i t start end place : ℕ) (again many alone : Bool) : Type 0 where
  pub from : start ≡ t
  pub to : end ≡ i
  pub within : place ≤ 128
  pub path : (size : ℕ) (p : Plan) → Fair p → paths ≡ paths_of p → numbers ≡ numbers_with size p → PathAt p i t place
  pub given : again ≡ has_row paths place
  pub uncounted : many ≡ false
  pub no-path : alone ≡ eqb place 128

-- reply y of plan p without a fault, whose path x stands at place k
pub record HomeTo (p : Plan) (y x : Route) (k : ℕ) : Type 0 where
  pub fair : Fair p
  pub passes : Passes p (reply y)
  pub at : at_place k (paths_in_order p) ≡ some x
  pub from : x.start ≡ y.end
  pub to : x.end ≡ y.start

-- the numbers afterwards are those of the plan with the reply, for every plan that memory holds and every reply of i and t over so many links
abbrev pub HomeOf : (k i t links : ℕ) (rows paths before after : List ℕ) → Type 0
HomeOf k i t links rows paths before after =
    (size : ℕ) (p : Plan) (y x : Route) → HomeTo p y x k → y.end ≡ i → y.start ≡ t → links ≡ length y.links → rows ≡ rows_of p → paths ≡ paths_of p → before ≡ numbers_with size p →
    after ≡ numbers_with size (grow p (reply y))
