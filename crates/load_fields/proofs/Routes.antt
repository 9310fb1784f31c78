-- The verdict on a route, by what memory was asked, is that on its path or its reply; and what a route with a fault leaves.
use mathlib.Core.Path.{◌≡◌, sym, ap, ◌∙◌}
use mathlib.Core.Logic.{◌≢◌}
use mathlib.Core.List.{List}
use mathlib.Core.Bool.{Bool, false}
use Prim.Native.Nat.{ℕ, ◌<◌}
use native.Mathlib.Omega.{arith}
use lib.Dec.{leb}
use borrow.Author.Tests.{leb-false, eqb-false}
use Rattle.lists.specs.laws.Bools.{neither}
use Rattle.rules_plan.specs.Plan.{nth, Plan, Item}
use Rattle.rules_plan.specs.laws.Fair.{Fair}
use Rattle.memory_plan.specs.Memory.{rows_of, reach_of, paths_of, numbers_with}
use Rattle.memory_plan.specs.Take.{item_fault, path_item, reply_item}
use Rattle.load_path_faults.specs.Routes.{route, route_fault}
use Rattle.load_paths.specs.Keep.{PathAsked}
use Rattle.load_paths.specs.laws.Passed.{taken-stays}
use Rattle.load_paths.specs.laws.Asked.{path-verdict}
use Rattle.load_replies.specs.Home.{has_row, ReplyAsked}
use Rattle.load_replies.specs.laws.Asked.{reply-verdict}
use Rattle.load_fields.specs.Fields.{TakesRoute}

-- a path
module _ {rows reach numbers : List ℕ} {i t start end place : ℕ} {again many alone : Bool} (q : PathAsked rows reach numbers i t start end place again many alone) where
  pub path-judged : (size : ℕ) (p : Plan) → Fair p → rows ≡ rows_of p → reach ≡ reach_of p → numbers ≡ numbers_with size p → (ls : List ℕ)
      → route_fault p (route start end ls) again many alone ≡ item_fault p (path_item i t ls)
  path-judged size p f a b c ls = rw (q.from, q.to, q.no-reply) (path-verdict size p f (route i t ls) a b c place q.row again many q.reached q.counted)

  -- without a 9 its row is one of the eight, and there is room
  pub room : many ≡ false → (place < 8) × (nth numbers 3 < 128)
  room none = let (a, b) = neither (leb 8 place) (leb 128 (nth numbers 3)) (sym q.counted ∙ none) in (leb-false 8 place a, leb-false 128 (nth numbers 3) b)

-- a reply
module _ {paths numbers : List ℕ} {i t start end place : ℕ} {again many alone : Bool} (q : ReplyAsked paths numbers i t start end place again many alone) where
  pub reply-judged : (size : ℕ) (p : Plan) → Fair p → paths ≡ paths_of p → numbers ≡ numbers_with size p → (ls : List ℕ)
      → route_fault p (route start end ls) again many alone ≡ item_fault p (reply_item i t ls)
  reply-judged size p f a b ls =
      rw (q.from, q.to, q.uncounted) (reply-verdict p f (q.path size p f a b) ls again alone q.within (q.given ∙ ap (λ l. has_row l place) a) q.no-path)

  -- without an 11 there is its path
  pub has-path : alone ≡ false → place < 128
  has-path found = let n : place ≢ 128 = eqb-false place 128 (sym q.no-path ∙ found) in omega (arith, q.within)

pub stays : (size : ℕ) (p : Plan) (x : Item) {r : ℕ} {rows reach paths numbers : List ℕ} → r ≡ item_fault p x → r ≢ 0
    → rows ≡ rows_of p → reach ≡ reach_of p → paths ≡ paths_of p → numbers ≡ numbers_with size p → TakesRoute size p x r rows reach paths numbers
stays size p x e n a b c d =
    let s = sym (taken-stays p x (λ w. n (e ∙ w))) in
    record { answer = e; rows = a ∙ ap rows_of s; reach = b ∙ ap reach_of s; paths = c ∙ ap paths_of s; numbers = d ∙ ap (numbers_with size) s }
