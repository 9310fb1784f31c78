-- What the code puts for one device, one link, the intervals and the times is its field.
use mathlib.Core.Path.{◌≡◌}
use mathlib.Core.Logic.{◌≢◌}
use mathlib.Core.List.{List, [], ◌∷◌}
use mathlib.Core.Bool.{true, false, ◌||◌}
use Prim.Native.Nat.{ℕ, ◌+◌, ◌*◌, ◌/◌, ◌%◌}
use Rattle.lists.specs.Puts.{Puts}
use borrow.Author.Tests.{eq-eqb, ne_eqb}
use Rattle.lists.specs.laws.Puts.{puts_none, puts_then}
use Rattle.lists.specs.Numbers.{digit}
use Rattle.bitsets.specs.Set.{member}
use Rattle.rules_plan.specs.Plan.{nth}
use Rattle.rules_plan.specs.Fields.{tag_for, content_for, field_for, two_bytes, four_bytes}
use Rattle.out_items.specs.Out.{device_bytes, link_bytes, timing_bytes, times_bytes}
use Rattle.memory_plan.specs.Memory.{rate_in, slot_in}

-- a device that is a node or a router, and nothing for any other number
module _ (nodes routers set : ℕ) (all : (n : ℕ) → member n set ≡ (member n nodes || member n routers)) where
  pub device-off : (n : ℕ) → member n set ≡ false → device_bytes nodes routers n ≡ []
  unfolding device_bytes
  device-off n h = rw (← all n, h)

  pub device-on : (n : ℕ) → member n set ≡ true → device_bytes nodes routers n ≡ 1 ∷ 0 ∷ 2 ∷ n ∷ digit (member n routers) ∷ []
  unfolding device_bytes field_for tag_for content_for
  device-on n h = rw (← all n, h)

pub link-off : (links : ℕ) (ends : List ℕ) (n : ℕ) → member n links ≡ false → link_bytes links ends n ≡ []
unfolding link_bytes
link-off links ends n h = rw h

pub link_on : (links : ℕ) (ends : List ℕ) (n : ℕ) → member n links ≡ true → link_bytes links ends n ≡ 2 ∷ 0 ∷ 3 ∷ n ∷ nth ends (2 * n) ∷ nth ends (2 * n + 1) ∷ []
unfolding link_bytes field_for tag_for content_for
link_on links ends n h = rw h

pub timing-puts : {l o p q : List ℕ} {i k m j : ℕ} (least greatest : ℕ) → Puts l i (5 ∷ 0 ∷ 8 ∷ []) o k → Puts o k (four_bytes least) p m → Puts p m (four_bytes greatest) q j
    → Puts l i (timing_bytes least greatest) q j
unfolding timing_bytes field_for tag_for content_for four_bytes
timing-puts least greatest a b d = puts_then a (puts_then b d)

module _ (numbers : List ℕ) where
  pub no-times : (l : List ℕ) (i : ℕ) → rate_in numbers ≡ 0 → Puts l i (times_bytes numbers) l i
  unfolding times_bytes
  no-times l i z = rw (eq-eqb (rate_in numbers) 0 z) (puts_none l i)

  pub times-puts : {l a b c d e f g : List ℕ} {i j k m n o q r : ℕ} → rate_in numbers ≢ 0 → Puts l i (6 ∷ 0 ∷ 22 ∷ []) a j → Puts a j (two_bytes (rate_in numbers % 65_536)) b k
      → Puts b k (four_bytes (nth numbers 7)) c m → Puts c m (four_bytes (nth numbers 8)) d n → Puts d n (four_bytes (nth numbers 9)) e o → Puts e o (four_bytes (nth numbers 10)) f q
      → Puts f q (four_bytes (slot_in numbers / rate_in numbers)) g r → Puts l i (times_bytes numbers) g r
  unfolding times_bytes field_for tag_for content_for two_bytes four_bytes
  times-puts z h s t u v w x = rw (ne_eqb (rate_in numbers) 0 z) (puts_then h (puts_then s (puts_then t (puts_then u (puts_then v (puts_then w x))))))
