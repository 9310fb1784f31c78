-- A walk in words: the devices that it meets, with no order of computing. That it says what `is_walk` computes is one of the promises.
use Rattle.std.specs.Prelude.{◌≡◌, ◌⊎◌, ℕ, ◌+◌, ◌<◌, length}
use mathlib.Core.List.{List, Memᴰ}
use Rattle.rules_plan.specs.Plan.{nth, Device, Link, Plan}

-- "kind (0 node, 1 router)": the plan has a router with number n
abbrev pub IsRouter : Plan → ℕ → Type 0
IsRouter p n = (d : Device) × Memᴰ d p.devices × (d.num ≡ n) × (d.kind ≡ 1)

-- the plan has a link with number n that joins devices a and b, either way round
pub record Joins (p : Plan) (n a b : ℕ) : Type 0 where
  pub link : Link
  pub has : Memᴰ link p.links
  pub number : link.num ≡ n
  pub ends : ((link.one ≡ a) × (link.other ≡ b)) ⊎ ((link.one ≡ b) × (link.other ≡ a))

-- two places of the list have one number
pub record Twice (xs : List ℕ) : Type 0 where
  pub one : ℕ
  pub other : ℕ
  pub apart : one < other
  pub within : other < length xs
  pub same : nth xs one ≡ nth xs other

-- "A path is a walk: its first link touches the initiator, each link leads on from the device reached, the last reaches the target,
-- every device between is a router, and no device is met twice." The devices met are one more than the links.
pub record Walk (p : Plan) (start : ℕ) (links : List ℕ) (end : ℕ) : Type 0 where
  pub met : List ℕ
  pub one_more : length met ≡ length links + 1
  pub first : nth met 0 ≡ start
  pub leads : (k : ℕ) → k < length links → Joins p (nth links k) (nth met k) (nth met (k + 1))
  pub last : nth met (length links) ≡ end
  pub between : (k : ℕ) → 0 < k → k < length links → IsRouter p (nth met k)
  pub once : Twice met → ⊥

-- links of the plan with one number are one link, as in every plan that fields without a fault give
abbrev pub LinksDiffer : Plan → Type 0
LinksDiffer p = (l m : Link) → Memᴰ l p.links → Memᴰ m p.links → l.num ≡ m.num → l ≡ m
