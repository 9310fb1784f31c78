-- Laws of `sets`: what the three words tell of a device or a link, and a word with one more in it.
use Rattle.std.specs.Prelude.{◌≡◌, refl, List, Bool, false, ◌&&◌, ◌||◌, ℕ, ◌^◌, ◌<◌, set, eqb}
use Rattle.std.proofs.Common.{sym, ◌∙◌, lt-ltb, eq-eqb}
use Rattle.std.proofs.Math.Path.{ap}
use Rattle.std.proofs.Math.Bool.{and-true, and-false, or-false, or_comm}
use Rattle.lists.specs.laws.More.{any-more}
use Rattle.bitsets.specs.Set.{member, added, packed}
use Rattle.bitsets.specs.Packed.{packed-is, packed-same, member-packed-below}
use Rattle.rules_plan.specs.Plan.{nth, Device, Link, Plan, device, link, grow}
use Rattle.rules_plan.specs.Meaning.{is_device, has_kind, is_node, is_link}
use Rattle.rules_plan.specs.Judge.{out_of_range}
use Rattle.rules_plan.specs.Good.{Each}
use Rattle.rules_plan.specs.laws.Kinds.{node-or-router}
use Rattle.memory_plan.specs.Memory.{sets_of}
use Rattle.memory_plan.specs.Take.{device_item, link_item}

more-kind : (p : Plan) (d : Device) (k n : ℕ) → has_kind (grow p (device d)) k n ≡ has_kind p k n || (eqb n d.num && eqb k d.kind)
unfolding has_kind grow
more-kind p d k n = any-more _ p.devices d

more-links : (p : Plan) (l : Link) (n : ℕ) → is_link (grow p (link l)) n ≡ is_link p n || eqb n l.num
unfolding is_link grow
more-links p l n = any-more _ p.links l

-- one more in a word
packed_more : (t u : ℕ → Bool) (n x : ℕ) → x < 2 ^ 64 → ((k : ℕ) → member k x ≡ added n (packed t) k) → ((k : ℕ) → u k ≡ t k || eqb k n) → x ≡ packed u
packed_more t u n x h a f =
    packed-is x u h
    (λ k l. a k ∙ rw (lt-ltb k 64 l, member-packed-below k t l, and-true (eqb k n), or_comm (eqb k n) (t k)) (sym (f k)))

module _ (p : Plan) (sets : List ℕ) (held : sets ≡ sets_of p) where
  -- the three words
  nodes-are : nth sets 0 ≡ packed (has_kind p 0)
  unfolding sets_of
  nodes-are = ap (λ l. nth l 0) held

  routers-are : nth sets 1 ≡ packed (has_kind p 1)
  unfolding sets_of
  routers-are = ap (λ l. nth l 1) held

  links-are : nth sets 2 ≡ packed (is_link p)
  unfolding sets_of
  links-are = ap (λ l. nth l 2) held

  -- what they tell of a number below 64
  pub node-told : (n : ℕ) → n < 64 → member n (nth sets 0) ≡ is_node p n
  unfolding is_node
  node-told n h = rw nodes-are (member-packed-below n (has_kind p 0) h)

  pub link-told : (n : ℕ) → n < 64 → member n (nth sets 2) ≡ is_link p n
  link-told n h = rw links-are (member-packed-below n (is_link p) h)

  pub device-told : Each p out_of_range false → (n : ℕ) → n < 64 → member n (nth sets 0) || member n (nth sets 1) ≡ is_device p n
  device-told r n h =
      rw (nodes-are, routers-are, member-packed-below n (has_kind p 0) h, member-packed-below n (has_kind p 1) h) (sym (node-or-router p r n))

  -- a word x that has n and what the word had is the word of the plan with one more; the other words are as they were
  module _ (n x : ℕ) (fits : x < 2 ^ 64) where
    kind-word : (kind : ℕ) → ((k : ℕ) → member k x ≡ added n (packed (has_kind p kind)) k) → x ≡ packed (has_kind (grow p (device_item n kind)) kind)
    kind-word kind a = packed_more (has_kind p kind) _ n x fits a (λ k. more-kind p _ kind k ∙ rw (eq-eqb kind kind refl, and-true (eqb k n)))

    other-kind : (kind other : ℕ) → eqb other kind ≡ false → packed (has_kind p other) ≡ packed (has_kind (grow p (device_item n kind)) other)
    other-kind kind other e = packed-same (has_kind p other) _ (λ k _. sym (more-kind p _ other k ∙ rw (e, and-false, or-false)))

    pub sets-node : ((k : ℕ) → member k x ≡ added n (nth sets 0) k) → set sets 0 x ≡ sets_of (grow p (device_item n 0))
    unfolding sets_of is_link grow
    sets-node a = rw (held, kind-word 0 (rw nodes-are at a), other-kind 0 1 refl)

    pub sets-router : ((k : ℕ) → member k x ≡ added n (nth sets 1) k) → set sets 1 x ≡ sets_of (grow p (device_item n 1))
    unfolding sets_of is_link grow
    sets-router a = rw (held, kind-word 1 (rw routers-are at a), other-kind 1 0 refl)

    pub sets-link : (one other : ℕ) → ((k : ℕ) → member k x ≡ added n (nth sets 2) k) → set sets 2 x ≡ sets_of (grow p (link_item n one other))
    unfolding sets_of has_kind grow
    sets-link one other a = rw (held, packed_more (is_link p) (is_link (grow p (link_item n one other))) n x fits (rw links-are at a) (more-links p _))
