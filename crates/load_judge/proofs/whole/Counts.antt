-- The counts of a plan from its memory: the sets have as many members as there are devices and links.
use mathlib.Core.Path.{◌≡◌, sym, ◌∙◌}
use mathlib.Core.List.{List}
use mathlib.Core.Bool.{◌||◌}
use Prim.Native.Nat.{ℕ}
use lib.ListN.{length}
use borrow.Author.Tests.{eq-eqb}
use Rattle.lists.specs.laws.Counting.{count_same, count-keys}
use Rattle.bitsets.specs.Set.{member, size_of, packed}
use Rattle.bitsets.specs.Packed.{member-packed-below}
use Rattle.rules_plan.specs.declared.Verdict.TheVariants.{Accepted}
use Rattle.rules_plan.specs.Plan.{nth, Device, Link, Plan, device, link}
use Rattle.rules_plan.specs.Meaning.{is_device, has_kind, is_link}
use Rattle.rules_plan.specs.Judge.{counts}
use Rattle.rules_plan.specs.Good.{same_device_number, same_link_number}
use Rattle.rules_plan.specs.laws.Ranges.{device-range, link-range}
use Rattle.rules_plan.specs.laws.Items.{device-in, link-in}
use Rattle.rules_plan.specs.laws.Kinds.{node-or-router}
use Rattle.rules_plan.specs.laws.Fair.{Fair}
use Rattle.memory_plan.specs.Memory.{sets_of, numbers_with}

module _ (p : Plan) (fair : Fair p) where
  pub size-devices : (u : ℕ) → ((k : ℕ) → member k u ≡ member k (packed (has_kind p 0)) || member k (packed (has_kind p 1))) → size_of u ≡ length p.devices
  unfolding size_of is_device same_device_number
  size-devices u h =
      count_same 64 _ (is_device p) (λ k l. h k ∙ rw (member-packed-below k (has_kind p 0) l, member-packed-below k (has_kind p 1) l) (sym (node-or-router p fair.ranges k)))
      ∙ count-keys same_device_number (λ (d : Device). d.num) 64 p.devices (λ c d e. eq-eqb c.num d.num e)
      (λ d m. (device-range d (fair.ranges (device d) (device-in p d m))).num) fair.lists.devices

  pub size-links : size_of (packed (is_link p)) ≡ length p.links
  unfolding size_of is_link same_link_number
  size-links =
      count_same 64 _ (is_link p) (λ k l. member-packed-below k (is_link p) l)
      ∙ count-keys same_link_number (λ (l : Link). l.num) 64 p.links (λ l m e. eq-eqb l.num m.num e)
      (λ l m. (link-range l (fair.ranges (link l) (link-in p l m))).num) fair.lists.links

  -- the verdict with these counts
  pub counts-are : (size u : ℕ) {s w : List ℕ} {d l : ℕ} → s ≡ sets_of p → w ≡ numbers_with size p
      → ((k : ℕ) → member k u ≡ member k (nth s 0) || member k (nth s 1)) → d ≡ size_of u → l ≡ size_of (nth s 2)
      → Accepted d l (nth w 3) (nth w 4) ≡ counts p
  unfolding sets_of numbers_with counts
  counts-are size u {s} {w} {d} {l} is numbers union devices links =
      let m : d ≡ length p.devices = devices ∙ size-devices u (rw is at union) in
      let n : l ≡ length p.links = links ∙ (rw is size-links) in
      rw (m, n, numbers)
