-- What memory says of the whole plan that it holds: whether intervals and entries were given, and what a search found.
use mathlib.Core.Path.{◌≡◌, refl}
use mathlib.Core.Logic.{◌≢◌}
use mathlib.Core.List.Memᴰ
use mathlib.Core.List.{List, [], ◌∷◌}
use Prim.Native.Nat.{ℕ, ◌≤◌}
use native.Mathlib.Omega.{arith}
use Rattle.lists.specs.laws.Count.{none-counted}
use Rattle.rules_plan.specs.Plan.{nth, Timing, Plan, timing}
use Rattle.rules_plan.specs.Good.{Good}
use Rattle.rules_plan.specs.laws.Ranges.{timing-range}
use Rattle.rules_plan.specs.laws.Items.{timing-in}
use Rattle.rules_plan.specs.laws.Fair.{Fair}
use Rattle.rules_plan.specs.laws.Size.{most-entries}
use Rattle.rules_plan.specs.Meaning.{greatest_of}
use Rattle.memory_plan.specs.Memory.{numbers_with, numbers_of}

-- the intervals: the greatest is 0 where there are none
module _ (p : Plan) {w : List ℕ} (is : w ≡ numbers_of p) where
  none-there : Fair p → (ts : List Timing) → p.timings ≡ ts → greatest_of ts ≡ 0 → ts ≡ []
  unfolding greatest_of
  none-there fair [] e z = refl
  none-there fair (t ∷ ts) e z =
      let r = timing-range t (fair.ranges (timing t) (timing-in p t (rw e (Memᴰ.head refl)))) in
      absurd (omega (arith, r.some))

  pub without : Fair p → nth w 1 ≡ 0 → p.timings ≡ []
  unfolding numbers_with
  without fair z = none-there fair p.timings refl (rw is at z)

  pub with-them : nth w 1 ≢ 0 → p.timings ≢ []
  unfolding numbers_with greatest_of
  with-them h e = h (rw (is, e))

  -- the entries, counted
  pub without-entries : nth w 4 ≡ 0 → p.entries ≡ []
  unfolding numbers_with
  without-entries z = none-counted p.entries (rw is at z)

  pub with_entries_lem : nth w 4 ≢ 0 → p.entries ≢ []
  unfolding numbers_with
  with_entries_lem h e = h (rw (is, e))

  -- the counts that it names are small
  pub few : Good p → (nth w 3 ≤ 128) × (nth w 4 ≤ 512)
  unfolding numbers_with
  few good = rw is (good.most, most-entries p good)
