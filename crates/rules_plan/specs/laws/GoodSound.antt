-- A good plan is sound.
use Rattle.std.specs.Prelude.{◌≡◌, refl, ◌≢◌, Bool, true, false, ℕ, ◌<◌}
use Rattle.std.proofs.Common.{sym, arith}
use mathlib.Core.List.{Memᴰ}
use Rattle.std.proofs.Math.Decide.{dec_lt}
use Rattle.std.proofs.Math.Dec.{eqb}
use borrow.Author.Tests.{eqb-true}
use Rattle.lists.specs.laws.Bools.{true-both}
use Rattle.lists.specs.laws.Search.{any-elim}
use Rattle.rules_plan.specs.Plan.{Route, Entry, Plan, times}
use Rattle.rules_plan.specs.Meaning.{is_initiator, may_use, runs_into}
use Rattle.rules_plan.specs.Good.{Good}
use Rattle.rules_plan.specs.laws.Ranges.{EntryRange, times-ranged}
use Rattle.rules_plan.specs.laws.Items.{times-in}
use Rattle.rules_plan.specs.laws.InRange.{path-ranged}
use Rattle.rules_plan.specs.laws.Entries.{entry-once, entry-ranges, entry-initiator}
use Rattle.rules_plan.specs.laws.Overruns.{runs-into, overrun-none}
use Rattle.rules_plan.specs.laws.Clashes.{clash-test, clash-none}
use Rattle.rules_plan.specs.laws.Sound.{Sound}

module _ (p : Plan) (good : Good p) where
  pub good-entry : (e : Entry) → Memᴰ e p.entries → EntryRange e
  good-entry = entry-ranges p good.lengths good.ranges good.reached

  -- an initiator stands first in a path
  good-initiator : (i : ℕ) → is_initiator p i ≡ true → i < 64
  unfolding is_initiator
  good-initiator i h =
      let (x, m, e) = any-elim (λ (x : Route). eqb i x.start) p.paths h in
      omega (arith, eqb-true i x.start e, (path-ranged p good.ranges x m).start)

  pub good-sound : Sound p
  good-sound = record {
    initiator = entry-initiator p good.lengths good.ranges good.reached;
    below = λ e m. (good-entry e m).initiator;
    slots = λ e m. (good-entry e m).slot;
    some-span = λ e m. (good-entry e m).some-span;
    spans = λ e m. (good-entry e m).span;
    targets = λ e m. (good-entry e m).targets;
    unique = entry-once p.entries good.entries;
    no-overrun = λ e f m n. apart_from e f m n (runs_into e f) refl;
    no-clash = λ s i j l hs d mi mj. apart s i j l hs d mi mj (dec_lt i j);
    eight = good.eight;
    small = good-initiator;
    one-path = good.paths;
    times = λ x m. times-ranged x (good.ranges (times x) (times-in p x m));
  }
    where
      -- an entry that runs into another is an overrun
      apart_from : (e f : Entry) → Memᴰ e p.entries → Memᴰ f p.entries → (b : Bool) → runs_into e f ≡ b → runs_into e f ≡ false
      apart_from e f m n false h = h
      apart_from e f m n true h =
          let (a, d, c) = (runs-into e f).0 h in
          absurd ((overrun-none p.entries good-entry).0 good.no-overrun e.initiator e.slot
          (record { mine = e; other = f; has-mine = m; has_other = n; of-mine = refl; of_other = sym a; at-mine = refl; apart = d; over = c }))

      -- two that may use one link in one slot clash
      meet : (s i j l : ℕ) → s < 64 → i < j → may_use p p.entries s i l ≡ true → may_use p p.entries s j l ≡ true → ⊥
      meet s i j l hs h mi mj =
          (clash-none p p.entries good.ranges good-entry).0 good.no-clash s i j l
          ((clash-test p p.entries s i j l hs h).0 (true-both mi mj))

      apart : (s i j l : ℕ) → s < 64 → i ≢ j → may_use p p.entries s i l ≡ true → may_use p p.entries s j l ≡ true → Dec (i < j) → ⊥
      apart s i j l hs d mi mj (yes h) = meet s i j l hs h mi mj
      apart s i j l hs d mi mj (no h) = meet s j i l hs (omega arith) mj mi
