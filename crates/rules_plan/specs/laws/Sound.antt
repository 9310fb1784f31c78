-- What the box relies on: the facts of a plan that an accepted file gives. Whoever runs a plan uses these and not the judge.
use Rattle.std.specs.Prelude.{◌≡◌, ◌≢◌, true, false, ℕ, ◌≤◌, ◌<◌, length}
use mathlib.Core.List.{Memᴰ}
use Rattle.lists.specs.Search.{repeats}
use Rattle.rules_plan.specs.Plan.{Entry, Times, Plan}
use Rattle.rules_plan.specs.Meaning.{is_initiator, initiators, may_use, runs_into}
use Rattle.rules_plan.specs.Good.{same_path_ends}
use Rattle.rules_plan.specs.laws.Sheets.{TimesRange}

pub record Sound (p : Plan) : Type 0 where
  pub initiator : (e : Entry) → Memᴰ e p.entries → is_initiator p e.initiator ≡ true
  pub below : (e : Entry) → Memᴰ e p.entries → e.initiator < 64
  pub slots : (e : Entry) → Memᴰ e p.entries → e.slot < 64
  pub some-span : (e : Entry) → Memᴰ e p.entries → 0 < e.span
  pub spans : (e : Entry) → Memᴰ e p.entries → e.span ≤ 16
  pub targets : (e : Entry) → Memᴰ e p.entries → (t : ℕ) → Memᴰ t e.targets → t < 64
  pub unique : (e f : Entry) → Memᴰ e p.entries → Memᴰ f p.entries → e.initiator ≡ f.initiator → e.slot ≡ f.slot → e ≡ f
  pub no-overrun : (e f : Entry) → Memᴰ e p.entries → Memᴰ f p.entries → runs_into e f ≡ false
  pub no-clash : (s i j l : ℕ) → s < 64 → i ≢ j → may_use p p.entries s i l ≡ true → may_use p p.entries s j l ≡ true → ⊥
  pub eight : length (initiators p) ≤ 8
  pub small : (i : ℕ) → is_initiator p i ≡ true → i < 64
  pub one-path : repeats same_path_ends p.paths ≡ false
  pub times : (x : Times) → Memᴰ x p.times → TimesRange x
