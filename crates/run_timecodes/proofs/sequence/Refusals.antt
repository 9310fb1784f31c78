-- Whether a time-code is in sequence, and its refusals.
use mathlib.Core.Path.{◌≡◌, refl, ap}
use mathlib.Core.Logic.{◌≢◌}
use mathlib.Core.Option.{Option, none, some}
use mathlib.Core.Bool.{true, false}
use Prim.Native.Nat.{ℕ, ◌+◌, ◌%◌, ◌≤◌, ◌<◌}
use native.Mathlib.Omega.{arith}
use lib.Dec.{eqb}
use borrow.Author.Tests.{le-leb, lt-leb, lt-ltb, le-ltb}
use Rattle.lists.specs.Search.{is_some}
use Rattle.lists.specs.Rows.{first_of}
use Rattle.rules_box.specs.declared.Event.TheVariants.{TimeCode}
use Rattle.rules_box.specs.State.{Box, no_plan}
use Rattle.rules_box.specs.Refuse.{refusal, refusals}
use Rattle.rules_box.specs.Turn.{value_of, in_sequence}
use Rattle.memory_run.specs.Run.{last_of}

-- the sequence rule, on the number that tells the last time-code
pub first-in : (last byte : ℕ) → last ≡ 0 → (o : Option ℕ) → last ≡ last_of o → true ≡ in_sequence o byte
unfolding last_of in_sequence
first-in last byte h none e = refl
first-in last byte h (some w) e = absurd (omega arith)

pub next-in : (last byte : ℕ) → last ≢ 0 → (o : Option ℕ) → last ≡ last_of o → eqb (byte % 64) (last % 64) ≡ in_sequence o byte
unfolding last_of in_sequence value_of
next-in last byte h none e = absurd (h e)
next-in last byte h (some w) e = let z : last % 64 ≡ (w % 64 + 1) % 64 = omega arith in ap (eqb (byte % 64)) z

-- the rows of the table
module _ (room byte clock : ℕ) (b : Box) where
  pub refuses-20 : is_some b.plan ≡ false → 20 ≡ refusal room b (TimeCode byte clock)
  unfolding refusal refusals first_of no_plan
  refuses-20 p = rw p

  module _ (p : is_some b.plan ≡ true) where
    pub refuses-21 : 64 ≤ byte → 21 ≡ refusal room b (TimeCode byte clock)
    unfolding refusal refusals first_of no_plan
    refuses-21 h = rw (p, le-leb 64 byte h)

    module _ (h : byte < 64) where
      pub refuses-29 : room < 136 → 29 ≡ refusal room b (TimeCode byte clock)
      unfolding refusal refusals first_of no_plan
      refuses-29 l = rw (p, lt-leb 64 byte h, lt-ltb room 136 l)

      pub refuses-none : 136 ≤ room → 0 ≡ refusal room b (TimeCode byte clock)
      unfolding refusal refusals first_of no_plan
      refuses-none l = rw (p, lt-leb 64 byte h, le-ltb room 136 l)
