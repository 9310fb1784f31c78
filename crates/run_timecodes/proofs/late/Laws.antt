-- Lateness of one initiator: which record is put.
use mathlib.Core.Path.{◌≡◌, refl}
use Rattle.std.specs.Prelude.{Some, None}
use mathlib.Core.List.{List, flat_map}
use mathlib.Core.Option.{Option, none, some}
use mathlib.Core.Bool.{Bool, true, false, cond}
use Prim.Native.Nat.{ℕ}
use Rattle.lists.specs.Options.{as_option}
use Rattle.lists.specs.Search.{only}
use Rattle.lists.specs.Puts.{Puts}
use Rattle.lists.specs.laws.Puts.{puts_none}
use Rattle.memory_plan.specs.View.{Owner}
use Rattle.rules_box.specs.State.{Request, Live}
use Rattle.rules_box.specs.Turn.{is_late}
use Rattle.rules_box.specs.Records.{record_bytes, full, late_record}
use Rattle.rules_box.specs.laws.Fit.{FitRequest, FitLive}
use Rattle.memory_run.specs.Run.{word_of}
use Rattle.run_turns.specs.Turns.{late_of}
use Rattle.run_records.specs.laws.One.{puts_one}

module _ (clock : ℕ) (n : Owner) (v : ℕ) (q : Bool) where
  -- what is live is late
  pub late-puts : (o : Option Live) → ((l : Live) → o ≡ some l → FitLive l) → (word : ℕ) → Some word ≡ as_option (late_of q n o) → (before after : List ℕ) (j k : ℕ)
      → ((x : Request) → FitRequest x → word ≡ word_of n x → Puts before j (record_bytes clock (full 4 n.initiator v x)) after k) → Puts before j (flat_map (record_bytes clock) (late_record q n.initiator v o)) after k
  unfolding late_record late_of only
  late-puts none f word is before after j k p = absurd (cc)
  late-puts (some l) f word is before after j k p = go (is_late q l) is
    where
      go : (b : Bool) → Some word ≡ as_option (cond b (some (word_of n l.request)) none)
          → Puts before j (flat_map (record_bytes clock) (only b (full 4 n.initiator v l.request))) after k
      go true is = puts_one clock (full 4 n.initiator v l.request) (p l.request (f l refl).request (cc))
      go false is = absurd (cc)

  pub late-not : (o : Option Live) → None ≡ as_option (late_of q n o) → (before : List ℕ) (j : ℕ) → Puts before j (flat_map (record_bytes clock) (late_record q n.initiator v o)) before j
  unfolding late_record late_of only flat_map
  late-not none is before j = puts_none before j
  late-not (some l) is before j = go (is_late q l) is
    where
      go : (b : Bool) → None ≡ as_option (cond b (some (word_of n l.request)) none)
          → Puts before j (flat_map (record_bytes clock) (only b (full 4 n.initiator v l.request))) before j
      go true is = absurd (cc)
      go false is = puts_none before j
