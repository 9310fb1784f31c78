-- What is live in a row of memory, and the words that say so.
use mathlib.Core.Path.{ap, ◌≡◌, refl, ◌∙◌}
use mathlib.Core.Logic.{◌≢◌}
use mathlib.Core.Option.{Option, none, some}
use Prim.Native.Nat.{ℕ, ◌+◌, ◌-◌, ◌*◌, ◌<◌}
use Rattle.lists.specs.Place.{at_place}
use Rattle.rules_plan.specs.Meaning.{initiators}
use Rattle.memory_plan.specs.View.{Owner, owner}
use Rattle.memory_plan.specs.laws.Entries.{owner_at}
use Rattle.rules_box.specs.State.{Box, Live, idle, the_plan}
use Rattle.memory_run.specs.Run.{word_of, live_word, live_time, side_of}
use Rattle.box_calls.specs.Calls.{Memory}
use Rattle.box_promises.specs.Words.{run_word}
use Rattle.box_promises.specs.Promises.{HeldBy}
use Rattle.box_promises.proofs.Rows.{live-word, live-time}

-- the live transaction of a row that says so
pub record Lives (m : Memory) (b : Box) (r : ℕ) : Type 0 where
  pub initiator : ℕ
  pub place : at_place r (initiators (the_plan b)) ≡ some initiator
  pub live : Live
  pub is : (b.side initiator).live ≡ some live

pub lives : (m : Memory) (b : Box) → HeldBy m b → (r : ℕ) → r < 8 → run_word m r 11 ≢ 0 → Lives m b r
unfolding side_of live_time idle
lives m b h r low n = go (at_place r (initiators (the_plan b))) refl
  where
    by : (i : ℕ) → at_place r (initiators (the_plan b)) ≡ some i → (o : Option Live) → (b.side i).live ≡ o → Lives m b r
    by i at none is = absurd (n (live-time m b h r low ∙ rw (at, side_of, is, live_time)))
    by i at (some l) is = record { initiator = i; place = at; live = l; is = is }

    go : (o : Option ℕ) → at_place r (initiators (the_plan b)) ≡ o → Lives m b r
    go none at = absurd (n (live-time m b h r low ∙ rw (at, side_of)))
    go (some i) at = by i at (b.side i).live refl

-- its words
module _ (m : Memory) (b : Box) (h : HeldBy m b) (r i : ℕ) (low : r < 8) (at : at_place r (initiators (the_plan b)) ≡ some i) (l : Live) (is : (b.side i).live ≡ some l) where
  pub word-is : run_word m r 10 ≡ word_of (owner (the_plan b) i) l.request
  unfolding side_of live_word
  word-is = live-word m b h r low ∙ ap (λ (o : Owner). live_word o (side_of (the_plan b) b.side r).live) (owner_at (the_plan b) r i at) ∙ rw (at, side_of, is, live_word)

  pub time-is : run_word m r 11 ≡ (l.span - l.age) * 256 + l.span
  unfolding side_of live_time
  time-is = live-time m b h r low ∙ rw (at, side_of, is, live_time)
