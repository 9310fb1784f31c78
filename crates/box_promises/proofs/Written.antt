-- The records that an event leaves in the buffer, by their places: as many as the answer counts, eight bytes each.
use mathlib.Core.Path.{◌≡◌, refl, ap, ◌∙◌}
use mathlib.Core.List.{List, flat_map, Memᴰ}
use mathlib.Core.Option.{Option, none, some}
use Prim.Native.Nat.{ℕ, ◌*◌, ◌<◌}
use native.Mathlib.Omega.{arith}
use lib.ListN.{length, drop}
use Rattle.lists.specs.Place.{at_place}
use Rattle.lists.specs.laws.Even.{flat-row}
use Rattle.lists.specs.laws.At.{member-at, at_some}
use Rattle.rules_box.specs.declared.Event.{Event}
use Rattle.rules_box.specs.declared.Event.TheVariants.{TimeCode, Request, Reply, Reading}
use Rattle.rules_box.specs.Answer.{Answer, values}
use Rattle.rules_box.specs.declared.Watchdog.{Watchdog}
use Rattle.rules_box.specs.State as state
use Rattle.rules_box.specs.State.{Box, Live}
use Rattle.rules_box.specs.Records.{Record, record_bytes, recorded, full}
use Rattle.rules_box.specs.Step.{step, accepts, Outcome, ended_by, clock_of}
use Rattle.rules_box.specs.laws.Steps.{step-cases}
use Rattle.box_calls.specs.Calls.{Lent}
use Rattle.box_promises.specs.Words.{count_of, record_at}
use Rattle.box_promises.specs.Promises.{OutcomeOf, Shows}

record-bytes : (clock : ℕ) (rs : List Record) (buffer : List ℕ) (j : ℕ) (r : Record) → at_place j rs ≡ some r → record_at (recorded clock rs buffer) j ≡ record_bytes clock r
unfolding record_at recorded record_bytes
record-bytes clock rs buffer j r at =
    let (rest, e) = flat-row (record_bytes clock) 8 rs (drop (length (flat_map (record_bytes clock) rs)) buffer) (λ x m. refl) j r at in
    let n : 8 * j ≡ j * 8 = omega arith in
    rw (n, e)

-- the answer counts the records
no-count : (status : ℕ) (o : Option Live) → count_of (ended_by status o) ≡ 0
unfolding ended_by values
no-count status none = refl
no-count status (some l) = refl

counts : (room : ℕ) (b : Box) (w : Watchdog) (e : Event) → count_of (step room b w e).answer ≡ length (step room b w e).records
unfolding accepts values
counts room b w e = step-cases room b w e (λ (o : Outcome). count_of o.answer ≡ length o.records) (λ _. by e) (λ _. refl)
  where
    by : (x : Event) → count_of (accepts b w x).answer ≡ length (accepts b w x).records
    by (TimeCode byte clock) = refl
    by (Request i t k n) = refl
    by (Reply i m status) = no-count status (b.side i).live
    by (Reading clock) = refl

module _ {before after : Lent} {answer : Answer} (room : ℕ) (b : Box) (w : Watchdog) (e : Event) (o : OutcomeOf (step room b w e) before e answer after) where
  counted : count_of answer ≡ length (step room b w e).records
  counted = ap count_of o.answer ∙ counts room b w e

  -- a record at its place
  pub written_at : (j : ℕ) (r : Record) → at_place j (step room b w e).records ≡ some r → record_at after.records j ≡ record_bytes (clock_of e) r
  written_at j r at = ap (λ (bytes : List ℕ). record_at bytes j) o.records ∙ record-bytes (clock_of e) (step room b w e).records before.records j r at

  pub at-place : (j : ℕ) → j < count_of answer → (r : Record) × (at_place j (step room b w e).records ≡ some r)
  at-place j low = at_some (step room b w e).records j (omega (arith, counted))

  -- a record of the rules is in the buffer
  pub shown-in : (kind i v : ℕ) (r : state.Request) → Memᴰ (full kind i v r) (step room b w e).records → Shows kind e answer after.records i r
  shown-in kind i v r m =
      let (j, within, at) = member-at (step room b w e).records (full kind i v r) m in
      record { place = j; counted = omega (arith, counted); value = v; bytes = written_at j (full kind i v r) at }
