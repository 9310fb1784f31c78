-- Histories of the box: where its state comes from, events one after another, and a request followed by its place in the line.
use Rattle.std.specs.Prelude.{ℕ, ◌+◌, ◌-◌, List, [], ◌∷◌, Bool, true, false, not, ◌&&◌, ◌||◌, cond, ltb, eqb}
use Rattle.std.proofs.Math.Option.{Option, none, some}
use Rattle.rules_box.specs.declared.Event.{Event}
use Rattle.rules_box.specs.declared.Event.TheVariants.{TimeCode, Request, Reply, Reading}
use Rattle.rules_box.specs.declared.Watchdog.{Watchdog}
use Rattle.rules_box.specs.State.{Box, Live, cleared, loaded, the_plan}
use Rattle.rules_box.specs.Refuse.{refusal}
use Rattle.rules_box.specs.Turn.{Start, in_sequence, older, start_of}
use Rattle.rules_box.specs.Step.{step}

-- "A box's state comes only from a clear, which needs none before it, a load or an event". Each event is lent a record buffer of
-- some room and any five numbers.
pub data Reached : Box → Type 0 where
  by-clear : Reached cleared
  by-load : (file : List ℕ) → Reached (loaded file)
  by-event : {b : Box} → Reached b → (room : ℕ) (w : Watchdog) (e : Event) → Reached (step room b w e).box

-- an event with what is lent to it
pub record Offer : Type 0 where
  pub room : ℕ
  pub lent : Watchdog
  pub event : Event

unfoldable pub offered : Box → Offer → Box
offered b f = (step f.room b f.lent f.event).box

-- the box after the events
unfoldable pub after : Box → List Offer → Box
after b [] = b
after b (f ∷ fs) = after (offered b f) fs

-- a time-code that is accepted; and one that is in sequence
unfoldable pub is_tick : Box → ℕ → Event → Bool
is_tick b room (TimeCode byte clock) = eqb (refusal room b (TimeCode byte clock)) 0
is_tick b room (Request i t k n) = false
is_tick b room (Reply i m status) = false
is_tick b room (Reading clock) = false

unfoldable pub is_next : Box → Event → Bool
is_next b (TimeCode byte clock) = in_sequence b.last byte
is_next b (Request i t k n) = false
is_next b (Reply i m status) = false
is_next b (Reading clock) = false

-- what is live before an event and still after it: one time-code older where that was one that is accepted
unfoldable pub lasting : Box → ℕ → Event → Live → Live
lasting b room e l = cond (is_tick b room e) (older l) l

-- how many time-codes of the events are accepted
unfoldable pub ticks : Box → List Offer → ℕ
ticks b [] = 0
ticks b (f ∷ fs) = cond (is_tick b f.room f.event) 1 0 + ticks (offered b f) fs

-- all of these are in sequence
unfoldable pub all_next : Box → List Offer → Bool
all_next b [] = true
all_next b (f ∷ fs) = (not (is_tick b f.room f.event) || is_next b f.event) && all_next (offered b f) fs

-- what becomes of a request in a line at an event: it starts, or it waits at a place (the oldest at 0)
pub data Fate : Type 0 where
  starts : Fate
  waits : (place : ℕ) → Fate

-- one at the place taken leaves the line: the one at place k
unfoldable pub leaving : ℕ → ℕ → Fate
leaving taken k = elim (eqb taken k) [ true ↦ starts | false ↦ waits (cond (ltb taken k) (k - 1) k) ]

unfoldable pub fate_by : Option Start → ℕ → Fate
fate_by none k = waits k
fate_by (some x) k = leaving x.found.place k

-- the request at place k of initiator i's line
unfoldable pub fate : Box → ℕ → ℕ → ℕ → Event → Fate
fate b i k room (TimeCode byte clock) =
    elim (eqb (refusal room b (TimeCode byte clock)) 0) [
      | true ↦ fate_by (start_of (the_plan b) (in_sequence b.last byte) byte i (b.side i)) k
      | false ↦ waits k
    ]
fate b i k room (Request j t kind n) = waits k
fate b i k room (Reply j m status) = waits k
fate b i k room (Reading clock) = waits k

-- it starts at one of the events
unfoldable pub has_started : ℕ → ℕ → Box → List Offer → Bool
has_started i k b [] = false
has_started i k b (f ∷ fs) = elim (fate b i k f.room f.event) [ starts ↦ true | waits j ↦ has_started i j (offered b f) fs ]
