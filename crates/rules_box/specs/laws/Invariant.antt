-- What holds of every box: its plan is sound, and each live transaction started at an entry that covers the present slot.
use Rattle.std.specs.Prelude.{◌≡◌, refl, ◌⊎◌, Bool, true, ℕ, ◌+◌, ◌%◌, ◌<◌}
use Rattle.std.proofs.Common.{inl, inr, arith, eqb-true}
use mathlib.Core.List.{List, Memᴰ}
use Rattle.std.proofs.Math.Option.{Option, some}
use Rattle.lists.specs.laws.Bools.{none-some, cond_cases}
use Rattle.lists.specs.laws.Place.{first_some_lem}
use Rattle.rules_plan.specs.Plan.{Entry, Plan}
use Rattle.rules_plan.specs.Verdict.{number}
use Rattle.rules_plan.specs.Judge.{judge}
use Rattle.rules_plan.specs.Canon.{plan_of}
use Rattle.rules_plan.specs.laws.Sound.{Sound}
use Rattle.rules_box.specs.declared.Event.{Event}
use Rattle.rules_box.specs.declared.Event.TheVariants.{TimeCode, Request, Reply, Reading}
use Rattle.rules_box.specs.declared.Watchdog.{Watchdog}
use Rattle.rules_box.specs.State.{Box, Side, Live, idle, cleared, holding, is_accepted, loaded, the_plan}
use Rattle.rules_box.specs.Turn.{Start, value_of, in_sequence, older, allows, fresh, join, finish, start_of, turned}
use Rattle.rules_box.specs.Step.{step, accepts, Outcome, with_side, ticked}
use Rattle.rules_box.specs.History.{Reached, by-clear, by-load, by-event}
use Rattle.rules_plan.specs.Promises.{AcceptedIsSound}
use Rattle.rules_plan.specs.laws.Runs.{permits-target, sound-blank}
use Rattle.rules_box.specs.laws.Turns.{Outlives, Begins, begins, live-cases}
use Rattle.rules_box.specs.laws.Steps.{step-cases, live-kept}

-- a live transaction's entry: as many slots before the present one as the transaction is old, and still covering it
pub record AtWork (p : Plan) (last : Option ℕ) (i : ℕ) (l : Live) : Type 0 where
  pub entry : Entry
  pub has : Memᴰ entry p.entries
  pub own : entry.initiator ≡ i
  pub aims : Memᴰ l.request.target entry.targets
  pub spans : l.span ≡ entry.span
  pub young : l.age < entry.span
  pub byte : ℕ
  pub seen : last ≡ some byte
  pub now : value_of byte ≡ (entry.slot + l.age) % 64

abbrev pub AllAtWork : Plan → Option ℕ → (ℕ → Side) → Type 0
AllAtWork p last side = (i : ℕ) (l : Live) → (side i).live ≡ some l → AtWork p last i l

pub record Inv (b : Box) : Type 0 where
  pub sound : Sound (the_plan b)
  pub live : AllAtWork (the_plan b) b.last b.side

-- in sequence the value is one more
pub next-value : (w byte : ℕ) → in_sequence (some w) byte ≡ true → value_of byte ≡ (value_of w + 1) % 64
unfolding in_sequence
next-value w byte h = eqb-true (value_of byte) ((value_of w + 1) % 64) h

module _ (p : Plan) (last : Option ℕ) (byte i : ℕ) where
  -- what outlives the report is at work in the next slot
  pub older-at-work : (o : Option Live) (l : Live) → ((m : Live) → o ≡ some m → AtWork p last i m) → Outlives (in_sequence last byte) o l → AtWork p (some byte) i l
  unfolding older
  older-at-work o l old z = go (old z.was z.before)
    where
      go : AtWork p last i z.was → AtWork p (some byte) i l
      go k = rw z.is (record {
        entry = k.entry;
        has = k.has;
        own = k.own;
        aims = k.aims;
        spans = k.spans;
        young = omega (arith, z.young, k.spans);
        byte = byte;
        seen = refl;
        now = omega (arith, next-value k.byte byte (rw k.seen at z.in-sequence), k.now);
      })

  -- what starts is at work in its entry's own slot
  fresh-at-work : Sound p → (q : Bool) (s : Side) (x : Start) → Begins p q byte i s x → AtWork p (some byte) i (fresh x)
  unfolding fresh allows
  fresh-at-work ok q s x z = let e = x.entry in let r = x.found.what in record {
    entry = e;
    has = z.at.has;
    own = z.at.own;
    aims = permits-target p e r.target r.length (first_some_lem (allows p e) s.line x.found z.found).1;
    spans = refl;
    young = ok.some-span e z.at.has;
    byte = byte;
    seen = refl;
    now = omega (arith, z.at.slot, ok.slots e z.at.has);
  }

  pub turned-at-work : Sound p → (s : Side) (l : Live) → ((m : Live) → s.live ≡ some m → AtWork p last i m) → (turned p (in_sequence last byte) byte i s).live ≡ some l → AtWork p (some byte) i l
  turned-at-work ok s l old h = go (live-cases p (in_sequence last byte) byte i s l h)
    where
      go : Outlives (in_sequence last byte) s.live l ⊎ ((x : Start) × (start_of p (in_sequence last byte) byte i s ≡ some x) × (l ≡ fresh x)) → AtWork p (some byte) i l
      go (inl z) = older-at-work s.live l old z
      go (inr (x, k, is)) = rw is (fresh-at-work ok (in_sequence last byte) s x (begins p (in_sequence last byte) byte i s x k))

-- a change of one side that makes nothing live
with-inv : (b : Box) (i : ℕ) (f : Side → Side) → ((l : Live) (s : Side) → (f s).live ≡ some l → s.live ≡ some l) → Inv b → Inv (with_side b i f)
unfolding with_side the_plan
with-inv b i f keeps inv = record { sound = inv.sound; live = λ j l h. inv.live j l (live-kept b i j f l (keeps l) h) }

ticked-inv : (b : Box) (byte : ℕ) → Inv b → Inv (ticked b byte)
unfolding ticked the_plan
ticked-inv b byte inv = record {
  sound = inv.sound;
  live = λ i l h. turned-at-work (the_plan b) b.last byte i inv.sound (b.side i) l (inv.live i) h;
}

-- each event keeps it
accepted-inv : (b : Box) (w : Watchdog) (e : Event) → Inv b → Inv (accepts b w e).box
unfolding accepts join finish
accepted-inv b w (TimeCode byte clock) inv = ticked-inv b byte inv
accepted-inv b w (Request i t k n) inv = with-inv b i (join t k n) (λ l s h. h) inv
accepted-inv b w (Reply i m status) inv = with-inv b i finish (λ l s h. none-some h) inv
accepted-inv b w (Reading clock) inv = inv

pub step-inv : (room : ℕ) (b : Box) (w : Watchdog) (e : Event) → Inv b → Inv (step room b w e).box
step-inv room b w e inv = step-cases room b w e (λ (o : Outcome). Inv o.box) (λ _. accepted-inv b w e inv) (λ _. inv)

-- nothing is live in a box that has just been cleared or loaded
cleared-inv : Inv cleared
unfolding cleared idle the_plan
cleared-inv = record { sound = sound-blank; live = λ i l h. none-some h }

holding-inv : (p : Plan) → Sound p → Inv (holding p)
unfolding holding idle the_plan
holding-inv p ok = record { sound = ok; live = λ i l h. none-some h }

loaded-inv : AcceptedIsSound → (file : List ℕ) → Inv (loaded file)
unfolding loaded is_accepted AcceptedIsSound
loaded-inv ok file =
    cond_cases Inv (is_accepted file) (holding (plan_of file)) cleared (λ h. holding-inv (plan_of file) (ok file (eqb-true (number (judge file)) 0 h))) (λ _. cleared-inv)

pub reached-inv : AcceptedIsSound → (b : Box) → Reached b → Inv b
reached-inv ok b by-clear = cleared-inv
reached-inv ok b (by-load file) = loaded-inv ok file
reached-inv ok b (by-event {b = c} r room w e) = step-inv room c w e (reached-inv ok c r)
