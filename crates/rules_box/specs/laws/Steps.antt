-- A step: accepted or refused, what it does to one side, to the plan and to the records.
use Rattle.std.specs.Prelude.{◌≡◌, ◌≢◌, List, [], Bool, ℕ}
use Rattle.std.proofs.Math.Path.{refl}
use Rattle.std.proofs.Math.Option.{some}
use Rattle.std.proofs.Math.Bool.{true, false}
use Rattle.std.proofs.Math.Dec.{eqb}
use Rattle.std.proofs.Common.{eqb-true, eq-eqb, ne_eqb}
use Rattle.std.proofs.lemmas.Bool.{eqb-false}
use Rattle.lists.specs.laws.Bools.{cond_cases}
use Rattle.rules_plan.specs.declared.Refusal.{Refusal}
use Rattle.rules_plan.specs.Numbers.{refusal_number}
use Rattle.rules_box.specs.declared.Event.{Event}
use Rattle.rules_box.specs.declared.Event.TheVariants.{TimeCode, Request, Reply, Reading}
use Rattle.rules_box.specs.Answer.{Refused}
use Rattle.rules_box.specs.declared.Watchdog.{Watchdog}
use Rattle.rules_box.specs.State.{Box, Side, Live, the_plan}
use Rattle.rules_box.specs.Refuse.{refusal}
use Rattle.rules_box.specs.Records.{Record, records}
use Rattle.rules_box.specs.Step.{step, accepts, Outcome, with_side, ticked}

module _ (room : ℕ) (b : Box) (w : Watchdog) (e : Event) where
  abbrev pub refused : Outcome
  refused = record { answer = Refused (refusal room b e); box = b; watchdog = w; records = [] }

  pub step-accepted : refusal room b e ≡ 0 → step room b w e ≡ accepts b w e
  unfolding step
  step-accepted h = rw (h, step)

  pub step-refused : refusal room b e ≢ 0 → step room b w e ≡ refused
  unfolding step
  step-refused h = rw (ne_eqb (refusal room b e) 0 h, step)

  pub step-cases : (P : Outcome → Type 0) → (refusal room b e ≡ 0 → P (accepts b w e)) → (refusal room b e ≢ 0 → P refused) → P (step room b w e)
  unfolding step
  step-cases P f g = go (eqb (refusal room b e) 0) refl
    where
      go : (x : Bool) → eqb (refusal room b e) 0 ≡ x → P (step room b w e)
      go true h = rw (h, step) (f (eqb-true (refusal room b e) 0 h))
      go false h = rw (h, step) (g (eqb-false (refusal room b e) 0 h))

-- the side that changes
pub side-changed : (b : Box) (i : ℕ) (f : Side → Side) → (with_side b i f).side i ≡ f (b.side i)
unfolding with_side
side-changed b i f = rw (eq-eqb i i refl)

-- any side: what holds of both holds of it
pub side-cases : (P : Side → Type 0) (b : Box) (i j : ℕ) (f : Side → Side) → P (f (b.side j)) → P (b.side j) → P ((with_side b i f).side j)
unfolding with_side
side-cases P b i j f new old = cond_cases P (eqb j i) (f (b.side j)) (b.side j) (λ _. new) (λ _. old)

-- a change that makes nothing live
pub live-kept : (b : Box) (i j : ℕ) (f : Side → Side) (l : Live) → ((s : Side) → (f s).live ≡ some l → s.live ≡ some l) → ((with_side b i f).side j).live ≡ some l → (b.side j).live ≡ some l
live-kept b i j f l keeps h = side-cases (λ (s : Side). s.live ≡ some l → (b.side j).live ≡ some l) b i j f (keeps (b.side j)) (λ k. k) h

-- no event changes the plan
pub plan-kept : (room : ℕ) (b : Box) (w : Watchdog) (e : Event) → the_plan (step room b w e).box ≡ the_plan b
unfolding accepts ticked with_side the_plan
plan-kept room b w e = step-cases room b w e (λ (o : Outcome). the_plan o.box ≡ the_plan b) (λ _. by e) (λ _. refl)
  where
    by : (x : Event) → the_plan (accepts b w x).box ≡ the_plan b
    by (TimeCode byte clock) = refl
    by (Request i t k n) = refl
    by (Reply i m status) = refl
    by (Reading clock) = refl

-- the records of an event: none, or those of an accepted time-code
pub records-cases : (room : ℕ) (b : Box) (w : Watchdog) (e : Event) (P : List Record → Type 0) → P []
    → ((byte clock : ℕ) → e ≡ TimeCode byte clock → P (records b w byte clock)) → P (step room b w e).records
unfolding accepts
records-cases room b w e P f g = step-cases room b w e (λ (o : Outcome). P o.records) (λ _. by e refl) (λ _. f)
  where
    by : (x : Event) → e ≡ x → P (accepts b w x).records
    by (TimeCode byte clock) is = g byte clock is
    by (Request i t k n) is = f
    by (Reply i m status) is = f
    by (Reading clock) is = f
