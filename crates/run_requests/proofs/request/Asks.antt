-- A request, row by row of the refusals; where the plan permits it, what is told of its initiator's row.
use mathlib.Core.Path.{◌≡◌, refl, sym, ap, ◌∙◌}
use mathlib.Core.List.{List, ◌++◌}
use mathlib.Core.Option.{Option, some}
use mathlib.Core.Bool.{Bool, true, false, not, ◌&&◌, cond}
use Prim.Native.Nat.{ℕ, ◌*◌, ◌^◌, ◌≤◌, ◌<◌}
use lib.ListN.{take, drop}
use lib.Dec.{eqb, ltb}
use borrow.Author.Tests.{lt-ltb, le-ltb}
use Rattle.lists.specs.Search.{is_some}
use Rattle.lists.specs.Rows.{first_of}
use Rattle.lists.specs.Place.{at_place}
use Rattle.lists.specs.laws.Bools.{cond_cases}
use Rattle.rules_plan.specs.Plan.{Plan}
use Rattle.bitsets.specs.Set.{member}
use Rattle.rules_plan.specs.Meaning.{is_initiator, initiators, least_span, may_start}
use Rattle.rules_plan.specs.laws.Permitted.{permitted-short}
use Rattle.memory_plan.specs.Spans.{least_in_words}
use Rattle.memory_plan.specs.View.{Timed, owner, owner_of}
use Rattle.memory_plan.specs.Turns.{turns_in, Aimed, long_at}
use Rattle.memory_plan.specs.laws.Costs.{least-told}
use Rattle.memory_plan.specs.laws.Turns.{by-words, none-aimed, may-told}
use Rattle.rules_box.specs.declared.Event.TheVariants.{Request}
use Rattle.rules_box.specs.Answer.{Answer, Refused}
use Rattle.rules_box.specs.declared.Watchdog.{Watchdog}
use Rattle.rules_box.specs.State.{Box, Side, no_plan, the_plan}
use Rattle.rules_box.specs.Turn.{join}
use Rattle.rules_box.specs.Refuse.{refusal, refusals}
use Rattle.rules_box.specs.Step.{step, accepts}
use Rattle.rules_box.specs.laws.Fit.{FitSide}
use Rattle.rules_box.specs.laws.Steps.{step-accepted}
use Rattle.memory_run.specs.Run.{row_of, side_of, changed, rows_with}
use Rattle.memory_run.specs.laws.RunSides.{on_row, runs-kept, runs-changed}
use Rattle.run_requests.specs.Asked.{is_full, asked_answer, asked_side}
use Rattle.memory_run.specs.Memory.{Finds, Answers}
use Rattle.memory_plan.specs.laws.Found.{Rowed}
use Rattle.memory_run.specs.laws.Found.{plan-by-row, is-initiator, its-row, no-initiator}
use Rattle.memory_run.specs.laws.Refused.{refuses}
use Rattle.ask_next.specs.Refused.{no_row, no_turn}
use Rattle.run_requests.proofs.Strangers.{refused-strange}

module _
    {b : Box}
    {rows spans aims numbers run last : List ℕ}
    (f : Finds b rows spans aims numbers run last)
    (room : ℕ)
    (w : Watchdog)
    (i t k n : ℕ)
    (row : ℕ)
    (rowed : Rowed rows numbers i row)
  where
    abbrev Gives : Answer → List ℕ → Type 0
    Gives r run' = Answers (step room b w (Request i t k n)) r run' last

    pub stranger : 8 ≤ row → (m : ℕ) → ((o : Option Plan) → Timed o numbers → m ≡ no_row o) → Gives (Refused m) run
    unfolding refusal refusals first_of no_plan
    stranger h = refused-strange f room w (Request i t k n) by
      where
        by : (x : Bool) → is_some b.plan ≡ x → refusal room b (Request i t k n) ≡ cond x 22 20
        by true e = rw (e, no-initiator f i row rowed h)
        by false e = rw e

    module _ (low : row < 8) where
      there : is_some b.plan ≡ true
      there = plan-by-row f i row rowed low

      own : is_initiator (the_plan b) i ≡ true
      own = is-initiator f i row rowed low

      at : at_place row (initiators (the_plan b)) ≡ some i
      at = its-row f i row rowed low

      pub other-kind : 1 < k → Gives (Refused 23) run
      unfolding refusal refusals first_of no_plan
      other-kind h = refuses room b w (Request i t k n) 23 refl (rw (there, own, lt-ltb 1 k h)) run last f.runs

      module _ (kind : k ≤ 1) where
        -- where the plan does not permit it, 24 or 25
        not-permitted : may_start (the_plan b) (the_plan b).entries i t n ≡ false → (m : ℕ) → m ≡ no_turn n → Gives (Refused m) run
        unfolding refusal refusals first_of no_plan no_turn
        not-permitted may m is =
            let some-row = cond_cases (λ (m : ℕ). eqb m 0 ≡ false) (ltb 4096 n) 24 25 (λ _. refl) (λ _. refl) in
            rw is (refuses room b w (Request i t k n) _ some-row (rw (there, own, le-ltb 1 k kind, may)) run last f.runs)

        -- no entry has the target
        pub unaimed : (aimed : ℕ) → Aimed aims row t aimed → aimed ≡ 0 → (m : ℕ) → m ≡ no_turn n → Gives (Refused m) run
        unfolding the_plan
        unaimed aimed told z = not-permitted (none-aimed (the_plan b) f.plan.sound row i at low t n aims f.plan.aims aimed told z)

      -- the set of its turns is read off the summary: it is empty where no entry permits it
      module _ (kind : k ≤ 1) (low-target : t < 64) (need : ℕ) (words : need ≡ least_in_words numbers row t n)
          (aimed : ℕ) (by-target : aimed ≡ turns_in aims row t)
          (set : ℕ) (small : set < 2 ^ 64) (read : (v : ℕ) → member v set ≡ (member v aimed && long_at aims row need v)) where
        least : need ≡ least_span (the_plan b) i t n
        unfolding the_plan
        least = words ∙ least-told (the_plan b) _ numbers f.plan.timed.numbers f.plan.sound row i t at low-target n

        may : may_start (the_plan b) (the_plan b).entries i t n ≡ not (eqb set 0)
        unfolding the_plan
        may = sym (may-told (the_plan b) f.plan.sound row i at low t low-target n aims f.plan.aims need least set small (by-words aims row t need aimed by-target set read))

        pub barred : eqb set 0 ≡ true → (m : ℕ) → m ≡ no_turn n → Gives (Refused m) run
        barred h = not-permitted kind (may ∙ ap not h)

        module _ (some_turn : eqb set 0 ≡ false) where
          permitted : may_start (the_plan b) (the_plan b).entries i t n ≡ true
          permitted = may ∙ ap not some_turn

          last_row : (z : Bool) → is_full (b.side i) ≡ z → refusal room b (Request i t k n) ≡ cond z 26 0
          unfolding refusal refusals first_of no_plan is_full
          last_row z h =
              let short = permitted-short (the_plan b) f.fit.sound i t n permitted in
              rw (there, own, le-ltb 1 k kind, le-ltb 4096 n short, permitted, h)

          -- the request's row, lent and back
          pub asks : (r : Answer) (size : ℕ) (part : List ℕ) → size ≡ 12
              → ((p : Plan) (s : Side) → FitSide s → need ≡ least_span p i t n → take size (drop (row * 12) run) ≡ row_of (owner p i) s
              → (r ≡ asked_answer s) × (part ≡ row_of (owner p i) (asked_side t k n s)))
              → Gives r (take (row * 12) run ++ (part ++ drop size (drop (row * 12) run)))
          unfolding asked_answer asked_side accepts
          asks r size part twelve does =
              go (is_full (b.side i)) refl
              (on_row b run last f.runs i row at asked_answer (asked_side t k n) r size part f.fit low twelve (λ s fit is. does (the_plan b) s fit least is))
            where
              go : (z : Bool) → is_full (b.side i) ≡ z
                  → (r ≡ asked_answer (b.side i)) × (take (row * 12) run ++ (part ++ drop size (drop (row * 12) run)) ≡ rows_with (owner_of (the_plan b)) (changed row (asked_side t k n (b.side i)) (side_of (the_plan b) b.side)))
                  → Gives r (take (row * 12) run ++ (part ++ drop size (drop (row * 12) run)))
              go true e h =
                  let (a, m) = rw (e, asked_answer, asked_side) at h in
                  rw a (refuses room b w (Request i t k n) 26 refl (last_row true e) _ last (runs-kept b run last f.runs i row at _ m))
              go false e h =
                  let (a, m) = rw (e, asked_answer, asked_side) at h in
                  rw (step-accepted room b w (Request i t k n) (last_row false e), a)
                  (record { answer = refl; runs = runs-changed b run last f.runs i row at (join t k n) _ m })
