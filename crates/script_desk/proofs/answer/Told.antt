-- An event and writing out answered. Assumes nothing.
use mathlib.Core.Path.{◌≡◌, refl}
use mathlib.Core.List.{List, ◌++◌}
use mathlib.Core.Option.{Option}
use Prim.Native.Nat.{ℕ, ◌≤◌}
use lib.ListN.{length, take, drop, replicate}
use Rattle.rules_plan.specs.Plan.{Plan}
use Rattle.rules_plan.specs.Copy.{Copied, sized, copy_answer, copied}
use Rattle.rules_box.specs.declared.Event.{Event}
use Rattle.rules_box.specs.Answer.{Answer, Values, values}
use Rattle.rules_box.specs.declared.Watchdog.{Watchdog}
use Rattle.run_events.specs.Values.{listed}
use Rattle.box_calls.specs.Calls.{memory, with_run}
use Rattle.memory_run.specs.Memory.{Steps}
use Rattle.script_answers.specs.Texts.{event_line, out_line, Prints}
use Rattle.script_desk.specs.Replay.{Kept, kept, Stepped, HeldIn, WrittenOut, Answers}
use Rattle.script_desk.proofs.answer.Rooms.{zeros, lent-size, back}

pub step-answers : {e : Event} {lent x vs sets ends rows reach paths spans aims numbers run last run' last' out out' : List ℕ} {w w' : Watchdog} {a : Answer} {end : ℕ}
    → Steps rows spans aims numbers run last w lent e a run' last' w' x
    → vs ≡ listed (values a)
    → ((v : Values) → vs ≡ listed v → Prints (event_line e v x) out out' end)
    → Answers (Stepped e lent (kept (memory sets ends rows reach paths spans aims numbers run last) w) (kept (memory sets ends rows reach paths spans aims numbers run' last') w')) out out' end
unfolding with_run
step-answers {e} {x} {a} steps listed prints = record {
  printed = event_line e (values a) x;
  told = record { answer = a; records = x; leaves = record { plan = refl; does = steps }; prints = refl };
  prints = prints (values a) listed;
}

pub lent-zeros : {e : Event} {room : ℕ} {b out out' : List ℕ} {k k' : Kept} {end : ℕ} → b ≡ replicate 4_096 0 → room ≤ 4_096
    → Answers (Stepped e (take room b) k k') out out' end → Answers (Stepped e (replicate room 0) k k') out out' end
lent-zeros z h a = rw (zeros 4_096 z h) at a

pub out-answers : {room : ℕ} {b x : List ℕ} (sets ends rows reach paths spans aims numbers run last : List ℕ) {out out' : List ℕ} {c : Copied} {end : ℕ}
    → b ≡ replicate 32_768 0 → room ≤ 32_768 → length x ≡ length (take room b)
    → ((o : Option Plan) → HeldIn (memory sets ends rows reach paths spans aims numbers run last) o → (c ≡ copy_answer (length (take room b)) o) × (x ≡ copied o (take room b)))
    → Prints (out_line (sized c) (take room (x ++ drop room b))) out out' end
    → Answers (WrittenOut room (memory sets ends rows reach paths spans aims numbers run last)) out out' end
out-answers {room} {b} {x} sets ends rows reach paths spans aims numbers run last {c} z h k f prints = record {
  printed = out_line (sized c) x;
  told = λ o held. by o (f o held);
  prints = rw (back 32_768 z h x k) at prints;
}
  where
    by : (o : Option Plan) → (c ≡ copy_answer (length (take room b)) o) × (x ≡ copied o (take room b)) → out_line (sized c) x ≡ out_line (sized (copy_answer room o)) (copied o (replicate room 0))
    by o g = rw (g.0, g.1, ← lent-size 32_768 z h, zeros 32_768 z h)
