-- Writing out after any calls: the plan of the box, which a load takes back into the same memory.
use mathlib.Core.Path.{◌≡◌, refl, sym, ap, ◌∙◌}
use mathlib.Core.Logic.{◌≢◌}
use mathlib.Core.List.{List}
use mathlib.Core.Option.{Option, none, some}
use Prim.Native.Nat.{ℕ, ◌≤◌, ◌<◌}
use native.Mathlib.Decide.{dec_lt}
use native.Mathlib.Omega.{arith}
use lib.ListN.{length, take, drop}
use lib.Seq.{take_at}
use borrow.Author.Tests.{eq-eqb}
use Rattle.rules_plan.specs.declared.Verdict.{Verdict}
use Rattle.rules_plan.specs.Plan.{Plan}
use Rattle.rules_plan.specs.Verdict.{number}
use Rattle.rules_plan.specs.Judge.{counts, judge}
use Rattle.rules_plan.specs.Canon.{written, plan_of}
use Rattle.rules_plan.specs.Good.{Good}
use Rattle.rules_plan.specs.Copy.{Copied, Written, NotWritten, copy_rows, copy_refusal, copy_answer, copied}
use Rattle.rules_plan.specs.Promises.{AcceptedIsSound, ComesBack, WrittenOutComesBack}
use Rattle.rules_plan.specs.laws.Reads.{judge-back, good-accepted}
use Rattle.rules_plan.specs.laws.Copies.{no_room, answers-size, puts-bytes}
use Rattle.rules_box.specs.declared.Watchdog.{Watchdog}
use Rattle.rules_box.specs.State.{Box, holding, loaded, is_accepted, the_plan}
use Rattle.lists.specs.Search.{is_some}
use Rattle.lists.specs.Rows.{first_of}
use Rattle.box_calls.specs.Calls.{Memory, with_run, LoadLeaves}
use Rattle.box_promises.specs.Promises.{HeldBy, WriteLeaves, SamePlanBack, PlanWrittenOut, WritesThePlanOut}
use Rattle.box_promises.proofs.Held.{OfFile, reached-file, file-ordered, reached-good, held}

-- nothing is written where there is no plan, or no room for it
none_written : (room size : ℕ) → copy_answer room none ≡ Written size → ⊥
unfolding copy_answer copy_refusal copy_rows first_of is_some
none_written room size e = let z : ◌≡◌ {A = ℕ} 0 1 = cc in omega arith

short-answer : (room : ℕ) (p : Plan) → room < length (written p) → copy_answer room (some p) ≡ NotWritten 30
unfolding copy_answer
short-answer room p h = rw (no_room room p h, copy_answer) (ap NotWritten (no_room room p h))

room-there : (p : Plan) (room size : ℕ) → copy_answer room (some p) ≡ Written size → length (written p) ≤ room
room-there p room size e = go (dec_lt room (length (written p)))
  where
    go : Dec (room < length (written p)) → length (written p) ≤ room
    go (yes h) = let f = short-answer room p h in let z : ◌≡◌ {A = ℕ} 0 1 = cc in absurd (omega arith)
    go (no h) = omega arith

-- what is written of a plan is its bytes
size-written : (p : Plan) (out : List ℕ) (size : ℕ) → copy_answer (length out) (some p) ≡ Written size → length (written p) ≡ size
size-written p out size e = let f = answers-size p out (room-there p (length out) size e) in cc

bytes-written : (p : Plan) (out : List ℕ) (size : ℕ) → copy_answer (length out) (some p) ≡ Written size → take size (copied (some p) out) ≡ written p
bytes-written p out size e = ap (take size) (puts-bytes p out (room-there p (length out) size e)) ∙ take_at (written p) (drop (length (written p)) out) size (size-written p out size e)

-- a load of an accepted file puts its plan into the box
loaded-plan : (file : List ℕ) → number (judge file) ≡ 0 → the_plan (loaded file) ≡ plan_of file
unfolding loaded is_accepted holding the_plan
loaded-plan file h = rw (eq-eqb (number (judge file)) 0 h)

module _ (m : Memory) (b : Box) (h : HeldBy m b) (p : Plan) (is : b.plan ≡ some p) (f : OfFile p) (back : ComesBack f.file) where
  the-plan : the_plan b ≡ p
  unfolding the_plan
  the-plan = rw is

  good : Good p
  good = reached-good b h.reached p is

  verdict : number (judge (written p)) ≡ 0
  verdict = good-accepted p good

  same-plan : plan_of (written p) ≡ p
  same-plan = ap (λ (q : Plan). plan_of (written q)) f.is ∙ back.plan ∙ sym f.is

  loads-same : (v : Verdict) (m' : Memory) (w : Watchdog) → LoadLeaves (written p) v m' w → m' ≡ with_run m m'.run m'.last
  unfolding with_run
  loads-same v m' w l =
      let x = h.at.plan in
      let y = l.holds.plan in
      let e : the_plan (loaded (written p)) ≡ the_plan b = loaded-plan (written p) verdict ∙ same-plan ∙ sym the-plan in
      let y' = rw e at y in
      λ z. record {
        sets = (y'.sets ∙ sym x.sets) z;
        ends = (y'.ends ∙ sym x.ends) z;
        rows = (y'.rows ∙ sym x.rows) z;
        reach = (y'.reach ∙ sym x.reach) z;
        paths = (y'.paths ∙ sym x.paths) z;
        spans = (y'.spans ∙ sym x.spans) z;
        aims = (y'.aims ∙ sym x.aims) z;
        numbers = (y'.numbers ∙ sym x.numbers) z;
        run = m'.run;
        last = m'.last;
      }

  same_back : SamePlanBack m b (written p)
  same_back = record {
    canonical-plan = rw the-plan (file-ordered p f);
    written-plan = ap written (sym the-plan);
    loads = λ v m' w l. (l.verdict ∙ judge-back p good ∙ ap counts (sym the-plan), loads-same v m' w l);
    held = (verdict, rw (same-plan, ← the-plan) h.at.plan);
  }

module _ (back : WrittenOutComesBack) (m : Memory) (b : Box) (h : HeldBy m b) (out out' : List ℕ) (answer : Copied) (does : WriteLeaves m out answer out') where
  says : (answer ≡ copy_answer (length out) b.plan) × (out' ≡ copied b.plan out)
  says = does b.plan m.reach h.plan

  comes_back : (p : Plan) (f : OfFile p) → ComesBack f.file
  unfolding WrittenOutComesBack
  comes_back p f = back f.file f.accepted

  bytes_back : (size : ℕ) → answer ≡ Written size → SamePlanBack m b (take size out')
  bytes_back size e = go b.plan refl
    where
      go : (o : Option Plan) → b.plan ≡ o → SamePlanBack m b (take size out')
      go none is = absurd (none_written (length out) size (ap (copy_answer (length out)) (sym is) ∙ sym says.0 ∙ e))
      go (some p) is =
          let f = reached-file b h.reached p is in
          let bytes = bytes-written p out size (ap (copy_answer (length out)) (sym is) ∙ sym says.0 ∙ e) in
          rw (says.1 ∙ ap (λ (x : Option Plan). copied x out) is, bytes) (same_back m b h p is f (comes_back p f))

  room-enough : b.plan ≢ none → 16_384 ≤ length out → (size : ℕ) × (answer ≡ Written size)
  room-enough some-plan room = go b.plan refl
    where
      go : (o : Option Plan) → b.plan ≡ o → (size : ℕ) × (answer ≡ Written size)
      go none is = absurd (some-plan is)
      go (some p) is =
          let f = reached-file b h.reached p is in
          let fits : length (written p) ≤ length out = omega (arith, (comes_back p f).most, ap (λ (q : Plan). length (written q)) f.is) in
          (length (written p), says.0 ∙ ap (copy_answer (length out)) is ∙ answers-size p out fits)

  -- whatever accepted file the plan is of
  as-its-file : (size : ℕ) → answer ≡ Written size → (file : List ℕ) → number (judge file) ≡ 0 → plan_of file ≡ the_plan b → size ≡ length file
  unfolding WrittenOutComesBack the_plan
  as-its-file size e file ok same = go b.plan refl
    where
      go : (o : Option Plan) → b.plan ≡ o → size ≡ length file
      go none is = absurd (none_written (length out) size (ap (copy_answer (length out)) (sym is) ∙ sym says.0 ∙ e))
      go (some p) is =
          let bytes = sym (size-written p out size (ap (copy_answer (length out)) (sym is) ∙ sym says.0 ∙ e)) in
          let this : plan_of file ≡ p = rw is at same in
          bytes ∙ ap (λ (q : Plan). length (written q)) (sym this) ∙ (back file ok).size

  pub written_out : PlanWrittenOut m b out answer out'
  written_out = record { answer = says.0; buffer = says.1; enough = room-enough; as_long = as-its-file; back = bytes_back }

pub writes-the-plan-out : AcceptedIsSound → WrittenOutComesBack → WritesThePlanOut
unfolding WritesThePlanOut
writes-the-plan-out ok back m b came out out' answer does = written_out back m b (held ok m b came) out out' answer does
