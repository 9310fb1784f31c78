-- Between the records of one event: what memory before it and its first records tell of.
use mathlib.Core.Path.{◌≡◌, refl, sym, ap, ap₂, ◌∙◌}
use mathlib.Core.Logic.{◌≢◌}
use mathlib.Core.List.{List, [], ◌∷◌, ◌++◌}
use mathlib.Core.Option.{Option, none, some, map}
use mathlib.Core.Bool.{◌&&◌, cond}
use Prim.Native.Nat.{ℕ, zero, suc, ◌≤◌}
use native.Mathlib.Omega.{arith}
use lib.ListN.{length, take}
use lib.Seq.{take-suc, take-nil}
use lib.Dec.{eqb, leb}
use Rattle.lists.specs.Place.{at_place}
use Rattle.lists.specs.laws.At.{read_at, at-within}
use Rattle.rules_plan.specs.Plan.{nth}
use Rattle.rules_plan.specs.Promises.{AcceptedIsSound}
use Rattle.rules_box.specs.declared.Event.{Event}
use Rattle.rules_box.specs.Answer.{Answer}
use Rattle.rules_box.specs.State.{Box, Live}
use Rattle.rules_box.specs.Records.{Record, record_bytes}
use Rattle.rules_box.specs.Step.{Outcome, step}
use Rattle.rules_box.specs.Promises as box
use Rattle.rules_box.specs.laws.Steps.{records-cases}
use Rattle.box_calls.specs.Calls.{Lent, StepLeaves, Came}
use Rattle.box_promises.specs.Words.{RowOf, live_target_in, count_of, target_after}
use Rattle.box_promises.specs.Promises.{HeldBy, NotEvenBetweenRecords}
use Rattle.box_promises.proofs.Held.{held, outcome}
use Rattle.box_promises.proofs.Says.{says}
use Rattle.box_promises.proofs.Written.{written_at, at-place}

-- one record more
told-snoc : (i : ℕ) (t : Option ℕ) (rs : List Record) (r : Record) → box.told_target i t (rs ++ (r ∷ [])) ≡ box.told_by i (box.told_target i t rs) r
unfolding box.told_target
told-snoc i t [] r = refl
told-snoc i t (x ∷ rs) r = told-snoc i (box.told_by i t x) rs r

one_more : (rs : List Record) (j : ℕ) (r : Record) → at_place j rs ≡ some r → take (suc j) rs ≡ take j rs ++ (r ∷ [])
one_more rs j r at = take-suc rs j r (at-within rs j r at) ∙ ap (λ (x : Record). take j rs ++ (x ∷ [])) (read_at rs j r r at)

module _ (ok : AcceptedIsSound) {before after : Lent} {answer : Answer} (b : Box) (e : Event) (came : Came before.memory b) (s : StepLeaves before e answer after) where
  abbrev o : Outcome
  o = step (length before.records) b before.five e

  h : HeldBy before.memory b
  h = held ok before.memory b came

  -- what the words of memory and the bytes of the records tell is what the rules' records tell
  as-told : (r i : ℕ) → RowOf before.memory r i → (j : ℕ) → j ≤ count_of answer
      → target_after before.memory after.records j r ≡ box.told_target i (box.live_target (b.side i)) (take j o.records)
  unfolding target_after box.told_target box.told_by box.live_target live_target_in record_bytes
  as-told r i own zero low = ap (map (λ (l : Live). l.request.target)) ((says before.memory b h).live r i own)
  as-told r i own (suc j) low =
      let out = outcome ok b e s h in
      let (x, at) = at-place (length before.records) b before.five e out j (omega arith) in
      let bytes = written_at (length before.records) b before.five e out j x at in
      ap₂ (λ (l : List ℕ) (t : Option ℕ). cond (eqb (nth before.memory.rows r) (nth l 1) && leb 4 (nth l 0)) (cond (eqb (nth l 0) 4) none (some (nth l 2))) t) bytes (as-told r i own j (omega arith))
      ∙ ap (λ (n : ℕ). cond (eqb n x.initiator && leb 4 x.kind) (cond (eqb x.kind 4) none (some x.target)) (box.told_target i (box.live_target (b.side i)) (take j o.records))) own.is
      ∙ sym (ap (box.told_target i (box.live_target (b.side i))) (one_more o.records j x at) ∙ told-snoc i (box.live_target (b.side i)) (take j o.records) x)

pub not-even-between : AcceptedIsSound → box.NotEvenAsTold → NotEvenBetweenRecords
unfolding NotEvenBetweenRecords box.NotEvenAsTold
not-even-between ok told before after e answer b came s j low r r' i i' own own' d t t' l at at' on on' =
    let w = before.five in
    let room = length before.records in
    let known = says before.memory b (held ok before.memory b came) in
    let other : i ≢ i' = λ z. d (own'.only r own.low (own.is ∙ z)) in
    records-cases room b w e
    (λ (rs : List Record). box.told_target i (box.live_target (b.side i)) (take j rs) ≡ some t → box.told_target i' (box.live_target (b.side i')) (take j rs) ≡ some t' → ⊥)
    (λ f f'. told b (held ok before.memory b came).reached w 0 0 0 i i' t t' l other (nothing i t f) (nothing i' t' f') (sym (known.path i t l) ∙ on) (sym (known.path i' t' l) ∙ on'))
    (λ byte clock _ f f'. told b (held ok before.memory b came).reached w byte clock j i i' t t' l other f f' (sym (known.path i t l) ∙ on) (sym (known.path i' t' l) ∙ on'))
    (sym (as-told ok b e came s r i own j low) ∙ at) (sym (as-told ok b e came s r' i' own' j low) ∙ at')
  where
    nothing : (k u : ℕ) → box.told_target k (box.live_target (b.side k)) (take j []) ≡ some u → box.told_target k (box.live_target (b.side k)) [] ≡ some u
    nothing k u f = ap (box.told_target k (box.live_target (b.side k))) (sym (take-nil j)) ∙ f
