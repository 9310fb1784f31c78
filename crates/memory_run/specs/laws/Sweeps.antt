-- A sweep over the initiators, row after row: the rows below k have their new sides, the others the old ones, and what the first k
-- initiators give is put into a lent buffer.
use Rattle.std.specs.Prelude.{◌≡◌, Bool, ℕ, zero, suc, ◌+◌, ◌≤◌, take}
use Rattle.std.proofs.Math.Path.{refl, sym, ap, fun_ext}
use Rattle.std.proofs.Common.{◌∙◌, add-one, arith, take_all}
use mathlib.Core.List.{List, [], ◌∷◌, ◌++◌, flat_map, append-nil, append_assoc}
use Rattle.std.proofs.Math.Option.{Option, none, some}
use Rattle.std.proofs.Math.Bool.{true, false, cond}
use Rattle.std.proofs.Math.ListN.{length}
use Rattle.std.proofs.Math.Dec.{eqb, ltb}
use borrow.Author.Tests.{eqb-true, eqb-false, ltb-true, ltb-false, lt-ltb, le-ltb}
use Rattle.lists.specs.Place.{at_place}
use Rattle.lists.specs.Puts.{Puts}
use Rattle.lists.specs.laws.Bools.{cond_cases}
use Rattle.lists.specs.laws.At.{at_none}
use Rattle.lists.specs.laws.Puts.{puts_none, puts_then}
use Rattle.rules_plan.specs.Plan.{Plan}
use Rattle.rules_plan.specs.Meaning.{initiators}
use Rattle.memory_plan.specs.Memory.{of_row}
use Rattle.memory_plan.specs.View.{owner_of}
use Rattle.rules_box.specs.State.{Side, idle}
use Rattle.rules_box.specs.laws.Fit.{FitSide}
use Rattle.memory_run.specs.Run.{side_of, changed, rows_with, run_of}
use Rattle.memory_run.specs.laws.RunSides.{side-fit}

no-side : (p : Plan) (side : ℕ → Side) (r : ℕ) → length (initiators p) ≤ r → side_of p side r ≡ idle
unfolding side_of
no-side p side r h = rw (at_none (initiators p) r h, side_of)

-- what is put for the element at place k, if there is one
unfoldable part_at : (ℕ → List ℕ) → ℕ → List ℕ → List ℕ
part_at part k xs = elim (at_place k xs) [ none ↦ [] | some x ↦ part x ]

flat-place : (part : ℕ → List ℕ) (xs : List ℕ) (k : ℕ) → flat_map part (take (suc k) xs) ≡ flat_map part (take k xs) ++ part_at part k xs
unfolding part_at at_place flat_map
flat-place part [] zero = refl
flat-place part [] (suc k) = refl
flat-place part (x ∷ xs) zero = append-nil (part x)
flat-place part (x ∷ xs) (suc k) = rw (flat-place part xs k, append_assoc)

module _ (p : Plan) (old new : ℕ → Side) where
  unfoldable pub swept : ℕ → ℕ → Side
  swept k r = cond (ltb r k) (side_of p new r) (side_of p old r)

  pub swept-fit : ((i : ℕ) → FitSide (old i)) → ((i : ℕ) → FitSide (new i)) → (k r : ℕ) → FitSide (swept k r)
  unfolding swept
  swept-fit f g k r = cond_cases FitSide (ltb r k) (side_of p new r) (side_of p old r) (λ _. side-fit p new g r) (λ _. side-fit p old f r)

  swept_none : (r : ℕ) → swept 0 r ≡ side_of p old r
  unfolding swept
  swept_none r = rw (le-ltb r 0 (omega arith))

  -- rows behind the initiators are idle before and after
  swept_all : (k : ℕ) → length (initiators p) ≤ k → (r : ℕ) → swept k r ≡ side_of p new r
  unfolding swept
  swept_all k h r = go (ltb r k) refl
    where
      go : (b : Bool) → ltb r k ≡ b → cond b (side_of p new r) (side_of p old r) ≡ side_of p new r
      go true e = refl
      go false e = let l : length (initiators p) ≤ r = omega (arith, ltb-false r k e) in no-side p old r l ∙ sym (no-side p new r l)

  swept-here : (k : ℕ) → swept k k ≡ side_of p old k
  unfolding swept
  swept-here k = rw (le-ltb k k (omega arith))

  swept-next : (k r : ℕ) → changed k (side_of p new k) (swept k) r ≡ swept (k + 1) r
  unfolding changed swept
  swept-next k r = go (eqb r k) refl
    where
      less : (b : Bool) → eqb r k ≡ false → ltb r k ≡ b → ltb r (k + 1) ≡ b
      less true n e = lt-ltb r (k + 1) (omega (arith, ltb-true r k e))
      less false n e = le-ltb r (k + 1) (omega (arith, ltb-false r k e, eqb-false r k n))

      go : (b : Bool) → eqb r k ≡ b → cond b (side_of p new k) (swept k r) ≡ swept (k + 1) r
      go true e = rw (eqb-true r k e, lt-ltb k (k + 1) (omega arith))
      go false e = rw (less (ltb r k) e refl)

  -- the sweep's invariant
  pub record Sweep (part : ℕ → List ℕ) (before : List ℕ) (i : ℕ) (run' after : List ℕ) (j k : ℕ) : Type 0 where
    pub run : run' ≡ rows_with (owner_of p) (swept k)
    pub puts : Puts before i (flat_map part (take k (initiators p))) after j

  pub sweep-begin : (part : ℕ → List ℕ) (before : List ℕ) (i : ℕ) (run : List ℕ) → run ≡ run_of p old → Sweep part before i run before i 0
  unfolding run_of flat_map
  sweep-begin part before i run h = record { run = h ∙ ap (rows_with (owner_of p)) (fun_ext (λ r. sym (swept_none r))); puts = puts_none before i }

  module _ {part : ℕ → List ℕ} {before : List ℕ} {i : ℕ} {run after : List ℕ} {j k : ℕ} (a : Sweep part before i run after j k) where
    -- f is what becomes of the side of row k, and g what is put: nothing of an idle side where the row has no initiator
    module _ (f : Side → Side) (g : ℕ → Side → List ℕ) (behind : at_place k (initiators p) ≡ none → (f idle ≡ idle) × (g 0 idle ≡ []))
        (each : (x : ℕ) → at_place k (initiators p) ≡ some x → (f (old x) ≡ new x) × (g x (old x) ≡ part x)) where
      turn : (f (side_of p old k) ≡ side_of p new k) × (g (owner_of p k).initiator (side_of p old k) ≡ part_at part k (initiators p))
      unfolding side_of owner_of of_row part_at
      turn = go (at_place k (initiators p)) refl
        where
          go : (o : Option ℕ) → at_place k (initiators p) ≡ o
              → (f (elim o [ none ↦ idle | some x ↦ old x ]) ≡ elim o [ none ↦ idle | some x ↦ new x ])
              × (g (elim o [ none ↦ 0 | some x ↦ x ]) (elim o [ none ↦ idle | some x ↦ old x ]) ≡ elim o [ none ↦ [] | some x ↦ part x ])
          go none at = behind at
          go (some x) at = each x at

      pub sweep-next : (run' after' : List ℕ) (j' : ℕ) → run' ≡ rows_with (owner_of p) (changed k (f (swept k k)) (swept k)) → Puts after j (g (owner_of p k).initiator (swept k k)) after' j'
          → Sweep part before i run' after' j' (k + 1)
      sweep-next run' after' j' er ps =
          let here = swept-here k in
          record {
            run = er ∙ ap (λ (y : Side). rows_with (owner_of p) (changed k y (swept k))) (ap f here ∙ turn.0) ∙ ap (rows_with (owner_of p)) (fun_ext (swept-next k));
            puts = rw (add-one k, flat-place part (initiators p) k) (puts_then a.puts (rw (here, turn.1) at ps));
          }

    pub sweep-done : length (initiators p) ≤ k → (run ≡ run_of p new) × Puts before i (flat_map part (initiators p)) after j
    unfolding run_of
    sweep-done h = (a.run ∙ ap (rows_with (owner_of p)) (fun_ext (swept_all k h)), rw (take_all k (initiators p) h) at a.puts)
