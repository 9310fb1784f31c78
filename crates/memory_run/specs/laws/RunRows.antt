-- Laws of run memory: one row read, one row put, the side of one initiator changed, and every side changed row after row.
use Rattle.std.specs.Prelude.{◌≡◌, refl, Bool, cond, ℕ, ◌*◌, ◌<◌, length, take, drop}
use Rattle.std.proofs.Common.{sym, ◌∙◌, zero-add, arith, length-append}
use Rattle.std.proofs.Math.Path.{ap, fun_ext}
use mathlib.Core.List.{[], ◌∷◌, ◌++◌, map, flat_map}
use Rattle.std.proofs.Math.Option.{Option, none, some}
use Rattle.std.proofs.Math.Bool.{true, false}
use Rattle.std.proofs.lemmas.List.{length-map}
use Rattle.std.proofs.Math.Dec.{eqb}
use borrow.Author.Tests.{eqb-true, eqb-false, eq-eqb, ne_eqb}
use Rattle.lists.specs.Search.{up_from}
use Rattle.lists.specs.Place.{at_place}
use Rattle.lists.specs.Cells.{padded}
use Rattle.lists.specs.laws.Bools.{none-some, some-some}
use Rattle.lists.specs.laws.Order.{flat-same}
use Rattle.lists.specs.laws.At.{place-once}
use Rattle.lists.specs.laws.Cells.{length-padded}
use Rattle.lists.specs.laws.Blocks.{block-part, in_place, block-put}
use Rattle.rules_plan.specs.Plan.{Plan}
use Rattle.rules_plan.specs.Meaning.{initiators}
use Rattle.rules_plan.specs.laws.Initiators.{initiators-once}
use Rattle.memory_plan.specs.View.{Owner, owner_of}
use Rattle.rules_box.specs.State.{Side, idle}
use Rattle.rules_box.specs.laws.Fit.{FitSide}
use Rattle.memory_run.specs.Run.{word_of, live_word, live_time, row_of, side_of, changed, rows_with, run_of}

pub row-length : (i : Owner) (s : Side) → FitSide s → length (row_of i s) ≡ 12
unfolding row_of
row-length i s f =
    let a = length-append (padded 8 0 (map (word_of i) s.line)) (live_word i s.live ∷ live_time s.live ∷ []) in
    omega (arith, a, length-padded 8 0 (map (word_of i) s.line) (omega (arith, f.few, length-map s.line (word_of i))))

-- eight rows
module _ (n : ℕ → Owner) (s : ℕ → Side) (fit : (k : ℕ) → FitSide (s k)) where
  wide : (k : ℕ) → length (row_of (n k) (s k)) ≡ 12
  wide k = row-length (n k) (s k) (fit k)

  pub run-part : (row : ℕ) → row < 8 → take 12 (drop (row * 12) (rows_with n s)) ≡ row_of (n row) (s row)
  unfolding rows_with
  run-part row h = block-part (λ r. row_of (n r) (s r)) 12 wide 8 0 row h ∙ ap (λ k. row_of (n k) (s k)) (zero-add row)

  pub run-put : (row : ℕ) → row < 8 → (x : Side) → take (row * 12) (rows_with n s) ++ (row_of (n row) x ++ drop 12 (drop (row * 12) (rows_with n s))) ≡ rows_with n (changed row x s)
  unfolding rows_with in_place changed
  run-put row h x =
      block-put (λ r. row_of (n r) (s r)) 12 wide 8 0 row (row_of (n row) x) h
      ∙ ap (λ k. flat_map (in_place (λ r. row_of (n r) (s r)) 12 wide k (row_of (n row) x)) (up_from 8 0)) (zero-add row)
      ∙ flat-same _ _ (up_from 8 0) (λ r m. one r (eqb r row) refl)
    where
      one : (r : ℕ) (b : Bool) → eqb r row ≡ b → in_place (λ k. row_of (n k) (s k)) 12 wide row (row_of (n row) x) r ≡ row_of (n r) (changed row x s r)
      one r true e = rw (e, in_place, changed, eqb-true r row e)
      one r false e = rw (e, in_place, changed)

-- one initiator's side changed: its row
pub run-changed : (p : Plan) (side : ℕ → Side) (f : Side → Side) (i row : ℕ) → at_place row (initiators p) ≡ some i
    → run_of p (λ (j : ℕ). cond (eqb j i) (f (side j)) (side j)) ≡ rows_with (owner_of p) (changed row (f (side i)) (side_of p side))
unfolding run_of side_of changed
run-changed p side f i row at = ap (rows_with (owner_of p)) (fun_ext (λ r. go r (at_place r (initiators p)) refl))
  where
    same : (r j : ℕ) → at_place r (initiators p) ≡ some j → (b : Bool) → eqb r row ≡ b → cond (eqb j i) (f (side j)) (side j) ≡ cond b (f (side i)) (side j)
    same r j e true h =
        let k : j ≡ i = some-some (sym e ∙ ap (λ m. at_place m (initiators p)) (eqb-true r row h) ∙ at) in
        rw (k, eq-eqb i i refl)
    same r j e false h =
        rw (ne_eqb j i (λ k. eqb-false r row h (place-once (initiators p) r row i (initiators-once p) (e ∙ ap some k) at)))

    go : (r : ℕ) (o : Option ℕ) → at_place r (initiators p) ≡ o
        → elim o [ none ↦ idle | some j ↦ cond (eqb j i) (f (side j)) (side j) ] ≡ cond (eqb r row) (f (side i)) (elim o [ none ↦ idle | some j ↦ side j ])
    go r none e = rw (ne_eqb r row (λ k. none-some (sym e ∙ ap (λ n. at_place n (initiators p)) k ∙ at)))
    go r (some j) e = same r j e (eqb r row) refl
