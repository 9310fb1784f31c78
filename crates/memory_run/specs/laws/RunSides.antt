-- Run memory of a box: the side of each row fits, and what it holds once one initiator's row has been put back or has changed.
use Rattle.std.specs.Prelude.{◌≡◌, refl, List, ◌++◌, Bool, true, false, cond, ℕ, ◌*◌, ◌<◌, take, drop, eqb}
use Rattle.std.proofs.Math.Path.{sym, ap, ap₂, fun_ext}
use Rattle.std.proofs.Common.{◌∙◌, eqb-true}
use Rattle.std.proofs.Math.Option.{Option, none, some}
use Rattle.lists.specs.Place.{at_place}
use Rattle.rules_plan.specs.Plan.{Plan}
use Rattle.rules_plan.specs.Meaning.{initiators}
use Rattle.memory_plan.specs.View.{Owner, owner_of, owner}
use Rattle.memory_plan.specs.laws.Entries.{owner_at}
use Rattle.rules_box.specs.State.{Box, Side, idle, the_plan}
use Rattle.rules_box.specs.Step.{with_side}
use Rattle.rules_box.specs.laws.Fit.{FitSide, Fit, idle-fit}
use Rattle.memory_run.specs.Run.{row_of, side_of, changed, rows_with, run_of, Runs}
use Rattle.memory_run.specs.laws.RunRows.{run-part, run-put, run-changed}

pub side-fit : (p : Plan) (side : ℕ → Side) → ((i : ℕ) → FitSide (side i)) → (r : ℕ) → FitSide (side_of p side r)
unfolding side_of
side-fit p side f r = go (at_place r (initiators p))
  where
    go : (o : Option ℕ) → FitSide (elim o [ none ↦ idle | some i ↦ side i ])
    go none = idle-fit
    go (some i) = f i

pub sides-fit : (b : Box) → Fit b → (k : ℕ) → FitSide (side_of (the_plan b) b.side k)
sides-fit b fit k = side-fit (the_plan b) b.side fit.sides k

pub side-at : (p : Plan) (side : ℕ → Side) (row i : ℕ) → at_place row (initiators p) ≡ some i → side_of p side row ≡ side i
unfolding side_of
side-at p side row i at = rw (at, side_of)

-- a row put back as it was
pub rows-kept : (n : ℕ → Owner) (s : ℕ → Side) (row : ℕ) → rows_with n (changed row (s row) s) ≡ rows_with n s
unfolding changed
rows-kept n s row = ap (rows_with n) (fun_ext (λ r. go r (eqb r row) refl))
  where
    go : (r : ℕ) (b : Bool) → eqb r row ≡ b → cond b (s row) (s r) ≡ s r
    go r true e = ap s (sym (eqb-true r row e))
    go r false e = refl

-- one row lent, and put back with another side
module _ (n : ℕ → Owner) (s : ℕ → Side) (fit : (k : ℕ) → FitSide (s k)) (run : List ℕ) (is : run ≡ rows_with n s) (row size : ℕ) (small : row < 8) (twelve : size ≡ 12) where
  pub row-lent : take size (drop (row * 12) run) ≡ row_of (n row) (s row)
  row-lent = rw (is, twelve) (run-part n s fit row small)

  pub row_back : (x : Side) (part : List ℕ) → part ≡ row_of (n row) x → take (row * 12) run ++ (part ++ drop size (drop (row * 12) run)) ≡ rows_with n (changed row x s)
  row_back x part e = rw (is, twelve, e) (run-put n s fit row small x)

module _ (b : Box) (run last : List ℕ) (holds : Runs b run last) (i row : ℕ) (at : at_place row (initiators (the_plan b)) ≡ some i) where
  -- what is told of the row that is lent, told of the initiator's side and of run memory
  pub on_row : {A : Type 0} (g : Side → A) (f : Side → Side) (r : A) (size : ℕ) (part : List ℕ) → Fit b → row < 8 → size ≡ 12
      → ((s : Side) → FitSide s → take size (drop (row * 12) run) ≡ row_of (owner (the_plan b) i) s
      → (r ≡ g s) × (part ≡ row_of (owner (the_plan b) i) (f s)))
      → (r ≡ g (b.side i)) × (take (row * 12) run ++ (part ++ drop size (drop (row * 12) run)) ≡ rows_with (owner_of (the_plan b)) (changed row (f (b.side i)) (side_of (the_plan b) b.side)))
  unfolding run_of
  on_row g f r size part fit low twelve told =
      let n = owner_of (the_plan b) in
      let s = side_of (the_plan b) b.side in
      let fits = sides-fit b fit in
      let o = owner_at (the_plan b) row i at in
      let lent = row-lent n s fits run holds.run row size low twelve ∙ ap₂ row_of o (side-at (the_plan b) b.side row i at) in
      let (a, e) = told (b.side i) (fit.sides i) lent in
      (a, row_back n s fits run holds.run row size low twelve (f (b.side i)) part (e ∙ ap (λ (x : Owner). row_of x (f (b.side i))) (sym o)))

  pub runs-kept : (run' : List ℕ) → run' ≡ rows_with (owner_of (the_plan b)) (changed row (b.side i) (side_of (the_plan b) b.side)) → Runs b run' last
  unfolding run_of
  runs-kept run' e = record {
    run = e
        ∙ ap (λ (x : Side). rows_with (owner_of (the_plan b)) (changed row x (side_of (the_plan b) b.side))) (sym (side-at (the_plan b) b.side row i at))
        ∙ rows-kept (owner_of (the_plan b)) (side_of (the_plan b) b.side) row;
    last = holds.last;
  }

  pub runs-changed : (f : Side → Side) (run' : List ℕ) → run' ≡ rows_with (owner_of (the_plan b)) (changed row (f (b.side i)) (side_of (the_plan b) b.side)) → Runs (with_side b i f) run' last
  unfolding with_side the_plan
  runs-changed f run' e = record { run = e ∙ sym (run-changed (the_plan b) b.side f i row at); last = holds.last }
