-- `move_up` meets its contract: the first j places are the new line's, the others the old one's, and up to place k these are the same.
-- For place 0 what is behind it is copied one place down. Assumes nothing.
use Rattle.std.proofs.Common.{◌≡◌, ◌∙◌, ℕ, zero, suc, ◌+◌, ◌-◌, ◌≤◌, List, [], ◌∷◌, ◌++◌, length, take, drop, set, refl, sym, ap, arith, take_all, length-drop}
use Rattle.std.specs.List.{copy_within}
use Rattle.std.proofs.lemmas.List.Edits.{paste_all}
use Rattle.lists.specs.Place.{without}
use Rattle.lists.specs.laws.Lines.{length_without, move-next, move-last}
use Rattle.run_line.proofs.move_up.Goals as goal
use Rattle.run_line.proofs.move_up.Goals.{then-k-eq0, else-k-eq0+else-loop-j-test, then-k-j, else-k-j}

up-to : (k j : ℕ) (q : List ℕ) → j ≤ k → take j (without k q) ++ drop j q ≡ q
unfolding without
up-to k zero q h = refl
up-to zero (suc j) q h = absurd (omega arith)
up-to (suc k) (suc j) [] h = refl
up-to (suc k) (suc j) (x ∷ q) h = ap (λ (l : List ℕ). x ∷ l) (up-to k j q (omega arith))

behind : (q : List ℕ) → drop 1 q ≡ without 0 q
unfolding without
behind [] = refl
behind (x ∷ q) = refl

copied : (q : List ℕ) → length q ≡ 8 → copy_within q 1 (length q) 0 ≡ take 7 (without 0 q) ++ drop 7 q
copied q h =
    let e : 0 + (length q - 1) ≡ 7 = omega arith in
    paste_all q 0 (drop 1 q) (length q - 1) (sym (length-drop 1 q))
    ∙ ap (λ (m : ℕ). drop 1 q ++ drop m q) e
    ∙ ap (λ (l : List ℕ). l ++ drop 7 q) (behind q ∙ sym (take_all 7 (without 0 q) (omega (arith, length_without 0 q (omega arith)))))

pub loop-j-init : goal.loop-j-init
loop-j-init c = refl

pub loop-j-preserved : goal.loop-j-preserved
loop-j-preserved c =
    let k = c.args.k in
    let q = c.args.places.now in
    let j = c.loop-j.j in
    let i = c.loop-j.invariant in
    elim c.if-k-j.branch [
      | then-k-j w ↦ w.places-is ∙ move-next 0 k j q c.loop-j.places (omega arith) (omega arith) i
      | else-k-j w ↦ w.places-is ∙ i ∙ up-to k j q (omega arith) ∙ sym (up-to k (j + 1) q (omega arith))
    ]

pub returns : goal.returns
returns c =
    let k = c.args.k in
    let q = c.args.places.now in
    let m : c.if-k-eq0.places ≡ take 7 (without k q) ++ drop 7 q =
    elim c.if-k-eq0.branch [
      | then-k-eq0 w ↦ w.places-is ∙ w.copy_within.ensures.after ∙ copied q (omega arith) ∙ ap (λ (i : ℕ). take 7 (without i q) ++ drop 7 q) (sym w.if-k-eq0.true)
      | else-k-eq0+else-loop-j-test w ↦
          let e : w.loop-j.j ≡ 7 = omega arith in
          w.places-is ∙ w.loop-j.invariant ∙ ap (λ (i : ℕ). take i (without k q) ++ drop i q) e
    ]
    in
    ap (λ (l : List ℕ). set l 7 0) m ∙ move-last 0 k 7 q (omega arith) (omega arith)
