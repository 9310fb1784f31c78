-- `store_path` meets its contract: behind the first three bytes stand the first k of the eight places for links.
use mathlib.Core.Path.{◌≡◌, refl, sym, ◌∙◌}
use mathlib.Core.List.{List, [], ◌∷◌}
use Prim.Native.Nat.{ℕ, ◌+◌, ◌≤◌, ◌<◌}
use native.Mathlib.Numerals.{add-one, add-two}
use native.Mathlib.Omega.{arith}
use lib.ListN.{length, set, length-set, get_or-eq_default}
use lib.Seq.{sets-eq, paste, paste-zero, paste-suc}
use borrow.Author.Rules.{rules}
use Rattle.lists.specs.Cells.{padded}
use Rattle.lists.specs.laws.Cells.{length-padded}
use Rattle.lists.specs.laws.Padded.{padded-at}
use Rattle.lists.specs.laws.Moved.{paste-behind}
use Rattle.rules_plan.specs.Plan.{nth}
use Rattle.memory_plan.specs.Memory.{path_row}
use Rattle.load_path_faults.specs.Routes.{route}
use Rattle.load_paths.proofs.store_path.Goals as goal
use Rattle.load_paths.proofs.store_path.Goals.{then-k-n, else-k-n}

-- the first three bytes
first_three : (p : List ℕ) (at i t n : ℕ) → at + 3 ≤ length p → set (set (set p at i) (at + 1) t) (at + 2) n ≡ paste p at (i ∷ t ∷ n ∷ []) 3
first_three p at i t n h = rw (add-one at, add-two at) (sets-eq (i ∷ t ∷ n ∷ []) p at h)

-- one more link, or 0 beyond the links
one_link : (q qs ls : List ℕ) (at k v : ℕ) → length ls ≤ 8 → at + 8 ≤ length q → k < 8 → qs ≡ paste q at (padded 8 0 ls) k → v ≡ nth ls k → set qs (at + k) v ≡ paste q at (padded 8 0 ls) (k + 1)
one_link q qs ls at k v h l g e f =
    rw (e, f, ← padded-at 8 0 ls k, add-one k) (paste-suc q at (padded 8 0 ls) k 0 (omega arith) (omega (arith, length-padded 8 0 ls h)))

-- the three bytes and the eight places are the path
eleven : (p ls : List ℕ) (at i t : ℕ) → length ls ≤ 8 → at + 11 ≤ length p
    → paste (set (set (set p at i) (at + 1) t) (at + 2) (length ls)) (at + 3) (padded 8 0 ls) 8 ≡ paste p at (path_row (route i t ls)) 11
unfolding path_row
eleven p ls at i t h l =
    rw (first_three p at i t (length ls) (omega arith)) (paste-behind p at 3 8 (i ∷ t ∷ length ls ∷ []) (padded 8 0 ls) refl (omega (arith, length-padded 8 0 ls h)) (omega arith))

pub loop-k-init : goal.loop-k-init
loop-k-init c = λ e. paste-zero _ (c.args.at + 3) (padded 8 0 c.args.links.now)

pub loop-k-preserved : goal.loop-k-preserved
loop-k-preserved c = λ e.
    let a = c.args in
    let q = c.loop-k.invariant e in
    elim c.if-k-n.branch [
      | then-k-n w ↦ w.paths-is ∙ one_link _ _ a.links.now (a.at + 3) c.loop-k.k _ (omega arith) (omega arith) (omega arith) q refl
      | else-k-n w ↦
          w.paths-is ∙ one_link _ _ a.links.now (a.at + 3) c.loop-k.k _ (omega arith) (omega arith) (omega arith) q (sym (get_or-eq_default a.links.now 0 w.if-k-n.false))
    ]

pub returns : goal.returns
returns c = λ e.
    let a = c.args in
    let k : c.loop-k.k ≡ 8 = omega arith in
    (rw k at (c.loop-k.invariant (simp length-set e))) ∙ eleven a.paths.now a.links.now a.at a.initiator a.target (omega arith) (omega arith)
