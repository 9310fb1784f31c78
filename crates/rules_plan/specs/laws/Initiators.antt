-- The initiators of a plan when a path is added: one more at most, and one more exactly when the path has a new one.
use Rattle.std.specs.Prelude.{◌≡◌, refl, ◌⊎◌, Bool, true, false, not, ◌&&◌, ◌||◌, ℕ, ◌≤◌, ◌<◌, length, leb, eqb}
use Rattle.std.proofs.Common.{sym, ap, ◌∙◌, inl, inr, arith, length-append, eqb-true, eq-eqb, ne_eqb, leb-false}
use mathlib.Core.List.{List, [], ◌∷◌, ◌++◌, Memᴰ, append_assoc}
use Rattle.std.proofs.lemmas.Bool.{lt-leb}
use Rattle.lists.specs.Search.{any, repeats, twice, below64}
use Rattle.lists.specs.laws.Bools.{either, neither, not-both, false-either}
use Rattle.lists.specs.laws.Search.{any_append, any_none, any-intro, keep-elim, keep-intro, in-below64, below64-range}
use Rattle.lists.specs.laws.Append.{Begins, begins-last, any-begins}
use Rattle.lists.specs.laws.Pigeonhole.{fewer, keep-repeats, below64-once}
use Rattle.rules_plan.specs.Plan.{Route, Plan, path, grow}
use Rattle.rules_plan.specs.Meaning.{is_initiator, initiators}
use Rattle.rules_plan.specs.Judge.{too_many}

pub initiator-in : (p : Plan) (i : ℕ) → Memᴰ i (initiators p) → is_initiator p i ≡ true
unfolding initiators
initiator-in p i m = (keep-elim (is_initiator p) below64 i m).1

pub in-initiators : (p : Plan) (i : ℕ) → i < 64 → is_initiator p i ≡ true → Memᴰ i (initiators p)
unfolding initiators
in-initiators p i h e = keep-intro (is_initiator p) below64 i (in-below64 i h) e

pub initiator-below : (p : Plan) (i : ℕ) → Memᴰ i (initiators p) → i < 64
unfolding initiators
initiator-below p i m = below64-range i (keep-elim (is_initiator p) below64 i m).0

pub initiators-once : (p : Plan) → twice (initiators p) ≡ false
unfolding initiators twice
initiators-once p = keep-repeats (is_initiator p) eqb below64 below64-once

-- the paths alone make the initiators
pub same-initiators : (p q : Plan) → p.paths ≡ q.paths → initiators p ≡ initiators q
unfolding initiators is_initiator
same-initiators p q e = rw e

-- an initiator of the grown plan was one, or is that of the path
grown-initiator : (p : Plan) (x : Route) (i : ℕ) → is_initiator (grow p (path x)) i ≡ true → (is_initiator p i ≡ true) ⊎ (i ≡ x.start)
unfolding is_initiator grow any
grown-initiator p x i h = go (either (is_initiator p i) (eqb i x.start || false) (rw any_append at h))
  where
    one : (eqb i x.start ≡ true) ⊎ (false ≡ true) → i ≡ x.start
    one (inl e) = eqb-true i x.start e
    one (inr e) = not-both {a = false} e refl

    go : (is_initiator p i ≡ true) ⊎ (eqb i x.start || false ≡ true) → (is_initiator p i ≡ true) ⊎ (i ≡ x.start)
    go (inl e) = inl e
    go (inr e) = inr (one (either (eqb i x.start) false e))

-- row 9 does not hold of a path, and there are at most eight initiators: there are at most eight with the path
pub eight-grows : (p : Plan) (x : Route) → too_many p (path x) ≡ false → length (initiators p) ≤ 8 → length (initiators (grow p (path x))) ≤ 8
unfolding too_many
eight-grows p x h l = go (is_initiator p x.start) refl
  where
    q : Plan
    q = grow p (path x)

    -- the initiators of q are among the list
    among : (is : List ℕ) → ((i : ℕ) → i < 64 → (is_initiator p i ≡ true) ⊎ (i ≡ x.start) → Memᴰ i is) → length (initiators q) ≤ length is
    among is f = fewer (initiators q) is (λ i m. f i (initiator-below q i m) (grown-initiator p x i (initiator-in q i m))) (initiators-once q)

    old : is_initiator p x.start ≡ true → (i : ℕ) → i < 64 → (is_initiator p i ≡ true) ⊎ (i ≡ x.start) → Memᴰ i (initiators p)
    old e i b (inl g) = in-initiators p i b g
    old e i b (inr g) = in-initiators p i b (rw g e)

    new : (i : ℕ) → i < 64 → (is_initiator p i ≡ true) ⊎ (i ≡ x.start) → Memᴰ i (x.start ∷ initiators p)
    new i b (inl g) = Memᴰ.tail (in-initiators p i b g)
    new i b (inr g) = Memᴰ.head g

    go : (b : Bool) → is_initiator p x.start ≡ b → length (initiators q) ≤ 8
    go true e = omega (arith, among (initiators p) (old e))
    go false e =
        let n : leb 8 (length (initiators p)) || leb 128 (length p.paths) ≡ false = rw e at h in
        omega (arith, leb-false 8 (length (initiators p)) (neither (leb 8 (length (initiators p))) (leb 128 (length p.paths)) n).0, among (x.start ∷ initiators p) new)

pub most-grows : (p : Plan) (x : Route) → too_many p (path x) ≡ false → length p.paths < 128
unfolding too_many
most-grows p x h = leb-false 128 (length p.paths) (neither (not (is_initiator p x.start) && leb 8 (length (initiators p))) (leb 128 (length p.paths)) h).1

-- a plan with few initiators and paths begins with the paths of p and the path x: row 9 does not hold of x after p
pub few-before : (p q : Plan) (x : Route) → x.start < 64 → Begins (p.paths ++ (x ∷ [])) q.paths → length (initiators q) ≤ 8 → length q.paths ≤ 128 → too_many p (path x) ≡ false
unfolding too_many is_initiator twice repeats
few-before p q x b (zs, e) l n = false-either (go (is_initiator p x.start) refl) (lt-leb 128 (length p.paths) room)
  where
    room : length p.paths < 128
    room = omega (arith, simp length-append at (ap length e))

    kept : (i : ℕ) → is_initiator p i ≡ true → is_initiator q i ≡ true
    kept i h = any-begins _ p.paths q.paths ((x ∷ []) ++ zs, sym (append_assoc p.paths (x ∷ []) zs) ∙ e) h

    mine : is_initiator q x.start ≡ true
    mine = any-intro _ q.paths x (begins-last p.paths x (zs, e)) (eq-eqb x.start x.start refl)

    among : (i : ℕ) → Memᴰ i (x.start ∷ initiators p) → Memᴰ i (initiators q)
    among i (Memᴰ.head h) = in-initiators q i (omega arith) (rw h mine)
    among i (Memᴰ.tail m) = in-initiators q i (initiator-below p i m) (kept i (initiator-in p i m))

    once : is_initiator p x.start ≡ false → twice (x.start ∷ initiators p) ≡ false
    once h = false-either (any_none (eqb x.start) (initiators p) (λ i m. ne_eqb x.start i (λ g. not-both (initiator-in p i m) (rw g at h)))) (initiators-once p)

    go : (a : Bool) → is_initiator p x.start ≡ a → not (is_initiator p x.start) && leb 8 (length (initiators p)) ≡ false
    go true h = rw h
    go false h = rw h (lt-leb 8 (length (initiators p)) (omega (arith, fewer (x.start ∷ initiators p) (initiators q) among (once h))))
