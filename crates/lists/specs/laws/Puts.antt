-- Laws of bytes put where they have room: nothing, a run behind another, and a loop that puts one part for each number in turn.
use Rattle.std.specs.Prelude.{◌≡◌, refl, ℕ, zero, suc, ◌+◌, ◌≤◌, ◌<◌, length}
use Rattle.std.proofs.Common.{◌∙◌, add-zero, add-suc, suc-add, add-one, arith, length-append}
use mathlib.Core.List.{List, [], ◌++◌, flat_map, append-nil, append_assoc}
use Rattle.lists.specs.Search.{up_from}
use Rattle.lists.specs.Stores.{Put}
use Rattle.lists.specs.Puts.{Puts}
use Rattle.lists.specs.laws.Stores.{put-none, put_then, put-length}

pub puts_none : (l : List ℕ) (i : ℕ) → Puts l i [] l i
puts_none l i = record { fitting = λ _. put-none l i }

-- no room: nothing is asked
pub puts-over : (l : List ℕ) (i : ℕ) (ys o : List ℕ) (k : ℕ) → length l < i + length ys → Puts l i ys o k
puts-over l i ys o k h = record { fitting = λ g. absurd (omega arith) }

pub puts_then : {l o p ys zs : List ℕ} {i k m : ℕ} → Puts l i ys o k → Puts o k zs p m → Puts l i (ys ++ zs) p m
puts_then {l} {o} {p} {ys} {zs} {i} {k} {m} f g = record { fitting = λ h. go (simp length-append at h) }
  where
    go : i + (length ys + length zs) ≤ length l → Put l i (ys ++ zs) p m
    go h =
        let a = f.fitting (omega arith) in
        put_then a (g.fitting (omega (arith, a.next, put-length a)))

-- the parts of the numbers from 0 on, with one number more
pub flat_up : {A : Type 0} (f : ℕ → List A) (n i : ℕ) → flat_map f (up_from (suc n) i) ≡ flat_map f (up_from n i) ++ f (i + n)
unfolding flat_map up_from
flat_up f zero i = rw (add-zero i) (append-nil (f i))
flat_up f (suc n) i = rw (flat_up f n (suc i), suc-add i n, add-suc i n, append_assoc (f i) (flat_map f (up_from n (suc i))) (f (suc (i + n))))

-- a loop that puts the parts of the numbers from 0 up to a bound, with the numbers below n put: its invariant
pub record Turns (f : ℕ → List ℕ) (most : ℕ) (l : List ℕ) (i : ℕ) (o : List ℕ) (k n : ℕ) : Type 0 where
  pub upto : n ≤ most
  pub same : length o ≡ length l
  pub puts : Puts l i (flat_map f (up_from n 0)) o k

pub turns-begin : (f : ℕ → List ℕ) (most : ℕ) (l : List ℕ) (i : ℕ) → Turns f most l i l i 0
unfolding flat_map up_from
turns-begin f most l i = record { upto = omega arith; same = refl; puts = puts_none l i }

pub turns_next : {f : ℕ → List ℕ} {most : ℕ} {l o p : List ℕ} {i k m n : ℕ} → Turns f most l i o k n → n < most → length p ≡ length o → Puts o k (f n) p m
    → Turns f most l i p m (n + 1)
turns_next {f} {n} a h e b =
    let z : 0 + n ≡ n = omega arith in
    record { upto = omega arith; same = e ∙ a.same; puts = rw (add-one n, flat_up f n 0, z) (puts_then a.puts b) }

pub turns-done : {f : ℕ → List ℕ} {most : ℕ} {l o : List ℕ} {i k n : ℕ} → Turns f most l i o k n → most ≤ n → Puts l i (flat_map f (up_from most 0)) o k
turns-done {most} {n} a h = let e : n ≡ most = omega (arith, a.upto) in rw e at a.puts
