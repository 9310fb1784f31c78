-- One element more in a list that is in the order of keys: it stands behind all that are less and before all that are more, and
-- searches for its place find it.
use Rattle.std.specs.Prelude.{◌≡◌, refl, ◌≢◌, ◌⊎◌, Bool, true, false, ◌&&◌, ◌||◌, cond, length, get_or, take, drop}
use Rattle.std.proofs.Math.Path.{sym, ap}
use Rattle.std.proofs.Common.{◌∙◌, inl, inr, zero-add, add-zero, add-suc, suc-add, length-append, take_at, drop_at, get_or-append-add}
use mathlib.Core.List.Memᴰ
use mathlib.Core.List.{List, [], ◌∷◌, ◌++◌, flat_map, append-nil, append_assoc, Memᴰ}
use Rattle.std.proofs.Math.Bool.{or-true, or-false}
use Prim.Native.Nat.{ℕ, zero, suc, ◌+◌, ◌-◌, ◌≤◌, ◌<◌}
use Rattle.std.proofs.Math.Decide.{ℕ_discrete, dec_lt}
use native.Mathlib.Omega.{arith}
use Rattle.std.proofs.Math.ListN.{get_or-append}
use Rattle.std.proofs.Math.Dec.{eqb}
use borrow.Author.Tests.{eqb-true, eq-eqb, ne_eqb}
use Rattle.lists.specs.Search.{any, keep, repeats, up_from, below64}
use Rattle.lists.specs.Numbers.{first_from}
use Rattle.lists.specs.Order.{in_order}
use Rattle.lists.specs.Insert.{past_last}
use Rattle.lists.specs.laws.Bools.{not-both, true-both, neither}
use Rattle.lists.specs.laws.Search.{any_false, keep_append, keep-elim, keep_same, flat-elim, up_from-range}
use Rattle.lists.specs.laws.At.{read-member}
use Rattle.lists.specs.laws.Append.{flat_append}
use Rattle.lists.specs.laws.Order.{flat-same, pair-repeats}
use Rattle.lists.specs.laws.Shuffle.{eq-respects, shuffled-middle}
use Rattle.lists.specs.laws.Numbers.{Finds, first-from}

module _ {A : Type 0} where
  -- zs is ys with x in it, behind elements that are Less and before elements that are More
  pub record Inserted (Less More : A → Type 0) (ys : List A) (x : A) (zs : List A) : Type 0 where
    pub before : List A
    pub behind : List A
    pub old : ys ≡ before ++ behind
    pub new : zs ≡ before ++ (x ∷ behind)
    pub less : (y : A) → Memᴰ y before → Less y
    pub more : (y : A) → Memᴰ y behind → More y

  -- the same by the place of x
  pub record Placed (Less More : A → Type 0) (d : A) (ys : List A) (x : A) (zs : List A) : Type 0 where
    pub place : ℕ
    pub within : place ≤ length ys
    pub new : zs ≡ take place ys ++ (x ∷ drop place ys)
    pub less : (j : ℕ) → j < place → Less (get_or ys j d)
    pub more : (j : ℕ) → place ≤ j → j < length ys → More (get_or ys j d)

  pub placed : {Less More : A → Type 0} (d : A) {ys : List A} {x : A} {zs : List A} → Inserted Less More ys x zs → Placed Less More d ys x zs
  placed {Less} {More} d {ys} {x} i = record {
    place = k;
    within = omega (arith, ap length i.old, length-append i.before i.behind);
    new = i.new ∙ (rw (i.old, take_at i.before i.behind k refl, drop_at i.before i.behind k refl));
    less = λ j h. rw (i.old, get_or-append i.before i.behind d j h) (i.less _ (read-member i.before j d h));
    more = λ j l h.
        let e : j ≡ k + (j - k) = omega arith in
        let m : j - k < length i.behind = omega (arith, ap length i.old, length-append i.before i.behind) in
        rw (i.old, e, get_or-append-add i.before i.behind (j - k) d) (i.more _ (read-member i.behind (j - k) d m));
  }
    where
      k : ℕ
      k = length i.before

  pub inserted-map : {Less More Less' More' : A → Type 0} {ys : List A} {x : A} {zs : List A} → ((y : A) → Less y → Less' y) → ((y : A) → More y → More' y)
      → Inserted Less More ys x zs → Inserted Less' More' ys x zs
  inserted-map f g i = record { before = i.before; behind = i.behind; old = i.old; new = i.new; less = λ y m. f y (i.less y m); more = λ y m. g y (i.more y m) }

  -- at the end
  pub inserted-last : (xs : List A) (x : A) → Inserted (λ y. Memᴰ y xs) (λ y. ⊥) xs x (xs ++ (x ∷ []))
  inserted-last xs x = record { before = xs; behind = []; old = sym (append-nil xs); new = refl; less = λ y m. m; more = λ y m. Memᴰ.not-nil m }

-- searches for the place: from the front and from the back
pub first-is : (n k : ℕ) (t : ℕ → Bool) → k ≤ n → ((j : ℕ) → j < k → t j ≡ false) → (k < n → t k ≡ true) → first_from n 0 t ≡ k
first-is n k t h f g = go (first-from n 0 t) (dec_lt r k) (dec_lt k r)
  where
    r : ℕ
    r = first_from n 0 t

    go : Finds n 0 t r → Dec (r < k) → Dec (k < r) → r ≡ k
    go s (yes l) c = not-both (s.found (omega arith)) (f r l)
    go s (no l) (yes c) = not-both (g (omega (arith, s.upto))) (s.before k (omega arith) c)
    go s (no l) (no c) = omega arith

pub last-is : (n k : ℕ) (t : ℕ → Bool) → k ≤ n → ((j : ℕ) → j < k → t j ≡ true) → ((j : ℕ) → k ≤ j → j < n → t j ≡ false) → past_last n t ≡ k
unfolding past_last
last-is zero k t h f g = omega arith
last-is (suc n) k t h f g = go (λ l. last-is n k t l f (λ j a b. g j a (omega arith))) (ℕ_discrete k (suc n))
  where
    go : (k ≤ n → past_last n t ≡ k) → Dec (k ≡ suc n) → cond (t n) (suc n) (past_last n t) ≡ k
    go ih (yes e) = rw (f n (omega arith)) (sym e)
    go ih (no e) = rw (g n (omega arith) (omega arith)) (ih (omega arith))

-- the search from the back, turn by turn
module _ (t : ℕ → Bool) where
  pub past-none : (k : ℕ) → k ≡ 0 → past_last k t ≡ k
  unfolding past_last
  past-none k e = rw e

  pub past-here : (k : ℕ) → 0 < k → t (k - 1) ≡ true → past_last k t ≡ k
  unfolding past_last
  past-here zero h e = absurd (omega arith)
  past-here (suc k) h e = let q : suc k - 1 ≡ k = omega arith in rw (rw q at e)

  pub past-before : (k : ℕ) → 0 < k → t (k - 1) ≡ false → past_last k t ≡ past_last (k - 1) t
  unfolding past_last
  past-before zero h e = absurd (omega arith)
  past-before (suc k) h e = let q : suc k - 1 ≡ k = omega arith in rw (q, rw q at e)

-- the numbers below 64: those before n, n, and those behind it
up_from-append : (m n i : ℕ) → up_from (m + n) i ≡ up_from m i ++ up_from n (m + i)
unfolding up_from
up_from-append zero n i = rw (zero-add n, zero-add i)
up_from-append (suc m) n i = rw (suc-add m n, up_from-append m n (suc i), add-suc m i, suc-add m i)

below64-split : (n : ℕ) → n < 64 → below64 ≡ up_from n 0 ++ (n ∷ up_from (63 - n) (suc n))
unfolding below64 up_from
below64-split n h =
    let e : 64 ≡ n + suc (63 - n) = omega arith in
    ap (λ m. up_from m 0) e ∙ up_from-append n (suc (63 - n)) 0 ∙ ap (λ m. up_from n 0 ++ up_from (suc (63 - n)) m) (add-zero n)

-- the numbers that pass, with one more that does
pub inserted-number : (t u : ℕ → Bool) (i : ℕ) → i < 64 → t i ≡ false → ((n : ℕ) → u n ≡ (t n || eqb n i)) → Inserted (λ n. n < i) (λ n. i < n) (keep t below64) i (keep u below64)
unfolding keep
inserted-number t u i h f g = record {
  before = keep t low;
  behind = keep t high;
  old = rw (below64-split i h, keep_append t low (i ∷ high), f);
  new = rw (below64-split i h, keep_append u low (i ∷ high), u-i, keep_same u t low (λ n m. other n (omega (arith, (up_from-range i 0 n m).1))), keep_same u t high (λ n m. other n (omega (arith, (up_from-range (63 - i) (suc i) n m).0))));
  less = λ n m. omega (arith, (up_from-range i 0 n (keep-elim t low n m).0).1);
  more = λ n m. (up_from-range (63 - i) (suc i) n (keep-elim t high n m).0).0;
}
  where
    low : List ℕ
    low = up_from i 0

    high : List ℕ
    high = up_from (63 - i) (suc i)

    u-i : u i ≡ true
    u-i = g i ∙ (rw (eq-eqb i i refl) (or-true (t i)))

    other : (n : ℕ) → n ≢ i → u n ≡ t n
    other n d = g n ∙ (rw (ne_eqb n i d) (or-false (t n)))

-- in the order of a key: behind the smaller keys, and among equal keys as it stood
module _ {A : Type 0} (key : A → ℕ) where
  part : List A → ℕ → List A
  part xs n = keep (λ (y : A). eqb n (key y)) xs

  part-elim : (xs : List A) (n : ℕ) (y : A) → Memᴰ y (part xs n) → Memᴰ y xs × (n ≡ key y)
  unfolding part
  part-elim xs n y m = let r = keep-elim (λ z. eqb n (key z)) xs y m in (r.0, eqb-true n (key y) r.1)

  order-split : (xs : List A) (n : ℕ) → n < 64 → in_order key xs ≡ flat_map (part xs) (up_from n 0) ++ (part xs n ++ flat_map (part xs) (up_from (63 - n) (suc n)))
  unfolding in_order part flat_map
  order-split xs n h = ap (flat_map (part xs)) (below64-split n h) ∙ flat_append (part xs) (up_from n 0) (n ∷ up_from (63 - n) (suc n))

  module _ {Less More : A → Type 0} {ys : List A} {x : A} {zs : List A} (i : Inserted Less More ys x zs) where
    old-part : (m : ℕ) → part ys m ≡ part i.before m ++ part i.behind m
    unfolding part
    old-part m = ap (λ l. part l m) i.old ∙ keep_append (λ y. eqb m (key y)) i.before i.behind

    new-part : part zs (key x) ≡ part i.before (key x) ++ (x ∷ part i.behind (key x))
    unfolding part keep
    new-part = rw (i.new, keep_append (λ y. eqb (key x) (key y)) i.before (x ∷ i.behind), eq-eqb (key x) (key x) refl)

    other-part : (m : ℕ) → m ≢ key x → part zs m ≡ part ys m
    unfolding part keep
    other-part m e = (rw (i.new, keep_append (λ y. eqb m (key y)) i.before (x ∷ i.behind), ne_eqb m (key x) e)) ∙ sym (old-part m)

    pub inserted-order : key x < 64
        → Inserted (λ y. (key y < key x) ⊎ ((key y ≡ key x) × Less y)) (λ y. (key x < key y) ⊎ ((key x ≡ key y) × More y)) (in_order key ys) x (in_order key zs)
    inserted-order h = record {
      before = flat_map (part ys) low ++ part i.before n;
      behind = part i.behind n ++ flat_map (part ys) high;
      old = rw (order-split ys n h, old-part n) (simp append_assoc);
      new = rw (order-split zs n h, new-part, others low (λ m k. omega (arith, (up_from-range n 0 m k).1)), others high (λ m k. omega (arith, (up_from-range (63 - n) (suc n) m k).0))) (simp append_assoc);
      less = λ y m. less y (Memᴰ.append_cases (flat_map (part ys) low) m);
      more = λ y m. more y (Memᴰ.append_cases (part i.behind n) m);
    }
      where
        n : ℕ
        n = key x

        low : List ℕ
        low = up_from n 0

        high : List ℕ
        high = up_from (63 - n) (suc n)

        others : (ms : List ℕ) → ((m : ℕ) → Memᴰ m ms → m ≢ n) → flat_map (part zs) ms ≡ flat_map (part ys) ms
        others ms d = flat-same (part zs) (part ys) ms (λ m k. other-part m (d m k))

        less : (y : A) → Memᴰ y (flat_map (part ys) low) ⊎ Memᴰ y (part i.before n) → (key y < n) ⊎ ((key y ≡ n) × Less y)
        less y (inl m) = let (j, k, l) = flat-elim (part ys) low y m in inl (omega (arith, (up_from-range n 0 j k).1, (part-elim ys j y l).1))
        less y (inr m) = let r = part-elim i.before n y m in inr (sym r.1, i.less y r.0)

        more : (y : A) → Memᴰ y (part i.behind n) ⊎ Memᴰ y (flat_map (part ys) high) → (n < key y) ⊎ ((n ≡ key y) × More y)
        more y (inl m) = let r = part-elim i.behind n y m in inr (r.1, i.more y r.0)
        more y (inr m) = let (j, k, l) = flat-elim (part ys) high y m in inl (omega (arith, (up_from-range (63 - n) (suc n) j k).0, (part-elim ys j y l).1))

-- the pair of i and t is before that of j and u
abbrev pub Before : ℕ → ℕ → ℕ → ℕ → Type 0
Before i t j u = (i < j) ⊎ ((i ≡ j) × (t < u))

-- in the order of two keys, where no other element has both keys of x
orders-around : {A : Type 0} (a b : A → ℕ) {Others : A → Type 0} {ys : List A} {x : A} {zs : List A} → Inserted Others Others ys x zs → a x < 64 → b x < 64
    → ((y : A) → Others y → a y ≡ a x → b y ≡ b x → ⊥)
    → Inserted (λ y. Before (a y) (b y) (a x) (b x)) (λ y. Before (a x) (b x) (a y) (b y)) (in_order a (in_order b ys)) x (in_order a (in_order b zs))
orders-around {A} a b {Others} {ys} {x} i h g d = inserted-map less more (inserted-order a (inserted-order b i g) h)
  where
    less : (y : A) → (a y < a x) ⊎ ((a y ≡ a x) × ((b y < b x) ⊎ ((b y ≡ b x) × Others y))) → Before (a y) (b y) (a x) (b x)
    less y (inl l) = inl l
    less y (inr (e, inl l)) = inr (e, l)
    less y (inr (e, inr (f, m))) = absurd (d y m e f)

    more : (y : A) → (a x < a y) ⊎ ((a x ≡ a y) × ((b x < b y) ⊎ ((b x ≡ b y) × Others y))) → Before (a x) (b x) (a y) (b y)
    more y (inl l) = inl l
    more y (inr (e, inl l)) = inr (e, l)
    more y (inr (e, inr (f, m))) = absurd (d y m (sym e) (sym f))

-- of an element that comes last
pub inserted-orders : {A : Type 0} (a b : A → ℕ) (xs : List A) (x : A) → a x < 64 → b x < 64 → ((y : A) → Memᴰ y xs → a y ≡ a x → b y ≡ b x → ⊥)
    → Inserted (λ y. Before (a y) (b y) (a x) (b x)) (λ y. Before (a x) (b x) (a y) (b y)) (in_order a (in_order b xs)) x (in_order a (in_order b (xs ++ (x ∷ []))))
inserted-orders a b xs x h g d = orders-around a b (inserted-map (λ y m. m) (λ y z. absurd z) (inserted-last xs x)) h g d

-- of an element that is among the others
inserted-member : {A : Type 0} (xs : List A) (x : A) → Memᴰ x xs → (ys : List A) × Inserted (λ y. Memᴰ y ys) (λ y. Memᴰ y ys) ys x xs
inserted-member {A = A} [] x x3 = elim x3 [ ]
inserted-member (z ∷ zs) x (Memᴰ.head e) = (zs, record { before = []; behind = zs; old = refl; new = rw e; less = λ y m. absurd (Memᴰ.not-nil m); more = λ y m. m })
inserted-member {A} (z ∷ zs) x (Memᴰ.tail m) =
    let (ys, i) = inserted-member zs x m in
    (z ∷ ys, record { before = z ∷ i.before; behind = i.behind; old = ap (λ l. z ∷ l) i.old; new = ap (λ l. z ∷ l) i.new; less = λ y n. front i.less y n; more = λ y n. Memᴰ.tail (i.more y n) })
  where
    front : {us vs : List A} → ((y : A) → Memᴰ y us → Memᴰ y vs) → (y : A) → Memᴰ y (z ∷ us) → Memᴰ y (z ∷ vs)
    front f y (Memᴰ.head e) = Memᴰ.head e
    front f y (Memᴰ.tail n) = Memᴰ.tail (f y n)

pub orders-member : {A : Type 0} (a b : A → ℕ) (xs : List A) (x : A) → a x < 64 → b x < 64 → Memᴰ x xs → repeats (λ (y z : A). eqb (a y) (a z) && eqb (b y) (b z)) xs ≡ false
    → (ys : List A) × Inserted (λ y. Before (a y) (b y) (a x) (b x)) (λ y. Before (a x) (b x) (a y) (b y)) ys x (in_order a (in_order b xs))
unfolding repeats
orders-member {A} a b xs x h g m once = let (ys, i) = inserted-member xs x m in (in_order a (in_order b ys), orders-around a b i h g (other ys i))
  where
    same : A → A → Bool
    same y z = eqb (a y) (a z) && eqb (b y) (b z)

    other : (ys : List A) → Inserted (λ y. Memᴰ y ys) (λ y. Memᴰ y ys) ys x xs → (y : A) → Memᴰ y ys → a y ≡ a x → b y ≡ b x → ⊥
    other ys i y n e f =
        let apart : any (same x) ys || repeats same ys ≡ false =
        ap (λ l. any (same x) l || repeats same l) i.old
        ∙ pair-repeats (shuffled-middle (λ z. refl) i.before x i.behind) a b (eq-respects a) (eq-respects b) ∙ ap (repeats same) (sym i.new) ∙ once in
        not-both (true-both (eq-eqb (a x) (a y) (sym e)) (eq-eqb (b x) (b y) (sym f))) (any_false (same x) ys y (neither (any (same x) ys) (repeats same ys) apart).0 n)
