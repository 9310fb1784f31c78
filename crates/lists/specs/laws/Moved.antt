-- Laws of room made in a list: the turns of a loop that moves elements on, what is then put there, and the same in a list that is filled up.
use Rattle.std.specs.Prelude.{◌≡◌, refl, get_or, take, set}
use Rattle.std.proofs.Common.{sym, ap, ◌∙◌, add_assoc, suc-add, add-one, take-append-drop, length-append, drop-drop}
use mathlib.Core.List.{List, [], ◌∷◌, ◌++◌, append_assoc}
use Prim.Native.Nat.{ℕ, zero, suc, ◌+◌, ◌-◌, ◌≤◌, ◌<◌}
use Rattle.std.proofs.Math.Nat.{sub-zero, zero-sub, suc-sub-suc}
use native.Mathlib.Omega.{arith}
use Rattle.std.proofs.Math.ListN.{length, drop, replicate, length-take, length-drop, get_or-append}
use Rattle.std.proofs.Math.Seq.{paste, length-take-le, take-suc, drop-cons, append_snoc, take_all, take-append-le, take-take, take_at, drop_at, set_at, get_or_at, get_or-take, drop-append-le, drop-append-add, take-append-add}
use Rattle.std.proofs.lemmas.List.{set_split}
use Rattle.std.proofs.lemmas.List.Edits.{take-paste, drop-paste, length-paste}
use Rattle.lists.specs.Cells.{padded}
use Rattle.lists.specs.Insert.{moved, put_in}

module _ {A : Type 0} where
  -- nothing moves
  pub moved_none : (w n : ℕ) (xs : List A) → xs ≡ moved w n n xs
  unfolding moved
  moved_none w n xs = let e : n - n ≡ 0 = omega arith in rw e (sym (take-append-drop (n + w) xs))

  pub length_moved : (w k n : ℕ) (xs : List A) → k ≤ n → n + w ≤ length xs → length (moved w k n xs) ≡ length xs
  unfolding moved
  length_moved w k n xs h l = simp (length-append, length-take, length-drop) (omega arith)

  -- what stands before is as it was
  pub moved_before : (w k n : ℕ) (xs : List A) (d : A) (j : ℕ) → j < k + w → k + w ≤ length xs → get_or (moved w k n xs) j d ≡ get_or xs j d
  unfolding moved
  moved_before w k n xs d j h l =
      get_or-append (take (k + w) xs) _ d j (omega (arith, length-take-le (k + w) xs l)) ∙ get_or-take (k + w) xs j d h

  -- one more moves
  pub moved-next : (w k n : ℕ) (xs : List A) (d : A) → k < n → n + w ≤ length xs → set (moved w (suc k) n xs) (k + w) (get_or xs k d) ≡ moved w k n xs
  unfolding moved
  moved-next w k n xs d h l =
      let e : n - k ≡ suc (n - suc k) = omega arith in
      rw (suc-add, take-suc xs (k + w) d (omega arith), append_snoc, e, drop-cons xs k d (omega arith))
      (set_at (take (k + w) xs) (get_or xs (k + w) d) (take (n - suc k) (drop (suc k) xs) ++ drop (n + w) xs) (get_or xs k d) (k + w) (length-take-le (k + w) xs (omega arith)))

  -- a turn of the loop: from j on they have moved, and now from j - 1 on
  pub moved-turn : (w n : ℕ) (xs ys : List A) (d : A) (j at : ℕ) → 0 < j → j ≤ n → n + w ≤ length xs → at ≡ j - 1 + w → ys ≡ moved w j n xs
      → set ys at (get_or ys (j - 1) d) ≡ moved w (j - 1) n xs
  moved-turn w n xs ys d j at z h l a e =
      let q : suc (j - 1) ≡ j = omega arith in
      rw (e, a, moved_before w j n xs d (j - 1) (omega arith) (omega arith))
      (ap (λ k. set (moved w k n xs) (j - 1 + w) (get_or xs (j - 1) d)) (sym q) ∙ moved-next w (j - 1) n xs d (omega arith) l)

  -- something is put where there is room: a run of elements, or one
  pub moved-put : (w k n : ℕ) (vs xs : List A) → length vs ≡ w → k ≤ n → n + w ≤ length xs → paste (moved w k n xs) k vs w ≡ put_in k n vs xs
  unfolding moved put_in
  moved-put w k n vs xs e h l =
      let c = length-take-le (k + w) xs (omega arith) in
      rw (← e, e, take-append-le k (take (k + w) xs) (take (n - k) (drop k xs) ++ drop (n + w) xs) (omega arith), take-take k (k + w) xs (omega arith), drop_at (take (k + w) xs) _ (k + w) c, take_all w vs (omega arith), append_assoc)

  pub moved-set : (k n : ℕ) (x : A) (xs : List A) → k ≤ n → n < length xs → set (moved 1 k n xs) k x ≡ put_in k n (x ∷ []) xs
  moved-set k n x xs h l =
      set_split (moved 1 k n xs) k x (omega (arith, length_moved 1 k n xs h (omega arith)))
      ∙ sym (append_snoc (take k (moved 1 k n xs)) x (drop (suc k) (moved 1 k n xs)))
      ∙ ap (λ j. take k (moved 1 k n xs) ++ (x ∷ []) ++ drop j (moved 1 k n xs)) (sym (add-one k))
      ∙ moved-put 1 k n (x ∷ []) xs refl h (omega arith)

  pub put_in-at : (k n : ℕ) (x : A) (xs : List A) (d : A) → k ≤ length xs → get_or (put_in k n (x ∷ []) xs) k d ≡ x
  unfolding put_in
  put_in-at k n x xs d h = get_or_at (take k xs) x _ d k (length-take-le k xs h)

  pub put_in-set : (k n : ℕ) (x y : A) (xs : List A) → k ≤ length xs → set (put_in k n (x ∷ []) xs) k y ≡ put_in k n (y ∷ []) xs
  unfolding put_in
  put_in-set k n x y xs h = set_at (take k xs) x _ y k (length-take-le k xs h)

  -- in the front of a longer list
  pub put_in-front : (k n : ℕ) (vs xs ys : List A) → k ≤ n → n + length vs ≤ length xs → put_in k n vs (xs ++ ys) ≡ put_in k n vs xs ++ ys
  unfolding put_in
  put_in-front k n vs xs ys h l =
      rw (take-append-le k xs ys (omega arith), drop-append-le k xs ys (omega arith), take-append-le (n - k) (drop k xs) ys (omega (arith, length-drop k xs)), drop-append-le (n + length vs) xs ys l)
      (simp append_assoc)

  drop-replicate : (w n : ℕ) (d : A) → drop w (replicate n d) ≡ replicate (n - w) d
  drop-replicate zero n d = rw sub-zero
  drop-replicate (suc w) zero d = rw zero-sub
  drop-replicate (suc w) (suc n) d = rw suc-sub-suc (drop-replicate w n d)

  -- a list that is filled up: put in and filled up, or filled up and put in
  pub padded-put_in : (m k : ℕ) (d : A) (vs xs : List A) → k ≤ length xs → length xs + length vs ≤ m
      → padded m d (take k xs ++ (vs ++ drop k xs)) ≡ put_in k (length xs) vs (padded m d xs)
  unfolding padded put_in
  padded-put_in m k d vs xs h l =
      let R : List A = replicate (m - length xs) d in
      let q : m - length (take k xs ++ (vs ++ drop k xs)) ≡ m - length xs - length vs = simp (length-append, length-take, length-drop) (omega arith) in
      rw (q, take-append-le k xs R h, drop-append-le k xs R h, take_at (drop k xs) R (length xs - k) (length-drop k xs), drop-append-add xs R (length vs), drop-replicate, append_assoc, append_assoc)

  -- a run of elements stored behind another is one run
  pub paste-behind : (xs : List A) (at w n : ℕ) (us vs : List A) → length us ≡ w → n ≤ length vs → at + w ≤ length xs
      → paste (paste xs at us w) (at + w) vs n ≡ paste xs at (us ++ vs) (w + n)
  paste-behind xs at w n us vs e h l =
      let p : List A = paste xs at us w in
      let far : drop (at + w + n) p ≡ drop (at + w + n) xs =
      sym (drop-drop n (at + w) p) ∙ ap (drop n) (drop-paste xs at us w (omega arith) (omega arith)) ∙ drop-drop n (at + w) xs in
      let near : take (w + n) (us ++ vs) ≡ us ++ take n vs = ap (λ j. take (j + n) (us ++ vs)) (sym e) ∙ take-append-add us vs n in
      rw (take-paste xs at us w (omega arith) (omega arith), far, take_all w us (omega arith), near, add_assoc at w n) (simp append_assoc)

  -- a run of elements stored in a list that is filled up, and behind another list
  pub padded-paste : (m : ℕ) (d : A) (xs : List A) (at w : ℕ) (vs : List A) → length vs ≡ w → at + w ≤ length xs → padded m d (paste xs at vs w) ≡ paste (padded m d xs) at vs w
  unfolding padded
  padded-paste m d xs at w vs e l =
      let R : List A = replicate (m - length xs) d in
      rw (length-paste xs at vs w l (omega arith), take-append-le at xs R (omega arith), drop-append-le (at + w) xs R l) (simp append_assoc)

  pub paste-back : (xs ys : List A) (at n : ℕ) (vs : List A) → xs ++ paste ys at vs n ≡ paste (xs ++ ys) (length xs + at) vs n
  paste-back xs ys at n vs = rw (add_assoc (length xs) at n, take-append-add xs ys at, drop-append-add xs ys (at + n)) (simp append_assoc)
