-- Whether links are a walk, against the words: the devices met one after another, and the test that goes from one to the next.
use mathlib.Core.Path.{◌≡◌, refl, sym, ap, ◌∙◌, subst}
use mathlib.Core.Logic.{◌↔◌, ◌⊎◌, inl, inr}
use mathlib.Core.List.Memᴰ
use mathlib.Core.List.{List, [], ◌∷◌, Memᴰ}
use mathlib.Core.Option.{Option, none, some}
use mathlib.Core.Bool.{Bool, true, not, ◌&&◌, ◌||◌}
use Prim.Native.Nat.{ℕ, zero, suc, ◌+◌, ◌<◌}
use native.Mathlib.Omega.{arith}
use native.Mathlib.Decide.{ℕ_discrete}
use lib.ListN.{length, drop, length-drop}
use lib.Seq.{get_or-drop}
use lib.Dec.{eqb}
use borrow.Author.Tests.{eqb-true, eq-eqb, ne_eqb}
use Rattle.lists.specs.Search.{find, is_in}
use Rattle.lists.specs.laws.Bools.{both_true, true-both, not-both, none-some, some-some}
use Rattle.lists.specs.laws.Search.{find-some, find-has, is_in-elim, is_in-intro}
use Rattle.rules_plan.specs.Plan.{nth, Device, Link, Plan}
use Rattle.rules_plan.specs.Meaning.{has_kind, is_router, across, leads, walks, is_walk}
use Rattle.rules_plan.specs.Walk.{IsRouter, Joins, Walk, LinksDiffer}
use Rattle.rules_plan.specs.Promises.{WalksAsWorded}
use Rattle.rules_plan.proofs.Asks.{Asks, is-asks, eq-asks, and-asks, or-asks, not-asks, any-two-asks}

pub router-asks : (p : Plan) (n : ℕ) → Asks (is_router p n) (IsRouter p n)
unfolding is_router has_kind
router-asks p n = any-two-asks _ _ _ _ (λ (d : Device). is-asks n d.num) (λ (d : Device). is-asks 1 d.kind) p.devices

-- the two ends of a link
abbrev Ends : Link → ℕ → ℕ → Type 0
Ends l a b = ((l.one ≡ a) × (l.other ≡ b)) ⊎ ((l.one ≡ b) × (l.other ≡ a))

across-ends : (l : Link) (d e : ℕ) → (across l d ≡ some e) ↔ Ends l d e
unfolding across
across-ends l d e = (λ h. there h (ℕ_discrete d l.one) (ℕ_discrete d l.other), back)
  where
    there : across l d ≡ some e → Dec (d ≡ l.one) → Dec (d ≡ l.other) → Ends l d e
    there h (yes a) y = inl (sym a, some-some (rw (eq-eqb d l.one a, across) at h))
    there h (no a) (yes b) = inr (some-some (rw (ne_eqb d l.one a, eq-eqb d l.other b, across) at h), sym b)
    there h (no a) (no b) = none-some (rw (ne_eqb d l.one a, ne_eqb d l.other b, across) at h)

    turned : l.one ≡ e → l.other ≡ d → Dec (d ≡ l.one) → across l d ≡ some e
    turned a b (yes c) = rw (eq-eqb d l.one c, across) (ap some (b ∙ c ∙ a))
    turned a b (no c) = rw (ne_eqb d l.one c, eq-eqb d l.other (sym b), across) (ap some a)

    back : Ends l d e → across l d ≡ some e
    back (inl (a, b)) = rw (eq-eqb d l.one (sym a), across) (ap some b)
    back (inr (a, b)) = turned a b (ℕ_discrete d l.one)

module _ (p : Plan) (apart : LinksDiffer p) where
  abbrev numbered : ℕ → Link → Bool
  numbered n l = eqb n l.num

  -- "each link leads on from the device reached"
  leads-joins : (n d e : ℕ) → (leads p n d ≡ some e) ↔ Joins p n d e
  unfolding leads
  leads-joins n d e = (λ h. there h (find (numbered n) p.links) refl, back)
    where
      there : leads p n d ≡ some e → (o : Option Link) → find (numbered n) p.links ≡ o → Joins p n d e
      there h none f = none-some (rw (f, leads) at h)
      there h (some l) f =
          let (m, g) = find-some (numbered n) p.links l f in
          record { link = l; has = m; number = sym (eqb-true n l.num g); ends = (across-ends l d e).0 (rw (f, leads) at h) }

      back : Joins p n d e → leads p n d ≡ some e
      back j =
          let (l, f) = find-has (numbered n) p.links j.link j.has (eq-eqb n j.link.num (sym j.number)) in
          let (m, g) = find-some (numbered n) p.links l f in
          let same : l ≡ j.link = apart l j.link m j.has (sym (eqb-true n l.num g) ∙ sym j.number) in
          rw (f, leads, same) ((across-ends j.link d e).1 j.ends)

  -- a walk from device d that comes to none of the devices met so far
  record Onward (met : List ℕ) (d : ℕ) (links : List ℕ) (end : ℕ) : Type 0 where
    walk : Walk p d links end
    new : (k : ℕ) → k < length links → Memᴰ (nth walk.met (suc k)) met → ⊥

  -- the link at a place, and the next place
  link_at : {d : ℕ} {links : List ℕ} {end : ℕ} (w : Walk p d links end) (k : ℕ) → k < length links → Joins p (nth links k) (nth w.met k) (nth w.met (suc k))
  link_at {links} w k h = let e : k + 1 ≡ suc k = omega arith in subst (λ n. Joins p (nth links k) (nth w.met k) (nth w.met n)) e (w.leads k h)

  -- no link left
  stays : (met : List ℕ) (d end : ℕ) → d ≡ end → Onward met d [] end
  stays met d end e = record {
    walk = record {
      met = d ∷ [];
      one_more = omega arith;
      first = refl;
      leads = λ k l. absurd (omega arith);
      last = e;
      between = λ k l h. absurd (omega arith);
      once = λ t. absurd (omega (arith, t.apart, t.within));
    };
    new = λ k l. absurd (omega arith);
  }

  -- one link more in front
  module _ (l d e : ℕ) (links met : List ℕ) (end : ℕ) where
    longer : Memᴰ d met → Joins p l d e → (Memᴰ e met → ⊥) → (e ≡ end) ⊎ IsRouter p e → Onward (e ∷ met) e links end → Onward met d (l ∷ links) end
    longer m j n r w = record {
      walk = record {
        met = d ∷ ds;
        one_more = omega (arith, w.walk.one_more);
        first = refl;
        leads = λ k h. let s : suc k ≡ k + 1 = omega arith in subst (λ n. Joins p (nth (l ∷ links) k) (nth (d ∷ ds) k) (nth (d ∷ ds) n)) s (joins k h);
        last = w.walk.last;
        between = λ k h b. routers k (omega arith) (omega arith);
        once = λ t. twice t.one t.other t.apart t.within t.same;
      };
      new = new;
    }
      where
        ds : List ℕ
        ds = w.walk.met

        new : (k : ℕ) → k < suc (length links) → Memᴰ (nth ds k) met → ⊥
        new zero h q = n (rw w.walk.first at q)
        new (suc k) h q = w.new k (omega arith) (Memᴰ.tail q)

        joins : (k : ℕ) → k < suc (length links) → Joins p (nth (l ∷ links) k) (nth (d ∷ ds) k) (nth ds k)
        joins zero h = rw w.walk.first j
        joins (suc k) h = link_at w.walk k (omega arith)

        -- the device reached is no end where links are left
        reached : (e ≡ end) ⊎ IsRouter p e → 0 < length links → IsRouter p e
        reached (inl g) h = absurd (last (length links) refl h g)
          where
            last : (k : ℕ) → length links ≡ k → 0 < length links → e ≡ end → ⊥
            last zero f h g = omega arith
            last (suc k) f h g = w.new k (omega arith) (Memᴰ.head (rw f at w.walk.last ∙ sym g))
        reached (inr g) h = g

        routers : (k : ℕ) → 0 < k → k < suc (length links) → IsRouter p (nth (d ∷ ds) k)
        routers zero h b = absurd (omega arith)
        routers (suc zero) h b = rw w.walk.first (reached r (omega arith))
        routers (suc (suc k)) h b = w.walk.between (suc k) (omega arith) (omega arith)

        twice : (i k : ℕ) → i < k → k < suc (length ds) → nth (d ∷ ds) i ≡ nth (d ∷ ds) k → ⊥
        twice i zero a b s = omega arith
        twice zero (suc k) a b s = new k (omega (arith, w.walk.one_more)) (rw s at m)
        twice (suc i) (suc k) a b s = w.walk.once (record { one = i; other = k; apart = omega arith; within = omega arith; same = s })

  -- and one less
  module _ (l d : ℕ) (links met : List ℕ) (end : ℕ) (w : Onward met d (l ∷ links) end) where
    abbrev ds : List ℕ
    ds = w.walk.met

    abbrev second : ℕ
    second = nth ds 1

    long : length ds ≡ suc (suc (length links))
    long = omega (arith, w.walk.one_more)

    tail : (k : ℕ) → nth (drop 1 ds) k ≡ nth ds (suc k)
    tail k = let e : 1 + k ≡ suc k = omega arith in get_or-drop 1 ds k 0 ∙ rw e

    joined : Joins p l d second
    joined = rw w.walk.first at (link_at w.walk 0 (omega arith))

    shorter : Onward (second ∷ met) second links end
    shorter = record {
      walk = record {
        met = drop 1 ds;
        one_more = rw length-drop (omega (arith, long));
        first = tail 0;
        leads = joins;
        last = tail (length links) ∙ w.walk.last;
        between = λ k h b. rw (tail k) (w.walk.between (suc k) (omega arith) (omega arith));
        once = λ t. w.walk.once (record {
          one = suc t.one;
          other = suc t.other;
          apart = omega (arith, t.apart);
          within = omega (arith, long, rw length-drop at t.within);
          same = sym (tail t.one) ∙ t.same ∙ tail t.other;
        });
      };
      new = λ k h q. new k h (Memᴰ.cases_cons (rw (tail (suc k)) at q));
    }
      where
        joins : (k : ℕ) → k < length links → Joins p (nth links k) (nth (drop 1 ds) k) (nth (drop 1 ds) (k + 1))
        joins k h = let s : suc (suc k) ≡ suc (k + 1) = omega arith in rw (tail k, tail (k + 1)) (subst (λ n. Joins p (nth links k) (nth ds (suc k)) (nth ds n)) s (link_at w.walk (suc k) (omega arith)))

        new : (k : ℕ) → k < length links → (nth ds (suc (suc k)) ≡ second) ⊎ Memᴰ (nth ds (suc (suc k))) met → ⊥
        new k h (inl e) = w.walk.once (record { one = 1; other = suc (suc k); apart = omega arith; within = omega (arith, long); same = sym e })
        new k h (inr m) = w.new (suc k) (omega arith) m

    -- "every device between is a router"
    passes : (ls : List ℕ) → links ≡ ls → (second ≡ end) ⊎ IsRouter p second
    passes [] e = inl (rw e at w.walk.last)
    passes (k ∷ ls) e = let s : length links ≡ suc (length ls) = rw e in inr (w.walk.between 1 (omega arith) (omega arith))

  in-asks : (e : ℕ) (met : List ℕ) → Asks (is_in e met) (Memᴰ e met)
  in-asks e met = (is_in-elim e met, is_in-intro e met)

  -- what is asked of the device that a link leads to
  step-asks : (e end : ℕ) (met : List ℕ) → Asks (not (is_in e met) && (eqb e end || is_router p e)) ((Memᴰ e met → ⊥) × ((e ≡ end) ⊎ IsRouter p e))
  step-asks e end met = and-asks (not-asks (is_in e met) (in-asks e met)) (or-asks (eq-asks e end) (router-asks p e))

  there : (links met : List ℕ) (d end : ℕ) → Memᴰ d met → walks p met d links end ≡ true → Onward met d links end
  unfolding walks
  there [] met d end m h = stays met d end (eqb-true d end h)
  there (l ∷ links) met d end m h = go (there links) (leads p l d) refl
    where
      go : ((met : List ℕ) (d end : ℕ) → Memᴰ d met → walks p met d links end ≡ true → Onward met d links end) → (o : Option ℕ) → leads p l d ≡ o → Onward met d (l ∷ links) end
      go ih none f = not-both (rw (f, walks) at h) refl
      go ih (some e) f =
          let (a, b) = both_true (not (is_in e met) && (eqb e end || is_router p e)) (walks p (e ∷ met) e links end) (rw (f, walks) at h) in
          let (n, r) = (step-asks e end met).0 a in
          longer l d e links met end m ((leads-joins l d e).0 f) n r (ih (e ∷ met) e end (Memᴰ.head refl) b)

  back : (links met : List ℕ) (d end : ℕ) → Onward met d links end → walks p met d links end ≡ true
  unfolding walks
  back [] met d end w = eq-eqb d end (sym w.walk.first ∙ w.walk.last)
  back (l ∷ links) met d end w =
      let e = second l d links met end w in
      rw ((leads-joins l d e).1 (joined l d links met end w), walks)
      (true-both ((step-asks e end met).1 (w.new 0 (omega arith), passes l d links met end w links refl)) (back links (e ∷ met) e end (shorter l d links met end w)))

  pub walk-asks : (start : ℕ) (links : List ℕ) (end : ℕ) → Asks (is_walk p start links end) (Walk p start links end)
  unfolding is_walk
  walk-asks start links end = (λ h. (there links (start ∷ []) start end (Memᴰ.head refl) h).walk, λ w. back links (start ∷ []) start end (record { walk = w; new = new w }))
    where
      new : (w : Walk p start links end) (k : ℕ) → k < length links → Memᴰ (nth w.met (suc k)) (start ∷ []) → ⊥
      new w k h m = w.once (record { one = 0; other = suc k; apart = omega arith; within = omega (arith, w.one_more); same = w.first ∙ sym (Memᴰ.eq_of_singleton m) })

pub walks-as-worded : WalksAsWorded
unfolding WalksAsWorded
walks-as-worded = walk-asks
