-- Turns: the slots at which an entry stands that permits a transaction, and how many slots on the next of them is. What redefines `is_turn`
-- proves `turn_at` again; all else rests on it.
use Rattle.std.specs.Prelude.{◌≡◌, refl, ◌↔◌, List, Bool, true, false, cond, ltb, eqb}
use Rattle.std.proofs.Math.Path.{sym}
use Rattle.std.proofs.Common.{ap, ap₂, ◌∙◌, arith, eq-eqb}
use Rattle.std.proofs.Math.Logic.{by_cases}
use Rattle.std.proofs.Math.Option.{Option, none, some, get_or}
use Prim.Native.Nat.{ℕ, suc, ◌+◌, ◌-◌, ◌%◌, ◌≤◌, ◌<◌}
use Rattle.std.proofs.Math.Decide.{dec_lt}
use Rattle.lists.specs.Numbers.{any_below}
use Rattle.lists.specs.laws.Bools.{not-both, true-both, same_test}
use Rattle.lists.specs.laws.Search.{any-intro}
use Rattle.lists.specs.laws.Numbers.{Finds, any-true, first-from}
use Rattle.lists.specs.laws.Sweep.{any_below_lem, first-here}
use Rattle.lists.specs.Search.{is_some}
use Rattle.lists.specs.Rows.{first_of}
use Rattle.rules_plan.specs.Plan.{Entry, Plan, blank}
use Rattle.rules_plan.specs.Meaning.{is_initiator, permits, may_start, entry_at}
use Rattle.rules_plan.specs.Next.{Next, NoTurn, Turn, is_turn, slot_after, next_turn, next_rows, next_refusal, next_answer}
use Rattle.rules_plan.specs.Promises.{TurnAt}
use Rattle.rules_plan.specs.laws.Sound.{Sound}
use Rattle.rules_plan.specs.laws.Runs.{entry-at, found_at}
use Rattle.rules_plan.specs.laws.Permitted.{permitted-by}

module _ (p : Plan) (i t n : ℕ) where
  -- by the entry that stands there
  pub turn-some : (es : List Entry) (v : ℕ) (e : Entry) → entry_at es i v ≡ some e → is_turn p es i t n v ≡ permits p e t n
  unfolding is_turn
  turn-some es v e h = rw (h, is_turn)

  pub turn-none : (es : List Entry) (v : ℕ) → entry_at es i v ≡ none → is_turn p es i t n v ≡ false
  unfolding is_turn
  turn-none es v h = rw (h, is_turn)

  module _ (ok : Sound p) where
    pub turn_at : (v : ℕ) → (is_turn p p.entries i t n v ≡ true) ↔ TurnAt p i t n v
    turn_at v = (there (entry_at p.entries i v) refl, back)
      where
        there : (o : Option Entry) → entry_at p.entries i v ≡ o → is_turn p p.entries i t n v ≡ true → TurnAt p i t n v
        there none h f = not-both f (turn-none p.entries v h)
        there (some e) h f =
            let s = entry-at p.entries i v e h in
            record { entry = e; has = s.has; own = s.own; here = s.slot; permitted = sym (turn-some p.entries v e h) ∙ f }

        back : TurnAt p i t n v → is_turn p p.entries i t n v ≡ true
        back z = turn-some p.entries v z.entry (ap₂ (entry_at p.entries) (sym z.own) (sym z.here) ∙ found_at p ok z.entry z.has) ∙ z.permitted

    -- a turn is one of the sixty-four slots
    pub turn_low : (v : ℕ) → is_turn p p.entries i t n v ≡ true → v < 64
    turn_low v h = let z = ((turn_at v).0 h) in omega (arith, ok.slots z.entry z.has, z.here)

    -- what may start has a turn
    pub some_turn : may_start p p.entries i t n ≡ true → (v : ℕ) × (is_turn p p.entries i t n v ≡ true)
    some_turn h =
        let (e, m, own, fit) = permitted-by p p.entries i t n h in
        (e.slot, (turn_at e.slot).1 (record { entry = e; has = m; own = own; here = refl; permitted = fit }))

    pub turn-starts : (v : ℕ) → is_turn p p.entries i t n v ≡ true → may_start p p.entries i t n ≡ true
    unfolding may_start
    turn-starts v h =
        let z = (turn_at v).0 h in
        any-intro _ p.entries z.entry z.has (true-both (eq-eqb i z.entry.initiator (sym z.own)) z.permitted)

    -- 25 asks for a turn among the sixty-four slots
    pub may-start-turn : may_start p p.entries i t n ≡ any_below 64 (is_turn p p.entries i t n)
    may-start-turn = same_test _ _ there back
      where
        there : may_start p p.entries i t n ≡ true → any_below 64 (is_turn p p.entries i t n) ≡ true
        there h = let (v, is) = some_turn h in any_below_lem 64 (is_turn p p.entries i t n) v (turn_low v is) is

        back : any_below 64 (is_turn p p.entries i t n) ≡ true → may_start p p.entries i t n ≡ true
        back h = let (v, _, is) = any-true 64 (is_turn p p.entries i t n) h in turn-starts v is

  module _ (es : List Entry) (s : ℕ) where
    abbrev on : ℕ → Bool
    on k = is_turn p es i t n (slot_after s k)

    pub next-finds : Finds 64 1 on (next_turn p es i t n s)
    unfolding next_turn
    next-finds = first-from 64 1 on

    pub next-is : (c : ℕ) → 1 ≤ c → c ≤ 64 → on c ≡ true → ((k : ℕ) → 1 ≤ k → k < c → on k ≡ false) → next_turn p es i t n s ≡ c
    unfolding next_turn
    next-is c low most turn before = sym (first-here 64 1 on c low (omega arith) turn before)

    -- where there is a turn at all, it is at most 64 slots on
    pub next-most : s < 64 → (v : ℕ) → v < 64 → is_turn p es i t n v ≡ true → next_turn p es i t n s ≤ 64
    unfolding slot_after
    next-most low v below turn = go (next_turn p es i t n s) next-finds
      where
        k : ℕ
        k = (v + 63 - s) % 64 + 1

        back : (s + k) % 64 ≡ v
        back = omega arith

        go : (c : ℕ) → Finds 64 1 on c → c ≤ 64
        go c f = by_cases (dec_lt 64 c) (λ far. not-both (rw back turn) (f.before k (omega arith) (omega arith))) (λ near. omega arith)

    -- the slot after is a turn
    pub next-now : on 1 ≡ true → next_turn p es i t n s ≡ 1
    next-now h = next-is 1 (omega arith) (omega arith) h (λ k a b. absurd (omega arith))

-- it is none: one slot nearer
pub next-on : (p : Plan) (i t n : ℕ) (es : List Entry) (s : ℕ) → s < 64 → (v : ℕ) → v < 64 → is_turn p es i t n v ≡ true
    → is_turn p es i t n (slot_after s 1) ≡ false → next_turn p es i t n s ≡ suc (next_turn p es i t n (slot_after s 1))
unfolding slot_after
next-on p i t n es s low v below turn h = go (next_turn p es i t n s) refl
  where
    f : ℕ → Bool
    f k = is_turn p es i t n ((s + k) % 64)

    one : (c : ℕ) → next_turn p es i t n s ≡ c → c ≡ 1 → ⊥
    one c e z = not-both (sym (ap f z) ∙ (rw e at (next-finds p i t n es s)).found (omega arith)) h

    go : (c : ℕ) → next_turn p es i t n s ≡ c → c ≡ suc (next_turn p es i t n ((s + 1) % 64))
    go c e =
        let g : Finds 64 1 f c = rw e at (next-finds p i t n es s) in
        let most : c ≤ 64 = rw e at (next-most p i t n es s low v below turn) in
        let two : 2 ≤ c = omega (arith, g.from, one c e) in
        let shifted : (k : ℕ) → ((s + 1) % 64 + k) % 64 ≡ (s + suc k) % 64 = λ k. omega arith in
        let last : is_turn p es i t n (((s + 1) % 64 + (c - 1)) % 64) ≡ true = ap (is_turn p es i t n) (omega arith) ∙ g.found (omega arith) in
        omega (
          arith,
          next-is p i t n es ((s + 1) % 64) (c - 1) (omega arith) (omega arith) last
              (λ k a b. ap (is_turn p es i t n) (shifted k) ∙ g.before (suc k) (omega arith) (omega arith)),
        )

-- the answer by its tests, one after the other: there is a plan, i is an initiator, the length is too long, some entry permits it, the slot is
-- over 63
abbrev pub answered : (loaded own long may over : Bool) → ℕ → Next
answered loaded own long may over count =
    cond loaded (cond own (cond long (NoTurn 24) (cond may (cond over (NoTurn 33) (Turn count)) (NoTurn 25))) (NoTurn 22)) (NoTurn 20)

pub next-answered : (o : Option Plan) (i t n s : ℕ) → let p = get_or o blank in
    next_answer o i t n s ≡ answered (is_some o) (is_initiator p i) (ltb 4096 n) (may_start p p.entries i t n) (ltb 63 s) (next_turn p p.entries i t n s)
unfolding next_answer next_refusal next_rows first_of
next-answered o i t n s = go (is_some o) refl (is_initiator p i) refl (ltb 4096 n) refl (may_start p p.entries i t n) refl (ltb 63 s) refl
  where
    p : Plan
    p = get_or o blank

    count : ℕ
    count = next_turn p p.entries i t n s

    by : (r : ℕ) → next_refusal o i t n s ≡ r → next_answer o i t n s ≡ elim (eqb r 0) [ true ↦ Turn count | false ↦ NoTurn r ]
    by r h = ap (λ (m : ℕ). elim (eqb m 0) [ true ↦ Turn count | false ↦ NoTurn m ]) h

    go : (a : Bool) → is_some o ≡ a → (b : Bool) → is_initiator p i ≡ b → (c : Bool) → ltb 4096 n ≡ c → (d : Bool) → may_start p p.entries i t n ≡ d
        → (e : Bool) → ltb 63 s ≡ e → next_answer o i t n s ≡ answered a b c d e count
    go false f b g c h d k e l = by 20 (rw f)
    go true f false g c h d k e l = by 22 (rw (f, g))
    go true f true g true h d k e l = by 24 (rw (f, g, h))
    go true f true g false h false k e l = by 25 (rw (f, g, h, k))
    go true f true g false h true k true l = by 33 (rw (f, g, h, k, l))
    go true f true g false h true k false l = by 0 (rw (f, g, h, k, l))
