-- The next turn, against the paper's sentences.
use mathlib.Core.Path.{◌≡◌, refl, sym, ◌∙◌}
use mathlib.Core.List.{List}
use mathlib.Core.Option.{some}
use mathlib.Core.Bool.{Bool, true, false}
use Prim.Native.Nat.{ℕ, ◌+◌, ◌%◌, ◌<◌}
use native.Mathlib.Omega.{arith}
use lib.Dec.{ltb}
use borrow.Author.Tests.{ltb-false, le-ltb}
use Rattle.lists.specs.Search.{is_some}
use Rattle.lists.specs.laws.Bools.{not-both, never_true}
use Rattle.lists.specs.laws.Numbers.{Finds}
use Rattle.rules_plan.specs.Plan.{Entry, Plan}
use Rattle.rules_plan.specs.Meaning.{is_initiator, may_start}
use Rattle.rules_plan.specs.Next.{NoTurn, Turn, is_turn, slot_after, next_turn, next_answer}
use Rattle.rules_plan.specs.Promises.{TurnAt, NextIs, NextAsWorded, NoTurnAsWorded}
use Rattle.rules_plan.specs.laws.Permitted.{permitted-short}
use Rattle.rules_plan.specs.laws.Turns.{turn_at, turn_low, turn-starts, some_turn, next-finds, next-is, next-most, answered, next-answered}

-- what an answer tells of the tests before it
record Tests (p : Plan) (i t n s : ℕ) : Type 0 where
  own : is_initiator p i ≡ true
  short : ltb 4096 n ≡ false
  may : may_start p p.entries i t n ≡ true
  low : ltb 63 s ≡ false

told : (p : Plan) (i t n s c : ℕ) → next_answer (some p) i t n s ≡ Turn c → Tests p i t n s × (next_turn p p.entries i t n s ≡ c)
unfolding is_some
told p i t n s c h =
    go (is_initiator p i) refl (ltb 4096 n) refl (may_start p p.entries i t n) refl (ltb 63 s) refl (sym (next-answered (some p) i t n s) ∙ h)
  where
    go : (a : Bool) → is_initiator p i ≡ a → (b : Bool) → ltb 4096 n ≡ b → (d : Bool) → may_start p p.entries i t n ≡ d → (e : Bool) → ltb 63 s ≡ e
        → answered true a b d e (next_turn p p.entries i t n s) ≡ Turn c → Tests p i t n s × (next_turn p p.entries i t n s ≡ c)
    go false f b g d k e l z = (let y : ◌≡◌ {A = ℕ} 0 1 = cc in absurd (omega arith))
    go true f true g d k e l z = (let y : ◌≡◌ {A = ℕ} 0 1 = cc in absurd (omega arith))
    go true f false g false k e l z = (let y : ◌≡◌ {A = ℕ} 0 1 = cc in absurd (omega arith))
    go true f false g true k true l z = (let y : ◌≡◌ {A = ℕ} 0 1 = cc in absurd (omega arith))
    go true f false g true k false l z = (record { own = f; short = g; may = k; low = l }, cc)

pub next-as-worded : NextAsWorded
unfolding NextAsWorded slot_after is_some
next-as-worded p ok i t n s c = (there, back)
  where
    es : List Entry
    es = p.entries

    there : next_answer (some p) i t n s ≡ Turn c → (is_initiator p i ≡ true) × (s < 64) × NextIs p i t n s c
    there h =
        let (tests, is) = told p i t n s c h in
        let low : s < 64 = omega (arith, ltb-false 63 s tests.low) in
        let (v, turn) = some_turn p i t n ok tests.may in
        let most = next-most p i t n es s low v (turn_low p i t n ok v turn) turn in
        let f : Finds 64 1 (λ (k : ℕ). is_turn p es i t n ((s + k) % 64)) c = rw is at (next-finds p i t n es s) in (
          tests.own,
          low,
          record {
            some = f.from;
            most = omega arith;
            turn = ((turn_at p i t n ok ((s + c) % 64)).0 (f.found (omega arith)));
            first = λ k a b z. not-both ((turn_at p i t n ok ((s + k) % 64)).1 z) (f.before k a b);
          },
        )

    back : (is_initiator p i ≡ true) × (s < 64) × NextIs p i t n s c → next_answer (some p) i t n s ≡ Turn c
    back (own, low, x) =
        let turn = (turn_at p i t n ok ((s + c) % 64)).1 x.turn in
        let may = turn-starts p i t n ok ((s + c) % 64) turn in
        let short = permitted-short p ok i t n may in
        let is = next-is p i t n es s c x.some x.most turn (λ k a b. never_true _ (λ z. x.first k a b ((turn_at p i t n ok ((s + k) % 64)).0 z))) in
        next-answered (some p) i t n s ∙ rw (own, le-ltb 4096 n short, may, le-ltb 63 s (omega arith), is)

pub no-turn-as-worded : NoTurnAsWorded
unfolding NoTurnAsWorded is_some
no-turn-as-worded p ok i t n s own short = (there, back)
  where
    by : (d : Bool) → may_start p p.entries i t n ≡ d → next_answer (some p) i t n s ≡ answered true true false d (ltb 63 s) (next_turn p p.entries i t n s)
    by d h = next-answered (some p) i t n s ∙ rw (own, le-ltb 4096 n short, h)

    there : next_answer (some p) i t n s ≡ NoTurn 25 → (v : ℕ) → TurnAt p i t n v → ⊥
    there h v z = go (ltb 63 s) (sym (by true (turn-starts p i t n ok v ((turn_at p i t n ok v).1 z))) ∙ h)
      where
        go : (e : Bool) → answered true true false true e (next_turn p p.entries i t n s) ≡ NoTurn 25 → ⊥
        go true x = (let y : ◌≡◌ {A = ℕ} 0 1 = cc in absurd (omega arith))
        go false x = (let y : ◌≡◌ {A = ℕ} 0 1 = cc in absurd (omega arith))

    back : ((v : ℕ) → TurnAt p i t n v → ⊥) → next_answer (some p) i t n s ≡ NoTurn 25
    back none = go (may_start p p.entries i t n) refl
      where
        go : (d : Bool) → may_start p p.entries i t n ≡ d → next_answer (some p) i t n s ≡ NoTurn 25
        go true h = let (v, turn) = some_turn p i t n ok h in absurd (none v ((turn_at p i t n ok v).0 turn))
        go false h = by false h
