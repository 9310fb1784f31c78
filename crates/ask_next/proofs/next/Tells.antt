-- The question for the next turn, test by test.
use mathlib.Core.Path.{◌≡◌, refl, sym, ap, ◌∙◌}
use mathlib.Core.List.{List}
use mathlib.Core.Option.{Option, some}
use mathlib.Core.Bool.{Bool, true, false, not, ◌&&◌, cond}
use Prim.Native.Nat.{ℕ, ◌+◌, ◌%◌, ◌^◌, ◌≤◌, ◌<◌}
use lib.Dec.{ltb, eqb}
use borrow.Author.Tests.{lt-ltb, le-ltb}
use Rattle.lists.specs.Search.{is_some}
use Rattle.lists.specs.Numbers.{first_from}
use Rattle.lists.specs.Place.{at_place}
use Rattle.bitsets.specs.Set.{member}
use Rattle.rules_plan.specs.Plan.{Plan}
use Rattle.rules_plan.specs.Meaning.{is_initiator, initiators, least_span, may_start}
use Rattle.rules_plan.specs.Next.{Next, NoTurn, Turn, next_turn, next_answer}
use Rattle.rules_plan.specs.laws.Permitted.{permitted-short}
use Rattle.rules_plan.specs.laws.Turns.{answered, next-answered}
use Rattle.memory_plan.specs.Spans.{least_in_words}
use Rattle.memory_plan.specs.Turns.{turns_in, Aimed, long_at, turn_in_words}
use Rattle.memory_plan.specs.View.{plan_in, Timed, Shown}
use Rattle.memory_plan.specs.laws.Costs.{least-told}
use Rattle.memory_plan.specs.laws.Found.{Rowed, is-initiator, plan-by-row, its-row, no-initiator}
use Rattle.memory_plan.specs.laws.Turns.{by-words, none-aimed, may-told, next-told}
use Rattle.ask_next.specs.Refused.{no_row, no_turn}

module _ {o : Option Plan} {rows spans aims numbers : List ℕ} (f : Shown o rows spans aims numbers) (i t n s : ℕ) (row : ℕ) (rowed : Rowed rows numbers i row) where
  abbrev p : Plan
  p = plan_in o

  abbrev Gives : Next → Type 0
  Gives r = r ≡ next_answer o i t n s

  -- the answer by its tests
  by : (loaded own long may over : Bool) → is_some o ≡ loaded → is_initiator p i ≡ own → ltb 4096 n ≡ long → may_start p p.entries i t n ≡ may → ltb 63 s ≡ over
      → answered loaded own long may over (next_turn p p.entries i t n s) ≡ next_answer o i t n s
  by loaded own long may over a b c d e = sym (next-answered o i t n s ∙ rw (a, b, c, d, e))

  pub stranger : 8 ≤ row → (m : ℕ) → ((o : Option Plan) → Timed o numbers → m ≡ no_row o) → Gives (NoTurn m)
  unfolding no_row
  stranger h m is = ap NoTurn (is o f.timed) ∙ go (is_some o) refl
    where
      go : (x : Bool) → is_some o ≡ x → NoTurn (cond x 22 20) ≡ next_answer o i t n s
      go true e = by true false (ltb 4096 n) (may_start p p.entries i t n) (ltb 63 s) e (no-initiator f i row rowed h) refl refl refl
      go false e = by false (is_initiator p i) (ltb 4096 n) (may_start p p.entries i t n) (ltb 63 s) e refl refl refl refl

  module _ (low : row < 8) where
    there : is_some o ≡ true
    there = plan-by-row f i row rowed low

    own : is_initiator p i ≡ true
    own = is-initiator f i row rowed low

    no-turn : may_start p p.entries i t n ≡ false → (m : ℕ) → m ≡ no_turn n → Gives (NoTurn m)
    unfolding no_turn
    no-turn may m is = ap NoTurn is ∙ go (ltb 4096 n) refl
      where
        go : (x : Bool) → ltb 4096 n ≡ x → NoTurn (cond x 24 25) ≡ next_answer o i t n s
        go x e = case-of x ∙ by true true x false (ltb 63 s) there own e may refl
          where
            case-of : (x : Bool) → NoTurn (cond x 24 25) ≡ answered true true x false (ltb 63 s) (next_turn p p.entries i t n s)
            case-of true = refl
            case-of false = refl

    at : at_place row (initiators p) ≡ some i
    at = its-row f i row rowed low

    -- no entry has the target
    pub unaimed : (aimed : ℕ) → Aimed aims row t aimed → aimed ≡ 0 → (m : ℕ) → m ≡ no_turn n → Gives (NoTurn m)
    unaimed aimed told z = no-turn (none-aimed p f.sound row i at low t n aims f.aims aimed told z)

    module _ (low-target : t < 64) (need : ℕ) (words : need ≡ least_in_words numbers row t n)
        (aimed : ℕ) (by-target : aimed ≡ turns_in aims row t)
        (set : ℕ) (small : set < 2 ^ 64) (read : (v : ℕ) → member v set ≡ (member v aimed && long_at aims row need v)) where
      turns : (v : ℕ) → member v set ≡ turn_in_words aims row t need v
      turns = by-words aims row t need aimed by-target set read

      least : need ≡ least_span p i t n
      least = words ∙ least-told p _ numbers f.timed.numbers f.sound row i t at low-target n

      may : may_start p p.entries i t n ≡ not (eqb set 0)
      may = sym (may-told p f.sound row i at low t low-target n aims f.aims need least set small turns)

      pub barred : eqb set 0 ≡ true → (m : ℕ) → m ≡ no_turn n → Gives (NoTurn m)
      barred h = no-turn (may ∙ ap not h)

      module _ (some_turn : eqb set 0 ≡ false) where
        permitted : may_start p p.entries i t n ≡ true
        permitted = may ∙ ap not some_turn

        short : ltb 4096 n ≡ false
        short = le-ltb 4096 n (permitted-short p f.sound i t n permitted)

        pub no_slot : 63 < s → Gives (NoTurn 33)
        no_slot h = by true true false true true there own short permitted (lt-ltb 63 s h)

        pub turn : s ≤ 63 → (c : ℕ) → c ≡ first_from 64 1 (λ (k : ℕ). member ((s + k) % 64) set) → Gives (Turn c)
        turn h c is =
            ap Turn (is ∙ next-told p f.sound row i at low t low-target n aims f.aims need least set small turns s)
            ∙ by true true false true false there own short permitted (le-ltb 63 s h)
