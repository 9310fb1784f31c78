-- Eight cells at once: their bytes in a word, which is 0 where none of them has a span, and a loop that puts the entries of eight cells in a turn.
use mathlib.Core.Path.{◌≡◌, sym, ap, ◌∙◌}
use mathlib.Core.List.{List, flat_map}
use mathlib.Core.Bool.{false}
use Prim.Native.Nat.{ℕ, ◌+◌, ◌*◌, ◌/◌, ◌%◌, ◌^◌, ◌≤◌, ◌<◌}
use native.Mathlib.Nat.{zero-div}
use native.Mathlib.Omega.{arith}
use lib.Bits.{bit_or, or_lt}
use lib.Pow.{shl_exact, shl-shr}
use borrow.Author.Count.{below_more}
use borrow.Author.Tests.{eq-eqb}
use Rattle.lists.specs.Search.{up_from}
use Rattle.lists.specs.Puts.{Puts}
use Rattle.lists.specs.laws.Bools.{neither}
use Rattle.lists.specs.laws.Search.{up_from-range}
use Rattle.lists.specs.laws.Flat.{flat-none, flat_rows}
use Rattle.lists.specs.laws.Puts.{puts_none, Turns, turns-done}
use Rattle.bitsets.specs.Set.{member}
use Rattle.bitsets.specs.Laws.{member-empty, member-or, no-members}
use Rattle.rules_plan.specs.Plan.{nth}
use Rattle.out_rows.specs.Out.{entry_bytes, eight_bytes}

or-none : (a b : ℕ) → a < 2 ^ 64 → b < 2 ^ 64 → bit_or a b ≡ 0 → (a ≡ 0) × (b ≡ 0)
or-none a b h g e = (no-members a h (λ k _. (off k).0), no-members b g (λ k _. (off k).1))
  where
    off : (k : ℕ) → (member k a ≡ false) × (member k b ≡ false)
    off k = neither (member k a) (member k b) (sym (member-or k a b) ∙ ap (member k) e ∙ member-empty k)

-- a byte shifted to one of the eight places of a word
abbrev placed : ℕ → ℕ → ℕ
placed b j = (b * 2 ^ (8 * j)) % 2 ^ 64

placed-none : (b j : ℕ) → b < 256 → j < 8 → placed b j ≡ 0 → b ≡ 0
placed-none b j h l e =
    let whole : b * 2 ^ (8 * j) ≡ 0 = sym (shl_exact {a = b} 8 (8 * j) 64 h (omega arith)) ∙ e in
    sym (shl-shr b (8 * j)) ∙ ap (λ (x : ℕ). x / 2 ^ (8 * j)) whole ∙ zero-div (2 ^ (8 * j))

-- the word with the bytes of the first j of the eight cells from n on
pub record Joined (spans : List ℕ) (n word j : ℕ) : Type 0 where
  pub upto : j ≤ 8
  pub fits : word < 2 ^ 64
  pub none : word ≡ 0 → (s : ℕ) → s < j → nth spans (n + s) ≡ 0

pub joined-begin : (spans : List ℕ) (n : ℕ) → Joined spans n 0 0
joined-begin spans n = record { upto = omega arith; fits = omega arith; none = λ _ s h. absurd (omega arith) }

pub joined-next : {spans : List ℕ} {n word j b : ℕ} → Joined spans n word j → j < 8 → b ≡ nth spans (n + j) → b < 256 → Joined spans n (bit_or word (placed b j)) (j + 1)
joined-next {spans} {n} {word} {j} {b} a h e l =
    let f : placed b j < 2 ^ 64 = omega arith in
    record {
      upto = omega arith;
      fits = or_lt 64 word (placed b j) a.fits f;
      none = λ z s g. let r = or-none word (placed b j) a.fits f z in below_more (λ (s : ℕ). nth spans (n + s) ≡ 0) j (a.none r.0) (sym e ∙ placed-none b j l h r.1) s (omega arith);
    }

module _ (rows spans aims : List ℕ) where
  -- no span, no entry
  pub no-entries : (l : List ℕ) (i n : ℕ) → ((s : ℕ) → s < 8 → nth spans (n + s) ≡ 0) → Puts l i (eight_bytes rows spans aims n) l i
  unfolding eight_bytes entry_bytes
  no-entries l i n e =
      rw (flat-none (λ s. entry_bytes rows spans aims (n + s)) (up_from 8 0) (λ s m. rw (eq-eqb (nth spans (n + s)) 0 (e s (omega (arith, up_from-range 8 0 s m)))))) (puts_none l i)

  -- the entries of every eight are put: those of all cells, where their number is a multiple of eight
  pub eights-done : (cells : ℕ) {l o : List ℕ} {i k n : ℕ} → cells % 8 ≡ 0 → Turns (λ (r : ℕ). eight_bytes rows spans aims (8 * r)) (cells / 8) l i o k n → cells / 8 ≤ n
      → Puts l i (flat_map (entry_bytes rows spans aims) (up_from cells 0)) o k
  unfolding eight_bytes
  eights-done cells e a h =
      let all : 8 * (cells / 8) ≡ cells = omega (arith, e) in
      rw (← all, flat_rows (entry_bytes rows spans aims) 8 (cells / 8)) (turns-done a h)
