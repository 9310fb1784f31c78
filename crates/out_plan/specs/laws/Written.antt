-- Writing out of memory that holds a plan: the bytes are those of the plan, and the answers those of the rules.
use Rattle.std.specs.Prelude.{◌≡◌, refl, ◌≢◌, ℕ, ◌*◌, ◌/◌, ◌%◌, ◌≤◌, ◌<◌, length}
use Rattle.std.proofs.Common.{sym, ◌∙◌, arith, ne_eqb}
use Rattle.std.proofs.Math.Path.{ap}
use mathlib.Core.List.Memᴰ
use mathlib.Core.List.{List, [], ◌∷◌, map, flat_map, append-nil}
use Rattle.std.proofs.Math.Option.{Option, none, some}
use Rattle.std.proofs.Math.Nat.{mul-div_cancel_left}
use Rattle.lists.specs.Search.{is_some}
use Rattle.lists.specs.Rows.{first_of}
use Rattle.lists.specs.Puts.{Puts}
use Rattle.lists.specs.laws.Append.{flat_append}
use Rattle.lists.specs.laws.Stores.{put_front}
use Rattle.rules_plan.specs.Plan.{nth, Timing, Times, Plan, blank, timing, times}
use Rattle.rules_plan.specs.Fields.{field_for}
use Rattle.rules_plan.specs.Canon.{canonical, items, written}
use Rattle.rules_plan.specs.Copy.{NotWritten, Written, copy_rows, copy_refusal, copy_answer, copied}
use Rattle.rules_plan.specs.Good.{Good}
use Rattle.rules_plan.specs.laws.GoodSound.{good-sound}
use Rattle.rules_plan.specs.laws.Copies.{no_room, answers-size, puts-bytes}
use Rattle.rules_plan.specs.Meaning.{least_of, greatest_of, times_of}
use Rattle.memory_plan.specs.Memory.{sets_of, ends_of, rows_of, paths_of, spans_of, aims_of, numbers_with, numbers_of}
use Rattle.memory_plan.specs.PlanHeld.{PlanHeld, HoldsPlan}
use Rattle.memory_plan.specs.laws.BlankMemory.{good-not-blank}
use Rattle.out_plan.specs.Out.{out_bytes}
use Rattle.out_items.specs.Out.{timing_bytes, times_bytes}
use Rattle.out_plan.specs.laws.Devices.{devices-out}
use Rattle.out_plan.specs.laws.Links.{links-out}
use Rattle.out_plan.specs.laws.Paths.{paths-out, replies-out}
use Rattle.out_plan.specs.laws.Entries.{entries-out}

-- one timing
timing-out : (ts : List Timing) → length ts ≡ 1 → timing_bytes (least_of ts) (greatest_of ts) ≡ flat_map field_for (map timing ts)
unfolding timing_bytes least_of greatest_of flat_map
timing-out [] h = absurd (omega arith)
timing-out (t ∷ []) h = sym (append-nil (field_for (timing t)))
timing-out (t ∷ s ∷ ts) h = absurd (omega arith)

-- times, or none: a slot by the rate, divided by it, is the slot
times-out : (size : ℕ) (p : Plan) → Good p → times_bytes (numbers_with size p) ≡ flat_map field_for (map times p.times)
unfolding times_bytes numbers_with times_of flat_map
times-out size p good = go p.times refl good.times
  where
    go : (xs : List Times) → p.times ≡ xs → length xs ≤ 1 → times_bytes (numbers_with size p) ≡ flat_map field_for (map times xs)
    go [] e h = rw e
    go (x ∷ y ∷ xs) e h = absurd (omega arith)
    go (x ∷ []) e h =
        let r = (good-sound p good).times x (rw e (Memᴰ.head refl)) in
        let rate : x.rate % 65_536 ≡ x.rate = omega (arith, r.rate) in
        let slot : x.rate * x.slot / x.rate ≡ x.slot = mul-div_cancel_left x.slot (omega (arith, r.some-rate)) in
        rw (e, ne_eqb x.rate 0 (λ z. omega (arith, r.some-rate)), rate, slot) (sym (append-nil (field_for (times x))))

-- the bytes that the memory of a plan gives are those of the plan
plan-out : (p : Plan) → Good p → canonical p ≡ p → out_bytes (sets_of p) (ends_of p) (rows_of p) (paths_of p) (spans_of p) (aims_of p) (numbers_of p) ≡ written p
unfolding out_bytes sets_of numbers_with written items
plan-out p good e = rw (devices-out p good e, links-out p good e, paths-out p good e, entries-out p good e, timing-out p.timings good.timing, times-out (length (written p)) p good, replies-out p good e) (simp flat_append)

module _ {sets ends rows reach paths spans aims numbers : List ℕ} where
  no-interval : PlanHeld none sets ends rows reach paths spans aims numbers → nth numbers 1 ≡ 0
  unfolding numbers_with greatest_of blank
  no-interval h = ap (λ (l : List ℕ). nth l 1) h.numbers

  module _ (p : Plan) (h : HoldsPlan p sets ends rows reach paths spans aims numbers) where
    an-interval : nth numbers 1 ≢ 0
    an-interval = good-not-blank p h.good sets ends rows reach paths spans aims numbers h.holds

    size-at : nth numbers 5 % 65536 ≡ length (written p)
    unfolding numbers_with
    size-at = omega (arith, ap (λ (l : List ℕ). nth l 5) h.holds.numbers, h.good.short)

    bytes-at : out_bytes sets ends rows paths spans aims numbers ≡ written p
    bytes-at = let m = h.holds in rw (m.sets, m.ends, m.rows, m.paths, m.spans, m.aims, m.numbers) (plan-out p h.good h.ordered)

-- what is answered and what the buffer is afterwards: by the interval, the size, and the bytes put
module _ (sets ends rows reach paths spans aims numbers buffer : List ℕ) where
  pub refuses-20 : nth numbers 1 ≡ 0 → (o : Option Plan) → PlanHeld o sets ends rows reach paths spans aims numbers
      → (NotWritten 20 ≡ copy_answer (length buffer) o) × (buffer ≡ copied o buffer)
  unfolding copy_answer copied copy_refusal copy_rows first_of is_some
  refuses-20 e none h = (refl, refl)
  refuses-20 e (some p) h = absurd (an-interval p h e)

  pub refuses-30 : (nth numbers 1 ≡ 0 → ⊥) → length buffer < nth numbers 5 % 65536 → (o : Option Plan) → PlanHeld o sets ends rows reach paths spans aims numbers
      → (NotWritten 30 ≡ copy_answer (length buffer) o) × (buffer ≡ copied o buffer)
  unfolding copy_answer copied
  refuses-30 d l none h = absurd (d (no-interval h))
  refuses-30 d l (some p) h = let e = no_room (length buffer) p (omega (arith, size-at p h)) in (rw (e, copy_answer) (ap NotWritten (sym e)), rw (e, copied))

  pub writes : (nth numbers 1 ≡ 0 → ⊥) → nth numbers 5 % 65536 ≤ length buffer → {after : List ℕ} {k : ℕ}
      → Puts buffer 0 (out_bytes sets ends rows paths spans aims numbers) after k → (o : Option Plan) → PlanHeld o sets ends rows reach paths spans aims numbers
      → (Written (nth numbers 5 % 65536) ≡ copy_answer (length buffer) o) × (after ≡ copied o buffer)
  writes d l f none h = absurd (d (no-interval h))
  writes d l f (some p) h =
      let r : length (written p) ≤ length buffer = omega (arith, size-at p h) in
      let g = rw (bytes-at p h) at f in
      (rw (size-at p h) (sym (answers-size p buffer r)), (put_front (g.fitting (omega arith)) r).1 ∙ sym (puts-bytes p buffer r))
