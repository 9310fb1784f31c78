-- Laws of `numbers`: how many initiators and entries they say there are, and the numbers with the intervals or one entry more.
use Rattle.std.specs.Prelude.{◌≡◌, List, [], ◌∷◌, ◌++◌, ℕ, ◌+◌, ◌%◌, ◌^◌, ◌<◌, set}
use Rattle.std.proofs.Math.Path.{ap}
use Rattle.std.proofs.Common.{arith}
use Rattle.std.proofs.Math.ListN.{length, length-append}
use Rattle.rules_plan.specs.Plan.{nth, Entry, Timing, Plan, entry, timing, grow}
use Rattle.rules_plan.specs.Meaning.{is_initiator, initiators, least_of, greatest_of}
use Rattle.memory_plan.specs.Memory.{of_row, costs_among, numbers_with}

module _ (size : ℕ) (p : Plan) (numbers : List ℕ) (held : numbers ≡ numbers_with size p) where
  pub initiators-told : nth numbers 2 ≡ length (initiators p)
  unfolding numbers_with
  initiators-told = ap (λ l. nth l 2) held

  pub entries-told : nth numbers 4 ≡ length p.entries
  unfolding numbers_with
  entries-told = ap (λ l. nth l 4) held

  pub numbers-timing : (t : Timing) → p.timings ≡ [] → set (set numbers 0 t.least) 1 t.greatest ≡ numbers_with size (grow p (timing t))
  unfolding numbers_with grow initiators is_initiator least_of greatest_of costs_among of_row
  numbers-timing t e = rw (held, e)

  -- (the machine's sum does not wrap)
  pub numbers-entry : (e : Entry) → length p.entries < 2 ^ 31 → set numbers 4 ((nth numbers 4 + 1) % 2 ^ 32) ≡ numbers_with size (grow p (entry e))
  unfolding numbers_with grow initiators is_initiator costs_among of_row
  numbers-entry e short =
      let one : length (p.entries ++ (e ∷ [])) ≡ length p.entries + 1 = length-append p.entries (e ∷ []) in
      let sum : (nth numbers 4 + 1) % 2 ^ 32 ≡ length p.entries + 1 = omega (arith, entries-told) in
      rw (sum, held, one)
