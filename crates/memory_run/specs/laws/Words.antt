-- The words of a row come apart again: the request in a word, and the two of the live transaction.
use Rattle.std.specs.Prelude.{◌≡◌, List, [], ◌∷◌, ◌++◌, map, ℕ, ◌+◌, ◌*◌, ◌/◌, ◌%◌, ◌≤◌, ◌<◌}
use Rattle.std.proofs.Math.Path.{refl, ap}
use Rattle.std.proofs.Common.{sym, ◌∙◌}
use native.Mathlib.Omega.{arith}
use Rattle.std.proofs.Math.ListN.{length, get_or}
use Rattle.std.proofs.lemmas.List.{length-map}
use Rattle.std.proofs.Math.Seq.{get_or_at, get_or-append-add}
use Rattle.lists.specs.Cells.{padded}
use Rattle.lists.specs.laws.Cells.{length-padded}
use Rattle.rules_plan.specs.Meaning.{least_span}
use Rattle.rules_plan.specs.laws.Spans.{least-span-most}
use Rattle.memory_plan.specs.View.{Owner}
use Rattle.rules_box.specs.State.{Request, Side}
use Rattle.rules_box.specs.laws.Fit.{FitRequest, FitSide}
use Rattle.memory_run.specs.Run.{swapped, word_of, target_in, need_in, number_in, length_in, live_word, live_time, row_of}

-- the parts of a word are the request's
pub record Apart (w : ℕ) (r : Request) : Type 0 where
  pub kind : w / 128 % 2 ≡ r.kind
  pub target : target_in w ≡ r.target
  pub number : number_in w ≡ r.number
  pub length : length_in w ≡ r.length

swapped-small : (n : ℕ) → n < 65_536 → swapped n < 65_536
unfolding swapped
swapped-small n h = omega arith

swapped-twice : (n : ℕ) → n < 65_536 → swapped (swapped n) ≡ n
unfolding swapped
swapped-twice n h = omega arith

-- six numbers, each within its bits of a word: five of them come out of it again
parted : (w k i t n a b : ℕ) → k ≤ 1 → i < 256 → t < 64 → n < 256 → a < 65_536 → b < 65_536
    → w ≡ k * 128 + i * 256 + t * 65_536 + n * 16_777_216 + a * 4_294_967_296 + b * 281_474_976_710_656
    → (w / 128 % 2 ≡ k) × (w / 65_536 % 64 ≡ t) × (w / 4_294_967_296 % 65_536 ≡ a) × (w / 281_474_976_710_656 % 65_536 ≡ b) × (w / 16_777_216 % 256 ≡ n)
parted w k i t n a b k< i< t< n< a< b< is = (omega arith, omega arith, omega arith, omega arith, omega arith)

module _ (o : Owner) (r : Request) (f : FitRequest r) where
  abbrev need : ℕ
  need = least_span o.plan o.initiator r.target r.length

  pub need-small : need < 256
  need-small = omega (arith, (least-span-most o.plan o.initiator r.target r.length).1)

  length-small : r.length < 65_536
  length-small = omega (arith, f.length)

  parts : let w = word_of o r in
      (w / 128 % 2 ≡ r.kind) × (w / 65_536 % 64 ≡ r.target) × (w / 4_294_967_296 % 65_536 ≡ swapped r.number) × (w / 281_474_976_710_656 % 65_536 ≡ swapped r.length)
      × (w / 16_777_216 % 256 ≡ need)
  unfolding word_of
  parts =
      let i< : o.initiator % 256 < 256 = omega arith in
      parted (word_of o r) r.kind (o.initiator % 256) r.target need (swapped r.number) (swapped r.length) f.kind i< f.target need-small
      (swapped-small r.number f.number) (swapped-small r.length length-small) refl

  pub apart : Apart (word_of o r) r
  unfolding target_in number_in length_in
  apart =
      let (kind, target, number, length, n) = parts in
      record {
        kind = kind;
        target = target;
        number = ap swapped number ∙ swapped-twice r.number f.number;
        length = ap swapped length ∙ swapped-twice r.length length-small;
      }

  pub need-in : need_in (word_of o r) ≡ need
  unfolding need_in
  need-in = parts.4

-- behind the line
module _ (i : Owner) (s : Side) (f : FitSide s) where
  abbrev places : List ℕ
  places = padded 8 0 (map (word_of i) s.line)

  abbrev rest : List ℕ
  rest = live_word i s.live ∷ live_time s.live ∷ []

  pub eight : length places ≡ 8
  eight = length-padded 8 0 (map (word_of i) s.line) (omega (arith, length-map s.line (word_of i), f.few))

  pub live-word-in : get_or (row_of i s) 10 0 ≡ live_word i s.live
  unfolding row_of
  live-word-in = get_or_at places (live_word i s.live) (live_time s.live ∷ []) 0 8 eight

  pub live-time-in : get_or (row_of i s) 11 0 ≡ live_time s.live
  unfolding row_of
  live-time-in = ap (λ (j : ℕ). get_or (places ++ rest) (j + 1) 0) (sym eight) ∙ get_or-append-add places rest 1 0
