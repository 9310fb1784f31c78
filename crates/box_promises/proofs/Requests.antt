-- A word of run memory tells its request, and the words of a line tell those that wait.
use mathlib.Core.Path.{◌≡◌, refl, sym, ap, ap₂, ◌∙◌}
use mathlib.Core.List.{List, [], ◌∷◌, map, Memᴰ}
use Prim.Native.Nat.{ℕ, ◌+◌, ◌*◌, ◌/◌, ◌%◌}
use native.Mathlib.Nat.{div-div-eq-div-mul}
use native.Mathlib.Omega.{arith}
use Rattle.memory_plan.specs.View.{Owner}
use Rattle.rules_box.specs.State as state
use Rattle.rules_box.specs.laws.Fit.{FitRequest}
use Rattle.memory_run.specs.Run.{swapped, word_of, target_in, number_in, length_in}
use Rattle.memory_run.specs.laws.Words.{apart}
use Rattle.box_promises.specs.Words.{request_in}

-- two bytes of a word, high byte first
two_bytes_lem : (x : ℕ) → x % 256 * 256 + x / 256 % 256 ≡ swapped (x % 65_536)
unfolding swapped
two_bytes_lem x =
    let q : x % 65_536 / 256 ≡ x / 256 % 256 = omega arith in
    let r : x % 65_536 % 256 ≡ x % 256 = omega arith in
    omega (arith, q, r)

bytes-from : (w n : ℕ) → w / n % 256 * 256 + w / (n * 256) % 256 ≡ swapped (w / n % 65_536)
bytes-from w n = ap (λ (y : ℕ). w / n % 256 * 256 + y % 256) (sym (div-div-eq-div-mul w n 256)) ∙ two_bytes_lem (w / n)

-- a word tells its request
pub request-told : (i : Owner) (r : state.Request) → FitRequest r → request_in (word_of i r) ≡ r
unfolding request_in target_in number_in length_in
request-told i r f =
    let a = apart i r f in
    let number = bytes-from (word_of i r) 4_294_967_296 ∙ a.number in
    let length = bytes-from (word_of i r) 281_474_976_710_656 ∙ a.length in
    λ z. record { target = a.target z; kind = a.kind z; length = length z; number = number z }

pub requests-told : (i : Owner) (rs : List state.Request) → ((r : state.Request) → Memᴰ r rs → FitRequest r) → map request_in (map (word_of i) rs) ≡ rs
requests-told i [] f = refl
requests-told i (r ∷ rs) f = ap₂ (λ (x : state.Request) (xs : List state.Request). x ∷ xs) (request-told i r (f r (Memᴰ.head refl))) (requests-told i rs (λ x m. f x (Memᴰ.tail m)))
