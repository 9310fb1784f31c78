-- `word_of` meets its contract. Assumes nothing.
use Rattle.std.proofs.Common.{◌≡◌, ◌∙◌, ℕ, ◌+◌, ◌*◌, ◌/◌, ◌%◌, ◌≤◌, ◌<◌, ap, arith, rules, w32}
use Rattle.std.specs.Int.{swap_bytes}
use Rattle.std.proofs.Math.Arith.{digits_div, digits_mod}
use Rattle.rules_plan.specs.laws.Spans.{least-span-most}
use Rattle.memory_run.specs.Run.{swapped, word_of}
use Rattle.memory_run.proofs.word.word_of.Goals as goal

-- the halves, by the bytes of the whole
upper : (n : ℕ) → swapped (n / 65_536) ≡ n / 16_777_216 + n / 65_536 % 256 * 256
unfolding swapped
upper n = omega arith

lower : (n : ℕ) → swapped (n % 65_536) ≡ n / 256 % 256 + n % 256 * 256
unfolding swapped
lower n =
    let high : n % 65_536 / 256 ≡ n / 256 % 256 = omega arith in
    let low : n % 65_536 % 256 ≡ n % 256 = omega arith in
    rw (high, low)

reversed : (n : ℕ) → n < 4_294_967_296 → swap_bytes w32 n ≡ swapped (n / 65_536) + swapped (n % 65_536) * 65_536
reversed n h = omega (arith, upper n, lower n)

pub returns : goal.returns
unfolding word_of
returns c p need =
    let a = c.args in
    let h : a.length < 65_536 = search rules in
    let few : a.need ≤ 17 = omega (arith, need, (least-span-most p a.initiator a.target a.length).1) in
    let last : c.swap_bytes-last.result ≡ swapped ((a.number * 65_536 + a.length) / 65_536) + swapped ((a.number * 65_536 + a.length) % 65_536) * 65_536 =
    c.swap_bytes-last.ensures ∙ reversed (a.number * 65_536 + a.length) (search rules) in
    omega (arith, last, need, few, ap swapped (digits_div a.number h), ap swapped (digits_mod a.number h))
