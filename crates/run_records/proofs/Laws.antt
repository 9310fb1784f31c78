-- Which records are put, and their bytes.
use Rattle.std.proofs.Common.{◌≡◌, ℕ, ◌+◌, ◌-◌, ◌*◌, ◌/◌, ◌%◌, ◌^◌, ◌<◌, ◌≤◌, Bool, true, false, List, [], ◌∷◌, length, sym, ap, ◌∙◌, arith}
use mathlib.Core.List.{flat_map}
use lib.Arith.{digits_div}
use Rattle.lists.specs.Search.{only}
use Rattle.lists.specs.Stores.{Put}
use Rattle.lists.specs.Puts.{Puts}
use Rattle.lists.specs.laws.Puts.{puts_none}
use Rattle.rules_box.specs.declared.Watchdog.{Watchdog}
use Rattle.memory_plan.specs.View.{Owner}
use Rattle.rules_box.specs.State.{Request}
use Rattle.rules_box.specs.Watch.{is_early, is_overdue}
use Rattle.rules_box.specs.Records.{record_bytes, plain, full, watchdog_record, sequence_record}
use Rattle.rules_box.specs.laws.Fit.{FitRequest}
use Rattle.memory_run.specs.Run.{swapped, word_of, need_in}
use Rattle.memory_run.specs.laws.Words.{apart, need-in}
use Rattle.run_records.specs.Bytes.{bytes_of}
use Rattle.run_records.specs.laws.One.{puts_one}

-- the byte of a word from n on, told from what stands below and above it
byte_at : (n w low x high : ℕ) → low < n → x < 256 → w ≡ (x + high * 256) * n + low → w / n % 256 ≡ x
byte_at n w low x high l b e = omega (arith, ap (λ (y : ℕ). y / n) e ∙ digits_div (x + high * 256) l, b)

-- eight bytes make a word: below 2 ^ 64, and it comes apart into them
module _ (a b c d e f g h : ℕ) (a< : a < 256) (b< : b < 256) (c< : c < 256) (d< : d < 256) (e< : e < 256) (f< : f < 256) (g< : g < 256) (h< : h < 256) where
  abbrev sum : ℕ
  sum = (b * 256 + c * 65_536 + (e + f * 256) * 4_294_967_296 + (g + h * 256) * 281_474_976_710_656) + (a + d * 16_777_216)

  not-wrapped : sum % 2 ^ 64 ≡ sum
  not-wrapped = omega arith

  bytes-of-sum : (w : ℕ) → w ≡ sum → bytes_of w ≡ a ∷ b ∷ c ∷ d ∷ e ∷ f ∷ g ∷ h ∷ []
  unfolding bytes_of
  bytes-of-sum w s =
      let l2 = a + b * 256 in
      let l3 = l2 + c * 65_536 in
      let l4 = l3 + d * 16_777_216 in
      let l5 = l4 + e * 4_294_967_296 in
      let l6 = l5 + f * 1_099_511_627_776 in
      let l7 = l6 + g * 281_474_976_710_656 in
      let h6 = g + h * 256 in
      let h5 = f + h6 * 256 in
      let h4 = e + h5 * 256 in
      let h3 = d + h4 * 256 in
      let h2 = c + h3 * 256 in
      let e0 : w % 256 ≡ a = omega arith in
      let e1 = byte_at 256 w a b h2 a< b< (omega arith) in
      let e2 = byte_at 65_536 w l2 c h3 (omega arith) c< (omega arith) in
      let e3 = byte_at 16_777_216 w l3 d h4 (omega arith) d< (omega arith) in
      let e4 = byte_at 4_294_967_296 w l4 e h5 (omega arith) e< (omega arith) in
      let e5 = byte_at 1_099_511_627_776 w l5 f h6 (omega arith) f< (omega arith) in
      let e6 = byte_at 281_474_976_710_656 w l6 g h (omega arith) g< (omega arith) in
      let e7 = byte_at 72_057_594_037_927_936 w l7 h 0 (omega arith) h< (omega arith) in
      rw (e0, e1, e2, e3, e4, e5, e6, e7)

  bytes-of-wrapped : (w : ℕ) → w ≡ sum % 2 ^ 64 → bytes_of w ≡ a ∷ b ∷ c ∷ d ∷ e ∷ f ∷ g ∷ h ∷ []
  bytes-of-wrapped w s = bytes-of-sum w (s ∙ not-wrapped)

low_byte : (n : ℕ) → n % 256 < 256
low_byte n = omega arith

high_byte : (n : ℕ) → n < 65_536 → n / 256 < 256
high_byte n h = omega arith

node : (n : ℕ) → n < 64 → n < 256
node n h = omega arith

short : (n : ℕ) → n ≤ 4096 → n < 65_536
short n h = omega arith

-- the word without the request's own kind and its least span
bare : (o : Owner) (x : Request) → o.initiator < 256 → FitRequest x
    → word_of o x - word_of o x / 128 % 2 * 128 - word_of o x / 16_777_216 % 256 * 16_777_216
    ≡ o.initiator * 256 + x.target * 65_536 + swapped x.number * 4_294_967_296 + swapped x.length * 281_474_976_710_656
unfolding need_in word_of
bare o x i< f = rw ((apart o x f).kind, need-in o x f) (omega (arith, i<))

-- the bytes of a request's record, told from its word
pub full-puts : {l o : List ℕ} {j k : ℕ} (clock kind : ℕ) (n : Owner) (v w s : ℕ) (x : Request) → n.initiator < 256 → FitRequest x → w ≡ word_of n x → kind < 256 → v < 256
    → s ≡ ((w - w / 128 % 2 * 128 - w / 16_777_216 % 256 * 16_777_216) + (kind + v * 16_777_216)) % 2 ^ 64 → Put l j (bytes_of s) o k
    → Puts l j (record_bytes clock (full kind n.initiator v x)) o k
unfolding record_bytes full swapped
full-puts clock kind n v w s x i< f is k< v< es p =
    let i = n.initiator in
    let l< = short x.length f.length in
    let e = ap (λ (y : ℕ). y - y / 128 % 2 * 128 - y / 16_777_216 % 256 * 16_777_216) is ∙ bare n x i< f in
    let b =
    bytes-of-wrapped kind i x.target v (x.number / 256) (x.number % 256) (x.length / 256) (x.length % 256) k< i< (node x.target f.target) v<
    (high_byte x.number f.number) (low_byte x.number) (high_byte x.length l<) (low_byte x.length) s (es ∙ ap (λ (y : ℕ). (y + (kind + v * 16_777_216)) % 2 ^ 64) e)
    in
    record { fitting = λ _. rw b at p }

-- one record, and none
module _ (clock : ℕ) {l o : List ℕ} {i k : ℕ} where
  pub plain-next : (kind v : ℕ) → Puts l i (record_bytes clock (plain kind v)) o k → i + 8 ≤ length l → k ≤ i + 8
  unfolding record_bytes plain
  plain-next kind v p h = omega (arith, (p.fitting h).next)

  module _ (w : Watchdog) (v : ℕ) (b : Bool) (early : b ≡ is_early w clock) where
    pub watchdog-early : b ≡ true → Puts l i (record_bytes clock (plain 1 v)) o k → Puts l i (flat_map (record_bytes clock) (watchdog_record w clock v)) o k
    unfolding watchdog_record
    watchdog-early h p = rw (sym early ∙ h) (puts_one clock (plain 1 v) p)

    pub watchdog-late : b ≡ false → (c : Bool) → c ≡ is_overdue w clock → c ≡ true → Puts l i (record_bytes clock (plain 2 v)) o k
        → Puts l i (flat_map (record_bytes clock) (watchdog_record w clock v)) o k
    unfolding watchdog_record only
    watchdog-late h c late g p = rw (sym early ∙ h, sym late ∙ g) (puts_one clock (plain 2 v) p)

  pub sequence-out : (v : ℕ) → Puts l i (record_bytes clock (plain 3 v)) o k → Puts l i (flat_map (record_bytes clock) (sequence_record false v)) o k
  unfolding sequence_record only
  sequence-out v p = puts_one clock (plain 3 v) p

pub watchdog-none : (l : List ℕ) (i clock : ℕ) (w : Watchdog) (v : ℕ) (b c : Bool) → b ≡ is_early w clock → c ≡ is_overdue w clock → b ≡ false → c ≡ false
    → Puts l i (flat_map (record_bytes clock) (watchdog_record w clock v)) l i
unfolding watchdog_record only flat_map
watchdog-none l i clock w v b c early late h g = rw (sym early ∙ h, sym late ∙ g) (puts_none l i)

pub sequence-in : (l : List ℕ) (i clock v : ℕ) → Puts l i (flat_map (record_bytes clock) (sequence_record true v)) l i
unfolding sequence_record only flat_map
sequence-in l i clock v = puts_none l i
