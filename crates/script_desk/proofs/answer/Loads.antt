-- A load and the question for a plan: the bytes that were decoded are the file, and its line is put. Assumes nothing.
use mathlib.Core.Path.{◌≡◌, refl, sym, ap, ◌∙◌}
use mathlib.Core.List.{List, [], ◌∷◌, ◌++◌}
use mathlib.Core.Bool.{Bool, true}
use mathlib.Core.Logic.{◌↔◌}
use Prim.Native.Nat.{ℕ, ◌+◌, ◌*◌, ◌≤◌}
use native.Mathlib.Omega.{arith}
use lib.ListN.{length, take, drop, replicate, length-append, length-replicate}
use lib.Seq.{length-take-le, take_at}
use Rattle.lists.specs.Puts.{Puts}
use Rattle.lists.specs.laws.Stores.{put_front}
use Rattle.rules_plan.specs.declared.Verdict.{Verdict}
use Rattle.rules_plan.specs.declared.Verdict.TheVariants.{Accepted, Faulty, Overrun, Clash}
use Rattle.rules_plan.specs.Verdict.{place}
use Rattle.rules_plan.specs.Print.{text, numbers, words, line}
use Rattle.rules_box.specs.declared.Watchdog.{Watchdog}
use Rattle.box_calls.specs.Calls.{Memory, LoadLeaves}
use Rattle.script_words.specs.laws.Lengths.{numbers-most}
use Rattle.script_hex.specs.Hex.{decoded}
use Rattle.load_plan.specs.Load.{HoldsPlanOf}
use Rattle.script_answers.specs.Texts.{flag_line, Prints}
use Rattle.script_desk.specs.Replay.{kept, Loaded, Says, Answers}

-- bytes at the front of a buffer
module _ (xs l : List ℕ) {o : List ℕ} {r : ℕ} (k : ℕ) (f : (r ≡ length xs) × (o ≡ xs ++ drop k l)) where
  pub front-within : r ≤ length o
  front-within = rw (f.1, length-append xs (drop k l)) (omega (arith, f.0))

  pub front-size : r ≡ length (take r o)
  front-size = sym (length-take-le r o front-within)

  pub front-is : take r o ≡ xs
  front-is = rw f.1 (take_at xs (drop k l) r (sym f.0))

short : (word ns : List ℕ) → length word + 21 * length ns ≤ 113 → length (word ++ numbers ns ++ (10 ∷ [])) ≤ 114
short word ns h = rw (length-append (word ++ numbers ns) (10 ∷ []), length-append word (numbers ns)) (omega (arith, numbers-most ns))

-- the printed verdict has at most five numbers
line-most : (v : Verdict) → length (line v) ≤ 114
unfolding line words text place
line-most (Accepted d l p e) = short (text "ACCEPTED") (d ∷ l ∷ p ∷ e ∷ []) (omega arith)
line-most (Faulty n at) = short (text "REFUSED") (n ∷ at ∷ []) (omega arith)
line-most (Overrun i s) = short (text "REFUSED") (13 ∷ i ∷ s ∷ []) (omega arith)
line-most (Clash s i j l) = short (text "REFUSED") (14 ∷ s ∷ i ∷ j ∷ l ∷ []) (omega arith)

module _ (word : List ℕ) {b o : List ℕ} {size : ℕ} (e : b ≡ replicate 16_400 0) (f : (size ≡ length (decoded (length b) word)) × (o ≡ decoded (length b) word ++ drop size b)) where
  file-is : take size o ≡ decoded 16_400 word
  file-is = front-is (decoded (length b) word) b size f ∙ ap (λ (n : ℕ). decoded n word) (ap length e ∙ length-replicate {A = ℕ} 16_400 0)

  pub load-answers : {m : Memory} {w : Watchdog} {v : Verdict} (l : List ℕ) {p out out' : List ℕ} {n end : ℕ} → length out ≡ 65_600
      → LoadLeaves (take size o) v m w → (n ≡ length (line v)) × (p ≡ line v ++ drop (length (line v)) l) → Puts out 0 (take n p) out' end
      → Answers (Loaded (decoded 16_400 word) (kept m w)) out out' end
  load-answers {m} {w} {v} l {p} {out} {out'} {n} {end} r leaves g puts =
      let k : LoadLeaves (decoded 16_400 word) v m w = rw file-is at leaves in
      let h : length (line v) ≤ length out = omega (arith, line-most v) in
      let z : Puts out 0 (line v) out' end = rw (front-is (line v) l (length (line v)) g) at puts in
      let q = put_front (z.fitting (omega arith)) h in
      record {
        printed = line v;
        told = record { leaves = rw k.verdict at k; prints = ap line k.verdict };
        prints = record { size = q.0; holds = q.1 };
      }

  pub holds-answers : {sets ends rows reach paths spans aims numbers out out' : List ℕ} {x : Bool} {end : ℕ}
      → (x ≡ true) ↔ HoldsPlanOf (take size o) sets ends rows reach paths spans aims numbers → Prints (flag_line x) out out' end
      → Answers (Says (HoldsPlanOf (decoded 16_400 word) sets ends rows reach paths spans aims numbers)) out out' end
  holds-answers {x} g p = record { printed = flag_line x; told = record { flag = x; exactly = rw file-is at g; prints = refl }; prints = p }
