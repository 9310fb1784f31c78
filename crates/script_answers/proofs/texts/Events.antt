-- The line of each event, by the values of its answer. Assumes nothing.
use mathlib.Core.Path.{◌≡◌}
use mathlib.Core.List.{List, [], ◌∷◌}
use Prim.Native.Nat.{ℕ, ◌*◌}
use lib.ListN.{get_or, take, drop}
use Rattle.rules_box.specs.declared.Event.{Event}
use Rattle.rules_box.specs.declared.Event.TheVariants.{TimeCode, Request, Reply, Reading}
use Rattle.rules_box.specs.Answer.{Values}
use Rattle.rules_box.specs.Refuse.{record_size}
use Rattle.run_events.specs.Values.{listed}
use Rattle.script_answers.specs.Texts.{numbers_line, bytes_line, event_line, Prints}

module _ {l o : List ℕ} {k : ℕ} {e : Event} (values records : List ℕ) (v : Values) (f : values ≡ listed v) where
  pub time-code-line : {byte clock size : ℕ} {part : List ℕ} → e ≡ TimeCode byte clock → size ≡ record_size * get_or values 1 0 → part ≡ take size (drop 0 records)
      → Prints (bytes_line (get_or values 0 0 ∷ get_or values 1 0 ∷ []) part) l o k → Prints (event_line e v records) l o k
  unfolding event_line listed
  time-code-line is n g p = rw is (rw (g, n, f) at p)

  pub request-line : {i t n m : ℕ} → e ≡ Request i t n m → Prints (numbers_line (get_or values 0 0 ∷ get_or values 2 0 ∷ [])) l o k → Prints (event_line e v records) l o k
  unfolding event_line listed
  request-line is p = rw is (rw f at p)

  pub reply-line : {i n s : ℕ} → e ≡ Reply i n s
      → Prints (numbers_line (get_or values 0 0 ∷ get_or values 3 0 ∷ get_or values 4 0 ∷ get_or values 5 0 ∷ get_or values 6 0 ∷ [])) l o k → Prints (event_line e v records) l o k
  unfolding event_line listed
  reply-line is p = rw is (rw f at p)

  pub reading-line : {clock : ℕ} → e ≡ Reading clock → Prints (numbers_line (get_or values 0 0 ∷ get_or values 7 0 ∷ [])) l o k → Prints (event_line e v records) l o k
  unfolding event_line listed
  reading-line is p = rw is (rw f at p)
