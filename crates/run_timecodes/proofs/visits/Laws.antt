-- The visit of one initiator's entry: what starts, and which record is put.
use mathlib.Core.Path.{◌≡◌, refl, ap, ◌∙◌}
use Rattle.std.specs.Prelude.{Some, None}
use mathlib.Core.List.{List, ◌++◌, flat_map}
use mathlib.Core.Option.{Option, none, some}
use mathlib.Core.Bool.{true, false}
use Prim.Native.Nat.{ℕ}
use Rattle.lists.specs.Options.{as_option}
use Rattle.lists.specs.Search.{is_some}
use Rattle.lists.specs.Puts.{Puts}
use Rattle.lists.specs.laws.Bools.{is-some, not_some}
use Rattle.lists.specs.laws.At.{at-member}
use Rattle.lists.specs.laws.Place.{first_some_lem}
use Rattle.lists.specs.laws.Puts.{puts_none}
use Rattle.rules_plan.specs.Plan.{Entry}
use Rattle.memory_plan.specs.View.{Owner}
use Rattle.rules_box.specs.State.{Request, Side}
use Rattle.rules_box.specs.Turn.{Start, allows, starting, begun}
use Rattle.rules_box.specs.Records.{record_bytes, full, start_record, still_record}
use Rattle.rules_box.specs.laws.Fit.{FitRequest, FitSide}
use Rattle.rules_box.specs.laws.Turns.{starting-elim}
use Rattle.memory_run.specs.Run.{word_of, live_word, row_of}
use Rattle.run_turns.specs.Turns.{started_of}
use Rattle.run_records.specs.laws.One.{puts_one}

module _ (clock : ℕ) (n : Owner) (v : ℕ) (e : Entry) (s : Side) (f : FitSide s) where
  abbrev start : Option Start
  start = starting n.plan (some e) s

  abbrev shown : List ℕ
  shown = flat_map (record_bytes clock) (start_record n.initiator v start ++ still_record (some e) n.initiator v s.live)

  -- code that puts a record of a kind for the request of a word
  abbrev Shows : ℕ → ℕ → List ℕ → List ℕ → ℕ → ℕ → Type 0
  Shows kind word before after j k = (x : Request) → FitRequest x → word ≡ word_of n x → Puts before j (record_bytes clock (full kind n.initiator v x)) after k

  -- still live: nothing starts
  pub visit-live : (row : List ℕ) (word : ℕ) → row ≡ row_of n s → is_some s.live ≡ true → word ≡ live_word n s.live → (before after : List ℕ) (j k : ℕ) → Shows 6 word before after j k
      → (row ≡ row_of n (begun s start)) × Puts before j shown after k
  unfolding starting begun start_record still_record live_word
  visit-live row word is h w before after j k puts =
      let (l, z) = is-some s.live h in
      (rw (h, starting) is, rw (h, starting, z) (puts_one clock (full 6 n.initiator v l.request) (puts l.request (f.live l z).request (w ∙ ap (live_word n) z))))

  pub visit-start : (word : ℕ) → Some word ≡ as_option (started_of n start) → (before after : List ℕ) (j k : ℕ) → Shows 5 word before after j k → Puts before j shown after k
  unfolding started_of start_record still_record
  visit-start word is before after j k puts = go start refl
    where
      go : (o : Option Start) → start ≡ o → Puts before j shown after k
      go none g = let z = is ∙ ap (λ (y : Option Start). as_option (started_of n y)) g in absurd (cc)
      go (some x) g =
          let z = starting-elim n.plan (some e) s x g in
          let at = (first_some_lem (allows n.plan x.entry) s.line x.found z.found).0 in
          let m = at-member s.line x.found.place x.found.what at in
          let y : Some word ≡ Some (word_of n x.found.what) = is ∙ ap (λ (y : Option Start). as_option (started_of n y)) g in
          rw (g, z.free) (puts_one clock (full 5 n.initiator v x.found.what) (puts x.found.what (f.line x.found.what m) (cc)))

  pub visit-nothing : None ≡ as_option (started_of n start) → is_some s.live ≡ false → (before : List ℕ) (j : ℕ) → Puts before j shown before j
  unfolding started_of start_record still_record flat_map
  visit-nothing is free before j = go start refl
    where
      go : (o : Option Start) → start ≡ o → Puts before j shown before j
      go none g = rw (g, not_some s.live free) (puts_none before j)
      go (some x) g = let z = is ∙ ap (λ (y : Option Start). as_option (started_of n y)) g in absurd (cc)
