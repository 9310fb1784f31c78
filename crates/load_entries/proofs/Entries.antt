-- An entry after a plan: the verdict on it, and spans, aims and numbers with it, for each way that the code goes.
use Rattle.std.proofs.Common.{◌≡◌, ℕ, ◌+◌, ◌*◌, ◌%◌, ◌^◌, ◌<◌, ◌≤◌, min, Bool, true, false, cond, ◌&&◌, eqb, List, [], ◌∷◌, length, set, sym, refl, ap, ◌∙◌, arith, length-set, lt-ltb, eqb-true}
use mathlib.Core.List.{Memᴰ}
use mathlib.Core.Logic.{◌≢◌}
use mathlib.Core.Option.{some}
use mathlib.Core.Bool.{and-true, and-false, or-true}
use native.Mathlib.Decide.{dec_lt}
use borrow.Author.Tests.{not-false}
use Rattle.lists.specs.Search.{any, all, is_in, twice}
use Rattle.lists.specs.Numbers.{first_from}
use Rattle.lists.specs.Rows.{first_of}
use Rattle.lists.specs.Place.{at_place}
use Rattle.lists.specs.laws.Bools.{both_true, true-both, false-either, not-both}
use Rattle.lists.specs.laws.Search.{any_none, any-elim, all-elim, all-intro}
use Rattle.lists.specs.laws.More.{all_same}
use Rattle.bitsets.specs.Set.{member, listed}
use Rattle.bitsets.specs.Packed.{packed-is, member-packed-below}
use Rattle.rules_plan.specs.Plan.{nth, Entry, Plan, path, entry}
use Rattle.rules_plan.specs.Meaning.{is_node, is_link, is_initiator, initiators, leads_from, has_path, stands_at}
use Rattle.rules_plan.specs.Judge.{over63, out_of_range, given_before, not_given, too_many, no_walk, no_path}
use Rattle.rules_plan.specs.laws.Fair.{Fair}
use Rattle.rules_plan.specs.laws.Items.{path-in}
use Rattle.rules_plan.specs.laws.Ranges.{EntryRange, entry-range}
use Rattle.rules_plan.specs.laws.Entries.{path-initiator, entry-ranges, entry-initiator, entries-most}
use Rattle.memory_plan.specs.Memory.{sets_of, rows_of, reach_of, spans_of, aims_of, numbers_with}
use Rattle.memory_plan.specs.Take.{item_fault, taken}
use Rattle.memory_plan.specs.laws.Among.{is_row, row-place, row-none, reach-at}
use Rattle.load_items.specs.laws.Numbers.{initiators-told, numbers-entry}
use Rattle.load_items.specs.laws.Sets.{node-told}
use Rattle.memory_plan.specs.laws.InRows.{length-aims_of}
use Rattle.load_turns.specs.Marked.{Marked, is_marked}
use Rattle.load_turns.specs.laws.Summary.{aims-more}
use Rattle.load_items.specs.Several.{several_fault}
use Rattle.load_entries.proofs.Ranges.{entry-targets}
use Rattle.load_entries.proofs.Slots.{span-some, span_none, spans-entry}
use Rattle.load_items.specs.laws.Judged.{Judged, holds-taken, judged-6, judged-7, judged-8, judged-11, judged-0}

-- the arrays that the code reads
pub record Lent : Type 0 where
  pub sets : List ℕ
  pub rows : List ℕ
  pub reach : List ℕ
  pub spans : List ℕ
  pub aims : List ℕ
  pub numbers : List ℕ

abbrev pub lent : (sets rows reach spans aims numbers : List ℕ) → Lent
lent sets rows reach spans aims numbers = record { sets = sets; rows = rows; reach = reach; spans = spans; aims = aims; numbers = numbers }

-- the entry that is judged
abbrev pub asked : (initiator slot span : ℕ) (targets : List ℕ) → Entry
asked initiator slot span targets = record { initiator = initiator; slot = slot; span = span; targets = targets }

-- how many rows are looked through
abbrev pub rows_in : Lent → ℕ
rows_in m = min (nth m.numbers 2) 8

-- every number of a list is in a word
abbrev pub all_in : ℕ → List ℕ → Bool
all_in word = all (λ (t : ℕ). member t word)

-- r is the verdict on x after every fair plan that the arrays hold, and then spans, aims and numbers hold the plan with x
abbrev pub EntryAnswer : Lent → List ℕ → List ℕ → List ℕ → Entry → ℕ → Type 0
EntryAnswer m spans aims numbers x r = (size : ℕ) (p : Plan) → Fair p → m.sets ≡ sets_of p → m.rows ≡ rows_of p → m.reach ≡ reach_of p
    → m.spans ≡ spans_of p → m.aims ≡ aims_of p → m.numbers ≡ numbers_with size p
    → (r ≡ item_fault p (entry x))
    × (spans ≡ spans_of (taken p (entry x)))
    × (aims ≡ aims_of (taken p (entry x)))
    × (numbers ≡ numbers_with size (taken p (entry x)))

-- how far the code has come: x is in range, no target stands twice, and r is what the search through the rows finds
pub record Sought (m : Lent) (x : Entry) (r : ℕ) : Type 0 where
  pub inside : out_of_range (entry x) ≡ false
  pub once : twice x.targets ≡ false
  pub found : r ≡ first_from (rows_in m) 0 (is_row m.rows x.initiator)

-- further: no entry stands in that row
pub record Free (m : Lent) (x : Entry) (r : ℕ) : Type 0 where
  pub sought : Sought m x r
  pub alone : r < rows_in m → nth m.spans (r * 64 + x.slot) ≡ 0

-- what the arrays tell if they hold the fair plan p
record Holding (m : Lent) (size : ℕ) (p : Plan) : Type 0 where
  fair : Fair p
  sets : m.sets ≡ sets_of p
  rows : m.rows ≡ rows_of p
  reach : m.reach ≡ reach_of p
  spans : m.spans ≡ spans_of p
  aims : m.aims ≡ aims_of p
  numbers : m.numbers ≡ numbers_with size p

module _ (m : Lent) (x : Entry) (r : ℕ) (s : Sought m x r) (size : ℕ) (p : Plan) (held : Holding m size p) where
  range : EntryRange x
  range = entry-range x s.inside

  counted : nth m.numbers 2 ≡ length (initiators p)
  counted = initiators-told size p m.numbers held.numbers

  row : r < rows_in m → at_place r (initiators p) ≡ some x.initiator
  row h = row-place p held.fair.lists.paths.eight m.rows held.rows (nth m.numbers 2) counted x.initiator r s.found (omega arith)

  no_row : rows_in m ≤ r → is_initiator p x.initiator ≡ false
  no_row h =
      row-none p held.fair.lists.paths.eight m.rows held.rows (nth m.numbers 2) counted x.initiator r s.found range.initiator
      (omega (arith, counted, held.fair.lists.paths.eight))

  -- an entry stands in the row
  somebody : r < rows_in m → (nth m.spans (r * 64 + x.slot) ≡ 0 → ⊥) → any (stands_at x.initiator x.slot) p.entries ≡ true
  somebody h = span-some p m.spans held.spans r x.initiator (row h) (omega arith) x.slot range.slot

  -- none stands there: of an initiator with a row the span tells it, and any other has no entry
  nobody : (r < rows_in m → nth m.spans (r * 64 + x.slot) ≡ 0) → any (stands_at x.initiator x.slot) p.entries ≡ false
  unfolding stands_at
  nobody alone = go (dec_lt r (rows_in m))
    where
      fair : Fair p
      fair = held.fair

      other : is_initiator p x.initiator ≡ false → (e : Entry) → Memᴰ e p.entries → (b : Bool) → stands_at x.initiator x.slot e ≡ b → b ≡ false
      other h e k true t =
          let q : x.initiator ≡ e.initiator = eqb-true x.initiator e.initiator (both_true (eqb x.initiator e.initiator) (eqb x.slot e.slot) t).0 in
          not-both (entry-initiator p fair.lengths fair.ranges fair.reached e k) (rw q at h)
      other h e k false t = refl

      go : Dec (r < rows_in m) → any (stands_at x.initiator x.slot) p.entries ≡ false
      go (yes h) =
          span_none p m.spans held.spans r x.initiator (row h) (omega arith) x.slot range.slot
          (λ e k. (entry-ranges p fair.lengths fair.ranges fair.reached e k).some-span) (alone h)
      go (no h) = any_none _ p.entries (λ e k. other (no_row (omega arith)) e k (stands_at x.initiator x.slot e) refl)

  node : (b : Bool) → member x.initiator (nth m.sets 0) ≡ b → is_node p x.initiator ≡ b
  node b h = sym (node-told p m.sets held.sets x.initiator range.initiator) ∙ h

  nodes : (b : Bool) → all_in (nth m.sets 0) x.targets ≡ b → all (is_node p) x.targets ≡ b
  nodes b h = sym (all_same _ (is_node p) x.targets (λ t k. node-told p m.sets held.sets t (range.targets t k))) ∙ h

  paths : r < rows_in m → (b : Bool) → all_in (nth m.reach r) x.targets ≡ b → all (has_path p x.initiator) x.targets ≡ b
  paths h b e =
      let word = reach-at p m.reach held.reach r x.initiator (row h) (omega arith) in
      sym (all_same _ (has_path p x.initiator) x.targets (λ t k. rw word (member-packed-below t (has_path p x.initiator) (range.targets t k)))) ∙ e

-- who is no initiator has no path
no-paths : (p : Plan) (i : ℕ) → is_initiator p i ≡ false → (ts : List ℕ) → 0 < length ts → all (has_path p i) ts ≡ false
unfolding all
no-paths p i h [] l = absurd (omega arith)
no-paths p i h (t ∷ ts) l = go (has_path p i t) refl
  where
    go : (b : Bool) → has_path p i t ≡ b → b && all (has_path p i) ts ≡ false
    go true e = not-both (path-initiator p i t e) h
    go false e = refl

-- refused with n, and nothing stored
refused : (m : Lent) (x : Entry) (n : ℕ) → ((size : ℕ) (p : Plan) → Holding m size p → Judged p (entry x) n p) → EntryAnswer m m.spans m.aims m.numbers x n
refused m x n f size p fair a b c d e g =
    let j = f size p (record { fair = fair; sets = a; rows = b; reach = c; spans = d; aims = e; numbers = g }) in
    (j.fault, holds-taken spans_of j m.spans d, holds-taken aims_of j m.aims e, holds-taken (numbers_with size) j m.numbers g)

pub entry-refused : (m : Lent) (x : Entry) → out_of_range (entry x) ≡ true → EntryAnswer m m.spans m.aims m.numbers x 6
entry-refused m x h = refused m x 6 (λ size p held. judged-6 p (entry x) h)

-- the targets gone through, of an entry whose other numbers are in range: one is over 63, or one stands twice, or neither
module _ (m : Lent) (x : Entry) (i : x.initiator ≤ 63) (v : x.slot ≤ 63) (z : x.span ≡ 0 → ⊥) (n : x.span ≤ 16) where
  by-targets : any over63 x.targets ≡ out_of_range (entry x)
  by-targets = entry-targets x.initiator x.slot x.span x.targets i v z n

  pub entry-several : (k : ℕ) → k ≡ several_fault x.targets → k ≢ 0 → EntryAnswer m m.spans m.aims m.numbers x k
  unfolding several_fault first_of given_before
  entry-several k is nonzero = go (any over63 x.targets) refl (twice x.targets) refl
    where
      go : (a : Bool) → any over63 x.targets ≡ a → (b : Bool) → twice x.targets ≡ b → EntryAnswer m m.spans m.aims m.numbers x k
      go true e b f = let six : k ≡ 6 = is ∙ rw e in rw six (entry-refused m x (sym by-targets ∙ e))
      go false e true f =
          let seven : k ≡ 7 = is ∙ rw (e, f) in
          rw seven (refused m x 7 (λ size p held. judged-7 p (entry x) (sym by-targets ∙ e) (rw f (or-true (any (stands_at x.initiator x.slot) p.entries)))))
      go false e false f = absurd (nonzero (is ∙ rw (e, f)))

  pub seek : (r : ℕ) → r ≡ first_from (rows_in m) 0 (is_row m.rows x.initiator) → 0 ≡ several_fault x.targets → Sought m x r
  unfolding several_fault first_of
  seek r f is = go (any over63 x.targets) refl (twice x.targets) refl
    where
      go : (a : Bool) → any over63 x.targets ≡ a → (b : Bool) → twice x.targets ≡ b → Sought m x r
      go true e b g = let six : 0 ≡ 6 = is ∙ rw e in absurd (omega (arith, six))
      go false e true g = let seven : 0 ≡ 7 = is ∙ rw (e, g) in absurd (omega (arith, seven))
      go false e false g = record { inside = sym by-targets ∙ e; once = g; found = f }

-- row 7: an entry stands there
module _ {m : Lent} {x : Entry} {r : ℕ} (s : Sought m x r) where
  pub entry-again : r < rows_in m → (nth m.spans (r * 64 + x.slot) ≡ 0 → ⊥) → EntryAnswer m m.spans m.aims m.numbers x 7
  unfolding given_before
  entry-again h z = refused m x 7 (λ size p held. judged-7 p (entry x) s.inside (rw (somebody m x r s size p held h z)))

-- who has a path is a node, and so is whom it leads to
path-nodes : (p : Plan) → Fair p → (i t : ℕ) → has_path p i t ≡ true → (is_node p i ≡ true) × (is_node p t ≡ true)
unfolding has_path leads_from not_given
path-nodes p f i t h =
    let (y, k, e) = any-elim (leads_from i t) p.paths h in
    let (a, b) = both_true (eqb i y.start) (eqb t y.end) e in
    let (c, _) = both_true (is_node p y.start && is_node p y.end) (all (is_link p) y.links) (not-false _ (f.known (path y) (path-in p y k))) in
    let (d, g) = both_true (is_node p y.start) (is_node p y.end) c in
    (ap (is_node p) (eqb-true i y.start a) ∙ d, ap (is_node p) (eqb-true t y.end b) ∙ g)

all-nodes : (p : Plan) → Fair p → (i : ℕ) (ts : List ℕ) → 0 < length ts → all (has_path p i) ts ≡ true → is_node p i && all (is_node p) ts ≡ true
unfolding all
all-nodes p f i [] l h = absurd (omega arith)
all-nodes p f i (t ∷ ts) l h =
    true-both (path-nodes p f i t (all-elim (has_path p i) (t ∷ ts) t h (Memᴰ.head refl))).0
    (all-intro (is_node p) (t ∷ ts) (λ u k. (path-nodes p f i u (all-elim (has_path p i) (t ∷ ts) u h k)).1))

module _ {m : Lent} {x : Entry} {r : ℕ} (s : Free m x r) where
  new : (size : ℕ) (p : Plan) → Holding m size p → given_before p (entry x) ≡ false
  unfolding given_before
  new size p held = false-either (nobody m x r s.sought size p held s.alone) s.sought.once

  -- rows 8 and 11: a target is not reached
  missing : (b c : Bool) → member x.initiator (nth m.sets 0) ≡ b → all_in (nth m.sets 0) x.targets ≡ c
      → ((size : ℕ) (p : Plan) → Holding m size p → all (has_path p x.initiator) x.targets ≡ false)
      → EntryAnswer m m.spans m.aims m.numbers x (cond (b && c) 11 8)
  unfolding not_given too_many no_walk no_path
  missing true true h g f =
      refused m x 11 (λ size p held. judged-11 p (entry x) s.sought.inside (new size p held)
      (rw (node m x r s.sought size p held true h, nodes m x r s.sought size p held true g)) refl refl (rw (f size p held)))
  missing true false h g f =
      refused m x 8 (λ size p held. judged-8 p (entry x) s.sought.inside (new size p held)
      (rw (nodes m x r s.sought size p held false g, and-false (is_node p x.initiator))))
  missing false c h g f = refused m x 8 (λ size p held. judged-8 p (entry x) s.sought.inside (new size p held) (rw (node m x r s.sought size p held false h)))

  module _ (n : ℕ) (is : n ≡ cond (member x.initiator (nth m.sets 0) && all_in (nth m.sets 0) x.targets) 11 8) where
    pub entry-no-row : rows_in m ≤ r → 0 < length x.targets → EntryAnswer m m.spans m.aims m.numbers x n
    entry-no-row h l = rw is (missing _ _ refl refl (λ size p held. no-paths p x.initiator (no_row m x r s.sought size p held h) x.targets l))

    pub entry-no-path : r < rows_in m → all_in (nth m.reach r) x.targets ≡ false → EntryAnswer m m.spans m.aims m.numbers x n
    entry-no-path h e = rw is (missing _ _ refl refl (λ size p held. paths m x r s.sought size p held h false e))

  -- the word w is the set of the targets, and n the sum that the machine computes
  pub entry-taken : 0 < length x.targets → r < rows_in m → all_in (nth m.reach r) x.targets ≡ true
      → (w : ℕ) → w < 2 ^ 64 → ((k : ℕ) → member k w ≡ listed x.targets k) → (n : ℕ) → n ≡ (nth m.numbers 4 + 1) % 2 ^ 32
      → (aims' : List ℕ) → (length (set m.aims (r * 64 + x.slot) w) ≡ 1_152 → Marked (is_marked r x.span x.targets) x.slot (set m.aims (r * 64 + x.slot) w) aims')
      → EntryAnswer m (set m.spans (r * 64 + x.slot) x.span) aims' (set m.numbers 4 n) x 0
  unfolding not_given too_many no_walk no_path
  entry-taken l h e w fits is n sum aims' marked size p fair sets rows reach spans aims numbers =
      let held : Holding m size p = record { fair = fair; sets = sets; rows = rows; reach = reach; spans = spans; aims = aims; numbers = numbers } in
      let reached = paths m x r s.sought size p held h true e in
      let j = judged-0 p (entry x) s.sought.inside (new size p held) (rw (all-nodes p fair x.initiator x.targets l reached)) refl refl (rw reached) in
      let most = entries-most p fair.lengths fair.ranges fair.reached fair.lists.entries.once fair.lists.paths.eight in
      let word = packed-is w (λ (t : ℕ). is_in t x.targets) fits (λ k l. is k ∙ rw (lt-ltb k 64 l) (and-true (is_in k x.targets))) in
      let range = entry-range x s.sought.inside in
      let below = range.slot in
      let here = row m x r s.sought size p held h in
      let alone = nobody m x r s.sought size p held s.alone in (
        j.fault,
        holds-taken spans_of j _ (spans-entry p r x here (omega arith) below alone m.spans spans),
        holds-taken aims_of j _ (aims-more p r x here (omega arith) below alone range.span range.targets m.aims aims w word aims'
            (marked (length-set m.aims (r * 64 + x.slot) w ∙ ap length aims ∙ length-aims_of p))),
        holds-taken (numbers_with size) j _ (rw sum (numbers-entry size p m.numbers numbers x (omega (arith, most)))),
      )
