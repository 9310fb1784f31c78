-- One item taken into memory: which arrays it leaves alone, and so that memory holds the plan with it.
use mathlib.Core.Path.{◌≡◌, refl, sym, ap, ap₂, ◌∙◌}
use mathlib.Core.Logic.{◌⊎◌, inl, inr}
use mathlib.Core.List.{List, [], ◌++◌}
use mathlib.Core.Option.{Option, none, some}
use mathlib.Core.Bool.{Bool, true, false, cond}
use Prim.Native.Nat.{ℕ, ◌-◌, ◌/◌, ◌%◌, ◌≤◌}
use native.Mathlib.Omega.{arith}
use lib.Dec.{eqb}
use lib.ListN.{length, take, drop, length-drop}
use Rattle.lists.specs.laws.Parts.{from-to-end}
use Rattle.lists.specs.Rows.{first_of}
use Rattle.rules_plan.specs.Judge.{out_of_range, given_before, not_given, too_many, no_walk, no_path, item_rows}
use Rattle.lists.specs.Search.{find}
use Rattle.lists.specs.Cells.{cells}
use Rattle.lists.specs.laws.Bools.{some-some}
use Rattle.rules_plan.specs.Plan.{nth, two, four, Device, Link, Route, Entry, Timing, Times, Plan, Item, device, link, path, entry, timing, times, reply, grow}
use Rattle.rules_plan.specs.Fields.{as_path, as_times, as_reply, Tag, tags, tag_of, length_allowed, item_of}
use Rattle.rules_plan.specs.Meaning.{has_kind, is_link, is_initiator, initiators, has_path, entry_at}
use Rattle.rules_plan.specs.laws.Lengths.{allowed}
use Rattle.rules_plan.specs.laws.Items.{UpTo, no-entries}
use Rattle.memory_plan.specs.Memory.{sets_of, ends_of, rows_of, of_row, reach_of, paths_in_order, replies_in_order, paths_of, span_of, spans_of, aim_of, slot_aims, has_target, longer_than, slots_with, turns_of, long_of, aims_of, costs_among, numbers_with, HoldsSized}
use Rattle.memory_plan.specs.Take.{item_fault, taken, path_item, reply_item, times_item}
use Rattle.memory_plan.specs.laws.RowCells.{no_cells}
use Rattle.memory_plan.specs.laws.Turns.{no-slots}
use Rattle.load_fields.specs.Fields.{Takes, TakesRoute}

-- what a row of the table of tags says of a content: its item, and the bounds of its length
module _ {n k : ℕ} {t : Tag} (is : n ≡ k) (row : tag_of k ≡ some t) where
  pub reads_as : (c : List ℕ) (x : Item) → item_of n c ≡ some x → x ≡ t.reads c
  unfolding item_of
  reads_as c x h = some-some (sym (rw (is, item_of, row) at h))

  pub between : (size : ℕ) → length_allowed n size ≡ true → (t.shortest ≤ size) × (size ≤ t.longest)
  between size h = allowed k size t row (rw is at h)

-- a 03 and a 07 have from three to ten bytes
pub route-sized : (n size : ℕ) → length_allowed n size ≡ true → (n ≡ 3) ⊎ (n ≡ 7) → (3 ≤ size) × (size ≤ 10)
unfolding tag_of tags find
route-sized n size h (inl e) = between e refl size h
route-sized n size h (inr e) = between e refl size h

-- the least length of the other contents
pub sized-1 : (n size : ℕ) → n ≡ 1 → length_allowed n size ≡ true → 2 ≤ size
unfolding tag_of tags find
sized-1 n size is h = (between is refl size h).0

pub sized-2 : (n size : ℕ) → n ≡ 2 → length_allowed n size ≡ true → 3 ≤ size
unfolding tag_of tags find
sized-2 n size is h = (between is refl size h).0

pub sized-4 : (n size : ℕ) → n ≡ 4 → length_allowed n size ≡ true → 4 ≤ size
unfolding tag_of tags find
sized-4 n size is h = (between is refl size h).0

pub sized-5 : (n size : ℕ) → n ≡ 5 → length_allowed n size ≡ true → 8 ≤ size
unfolding tag_of tags find
sized-5 n size is h = (between is refl size h).0

pub sized-6 : (n size : ℕ) → n ≡ 6 → length_allowed n size ≡ true → 22 ≤ size
unfolding tag_of tags find
sized-6 n size is h = (between is refl size h).0

-- the links of a 03 or a 07 are what is left of its content, and its item the path, or the reply, over them
abbrev pub links-in : List ℕ → List ℕ
links-in content = take (length content - 2) (drop 2 content)

pub few-links : (n : ℕ) (content : List ℕ) → length_allowed n (length content) ≡ true → (n ≡ 3) ⊎ (n ≡ 7) → length (links-in content) ≤ 8
few-links n content h is = rw (from-to-end 2 content) (omega (arith, length-drop 2 content, (route-sized n (length content) h is).1))

pub path-read : (n : ℕ) (content : List ℕ) (x : Item) → n ≡ 3 → item_of n content ≡ some x → x ≡ path_item (nth content 0) (nth content 1) (links-in content)
unfolding tag_of tags find as_path
path-read n content x w is = reads_as w refl content x is ∙ ap (path_item (nth content 0) (nth content 1)) (sym (from-to-end 2 content))

pub reply-read : (n : ℕ) (content : List ℕ) (x : Item) → n ≡ 7 → item_of n content ≡ some x → x ≡ reply_item (nth content 0) (nth content 1) (links-in content)
unfolding tag_of tags find as_reply
reply-read n content x w is = reads_as w refl content x is ∙ ap (reply_item (nth content 0) (nth content 1)) (sym (from-to-end 2 content))

-- the content of a 06, number by number
pub times-read : (s : List ℕ) {rate a d f g slot : ℕ} → rate ≡ two s 0 → a ≡ four s 2 → d ≡ four s 6 → f ≡ four s 10 → g ≡ four s 14 → slot ≡ four s 18 → times_item rate a d f g slot ≡ as_times s
unfolding as_times
times-read s r a d f g l = rw (r, a, d, f, g, l)

-- while there are no entries, the arrays of entries are all 0
module _ (p : Plan) (none_yet : p.entries ≡ []) where
  no-entry : (f : Option Entry → ℕ) → f none ≡ 0 → (i v : ℕ) → f (entry_at p.entries i v) ≡ 0
  unfolding entry_at find
  no-entry f z i v = ap (λ (es : List Entry). f (entry_at es i v)) none_yet ∙ z

  pub no-spans : spans_of p ≡ cells 512 (λ (n : ℕ). 0)
  unfolding spans_of span_of
  no-spans = no_cells p 512 (λ (n : ℕ). n / 64) (λ (n : ℕ). n % 64) _ (no-entry span_of refl)

  no_slot : (g : ℕ → Option Entry → Bool) → ((k : ℕ) → g k none ≡ false) → (i k : ℕ) → slots_with (g k) p.entries i ≡ 0
  no_slot g z i k = ap (λ (es : List Entry). slots_with (g k) es i) none_yet ∙ no-slots (g k) (z k) i

  pub no-aims : aims_of p ≡ cells 512 (λ (n : ℕ). 0) ++ (cells 512 (λ (n : ℕ). 0) ++ cells 128 (λ (n : ℕ). 0))
  unfolding aims_of slot_aims turns_of long_of aim_of has_target longer_than
  no-aims = ap₂ ◌++◌ (no_cells p 512 (λ (n : ℕ). n / 64) (λ (n : ℕ). n % 64) _ (no-entry aim_of refl))
      (ap₂ ◌++◌ (no_cells p 512 (λ (n : ℕ). n / 64) (λ (n : ℕ). n % 64) _ (no_slot has_target (λ k. refl)))
      (no_cells p 128 (λ (n : ℕ). n / 16) (λ (n : ℕ). n % 16) _ (no_slot longer_than (λ k. refl))))

-- an array that does not change when the item is added does not change when it is taken
left_alone : (f : Plan → List ℕ) (p : Plan) (x : Item) → f (grow p x) ≡ f p → f p ≡ f (taken p x)
unfolding taken
left_alone f p x h = go (eqb (item_fault p x) 0)
  where
    go : (b : Bool) → f p ≡ f (cond b (grow p x) p)
    go true = sym h
    go false = refl

-- a reply leaves the rows and what they reach
pub rows_left : (p : Plan) (y : Route) → rows_of p ≡ rows_of (taken p (reply y))
unfolding grow rows_of is_initiator initiators
rows_left p y = left_alone rows_of p (reply y) refl

pub reach-left : (p : Plan) (y : Route) → reach_of p ≡ reach_of (taken p (reply y))
unfolding grow reach_of of_row has_path is_initiator initiators
reach-left p y = left_alone reach_of p (reply y) refl

-- s e r c a n m w: the eight arrays, in their order
module _ {size : ℕ} {p : Plan} {s e r c a n m w : List ℕ} (old : HoldsSized size p s e r c a n m w) where
  -- what no item of its kind changes
  sets-kept : (x : Item) → sets_of (grow p x) ≡ sets_of p → s ≡ sets_of (taken p x)
  sets-kept x h = old.sets ∙ left_alone sets_of p x h

  ends-kept : (x : Item) → ends_of (grow p x) ≡ ends_of p → e ≡ ends_of (taken p x)
  ends-kept x h = old.ends ∙ left_alone ends_of p x h

  rows-kept : (x : Item) → rows_of (grow p x) ≡ rows_of p → r ≡ rows_of (taken p x)
  rows-kept x h = old.rows ∙ left_alone rows_of p x h

  reach-kept : (x : Item) → reach_of (grow p x) ≡ reach_of p → c ≡ reach_of (taken p x)
  reach-kept x h = old.reach ∙ left_alone reach_of p x h

  paths-kept : (x : Item) → paths_of (grow p x) ≡ paths_of p → a ≡ paths_of (taken p x)
  paths-kept x h = old.paths ∙ left_alone paths_of p x h

  spans-kept : (x : Item) → spans_of (grow p x) ≡ spans_of p → n ≡ spans_of (taken p x)
  spans-kept x h = old.spans ∙ left_alone spans_of p x h

  aims-kept : (x : Item) → aims_of (grow p x) ≡ aims_of p → m ≡ aims_of (taken p x)
  aims-kept x h = old.aims ∙ left_alone aims_of p x h

  numbers-kept : (x : Item) → numbers_with size (grow p x) ≡ numbers_with size p → w ≡ numbers_with size (taken p x)
  numbers-kept x h = old.numbers ∙ left_alone (numbers_with size) p x h

  pub device-taken : (d : Device) {v : ℕ} {s' : List ℕ} → (v ≡ item_fault p (device d)) × (s' ≡ sets_of (taken p (device d))) → Takes size p (device d) v s' e r c a n m w
  unfolding grow ends_of rows_of reach_of of_row has_path paths_in_order replies_in_order paths_of spans_of slot_aims turns_of long_of aims_of costs_among numbers_with is_initiator initiators
  device-taken d new =
      let x = device d in
      record {
        answer = new.0;
        memory = record { sets = new.1; ends = ends-kept x refl; rows = rows-kept x refl; reach = reach-kept x refl; paths = paths-kept x refl; spans = spans-kept x refl; aims = aims-kept x refl; numbers = numbers-kept x refl };
      }

  pub link-taken : (l : Link) {v : ℕ} {s' e' : List ℕ} → (v ≡ item_fault p (link l)) × (s' ≡ sets_of (taken p (link l))) × (e' ≡ ends_of (taken p (link l))) → Takes size p (link l) v s' e' r c a n m w
  unfolding grow rows_of reach_of of_row has_path paths_in_order replies_in_order paths_of spans_of slot_aims turns_of long_of aims_of costs_among numbers_with is_initiator initiators
  link-taken l new =
      let x = link l in
      record {
        answer = new.0;
        memory = record { sets = new.1; ends = new.2; rows = rows-kept x refl; reach = reach-kept x refl; paths = paths-kept x refl; spans = spans-kept x refl; aims = aims-kept x refl; numbers = numbers-kept x refl };
      }

  path-taken : (y : Route) {v : ℕ} {r' c' a' w' : List ℕ} → p.entries ≡ [] → TakesRoute size p (path y) v r' c' a' w' → Takes size p (path y) v s e r' c' a' n m w'
  unfolding grow sets_of has_kind is_link ends_of
  path-taken y z new =
      let x = path y in
      let q = grow p x in
      record {
        answer = new.answer;
        memory = record { sets = sets-kept x refl; ends = ends-kept x refl; rows = new.rows; reach = new.reach; paths = new.paths; spans = spans-kept x (no-spans q z ∙ sym (no-spans p z)); aims = aims-kept x (no-aims q z ∙ sym (no-aims p z)); numbers = new.numbers };
      }

  reply-taken : (y : Route) {v : ℕ} {r' c' a' w' : List ℕ} → TakesRoute size p (reply y) v r' c' a' w' → Takes size p (reply y) v s e r' c' a' n m w'
  unfolding grow sets_of has_kind is_link ends_of spans_of slot_aims turns_of long_of aims_of of_row is_initiator initiators
  reply-taken y new =
      let x = reply y in
      record {
        answer = new.answer;
        memory = record { sets = sets-kept x refl; ends = ends-kept x refl; rows = new.rows; reach = new.reach; paths = new.paths; spans = spans-kept x refl; aims = aims-kept x refl; numbers = new.numbers };
      }

  pub entry-taken : (y : Entry) {v : ℕ} {n' m' w' : List ℕ} → (v ≡ item_fault p (entry y)) × (n' ≡ spans_of (taken p (entry y))) × (m' ≡ aims_of (taken p (entry y))) × (w' ≡ numbers_with size (taken p (entry y))) → Takes size p (entry y) v s e r c a n' m' w'
  unfolding grow sets_of has_kind is_link ends_of rows_of reach_of of_row has_path paths_in_order replies_in_order paths_of is_initiator initiators
  entry-taken y new =
      let x = entry y in
      record {
        answer = new.0;
        memory = record { sets = sets-kept x refl; ends = ends-kept x refl; rows = rows-kept x refl; reach = reach-kept x refl; paths = paths-kept x refl; spans = new.1; aims = new.2; numbers = new.3 };
      }

  pub timing-taken : (t : Timing) {v : ℕ} {w' : List ℕ} → (v ≡ item_fault p (timing t)) × (w' ≡ numbers_with size (taken p (timing t))) → Takes size p (timing t) v s e r c a n m w'
  unfolding grow sets_of has_kind is_link ends_of rows_of reach_of of_row has_path paths_in_order replies_in_order paths_of spans_of slot_aims turns_of long_of aims_of is_initiator initiators
  timing-taken t new =
      let x = timing t in
      record {
        answer = new.0;
        memory = record { sets = sets-kept x refl; ends = ends-kept x refl; rows = rows-kept x refl; reach = reach-kept x refl; paths = paths-kept x refl; spans = spans-kept x refl; aims = aims-kept x refl; numbers = new.1 };
      }

  pub times-taken : (t : Times) {v : ℕ} {w' : List ℕ} → (v ≡ item_fault p (times t)) × (w' ≡ numbers_with size (taken p (times t))) → Takes size p (times t) v s e r c a n m w'
  unfolding grow sets_of has_kind is_link ends_of rows_of reach_of of_row has_path paths_in_order replies_in_order paths_of spans_of slot_aims turns_of long_of aims_of is_initiator initiators
  times-taken t new =
      let x = times t in
      record {
        answer = new.0;
        memory = record { sets = sets-kept x refl; ends = ends-kept x refl; rows = rows-kept x refl; reach = reach-kept x refl; paths = paths-kept x refl; spans = spans-kept x refl; aims = aims-kept x refl; numbers = new.1 };
      }

-- the same of the item under another name
pub as-item : {size : ℕ} {p : Plan} {x y : Item} {v : ℕ} {s e r c a n m w : List ℕ} → x ≡ y → Takes size p y v s e r c a n m w → Takes size p x v s e r c a n m w
as-item h t = rw h t

pub as-route : {size : ℕ} {p : Plan} {x y : Item} {v : ℕ} {r c a w : List ℕ} → x ≡ y → TakesRoute size p y v r c a w → TakesRoute size p x v r c a w
as-route h t = rw h t

-- a path while there are no entries, or a reply
pub route-taken : {size : ℕ} {p : Plan} {x : Item} {v tag : ℕ} {s e r c a n m w r' c' a' w' : List ℕ} → HoldsSized size p s e r c a n m w → UpTo p tag → (tag ≡ 3) ⊎ (tag ≡ 7)
    → (content : List ℕ) → item_of tag content ≡ some x → TakesRoute size p x v r' c' a' w' → Takes size p x v s e r' c' a' n m w'
unfolding tag_of tags find as_path as_reply
route-taken {p} {x} {tag} old up (inl is) content item new =
    let same = reads_as is refl content x item in
    as-item same (path-taken old _ (no-entries p tag up (omega arith)) (as-route (sym same) new))
route-taken {p} {x} old up (inr is) content item new =
    let same = reads_as is refl content x item in
    as-item same (reply-taken old _ (as-route (sym same) new))
