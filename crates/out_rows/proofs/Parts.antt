-- What the code puts for one path and one entry is its field.
use mathlib.Core.Path.{◌≡◌, refl, sym, ap, ◌∙◌}
use mathlib.Core.List.{List, [], ◌∷◌, ◌++◌, flat_map}
use mathlib.Core.Bool.{true, false}
use Prim.Native.Nat.{ℕ, zero, suc, ◌+◌, ◌-◌, ◌*◌, ◌/◌, ◌%◌, ◌≤◌, ◌<◌}
use native.Mathlib.Nat.{add-zero, add-suc, suc-add}
use native.Mathlib.Numerals.{add-one}
use native.Mathlib.Omega.{arith}
use lib.ListN.{length, set, length-append}
use borrow.Author.Tests.{lt-ltb, le-ltb, eq-eqb, ne_eqb}
use Rattle.lists.specs.Search.{only, up_from, below64}
use Rattle.lists.specs.Stores.{Put}
use Rattle.lists.specs.Puts.{Puts}
use Rattle.lists.specs.laws.Stores.{put_one, put_then}
use Rattle.lists.specs.laws.Puts.{puts_none, puts-over, flat_up}
use Rattle.lists.specs.laws.Order.{flat-only}
use Rattle.lists.specs.laws.Kept.{count_kept}
use Rattle.bitsets.specs.Set.{member, members, least_of, size_of}
use Rattle.bitsets.specs.Laws.{least-in, size-le}
use Rattle.bitsets.specs.Walk.{Walk, walk-low}
use Rattle.rules_plan.specs.Plan.{nth}
use Rattle.rules_plan.specs.Fields.{tag_for, content_for, field_for}
use Rattle.out_rows.specs.Out.{links_from, route_field, path_bytes, rises, entry_bytes}

-- a field is its start and the rest: where it has no room nothing is asked, else the one is put behind the other
module _ (start rest : List ℕ) {bytes : List ℕ} (e : bytes ≡ start ++ rest) {l o : List ℕ} {i k : ℕ} where
  field-over : length l < i + (length start + length rest) → Puts l i bytes o k
  field-over h = rw e (puts-over l i (start ++ rest) o k (omega (arith, length-append start rest)))

  field_puts : {p : List ℕ} {m : ℕ} → Put l i start o k → Put o k rest p m → Puts l i bytes p m
  field_puts a b = record { fitting = λ _. rw e (put_then a b) }

module _ (paths : List ℕ) where
  -- links are as many as are read; one more of them
  links-length : (count start : ℕ) → length (links_from paths start count) ≡ count
  unfolding links_from up_from
  links-length zero start = refl
  links-length (suc count) start = ap suc (links-length count (suc start))

  links-suc : (count start : ℕ) → links_from paths start (suc count) ≡ links_from paths start count ++ (nth paths (start + count) ∷ [])
  unfolding links_from up_from
  links-suc zero start = rw (add-zero start)
  links-suc (suc count) start = rw (links-suc count (suc start), suc-add start count, add-suc start count)

  -- the first j of them are put: one more, and no more
  module _ (start j : ℕ) {l o : List ℕ} {i : ℕ} (f : Put l i (links_from paths start j) o (i + j)) where
    pub links-more : Put l i (links_from paths start (j + 1)) (set o (i + j) (nth paths (start + j))) (i + (j + 1))
    links-more = let e : i + (j + 1) ≡ i + j + 1 = omega arith in rw (e, add-one j, links-suc j start) (put_then f (put_one o (i + j) (nth paths (start + j))))

    pub links-all : (count : ℕ) → j ≡ count → Put l i (links_from paths start count) o (i + count)
    links-all count e = rw (← e) f

  module _ (tag n : ℕ) where
    -- a row that is unused, and a row that no plan has
    pub no-path : (l : List ℕ) (i : ℕ) → nth paths (11 * n + 2) ≡ 0 → Puts l i (path_bytes tag paths n) l i
    unfolding path_bytes
    no-path l i e = rw e (puts_none l i)

    pub no_row : (l : List ℕ) (i : ℕ) → 8 < nth paths (11 * n + 2) → Puts l i (path_bytes tag paths n) l i
    unfolding path_bytes
    no_row l i h = rw (lt-ltb 8 (nth paths (11 * n + 2)) h) (puts_none l i)

    -- tag, number of bytes, initiator and target; then the links
    abbrev path_start : ℕ → List ℕ
    path_start count = tag ∷ 0 ∷ (2 + count) ∷ nth paths (11 * n) ∷ nth paths (11 * n + 1) ∷ []

    module _ {count : ℕ} (e : count ≡ nth paths (11 * n + 2)) (some : count ≡ 0 → ⊥) (few : count ≤ 8) where
      -- at most ten bytes, whose number has no high byte, behind the tag and the number
      path-is : path_bytes tag paths n ≡ path_start count ++ links_from paths (11 * n + 3) count
      unfolding path_bytes route_field
      path-is =
          let high : suc (suc count) / 256 ≡ 0 = omega arith in
          let low : suc (suc count) % 256 ≡ 2 + count = omega arith in
          rw (← e, le-ltb 8 count few, ne_eqb count 0 some, links-length count (11 * n + 3), high, low)

      pub path-over : {l o : List ℕ} {i k : ℕ} → length l < i + (5 + count) → Puts l i (path_bytes tag paths n) o k
      path-over h = field-over (path_start count) (links_from paths (11 * n + 3) count) path-is (omega (arith, links-length count (11 * n + 3)))

      pub path-puts : {l o p : List ℕ} {i k m : ℕ} → Put l i (path_start count) o k → Put o k (links_from paths (11 * n + 3) count) p m → Puts l i (path_bytes tag paths n) p m
      path-puts a b = field_puts (path_start count) (links_from paths (11 * n + 3) count) path-is a b

-- a member of a set
unfoldable pub member_byte : ℕ → ℕ → List ℕ
member_byte set n = only (member n set) n

pub member-off : (set n : ℕ) → member n set ≡ false → member_byte set n ≡ []
unfolding member_byte only
member-off set n h = rw (h, only)

pub member-on : (set n : ℕ) → member n set ≡ true → member_byte set n ≡ n ∷ []
unfolding member_byte only
member-on set n h = rw (h, only)

pub members-rise : (set : ℕ) → flat_map (member_byte set) below64 ≡ rises set
unfolding member_byte rises
members-rise set = flat-only (members set) below64

-- the parts of more numbers have no fewer bytes
no-fewer : (f : ℕ → List ℕ) (n m : ℕ) → length (flat_map f (up_from n 0)) ≤ length (flat_map f (up_from (n + m) 0))
no-fewer f n zero = let z : n + 0 ≡ n = omega arith in rw z (omega arith)
no-fewer f n (suc m) =
    let s : n + suc m ≡ suc (n + m) = omega arith in
    rw (s, flat_up f (n + m) 0) (omega (arith, no-fewer f n m, length-append (flat_map f (up_from (n + m) 0)) (f (0 + (n + m)))))

-- where all members have room, the next one has
pub member-room : {set rest : ℕ} {l o : List ℕ} {i k : ℕ} → Walk (member_byte set) set l i o k rest → (rest ≡ 0 → ⊥) → i + length (rises set) ≤ length l → k < length o
unfolding below64
member-room {set} {rest} {l} {o} {i} {k} w some h =
    let n = least_of rest in
    let f = member_byte set in
    let low = walk-low w some in
    let here : f n ≡ n ∷ [] = member-on set n (sym (w.left n (omega arith)) ∙ least-in rest low) in
    let z : suc n + (63 - n) ≡ 64 = omega arith in
    let y : 0 + n ≡ n = omega arith in
    let before = flat_map f (up_from n 0) in
    let within : length (before ++ (n ∷ [])) ≤ length (rises set) = rw (z, flat_up f n 0, y, here, members-rise set) at (no-fewer f (suc n) (63 - n)) in
    let all : length before + 1 ≤ length (rises set) = omega (arith, within, length-append before (n ∷ [])) in
    omega (arith, w.turns.same, (w.turns.puts.fitting (omega arith)).next)

-- a set has as many members as its members written out
pub rises-length : (s : ℕ) → size_of s ≡ length (rises s)
unfolding size_of rises below64
rises-length s = count_kept (members s) 64

pub no-entry : (l : List ℕ) (i : ℕ) (rows spans aims : List ℕ) (n : ℕ) → nth spans n ≡ 0 → Puts l i (entry_bytes rows spans aims n) l i
unfolding entry_bytes
no-entry l i rows spans aims n e = rw (eq-eqb (nth spans n) 0 e) (puts_none l i)

module _ (rows spans aims : List ℕ) (n : ℕ) {size : ℕ} (some : nth spans n ≡ 0 → ⊥) (e : size ≡ size_of (nth aims n)) where
  -- tag, number of bytes, initiator, slot and span; then the targets
  abbrev entry_start : List ℕ
  entry_start = 4 ∷ 0 ∷ (3 + size) ∷ nth rows (n / 64) ∷ n % 64 ∷ nth spans n ∷ []

  -- at most 67 bytes, whose number has no high byte, behind the tag and the number
  entry-is : entry_bytes rows spans aims n ≡ entry_start ++ rises (nth aims n)
  unfolding entry_bytes field_for tag_for content_for
  entry-is =
      let targets = rises (nth aims n) in
      let high : suc (suc (suc (length targets))) / 256 ≡ 0 = omega (arith, rises-length (nth aims n), size-le (nth aims n)) in
      let low : suc (suc (suc (length targets))) % 256 ≡ 3 + size = omega (arith, rises-length (nth aims n), size-le (nth aims n)) in
      rw (ne_eqb (nth spans n) 0 some, high, low)

  pub entry-over : {l o : List ℕ} {i k : ℕ} → length l < i + (6 + size) → Puts l i (entry_bytes rows spans aims n) o k
  entry-over h = field-over entry_start (rises (nth aims n)) entry-is (omega (arith, rises-length (nth aims n)))

  pub entry-puts : {l o p : List ℕ} {i k m : ℕ} → Put l i entry_start o k → Put o k (rises (nth aims n)) p m → Puts l i (entry_bytes rows spans aims n) p m
  entry-puts a b = field_puts entry_start (rises (nth aims n)) entry-is a b
