-- The table of tags, row by row: what a row reads is written with the row's tag, as long as it was, and, of bytes, as it was.
use Rattle.std.specs.Prelude.{◌≡◌, refl, true, length}
use Rattle.std.proofs.Common.{sym, ap, ◌∙◌, drop_of_length-le, eqb-true}
use mathlib.Core.List.{List, [], ◌∷◌, Memᴰ}
use Rattle.std.proofs.Math.Option.{Option, none, some}
use Prim.Native.Nat.{ℕ, ◌+◌, ◌*◌, ◌/◌, ◌%◌, ◌≤◌, ◌<◌}
use native.Mathlib.Omega.{arith}
use Rattle.lists.specs.Search.{find, is_some, up_from}
use Rattle.lists.specs.laws.Bools.{some-some, none-some, is-some}
use Rattle.lists.specs.laws.Search.{find-some}
use Rattle.lists.specs.laws.Append.{spelled, every-member}
use Rattle.rules_plan.specs.Plan.{nth, four, Item, device, link, path, entry, timing, times, reply}
use Rattle.rules_plan.specs.Fields.{Tag, tags, tag_of, is_tag, item_of, length_allowed, as_device, as_link, as_path, as_entry, as_timing, as_times, as_reply, two_bytes, four_bytes, tag_for, content_for}
use Rattle.rules_plan.specs.Good.{Bytes}
use Rattle.rules_plan.specs.laws.Lengths.{allowed}

-- the row reads what is written, and what it reads is written so
record Reads (t : Tag) : Type 0 where
  tag : (c : List ℕ) → tag_for (t.reads c) ≡ t.number
  size : (c : List ℕ) → t.shortest ≤ length c → length c ≤ t.longest → length (content_for (t.reads c)) ≡ length c
  content : (c : List ℕ) → t.shortest ≤ length c → length c ≤ t.longest → Bytes c → content_for (t.reads c) ≡ c

-- two and four bytes are their number's bytes
two_back : (a b : ℕ) → b < 256 → two_bytes (a * 256 + b) ≡ a ∷ b ∷ []
unfolding two_bytes
two_back a b h =
    let e : (a * 256 + b) / 256 ≡ a = omega arith in
    let f : (a * 256 + b) % 256 ≡ b = omega arith in
    rw (e, f)

module _ (a b c d : ℕ) (ha : a < 256) (hb : b < 256) (hc : c < 256) (hd : d < 256) where
  four-back : four_bytes ((a * 256 + b) * 65_536 + (c * 256 + d)) ≡ a ∷ b ∷ c ∷ d ∷ []
  unfolding four_bytes
  four-back =
      let n : ℕ = (a * 256 + b) * 65_536 + (c * 256 + d) in
      let e : n / 16_777_216 ≡ a = omega arith in
      let f : n / 65_536 % 256 ≡ b = omega arith in
      let g : n / 256 % 256 ≡ c = omega arith in
      let h : n % 256 ≡ d = omega arith in
      rw (e, f, g, h)

-- a content of an allowed length, read and written again
as-device : (c : List ℕ) → 2 ≤ length c → length c ≤ 2 → content_for (as_device c) ≡ c
unfolding content_for as_device up_from
as-device c h k = sym (spelled c 0 2 0 (omega arith) ∙ rw (drop_of_length-le c {i = 2} k))

as-link : (c : List ℕ) → 3 ≤ length c → length c ≤ 3 → content_for (as_link c) ≡ c
unfolding content_for as_link up_from
as-link c h k = sym (spelled c 0 3 0 (omega arith) ∙ rw (drop_of_length-le c {i = 3} k))

as-path : (c : List ℕ) → 3 ≤ length c → content_for (as_path c) ≡ c
unfolding content_for as_path up_from
as-path c h = sym (spelled c 0 2 0 (omega arith))

as-entry : (c : List ℕ) → 4 ≤ length c → content_for (as_entry c) ≡ c
unfolding content_for as_entry up_from
as-entry c h = sym (spelled c 0 3 0 (omega arith))

as-timing : (c : List ℕ) → 8 ≤ length c → length c ≤ 8 → Bytes c → content_for (as_timing c) ≡ c
unfolding content_for as_timing up_from
as-timing c h k b =
    rw (four-back (nth c 0) (nth c 1) (nth c 2) (nth c 3) (b 0) (b 1) (b 2) (b 3), four-back (nth c 4) (nth c 5) (nth c 6) (nth c 7) (b 4) (b 5) (b 6) (b 7))
    (sym (spelled c 0 8 0 (omega arith) ∙ rw (drop_of_length-le c {i = 8} k)))

as-times : (c : List ℕ) → 22 ≤ length c → length c ≤ 22 → Bytes c → content_for (as_times c) ≡ c
unfolding content_for as_times up_from
as-times c h k b =
    rw (two_back (nth c 0) (nth c 1) (b 1), at-four 2, at-four 6, at-four 10, at-four 14, at-four 18)
    (sym (spelled c 0 22 0 (omega arith) ∙ rw (drop_of_length-le c {i = 22} k)))
  where
    at-four : (n : ℕ) → four_bytes (four c n) ≡ nth c n ∷ nth c (n + 1) ∷ nth c (n + 2) ∷ nth c (n + 2 + 1) ∷ []
    at-four n = four-back (nth c n) (nth c (n + 1)) (nth c (n + 2)) (nth c (n + 2 + 1)) (b n) (b (n + 1)) (b (n + 2)) (b (n + 2 + 1))

as-reply : (c : List ℕ) → 3 ≤ length c → content_for (as_reply c) ≡ c
unfolding content_for as_reply up_from
as-reply c h = sym (spelled c 0 2 0 (omega arith))

reads_all : (t : Tag) → Memᴰ t tags → Reads t
unfolding tags as_device as_link as_path as_entry as_timing as_times as_reply tag_for content_for two_bytes four_bytes
reads_all = every-member Reads tags (
  record { tag = λ c. refl; size = λ c h k. ap length (as-device c h k); content = λ c h k b. as-device c h k },
  (
    record { tag = λ c. refl; size = λ c h k. ap length (as-link c h k); content = λ c h k b. as-link c h k },
    (
      record { tag = λ c. refl; size = λ c h k. ap length (as-path c h); content = λ c h k b. as-path c h },
      (
        record { tag = λ c. refl; size = λ c h k. ap length (as-entry c h); content = λ c h k b. as-entry c h },
        (
          record { tag = λ c. refl; size = λ c h k. omega arith; content = as-timing },
          (
            record { tag = λ c. refl; size = λ c h k. omega arith; content = as-times },
            (record { tag = λ c. refl; size = λ c h k. ap length (as-reply c h); content = λ c h k b. as-reply c h }, tt),
          ),
        ),
      ),
    ),
  ),
)

-- what a tag's row reads
row-of : (n : ℕ) (t : Tag) → tag_of n ≡ some t → Reads t × (n ≡ t.number)
unfolding tag_of
row-of n t e = let (m, h) = find-some _ tags t e in (reads_all t m, eqb-true n t.number h)

-- a content that is read as item x
record ReadAs (n : ℕ) (c : List ℕ) (x : Item) : Type 0 where
  row : Tag
  is : tag_of n ≡ some row
  reads : row.reads c ≡ x

read_as : (n : ℕ) (c : List ℕ) (x : Item) → item_of n c ≡ some x → ReadAs n c x
unfolding item_of
read_as n c x h = go (tag_of n) refl
  where
    go : (o : Option Tag) → tag_of n ≡ o → ReadAs n c x
    go none e = none-some (rw (e, item_of) at h)
    go (some t) e = record { row = t; is = e; reads = some-some (rw (e, item_of) at h) }

-- a tag of the table reads every content
pub item-of : (n : ℕ) (c : List ℕ) → is_tag n ≡ true → (x : Item) × (item_of n c ≡ some x)
unfolding is_tag item_of
item-of n c h = go (is-some (tag_of n) h)
  where
    go : (t : Tag) × (tag_of n ≡ some t) → (x : Item) × (item_of n c ≡ some x)
    go (t, e) = (t.reads c, rw (e, item_of))

-- every item has a tag of the table
pub item-tag : (x : Item) → is_tag (tag_for x) ≡ true
unfolding is_tag tag_of tags find is_some tag_for
item-tag (device d) = refl
item-tag (link l) = refl
item-tag (path x) = refl
item-tag (entry e) = refl
item-tag (timing t) = refl
item-tag (times x) = refl
item-tag (reply x) = refl

-- an item that was read: its tag, the length of its content, and, of bytes, its content
module _ (n : ℕ) (c : List ℕ) (x : Item) (h : item_of n c ≡ some x) where
  pub read-tag : tag_for x ≡ n
  read-tag =
      let r = read_as n c x h in
      let (w, e) = row-of n r.row r.is in
      rw (← r.reads) (w.tag c ∙ sym e)

  pub read-size : length_allowed n (length c) ≡ true → length (content_for x) ≡ length c
  read-size l =
      let r = read_as n c x h in
      let a = allowed n (length c) r.row r.is l in
      rw (← r.reads) ((row-of n r.row r.is).0.size c a.0 a.1)

  pub read-content : length_allowed n (length c) ≡ true → Bytes c → content_for x ≡ c
  read-content l b =
      let r = read_as n c x h in
      let a = allowed n (length c) r.row r.is l in
      rw (← r.reads) ((row-of n r.row r.is).0.content c a.0 a.1 b)
