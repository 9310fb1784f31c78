-- One field of a file: an item written at an offset is read back there, and what is read there is what was written.
use Rattle.std.specs.Prelude.{◌≡◌, refl, List, ◌++◌, true, false, ℕ, suc, ◌+◌, ◌*◌, ◌/◌, ◌%◌, ◌≤◌, ◌<◌}
use Rattle.std.proofs.Common.{sym, ap, ◌∙◌, arith, length-append, length-take, length-drop, take-append-drop, get_or-take, drop-drop}
use Rattle.std.proofs.Math.Option.{some}
use Rattle.std.proofs.Math.Nat.{add-zero, add_assoc}
use Rattle.std.proofs.Math.Numerals.{add-one}
use Rattle.std.proofs.Math.Decide.{dec_lt}
use Rattle.std.proofs.Math.ListN.{length, drop, get_or-eq_default}
use Rattle.std.proofs.Math.Seq.{get_or-drop, take-append_seam, drop-append_seam}
use Rattle.lists.specs.Search.{find, up_from}
use Rattle.lists.specs.laws.Append.{spelled}
use Rattle.rules_plan.specs.Plan.{nth, Item, device, link, path, entry, timing, times, reply}
use Rattle.rules_plan.specs.Fields.{tags, tag_of, item_of, length_allowed, as_device, as_link, as_path, as_entry, as_timing, as_times, as_reply, two_bytes, four_bytes, tag_for, content_for, field_for, tag_at, size_at, content_at, next_at, item_at}
use Rattle.rules_plan.specs.Judge.{out_of_range}
use Rattle.rules_plan.specs.Good.{Bytes}
use Rattle.rules_plan.specs.laws.Ranges.{timing-range, times-ranged}
use Rattle.rules_plan.specs.laws.Tags.{read-tag, read-size, read-content}

-- a field is three bytes longer than its content
pub field-length : (x : Item) → length (field_for x) ≡ length (content_for x) + 3
unfolding field_for
field-length x = omega arith

-- an item's content is read as the item
four-read : (n : ℕ) → n < 4_294_967_296 → (n / 16_777_216 * 256 + n / 65_536 % 256) * 65_536 + (n / 256 % 256 * 256 + n % 256) ≡ n
four-read n h = omega arith

two-read : (n : ℕ) → n / 256 * 256 + n % 256 ≡ n
two-read n = omega arith

pub item-read : (x : Item) → out_of_range x ≡ false → item_of (tag_for x) (content_for x) ≡ some x
unfolding item_of tag_of tags find tag_for content_for as_device as_link as_path as_entry as_timing as_times as_reply two_bytes four_bytes
item-read (device d) h = refl
item-read (link l) h = refl
item-read (path x) h = refl
item-read (entry e) h = refl
item-read (timing t) h =
    let r = timing-range t h in
    rw (four-read t.least (omega arith), four-read t.greatest (omega arith))
item-read (times x) h =
    let r = times-ranged x h in
    rw (
      two-read x.rate,
      four-read x.a (omega (arith, r.a)),
      four-read x.d (omega (arith, r.d)),
      four-read x.f (omega (arith, r.f)),
      four-read x.g (omega (arith, r.g)),
      four-read x.slot (omega (arith, r.slot)),
    )
item-read (reply x) h = refl

-- item x stands at offset at of file s, with rest behind it. (At offset `length pre` of `pre ++ (field_for x ++ rest)` it does, by
-- `drop-append_seam`.)
module _ (s : List ℕ) (at : ℕ) (x : Item) (rest : List ℕ) (here : drop at s ≡ field_for x ++ rest) where
  at-place : (n : ℕ) → nth s (at + n) ≡ nth (field_for x ++ rest) n
  at-place n = rw (← (get_or-drop at s n 0), here)

  pub tag_back : tag_at s at ≡ tag_for x
  unfolding field_for
  tag_back = rw add-zero at (at-place 0)

  pub size_back : size_at s at ≡ length (content_for x)
  unfolding field_for
  size_back = rw (at-place 1, add_assoc, at-place 2) (omega arith)

  behind : (k : ℕ) → drop (at + k) s ≡ drop k (field_for x ++ rest)
  behind k = sym (drop-drop k at s) ∙ ap (drop k) here

  pub content-back : content_at s at ≡ content_for x
  unfolding content_at field_for
  content-back = rw (size_back, behind 3) (take-append_seam (content_for x) rest)

  pub item_back : out_of_range x ≡ false → item_at s at ≡ some x
  unfolding item_at
  item_back h = rw (tag_back, content-back) (item-read x h)

  pub next-back : next_at s at ≡ at + length (field_for x)
  next-back = rw (size_back, field-length) (omega arith)

  pub rest_back : drop (next_at s at) s ≡ rest
  rest_back = rw (next-back, behind (length (field_for x))) (drop-append_seam (field_for x) rest)

  pub room_back : next_at s at ≤ length s
  room_back = omega (arith, next-back, field-length x, simp (length-drop, length-append) at (ap length here))

-- the item x is read at offset at of file s: the content is all there, and has an allowed length
module _ (s : List ℕ) (at : ℕ) (x : Item) (room : next_at s at ≤ length s) (fits : length_allowed (tag_at s at) (size_at s at) ≡ true) (item : item_at s at ≡ some x) where
  content-length : length (content_at s at) ≡ size_at s at
  unfolding content_at
  content-length = simp (length-take, length-drop) (omega arith)

  read_here : item_of (tag_at s at) (content_at s at) ≡ some x
  unfolding item_at
  read_here = item

  fits-here : length_allowed (tag_at s at) (length (content_at s at)) ≡ true
  fits-here = rw content-length fits

  pub tag-here : tag_for x ≡ tag_at s at
  tag-here = read-tag (tag_at s at) (content_at s at) x read_here

  pub size-here : length (content_for x) ≡ size_at s at
  size-here = read-size (tag_at s at) (content_at s at) x read_here fits-here ∙ content-length

  -- of a file of bytes: the field is that of the item
  content-bytes : Bytes s → Bytes (content_at s at)
  unfolding content_at
  content-bytes b n = go (dec_lt n (size_at s at))
    where
      go : Dec (n < size_at s at) → nth (content_at s at) n < 256
      go (yes h) = rw (get_or-take (size_at s at) (drop (at + 3) s) n 0 h, get_or-drop (at + 3) s n 0) (b (at + 3 + n))
      go (no h) = rw (get_or-eq_default (content_at s at) 0 {n = n} (omega (arith, content-length))) (omega arith)

  pub field-here : Bytes s → drop at s ≡ field_for x ++ drop (next_at s at) s
  unfolding field_for content_at up_from
  field-here b =
      let one : nth s (at + 1) ≡ nth s (suc at) = rw add-one in
      let two : nth s (at + 1 + 1) ≡ nth s (suc (suc at)) = rw (add-one at, add-one (suc at)) in
      let high : length (content_for x) / 256 ≡ nth s (suc at) = omega (arith, size-here, b (suc at), b (suc (suc at))) in
      let low : length (content_for x) % 256 ≡ nth s (suc (suc at)) = omega (arith, size-here, b (suc at), b (suc (suc at))) in
      let rest : content_at s at ++ drop (next_at s at) s ≡ drop (at + 3) s = rw (← (drop-drop (size_at s at) (at + 3) s)) (take-append-drop (size_at s at) (drop (at + 3) s)) in
      spelled s 0 3 at (omega arith) ∙ rw (tag-here, high, low, read-content (tag_at s at) (content_at s at) x read_here fits-here (content-bytes b), rest)
