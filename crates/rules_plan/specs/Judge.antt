-- The verdict on a file: "Fields are judged front to back. Within a field the smaller number wins. Then 12, 13, 14 over the whole."
-- T-02: "15, after 12 and before 13". The table of verdicts stands as rows; the first row that holds decides.
use Rattle.std.specs.Prelude.{ℕ, zero, suc, ◌+◌, List, [], ◌∷◌, ◌++◌, Bool, true, false, not, ◌&&◌, ◌||◌, length, ltb, leb, eqb}
use Rattle.std.proofs.Math.Option.{Option, none, some}
use Rattle.lists.specs.Search.{any, all, when, first_some, twice, least}
use Rattle.lists.specs.Rows.{Row, first_of}
use Rattle.rules_plan.specs.declared.Verdict.{Verdict}
use Rattle.rules_plan.specs.declared.Verdict.TheVariants.{Accepted, Faulty, Overrun, Clash}
use Rattle.rules_plan.specs.Plan.{Route, Entry, Plan, blank, Item, device, link, path, entry, timing, times, reply, grow}
use Rattle.rules_plan.specs.Sheet.{times_out_of_range}
use Rattle.rules_plan.specs.Fields.{is_tag, comes_once, length_allowed, tag_at, size_at, next_at, item_at}
use Rattle.rules_plan.specs.Meaning.{is_device, is_node, is_link, is_initiator, initiators, has_route, has_path, is_walk, may_use, is_at_work, stands_at, overruns}

unfoldable pub over63 : ℕ → Bool
over63 n = ltb 63 n

-- rows 6, 8 and 10 of a route by its start, its end and its links; row 7 of it is has_route. "Refusals: 6, 7, 8, 10 as for 03"
abbrev pub route_out_of_range : Route → Bool
route_out_of_range x = over63 x.start || over63 x.end || any over63 x.links || eqb x.start x.end

abbrev pub route_not_given : Plan → Route → Bool
route_not_given p x = not (is_node p x.start && is_node p x.end && all (is_link p) x.links)

abbrev pub route_no_walk : Plan → Route → Bool
route_no_walk p x = not (is_walk p x.start x.links x.end)

-- 6: "a device, link, kind, slot, span or interval out of range; a link joining a device to itself; a path with initiator equal to target";
-- "S outside 2 to 400, or a latency or slot length over 1,000,000, is 6"
unfoldable pub out_of_range : Item → Bool
out_of_range (device d) = over63 d.num || ltb 1 d.kind
out_of_range (link l) = over63 l.num || over63 l.one || over63 l.other || eqb l.one l.other
out_of_range (path x) = route_out_of_range x
out_of_range (entry e) = over63 e.initiator || over63 e.slot || eqb e.span 0 || ltb 16 e.span || any over63 e.targets
out_of_range (timing t) = eqb t.greatest 0 || ltb 2_147_483_647 t.greatest || ltb t.greatest t.least
out_of_range (times x) = times_out_of_range x
out_of_range (reply x) = route_out_of_range x

-- 7: "a device, link, path (initiator, target) or entry (initiator, slot) given before; a target twice in one entry"
unfoldable pub given_before : Plan → Item → Bool
given_before p (device d) = is_device p d.num
given_before p (link l) = is_link p l.num
given_before p (path x) = has_path p x.start x.end
given_before p (entry e) = any (stands_at e.initiator e.slot) p.entries || twice e.targets
given_before p (timing t) = false
given_before p (times x) = false
given_before p (reply x) = has_route p.replies x.start x.end

-- 8: "a device or link not given before; a router as initiator or target"
unfoldable pub not_given : Plan → Item → Bool
not_given p (device d) = false
not_given p (link l) = not (is_device p l.one && is_device p l.other)
not_given p (path x) = route_not_given p x
not_given p (entry e) = not (is_node p e.initiator && all (is_node p) e.targets)
not_given p (timing t) = false
not_given p (times x) = false
not_given p (reply x) = route_not_given p x

-- 9: "a path that makes a ninth initiator or is the 129th"
unfoldable pub too_many : Plan → Item → Bool
too_many p (device d) = false
too_many p (link l) = false
too_many p (path x) = not (is_initiator p x.start) && leb 8 (length (initiators p)) || leb 128 (length p.paths)
too_many p (entry e) = false
too_many p (timing t) = false
too_many p (times x) = false
too_many p (reply x) = false

-- 10: "links of a path are no walk"
unfoldable pub no_walk : Plan → Item → Bool
no_walk p (device d) = false
no_walk p (link l) = false
no_walk p (path x) = route_no_walk p x
no_walk p (entry e) = false
no_walk p (timing t) = false
no_walk p (times x) = false
no_walk p (reply x) = route_no_walk p x

-- 11: "an entry's target has no path from its initiator"; T-03: "11 if no command path exists"
unfoldable pub no_path : Plan → Item → Bool
no_path p (device d) = false
no_path p (link l) = false
no_path p (path x) = false
no_path p (entry e) = not (all (has_path p e.initiator) e.targets)
no_path p (timing t) = false
no_path p (times x) = false
no_path p (reply x) = not (has_path p x.end x.start)

-- rows 6 to 11, of an item after plan p
unfoldable pub item_rows : Plan → Item → List Row
item_rows p x =
    (6, out_of_range x)
    ∷ (7, given_before p x)
    ∷ (8, not_given p x)
    ∷ (9, too_many p x)
    ∷ (10, no_walk p x)
    ∷ (11, no_path p x)
    ∷ []

-- rows 2 to 5, of the field at offset at of file s, after a field with the tag before (0 for none)
unfoldable pub head_rows : List ℕ → ℕ → ℕ → List Row
head_rows s at before =
    (2, ltb (length s) (at + 3) || ltb (length s) (next_at s at))
    ∷ (3, not (is_tag (tag_at s at)))
    ∷ (4, ltb (tag_at s at) before || eqb (tag_at s at) before && comes_once (tag_at s at))
    ∷ (5, not (length_allowed (tag_at s at) (size_at s at)))
    ∷ []

-- rows 2 to 11, of that field after the plan p
unfoldable pub field_rows : Plan → List ℕ → ℕ → ℕ → List Row
field_rows p s at before = head_rows s at before ++ elim (item_at s at) [ none ↦ [] | some x ↦ item_rows p x ]

-- the fault of that field, 0 for none
unfoldable pub field_fault : Plan → List ℕ → ℕ → ℕ → ℕ
field_fault p s at before = first_of (field_rows p s at before)

-- the plan with that field
unfoldable pub with_field : Plan → List ℕ → ℕ → Plan
with_field p s at = elim (item_at s at) [ none ↦ p | some x ↦ grow p x ]

-- the fields front to back, up to the first fault
pub data Reading : Type 0 where
  plan : Plan → Reading
  fault : (number offset : ℕ) → Reading

unfoldable pub read_from : ℕ → List ℕ → ℕ → ℕ → Plan → Reading
read_from zero s at before p = plan p
read_from (suc k) s at before p =
    elim (leb (length s) at) [
      | true ↦ plan p
      | false ↦
          let f = field_fault p s at before in
          elim (eqb f 0) [
            | true ↦ read_from k s (next_at s at) (tag_at s at) (with_field p s at)
            | false ↦ fault f at
          ]
    ]

-- (a field has three bytes at least, so there are no more fields than bytes)
unfoldable pub read_file : List ℕ → Reading
read_file s = read_from (length s) s 0 0 blank

-- a row that holds where a file has none of some items; its place is the file length
unfoldable pub missing : {A : Type 0} → ℕ → List ℕ → List A → Option Verdict
missing n s [] = some (Faulty n (length s))
missing n s (x ∷ xs) = none

-- 12: "no 05"
unfoldable pub no_timing : List ℕ → Plan → Option Verdict
no_timing s p = missing 12 s p.timings

-- 15: "A plan with no entry must not be accepted … place is the file length."
unfoldable pub no_entry : List ℕ → Plan → Option Verdict
no_entry s p = missing 15 s p.entries

-- 13: "the entry with least initiator, then least slot"
unfoldable pub overrun_at : List Entry → ℕ → ℕ → Option Verdict
overrun_at es i s = when (any (λ (e : Entry). stands_at i s e && overruns es e) es) (Overrun i s)

unfoldable pub overrun_of : List Entry → ℕ → Option Verdict
overrun_of es i = least (overrun_at es i)

unfoldable pub overrun : List Entry → Option Verdict
overrun es = least (overrun_of es)

-- 14: "least slot, then least smaller initiator, least greater initiator, least link". (That both are at work in the slot follows
-- from may_use; it is asked first only to look at few pairs.)
unfoldable pub clash_on : Plan → List Entry → ℕ → ℕ → ℕ → ℕ → Option Verdict
clash_on p es s i j l = when (may_use p es s i l && may_use p es s j l) (Clash s i j l)

unfoldable pub clash_with : Plan → List Entry → ℕ → ℕ → ℕ → Option Verdict
clash_with p es s i j = elim (ltb i j && is_at_work es s j) [ false ↦ none | true ↦ least (clash_on p es s i j) ]

unfoldable pub clash_of : Plan → List Entry → ℕ → ℕ → Option Verdict
clash_of p es s i = elim (is_at_work es s i) [ false ↦ none | true ↦ least (clash_with p es s i) ]

unfoldable pub clash_in : Plan → List Entry → ℕ → Option Verdict
clash_in p es s = least (clash_of p es s)

unfoldable pub clash : Plan → List Entry → Option Verdict
clash p es = least (clash_in p es)

-- 0: "the four counts printed below"
unfoldable pub counts : Plan → Verdict
counts p = Accepted (length p.devices) (length p.links) (length p.paths) (length p.entries)

-- "Then 12, 13, 14 over the whole"; "15, after 12 and before 13"
unfoldable pub whole_plan : List ℕ → Plan → Verdict
whole_plan s p =
    first_some
    (no_timing s p
    ∷ no_entry s p
    ∷ overrun p.entries
    ∷ clash p p.entries
    ∷ [])
    (counts p)

-- 1: "file over 16,384 bytes"; the place is zero
unfoldable pub judge : List ℕ → Verdict
judge s =
    elim (ltb 16_384 (length s)) [
      | true ↦ Faulty 1 0
      | false ↦ elim (read_file s) [
        | fault n at ↦ Faulty n at
        | plan p ↦ whole_plan s p
      ]
    ]
