-- "Samples on either side": those marked (P), as rows of a single list. That every row shows what the definitions give is one theorem.
use Rattle.std.specs.Prelude.{ℕ, ◌≡◌}
use Prim.Native.String.{String}
use mathlib.Core.List.{List, [], ◌∷◌, ◌++◌, map, flat_map}
use Rattle.rules_plan.specs.Plan.{Times, Item, device, link, path, entry, timing, times, reply}
use Rattle.rules_plan.specs.Fields.{field_for}
use Rattle.rules_plan.specs.Sheet.{sheet_answer, Sheet, NoSheet, Terms}
use Rattle.rules_plan.specs.Next.{Next, NoTurn, Turn, next_answer}
use Rattle.rules_plan.specs.Judge.{judge}
use Rattle.rules_plan.specs.Print.{text, line}
use Rattle.rules_box.specs.declared.Event.{Event}
use Rattle.rules_box.specs.declared.Event.TheVariants.{TimeCode, Request, Reply}
use Rattle.rules_box.specs.Answer.{Answer, Refused, Recorded, Joined}
use Rattle.rules_box.specs.declared.Watchdog.{Watchdog}
use Rattle.rules_box.specs.State.{Box, loaded, watchdog_loaded}
use Rattle.rules_box.specs.Records.{record_bytes}
use Rattle.rules_box.specs.Step.{step, clock_of}

unfoldable pub node : ℕ → Item
node n = device (record { num = n; kind = 0 })

unfoldable pub router : ℕ → Item
router n = device (record { num = n; kind = 1 })

unfoldable pub joins : ℕ → ℕ → ℕ → Item
joins n a b = link (record { num = n; one = a; other = b })

unfoldable pub route : ℕ → ℕ → List ℕ → Item
route i t ls = path (record { start = i; end = t; links = ls })

-- a reply of initiator i from target t
unfoldable pub home : ℕ → ℕ → List ℕ → Item
home i t ls = reply (record { start = t; end = i; links = ls })

unfoldable pub at : ℕ → ℕ → ℕ → List ℕ → Item
at i s n ts = entry (record { initiator = i; slot = s; span = n; targets = ts })

-- "Plan A: nodes 1, 2, 3, 4; routers 10, 11; links 0: 1-10, 1: 2-11, 2: 10-3, 3: 11-4, 4: 10-11; paths 1→3: 0,2; 1→4: 0,4,3;
-- 2→4: 1,3; 2→3: 1,4,2; intervals 90, 110. Entries vary."
unfoldable pub plan_a : List Item → List ℕ
plan_a entries =
    flat_map field_for
    (node 1 ∷ node 2 ∷ node 3 ∷ node 4 ∷ router 10 ∷ router 11
    ∷ joins 0 1 10 ∷ joins 1 2 11 ∷ joins 2 10 3 ∷ joins 3 11 4 ∷ joins 4 10 11
    ∷ route 1 3 (0 ∷ 2 ∷ []) ∷ route 1 4 (0 ∷ 4 ∷ 3 ∷ []) ∷ route 2 4 (1 ∷ 3 ∷ []) ∷ route 2 3 (1 ∷ 4 ∷ 2 ∷ [])
    ∷ entries
    ++ timing (record { least = 90; greatest = 110 }) ∷ [])

unfoldable pub first_plan : List ℕ
first_plan = plan_a (at 1 0 1 (3 ∷ []) ∷ at 2 0 1 (4 ∷ []) ∷ [])

-- "Bytes 05 00 08 00 00 00 5A 00 00 00 6E"
unfoldable pub only_timing : List ℕ
only_timing = 0x05 ∷ 0x00 ∷ 0x08 ∷ 0x00 ∷ 0x00 ∷ 0x00 ∷ 0x5A ∷ 0x00 ∷ 0x00 ∷ 0x00 ∷ 0x6E ∷ []

-- T-01: "With R 4, D 256, S 200 and 5,000 each"
unfoldable pub five_thousand_each : ℕ → Times
five_thousand_each slot = record { rate = 200; a = 5_000; d = 5_000; f = 5_000; g = 5_000; slot = slot }

-- a path over four routers and a link that leads straight back, and an entry of span 1, in a plan that carries these times with a slot length
unfoldable pub over_four : ℕ → List ℕ
over_four slot =
    flat_map field_for
    (node 1 ∷ node 2 ∷ router 10 ∷ router 11 ∷ router 12 ∷ router 13
    ∷ joins 0 1 10 ∷ joins 1 10 11 ∷ joins 2 11 12 ∷ joins 3 12 13 ∷ joins 4 13 2 ∷ joins 5 1 2
    ∷ route 1 2 (0 ∷ 1 ∷ 2 ∷ 3 ∷ 4 ∷ [])
    ∷ at 1 0 1 (2 ∷ [])
    ∷ timing (record { least = 90; greatest = 110 })
    ∷ times (five_thousand_each slot)
    ∷ [])

-- two initiators and one target, each with its path, which share no link; and replies
unfoldable pub two_ways : List Item → List ℕ
two_ways replies =
    flat_map field_for
    (node 1 ∷ node 2 ∷ node 3 ∷ router 10 ∷ router 11
    ∷ joins 0 1 10 ∷ joins 1 2 11 ∷ joins 2 10 3 ∷ joins 3 11 3 ∷ joins 4 10 11
    ∷ route 1 3 (0 ∷ 2 ∷ []) ∷ route 2 3 (1 ∷ 3 ∷ [])
    ∷ at 1 0 1 (3 ∷ []) ∷ at 2 0 1 (3 ∷ [])
    ∷ timing (record { least = 90; greatest = 110 })
    ∷ replies)

-- what is done: a file is judged; a file is loaded and events follow, each with room for 17 records; the sheet is asked for; or a file is loaded
-- and the next turn asked for
pub data Given : Type 0 where
  judged : List ℕ → Given
  fed : List ℕ → List Event → Given
  asked : Times → (out home n : ℕ) → Given
  awaited : List ℕ → (i t n s : ℕ) → Given

-- what is shown: the whole output; the answer of each event and the bytes of its records; the sheet; or the next turn
pub record Seen : Type 0 where
  pub answer : Answer
  pub bytes : List ℕ

pub data Shown : Type 0 where
  output : List ℕ → Shown
  answers : List Seen → Shown
  terms : Sheet → Shown
  turn : Next → Shown

unfoldable pub seen : Box → Watchdog → List Event → List Seen
seen b w [] = []
seen b w (e ∷ es) =
    let o = step 136 b w e in
    record { answer = o.answer; bytes = flat_map (record_bytes (clock_of e)) o.records } ∷ seen o.box o.watchdog es

unfoldable pub outcome : Given → Shown
outcome (judged s) = output (line (judge s))
outcome (fed s es) = answers (seen (loaded s) (watchdog_loaded s) es)
outcome (asked x out home n) = terms (sheet_answer x out home n)
outcome (awaited file i t n s) = turn (next_answer (loaded file).plan i t n s)

pub record Sample : Type 0 where
  pub given : Given
  pub shown : Shown

unfoldable pub row : List ℕ → String → Sample
row s words = record { given = judged s; shown = output (text words) }

-- one request of initiator 1 to target 2 after another, and what each answers
unfoldable pub requests : List ℕ → List ℕ → List Answer → Sample
requests s lengths given = record {
  given = fed s (map (λ (n : ℕ). Request 1 2 0 n) lengths);
  shown = answers (map (λ (a : Answer). record { answer = a; bytes = [] }) given);
}

-- the next turn of initiator i with n bytes to target t, asked from a slot
unfoldable pub next : List ℕ → (i t n s : ℕ) → Next → Sample
next file i t n s answer = record { given = awaited file i t n s; shown = turn answer }

unfoldable pub samples : List Sample
samples =
    -- "1 at slot 0 span 1 {3}; 2 at 0 span 1 {4}"; "The same with {3,4} for 1"
    row first_plan "ACCEPTED 6 5 4 2\n"
    ∷ row (plan_a (at 1 0 1 (3 ∷ 4 ∷ []) ∷ at 2 0 1 (4 ∷ []) ∷ [])) "REFUSED 14 0 1 2 3\n"
    -- "1 at 63 span 2 {3}; 2 at 0 span 1 {3}"; "With span 1"
    ∷ row (plan_a (at 1 63 2 (3 ∷ []) ∷ at 2 0 1 (3 ∷ []) ∷ [])) "REFUSED 14 0 1 2 2\n"
    ∷ row (plan_a (at 1 63 1 (3 ∷ []) ∷ at 2 0 1 (3 ∷ []) ∷ [])) "ACCEPTED 6 5 4 2\n"
    -- "1 at 63 span 2 {3}; 1 at 0 span 1 {3}"
    ∷ row (plan_a (at 1 63 2 (3 ∷ []) ∷ at 1 0 1 (3 ∷ []) ∷ [])) "REFUSED 13 1 63\n"
    -- "Empty file"; the field 05 alone (T-02: "The sample `ACCEPTED 0 0 0 0` becomes a refusal"), and twice; "Bytes 06 00 00"
    ∷ row [] "REFUSED 12 0\n"
    ∷ row only_timing "REFUSED 15 11\n"
    ∷ row (only_timing ++ only_timing) "REFUSED 4 11\n"
    ∷ row (0x06 ∷ 0x00 ∷ 0x00 ∷ []) "REFUSED 5 0\n"
    -- "First plan: request 1→3, read, 100 gets number 0; time-code 0 at 1000 …; no reply, time-code 1 at 1100 … A reply now: 27."
    ∷ record {
      given = fed first_plan (Request 1 3 0 100 ∷ TimeCode 0 1000 ∷ TimeCode 1 1100 ∷ Reply 1 0 0 ∷ []);
      shown =
          answers
          (record { answer = Joined 0; bytes = [] }
          ∷ record { answer = Recorded 1; bytes = 0x05 ∷ 0x01 ∷ 0x03 ∷ 0x00 ∷ 0x00 ∷ 0x00 ∷ 0x00 ∷ 0x64 ∷ [] }
          ∷ record { answer = Recorded 1; bytes = 0x04 ∷ 0x01 ∷ 0x03 ∷ 0x01 ∷ 0x00 ∷ 0x00 ∷ 0x00 ∷ 0x64 ∷ [] }
          ∷ record { answer = Refused 27; bytes = [] }
          ∷ []);
    }
    -- "Clock 4294967290, then 94: elapsed 100, neither early nor late."
    ∷ record {
      given = fed first_plan (TimeCode 0 4_294_967_290 ∷ TimeCode 1 94 ∷ []);
      shown = answers (record { answer = Recorded 0; bytes = [] } ∷ record { answer = Recorded 0; bytes = [] } ∷ []);
    }
    -- T-01: "the sum is 39,450", and no sheet of 8 routers
    ∷ record { given = asked (five_thousand_each 0) 4 4 256; shown = terms (Terms 39_450 2_400 1_200 12_850 2_400 600) }
    ∷ record { given = asked (five_thousand_each 0) 8 4 256; shown = terms (NoSheet 6) }
    -- "the largest length … whose time fits": slots of 39,450 permit 256, of 39,449 only 255; of 26,650 only 0, and of 26,649 "not even length 0"
    ∷ requests (over_four 39_450) (256 ∷ 257 ∷ []) (Joined 0 ∷ Refused 25 ∷ [])
    ∷ requests (over_four 39_449) (255 ∷ 256 ∷ []) (Joined 0 ∷ Refused 25 ∷ [])
    ∷ requests (over_four 26_650) (0 ∷ 1 ∷ []) (Joined 0 ∷ Refused 25 ∷ [])
    ∷ requests (over_four 26_649) (0 ∷ []) (Refused 25 ∷ [])
    -- T-02: "A plan with no entry must not be accepted"; one that permits nothing is an entry
    ∷ row (plan_a []) "REFUSED 15 101\n"
    ∷ row (over_four 26_649) "ACCEPTED 6 6 1 1\n"
    -- T-03: without a reply; "links walked from target back to initiator", the command's own, and from the initiator; no path; given before
    ∷ row (two_ways []) "ACCEPTED 5 5 2 2\n"
    ∷ row (two_ways (home 1 3 (2 ∷ 0 ∷ []) ∷ [])) "ACCEPTED 5 5 2 2\n"
    ∷ row (two_ways (home 1 3 (0 ∷ 2 ∷ []) ∷ [])) "REFUSED 10 94\n"
    ∷ row (two_ways (home 2 1 (0 ∷ 4 ∷ 1 ∷ []) ∷ [])) "REFUSED 11 94\n"
    ∷ row (two_ways (home 1 3 (2 ∷ 0 ∷ []) ∷ home 1 3 (2 ∷ 0 ∷ []) ∷ [])) "REFUSED 7 101\n"
    -- "A transaction uses both sets of links": 1's reply on 2's way out; and 2's reply on 1's way out, the least link of the three that they share
    ∷ row (two_ways (home 1 3 (3 ∷ 4 ∷ 0 ∷ []) ∷ [])) "REFUSED 14 0 1 2 3\n"
    ∷ row (two_ways (home 1 3 (3 ∷ 4 ∷ 0 ∷ []) ∷ home 2 3 (2 ∷ 4 ∷ 1 ∷ []) ∷ [])) "REFUSED 14 0 1 2 2\n"
    -- "T-01 takes R of each way for its own terms (P by the reply's R)": four routers out and none home, and the other way round
    ∷ record { given = asked (five_thousand_each 0) 4 0 256; shown = terms (Terms 36_650 2_400 1_000 12_850 0 400) }
    ∷ record { given = asked (five_thousand_each 0) 0 4 256; shown = terms (Terms 36_850 0 1_000 12_850 2_400 600) }
    ∷ record { given = asked (five_thousand_each 0) 4 8 256; shown = terms (NoSheet 6) }
    ∷ requests (over_four 36_650 ++ field_for (home 1 2 (5 ∷ []))) (256 ∷ 257 ∷ []) (Joined 0 ∷ Refused 25 ∷ [])
    -- T-04: "counted 1 to 64: 1 is the slot after a given one, 64 that slot again"; initiator 1 has its entry at slot 0
    ∷ next first_plan 1 3 256 63 (Turn 1)
    ∷ next first_plan 1 3 256 0 (Turn 64)
    ∷ next first_plan 1 3 0 1 (Turn 63)
    -- an entry stands at 63 and covers slot 0 too, where nothing starts
    ∷ next (plan_a (at 1 63 2 (3 ∷ []) ∷ [])) 1 3 512 62 (Turn 1)
    ∷ next (plan_a (at 1 63 2 (3 ∷ []) ∷ [])) 1 3 512 63 (Turn 64)
    -- "Refusals: 20, 22, 24, 25 as for a request; a slot over 63 is 33, after 25"
    ∷ next [] 1 3 256 64 (NoTurn 20)
    ∷ next first_plan 3 1 4_097 64 (NoTurn 22)
    ∷ next first_plan 1 3 4_097 64 (NoTurn 24)
    ∷ next first_plan 1 3 257 64 (NoTurn 25)
    ∷ next first_plan 1 4 256 0 (NoTurn 25)
    ∷ next first_plan 1 3 256 64 (NoTurn 33)
    ∷ []

-- every row shows what the definitions give
unfoldable pub Samples : Type 0
Samples = map (λ (s : Sample). outcome s.given) samples ≡ map (λ (s : Sample). s.shown) samples
