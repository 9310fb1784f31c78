-- What a plan means. Each notion that a later change redefines stands behind one name:
-- uses, home_of, fits_in, permits, covers, may_use; entries are an argument where a later change picks some of them.
use Rattle.std.specs.Prelude.{ℕ, ◌+◌, ◌-◌, ◌*◌, ◌%◌, List, [], ◌∷◌, Bool, false, not, ◌&&◌, ◌||◌, cond, length, ltb, leb, eqb}
use Rattle.std.proofs.Math.Option.{Option, none, some, get_or}
use Rattle.lists.specs.Search.{any, keep, find, is_in, below64}
use Rattle.lists.specs.Numbers.{first_from}
use Rattle.rules_plan.specs.Plan.{Device, Link, Route, Entry, Timing, Times, Plan}
use Rattle.rules_plan.specs.Sheet.{sheet}

unfoldable pub is_device : Plan → ℕ → Bool
is_device p n = any (λ (d : Device). eqb n d.num) p.devices

-- "kind (0 node, 1 router)"
unfoldable pub has_kind : Plan → ℕ → ℕ → Bool
has_kind p kind n = any (λ (d : Device). eqb n d.num && eqb kind d.kind) p.devices

unfoldable pub is_node : Plan → ℕ → Bool
is_node p n = has_kind p 0 n

unfoldable pub is_router : Plan → ℕ → Bool
is_router p n = has_kind p 1 n

unfoldable pub is_link : Plan → ℕ → Bool
is_link p n = any (λ (l : Link). eqb n l.num) p.links

-- "An initiator is a device that stands first in some path."
unfoldable pub is_initiator : Plan → ℕ → Bool
is_initiator p i = any (λ (x : Route). eqb i x.start) p.paths

unfoldable pub initiators : Plan → List ℕ
initiators p = keep (is_initiator p) below64

-- a route leads from device a to device b; one of the routes xs does
unfoldable pub leads_from : ℕ → ℕ → Route → Bool
leads_from a b x = eqb a x.start && eqb b x.end

abbrev pub has_route : List Route → ℕ → ℕ → Bool
has_route xs a b = any (leads_from a b) xs

unfoldable pub has_path : Plan → ℕ → ℕ → Bool
has_path p i t = has_route p.paths i t

-- "A path is a walk: its first link touches the initiator, each link leads on from the device reached":
-- the device that link l leads to from device d
unfoldable pub across : Link → ℕ → Option ℕ
across l d = cond (eqb d l.one) (some l.other) (cond (eqb d l.other) (some l.one) none)

unfoldable pub leads : Plan → ℕ → ℕ → Option ℕ
leads p n d = elim (find (λ (l : Link). eqb n l.num) p.links) [ none ↦ none | some l ↦ across l d ]

-- "the last reaches the target, every device between is a router, and no device is met twice": the walk from device d over the
-- links to the end, with the devices met so far
unfoldable pub walks : Plan → List ℕ → ℕ → List ℕ → ℕ → Bool
walks p met d [] end = eqb d end
walks p met d (l ∷ ls) end =
    elim (leads p l d) [
      | none ↦ false
      | some e ↦ not (is_in e met) && (eqb e end || is_router p e) && walks p (e ∷ met) e ls end
    ]

unfoldable pub is_walk : Plan → ℕ → List ℕ → ℕ → Bool
is_walk p start ls end = walks p (start ∷ []) start ls end

-- one of the routes xs leads from device a to device b, and over link l
abbrev pub goes_over : List Route → ℕ → ℕ → ℕ → Bool
goes_over xs a b l = any (λ (x : Route). leads_from a b x && is_in l x.links) xs

-- "A transaction uses the links of its path. The reply goes back over the same links. A link counts whole, both directions."
-- T-03: "A transaction uses both sets of links", those of its path and, where its reply has a way of its own, those of that.
unfoldable pub uses : Plan → ℕ → ℕ → ℕ → Bool
uses p i t l = goes_over p.paths i t l || goes_over p.replies t i l

-- T-03: the way that the reply of route r comes home, of the ways ys: "from target back to initiator. Without one, the old rule stands"
unfoldable pub home_of : List Route → Route → Route
home_of ys r = get_or (find (leads_from r.end r.start) ys) r

-- "Entry (initiator, slot s, span n) covers slots s to s+n-1, modulo 64."
unfoldable pub covers : Entry → ℕ → Bool
covers e s = ltb ((s + 64 - e.slot) % 64) e.span

-- "R routers (links less one)"
unfoldable pub routers : Route → ℕ
routers r = length r.links - 1

-- a transaction with n data bytes over route r, whose reply comes over route h, takes at most so long: "T-01 takes R of each way for its own terms"
unfoldable pub takes_at_most : Times → ℕ → ℕ → (r h : Route) → Bool
takes_at_most x n most r h = leb (sheet x (routers r) (routers h) n) most

-- a transaction of initiator i with n data bytes to target t is within the time of k slots: "with 256 × span at least the length", and with
-- a 06 "256 × span gives way to the largest length, up to 4,096, whose time fits span × slot length on that path"
unfoldable pub fits_in : Plan → ℕ → ℕ → ℕ → ℕ → Bool
fits_in p i t n k =
    elim p.times [
      | [] ↦ leb n (256 * k)
      | x ∷ xs ↦ leb n 4_096 && any (λ (r : Route). leads_from i t r && takes_at_most x n (k * x.slot) r (home_of p.replies r)) p.paths
    ]

unfoldable pub fits : Plan → Entry → ℕ → ℕ → Bool
fits p e t n = fits_in p e.initiator t n e.span

-- the least span that it fits, 17 where it fits none: a longer span never permits less (laws/Spans)
unfoldable pub least_span : Plan → ℕ → ℕ → ℕ → ℕ
least_span p i t n = first_from 16 1 (fits_in p i t n)

unfoldable pub permits : Plan → Entry → ℕ → ℕ → Bool
permits p e t n = is_in t e.targets && fits p e t n

-- some entry of initiator i, among the entries es, permits the target with the length: what refusal 25 asks
unfoldable pub may_start : Plan → List Entry → ℕ → ℕ → ℕ → Bool
may_start p es i t n = any (λ (e : Entry). eqb i e.initiator && permits p e t n) es

-- the entry of initiator i at slot v, among the entries es
unfoldable pub stands_at : ℕ → ℕ → Entry → Bool
stands_at i v e = eqb i e.initiator && eqb v e.slot

unfoldable pub entry_at : List Entry → ℕ → ℕ → Option Entry
entry_at es i v = find (stands_at i v) es

-- in slot s initiator i may use link l: an entry of i covers s and has a target whose transaction uses l
unfoldable pub reaches : Plan → ℕ → ℕ → ℕ → Entry → Bool
reaches p s i l e = eqb i e.initiator && covers e s && any (λ (t : ℕ). uses p i t l) e.targets

unfoldable pub may_use : Plan → List Entry → ℕ → ℕ → ℕ → Bool
may_use p es s i l = any (reaches p s i l) es

-- initiator i is at work in slot s: an entry of it covers s
unfoldable pub is_at_work : List Entry → ℕ → ℕ → Bool
is_at_work es s i = any (λ (e : Entry). eqb i e.initiator && covers e s) es

-- entry e covers, after its own slot, the slot of another entry of the same initiator
unfoldable pub runs_into : Entry → Entry → Bool
runs_into e f = eqb e.initiator f.initiator && not (eqb e.slot f.slot) && covers e f.slot

unfoldable pub overruns : List Entry → Entry → Bool
overruns es e = any (runs_into e) es

-- "least and greatest time-code interval", 0 where a plan has none
unfoldable pub least_of : List Timing → ℕ
least_of [] = 0
least_of (t ∷ ts) = t.least

unfoldable pub greatest_of : List Timing → ℕ
greatest_of [] = 0
greatest_of (t ∷ ts) = t.greatest

-- "the rate, latencies and slot length", all 0 where a plan carries none
unfoldable pub times_of : List Times → Times
times_of [] = record { rate = 0; a = 0; d = 0; f = 0; g = 0; slot = 0 }
times_of (x ∷ xs) = x
