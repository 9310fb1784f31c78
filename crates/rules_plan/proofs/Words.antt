-- The verdict that is computed is the verdict in words.
use mathlib.Core.Path.{◌≡◌, refl}
use mathlib.Core.Logic.{◌↔◌}
use mathlib.Core.List.Memᴰ
use mathlib.Core.List.{List, Memᴰ}
use mathlib.Core.Option.{none, some}
use mathlib.Core.Bool.{Bool, true, false}
use Prim.Native.Nat.{ℕ}
use lib.ListN.{length}
use lib.Dec.{ltb}
use borrow.Author.Tests.{ltb-true, ltb-false}
use Rattle.rules_plan.specs.declared.Verdict.{Verdict}
use Rattle.rules_plan.specs.declared.Verdict.TheVariants.{Overrun, Clash}
use Rattle.rules_plan.specs.Plan.{Entry, Plan}
use Rattle.rules_plan.specs.Judge.{Reading, plan, fault, read_file, out_of_range, overrun, clash, judge}
use Rattle.rules_plan.specs.Good.{Each}
use Rattle.rules_plan.specs.Words.{Whole, LeastOverrun, LeastClash, NoOverrun, NoClash, Gets, over-long, faulty, without-timing, without-entry, overrunning, clashing, accepted}
use Rattle.rules_plan.specs.Promises.{VerdictsAsWorded, NoEntryMeetsNothing}
use Rattle.rules_plan.proofs.Reading.{file-says}
use Rattle.rules_plan.specs.laws.Ranges.{EntryRange}
use Rattle.rules_plan.specs.laws.InRange.{entry-ranged}
use Rattle.rules_plan.specs.laws.Overruns.{overrun-says, overrun-none}
use Rattle.rules_plan.specs.laws.Clashes.{clash-says, clash-none}
use Rattle.rules_plan.specs.laws.Accepted.{file-fair}
use Rattle.rules_plan.specs.laws.Verdicts.{Decided, by-12, by-15, by-13, by-14, by-none}
use Rattle.rules_plan.specs.laws.Verdicts as judged

-- what the two searches over the entries say of a whole file
module _ {s : List ℕ} {p : Plan} (w : Whole s p) where
  reads : read_file s ≡ plan p
  reads = (file-says s (plan p)).1 (record { before = w.before; read = w.read })

  ranged : Each p out_of_range false
  ranged = (file-fair s p reads).ranges

  entries : (e : Entry) → Memᴰ e p.entries → EntryRange e
  entries = entry-ranged p ranged

  overrun-as : (o : Verdict) → (overrun p.entries ≡ some o) ↔ ((i : ℕ) × (v : ℕ) × (o ≡ Overrun i v) × LeastOverrun p.entries i v)
  overrun-as = overrun-says p.entries entries

  overrun-not : (overrun p.entries ≡ none) ↔ NoOverrun p
  overrun-not = overrun-none p.entries entries

  clash-as : (o : Verdict) → (clash p p.entries ≡ some o) ↔ ((v : ℕ) × (i : ℕ) × (j : ℕ) × (l : ℕ) × (o ≡ Clash v i j l) × LeastClash p p.entries v i j l)
  clash-as = clash-says p p.entries ranged entries

  clash-not : (clash p p.entries ≡ none) ↔ NoClash p
  clash-not = clash-none p p.entries ranged entries

-- the verdict in words is computed
computed : {s : List ℕ} {v : Verdict} → Gets s v → judge s ≡ v
computed {s} (over-long h) = judged.too_long s h
computed {s} (faulty {at} {before} {n} {p} h r l f) = judged.field-faulty s h n at ((file-says s (fault n at)).1 (record { before = before; plan = p; read = r; inside = l; number = f }))
computed {s} (without-timing {p} w e) = judged.decides s w.short p (reads w) (by-12 e)
computed {s} (without-entry {p} w t e) = judged.decides s w.short p (reads w) (by-15 t e)
computed {s} (overrunning {p} {i} {v} w c o) = judged.decides s w.short p (reads w) (by-13 c ((overrun-as w _).1 (i, v, refl, o)))
computed {s} (clashing {p} {v} {i} {j} {l} w c n o) = judged.decides s w.short p (reads w) (by-14 c ((overrun-not w).1 n) ((clash-as w _).1 (v, i, j, l, refl, o)))
computed {s} (accepted {p} w c n m) = judged.decides s w.short p (reads w) (by-none c ((overrun-not w).1 n) ((clash-not w).1 m))

-- the computed verdict is got
whole-gets : (s : List ℕ) (p : Plan) → Whole s p → Gets s (judge s)
whole-gets s p w = go (judged.decided s w.short p (reads w))
  where
    go : {v : Verdict} → Decided s p v → Gets s v
    go (by-12 e) = without-timing w e
    go (by-15 t e) = without-entry w t e
    go (by-13 c {v} f) = let (i, u, d, l) = (overrun-as w v).0 f in rw d (overrunning w c l)
    go (by-14 c f {v} g) = let (u, i, j, l, d, o) = (clash-as w v).0 g in rw d (clashing w c ((overrun-not w).0 f) o)
    go (by-none c f g) = accepted w c ((overrun-not w).0 f) ((clash-not w).0 g)

gets : (s : List ℕ) → Gets s (judge s)
gets s = go (ltb 16_384 (length s)) refl (read_file s) refl
  where
    go : (x : Bool) → ltb 16_384 (length s) ≡ x → (r : Reading) → read_file s ≡ r → Gets s (judge s)
    go true e r f = let h = ltb-true 16_384 (length s) e in rw (judged.too_long s h) (over-long h)
    go false e (fault n at) f =
        let h = ltb-false 16_384 (length s) e in
        let x = (file-says s (fault n at)).0 f in
        rw (judged.field-faulty s h n at f) (faulty h x.read x.inside x.number)
    go false e (plan p) f =
        let x = (file-says s (plan p)).0 f in
        whole-gets s p (record { short = ltb-false 16_384 (length s) e; before = x.before; read = x.read })

pub no-entry-meets-nothing : NoEntryMeetsNothing
unfolding NoEntryMeetsNothing
no-entry-meets-nothing p e = (λ i v o. Memᴰ.not-nil (rw e at o.has-mine), λ v i j l c. Memᴰ.not-nil (rw e at c.has-mine))

-- For every file the verdict in words is the one that is computed.
pub verdicts-as-worded : VerdictsAsWorded
unfolding VerdictsAsWorded
verdicts-as-worded s v = (computed, λ e. rw e at (gets s))
