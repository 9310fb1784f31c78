-- What an item has that is not out of range (row 6), kind by kind.
use Rattle.std.specs.Prelude.{◌≡◌, ◌≢◌, false, ◌||◌, ℕ, ◌≤◌, ◌<◌, ltb, eqb}
use mathlib.Core.List.{List, Memᴰ}
use Rattle.std.proofs.Common.{arith, ltb-false}
use Rattle.std.proofs.lemmas.Bool.{eqb-false}
use Rattle.lists.specs.Search.{any}
use Rattle.lists.specs.laws.Bools.{neither}
use Rattle.lists.specs.laws.Search.{any_false}
use Rattle.rules_plan.specs.Plan.{Device, Link, Route, Entry, Timing, Times, device, link, path, entry, timing, times, reply}
use Rattle.rules_plan.specs.Judge.{over63, route_out_of_range, out_of_range}
use Rattle.rules_plan.specs.laws.Sheets.{TimesRange, times-range}

abbrev pub Below64 : List ℕ → Type 0
Below64 xs = (n : ℕ) → Memᴰ n xs → n < 64

pub record DeviceRange (d : Device) : Type 0 where
  pub num : d.num < 64
  pub kind : d.kind < 2

pub record LinkRange (l : Link) : Type 0 where
  pub num : l.num < 64
  pub one : l.one < 64
  pub other : l.other < 64
  pub apart : l.one ≢ l.other

pub record RouteRange (x : Route) : Type 0 where
  pub start : x.start < 64
  pub end : x.end < 64
  pub links : Below64 x.links
  pub apart : x.start ≢ x.end

pub record EntryRange (e : Entry) : Type 0 where
  pub initiator : e.initiator < 64
  pub slot : e.slot < 64
  pub some-span : 0 < e.span
  pub span : e.span ≤ 16
  pub targets : Below64 e.targets

pub record TimingRange (t : Timing) : Type 0 where
  pub some : 0 < t.greatest
  pub greatest : t.greatest ≤ 2_147_483_647
  pub least : t.least ≤ t.greatest

small : (n : ℕ) → over63 n ≡ false → n < 64
unfolding over63
small n h = omega (arith, ltb-false 63 n h)

all_small : (xs : List ℕ) → any over63 xs ≡ false → Below64 xs
all_small xs h n m = small n (any_false over63 xs n h m)

pub device-range : (d : Device) → out_of_range (device d) ≡ false → DeviceRange d
unfolding out_of_range
device-range d h =
    let a = neither (over63 d.num) (ltb 1 d.kind) h in
    record { num = small d.num a.0; kind = omega (arith, ltb-false 1 d.kind a.1) }

pub link-range : (l : Link) → out_of_range (link l) ≡ false → LinkRange l
unfolding out_of_range
link-range l h =
    let a = neither (over63 l.num || over63 l.one || over63 l.other) (eqb l.one l.other) h in
    let b = neither (over63 l.num || over63 l.one) (over63 l.other) a.0 in
    let c = neither (over63 l.num) (over63 l.one) b.0 in
    record { num = small l.num c.0; one = small l.one c.1; other = small l.other b.1; apart = eqb-false l.one l.other a.1 }

pub in-range : (x : Route) → route_out_of_range x ≡ false → RouteRange x
in-range x h =
    let a = neither (over63 x.start || over63 x.end || any over63 x.links) (eqb x.start x.end) h in
    let b = neither (over63 x.start || over63 x.end) (any over63 x.links) a.0 in
    let c = neither (over63 x.start) (over63 x.end) b.0 in
    record {
      start = small x.start c.0;
      end = small x.end c.1;
      links = all_small x.links b.1;
      apart = eqb-false x.start x.end a.1;
    }

pub route-range : (x : Route) → out_of_range (path x) ≡ false → RouteRange x
unfolding out_of_range
route-range x h = in-range x h

pub reply-range : (x : Route) → out_of_range (reply x) ≡ false → RouteRange x
unfolding out_of_range
reply-range x h = in-range x h

pub entry-range : (e : Entry) → out_of_range (entry e) ≡ false → EntryRange e
unfolding out_of_range
entry-range e h =
    let a = neither (over63 e.initiator || over63 e.slot || eqb e.span 0 || ltb 16 e.span) (any over63 e.targets) h in
    let b = neither (over63 e.initiator || over63 e.slot || eqb e.span 0) (ltb 16 e.span) a.0 in
    let c = neither (over63 e.initiator || over63 e.slot) (eqb e.span 0) b.0 in
    let d = neither (over63 e.initiator) (over63 e.slot) c.0 in
    let z : e.span ≢ 0 = eqb-false e.span 0 c.1 in
    record {
      initiator = small e.initiator d.0;
      slot = small e.slot d.1;
      some-span = omega arith;
      span = ltb-false 16 e.span b.1;
      targets = all_small e.targets a.1;
    }

pub timing-range : (t : Timing) → out_of_range (timing t) ≡ false → TimingRange t
unfolding out_of_range
timing-range t h =
    let a = neither (eqb t.greatest 0 || ltb 2_147_483_647 t.greatest) (ltb t.greatest t.least) h in
    let b = neither (eqb t.greatest 0) (ltb 2_147_483_647 t.greatest) a.0 in
    let z : t.greatest ≢ 0 = eqb-false t.greatest 0 b.0 in
    record { some = omega arith; greatest = ltb-false 2_147_483_647 t.greatest b.1; least = ltb-false t.greatest t.least a.1 }

pub times-ranged : (x : Times) → out_of_range (times x) ≡ false → TimesRange x
unfolding out_of_range
times-ranged x h = times-range x h
