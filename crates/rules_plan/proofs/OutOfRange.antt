-- Row 6 against its sentences, kind by kind.
use mathlib.Core.Path.{◌≡◌, refl}
use mathlib.Core.Logic.{◌⊎◌, inl, inr}
use mathlib.Core.List.Memᴰ
use mathlib.Core.List.{List, [], ◌∷◌, Memᴰ}
use Prim.Native.Nat.{ℕ, ◌<◌}
use native.Mathlib.Omega.{arith}
use lib.Dec.{eqb}
use borrow.Author.Tests.{eqb-true, eq-eqb}
use Rattle.lists.specs.Search.{any}
use Rattle.rules_plan.specs.Plan.{Route, Times, Plan, Item, device, link, path, entry, timing, times, reply}
use Rattle.rules_plan.specs.Sheet.{over_million, times_out_of_range}
use Rattle.rules_plan.specs.Judge.{over63, route_out_of_range, out_of_range}
use Rattle.rules_plan.specs.Wrong.{ends_of, devices_of, links_of, Gives, a-path, a-reply, WrongItem, device-over, named-device-over, link-over, named-link-over, kind-over, slot-over, span-under, span-over, greatest-under, greatest-over, least-over, rate-under, rate-over, time-over, to-itself, ends-equal}
use Rattle.rules_plan.proofs.Asks.{Asks, lt-asks, eq-asks, or-asks, any-asks}

-- what the row asks of an item
abbrev Over : List ℕ → Type 0
Over xs = (n : ℕ) × Memᴰ n xs × (63 < n)

abbrev pub OutsideRoute : Route → Type 0
OutsideRoute x = (((63 < x.start) ⊎ (63 < x.end)) ⊎ Over x.links) ⊎ (x.start ≡ x.end)

abbrev pub Outside : Item → Type 0
Outside (device d) = (63 < d.num) ⊎ (1 < d.kind)
Outside (link l) = (((63 < l.num) ⊎ (63 < l.one)) ⊎ (63 < l.other)) ⊎ (l.one ≡ l.other)
Outside (path x) = OutsideRoute x
Outside (entry e) = ((((63 < e.initiator) ⊎ (63 < e.slot)) ⊎ (e.span < 1)) ⊎ (16 < e.span)) ⊎ Over e.targets
Outside (timing t) = ((t.greatest < 1) ⊎ (2_147_483_647 < t.greatest)) ⊎ (t.greatest < t.least)
Outside (times x) = ((((((x.rate < 2) ⊎ (400 < x.rate)) ⊎ (1_000_000 < x.a)) ⊎ (1_000_000 < x.d)) ⊎ (1_000_000 < x.f)) ⊎ (1_000_000 < x.g)) ⊎ (1_000_000 < x.slot)
Outside (reply x) = OutsideRoute x

over-asks : (n : ℕ) → Asks (over63 n) (63 < n)
unfolding over63
over-asks n = lt-asks 63 n

million-asks : (n : ℕ) → Asks (over_million n) (1_000_000 < n)
unfolding over_million
million-asks n = lt-asks 1_000_000 n

overs-asks : (xs : List ℕ) → Asks (any over63 xs) (Over xs)
overs-asks xs = any-asks over63 _ over-asks xs

none-asks : (n : ℕ) → Asks (eqb n 0) (n < 1)
none-asks n = (λ h. omega (arith, eqb-true n 0 h), λ h. eq-eqb n 0 (omega arith))

route-asks : (x : Route) → Asks (route_out_of_range x) (OutsideRoute x)
route-asks x = or-asks (or-asks (or-asks (over-asks x.start) (over-asks x.end)) (overs-asks x.links)) (eq-asks x.start x.end)

pub range-asks : (x : Item) → Asks (out_of_range x) (Outside x)
unfolding out_of_range times_out_of_range
range-asks (device d) = or-asks (over-asks d.num) (lt-asks 1 d.kind)
range-asks (link l) = or-asks (or-asks (or-asks (over-asks l.num) (over-asks l.one)) (over-asks l.other)) (eq-asks l.one l.other)
range-asks (path x) = route-asks x
range-asks (entry e) = or-asks (or-asks (or-asks (or-asks (over-asks e.initiator) (over-asks e.slot)) (none-asks e.span)) (lt-asks 16 e.span)) (overs-asks e.targets)
range-asks (timing t) = or-asks (or-asks (none-asks t.greatest) (lt-asks 2_147_483_647 t.greatest)) (lt-asks t.greatest t.least)
range-asks (times x) =
    or-asks (or-asks (or-asks (or-asks (or-asks (or-asks (lt-asks x.rate 2) (lt-asks 400 x.rate)) (million-asks x.a)) (million-asks x.d)) (million-asks x.f)) (million-asks x.g))
    (million-asks x.slot)
range-asks (reply x) = route-asks x

-- each of it is a sentence of the row
route-wrong : (p : Plan) {x : Route} (y : Item) → Gives x y → OutsideRoute x → WrongItem p y 6
unfolding devices_of ends_of links_of
route-wrong p (device _) g (inl _) = elim g [ ]
route-wrong p (link _) g (inl _) = elim g [ ]
route-wrong p (entry _) g (inl _) = elim g [ ]
route-wrong p (timing _) g (inl _) = elim g [ ]
route-wrong p (times _) g (inl _) = elim g [ ]
route-wrong p (path x) a-path (inl (inl (inl h))) = named-device-over (Memᴰ.head refl) h
route-wrong p (path x) a-path (inl (inl (inr h))) = named-device-over (Memᴰ.tail (Memᴰ.head refl)) h
route-wrong p (path x) a-path (inl (inr (n, m, h))) = named-link-over m h
route-wrong p (reply x) a-reply (inl (inl (inl h))) = named-device-over (Memᴰ.head refl) h
route-wrong p (reply x) a-reply (inl (inl (inr h))) = named-device-over (Memᴰ.tail (Memᴰ.head refl)) h
route-wrong p (reply x) a-reply (inl (inr (n, m, h))) = named-link-over m h
route-wrong p y g (inr h) = ends-equal g h

pub outside-wrong : (p : Plan) (x : Item) → Outside x → WrongItem p x 6
unfolding devices_of ends_of links_of
outside-wrong p (device d) (inl h) = device-over h
outside-wrong p (device d) (inr h) = kind-over h
outside-wrong p (link l) (inl (inl (inl h))) = link-over h
outside-wrong p (link l) (inl (inl (inr h))) = named-device-over (Memᴰ.head refl) h
outside-wrong p (link l) (inl (inr h)) = named-device-over (Memᴰ.tail (Memᴰ.head refl)) h
outside-wrong p (link l) (inr h) = to-itself {l = l} h
outside-wrong p (path x) h = route-wrong p (path x) a-path h
outside-wrong p (entry e) (inl (inl (inl (inl h)))) = named-device-over (Memᴰ.head refl) h
outside-wrong p (entry e) (inl (inl (inl (inr h)))) = slot-over h
outside-wrong p (entry e) (inl (inl (inr h))) = span-under h
outside-wrong p (entry e) (inl (inr h)) = span-over h
outside-wrong p (entry e) (inr (n, m, h)) = named-device-over (Memᴰ.tail m) h
outside-wrong p (timing t) (inl (inl h)) = greatest-under h
outside-wrong p (timing t) (inl (inr h)) = greatest-over h
outside-wrong p (timing t) (inr h) = least-over h
outside-wrong p (times x) (inl (inl (inl (inl (inl (inl h)))))) = rate-under h
outside-wrong p (times x) (inl (inl (inl (inl (inl (inr h)))))) = rate-over h
outside-wrong p (times x) (inl (inl (inl (inl (inr h))))) = time-over (Memᴰ.head refl) h
outside-wrong p (times x) (inl (inl (inl (inr h)))) = time-over (Memᴰ.tail (Memᴰ.head refl)) h
outside-wrong p (times x) (inl (inl (inr h))) = time-over (Memᴰ.tail (Memᴰ.tail (Memᴰ.head refl))) h
outside-wrong p (times x) (inl (inr h)) = time-over (Memᴰ.tail (Memᴰ.tail (Memᴰ.tail (Memᴰ.head refl)))) h
outside-wrong p (times x) (inr h) = time-over (Memᴰ.tail (Memᴰ.tail (Memᴰ.tail (Memᴰ.tail (Memᴰ.head refl))))) h
outside-wrong p (reply x) h = route-wrong p (reply x) a-reply h

-- and a device or a link that an item names is asked about
end-outside : (x : Route) (n : ℕ) → Memᴰ n (x.start ∷ x.end ∷ []) → 63 < n → OutsideRoute x
end-outside x n (Memᴰ.head e) h = inl (inl (inl (rw e at h)))
end-outside x n (Memᴰ.tail (Memᴰ.head e)) h = inl (inl (inr (rw e at h)))
end-outside x n (Memᴰ.tail (Memᴰ.tail m)) h = absurd (Memᴰ.not-nil m)

pub device-outside : (x : Item) (n : ℕ) → Memᴰ n (devices_of x) → 63 < n → Outside x
unfolding devices_of ends_of
device-outside (device d) n m h = absurd (Memᴰ.not-nil m)
device-outside (link l) n (Memᴰ.head e) h = inl (inl (inr (rw e at h)))
device-outside (link l) n (Memᴰ.tail (Memᴰ.head e)) h = inl (inr (rw e at h))
device-outside (link l) n (Memᴰ.tail (Memᴰ.tail m)) h = absurd (Memᴰ.not-nil m)
device-outside (path x) n m h = end-outside x n m h
device-outside (entry e) n (Memᴰ.head g) h = inl (inl (inl (inl (rw g at h))))
device-outside (entry e) n (Memᴰ.tail m) h = inr (n, m, h)
device-outside (timing t) n m h = absurd (Memᴰ.not-nil m)
device-outside (times x) n m h = absurd (Memᴰ.not-nil m)
device-outside (reply x) n m h = end-outside x n m h

pub link-outside : (x : Item) (n : ℕ) → Memᴰ n (links_of x) → 63 < n → Outside x
unfolding links_of
link-outside (device d) n m h = absurd (Memᴰ.not-nil m)
link-outside (link l) n m h = absurd (Memᴰ.not-nil m)
link-outside (path x) n m h = inl (inr (n, m, h))
link-outside (entry e) n m h = absurd (Memᴰ.not-nil m)
link-outside (timing t) n m h = absurd (Memᴰ.not-nil m)
link-outside (times x) n m h = absurd (Memᴰ.not-nil m)
link-outside (reply x) n m h = inl (inr (n, m, h))

pub time-outside : (x : Times) (n : ℕ) → Memᴰ n (x.a ∷ x.d ∷ x.f ∷ x.g ∷ x.slot ∷ []) → 1_000_000 < n → Outside (times x)
time-outside x n (Memᴰ.head e) h = inl (inl (inl (inl (inr (rw e at h)))))
time-outside x n (Memᴰ.tail (Memᴰ.head e)) h = inl (inl (inl (inr (rw e at h))))
time-outside x n (Memᴰ.tail (Memᴰ.tail (Memᴰ.head e))) h = inl (inl (inr (rw e at h)))
time-outside x n (Memᴰ.tail (Memᴰ.tail (Memᴰ.tail (Memᴰ.head e)))) h = inl (inr (rw e at h))
time-outside x n (Memᴰ.tail (Memᴰ.tail (Memᴰ.tail (Memᴰ.tail (Memᴰ.head e))))) h = inr (rw e at h)
time-outside x n (Memᴰ.tail (Memᴰ.tail (Memᴰ.tail (Memᴰ.tail (Memᴰ.tail m))))) h = absurd (Memᴰ.not-nil m)
