-- No two live transactions share a link: each is at work in the present slot, where a sound plan has no clash. Nor between the records
-- of one time-code.
use mathlib.Core.Path.{◌≡◌, refl, sym, ap, ◌∙◌}
use mathlib.Core.Logic.{◌≢◌}
use mathlib.Core.Option.{Option, some}
use mathlib.Core.Bool.{true}
use Prim.Native.Nat.{ℕ, ◌+◌, ◌%◌}
use native.Mathlib.Omega.{arith}
use lib.Dec.{ltb}
use Rattle.lists.specs.laws.Bools.{cond_cases, some-some}
use Rattle.rules_plan.specs.Plan.{Plan}
use Rattle.rules_plan.specs.Meaning.{may_use}
use Rattle.rules_plan.specs.laws.Sound.{Sound}
use Rattle.rules_box.specs.State.{Box, Side, Live, the_plan}
use Rattle.rules_box.specs.Turn.{value_of, in_sequence, older, aged, turned}
use Rattle.rules_box.specs.Promises.{runs, Apart, LinksNeverShared, while_late, while_starting, NotEvenBetweenRecords}
use Rattle.rules_plan.specs.Promises.{AcceptedIsSound}
use Rattle.rules_plan.specs.laws.Runs.{may-use}
use Rattle.rules_box.specs.laws.Turns.{outlives}
use Rattle.rules_box.specs.laws.Invariant.{AtWork, AllAtWork, Inv, older-at-work, turned-at-work, reached-inv}

module _ (p : Plan) (ok : Sound p) where
  -- a live transaction's links are among those that its initiator may use in the present slot
  may-use-now : (last : Option ℕ) (byte i l : ℕ) (x : Live) → last ≡ some byte → AtWork p last i x → runs p i x l ≡ true → may_use p p.entries (value_of byte) i l ≡ true
  unfolding runs
  may-use-now last byte i l x seen k u =
      let same : value_of byte ≡ (k.entry.slot + x.age) % 64 = ap value_of (some-some (sym seen ∙ k.seen)) ∙ k.now in
      rw (same, ← k.own) (may-use p ok k.entry k.has x.request.target l x.age k.aims (rw k.own u) k.young)

  pub two-apart : (last : Option ℕ) (i j l : ℕ) (x y : Live) → i ≢ j → AtWork p last i x → AtWork p last j y → runs p i x l ≡ true → runs p j y l ≡ true → ⊥
  unfolding value_of
  two-apart last i j l x y ij k m ux uy =
      ok.no-clash (value_of k.byte) i j l (omega arith) ij (may-use-now last k.byte i l x k.seen k ux) (may-use-now last k.byte j l y k.seen m uy)

  at-work-apart : (last : Option ℕ) (side : ℕ → Side) → AllAtWork p last side → Apart p side
  unfolding Apart
  at-work-apart last side all i j x y l ij hx hy ux uy = two-apart last i j l x y ij (all i x hx) (all j y hy) ux uy

pub links-never-shared : AcceptedIsSound → LinksNeverShared
unfolding LinksNeverShared
links-never-shared ok b r = let inv = reached-inv ok b r in at-work-apart (the_plan b) inv.sound b.last b.side inv.live

module _ (b : Box) (byte k : ℕ) where
  -- while lateness is reported, what is live was live before with the same request
  late-live : (i : ℕ) (l : Live) → (while_late b byte k i).live ≡ some l → (m : Live) × ((b.side i).live ≡ some m) × (l.request ≡ m.request)
  unfolding while_late aged older
  late-live i l h =
      let q = in_sequence b.last byte in
      let s = b.side i in
      cond_cases (λ (z : Side). z.live ≡ some l → (m : Live) × (s.live ≡ some m) × (l.request ≡ m.request)) (ltb i k) (aged q s) s
      (λ _ g. let o = outlives q s.live l g in (o.was, o.before, ap (λ (z : Live). z.request) o.is)) (λ _ g. (l, g, refl)) h

  late-apart : (p : Plan) → Apart p b.side → Apart p (while_late b byte k)
  unfolding Apart runs
  late-apart p before i j x y l ij hx hy ux uy =
      let (m, hm, em) = late-live i x hx in
      let (n, hn, en) = late-live j y hy in
      before i j m n l ij hm hn (rw em at ux) (rw en at uy)

  -- while requests start, what is live is at work in the new slot
  starting-at-work : Inv b → AllAtWork (the_plan b) (some byte) (while_starting b byte k)
  unfolding while_starting aged
  starting-at-work inv i l h =
      let p = the_plan b in
      let q = in_sequence b.last byte in
      let s = b.side i in
      cond_cases (λ (z : Side). z.live ≡ some l → AtWork p (some byte) i l) (ltb i k) (turned p q byte i s) (aged q s)
      (λ _ g. turned-at-work p b.last byte i inv.sound s l (inv.live i) g)
      (λ _ g. older-at-work p b.last byte i s.live l (inv.live i) (outlives q s.live l g)) h

pub not-even-between : AcceptedIsSound → NotEvenBetweenRecords
unfolding NotEvenBetweenRecords LinksNeverShared
not-even-between ok b r byte k =
    let p = the_plan b in
    let inv = reached-inv ok b r in
    (late-apart b byte k p (links-never-shared ok b r), at-work-apart p inv.sound (some byte) (while_starting b byte k) (starting-at-work b byte k inv))
