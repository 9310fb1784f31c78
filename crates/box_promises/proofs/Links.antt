-- Live transactions of two rows have no link in common.
use mathlib.Core.Path.{◌≡◌, refl, sym, ap, ◌∙◌}
use mathlib.Core.Logic.{◌≢◌}
use mathlib.Core.Option.{Option, none, some, map}
use Prim.Native.Nat.{ℕ, ◌<◌}
use native.Mathlib.Decide.{dec_lt}
use native.Mathlib.Omega.{arith}
use Rattle.lists.specs.laws.Bools.{none-some, some-some}
use Rattle.rules_plan.specs.Plan.{nth}
use Rattle.rules_plan.specs.Promises.{AcceptedIsSound}
use Rattle.rules_box.specs.State.{Box, Live}
use Rattle.rules_box.specs.Promises as box
use Rattle.box_calls.specs.Calls.{Memory}
use Rattle.box_promises.specs.Words.{RowOf, live_target_in}
use Rattle.box_promises.specs.Promises.{HeldBy, Says, LinksNeverShared}
use Rattle.box_promises.proofs.Held.{held}
use Rattle.box_promises.proofs.Rows.{row-used}
use Rattle.box_promises.proofs.Says.{says}

mapped : {A B : Type 0} (f : A → B) (o : Option A) (y : B) → map f o ≡ some y → (x : A) × (o ≡ some x) × (f x ≡ y)
mapped f none y e = none-some e
mapped f (some x) y e = (x, refl, some-some e)

-- what is live in a row of memory is live in the box, of the initiator of that row
record LiveAt (m : Memory) (b : Box) (r t : ℕ) : Type 0 where
  own : RowOf m r (nth m.rows r)
  live : Live
  is : (b.side (nth m.rows r)).live ≡ some live
  target : live.request.target ≡ t

live_at : (m : Memory) (b : Box) → HeldBy m b → (r t : ℕ) → r < 8 → live_target_in m r ≡ some t → LiveAt m b r t
unfolding live_target_in
live_at m b h r t low e = go (dec_lt r (nth m.numbers 2))
  where
    s : Says m b
    s = says m b h

    go : Dec (r < nth m.numbers 2) → LiveAt m b r t
    go (yes u) =
        let own = row-used m b h r u in
        let (l, is, target) = mapped _ _ t (ap (map (λ (l : Live). l.request.target)) (sym (s.live r (nth m.rows r) own)) ∙ e) in
        record { own = own; live = l; is = is; target = target }
    go (no u) = none-some (ap (map (λ (l : Live). l.request.target)) (sym (s.unused r (omega arith) low)) ∙ e)

pub links-never-shared : AcceptedIsSound → box.LinksNeverShared → LinksNeverShared
unfolding LinksNeverShared box.LinksNeverShared box.Apart box.runs
links-never-shared ok apart m b came r r' low low' d t t' l e e' on on' =
    let h = held ok m b came in
    let s = says m b h in
    let x = live_at m b h r t low e in
    let y = live_at m b h r' t' low' e' in
    let i = nth m.rows r in
    let i' = nth m.rows r' in
    let other : i ≢ i' = λ z. d (y.own.only r x.own.low z) in
    apart b h.reached i i' x.live y.live l other x.is y.is
    (rw x.target (sym (s.path i t l) ∙ on)) (rw y.target (sym (s.path i' t' l) ∙ on'))
