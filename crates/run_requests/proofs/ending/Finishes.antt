-- A reply of an initiator, on its side: nothing is live, another transaction is, or it ends the one that is.
use mathlib.Core.Path.{◌≡◌, refl, sym, ◌∙◌}
use mathlib.Core.Logic.{◌≢◌}
use mathlib.Core.List.{List}
use mathlib.Core.Option.{Option, none, some}
use mathlib.Core.Bool.{true, false}
use Prim.Native.Nat.{ℕ}
use lib.Dec.{eqb}
use borrow.Author.Tests.{eq-eqb, ne_eqb}
use Rattle.lists.specs.Search.{is_some}
use Rattle.lists.specs.laws.Bools.{not-both}
use Rattle.rules_box.specs.Answer.{Answer, Refused, Ended}
use Rattle.memory_plan.specs.View.{Owner}
use Rattle.rules_box.specs.State.{Side, Live}
use Rattle.rules_box.specs.Turn.{finish, class}
use Rattle.rules_box.specs.Refuse.{is_live_number}
use Rattle.rules_box.specs.Step.{ended_by}
use Rattle.memory_run.specs.Run.{row_of}
use Rattle.memory_run.specs.Row.{live_request}
use Rattle.run_requests.specs.Replied.{replied_answer, replied_side}
use Rattle.run_requests.specs.laws.Live.{no_number}

-- what is live, told from its request
module _ (m : ℕ) where
  number-told : (o : Option Live) → is_some o ≡ true → is_live_number m o ≡ eqb m (live_request o).number
  unfolding is_some is_live_number live_request
  number-told none h = not-both h refl
  number-told (some l) h = refl

  end-told : (o : Option Live) → is_some o ≡ true → ended_by m o ≡ Ended (live_request o).target (live_request o).length m (class m)
  unfolding is_some ended_by live_request
  end-told none h = not-both h refl
  end-told (some l) h = refl

module _ (i : Owner) (s : Side) (row : List ℕ) (m status : ℕ) where
  abbrev Replied : Answer → Type 0
  Replied r = (r ≡ replied_answer m status s) × (row ≡ row_of i (replied_side m s))

  pub nothing-live : row ≡ row_of i s → is_some s.live ≡ false → Replied (Refused 27)
  unfolding replied_answer replied_side
  nothing-live is h = (rw h, rw (no_number m s.live h) is)

  module _ (live : is_some s.live ≡ true) where
    pub another-live : row ≡ row_of i s → (live_request s.live).number ≢ m → Replied (Refused 28)
    unfolding replied_answer replied_side
    another-live is h =
        let d = number-told m s.live live ∙ ne_eqb m (live_request s.live).number (λ z. h (sym z)) in
        (rw (live, d), rw d is)

    pub finishes : (live_request s.live).number ≡ m → row ≡ row_of i (finish s)
        → (t n c : ℕ) → t ≡ (live_request s.live).target → n ≡ (live_request s.live).length → c ≡ class status → Replied (Ended t n status c)
    unfolding replied_answer replied_side
    finishes h is t n c et en ec =
        let d = number-told m s.live live ∙ eq-eqb m (live_request s.live).number (sym h) in
        (rw (live, d, end-told status s.live live, et, en, ec), rw d is)
