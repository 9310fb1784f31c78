-- `refuse` meets its contract. Assumes nothing.
use mathlib.Core.Path.{sym, ◌∙◌}
use Rattle.run_timecodes.proofs.sequence.Refusals.{refuses-20, refuses-21, refuses-29, refuses-none}
use Rattle.run_timecodes.proofs.sequence.refuse.Goals as goal

pub returns-then-not-is_loaded-clause-tells : goal.returns-then-not-is_loaded-clause-tells
returns-then-not-is_loaded-clause-tells c =
    let a = c.args in
    λ b t clock. refuses-20 a.room a.byte clock b (sym (c.is_loaded.ensures.value b.plan t) ∙ c.if-not-is_loaded.true)

pub returns-then-byte-ge64-clause-tells : goal.returns-then-byte-ge64-clause-tells
returns-then-byte-ge64-clause-tells c =
    let a = c.args in
    λ b t clock. refuses-21 a.room a.byte clock b (sym (c.is_loaded.ensures.value b.plan t) ∙ c.if-not-is_loaded.false) c.if-byte-ge64.true

pub returns-then-room-lt-RECORD_ROOM-clause-tells : goal.returns-then-room-lt-RECORD_ROOM-clause-tells
returns-then-room-lt-RECORD_ROOM-clause-tells c =
    let a = c.args in
    λ b t clock. refuses-29 a.room a.byte clock b (sym (c.is_loaded.ensures.value b.plan t) ∙ c.if-not-is_loaded.false) c.if-byte-ge64.false c.if-room-lt-RECORD_ROOM.true

pub returns-clause-tells : goal.returns-clause-tells
returns-clause-tells c =
    let a = c.args in
    λ b t clock. refuses-none a.room a.byte clock b (sym (c.is_loaded.ensures.value b.plan t) ∙ c.if-not-is_loaded.false) c.if-byte-ge64.false c.if-room-lt-RECORD_ROOM.false
