-- The number of a fault or of a refusal is never 0, which says that there is none.
use Rattle.std.specs.Prelude.{◌≢◌}
use Rattle.rules_plan.specs.declared.Fault.{Fault}
use Rattle.rules_plan.specs.declared.Fault.TheVariants.{FileTooLong, CutOff, UnknownTag, TagOrder, FieldLength, OutOfRange, GivenBefore, NotGiven, TooMany, NoWalk, NoPath, NoIntervals, NoEntry}
use Rattle.rules_plan.specs.declared.Refusal.{Refusal}
use Rattle.rules_plan.specs.declared.Refusal.TheVariants.{NoPlan, UpperBits, NoInitiator, UnknownKind, LengthOverMost, NotPermitted, LineFull, NothingLive, OtherTransaction, SmallBuffer, SmallRoom, SlotOverMost}
use Rattle.rules_plan.specs.Numbers.{fault_number, refusal_number}

pub some-fault : (fault : Fault) → fault_number fault ≢ 0
some-fault FileTooLong e = cc
some-fault CutOff e = cc
some-fault UnknownTag e = cc
some-fault TagOrder e = cc
some-fault FieldLength e = cc
some-fault OutOfRange e = cc
some-fault GivenBefore e = cc
some-fault NotGiven e = cc
some-fault TooMany e = cc
some-fault NoWalk e = cc
some-fault NoPath e = cc
some-fault NoIntervals e = cc
some-fault NoEntry e = cc

pub some-refusal : (refusal : Refusal) → refusal_number refusal ≢ 0
some-refusal NoPlan e = cc
some-refusal UpperBits e = cc
some-refusal NoInitiator e = cc
some-refusal UnknownKind e = cc
some-refusal LengthOverMost e = cc
some-refusal NotPermitted e = cc
some-refusal LineFull e = cc
some-refusal NothingLive e = cc
some-refusal OtherTransaction e = cc
some-refusal SmallBuffer e = cc
some-refusal SmallRoom e = cc
some-refusal SlotOverMost e = cc
