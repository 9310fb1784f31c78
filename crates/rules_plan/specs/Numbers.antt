-- Document 01's numbers of the declared faults and refusals.
use Rattle.std.specs.Prelude.{ℕ, Result, Ok, Err}
use Rattle.rules_plan.specs.declared.Fault.{Fault}
use Rattle.rules_plan.specs.declared.Fault.TheVariants.{FileTooLong, CutOff, UnknownTag, TagOrder, FieldLength, OutOfRange, GivenBefore, NotGiven, TooMany, NoWalk, NoPath, NoIntervals, NoEntry}
use Rattle.rules_plan.specs.declared.Refusal.{Refusal}
use Rattle.rules_plan.specs.declared.Refusal.TheVariants.{NoPlan, UpperBits, NoInitiator, UnknownKind, LengthOverMost, NotPermitted, LineFull, NothingLive, OtherTransaction, SmallBuffer, SmallRoom, SlotOverMost}

abbrev pub fault_number : Fault → ℕ
fault_number FileTooLong = 1
fault_number CutOff = 2
fault_number UnknownTag = 3
fault_number TagOrder = 4
fault_number FieldLength = 5
fault_number OutOfRange = 6
fault_number GivenBefore = 7
fault_number NotGiven = 8
fault_number TooMany = 9
fault_number NoWalk = 10
fault_number NoPath = 11
fault_number NoIntervals = 12
fault_number NoEntry = 15

abbrev pub refusal_number : Refusal → ℕ
refusal_number NoPlan = 20
refusal_number UpperBits = 21
refusal_number NoInitiator = 22
refusal_number UnknownKind = 23
refusal_number LengthOverMost = 24
refusal_number NotPermitted = 25
refusal_number LineFull = 26
refusal_number NothingLive = 27
refusal_number OtherTransaction = 28
refusal_number SmallBuffer = 29
refusal_number SmallRoom = 30
refusal_number SlotOverMost = 33

-- the number of a verdict or of a refusal, 0 where there is none
abbrev pub fault_told : {A : Type 0} → Result A Fault → ℕ
fault_told (Ok x) = 0
fault_told (Err fault) = fault_number fault

abbrev pub refusal_told : {A : Type 0} → Result A Refusal → ℕ
refusal_told (Ok x) = 0
refusal_told (Err refusal) = refusal_number refusal
