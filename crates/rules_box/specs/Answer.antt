-- What an event answers, as the code tells it, and the number and values that document 01 gives for each answer.
use Rattle.std.specs.Prelude.{ℕ, Bool, cond, Result, Ok, Err}
use Rattle.rules_plan.specs.declared.Refusal.{Refusal}
use Rattle.rules_plan.specs.Numbers.{refusal_number}
use Rattle.rules_box.specs.declared.Class.{Class}
use Rattle.rules_box.specs.declared.Class.TheVariants.{Success, Error, Reserved}
use Rattle.rules_box.specs.declared.Ending.{Ending}
use Rattle.rules_box.specs.declared.Done.{Done}
use Rattle.rules_box.specs.declared.Done.TheVariants as done

-- 20 to 29; a time-code's record count; a request's transaction number; a reply's ended target, length, status and class; a reading's 0 or 1
pub data Answer : Type 0 where
  Refused : ℕ → Answer
  Recorded : ℕ → Answer
  Joined : ℕ → Answer
  Ended : (target length status class : ℕ) → Answer
  Told : ℕ → Answer

-- the number of a class
abbrev pub class_number : Class → ℕ
class_number Success = 0
class_number Error = 1
class_number Reserved = 2

-- what each event answers: that of the code
abbrev pub ended_with : Ending → Answer
ended_with e = Ended e.target e.length e.status (class_number e.class)

abbrev pub told_late : Bool → Answer
told_late late = Told (cond late 1 0)

abbrev pub done_told : Done → Answer
done_told (done.Recorded count) = Recorded count
done_told (done.Joined number) = Joined number
done_told (done.Ended ending) = ended_with ending
done_told (done.Told late) = told_late late

-- the answer of an event's result, by what an accepted one answers
abbrev pub answer_by : {A : Type 0} → (A → Answer) → Result A Refusal → Answer
answer_by f (Ok x) = f x
answer_by f (Err refusal) = Refused (refusal_number refusal)

abbrev pub recorded_told : Result ℕ Refusal → Answer
recorded_told = answer_by Recorded

abbrev pub joined_told : Result ℕ Refusal → Answer
joined_told = answer_by Joined

abbrev pub ended_told : Result Ending Refusal → Answer
ended_told = answer_by ended_with

abbrev pub reading_told : Result Bool Refusal → Answer
reading_told = answer_by told_late

abbrev pub answer_told : Result Done Refusal → Answer
answer_told = answer_by done_told

-- "An accepted event answers 0 and: the record count; the transaction number; the ended transaction's target, length, status and
-- class; or the reading's 0 or 1; all else 0." "A refusal … answers its number, all else 0."
pub record Values : Type 0 where
  pub number : ℕ
  pub count : ℕ
  pub transaction : ℕ
  pub target : ℕ
  pub length : ℕ
  pub status : ℕ
  pub class : ℕ
  pub reading : ℕ

unfoldable pub values : Answer → Values
values (Refused n) = record { number = n; count = 0; transaction = 0; target = 0; length = 0; status = 0; class = 0; reading = 0 }
values (Recorded c) = record { number = 0; count = c; transaction = 0; target = 0; length = 0; status = 0; class = 0; reading = 0 }
values (Joined m) = record { number = 0; count = 0; transaction = m; target = 0; length = 0; status = 0; class = 0; reading = 0 }
values (Ended t n s c) = record { number = 0; count = 0; transaction = 0; target = t; length = n; status = s; class = c; reading = 0 }
values (Told x) = record { number = 0; count = 0; transaction = 0; target = 0; length = 0; status = 0; class = 0; reading = x }
