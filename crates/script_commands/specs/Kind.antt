-- The commands that are a name and numbers.
pub data Kind : Type 0 where
  TimeCode : Kind
  Request : Kind
  Reply : Kind
  Reading : Kind
  Out : Kind
  SetWatchdog : Kind
  Sheet : Kind
  SheetBoth : Kind
  Next : Kind
