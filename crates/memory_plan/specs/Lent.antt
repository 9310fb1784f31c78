-- The eight arrays of plan memory as contracts name them together: what they hold when a function is called, and when it returns.
use Rattle.std.specs.Prelude.{ℕ, List}
use Rattle.std.specs.Borrow.{Bor, MutBor}
use denote.Triple.Both.{Both}

-- an array that is lent to be changed
abbrev pub Array : Type 0
Array = Both (MutBor (List ℕ)) (MutBor (List ℕ))

-- an array that is lent to be read
abbrev pub SharedArray : Type 0
SharedArray = Both (Bor (List ℕ)) (Bor (List ℕ))

-- what f says of all eight
abbrev pub at_entry {ℓ} : {A : Type ℓ} → ((sets ends rows reach paths spans aims numbers : List ℕ) → A) → (sets ends rows reach paths spans aims numbers : Array) → A
at_entry f sets ends rows reach paths spans aims numbers = f sets.entry.now ends.entry.now rows.entry.now reach.entry.now paths.entry.now spans.entry.now aims.entry.now numbers.entry.now

abbrev pub at_exit {ℓ} : {A : Type ℓ} → ((sets ends rows reach paths spans aims numbers : List ℕ) → A) → (sets ends rows reach paths spans aims numbers : Array) → A
at_exit f sets ends rows reach paths spans aims numbers = f sets.exit.now ends.exit.now rows.exit.now reach.exit.now paths.exit.now spans.exit.now aims.exit.now numbers.exit.now

-- what f says of all eight where they are only read
abbrev pub at_now {ℓ} : {A : Type ℓ} → ((sets ends rows reach paths spans aims numbers : List ℕ) → A) → (sets ends rows reach paths spans aims numbers : SharedArray) → A
at_now f sets ends rows reach paths spans aims numbers = f sets.entry.now ends.entry.now rows.entry.now reach.entry.now paths.entry.now spans.entry.now aims.entry.now numbers.entry.now
