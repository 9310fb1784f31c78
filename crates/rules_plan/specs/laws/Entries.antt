-- The entries of a plan whose items pass rows 5, 6 and 11: their ranges, their initiators, and how many there are at most.
use Rattle.std.specs.Prelude.{◌≡◌, refl, true, false, ℕ, ◌≤◌, length, eqb}
use Rattle.std.proofs.Common.{sym, eq-eqb}
use mathlib.Core.List.{List, [], ◌∷◌, Memᴰ}
use native.Mathlib.Omega.{arith}
use Rattle.std.proofs.lemmas.Bool.{not-false}
use Rattle.lists.specs.Search.{repeats}
use Rattle.lists.specs.laws.Bools.{both_true, true-both}
use Rattle.lists.specs.laws.Search.{any-elim, any-intro, all-elim}
use Rattle.lists.specs.laws.Append.{repeats-one}
use Rattle.lists.specs.laws.Pigeonhole.{pairs-most}
use Rattle.rules_plan.specs.Plan.{Entry, Plan, Item, entry}
use Rattle.rules_plan.specs.Meaning.{is_initiator, initiators, has_path, leads_from}
use Rattle.rules_plan.specs.Judge.{out_of_range, no_path}
use Rattle.rules_plan.specs.Canon.{items}
use Rattle.rules_plan.specs.Good.{same_entry_place, Each}
use Rattle.rules_plan.specs.laws.Ranges.{EntryRange, entry-range}
use Rattle.rules_plan.specs.laws.Lengths.{Sized, entry_length}
use Rattle.rules_plan.specs.laws.Items.{entry_in_lem}
use Rattle.rules_plan.specs.laws.Initiators.{in-initiators}

-- a path from i makes i an initiator
pub path-initiator : (p : Plan) (i t : ℕ) → has_path p i t ≡ true → is_initiator p i ≡ true
unfolding has_path is_initiator leads_from
path-initiator p i t h =
    let (x, m, e) = any-elim (leads_from i t) p.paths h in
    any-intro _ p.paths x m (both_true (eqb i x.start) (eqb t x.end) e).0

-- no two entries have the same initiator and slot (row 7)
pub entry-once : (es : List Entry) → repeats same_entry_place es ≡ false → (e f : Entry) → Memᴰ e es → Memᴰ f es → e.initiator ≡ f.initiator → e.slot ≡ f.slot → e ≡ f
unfolding same_entry_place
entry-once es h e f m n a b = repeats-one same_entry_place es e f h m n (same e f a b) (same f e (sym a) (sym b))
  where
    same : (c d : Entry) → c.initiator ≡ d.initiator → c.slot ≡ d.slot → same_entry_place c d ≡ true
    same c d i v = true-both (eq-eqb c.initiator d.initiator i) (eq-eqb c.slot d.slot v)

module _ (p : Plan) (lengths : (x : Item) → Memᴰ x (items p) → Sized x) (ranges : Each p out_of_range false) (reached : Each p (no_path p) false) where
  pub entry-ranges : (e : Entry) → Memᴰ e p.entries → EntryRange e
  entry-ranges e m = entry-range e (ranges (entry e) (entry_in_lem p e m))

  -- every target of an entry has a path, and there is one
  pub entry-path : (e : Entry) (t : ℕ) → Memᴰ e p.entries → Memᴰ t e.targets → has_path p e.initiator t ≡ true
  unfolding no_path
  entry-path e t m n = all-elim (has_path p e.initiator) e.targets t (not-false _ (reached (entry e) (entry_in_lem p e m))) n

  pub entry-initiator : (e : Entry) → Memᴰ e p.entries → is_initiator p e.initiator ≡ true
  entry-initiator e m = go e.targets refl
    where
      go : (ts : List ℕ) → e.targets ≡ ts → is_initiator p e.initiator ≡ true
      go [] h = let z : length e.targets ≡ 0 = rw h in absurd (omega (arith, (entry_length e (lengths (entry e) (entry_in_lem p e m))).0))
      go (t ∷ ts) h = path-initiator p e.initiator t (entry-path e t m (rw h (Memᴰ.head refl)))

  -- eight initiators, 64 slots
  pub entries-most : repeats same_entry_place p.entries ≡ false → length (initiators p) ≤ 8 → length p.entries ≤ 512
  unfolding same_entry_place
  entries-most once eight =
      omega (
        arith,
        pairs-most same_entry_place (λ (e : Entry). e.initiator) (λ (e : Entry). e.slot) p.entries (initiators p)
            (λ e f i s. true-both (eq-eqb e.initiator f.initiator i) (eq-eqb e.slot f.slot s))
            (λ e m. in-initiators p e.initiator (entry-ranges e m).initiator (entry-initiator e m))
            (λ e m. (entry-ranges e m).slot) once,
      )
