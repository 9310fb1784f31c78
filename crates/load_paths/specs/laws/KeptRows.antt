-- The rows and the numbers when a path is kept: memory that holds a plan comes to hold the plan with the path.
use Rattle.std.specs.Prelude.{◌≡◌, ◌≢◌, [], ◌∷◌, Bool, ◌||◌, ℕ, ◌+◌, ◌<◌}
use Rattle.std.proofs.Math.Path.{refl, sym, ap}
use Rattle.std.proofs.Common.{◌∙◌, arith, length-drop}
use Rattle.std.proofs.Math.Bool.{true, false}
use Rattle.std.proofs.Math.Decide.{dec_lt}
use Rattle.std.proofs.Math.ListN.{length, length-append, length-take}
use Rattle.std.proofs.Math.Dec.{leb}
use borrow.Author.Tests.{lt-ltb, le-ltb, leb-false}
use Rattle.lists.specs.Cells.{padded}
use Rattle.lists.specs.Insert.{put_in}
use Rattle.lists.specs.laws.Bools.{neither, not-both}
use Rattle.lists.specs.laws.At.{at-member}
use Rattle.lists.specs.laws.Padded.{padded-at}
use Rattle.lists.specs.laws.Moved.{padded-put_in}
use Rattle.lists.specs.laws.Insert.{Placed, placed, last-is}
use Rattle.rules_plan.specs.Plan.{Route, Plan, path, grow}
use Rattle.rules_plan.specs.Meaning.{is_initiator, initiators}
use Rattle.rules_plan.specs.Judge.{too_many}
use Rattle.rules_plan.specs.laws.Fair.{Fair}
use Rattle.rules_plan.specs.laws.Chain.{Passes}
use Rattle.rules_plan.specs.laws.Ranges.{route-range}
use Rattle.rules_plan.specs.laws.Initiators.{initiator-in}
use Rattle.memory_plan.specs.Memory.{rows_of, numbers_with}
use Rattle.memory_plan.specs.laws.Costs.{no-costs}
use Rattle.load_paths.specs.Keep.{kept_numbers}
use Rattle.memory_plan.specs.Rows.{row_among}
use Rattle.load_path_places.specs.Places.{row_place, with_row}
use Rattle.load_path_faults.specs.laws.PathRows.{RowRead, row_read}
use Rattle.load_paths.specs.laws.GrownPath.{kept-initiators, one-initiator}
use Rattle.load_path_places.specs.laws.OwnRow.{old-array, new-array, old-count, new-count}

module _ (p : Plan) (f : Fair p) (x : Route) (g : Passes p (path x)) where
  abbrev i : ℕ
  i = x.start

  abbrev count : ℕ
  count = length (initiators p)

  abbrev q : Plan
  q = grow p (path x)

  pub i-below : x.start < 64
  i-below = (route-range x g.range).start

  pub row-of-x : RowRead p x.start (row_among (rows_of p) (length (initiators p)) x.start)
  row-of-x = row_read p i f.lists.paths.eight i-below

  -- an initiator that has a row
  module _ (e : is_initiator p x.start ≡ true) where
    pub has-row : row_among (rows_of p) (length (initiators p)) x.start ≢ length (initiators p)
    has-row h = not-both e (row-of-x.missed h)

  -- a new one, its place, and room for its row
  module _ (e : is_initiator p x.start ≡ false) where
    pub no-row-yet : row_among (rows_of p) (length (initiators p)) x.start ≡ length (initiators p)
    no-row-yet = go (dec_lt _ count)
      where
        go : Dec (row_among (rows_of p) count i < count) → row_among (rows_of p) count i ≡ count
        go (yes l) = not-both (initiator-in p i (at-member (initiators p) _ i (row-of-x.found l))) e
        go (no l) = omega (arith, row-of-x.within)

    pub room : length (initiators p) < 8
    unfolding too_many
    room =
        let n : leb 8 count || leb 128 (length p.paths) ≡ false = rw e at g.few in
        leb-false 8 count (neither (leb 8 count) (leb 128 (length p.paths)) n).0

    pub inserted : Placed (λ n. n < x.start) (λ n. x.start < n) 0 (initiators p) x.start (initiators (grow p (path x)))
    inserted = placed 0 (one-initiator p x i-below e)

    pub row-place : row_place (rows_of p) (length (initiators p)) x.start ≡ inserted.place
    unfolding rows_of
    row-place = last-is _ inserted.place _ inserted.within
        (λ j h. lt-ltb _ i (omega (arith, inserted.less j h, padded-at 8 0 (initiators p) j)))
        (λ j h l. le-ltb _ i (omega (arith, inserted.more j h l, padded-at 8 0 (initiators p) j)))

  -- the rows
  pub rows-kept : with_row (rows_of p) (length (initiators p)) x.start x.start (rows_of p) ≡ rows_of (grow p (path x))
  unfolding rows_of
  rows-kept = go (is_initiator p i) refl
    where
      go : (b : Bool) → is_initiator p i ≡ b → with_row (rows_of p) count i i (rows_of p) ≡ rows_of q
      go true e = old-array (rows_of p) count i (has-row e) i (rows_of p) ∙ ap (padded 8 0) (sym (kept-initiators p x e))
      go false e =
          let r = inserted e in
          new-array (rows_of p) count i (no-row-yet e) i (rows_of p) ∙ ap (λ k. put_in k count (i ∷ []) (rows_of p)) (row-place e)
          ∙ sym (padded-put_in 8 r.place 0 (i ∷ []) (initiators p) r.within (omega (arith, room e))) ∙ ap (padded 8 0) (sym r.new)

  -- the numbers
  pub numbers-kept : p.times ≡ [] → (size : ℕ) → kept_numbers (rows_of p) (numbers_with size p) x.start ≡ numbers_with size (grow p (path x))
  unfolding kept_numbers numbers_with grow
  numbers-kept none_yet size = go (is_initiator p i) refl
    where
      go : (b : Bool) → is_initiator p i ≡ b → kept_numbers (rows_of p) (numbers_with size p) i ≡ numbers_with size q
      go true e = rw (old-count (rows_of p) (numbers_with size p) i (has-row e), no-costs p p.replies p.paths none_yet, no-costs q q.replies q.paths none_yet, kept-initiators p x e, length-append p.paths (x ∷ []))
      go false e =
          let r = inserted e in
          let n : length (initiators q) ≡ count + 1 = ap length r.new ∙ simp (length-append, length-take, length-drop) (omega (arith, r.within)) in
          rw (new-count (rows_of p) (numbers_with size p) i (no-row-yet e), no-costs p p.replies p.paths none_yet, no-costs q q.replies q.paths none_yet, n, length-append p.paths (x ∷ []))
