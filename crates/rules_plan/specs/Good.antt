-- What an accepted plan is, said of the whole plan and of no order: the rows of the table with "given before" read as "given".
use Rattle.std.specs.Prelude.{◌≡◌, Bool, true, false, ◌&&◌, ℕ, ◌≤◌, ◌<◌, length, eqb}
use mathlib.Core.List.{List, Memᴰ}
use Rattle.std.proofs.Math.Option.{none}
use Rattle.lists.specs.Search.{repeats, twice}
use Rattle.rules_plan.specs.Plan.{nth, Device, Link, Route, Entry, Plan, Item}
use Rattle.rules_plan.specs.Fields.{tag_for, content_for, length_allowed}
use Rattle.rules_plan.specs.Meaning.{initiators}
use Rattle.rules_plan.specs.Judge.{out_of_range, not_given, no_walk, no_path, overrun, clash}
use Rattle.rules_plan.specs.Canon.{items, written}

-- a file is a list of bytes
abbrev pub Bytes : List ℕ → Type 0
Bytes s = (n : ℕ) → nth s n < 256

unfoldable pub same_device_number : Device → Device → Bool
same_device_number c d = eqb c.num d.num

unfoldable pub same_link_number : Link → Link → Bool
same_link_number l m = eqb l.num m.num

unfoldable pub same_path_ends : Route → Route → Bool
same_path_ends x y = eqb x.start y.start && eqb x.end y.end

unfoldable pub same_entry_place : Entry → Entry → Bool
same_entry_place e f = eqb e.initiator f.initiator && eqb e.slot f.slot

-- every item of the plan passes the test
abbrev pub Each : Plan → (Item → Bool) → Bool → Type 0
Each p t r = (x : Item) → Memᴰ x (items p) → t x ≡ r

pub record Good (p : Plan) : Type 0 where
  -- 1
  pub short : length (written p) ≤ 16_384
  -- 5
  pub lengths : Each p (λ (x : Item). length_allowed (tag_for x) (length (content_for x))) true
  -- 6
  pub ranges : Each p out_of_range false
  -- 7
  pub devices : repeats same_device_number p.devices ≡ false
  pub links : repeats same_link_number p.links ≡ false
  pub paths : repeats same_path_ends p.paths ≡ false
  pub entries : repeats same_entry_place p.entries ≡ false
  pub replies : repeats same_path_ends p.replies ≡ false
  pub targets : (e : Entry) → Memᴰ e p.entries → twice e.targets ≡ false
  -- 8
  pub known : Each p (not_given p) false
  -- 9
  pub eight : length (initiators p) ≤ 8
  pub most : length p.paths ≤ 128
  -- 10
  pub walks : Each p (no_walk p) false
  -- 11
  pub reached : Each p (no_path p) false
  -- 4 and 12: one 05
  pub timing : length p.timings ≡ 1
  -- 4: "06, at most once"
  pub times : length p.times ≤ 1
  -- 15: "A plan with no entry must not be accepted."
  pub some-entry : 1 ≤ length p.entries
  -- 13
  pub no-overrun : overrun p.entries ≡ none
  -- 14
  pub no-clash : clash p p.entries ≡ none
