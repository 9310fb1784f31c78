-- `read_fields` meets its contract: reading stands at a field, with the plan so far in memory, and each turn passes one.
-- The measure is what is left of the file. Assumes nothing.
use mathlib.Core.Path.{sym}
use Rattle.load_fields.proofs.Heads.{head-fine, content-sized, item-there, item-read}
use Rattle.load_fields.proofs.Stands.{starts, ends_there, stops-at-head, awaits, stops-at-item, passes}
use Rattle.load_fields.proofs.read_fields.Goals as goal

pub loop-at-init : goal.loop-at-init
loop-at-init c = (c.requires.file_len_bound, starts _ c.requires.holds)

pub returns-in-Err : goal.returns-in-Err
returns-in-Err c = stops-at-head c.loop-at.invariant.1 c.loop-at-test.true c.in-Err.fault c.in-Err.ensures

pub take_item-requires : goal.take_item-requires
take_item-requires c = rw c.part-content.ensures (content-sized _ _ _ (head-fine _ _ _ _ _ (sym c.in-Ok.ensures)))

pub returns-in-Err-take_item : goal.returns-in-Err-take_item
returns-in-Err-take_item c =
    let l = c.loop-at in
    let w = l.invariant.1 in
    let g = head-fine _ _ _ _ _ (sym c.in-Ok.ensures) in
    let (x, there) = item-there _ _ _ g in
    let t = c.in-Err-take_item.ensures l.at w.so_far x w.fair (awaits w c.loop-at-test.true g) (rw c.part-content.ensures (item-read _ _ _ g x there)) w.memory in
    stops-at-item w c.loop-at-test.true g x there c.in-Err-take_item.fault t.answer

pub loop-at-preserved : goal.loop-at-preserved
loop-at-preserved c =
    let l = c.loop-at in
    let w = l.invariant.1 in
    let g = head-fine _ _ _ _ _ (sym c.in-Ok.ensures) in
    let (x, there) = item-there _ _ _ g in
    let t = c.in_default.ensures l.at w.so_far x w.fair (awaits w c.loop-at-test.true g) (rw c.part-content.ensures (item-read _ _ _ g x there)) w.memory in
    (l.invariant.0, passes w c.loop-at-test.true g x there t)

pub returns : goal.returns
returns c = ends_there c.loop-at.invariant.1 c.loop-at-test.false
