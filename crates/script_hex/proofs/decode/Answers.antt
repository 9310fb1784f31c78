-- `hex::decode` meets its contract. The loop's invariant: the first i bytes are put. Assumes nothing.
use mathlib.Core.Path.{sym, ◌∙◌}
use borrow.Author.Rules.{rules}
use Rattle.script_hex.proofs.Pairs.{put-pair, no_bytes, no_room, every_byte}
use Rattle.script_hex.proofs.decode.Goals as goal

pub returns-then-not-is_bytes : goal.returns-then-not-is_bytes
returns-then-not-is_bytes c =
    let a = c.args in
    no_bytes a.out.now a.word.now (sym c.is_bytes.ensures ∙ c.if-not-is_bytes.true)

pub returns-then-out-n : goal.returns-then-out-n
returns-then-out-n c =
    let a = c.args in
    no_room a.out.now a.word.now (sym c.is_bytes.ensures ∙ c.if-not-is_bytes.false) c.if-out-n.true

pub loop-i-preserved : goal.loop-i-preserved
loop-i-preserved c =
    (search rules, put-pair c.args.word.now c.loop-i.i c.hex_of-high.ensures.0 c.hex_of-low.ensures.0 (search rules) c.loop-i.invariant.1)

pub returns : goal.returns
returns c =
    let a = c.args in
    every_byte a.out.now c.loop-i.out a.word.now c.loop-i.i (sym c.is_bytes.ensures ∙ c.if-not-is_bytes.false) (search rules) (search rules) c.loop-i.invariant.1
