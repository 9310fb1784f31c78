-- `desk::answer::load` meets its contract: the bytes decoded are the file, and the line printed is that of the verdict the load gave. Assumes nothing.
use lib.ListN.{length, replicate}
use borrow.Author.Rules.{rules}
use Rattle.rules_plan.specs.Print.{line}
use Rattle.script_hex.specs.Hex.{decoded}
use Rattle.script_desk.proofs.answer.Loads.{front-within, front-size, load-answers}
use Rattle.script_desk.proofs.answer.load.Goals as goal

pub slice_bounds-file-end : goal.slice_bounds-file-end
slice_bounds-file-end c =
    front-within (decoded (length c.file_room-file.result) c.args.word.now) c.file_room-file.result c.decode-size.result c.decode-size.ensures

pub slice_bounds-load-end : goal.slice_bounds-load-end
slice_bounds-load-end c =
    front-size (decoded (length c.file_room-file.result) c.args.word.now) c.file_room-file.result c.decode-size.result c.decode-size.ensures

pub slice_bounds-line-end : goal.slice_bounds-line-end
slice_bounds-line-end c =
    front-within (line c.load-verdict.result) (replicate 40 0) (length (line c.load-verdict.result)) c.print_verdict-n.ensures

pub slice_bounds-put-end-2 : goal.slice_bounds-put-end-2
slice_bounds-put-end-2 c =
    front-size (line c.load-verdict.result) (replicate 40 0) (length (line c.load-verdict.result)) c.print_verdict-n.ensures

pub returns : goal.returns
returns c =
    load-answers c.args.word.now c.file_room-file.ensures c.decode-size.ensures (replicate 40 0) (search rules) c.load-verdict.ensures c.print_verdict-n.ensures c.put.ensures
