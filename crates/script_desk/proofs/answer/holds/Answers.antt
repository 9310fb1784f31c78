-- `desk::answer::holds` meets its contract: the bytes decoded are the file that is asked about. Assumes nothing.
use lib.ListN.{length}
use Rattle.script_hex.specs.Hex.{decoded}
use Rattle.script_desk.proofs.answer.Loads.{front-within, front-size, holds-answers}
use Rattle.script_desk.proofs.answer.holds.Goals as goal

pub slice_bounds-file-end : goal.slice_bounds-file-end
slice_bounds-file-end c =
    front-within (decoded (length c.file_room-file.result) c.args.word.now) c.file_room-file.result c.decode-size.result c.decode-size.ensures

pub slice_bounds-holds-end : goal.slice_bounds-holds-end
slice_bounds-holds-end c =
    front-size (decoded (length c.file_room-file.result) c.args.word.now) c.file_room-file.result c.decode-size.result c.decode-size.ensures

pub returns : goal.returns
returns c =
    holds-answers c.args.word.now c.file_room-file.ensures c.decode-size.ensures c.holds-held.ensures.answer c.put_flag.ensures
