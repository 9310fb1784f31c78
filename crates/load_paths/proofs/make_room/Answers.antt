-- `make_room` meets its contract: what is copied within the bytes has moved.
use mathlib.Core.Path.{refl, ◌∙◌}
use Rattle.load_path_places.specs.laws.Room.{copied-moved}
use Rattle.load_paths.proofs.make_room.Goals as goal

pub returns : goal.returns
returns c e = let a = c.args in c.copy_within.ensures.after ∙ copied-moved 11 a.start a.end _ a.paths.now refl c.requires.0
