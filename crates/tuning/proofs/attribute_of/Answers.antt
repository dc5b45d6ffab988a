use mathlib.Core.Path.{refl, ◌∙◌}
use Rattle.scan.specs.Text.{text}
use Rattle.tuning.specs.Values.{attribute_of}
use Rattle.tuning.proofs.Words.{place_is}
use Rattle.tuning.proofs.attribute_of.Goals as goal

pub returns : goal.returns
unfolding attribute_of
returns c = c.place_of.ensures ∙ place_is (text "src fe freq pol msys mtype plts ro sr fec pids addpids delpids") _ _ refl
