use Rattle.std.proofs.Common.{◌∙◌, sym}
use Rattle.std.proofs.lemmas.List.Folds.{list_all-map}
use Rattle.fab_implementation.specs.Plain.{Pad}
use Rattle.fab_lines.specs.Items.{is_among}
use Rattle.fab_stimulus.proofs.lines.are_named.Goals as goal

pub returns : goal.returns
returns c = c.is_each_named.ensures ∙ sym (list_all-map (is_among c.args.names.now) (λ (pad : Pad). pad.0) c.args.pads.now)
