use Rattle.std.proofs.Common.{List, [], ◌∙◌, ap}
use Rattle.std.proofs.lemmas.List.{take_all}
use Rattle.std.specs.Str.{bytes_eq}
use Rattle.indexmap.specs.IndexSet.{insert_all}
use Rattle.fab_model.proofs.Inserts.{all_inserted}
use Rattle.fab_implementation.specs.Plain.{Pad}
use Rattle.fab_legal.specs.Lines.{named}
use Rattle.fab_route.proofs.lines.line_names.Goals as goal

pub returns : goal.returns
returns c =
    c.loop-pad.invariant ∙ ap (λ (first : List Pad). insert_all bytes_eq [] (named first)) (take_all c.loop-pad.pad-index c.args.pads.now c.loop-pad-test.false) ∙ all_inserted (named c.args.pads.now) c.requires
