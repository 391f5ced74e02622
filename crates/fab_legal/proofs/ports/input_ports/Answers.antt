use Rattle.std.proofs.Common.{List, ℕ, [], ◌∙◌, ap}
use Rattle.std.proofs.lemmas.List.{take_all}
use Rattle.std.specs.Str.{bytes_eq}
use Rattle.indexmap.specs.IndexSet.{insert_all}
use Rattle.fab_implementation.specs.fab_model.proofs.Inserts.{all_inserted}
use Rattle.fab_legal.proofs.ports.input_ports.Goals as goal

pub returns : goal.returns
returns c =
    c.loop-name.invariant ∙ ap (λ (first : List (List ℕ)). insert_all bytes_eq [] first) (take_all c.loop-name.name-index c.args.names.now c.loop-name-test.false) ∙ all_inserted c.args.names.now c.requires
