use Rattle.std.proofs.Common.{◌∙◌, ap}
use Rattle.std.specs.Str.{bytes_eq}
use Rattle.std.specs.List.{list_any}
use Rattle.fab_bits.specs.Keys.{key_names}
use Rattle.fab_list_files.proofs.Names.{any_of_names}
use Rattle.fab_list_files.proofs.matrix_pairs.has_name.Goals as goal

pub returns : goal.returns
returns c = c.contains.ensures ∙ any_of_names c.bytes.result.now c.args.names.now.keys ∙ ap (λ name. list_any (bytes_eq name) (key_names c.args.names.now.keys)) c.bytes.ensures
