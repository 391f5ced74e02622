use Rattle.std.proofs.Common.{◌∙◌, sym}
use Rattle.fab_bits.specs.Keys.{key_names}
use Rattle.fab_list_files.proofs.Names.{any_of_insert, any_same}
use Rattle.fab_list_files.proofs.matrix_pairs.add_name.Goals as goal

pub returns-then-has_name : goal.returns-then-has_name
returns-then-has_name c = λ other. sym (any_same other c.args.name.now (key_names c.args.names.now.keys) (sym c.has_name.ensures ∙ c.if-has_name.true))

pub returns : goal.returns
returns c = λ other. any_of_insert c.args.names.now.keys c.insert.new.self.keys c.into_vec.result c.args.name.now other (c.into_vec.ensures ∙ c.in_ok-copy.ensures) c.in_ok-insert.ensures.keys
