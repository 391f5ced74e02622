use Rattle.std.proofs.Common.{◌≡◌, ℕ, ◌∙◌, sym, ap, nat_lt, cond, Some, None, length, map}
use Rattle.fab_values.specs.Declarations.{number_of}
use Rattle.fab_values.proofs.Entries.{position_declared}
use Rattle.fab_values.proofs.names.Names.number.Goals as goal

pub returns : goal.returns
returns c =
    c.get_index_of.ensures.index ∙ position_declared c.args.name.now c.self.inside.places.entries
    ∙ ap (λ ds. number_of ds c.args.name.now) c.self.view_is
