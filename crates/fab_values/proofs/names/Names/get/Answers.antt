use Rattle.std.proofs.Common.{◌∙◌, sym, ap}
use Rattle.fab_values.specs.Declarations.{found_in}
use Rattle.fab_values.proofs.Entries.{lookup_found}
use Rattle.fab_values.proofs.names.Names.get.Goals as goal

pub returns : goal.returns
returns c =
    c.copied.ensures ∙ c.get.ensures.value ∙ lookup_found c.args.name.now 0 _ c.self.inside.places.entries c.self.invariant
    ∙ ap (λ ds. found_in ds c.args.name.now) c.self.view_is
