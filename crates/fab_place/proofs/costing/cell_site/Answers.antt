use Rattle.std.proofs.Common.{ℕ, nat_eq}
use Rattle.std.proofs.lemmas.Bool.Decides.{Decides-eqb}
use Rattle.fab_fabric.specs.declared.wire.Site.{Site}
use Rattle.fab_ways_laws.specs.Placing.{no_site}
use Rattle.fab_place.proofs.Boxed.{line_here}
use Rattle.fab_place.proofs.costing.cell_site.Goals as goal

pub returns-then-lines-number : goal.returns-then-lines-number
returns-then-lines-number c =
    let none : ℕ × Site = (0, no_site) in
    line_here nat_eq Decides-eqb c.args.lines.now c.args.number none c.args.number c.requires c.if-number-lines.true c.if-lines-number.true
