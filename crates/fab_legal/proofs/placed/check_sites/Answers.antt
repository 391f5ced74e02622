use Rattle.fab_implementation.specs.fab_fabric.specs.Names.{site_text}
use Rattle.fab_legal.specs.Broken.{IsSiteItem}
use Rattle.fab_legal.proofs.Cells.{breaks_by, site_broken}
use Rattle.fab_legal.proofs.placed.check_sites.Goals as goal

pub returns-clause-err : goal.returns-clause-err
returns-clause-err c =
    breaks_by 2 (IsSiteItem c.args.implementation.now) c.broken_by.result (c.in_ok-name-in-Some).field-0 (site_text c.index.result.now) c.broken_by.ensures (c.in_ok-name-in-Some).ensures
    (site_broken c.args.implementation.now c.in_ok-sites.sites.items c.in-Some.place c.in_ok-first_again.field-0 c.index.result.now c.in_ok-sites.ensures
    (rw c.deref.ensures.value at c.in_ok-first_again.ensures) c.in-Some.is c.index.ensures)
