use Rattle.std.proofs.Common.{List, ◌∷◌, reverse, sym, subst}
use Rattle.fab_syntax.specs.Plain.{plain_text}
use Rattle.fab_load_points.specs.inner.Search.{IsSearch}
use Rattle.fab_load_points.specs.declared.search.Visit.{Visit}
use Rattle.fab_load_points.specs.declared.search.Visit.TheVariants.{Enter}
use Rattle.fab_load_points.proofs.Reading.{on_ok}
use Rattle.fab_load_points.proofs.Steps.{search_begins}
use Rattle.fab_load_points.proofs.search.Search.look.Goals as goal

pub returns-in_ok-open-in-New-clause-known : goal.returns-in_ok-open-in-New-clause-known
returns-in_ok-open-in-New-clause-known c =
    on_ok c.run.result _ _ c.run.ensures.new (λ new e. c.in_ok-open-in-New.ensures.opens.this (new c.args.name e))

pub returns-in_ok-open-in-New-clause-search : goal.returns-in_ok-open-in-New-clause-search
returns-in_ok-open-in-New-clause-search c =
    let text = plain_text c.args.equations.now in
    on_ok c.run.result _ _ c.run.ensures.search
    (λ search scene p stands s.
    search scene
    (c.in_ok-open-in-New.ensures.search scene
    (subst (λ (x : List Visit). IsSearch text scene c.args.self.now.statuses.items (Enter c.args.name ∷ reverse x)) (sym c.requires.rest)
    (search_begins text scene c.args.self.now.statuses.items c.args.name p stands s))))
