use Rattle.fab_demand.proofs.search.Search.close_others.Goals as goal

pub close_copies-requires-clause-searching : goal.close_copies-requires-clause-searching
close_copies-requires-clause-searching c =
    let is = c.requires.searching in
    (is.0, is.1, c.passes_at.ensures.searching is.0 is.1 is.2)

pub close_beside-requires-clause-searching : goal.close_beside-requires-clause-searching
close_beside-requires-clause-searching c =
    let is = c.requires.searching in
    (is.0, is.1, c.passes_at.ensures.searching is.0 is.1 is.2)

pub returns-in-Some-copied_at-clause-searching : goal.returns-in-Some-copied_at-clause-searching
returns-in-Some-copied_at-clause-searching c clock given searching =
    c.close_copies.ensures.searching clock given (c.passes_at.ensures.searching clock given searching)

pub returns-in-None-clause-searching : goal.returns-in-None-clause-searching
returns-in-None-clause-searching c clock given searching =
    c.close_beside.ensures.searching clock given (c.passes_at.ensures.searching clock given searching)
