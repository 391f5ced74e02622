use Rattle.std.proofs.Common.{List, reverse, ◌∙◌, subst}
use Rattle.fab_syntax.specs.Plain.{plain_text}
use Rattle.fab_load_points.specs.inner.Search.{IsSearch}
use Rattle.fab_load_points.specs.declared.search.Visit.{Visit}
use Rattle.fab_load_points.proofs.search.Search.run.Goals as goal

pub loop-name-preserved : goal.loop-name-preserved
loop-name-preserved c = record {
  long = c.in_ok-open.ensures.long ∙ c.next_new.ensures.long ∙ c.loop-name.invariant.long;
  within = c.in_ok-open.ensures.within;
  new = λ name e. c.loop-name.invariant.new name (c.next_new.ensures.new name (c.in_ok-open.ensures.opens.others name e));
  search = λ scene s. c.in_ok-open.ensures.search scene (c.in-Some.ensures.search (plain_text c.args.equations.now) scene (c.loop-name.invariant.search scene s));
}

pub returns-clause-search : goal.returns-clause-search
returns-clause-search c scene s =
    let text = plain_text c.args.equations.now in
    subst (λ (x : List Visit). IsSearch text scene c.next_new.new.self.statuses.items (reverse x)) c.in_default.ensures.found
    (c.in_default.ensures.search text scene (c.loop-name.invariant.search scene s))
