use Rattle.std.proofs.Common.{◌∙◌, ◌||◌, ℕ, List, map, sym, ap}
use Rattle.fab_syntax.specs.declared.tree.Item.{Item}
use Rattle.fab_syntax.specs.Plain.{plain_item, plain_join}
use Rattle.fab_sound.specs.inner.Checks.{found, is_scalar_entry}
use Rattle.fab_sound.specs.inner.Rules.{is_counted, serves_in, item_serves, item_clocks}
use Rattle.fab_sound.proofs.Clocking.{none_clocks, none_serve}
use Rattle.fab_sound.proofs.clocks.take_item.Goals as goal

pub returns-in-None-clause-fits : goal.returns-in-None-clause-fits
returns-in-None-clause-fits c =
    let scalar = λ (name : List ℕ). is_scalar_entry (found c.args.names.now name) in
    let serves = serves_in c.args.library.now c.args.serving.now in
    sym (ap (λ (item : Item). item_clocks scalar serves (plain_item item)) c.in-Instance.is
    ∙ none_clocks scalar (serves c.in-Instance.of) c.in-None.ensures (map plain_join c.in-Instance.joins.items))

pub returns-in-None-clause-serve : goal.returns-in-None-clause-serve
returns-in-None-clause-serve c = λ e name.
    let serves = serves_in c.args.library.now c.args.serving.now in
    sym (ap (λ b. b || is_counted c.args.clocks.now name) (ap (λ (item : Item). item_serves serves name (plain_item item)) c.in-Instance.is
    ∙ none_serve (serves c.in-Instance.of) c.in-None.ensures name (map plain_join c.in-Instance.joins.items)))
