use Rattle.std.proofs.Common.{◌∙◌, arith}
use Rattle.fab_systems_laws.proofs.Order.{below_trans}
use Rattle.fab_network.specs.Passes.{kept_tern}
use Rattle.fab_settling.specs.Visits.{Scene, IsFurther}
use Rattle.fab_settling.specs.Scenes.{IsReady}
use Rattle.fab_network.proofs.Forming.{forms_stay}
use Rattle.fab_settling.proofs.Growing.{ready_after}
use Rattle.fab_settling.proofs.Passing.{both_further}
use Rattle.fab_settling.proofs.passes.settle_by.Goals as goal

pub pass_over-pass-requires-clause-ready : goal.pass_over-pass-requires-clause-ready
pass_over-pass-requires-clause-ready c = record {
  fit = c.requires.fit;
  points = c.requires.points;
  long = c.passes.invariant.long;
  latches = c.requires.held;
  view = λ point l. omega (arith, c.passes.invariant.long, c.requires.terns, c.requires.view point l);
  small = c.requires.small;
  own = c.requires.own;
  backed = c.passes.invariant.backed;
}

pub pass_over-pass-requires-clause-forms : goal.pass_over-pass-requires-clause-forms
pass_over-pass-requires-clause-forms c =
    forms_stay c.args.network.now.trees.items c.args.network.now.drives.items c.args.order.now c.args.leads.now c.args.terns.now c.passes.terns c.args.forms.now
    c.passes.invariant.others c.requires.forms

pub look_again-requires-clause-ready : goal.look_again-requires-clause-ready
look_again-requires-clause-ready c =
    let scene : Scene = record {
      trees = c.args.network.now.trees.items;
      drives = c.args.network.now.drives.items;
      held = c.args.held.now;
      order = c.args.order.now;
      leads = c.args.leads.now;
    } in
    let ready : IsReady scene c.passes.terns = record {
      fit = c.requires.fit;
      points = c.requires.points;
      long = c.passes.invariant.long;
      latches = c.requires.held;
      view = λ point l. omega (arith, c.passes.invariant.long, c.requires.terns, c.requires.view point l);
      small = c.requires.small;
      own = c.requires.own;
      backed = c.passes.invariant.backed;
    } in
    ready_after scene c.passes.terns c.pass_over-pass.new.terns ready c.pass_over-pass.ensures.further

pub look_again-requires-clause-forms : goal.look_again-requires-clause-forms
look_again-requires-clause-forms c =
    forms_stay c.args.network.now.trees.items c.args.network.now.drives.items c.args.order.now c.args.leads.now c.args.terns.now c.pass_over-pass.new.terns
    c.args.forms.now (λ q none. c.pass_over-pass.ensures.further.others q none ∙ c.passes.invariant.others q none) c.requires.forms

pub returns-then-not-pass-clause-below : goal.returns-then-not-pass-clause-below
returns-then-not-pass-clause-below c t solved led above = c.pass_over-pass.ensures.further.below t solved led (c.passes.invariant.below t solved led above)

pub passes-preserved : goal.passes-preserved
passes-preserved c =
    let scene : Scene = record {
      trees = c.args.network.now.trees.items;
      drives = c.args.network.now.drives.items;
      held = c.args.held.now;
      order = c.args.order.now;
      leads = c.args.leads.now;
    } in
    let now = c.passes.terns in
    let new = c.look_again.new.terns in
    let further : IsFurther scene now new = both_further scene now c.pass_over-pass.new.terns new c.pass_over-pass.ensures.further c.look_again.ensures in
    record {
      long = further.long ∙ c.passes.invariant.long;
      rising = λ q. below_trans (kept_tern c.args.terns.now q) (kept_tern now q) (kept_tern new q) (c.passes.invariant.rising q) (further.rising q);
      below = λ t solved led above. further.below t solved led (c.passes.invariant.below t solved led above);
      backed = further.backed;
      others = λ q n. further.others q n ∙ c.passes.invariant.others q n;
    }
