use Rattle.std.proofs.Common.{Bool, Vec, Global, ap, ◌∙◌, subst}
use Rattle.rand_pcg.specs.Lcg.{Lcg}
use Rattle.fab_draws.specs.Draws.{word_at}
use Rattle.fab_ordering_laws.specs.Ordered.{IsStart, Moment}
use Rattle.fab_sim.specs.Stepper.{Stands}
use Rattle.fab_sim.proofs.Unsets.{unset_so}
use Rattle.fab_sim.proofs.stepper.Stepper.new.Goals as goal

pub start-requires : goal.start-requires
start-requires c =
    let made = c.unset_of-stepper.ensures in
    let fresh = c.requires.5 in (
      c.requires.0,
      c.requires.1,
      c.requires.2,
      c.requires.3,
      c.requires.4,
      unset_so c.requires.0 c.requires.1 c.requires.3 c.args.machine c.in_ok-room.room c.unset_of-stepper.result.stepper c.deref.result.now c.deref-2.result.now fresh
          (c.in_ok-room.ensures c.requires.0 c.requires.1 c.requires.3 fresh) made.network made.points made.terns made.held made.leads made.solution made.order made.free
          (c.deref.ensures.value ∙ ap (λ (v : Vec Bool Global). v.items) made.loads) (c.deref-2.ensures.value ∙ ap (λ (v : Vec Bool Global). v.items) made.values),
    )

pub returns : goal.returns
returns c text state words loaded is_loaded fresh =
    let made = c.unset_of-stepper.ensures in
    let unset =
    unset_so text state loaded c.args.machine c.in_ok-room.room c.unset_of-stepper.result.stepper c.deref.result.now c.deref-2.result.now fresh
    (c.in_ok-room.ensures text state loaded fresh) made.network made.points made.terns made.held made.leads made.solution made.order made.free
    (c.deref.ensures.value ∙ ap (λ (v : Vec Bool Global). v.items) made.loads) (c.deref-2.ensures.value ∙ ap (λ (v : Vec Bool Global). v.items) made.values) in
    subst (λ (g : Lcg). (moment : Moment) × IsStart text state (word_at g) words moment × Stands text state (word_at g) c.start.new.self moment) made.random
    (c.start.ensures text state words loaded is_loaded unset)
