use Rattle.std.proofs.Common.{◌≡◌, ℕ, List, length, replicate, ap, ◌∙◌, subst, arith}
use Rattle.std.proofs.lemmas.List.{length-replicate}
use Rattle.fab_equations.specs.Instances.{points}
use Rattle.fab_ternary.specs.declared.Tern.{Tern}
use Rattle.fab_ternary.specs.declared.Tern.TheVariants.{No, Open}
use Rattle.fab_network.specs.Passes.{kept_tern}
use Rattle.fab_stepping.specs.Boards.{LeadToThemselves}
use Rattle.fab_sim.proofs.Building.{all_no}
use Rattle.fab_sim.proofs.stepping.room_of.Goals as goal

pub returns : goal.returns
returns c text state loaded fresh =
    let given : c.len-count.result ≡ length c.args.machine.now.given.items = omega (arith, c.len-count.ensures) in
    let count : c.len-count.result ≡ length (points text) = given ∙ fresh.of.given in
    let zeros : c.in_ok-terns.terns.items ≡ replicate c.len-count.result No = c.in_ok-terns.ensures.items_if_clones_equal (λ y e. e) in
    let unknowns : c.in_ok-solution.solution.items ≡ replicate c.len-count.result Open = c.in_ok-solution.ensures.items_if_clones_equal (λ y e. e) in
    record {
      long = ap length zeros ∙ length-replicate c.len-count.result No ∙ count;
      zeros = λ point l.
          ap (λ (ts : List Tern). kept_tern ts point) zeros ∙ all_no c.len-count.result point (omega (arith, l, count));
      leads = subst (λ (n : ℕ). LeadToThemselves n c.in_ok-leads.leads.items) count c.in_ok-leads.ensures;
      solution = ap length unknowns ∙ length-replicate c.len-count.result Open ∙ count;
      order = subst (λ (n : ℕ). LeadToThemselves n c.in_ok-order.order.items) count c.in_ok-order.ensures;
      free = c.in_ok-free.ensures text state loaded fresh;
    }
