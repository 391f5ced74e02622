use Rattle.std.proofs.Common.{get_or, sym, ◌∙◌}
use Rattle.fab_astar.specs.Tables.{price_of}
use Rattle.fab_astar.proofs.Finding.{adds_held, adds_root}
use Rattle.fab_astar.proofs.walks.reach.Goals as goal

pub returns-in-Some-clause-found : goal.returns-in-Some-clause-found
returns-in-Some-clause-found g c = adds_held (g.F.Field.graph c.args.field.now) c.args.roots.now (price_of c.args.tables.now) c.args.goals.now c.args.tree.now.items c.push.new.self.items c.in-Some.goal c.in-Some.ensures.goal (sym (c.requires.held c.in-Some.goal) ∙ c.in-Some.ensures.held) c.in_ok-push.ensures.items

pub returns-in-Some-cheap_root-clause-found : goal.returns-in-Some-cheap_root-clause-found
returns-in-Some-cheap_root-clause-found g c =
    adds_root (g.F.Field.graph c.args.field.now) c.args.roots.now (price_of c.args.tables.now) c.args.goals.now c.args.tree.now.items c.push-in-Some-cheap_root.new.self.items c.in-Some-cheap_root.goal c.in-Some-cheap_root.ensures.goal c.in-Some-cheap_root.ensures.root c.in-Some-cheap_root.ensures.price
    (λ k d l. sym (c.requires.held (get_or c.args.goals.now k d)) ∙ c.in_default.ensures.none k d l)
    (λ k d l. c.requires.prices.some (get_or c.args.goals.now k d) (c.requires.goals k d l))
    c.in_ok-push-2.ensures.items
