use Rattle.std.proofs.Common.{ℕ, ◌<◌, List, get_or, sym, ◌∙◌, subst}
use Rattle.std.proofs.lemmas.List.Elements.{All-append}
use Rattle.fab_astar.specs.Scene.{ArePrices, scene_of}
use Rattle.fab_astar.specs.State.{IsShaped}
use Rattle.fab_astar.specs.Tables.{state_of, prices}
use Rattle.fab_astar.proofs.Seeding.{fresh}
use Rattle.fab_astar.proofs.Finding.{scene_right, found_again}
use Rattle.fab_astar.proofs.walks.seek.Goals as goal

pub seed-requires-clause-seeded : goal.seed-requires-clause-seeded
seed-requires-clause-seeded g c =
    fresh (scene_of (g.F.Field.graph c.args.field.now) (g.F.Field.rest c.args.field.now) c.guide_to-guide.result c.deref.result.now (prices c.begin.new.self)) (state_of c.begin.new.self) c.begin.new.self.queue
    (subst (λ n. IsShaped n (state_of c.begin.new.self)) (c.begin.ensures.kept.count ∙ c.requires.count) c.begin.ensures.tables.shape) c.begin.ensures.empty c.begin.ensures.unseen

pub walk_back-requires-clause-scene : goal.walk_back-requires-clause-scene
walk_back-requires-clause-scene g c =
    scene_right (g.F.Field.graph c.args.field.now) (g.F.Field.rest c.args.field.now) c.guide_to-guide.result c.args.tree.now.items (prices c.explore.new.tables) c.requires.graph c.requires.bound
    (subst (λ (ps : List ℕ). ArePrices (g.F.Field.graph c.args.field.now).nodes (λ w. get_or ps w 0)) (sym (c.in_ok-goal.ensures.kept.price ∙ c.in_ok-seed-2.ensures.kept.price ∙ c.in_ok-seed.ensures.kept.price ∙ c.begin.ensures.kept.price)) c.requires.prices)

pub returns-clause-found : goal.returns-clause-found
returns-clause-found g c =
    found_again (g.F.Field.graph c.args.field.now) (g.F.Field.rest c.args.field.now) c.guide_to-guide.result c.args.roots.now c.args.goals.now c.args.tree.now.items c.deref-5.result.now (prices c.args.tables.now) (prices c.seed-2.new.tables) (prices c.explore.new.tables) (state_of c.explore.new.tables) c.in-Some.goal c.walk_back.new.tree.items
    c.deref-5.ensures.value (c.in_ok-seed-2.ensures.kept.price ∙ c.in_ok-seed.ensures.kept.price ∙ c.begin.ensures.kept.price) (c.in_ok-goal.ensures.kept.price ∙ c.in_ok-seed-2.ensures.kept.price ∙ c.in_ok-seed.ensures.kept.price ∙ c.begin.ensures.kept.price) c.in_ok-walk_back.ensures (rw c.in-Some.is at c.in_ok-goal.ensures.goal) (rw c.in-Some.is at c.in_ok-goal.ensures.least)

pub returns-clause-inside : goal.returns-clause-inside
returns-clause-inside g c = rw c.in_ok-walk_back.ensures.is (All-append (λ w. w < (g.F.Field.graph c.args.field.now).nodes) c.args.tree.now.items c.in_ok-walk_back.ensures.path c.requires.tree c.in_ok-walk_back.ensures.inside)
