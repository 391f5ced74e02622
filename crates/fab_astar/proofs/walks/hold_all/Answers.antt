use Rattle.std.proofs.Common.{false, ◌||◌, nat_eq, take, get_or, refl, sym, ◌∙◌, ap, arith}
use Rattle.std.proofs.lemmas.List.{take_all}
use Rattle.fab_astar.specs.Walks.{has}
use Rattle.fab_astar.specs.Tables.{is_held}
use Rattle.fab_astar.proofs.Members.{has_more, or_or, or_false}
use Rattle.fab_astar.proofs.walks.hold_all.Goals as goal

pub loop-node-init : goal.loop-node-init
loop-node-init c = record {
  tables = c.requires.tables;
  count = refl;
  price = refl;
  users = refl;
  held = λ w. sym (or_false (is_held c.args.tables.now w) false refl);
}

pub hold-requires-clause-node : goal.hold-requires-clause-node
hold-requires-clause-node c = omega (arith, c.requires.nodes c.loop-node.node-index 0 (omega arith), c.loop-node.invariant.count)

pub loop-node-preserved : goal.loop-node-preserved
loop-node-preserved c = record {
  tables = c.hold.ensures.tables;
  count = c.hold.ensures.held.count ∙ c.loop-node.invariant.count;
  price = c.hold.ensures.held.price ∙ c.loop-node.invariant.price;
  users = c.hold.ensures.held.users ∙ c.loop-node.invariant.users;
  held = λ w.
      c.hold.ensures.held.held w
      ∙ ap (λ b. b || nat_eq (get_or c.args.nodes.now c.loop-node.node-index 0) w) (c.loop-node.invariant.held w)
      ∙ or_or (is_held c.args.tables.now w) (has (take c.loop-node.node-index c.args.nodes.now) w) (nat_eq (get_or c.args.nodes.now c.loop-node.node-index 0) w)
      ∙ ap (λ b. is_held c.args.tables.now w || b) (sym (has_more c.args.nodes.now c.loop-node.node-index w (omega arith)));
}

pub returns-clause-held : goal.returns-clause-held
returns-clause-held c = λ w. c.loop-node.invariant.held w ∙ ap (λ xs. is_held c.args.tables.now w || has xs w) (take_all c.loop-node.node-index c.args.nodes.now (omega arith))
