use Rattle.std.proofs.Common.{ℕ, ◌≤◌, List, length, sym, ◌∙◌, ap, subst, rules, arith}
use Rattle.std.proofs.lemmas.List.{length-map}
use Rattle.std.proofs.lemmas.Option.{IfSome_then}
use Rattle.fab_astar.specs.Tables.{users_of}
use Rattle.fab_pathfinder.specs.Rounds.{Paths, last_trees, no_trees, users}
use Rattle.fab_pathfinder.specs.Plain.{net_of, nets_of, trees_of, rounds_of}
use Rattle.fab_pathfinder.proofs.Passes.{users-le, trees_long}
use Rattle.fab_pathfinder.proofs.Running.{AreInside, trees_inside, inside_trees, running_first, latest_is, round_at, run_last, run_on, run_next, rounds_push, some_shared, none_shared, IfNone-weaker}
use Rattle.fab_pathfinder.proofs.rounds.negotiate.Goals as goal

pub loop-number-init : goal.loop-number-init
loop-number-init g c = record {
  tables = c.in_ok-tables.ensures.tables;
  count = omega (arith, c.in_ok-tables.ensures.count, c.requires.nodes);
  long = omega (arith, c.in_ok-past.ensures.len, c.in_ok-tables.ensures.count);
  running = running_first (g.F.Field.graph c.args.field.now) (nets_of c.args.nets.now) (rounds_of c.new-rounds.result.items) c.in_ok-tables.tables c.in_ok-past.past.items c.args.nodes (ap rounds_of c.new-rounds.ensures.items) c.in_ok-tables.ensures.unused (c.in_ok-past.ensures.items_if_clones_equal (λ y same. same));
  found = tt;
  least = tt;
  apart = λ w. omega (arith, c.in_ok-tables.ensures.unused w);
  few = omega (arith, c.new-hope.ensures);
  slow = omega (arith, c.new-hope.ensures);
}

pub run_round-requires-clause-old : goal.run_round-requires-clause-old
run_round-requires-clause-old g c = omega (arith, trees_long c.latest-old.result.now, ap (λ (ts : List Paths). length ts) (latest_is c.latest-old.result.now c.in_ok-bare.bare.items c.deref-in-loop-number.result.now c.loop-number.rounds.items c.deref.result.now c.args.nets.now c.latest-old.ensures c.deref-in-loop-number.ensures.value c.deref.ensures.value c.in_ok-bare.ensures.count c.in_ok-bare.ensures.walks), c.loop-number.invariant.running.trees, length-map c.args.nets.now net_of)

pub run_round-requires-clause-inside : goal.run_round-requires-clause-inside
run_round-requires-clause-inside g c =
    trees_inside (g.F.Field.graph c.args.field.now).nodes c.latest-old.result.now (subst (λ (ts : List Paths). AreInside (g.F.Field.graph c.args.field.now).nodes ts) (sym (latest_is c.latest-old.result.now c.in_ok-bare.bare.items c.deref-in-loop-number.result.now c.loop-number.rounds.items c.deref.result.now c.args.nets.now c.latest-old.ensures c.deref-in-loop-number.ensures.value c.deref.ensures.value c.in_ok-bare.ensures.count c.in_ok-bare.ensures.walks)) c.loop-number.invariant.running.inside)

pub run_round-requires-clause-counted : goal.run_round-requires-clause-counted
run_round-requires-clause-counted g c = λ w. c.loop-number.invariant.running.counted w ∙ ap (λ (ts : List Paths). users ts w) (sym (latest_is c.latest-old.result.now c.in_ok-bare.bare.items c.deref-in-loop-number.result.now c.loop-number.rounds.items c.deref.result.now c.args.nets.now c.latest-old.ensures c.deref-in-loop-number.ensures.value c.deref.ensures.value c.in_ok-bare.ensures.count c.in_ok-bare.ensures.walks))

pub remember-requires-clause-room : goal.remember-requires-clause-room
remember-requires-clause-room g c = λ w.
    omega (arith, c.loop-number.invariant.running.past_low w, (rw c.in-Ok.is at c.in_ok-trees.ensures.counted) w, users-le (trees_of c.in-Ok.trees.items) w, (round_at (g.F.Field.graph c.args.field.now) (nets_of c.args.nets.now) c.loop-number.past.items c.deref-in-loop-number-2.result.now c.loop-number.number (last_trees (no_trees (nets_of c.args.nets.now)) (rounds_of c.loop-number.rounds.items)) (trees_of c.latest-old.result.now) (trees_of c.in-Ok.trees.items) c.deref-in-loop-number-2.ensures.value (latest_is c.latest-old.result.now c.in_ok-bare.bare.items c.deref-in-loop-number.result.now c.loop-number.rounds.items c.deref.result.now c.args.nets.now c.latest-old.ensures c.deref-in-loop-number.ensures.value c.deref.ensures.value c.in_ok-bare.ensures.count c.in_ok-bare.ensures.walks) (rw c.in-Ok.is at c.in_ok-trees.ensures.round)).all, length-map c.args.nets.now net_of, c.requires.few, c.requires.limit, c.loop-number-test.true)

pub returns-then-is_none-clause-run : goal.returns-then-is_none-clause-run
returns-then-is_none-clause-run g c = run_on (g.F.Field.graph c.args.field.now) (nets_of c.args.nets.now) (rounds_of c.loop-number.rounds.items) (rounds_of c.push.new.self.items) c.loop-number.tables c.run_round.new.tables c.loop-number.past.items c.remember.new.past.items c.loop-number.number (trees_of c.in-Ok.trees.items) (rounds_push c.loop-number.rounds.items c.push.new.self.items (record { trees = c.in-Ok.trees }) c.in_ok-push.ensures.items) c.loop-number.invariant.running (round_at (g.F.Field.graph c.args.field.now) (nets_of c.args.nets.now) c.loop-number.past.items c.deref-in-loop-number-2.result.now c.loop-number.number (last_trees (no_trees (nets_of c.args.nets.now)) (rounds_of c.loop-number.rounds.items)) (trees_of c.latest-old.result.now) (trees_of c.in-Ok.trees.items) c.deref-in-loop-number-2.ensures.value (latest_is c.latest-old.result.now c.in_ok-bare.bare.items c.deref-in-loop-number.result.now c.loop-number.rounds.items c.deref.result.now c.args.nets.now c.latest-old.ensures c.deref-in-loop-number.ensures.value c.deref.ensures.value c.in_ok-bare.ensures.count c.in_ok-bare.ensures.walks) (rw c.in-Ok.is at c.in_ok-trees.ensures.round)) (rw c.in-Ok.is at c.in_ok-trees.ensures.counted)

pub returns-then-is_none-clause-apart : goal.returns-then-is_none-clause-apart
returns-then-is_none-clause-apart g c = λ w.
    omega (arith, ap (λ (ts : List Paths). users ts w) (run_last (g.F.Field.graph c.args.field.now) (nets_of c.args.nets.now) (rounds_of c.loop-number.rounds.items) (rounds_of c.push.new.self.items) c.loop-number.tables c.run_round.new.tables c.loop-number.past.items c.remember.new.past.items c.loop-number.number (trees_of c.in-Ok.trees.items) (rounds_push c.loop-number.rounds.items c.push.new.self.items (record { trees = c.in-Ok.trees }) c.in_ok-push.ensures.items) c.loop-number.invariant.running (round_at (g.F.Field.graph c.args.field.now) (nets_of c.args.nets.now) c.loop-number.past.items c.deref-in-loop-number-2.result.now c.loop-number.number (last_trees (no_trees (nets_of c.args.nets.now)) (rounds_of c.loop-number.rounds.items)) (trees_of c.latest-old.result.now) (trees_of c.in-Ok.trees.items) c.deref-in-loop-number-2.ensures.value (latest_is c.latest-old.result.now c.in_ok-bare.bare.items c.deref-in-loop-number.result.now c.loop-number.rounds.items c.deref.result.now c.args.nets.now c.latest-old.ensures c.deref-in-loop-number.ensures.value c.deref.ensures.value c.in_ok-bare.ensures.count c.in_ok-bare.ensures.walks) (rw c.in-Ok.is at c.in_ok-trees.ensures.round)) (rw c.in-Ok.is at c.in_ok-trees.ensures.counted)), (rw c.in-Ok.is at c.in_ok-trees.ensures.counted) w, none_shared c.shared_nodes-left.result.least ((w : ℕ) → users_of c.run_round.new.tables w ≤ 1) (search rules) c.shared_nodes-left.ensures.none w)

pub returns-then-is_lost-clause-run : goal.returns-then-is_lost-clause-run
returns-then-is_lost-clause-run g c = run_on (g.F.Field.graph c.args.field.now) (nets_of c.args.nets.now) (rounds_of c.loop-number.rounds.items) (rounds_of c.push.new.self.items) c.loop-number.tables c.run_round.new.tables c.loop-number.past.items c.remember.new.past.items c.loop-number.number (trees_of c.in-Ok.trees.items) (rounds_push c.loop-number.rounds.items c.push.new.self.items (record { trees = c.in-Ok.trees }) c.in_ok-push.ensures.items) c.loop-number.invariant.running (round_at (g.F.Field.graph c.args.field.now) (nets_of c.args.nets.now) c.loop-number.past.items c.deref-in-loop-number-2.result.now c.loop-number.number (last_trees (no_trees (nets_of c.args.nets.now)) (rounds_of c.loop-number.rounds.items)) (trees_of c.latest-old.result.now) (trees_of c.in-Ok.trees.items) c.deref-in-loop-number-2.ensures.value (latest_is c.latest-old.result.now c.in_ok-bare.bare.items c.deref-in-loop-number.result.now c.loop-number.rounds.items c.deref.result.now c.args.nets.now c.latest-old.ensures c.deref-in-loop-number.ensures.value c.deref.ensures.value c.in_ok-bare.ensures.count c.in_ok-bare.ensures.walks) (rw c.in-Ok.is at c.in_ok-trees.ensures.round)) (rw c.in-Ok.is at c.in_ok-trees.ensures.counted)

pub returns-then-is_lost-clause-shared : goal.returns-then-is_lost-clause-shared
returns-then-is_lost-clause-shared g c =
    let last = (run_last (g.F.Field.graph c.args.field.now) (nets_of c.args.nets.now) (rounds_of c.loop-number.rounds.items) (rounds_of c.push.new.self.items) c.loop-number.tables c.run_round.new.tables c.loop-number.past.items c.remember.new.past.items c.loop-number.number (trees_of c.in-Ok.trees.items) (rounds_push c.loop-number.rounds.items c.push.new.self.items (record { trees = c.in-Ok.trees }) c.in_ok-push.ensures.items) c.loop-number.invariant.running (round_at (g.F.Field.graph c.args.field.now) (nets_of c.args.nets.now) c.loop-number.past.items c.deref-in-loop-number-2.result.now c.loop-number.number (last_trees (no_trees (nets_of c.args.nets.now)) (rounds_of c.loop-number.rounds.items)) (trees_of c.latest-old.result.now) (trees_of c.in-Ok.trees.items) c.deref-in-loop-number-2.ensures.value (latest_is c.latest-old.result.now c.in_ok-bare.bare.items c.deref-in-loop-number.result.now c.loop-number.rounds.items c.deref.result.now c.args.nets.now c.latest-old.ensures c.deref-in-loop-number.ensures.value c.deref.ensures.value c.in_ok-bare.ensures.count c.in_ok-bare.ensures.walks) (rw c.in-Ok.is at c.in_ok-trees.ensures.round)) (rw c.in-Ok.is at c.in_ok-trees.ensures.counted)) in
    IfSome_then c.shared_nodes-left.result.least c.shared_nodes-left.ensures.found (λ w h. omega (arith, h, (rw c.in-Ok.is at c.in_ok-trees.ensures.counted) w, ap (λ (ts : List Paths). users ts w) last))

pub returns-then-is_lost-clause-least : goal.returns-then-is_lost-clause-least
returns-then-is_lost-clause-least g c =
    let last = (run_last (g.F.Field.graph c.args.field.now) (nets_of c.args.nets.now) (rounds_of c.loop-number.rounds.items) (rounds_of c.push.new.self.items) c.loop-number.tables c.run_round.new.tables c.loop-number.past.items c.remember.new.past.items c.loop-number.number (trees_of c.in-Ok.trees.items) (rounds_push c.loop-number.rounds.items c.push.new.self.items (record { trees = c.in-Ok.trees }) c.in_ok-push.ensures.items) c.loop-number.invariant.running (round_at (g.F.Field.graph c.args.field.now) (nets_of c.args.nets.now) c.loop-number.past.items c.deref-in-loop-number-2.result.now c.loop-number.number (last_trees (no_trees (nets_of c.args.nets.now)) (rounds_of c.loop-number.rounds.items)) (trees_of c.latest-old.result.now) (trees_of c.in-Ok.trees.items) c.deref-in-loop-number-2.ensures.value (latest_is c.latest-old.result.now c.in_ok-bare.bare.items c.deref-in-loop-number.result.now c.loop-number.rounds.items c.deref.result.now c.args.nets.now c.latest-old.ensures c.deref-in-loop-number.ensures.value c.deref.ensures.value c.in_ok-bare.ensures.count c.in_ok-bare.ensures.walks) (rw c.in-Ok.is at c.in_ok-trees.ensures.round)) (rw c.in-Ok.is at c.in_ok-trees.ensures.counted)) in
    IfSome_then c.shared_nodes-left.result.least c.shared_nodes-left.ensures.least (λ w h. λ v l. omega (arith, h v l, (rw c.in-Ok.is at c.in_ok-trees.ensures.counted) v, ap (λ (ts : List Paths). users ts v) last))

pub loop-number-preserved : goal.loop-number-preserved
loop-number-preserved g c = record {
  tables = c.in_ok-trees.ensures.tables;
  count = c.in_ok-trees.ensures.count ∙ c.loop-number.invariant.count;
  long = omega (arith, c.remember.ensures.long, c.in_ok-trees.ensures.count, c.loop-number.invariant.long);
  running =
      let shared = some_shared c.shared_nodes-left.result.least (λ w. 2 ≤ users_of c.run_round.new.tables w) (search rules) c.shared_nodes-left.ensures.found in
      let two : 2 ≤ users (trees_of c.in-Ok.trees.items) shared.0 = omega (arith, shared.1, (rw c.in-Ok.is at c.in_ok-trees.ensures.counted) shared.0) in
      run_next (g.F.Field.graph c.args.field.now) (nets_of c.args.nets.now) (rounds_of c.loop-number.rounds.items) (rounds_of c.push.new.self.items) c.loop-number.tables c.run_round.new.tables c.loop-number.past.items c.remember.new.past.items c.loop-number.number (trees_of c.in-Ok.trees.items) (rounds_push c.loop-number.rounds.items c.push.new.self.items (record { trees = c.in-Ok.trees }) c.in_ok-push.ensures.items) c.loop-number.invariant.running (round_at (g.F.Field.graph c.args.field.now) (nets_of c.args.nets.now) c.loop-number.past.items c.deref-in-loop-number-2.result.now c.loop-number.number (last_trees (no_trees (nets_of c.args.nets.now)) (rounds_of c.loop-number.rounds.items)) (trees_of c.latest-old.result.now) (trees_of c.in-Ok.trees.items) c.deref-in-loop-number-2.ensures.value (latest_is c.latest-old.result.now c.in_ok-bare.bare.items c.deref-in-loop-number.result.now c.loop-number.rounds.items c.deref.result.now c.args.nets.now c.latest-old.ensures c.deref-in-loop-number.ensures.value c.deref.ensures.value c.in_ok-bare.ensures.count c.in_ok-bare.ensures.walks) (rw c.in-Ok.is at c.in_ok-trees.ensures.round)) (rw c.in-Ok.is at c.in_ok-trees.ensures.counted) c.remember.ensures.past (omega (arith, length-map c.args.nets.now net_of, c.requires.few)) (shared.0, two)
      (inside_trees (g.F.Field.graph c.args.field.now).nodes c.in-Ok.trees.items (rw c.in-Ok.is at c.in_ok-trees.ensures.inside));
  found = c.shared_nodes-left.ensures.found;
  least = c.shared_nodes-left.ensures.least;
  apart = c.shared_nodes-left.ensures.none;
  few = c.after-hope.ensures.few;
  slow = omega (arith, c.after-hope.ensures.slow, c.loop-number.invariant.slow);
}

pub returns-clause-apart : goal.returns-clause-apart
returns-clause-apart g c =
    IfNone-weaker c.loop-number.shared ((w : ℕ) → users_of c.loop-number.tables w ≤ 1) ((w : ℕ) → users (last_trees (no_trees (nets_of c.args.nets.now)) (rounds_of c.loop-number.rounds.items)) w ≤ 1) (λ h w. omega (arith, h w, c.loop-number.invariant.running.counted w)) c.loop-number.invariant.apart

pub returns-clause-least : goal.returns-clause-least
returns-clause-least g c =
    IfSome_then c.loop-number.shared c.loop-number.invariant.least (λ w h. λ v l. omega (arith, h v l, c.loop-number.invariant.running.counted v))
