use Rattle.std.proofs.Common.{rules, arith, ◌≡◌, ◌≤◌, length, sym, [], ◌∷◌}
use Rattle.fab_netlist.proofs.Marks.{few_covers}
use Rattle.fab_netlist.proofs.Finds.{all_done, all_listed, ended_of, one_more_done}
use Rattle.fab_netlist.proofs.walk.search_all.Goals as goal

pub overflow_cast-start : goal.overflow_cast-start
overflow_cast-start c =
    let count : length c.netlist.inside.covers.now ≡ length c.args.netlist.now.covers = search rules in
    omega (arith, count, c.loop-start-test.true, few_covers c.args.netlist.now c.requires.wired)

pub loop-start-preserved : goal.loop-start-preserved
loop-start-preserved c =
    let ended = ended_of c.args.netlist.now c.loop-start.marks c.search_from.new.marks (c.loop-start.start ∷ []) c.search_from.new.path.items c.in_ok-met.met c.in_ok-met.ensures.found (sym c.if-is_some.ensures) in
    record {
      empty = ended.empty;
      state = ended.state;
      listed = c.in_ok-met.ensures.listed;
      done = one_more_done c.args.netlist.now c.loop-start.marks c.search_from.new.marks c.loop-start.start c.search_from.new.path.items ended c.loop-start.invariant.done;
    }

pub returns : goal.returns
returns c =
    let count : length c.netlist.inside.covers.now ≡ length c.args.netlist.now.covers = search rules in
    let enough : length c.args.netlist.now.covers ≤ c.loop-start.start = omega (arith, count, c.loop-start-test.false) in (
      all_listed c.args.netlist.now c.loop-start.marks c.loop-start.order.items c.loop-start.start c.loop-start.invariant.listed c.loop-start.invariant.done enough,
      all_done c.args.netlist.now c.loop-start.marks c.loop-start.start c.loop-start.invariant.state c.loop-start.invariant.done enough,
    )
