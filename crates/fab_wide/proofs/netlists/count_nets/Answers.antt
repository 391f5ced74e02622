use Rattle.std.proofs.Common.{rules, ◌≡◌, length, arith, ap}
use Rattle.std.proofs.lemmas.List.{length-map}
use Rattle.fab_netlist.specs.Wide.{tabled, tabled_cover}
use Rattle.fab_netlist.proofs.Marks.{few_covers}
use Rattle.fab_wide.proofs.netlists.count_nets.Goals as goal

pub overflow_add-count : goal.overflow_add-count
overflow_add-count c =
    let wide = c.args.netlist.now in
    let covers : c.deref-cover-items.result.now ≡ wide.covers = search rules in
    omega (
      arith,
      c.loop-cover.invariant.few,
      c.loop-cover-test.true,
      ap length covers,
      length-map wide.covers tabled_cover,
      few_covers (tabled wide) c.requires.wired,
      c.from.ensures,
      c.in_ok-taken_by.ensures.small,
    )
