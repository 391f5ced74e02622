use Rattle.std.proofs.Common.{◌≡◌, get_or, ap, arith, rules}
use Rattle.fab_syntax.specs.Declarations.{module_named}
use Rattle.fab_sound.specs.inner.Checks.{count_at, library_text}
use Rattle.fab_sound.proofs.Driven.{join_drives_one, join_drives_none}
use Rattle.fab_sound.proofs.drivers.count_joins.Goals as goal
use Rattle.fab_sound.proofs.drivers.count_joins.Goals.{in-Some+in_ok-count_up-in-Some, in-None}

pub loop-join-preserved : goal.loop-join-preserved
loop-join-preserved c = λ other.
    let item : c.join-item.result ≡ get_or c.args.joins.now c.loop-join.join-index c.join-item.result = search rules in
    elim c.match-driven_by.branch [
      | in-Some+in_ok-count_up-in-Some w ↦ (let step = join_drives_one (module_named (library_text c.args.library.now) c.args.of.now) c.args.joins.now c.loop-join.join-index c.join-item.result
          c.loop-join-test.true item other w.in-Some.name.now w.in-Some.ensures in
          let now = ap (λ counts. count_at counts other) w.driven-is in
          omega (arith, step, now, w.in_ok-count_up-in-Some.ensures other, c.loop-join.invariant other))
      | in-None w ↦ (let step = join_drives_none (module_named (library_text c.args.library.now) c.args.of.now) c.args.joins.now c.loop-join.join-index c.join-item.result
          c.loop-join-test.true item other w.in-None.ensures in
          let now = ap (λ counts. count_at counts other) w.driven-is in
          omega (arith, step, now, c.loop-join.invariant other))
    ]
