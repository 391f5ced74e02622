use Rattle.std.proofs.Common.{◌≡◌, ◌+◌, ◌-◌, ◌∙◌, true, sym, arith}
use Rattle.fab_sim.specs.fab_ordering_laws_Ordered.{ChangesKnown}
use Rattle.fab_simulate_command.proofs.Orders.{all_made, last_made, none_made, one_made}
use Rattle.fab_simulate_command.proofs.ordered.settle.Goals as goal

pub loop-block-init : goal.loop-block-init
loop-block-init c = λ text state draws before stands.
    let count = c.points.ensures text state draws before stands in
    let wide = c.from-most.ensures in
    none_made text state draws c.args.stepper.now (c.from-most.result + 1 - 0) before (omega (arith, count, wide)) stands

pub block-requires : goal.block-requires
block-requires c =
    let made = c.loop-block.invariant c.requires.0 c.requires.1 c.requires.2 c.requires.3 c.requires.4 in
    (c.requires.0, c.requires.1, c.requires.2, made.now, made.stands)

pub returns-then-not-block : goal.returns-then-not-block
returns-then-not-block c = λ text state draws before stands.
    let most = c.from-most.result + 1 in
    let below = c.loop-block-test.true in
    let made = c.loop-block.invariant text state draws before stands in
    let block = c.block.ensures text state draws made.now made.stands in
    let still : ChangesKnown text made.now block.0 → ⊥ = λ changes. let same : c.block.result ≡ true = block.3.1 changes in let differ = sym c.if-not-block.true ∙ same in cc in (
      block.0,
      last_made text state draws c.loop-block.stepper (most - c.loop-block._block) (most - (c.loop-block._block + 1)) before block.0 made (omega (arith, below)) block.1 still,
      block.2,
    )

pub loop-block-preserved : goal.loop-block-preserved
loop-block-preserved c = λ text state draws before stands.
    let most = c.from-most.result + 1 in
    let below = c.loop-block-test.true in
    let made = c.loop-block.invariant text state draws before stands in
    let block = c.block.ensures text state draws made.now made.stands in
    one_made text state draws c.loop-block.stepper c.block.new.self (most - c.loop-block._block) (most - (c.loop-block._block + 1)) before block.0 made (omega (arith, below)) block.1
    (block.3.0 c.if-not-block.false) block.2

pub returns : goal.returns
returns c = λ text state draws before stands.
    let most = c.from-most.result + 1 in
    let past = c.loop-block-test.false in
    let made = c.loop-block.invariant text state draws before stands in
    (made.now, all_made text state draws c.loop-block.stepper (most - c.loop-block._block) before made (omega (arith, past)), made.stands)
