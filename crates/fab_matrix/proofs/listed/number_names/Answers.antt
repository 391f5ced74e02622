use Rattle.fab_select.specs.declared.pair.Pair.{Pair}
use Rattle.fab_matrix.specs.Names.{Name}
use Rattle.fab_bits.specs.Keys.{key_names}
use Rattle.fab_matrix.proofs.Places.{pair_numbered}
use Rattle.fab_matrix.proofs.listed.number_names.Goals as goal

pub loop-pair-preserved : goal.loop-pair-preserved
loop-pair-preserved c =
    let pairs = c.args.pairs.now in
    let i = c.loop-pair.pair-index in
    let pair = c.pair-item.result in
    let new : Pair = record { output = c.in_ok-output.output; input = c.in_ok-input.input } in
    record {
      outputs =
          pair_numbered (λ (p : Name × Name). p.0) (λ (p : Pair). p.output) pairs i pair c.loop-pair.numbers.items c.push.new.self.items new
          (key_names c.loop-pair.outputs.keys) (key_names c.number_of.new.places.keys) c.loop-pair-test.true c.pair-item.is
          c.in_ok-push.ensures.items c.in_ok-output.ensures.number c.in_ok-output.ensures.keys c.loop-pair.invariant.outputs;
      inputs =
          pair_numbered (λ (p : Name × Name). p.1) (λ (p : Pair). p.input) pairs i pair c.loop-pair.numbers.items c.push.new.self.items new
          (key_names c.loop-pair.inputs.keys) (key_names c.number_of-in-loop-pair.new.places.keys) c.loop-pair-test.true c.pair-item.is
          c.in_ok-push.ensures.items c.in_ok-input.ensures.number c.in_ok-input.ensures.keys c.loop-pair.invariant.inputs;
    }
