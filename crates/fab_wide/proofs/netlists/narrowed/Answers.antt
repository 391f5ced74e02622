use Rattle.std.proofs.Common.{rules, ◌≡◌, ◌+◌, ◌-◌, ◌≤◌, ◌++◌, [], None, length, map, replicate, arith, sym, ap, ◌∙◌, subst}
use Rattle.fab_netlist.specs.Plain.{PlainNetlist}
use Rattle.fab_netlist.specs.WellMade.{IsWellMade, most_nets}
use Rattle.fab_netlist.specs.Wide.{tabled, tabled_cover}
use Rattle.fab_wide.specs.Split.{all_parts, all_taken, split_of}
use Rattle.fab_wide.proofs.Whole.{split_is_made}
use Rattle.fab_wide.proofs.netlists.narrowed.Goals as goal

pub new-requires : goal.new-requires
new-requires c =
    let wide = c.args.netlist.now in
    let names : c.deref.result.now ≡ wide.nets = search rules in
    let inputs : c.deref-2.result.now ≡ wide.inputs = search rules in
    let outputs : c.deref-3.result.now ≡ wide.outputs = search rules in
    let covers : c.deref-4.result.now ≡ wide.covers = search rules in
    let latches : c.deref-5.result.now ≡ wide.latches = search rules in
    let fresh : c.len.result ≡ length wide.nets = search rules in
    let count : c.args.count ≡ length wide.nets + all_taken (tabled wide).covers = c.requires.count in
    let more : c.args.count - length wide.nets ≡ all_taken (tabled wide).covers = omega (arith, count) in
    let all_names = c.in_ok-nets.ensures ∙ (λ j. names j ++ replicate (c.args.count - length (names j)) []) ∙ ap (λ k. wide.nets ++ replicate k []) more in
    let all_covers = c.in_ok-covers.ensures ∙ (λ j. all_parts (map tabled_cover (covers j)) (fresh j)) in
    let all_inputs = c.in_ok-inputs.ensures.items ∙ inputs in
    let all_outputs = c.in_ok-outputs.ensures.items ∙ outputs in
    let all_latches = c.in_ok-latches.ensures.items ∙ latches in
    let made : PlainNetlist = record {
      nets = c.in_ok-nets.nets.items;
      inputs = c.in_ok-inputs.inputs.items;
      outputs = c.in_ok-outputs.outputs.items;
      covers = c.in_ok-covers.covers.items;
      latches = c.in_ok-latches.latches.items;
      reset = None;
    } in
    let same : made ≡ split_of (tabled wide) = λ j. record {
      nets = all_names j;
      inputs = all_inputs j;
      outputs = all_outputs j;
      covers = all_covers j;
      latches = all_latches j;
      reset = None;
    } in
    subst (λ (netlist : PlainNetlist). IsWellMade netlist) (sym same) (split_is_made wide c.requires.made (subst (λ k. k ≤ most_nets) count c.requires.fits))
