use Rattle.std.proofs.Common.{◌≡◌, ◌++◌, ◌∙◌, length, map, take, drop, sym, ap}
use Rattle.std.proofs.Math.Seq.{take-append_seam}
use Rattle.std.proofs.lemmas.Result.{IfOk-weaker}
use Rattle.fab_systems_laws.specs.Ternary.{known}
use Rattle.fab_simulate_command.proofs.ordered.shown_in_order.Goals as goal

pub settle-requires : goal.settle-requires
settle-requires c =
    let begun = c.begin.ensures c.requires.0 c.requires.1 c.requires.2 c.requires.3 c.requires.4 c.requires.5 in
    (c.requires.0, c.requires.1, c.requires.2, begun.0, begun.2)

pub end-requires : goal.end-requires
end-requires c =
    let begun = c.begin.ensures c.requires.0 c.requires.1 c.requires.2 c.requires.3 c.requires.4 c.requires.5 in
    let settled = c.settle.ensures c.requires.0 c.requires.1 c.requires.2 begun.0 begun.2 in
    (length c.args.values.now, (c.requires.0, c.requires.1, c.requires.2, settled.0, settled.2, c.requires.5, c.requires.6 ∙ sym (c.deref_mut.ensures.len ∙ c.in_ok-outputs.ensures.len)))

pub returns : goal.returns
returns c = λ text state draws before stands ins outs.
    let new = c.end.new.outputs in
    let old = c.in_ok-outputs.outputs in
    let begun = c.begin.ensures text state draws before stands ins in
    let settled = c.settle.ensures text state draws begun.0 begun.2 in
    let ended = c.end.ensures text state draws settled.0 settled.2 (outs ∙ sym (c.deref_mut.ensures.len ∙ c.in_ok-outputs.ensures.len)) in
    let long : length new ≡ old.len = c.end.auto.outputs ∙ c.deref_mut.ensures.len in
    let whole : take old.len (new ++ drop (length new) old.items) ≡ new = ap (λ n. take n (new ++ drop (length new) old.items)) (sym long) ∙ take-append_seam new (drop (length new) old.items) in
    IfOk-weaker c.known_terns.result _ _
    (λ terns same. record {
      bits = new;
      known_is = same ∙ ap (map known) (c.deref.ensures.value ∙ whole);
      next = ended.0;
      cycle = record { begun = begun.0; at_rest = settled.0; begins = begun.1; blocks = settled.1; ends = ended.1 };
      stands = ended.2;
    }) c.known_terns.ensures
