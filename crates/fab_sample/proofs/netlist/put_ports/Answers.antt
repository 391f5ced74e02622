use Rattle.std.proofs.Common.{◌≡◌, ◌∷◌, ◌++◌, [], List, codes, ◌∙◌, ap}
use Rattle.std.proofs.lemmas.Result.{on_ok_weaker}
use Rattle.fab_sample.specs.declared.net.Net.{Net}
use Rattle.fab_sample.specs.Lines.{Line, text}
use Rattle.fab_sample.specs.Netlists.{inputs, names, outputs}
use Rattle.fab_sample.proofs.Steps.{put_more}
use Rattle.fab_sample.proofs.netlist.put_ports.Goals as goal

pub returns : goal.returns
returns c =
    let start = c.args.out.now.items in
    let a = c.put_line.new.out.items in
    let b = c.put_net_line.new.out.items in
    let d = c.put_net_line-2.new.out.items in
    let model : List Line = codes ".model sample" ∷ [] in
    let ins : List Net → List Line = λ nets. (codes ".inputs " ++ names nets) ∷ [] in
    let outs : List Net → List Line = λ nets. (codes ".outputs " ++ names nets) ∷ [] in
    let put_ins : b ≡ a ++ text (ins (inputs c.args.size)) =
    c.in_ok-put_net_line.ensures ∙ ap (λ (nets : List Net). a ++ text (ins nets)) (c.deref.ensures.value ∙ c.in_ok-inputs.ensures) in
    let two = put_more start a b model (ins (inputs c.args.size)) c.in_ok-put_line.ensures put_ins in
    on_ok_weaker c.put_net_line-2.result (λ (put : d ≡ b ++ text (outs c.deref-2.result.now)).
    put_more start b d (model ++ ins (inputs c.args.size)) (outs (outputs c.args.size)) two
    (put ∙ ap (λ (nets : List Net). b ++ text (outs nets)) (c.deref-2.ensures.value ∙ c.in_ok-outputs.ensures))) c.put_net_line-2.ensures
