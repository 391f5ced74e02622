use Rattle.std.proofs.Common.{All, codes, refl, sym, subst}
use Rattle.std.specs.Str.{IsUtf8}
use Rattle.std.proofs.lemmas.List.Elements.{All-nil}
use Rattle.fab_outputs.specs.declared.storing.Output.{Output}
use Rattle.fab_flow.proofs.assembling.outputs_of.Goals as goal

pub returns-clause-names : goal.returns-clause-names
unfolding lib.Utf8.encode
returns-clause-names c = λ base.
    let IsNamed : Output → Type 0 = λ output. IsUtf8 output.name in
    let none = subst (All IsNamed) (sym c.new-outputs.ensures.items) (All-nil IsNamed) in
    c.in_ok-put_output-3.ensures.names base (codes ".state", (refl, refl))
    (c.in_ok-put_output-2.ensures.names base (codes ".bit", (refl, refl)) (c.in_ok-put_output.ensures.names base (codes ".fasm", (refl, refl)) none))
