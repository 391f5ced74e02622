use Rattle.std.proofs.Common.{All, codes, refl, sym, subst}
use Rattle.std.specs.Str.{IsUtf8}
use Rattle.std.proofs.lemmas.List.Elements.{All-append, All-nil}
use Rattle.fab_outputs.specs.declared.storing.Output.{Output}
use Rattle.fab_flow.proofs.flowing.with_sources.Goals as goal

pub returns-clause-names : goal.returns-clause-names
unfolding lib.Utf8.encode
returns-clause-names c = λ base others.
    let IsNamed : Output → Type 0 = λ output. IsUtf8 output.name in
    let none = subst (All IsNamed) (sym c.new-outputs.ensures.items) (All-nil IsNamed) in
    let sources = c.in_ok-put_output-2.ensures.names base (codes ".impl", (refl, refl)) (c.in_ok-put_output.ensures.names base (codes ".v", (refl, refl)) none) in
    subst (All IsNamed) (sym c.in_ok-append.ensures.items) (All-append IsNamed c.put_output-2.new.outputs.items c.args.assembled.items sources others)
