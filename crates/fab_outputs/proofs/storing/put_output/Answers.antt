use Rattle.std.proofs.Common.{◌≡◌, ◌++◌, All, List, ℕ, sym, ap, ◌∙◌, subst}
use Rattle.std.specs.Str.{IsUtf8}
use Rattle.std.proofs.lemmas.List.Elements.{All-push}
use Rattle.std.proofs.lemmas.Str.{IsUtf8-append}
use Rattle.fab_outputs.specs.declared.storing.Output.{Output}
use Rattle.fab_outputs.proofs.storing.put_output.Goals as goal

pub returns-clause-names : goal.returns-clause-names
returns-clause-names c = λ base ending before.
    let IsNamed : Output → Type 0 = λ output. IsUtf8 output.name in
    let name_is : c.from.result ≡ c.args.base.now ++ c.args.ending.now =
    c.from.ensures ∙ c.in_ok-extend_from_slice.ensures.items ∙ ap (λ (front : List ℕ). front ++ c.args.ending.now) (c.in_ok-name.ensures.items ∙ c.bytes.ensures) in
    let named : IsUtf8 c.from.result = subst IsUtf8 (sym name_is) (IsUtf8-append c.args.base.now c.args.ending.now base ending) in
    let more = All-push IsNamed c.args.outputs.now.items (record { name = c.from.result; bytes = c.args.bytes }) before named in
    subst (All IsNamed) (sym c.in_ok-push.ensures.items) more
