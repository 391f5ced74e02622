use Rattle.std.proofs.Common.{◌≡◌, ◌++◌, [], ◌∷◌, length, map, take, reverse, sym, ap, subst, ◌∙◌, arith}
use Rattle.std.proofs.lemmas.List.{length-append}
use Rattle.fab_syntax.specs.Plain.{plain_module}
use Rattle.fab_equations.specs.Numbers.{AreNumbers, lists}
use Rattle.fab_equations.proofs.Counted.{reversed_push}
use Rattle.fab_equations.proofs.Numbered.{children_push, behind_length}
use Rattle.fab_equations.proofs.instances.module_children.Goals as goal

pub loop-definition-preserved : goal.loop-definition-preserved
loop-definition-preserved c =
    let modules = c.args.modules.now in
    let i = c.loop-definition.definition-index in
    let m = c.definition-item.result in
    let behind = reverse (map plain_module (take i modules)) in
    let children = c.loop-definition.children.items in
    let within = c.loop-definition-test.true in
    let long : c.len.result ≡ length behind = omega (arith, c.len.ensures, c.loop-definition.invariant.2, behind_length modules i (omega (arith, within))) in
    let pushed : length c.push.new.self.items ≡ length (children ++ c.in_ok-inside.inside ∷ []) = ap length c.in_ok-push.ensures.items in (
      ap lists c.in_ok-push.ensures.items
          ∙ children_push modules i m children c.in_ok-inside.inside within c.definition-item.is c.loop-definition.invariant.0
          (c.in_ok-inside.ensures behind c.loop-definition.invariant.1),
      subst (λ ms. AreNumbers ms c.note_number.new.numbers.entries) (sym (reversed_push modules i m within c.definition-item.is))
          (c.in_ok-note_number.ensures behind long c.loop-definition.invariant.1),
      omega (arith, pushed, length-append children (c.in_ok-inside.inside ∷ []), c.loop-definition.invariant.2),
    )
