use Rattle.std.proofs.Common.{◌≡◌, ◌∙◌, ◌∷◌, ◌+◌, [], sym, ap, subst, drop, List, MatchOption, map, Bor}
use Rattle.fab_blif_models.specs.declared.model.Statement.{Statement}
use Rattle.fab_blif_models.specs.Plain.{PlainStatement, plain_models, plain_statement}
use Rattle.fab_instances.specs.Places.{statements_of}
use Rattle.fab_blif.proofs.Lines.{line_met, statements_met}
use Rattle.fab_blif.proofs.walk.next_line.Goals as goal

pub returns-in-Some-clause-line : goal.returns-in-Some-clause-line
returns-in-Some-clause-line c =
    let frame = c.args.frame.now in
    let models = c.args.models.now in
    let model = c.in-Some.model.now in
    let found = c.in-Some.ensures.lookup.3 in
    let lines : c.deref.result.now ≡ model.statements.items = c.deref.ensures.value in
    let statements : statements_of (plain_models models) frame.model ≡ map plain_statement c.deref.result.now =
    (statements_met models frame.model model found.0 (found.1 model)) ∙ ap (λ (ls : List Statement). map plain_statement ls) (sym lines) in
    let met = line_met c.deref.result.now frame.next c.get-in-Some.result c.get-in-Some.ensures.lookup.3 in
    subst (λ (list : List PlainStatement). MatchOption c.get-in-Some.result (drop frame.next list ≡ []) (λ (l : Bor Statement). drop frame.next list ≡ plain_statement l.now ∷ drop (frame.next + 1) list)) (sym statements) met
