use Rattle.std.proofs.Common.{◌≡◌, ◌<◌, ◌≤◌, ◌+◌, ℕ, Bool, List, [], ◌∷◌, ◌++◌, length, map, drop, sym, ap, ◌∙◌, subst, arith}
use Rattle.std.proofs.Math.ListN.{drop_of_length-le}
use Rattle.std.proofs.lemmas.List.{length-map, map-append}
use Rattle.fab_systems_laws.specs.Ternary.{Tern as PlainTern}
use Rattle.fab_ternary.specs.Terns.{plain_tern}
use Rattle.fab_simulate_command.proofs.Goings.{HasGone, all_shown, drop_mapped, full_at, goes_on}
use Rattle.fab_simulate_command.proofs.running.cycles.Goals as goal

pub shown-requires : goal.shown-requires
shown-requires g c =
    let state = c.requires.1 in
    let gone = c.loop-line.invariant c.requires.0 state c.requires.2 c.requires.3 in
    let full = full_at (λ line. line.items) c.args.lines.now state c.loop-line.line-index c.line-item.result c.loop-line-test.true c.line-item.is c.requires.4 in
    (c.requires.0, state, gone.goes.held, gone.goes.at, ap length c.deref.ensures.value ∙ full, c.requires.5)

pub loop-line-preserved : goal.loop-line-preserved
loop-line-preserved g c = λ text state shown goes.
    let gone = c.loop-line.invariant text state shown goes in
    let line = c.line-item.result in
    let lines = map (λ line. line.items) c.args.lines.now in
    let later = drop (c.loop-line.line-index + 1) lines in
    let traced = c.loop-line.traced.items in
    let outputs = c.in_ok-outputs.outputs in
    let done = map (λ line. map plain_tern line.items) traced in
    let left : drop c.loop-line.line-index lines ≡ line.items ∷ later = drop_mapped (λ line. line.items) c.args.lines.now c.loop-line.line-index line c.loop-line-test.true c.line-item.is in
    let here : HasGone text state c.loop-line.machine (line.items ∷ later) shown done = subst (λ l. HasGone text state c.loop-line.machine l shown done) left gone in
    let on : HasGone text state c.shown.new.machine later shown (done ++ map plain_tern outputs.items ∷ []) =
    goes_on text state c.loop-line.machine c.shown.new.machine line.items later shown done (map plain_tern outputs.items) here
    (λ held next first at cycle. c.in_ok-outputs.ensures text state held next first at (rw c.deref.ensures.value cycle)) in
    let more : map (λ line. map plain_tern line.items) c.push.new.self.items ≡ done ++ map plain_tern outputs.items ∷ [] =
    ap (map (λ line. map plain_tern line.items)) c.in_ok-push.ensures.items ∙ map-append (λ line. map plain_tern line.items) traced (outputs ∷ []) in
    subst (λ d. HasGone text state c.shown.new.machine later shown d) (sym more) on

pub returns : goal.returns
returns g c = λ text state shown goes.
    let lines = map (λ line. line.items) c.args.lines.now in
    let done = map (λ line. map plain_tern line.items) c.loop-line.traced.items in
    let long = length-map c.args.lines.now (λ line. line.items) in
    let past = c.loop-line-test.false in
    let none : drop c.loop-line.line-index lines ≡ [] = drop_of_length-le lines (omega (arith, long, past)) in
    all_shown text state c.loop-line.machine shown done (subst (λ l. HasGone text state c.loop-line.machine l shown done) none (c.loop-line.invariant text state shown goes))
