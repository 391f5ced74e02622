use Rattle.std.proofs.Common.{◌≡◌, ◌+◌, Bool, List, [], ◌∷◌, ◌++◌, length, map, drop, sym, ap, ◌∙◌, subst, arith}
use Rattle.std.proofs.Math.ListN.{drop_of_length-le}
use Rattle.std.proofs.lemmas.List.{length-map, map-append}
use Rattle.fab_systems_laws.specs.Ternary.{Tern as PlainTern}
use Rattle.fab_ternary.specs.Terns.{plain_tern}
use Rattle.fab_simulate_command.specs.inner.Going.{HasCycled}
use Rattle.fab_simulate_command.proofs.Goings.{drop_mapped, full_at}
use Rattle.fab_simulate_command.proofs.Orders.{HasStepped, all_stepped, none_stepped, one_stepped}
use Rattle.fab_simulate_command.proofs.ordered.cycles_in_order.Goals as goal

pub loop-line-init : goal.loop-line-init
loop-line-init g c = λ text state draws start stands full outs.
    let lines = map (λ line. line.items) c.args.lines.now in
    let nothing : map (λ line. map plain_tern line.items) c.new-traced.result.items ≡ [] = ap (map (λ line. map plain_tern line.items)) c.new-traced.ensures.items in
    subst (λ (done : List (List PlainTern)). HasStepped text state draws c.args.stepper.now start lines lines done) (sym nothing) (none_stepped text state draws start lines c.args.stepper.now stands)

pub shown_in_order-requires : goal.shown_in_order-requires
shown_in_order-requires g c =
    let state = c.requires.1 in
    let stepped = c.loop-line.invariant c.requires.0 state c.requires.2 c.requires.3 c.requires.4 c.requires.5 c.requires.6 in
    let full = full_at (λ line. line.items) c.args.lines.now state c.loop-line.line-index c.line-item.result c.loop-line-test.true c.line-item.is c.requires.5 in
    (c.requires.0, state, c.requires.2, stepped.now, stepped.stands, sym (ap length c.deref.ensures.value ∙ full), c.requires.6)

pub loop-line-preserved : goal.loop-line-preserved
loop-line-preserved g c = λ text state draws start stands full outs.
    let stepped = c.loop-line.invariant text state draws start stands full outs in
    let line = c.line-item.result in
    let lines = map (λ line. line.items) c.args.lines.now in
    let later = drop (c.loop-line.line-index + 1) lines in
    let traced = c.loop-line.traced.items in
    let outputs = c.in_ok-outputs.outputs in
    let done = map (λ line. map plain_tern line.items) traced in
    let shown = map plain_tern outputs.items in
    let left : drop c.loop-line.line-index lines ≡ line.items ∷ later = drop_mapped (λ line. line.items) c.args.lines.now c.loop-line.line-index line c.loop-line-test.true c.line-item.is in
    let here : HasStepped text state draws c.loop-line.stepper start lines (line.items ∷ later) done =
    subst (λ (l : List (List Bool)). HasStepped text state draws c.loop-line.stepper start lines l done) left stepped in
    let ins : length state.ins ≡ length c.deref.result.now =
    sym (ap length c.deref.ensures.value ∙ full_at (λ line. line.items) c.args.lines.now state c.loop-line.line-index line c.loop-line-test.true c.line-item.is full) in
    let cycled : HasCycled text state draws line.items shown here.now c.shown_in_order.new.stepper =
    subst (λ (values : List Bool). HasCycled text state draws values shown here.now c.shown_in_order.new.stepper) c.deref.ensures.value
    (c.in_ok-outputs.ensures text state draws here.now here.stands ins outs) in
    let on : HasStepped text state draws c.shown_in_order.new.stepper start lines later (done ++ shown ∷ []) =
    one_stepped text state draws start lines c.loop-line.stepper c.shown_in_order.new.stepper line.items later done shown here cycled in
    let more : map (λ line. map plain_tern line.items) c.push.new.self.items ≡ done ++ shown ∷ [] =
    ap (map (λ line. map plain_tern line.items)) c.in_ok-push.ensures.items ∙ map-append (λ line. map plain_tern line.items) traced (outputs ∷ []) in
    subst (λ (d : List (List PlainTern)). HasStepped text state draws c.shown_in_order.new.stepper start lines later d) (sym more) on

pub returns : goal.returns
returns g c = λ text state draws start stands full outs.
    let lines = map (λ line. line.items) c.args.lines.now in
    let done = map (λ line. map plain_tern line.items) c.loop-line.traced.items in
    let long = length-map c.args.lines.now (λ line. line.items) in
    let past = c.loop-line-test.false in
    let none : drop c.loop-line.line-index lines ≡ [] = drop_of_length-le lines (omega (arith, long, past)) in
    all_stepped text state draws start lines c.loop-line.stepper done
    (subst (λ (l : List (List Bool)). HasStepped text state draws c.loop-line.stepper start lines l done) none (c.loop-line.invariant text state draws start stands full outs))
