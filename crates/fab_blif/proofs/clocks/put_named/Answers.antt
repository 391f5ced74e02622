use Rattle.std.proofs.Common.{◌≡◌, ◌++◌, ◌∙◌, sym, ap, ℕ, List, Option, map, flat_map, take, append_assoc}
use Rattle.fab_blif.specs.declared.clocks.ClockFault.{ClockFault}
use Rattle.fab_blif.specs.declared.clocks.WrongClock.{WrongClock}
use Rattle.fab_blif.specs.Clocks.{faults_at, wrong_by}
use Rattle.fab_blif.specs.Design.{PlainClock, number_in}
use Rattle.fab_blif.specs.Judged.{is_among}
use Rattle.fab_blif.specs.inner.Walk.{plain_clock, plain_net, plain_nets}
use Rattle.fab_blif.proofs.Clocking.{named_more}
use Rattle.fab_blif.proofs.clocks.put_named.Goals as goal

pub loop-clock-preserved : goal.loop-clock-preserved
loop-clock-preserved c =
    let nets = plain_nets c.args.nets.now.keys in
    let clocking = c.args.clocking.now in
    let says : PlainClock → List ClockFault = λ clock. faults_at clock.line (wrong_by (is_among clocking.driven.keys) (is_among clocking.clocks.keys) clocking.first (number_in nets clock.net) clock.latch) in
    let name = c.clock-item.result in
    let old = c.loop-clock.faults.items in
    let wrong : c.wrong_clock.result ≡ wrong_by (is_among clocking.driven.keys) (is_among clocking.clocks.keys) clocking.first (number_in nets (plain_net name.net)) name.latch =
    c.wrong_clock.ensures ∙ ap (λ (net : ℕ). wrong_by (is_among clocking.driven.keys) (is_among clocking.clocks.keys) clocking.first net name.latch) c.number_or_len-net.ensures in
    let added : c.put_fault.new.faults.items ≡ old ++ says (plain_clock name) =
    c.in_ok-put_fault.ensures ∙ ap (λ (told : Option WrongClock). old ++ faults_at name.line told) wrong in
    added
    ∙ ap (λ (all : List ClockFault). all ++ says (plain_clock name)) c.loop-clock.invariant
    ∙ append_assoc c.args.faults.now.items (flat_map says (map plain_clock (take c.loop-clock.clock-index c.args.clocks.now))) (says (plain_clock name))
    ∙ ap (λ (more : List ClockFault). c.args.faults.now.items ++ more) (sym (named_more says c.args.clocks.now c.loop-clock.clock-index name c.loop-clock-test.true c.clock-item.is))
