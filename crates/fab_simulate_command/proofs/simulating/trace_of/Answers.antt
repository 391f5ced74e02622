use Rattle.std.proofs.Common.{◌<◌, ◌∙◌, refl, arith}
use Rattle.std.proofs.lemmas.Result.{IfErr-weaker, IfOk-weaker, err_from_is_err_and}
use Rattle.fab_files.specs.Stages.{at_first, behind_it}
use Rattle.fab_files.proofs.Causes.{cause_weaker}
use Rattle.fab_syntax.specs.Plain.{plain_text}
use Rattle.fab_simulate_command.specs.Simulating.{MeetsBehindDevice, MeetsState, MeetsWords}
use Rattle.fab_simulate_command.proofs.Behind.{is_trace, stimulus_cause}
use Rattle.fab_simulate_command.proofs.simulating.trace_of.Goals as goal

pub returns-in_err-words-clause-cause : goal.returns-in_err-words-clause-cause
returns-in_err-words-clause-cause g c =
    let residual = err_from_is_err_and c.from_residual.result c.from_residual.ensures.1 in
    let told = g.D.Desk.told c.args.desk.now in
    let rose = g.D.Desk.reads c.args.desk.now < g.D.Desk.reads c.read_words.new.desk in
    rw (residual.1, residual.2)
    (cause_weaker told told rose rose (λ files. MeetsWords files c.args.bit.now) (λ files. MeetsBehindDevice files c.args.bit.now c.args.state.now c.args.stimulus.now (plain_text c.args.equations.now))
    c.in_err-words.field-0.0 refl (λ r. r) (λ files is event met. at_first met) c.in_err-words.ensures.cause)

pub returns-in_err-standing-clause-cause : goal.returns-in_err-standing-clause-cause
returns-in_err-standing-clause-cause g c =
    let residual = err_from_is_err_and c.from_residual-in_err-standing.result c.from_residual-in_err-standing.ensures.1 in
    let reads = g.D.Desk.reads in
    let before = c.in_ok-words.ensures.reads in
    let text = plain_text c.args.equations.now in
    rw (residual.1, residual.2)
    (cause_weaker (g.D.Desk.told c.read_words.new.desk) (g.D.Desk.told c.args.desk.now) (reads c.read_words.new.desk < reads c.read_standing.new.desk) (reads c.args.desk.now < reads c.read_standing.new.desk)
    (λ files. MeetsState files c.args.state.now text) (λ files. MeetsBehindDevice files c.args.bit.now c.args.state.now c.args.stimulus.now text)
    c.in_err-standing.field-0.0 c.in_ok-words.ensures.told (λ rose. omega (arith, rose, before))
    (λ files is event met. behind_it (c.in_ok-words.ensures.spelled files is) (at_first met)) c.in_err-standing.ensures.cause)

pub returns-clause-trace : goal.returns-clause-trace
returns-clause-trace g c = λ files is.
    let text = plain_text c.args.equations.now in
    let behind = c.in_ok-words.ensures.told ∙ is in
    IfOk-weaker c.stimulated.result _ _
    (λ bytes made. is_trace files c.args.bit.now c.args.state.now c.args.stimulus.now text c.args.order c.deref.result.now c.in_ok-words.words.items c.in_ok-standing.standing bytes.items
    c.deref.ensures.value (c.in_ok-words.ensures.spelled files is) (c.in_ok-standing.ensures.spelled files behind) made)
    (c.stimulated.ensures.traced text c.in_ok-standing.ensures.made files (c.in_ok-standing.ensures.told ∙ behind))

pub returns-clause-cause : goal.returns-clause-cause
returns-clause-cause g c =
    let reads = g.D.Desk.reads in
    let before = c.in_ok-words.ensures.reads in
    let then = c.in_ok-standing.ensures.reads in
    let text = plain_text c.args.equations.now in
    IfErr-weaker c.stimulated.result _ _
    (λ fault cause. stimulus_cause (g.D.Desk.told c.args.desk.now) (g.D.Desk.told c.read_standing.new.desk) (reads c.read_standing.new.desk < reads c.stimulated.new.desk)
    (reads c.args.desk.now < reads c.stimulated.new.desk) c.args.bit.now c.args.state.now c.args.stimulus.now text c.in_ok-words.words.items c.in_ok-standing.standing fault
    (c.in_ok-standing.ensures.told ∙ c.in_ok-words.ensures.told) (λ rose. omega (arith, rose, before, then)) (λ files is. c.in_ok-words.ensures.spelled files is)
    (λ files is. c.in_ok-standing.ensures.spelled files (c.in_ok-words.ensures.told ∙ is)) cause) c.stimulated.ensures.cause
