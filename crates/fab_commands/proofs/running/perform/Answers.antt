use Rattle.std.proofs.Common.{◌<◌, ◌∙◌, ℕ, IfErr, List, OnOk, Option, Some, ap, map, option_copied, string_bytes, subst, sym}
use Rattle.std.proofs.lemmas.Result.{err_from_is_err_and}
use Rattle.fab_words.specs.Words.{job_of}
use Rattle.fab_words.specs.declared.job.Job.{Job}
use Rattle.fab_words.specs.declared.job.Job.TheVariants.{Assemble, Map, Flow, Timing}
use Rattle.fab_commands.specs.Running.{DoesJob, JobLeaves, JobHasCause, WriteFailed}
use Rattle.fab_commands.proofs.Faulted.{words_cause}
use Rattle.fab_commands.proofs.running.perform.Goals as goal

pub returns-in_err-list-clause-cause : goal.returns-in_err-list-clause-cause
returns-in_err-list-clause-cause g c =
    let residual = err_from_is_err_and c.from_residual.result c.from_residual.ensures.1 in
    rw (residual.1, residual.2) (words_cause (job_of (map string_bytes c.args.words.now)) (g.D.Desk.told c.args.desk.now)
    (g.D.Desk.reads c.args.desk.now < g.D.Desk.reads c.args.desk.now)
    (WriteFailed (job_of (map string_bytes c.args.words.now)) (g.D.Desk.writes c.args.desk.now < g.D.Desk.writes c.args.desk.now)
    (g.S.Sink.faults c.args.out.now < g.S.Sink.faults c.args.out.now)) c.in_err-list.field-0.0 c.in_err-list.ensures.usage)

pub returns-in-Matrix-clause-done : goal.returns-in-Matrix-clause-done
returns-in-Matrix-clause-done g c =
    subst (λ (job : Option Job). OnOk c.do_matrix.result (DoesJob job (g.D.Desk.told c.args.desk.now) (g.D.Desk.told c.do_matrix.new.desk)))
    (sym (c.in_ok-list.ensures.job ∙ ap (λ (job : Job). Some job) c.in-Matrix.is)) c.do_matrix.ensures.done

pub returns-in-Matrix-clause-leaves : goal.returns-in-Matrix-clause-leaves
returns-in-Matrix-clause-leaves g c =
    subst (λ (job : Option Job). IfErr c.do_matrix.result (JobLeaves job (g.D.Desk.told c.args.desk.now) (g.D.Desk.told c.do_matrix.new.desk)))
    (sym (c.in_ok-list.ensures.job ∙ ap (λ (job : Job). Some job) c.in-Matrix.is)) c.do_matrix.ensures.leaves

pub returns-in-Generate-clause-done : goal.returns-in-Generate-clause-done
returns-in-Generate-clause-done g c =
    subst (λ (job : Option Job). OnOk c.do_generate.result (DoesJob job (g.D.Desk.told c.args.desk.now) (g.D.Desk.told c.do_generate.new.desk)))
    (sym (c.in_ok-list.ensures.job ∙ ap (λ (job : Job). Some job) c.in-Generate.is)) c.do_generate.ensures.done

pub returns-in-Generate-clause-leaves : goal.returns-in-Generate-clause-leaves
returns-in-Generate-clause-leaves g c =
    subst (λ (job : Option Job). IfErr c.do_generate.result (JobLeaves job (g.D.Desk.told c.args.desk.now) (g.D.Desk.told c.do_generate.new.desk)))
    (sym (c.in_ok-list.ensures.job ∙ ap (λ (job : Job). Some job) c.in-Generate.is)) c.do_generate.ensures.leaves

pub returns-in-Assemble-clause-done : goal.returns-in-Assemble-clause-done
returns-in-Assemble-clause-done g c =
    let P : Option Job → Type 0 = λ job. OnOk c.do_assemble.result (DoesJob job (g.D.Desk.told c.args.desk.now) (g.D.Desk.told c.do_assemble.new.desk)) in
    subst P (sym (c.in_ok-list.ensures.job ∙ ap (λ (job : Job). Some job) c.in-Assemble.is))
    (subst (λ (pcf : Option (List ℕ)). P (Some (Assemble c.in-Assemble.fabric c.in-Assemble.blif pcf c.in-Assemble.implementation c.in-Assemble.base))) c.as_ref.ensures.value
    c.do_assemble.ensures.done)

pub returns-in-Assemble-clause-leaves : goal.returns-in-Assemble-clause-leaves
returns-in-Assemble-clause-leaves g c =
    let P : Option Job → Type 0 = λ job. IfErr c.do_assemble.result (JobLeaves job (g.D.Desk.told c.args.desk.now) (g.D.Desk.told c.do_assemble.new.desk)) in
    subst P (sym (c.in_ok-list.ensures.job ∙ ap (λ (job : Job). Some job) c.in-Assemble.is))
    (subst (λ (pcf : Option (List ℕ)). P (Some
    (Assemble c.in-Assemble.fabric c.in-Assemble.blif pcf c.in-Assemble.implementation c.in-Assemble.base))) c.as_ref.ensures.value
    c.do_assemble.ensures.leaves)

pub returns-in-Assemble-clause-cause : goal.returns-in-Assemble-clause-cause
returns-in-Assemble-clause-cause g c =
    let P : Option Job → Type 0 = λ job.
    IfErr c.do_assemble.result (JobHasCause job (g.D.Desk.told c.args.desk.now) (g.D.Desk.reads c.args.desk.now < g.D.Desk.reads c.do_assemble.new.desk)
    (WriteFailed job (g.D.Desk.writes c.args.desk.now < g.D.Desk.writes c.do_assemble.new.desk)
    (g.S.Sink.faults c.args.out.now < g.S.Sink.faults c.args.out.now))) in
    subst P (sym (c.in_ok-list.ensures.job ∙ ap (λ (job : Job). Some job) c.in-Assemble.is))
    (subst (λ (pcf : Option (List ℕ)). P (Some (Assemble c.in-Assemble.fabric c.in-Assemble.blif pcf c.in-Assemble.implementation c.in-Assemble.base))) c.as_ref.ensures.value
    c.do_assemble.ensures.cause)

pub returns-in-Bits-clause-done : goal.returns-in-Bits-clause-done
returns-in-Bits-clause-done g c =
    subst (λ (job : Option Job). OnOk c.do_bits.result (DoesJob job (g.D.Desk.told c.args.desk.now) (g.D.Desk.told c.do_bits.new.desk)))
    (sym (c.in_ok-list.ensures.job ∙ ap (λ (job : Job). Some job) c.in-Bits.is)) c.do_bits.ensures.done

pub returns-in-Bits-clause-leaves : goal.returns-in-Bits-clause-leaves
returns-in-Bits-clause-leaves g c =
    subst (λ (job : Option Job). IfErr c.do_bits.result (JobLeaves job (g.D.Desk.told c.args.desk.now) (g.D.Desk.told c.do_bits.new.desk)))
    (sym (c.in_ok-list.ensures.job ∙ ap (λ (job : Job). Some job) c.in-Bits.is)) c.do_bits.ensures.leaves

pub returns-in-Features-clause-done : goal.returns-in-Features-clause-done
returns-in-Features-clause-done g c =
    subst (λ (job : Option Job). OnOk c.do_features.result (DoesJob job (g.D.Desk.told c.args.desk.now) (g.D.Desk.told c.do_features.new.desk)))
    (sym (c.in_ok-list.ensures.job ∙ ap (λ (job : Job). Some job) c.in-Features.is)) c.do_features.ensures.done

pub returns-in-Features-clause-leaves : goal.returns-in-Features-clause-leaves
returns-in-Features-clause-leaves g c =
    subst (λ (job : Option Job). IfErr c.do_features.result (JobLeaves job (g.D.Desk.told c.args.desk.now) (g.D.Desk.told c.do_features.new.desk)))
    (sym (c.in_ok-list.ensures.job ∙ ap (λ (job : Job). Some job) c.in-Features.is)) c.do_features.ensures.leaves

pub returns-in-Map-clause-done : goal.returns-in-Map-clause-done
returns-in-Map-clause-done g c =
    let P : Option Job → Type 0 = λ job. OnOk c.do_map.result (DoesJob job (g.D.Desk.told c.args.desk.now) (g.D.Desk.told c.do_map.new.desk)) in
    subst P (sym (c.in_ok-list.ensures.job ∙ ap (λ (job : Job). Some job) c.in-Map.is))
    (subst (λ (pcf : Option (List ℕ)). P (Some (Map c.in-Map.fabric c.in-Map.blif pcf c.in-Map.seed c.in-Map.rounds c.in-Map.out))) c.as_ref-in-Map.ensures.value c.do_map.ensures.done)

pub returns-in-Map-clause-leaves : goal.returns-in-Map-clause-leaves
returns-in-Map-clause-leaves g c =
    let P : Option Job → Type 0 = λ job. IfErr c.do_map.result (JobLeaves job (g.D.Desk.told c.args.desk.now) (g.D.Desk.told c.do_map.new.desk)) in
    subst P (sym (c.in_ok-list.ensures.job ∙ ap (λ (job : Job). Some job) c.in-Map.is))
    (subst (λ (pcf : Option (List ℕ)). P (Some
    (Map c.in-Map.fabric c.in-Map.blif pcf c.in-Map.seed c.in-Map.rounds c.in-Map.out))) c.as_ref-in-Map.ensures.value c.do_map.ensures.leaves)

pub returns-in-Map-clause-cause : goal.returns-in-Map-clause-cause
returns-in-Map-clause-cause g c =
    let P : Option Job → Type 0 = λ job. IfErr c.do_map.result (JobHasCause job (g.D.Desk.told c.args.desk.now)
    (g.D.Desk.reads c.args.desk.now < g.D.Desk.reads c.do_map.new.desk)
    (WriteFailed job (g.D.Desk.writes c.args.desk.now < g.D.Desk.writes c.do_map.new.desk)
    (g.S.Sink.faults c.args.out.now < g.S.Sink.faults c.args.out.now))) in
    subst P (sym (c.in_ok-list.ensures.job ∙ ap (λ (job : Job). Some job) c.in-Map.is))
    (subst (λ (pcf : Option (List ℕ)). P (Some (Map c.in-Map.fabric c.in-Map.blif pcf c.in-Map.seed c.in-Map.rounds c.in-Map.out))) c.as_ref-in-Map.ensures.value c.do_map.ensures.cause)

pub returns-in-Flow-clause-done : goal.returns-in-Flow-clause-done
returns-in-Flow-clause-done g c =
    let P : Option Job → Type 0 = λ job. OnOk c.do_flow.result (DoesJob job (g.D.Desk.told c.args.desk.now) (g.D.Desk.told c.do_flow.new.desk)) in
    let it : (pcf reset : Option (List ℕ)) → Job = λ pcf reset. Flow c.in-Flow.fabric c.in-Flow.blif pcf c.in-Flow.seed c.in-Flow.rounds reset c.in-Flow.base in
    subst P (sym (c.in_ok-list.ensures.job ∙ ap (λ (job : Job). Some job) c.in-Flow.is))
    (subst (λ (reset : Option (List ℕ)). P (Some (it c.in-Flow.pcf reset))) c.as_ref-in-Flow-2.ensures.value
    (subst (λ (pcf : Option (List ℕ)). P (Some (it pcf (option_copied c.as_ref-in-Flow-2.result)))) c.as_ref-in-Flow.ensures.value c.do_flow.ensures.done))

pub returns-in-Flow-clause-leaves : goal.returns-in-Flow-clause-leaves
returns-in-Flow-clause-leaves g c =
    let P : Option Job → Type 0 = λ job. IfErr c.do_flow.result (JobLeaves job (g.D.Desk.told c.args.desk.now) (g.D.Desk.told c.do_flow.new.desk)) in
    let it : (pcf reset : Option (List ℕ)) → Job = λ pcf reset. Flow c.in-Flow.fabric c.in-Flow.blif pcf c.in-Flow.seed c.in-Flow.rounds reset c.in-Flow.base in
    subst P (sym (c.in_ok-list.ensures.job ∙ ap (λ (job : Job). Some job) c.in-Flow.is))
    (subst (λ (reset : Option (List ℕ)). P (Some (it c.in-Flow.pcf reset))) c.as_ref-in-Flow-2.ensures.value
    (subst (λ (pcf : Option (List ℕ)). P (Some (it pcf (option_copied c.as_ref-in-Flow-2.result)))) c.as_ref-in-Flow.ensures.value c.do_flow.ensures.leaves))

pub returns-in-Flow-clause-cause : goal.returns-in-Flow-clause-cause
returns-in-Flow-clause-cause g c =
    let P : Option Job → Type 0 = λ job. IfErr c.do_flow.result (JobHasCause job (g.D.Desk.told c.args.desk.now)
    (g.D.Desk.reads c.args.desk.now < g.D.Desk.reads c.do_flow.new.desk)
    (WriteFailed job (g.D.Desk.writes c.args.desk.now < g.D.Desk.writes c.do_flow.new.desk)
    (g.S.Sink.faults c.args.out.now < g.S.Sink.faults c.args.out.now))) in
    let it : (pcf reset : Option (List ℕ)) → Job = λ pcf reset. Flow c.in-Flow.fabric c.in-Flow.blif pcf c.in-Flow.seed c.in-Flow.rounds reset c.in-Flow.base in
    subst P (sym (c.in_ok-list.ensures.job ∙ ap (λ (job : Job). Some job) c.in-Flow.is))
    (subst (λ (reset : Option (List ℕ)). P (Some (it c.in-Flow.pcf reset))) c.as_ref-in-Flow-2.ensures.value
    (subst (λ (pcf : Option (List ℕ)). P (Some (it pcf (option_copied c.as_ref-in-Flow-2.result)))) c.as_ref-in-Flow.ensures.value c.do_flow.ensures.cause))

pub returns-in-Simulate-clause-done : goal.returns-in-Simulate-clause-done
returns-in-Simulate-clause-done g c =
    subst (λ (job : Option Job). OnOk c.do_simulate.result (DoesJob job (g.D.Desk.told c.args.desk.now) (g.D.Desk.told c.do_simulate.new.desk)))
    (sym (c.in_ok-list.ensures.job ∙ ap (λ (job : Job). Some job) c.in-Simulate.is)) c.do_simulate.ensures.done

pub returns-in-Simulate-clause-leaves : goal.returns-in-Simulate-clause-leaves
returns-in-Simulate-clause-leaves g c =
    subst (λ (job : Option Job). IfErr c.do_simulate.result (JobLeaves job (g.D.Desk.told c.args.desk.now) (g.D.Desk.told c.do_simulate.new.desk)))
    (sym (c.in_ok-list.ensures.job ∙ ap (λ (job : Job). Some job) c.in-Simulate.is)) c.do_simulate.ensures.leaves

pub returns-in-Partial-clause-done : goal.returns-in-Partial-clause-done
returns-in-Partial-clause-done g c =
    subst (λ (job : Option Job). OnOk c.do_partial.result (DoesJob job (g.D.Desk.told c.args.desk.now) (g.D.Desk.told c.do_partial.new.desk)))
    (sym (c.in_ok-list.ensures.job ∙ ap (λ (job : Job). Some job) c.in-Partial.is)) c.do_partial.ensures.done

pub returns-in-Partial-clause-leaves : goal.returns-in-Partial-clause-leaves
returns-in-Partial-clause-leaves g c =
    subst (λ (job : Option Job). IfErr c.do_partial.result (JobLeaves job (g.D.Desk.told c.args.desk.now) (g.D.Desk.told c.do_partial.new.desk)))
    (sym (c.in_ok-list.ensures.job ∙ ap (λ (job : Job). Some job) c.in-Partial.is)) c.do_partial.ensures.leaves

pub returns-in-Timing-clause-done : goal.returns-in-Timing-clause-done
returns-in-Timing-clause-done g c =
    let P : Option Job → Type 0 = λ job. OnOk c.do_timing.result (DoesJob job (g.D.Desk.told c.args.desk.now) (g.D.Desk.told c.do_timing.new.desk)) in
    subst P (sym (c.in_ok-list.ensures.job ∙ ap (λ (job : Job). Some job) c.in-Timing.is))
    (subst (λ (pcf : Option (List ℕ)). P (Some (Timing c.in-Timing.fabric c.in-Timing.blif pcf c.in-Timing.implementation c.in-Timing.out)))
    c.as_ref-in-Timing.ensures.value c.do_timing.ensures.done)

pub returns-in-Timing-clause-leaves : goal.returns-in-Timing-clause-leaves
returns-in-Timing-clause-leaves g c =
    let P : Option Job → Type 0 = λ job. IfErr c.do_timing.result (JobLeaves job (g.D.Desk.told c.args.desk.now) (g.D.Desk.told c.do_timing.new.desk)) in
    subst P (sym (c.in_ok-list.ensures.job ∙ ap (λ (job : Job). Some job) c.in-Timing.is))
    (subst (λ (pcf : Option (List ℕ)). P (Some (Timing c.in-Timing.fabric c.in-Timing.blif pcf c.in-Timing.implementation c.in-Timing.out)))
    c.as_ref-in-Timing.ensures.value c.do_timing.ensures.leaves)

pub returns-in-Timing-clause-cause : goal.returns-in-Timing-clause-cause
returns-in-Timing-clause-cause g c =
    let P : Option Job → Type 0 = λ job. IfErr c.do_timing.result (JobHasCause job (g.D.Desk.told c.args.desk.now)
    (g.D.Desk.reads c.args.desk.now < g.D.Desk.reads c.do_timing.new.desk)
    (WriteFailed job (g.D.Desk.writes c.args.desk.now < g.D.Desk.writes c.do_timing.new.desk)
    (g.S.Sink.faults c.args.out.now < g.S.Sink.faults c.args.out.now))) in
    subst P (sym (c.in_ok-list.ensures.job ∙ ap (λ (job : Job). Some job) c.in-Timing.is))
    (subst (λ (pcf : Option (List ℕ)). P (Some (Timing c.in-Timing.fabric c.in-Timing.blif pcf c.in-Timing.implementation c.in-Timing.out)))
    c.as_ref-in-Timing.ensures.value c.do_timing.ensures.cause)

pub returns-in-Serial-clause-done : goal.returns-in-Serial-clause-done
returns-in-Serial-clause-done g c =
    subst (λ (job : Option Job). OnOk c.do_serial.result (DoesJob job (g.D.Desk.told c.args.desk.now) (g.D.Desk.told c.do_serial.new.desk)))
    (sym (c.in_ok-list.ensures.job ∙ ap (λ (job : Job). Some job) c.in-Serial.is)) c.do_serial.ensures.done

pub returns-in-Serial-clause-leaves : goal.returns-in-Serial-clause-leaves
returns-in-Serial-clause-leaves g c =
    subst (λ (job : Option Job). IfErr c.do_serial.result (JobLeaves job (g.D.Desk.told c.args.desk.now) (g.D.Desk.told c.do_serial.new.desk)))
    (sym (c.in_ok-list.ensures.job ∙ ap (λ (job : Job). Some job) c.in-Serial.is)) c.do_serial.ensures.leaves
