use Rattle.std.proofs.Common.{◌≡◌, ℕ, ◌+◌, List, length, sym, ap, ◌∙◌, subst, arith}
use Rattle.std.proofs.lemmas.Result.{err_from_is_err_and}
use Rattle.fab_syntax.specs.Plain.{plain_text}
use Rattle.fab_implementation.specs.Plain.{Pad}
use Rattle.fab_state.specs.Plain.{PlainState}
use Rattle.fab_state_points.specs.Entries.{in_entries, out_entries, register_entries}
use Rattle.fab_state_points.specs.Standing.{AreAt}
use Rattle.fab_state_points.specs.declared.entry.Entry.{Entry}
use Rattle.fab_state_points.specs.declared.entry.Entry.TheVariants as entries
use Rattle.fab_state_points.proofs.Absent.{IsRefusedLine, mapped_long, refused_ffs, refused_ins, refused_outs}
use Rattle.fab_state_points.proofs.points.state_points.Goals as goal

pub returns-in_err-ins-clause-refused : goal.returns-in_err-ins-clause-refused
returns-in_err-ins-clause-refused c =
    let residual = err_from_is_err_and c.from_residual-in_err-ins.result c.from_residual-in_err-ins.ensures.1 in
    let text = plain_text c.args.equations.now in
    let state = c.args.state.now in
    let ins : c.deref-2.result.now ≡ in_entries state.ins =
    c.deref-2.ensures.value ∙ c.in_ok-in_entries.ensures ∙ ap in_entries (c.deref.ensures.value ∙ ap (λ (s : PlainState). s.ins) c.state.view_is) in
    let stream = c.in-Some.ensures in
    let refused = c.in_err-ins.ensures.refused in
    rw (residual.1, residual.2)
    (refused_ins text c.args.file.now state c.in_err-ins.field-0.0 stream.0
    (subst (λ (lines : List Entry). IsRefusedLine text c.args.file.now 1 lines c.in_err-ins.field-0.0) ins refused))

pub returns-in_err-outs-clause-refused : goal.returns-in_err-outs-clause-refused
returns-in_err-outs-clause-refused c =
    let residual = err_from_is_err_and c.from_residual-in_err-outs.result c.from_residual-in_err-outs.ensures.1 in
    let text = plain_text c.args.equations.now in
    let state = c.args.state.now in
    let ins : c.deref-2.result.now ≡ in_entries state.ins =
    c.deref-2.ensures.value ∙ c.in_ok-in_entries.ensures ∙ ap in_entries (c.deref.ensures.value ∙ ap (λ (s : PlainState). s.ins) c.state.view_is) in
    let outs : c.deref-4.result.now ≡ out_entries state.outs =
    c.deref-4.ensures.value ∙ c.in_ok-out_entries.ensures ∙ ap out_entries (c.deref-3.ensures.value ∙ ap (λ (s : PlainState). s.outs) c.state.view_is) in
    let ins_are : c.deref.result.now ≡ state.ins = c.deref.ensures.value ∙ ap (λ (s : PlainState). s.ins) c.state.view_is in
    let before : 1 + c.len.result ≡ 1 + length (in_entries state.ins) =
    ap (λ (n : ℕ). 1 + n) (c.len.ensures ∙ sym c.deref.ensures.len ∙ ap length ins_are ∙ sym (mapped_long (λ (pad : Pad). entries.Input pad.1) state.ins)) in
    let stream = c.in-Some.ensures in
    let found_ins = c.in_ok-ins.ensures.points in
    let refused = c.in_err-outs.ensures.refused in
    rw (residual.1, residual.2)
    (refused_outs text c.args.file.now state c.in_ok-ins.ins.items (1 + c.len.result) c.in_err-outs.field-0.0 stream.0
    (subst (λ (lines : List Entry). AreAt text lines c.in_ok-ins.ins.items) ins found_ins) before
    (subst (λ (lines : List Entry). IsRefusedLine text c.args.file.now (1 + c.len.result) lines c.in_err-outs.field-0.0) outs refused))

pub returns-in_err-ffs-clause-refused : goal.returns-in_err-ffs-clause-refused
returns-in_err-ffs-clause-refused c =
    let residual = err_from_is_err_and c.from_residual-in_err-ffs.result c.from_residual-in_err-ffs.ensures.1 in
    let text = plain_text c.args.equations.now in
    let state = c.args.state.now in
    let ins_are : c.deref.result.now ≡ state.ins = c.deref.ensures.value ∙ ap (λ (s : PlainState). s.ins) c.state.view_is in
    let outs_are : c.deref-3.result.now ≡ state.outs = c.deref-3.ensures.value ∙ ap (λ (s : PlainState). s.outs) c.state.view_is in
    let ins : c.deref-2.result.now ≡ in_entries state.ins = c.deref-2.ensures.value ∙ c.in_ok-in_entries.ensures ∙ ap in_entries ins_are in
    let outs : c.deref-4.result.now ≡ out_entries state.outs = c.deref-4.ensures.value ∙ c.in_ok-out_entries.ensures ∙ ap out_entries outs_are in
    let ffs : c.deref-6.result.now ≡ register_entries state.ffs =
    c.deref-6.ensures.value ∙ c.in_ok-register_entries.ensures ∙ ap register_entries (c.deref-5.ensures.value ∙ ap (λ (s : PlainState). s.ffs) c.state.view_is) in
    let ins_long : c.len-2.result ≡ length (in_entries state.ins) =
    c.len-2.ensures ∙ sym c.deref.ensures.len ∙ ap length ins_are ∙ sym (mapped_long (λ (pad : Pad). entries.Input pad.1) state.ins) in
    let outs_long : c.len-3.result ≡ length (out_entries state.outs) =
    c.len-3.ensures ∙ sym c.deref-3.ensures.len ∙ ap length outs_are ∙ sym (mapped_long (λ (pad : Pad). entries.Output pad.1) state.outs) in
    let before : 1 + c.len-2.result + c.len-3.result ≡ 1 + length (in_entries state.ins) + length (out_entries state.outs) = omega (arith, ins_long, outs_long) in
    let stream = c.in-Some.ensures in
    let found_ins = c.in_ok-ins.ensures.points in
    let found_outs = c.in_ok-outs.ensures.points in
    let refused = c.in_err-ffs.ensures.refused in
    rw (residual.1, residual.2)
    (refused_ffs text c.args.file.now state c.in_ok-ins.ins.items c.in_ok-outs.outs.items (1 + c.len-2.result + c.len-3.result) c.in_err-ffs.field-0.0 stream.0
    (subst (λ (lines : List Entry). AreAt text lines c.in_ok-ins.ins.items) ins found_ins)
    (subst (λ (lines : List Entry). AreAt text lines c.in_ok-outs.outs.items) outs found_outs) before
    (subst (λ (lines : List Entry). IsRefusedLine text c.args.file.now (1 + c.len-2.result + c.len-3.result) lines c.in_err-ffs.field-0.0) ffs refused))
