use Rattle.std.proofs.Common.{◌≡◌, ◌<◌, ◌+◌, ◌-◌, ◌∙◌, [], rules, sym, ap, subst, arith, List, ℕ, length}
use Rattle.std.proofs.lemmas.List.{length-map}
use Rattle.fab_blif_models.specs.declared.model.Model.{Model}
use Rattle.fab_blif_models.specs.Plain.{PlainStatement, plain_model, plain_models, plain_statement}
use Rattle.fab_blif.specs.Flat.{Placed, flat_lines}
use Rattle.fab_blif.specs.inner.Walk.{after_all}
use Rattle.fab_blif.specs.inner.Frames.{PlainFrame, advanced, deep_in, entered, plain_frame, stack_lines, with_frames}
use Rattle.fab_blif.proofs.Stack.{design_next, lines_begun, lines_done, stack_work, work_done, work_next}
use Rattle.fab_blif.proofs.walk.take_all.Goals as goal

pub loop-frame-init : goal.loop-frame-init
unfolding flat_lines
loop-frame-init c =
    let models = plain_models c.args.models.now in
    ap (λ (frames : List PlainFrame). after_all c.args.design.now (stack_lines models frames)) c.in_ok-stack.ensures
    ∙ ap (λ (text : List Placed). after_all c.args.design.now text) (lines_begun models (omega (arith, c.requires.some, length-map c.args.models.now plain_model)))

-- the frames after a line
taken : (models : List Model) (new outer : List PlainFrame) (frame : PlainFrame) (line : PlainStatement) →
    new ≡ with_frames outer (advanced frame) (entered (plain_models models) (length models - (frame.copy.depth + 1)) frame.copy line.line line.body) →
    new ≡ with_frames outer (advanced frame) (entered (plain_models models) (deep_in (plain_models models) frame.copy.depth) frame.copy line.line line.body)
taken models new outer frame line made =
    made ∙ ap (λ (count : ℕ). with_frames outer (advanced frame) (entered (plain_models models) (count - (frame.copy.depth + 1)) frame.copy line.line line.body)) (sym (length-map models plain_model))

pub loop-frame-smaller : goal.loop-frame-smaller
loop-frame-smaller c =
    let models = plain_models c.args.models.now in
    let outer = c.pop.new.self.frames in
    let frame = plain_frame c.pop.new.self.path c.in-Some.frame in
    let line = plain_statement c.in-Some-next_line.line.now in
    let after = taken c.args.models.now c.take_line.new.stack.frames outer frame line c.in_ok-take_line-in-Some-next_line.ensures.frames in
    let lt : stack_work models c.take_line.new.stack.frames < stack_work models c.loop-frame.stack.frames =
    subst (λ (frames : List PlainFrame). stack_work models frames < stack_work models c.loop-frame.stack.frames) (sym after)
    (subst (λ (frames : List PlainFrame). stack_work models (with_frames outer (advanced frame) (entered models (deep_in models frame.copy.depth) frame.copy line.line line.body)) < stack_work models frames) (sym c.in-Some.ensures.frames)
    (work_next models outer frame line c.in-Some-next_line.ensures.line)) in
    lt

pub loop-frame-preserved : goal.loop-frame-preserved
loop-frame-preserved c =
    let models = plain_models c.args.models.now in
    let outer = c.pop.new.self.frames in
    let frame = plain_frame c.pop.new.self.path c.in-Some.frame in
    let line = plain_statement c.in-Some-next_line.line.now in
    let after = taken c.args.models.now c.take_line.new.stack.frames outer frame line c.in_ok-take_line-in-Some-next_line.ensures.frames in
    (λ j. after_all (c.in_ok-take_line-in-Some-next_line.ensures.design j) (stack_lines models (after j)))
    ∙ design_next models outer frame line c.loop-frame.design c.in-Some-next_line.ensures.line
    ∙ ap (λ (frames : List PlainFrame). after_all c.loop-frame.design (stack_lines models frames)) (sym c.in-Some.ensures.frames)
    ∙ c.loop-frame.invariant

pub loop-frame-smaller-in-None-1 : goal.loop-frame-smaller-in-None-1
loop-frame-smaller-in-None-1 c =
    let models = plain_models c.args.models.now in
    let lt : stack_work models c.pop.new.self.frames < stack_work models c.loop-frame.stack.frames =
    subst (λ (frames : List PlainFrame). stack_work models c.pop.new.self.frames < stack_work models frames) (sym c.in-Some.ensures.frames)
    (work_done models c.pop.new.self.frames (plain_frame c.pop.new.self.path c.in-Some.frame)) in
    lt

pub loop-frame-preserved-in-None-1 : goal.loop-frame-preserved-in-None-1
loop-frame-preserved-in-None-1 c =
    let models = plain_models c.args.models.now in
    ap (λ (text : List Placed). after_all c.loop-frame.design text) (sym (lines_done models c.pop.new.self.frames (plain_frame c.pop.new.self.path c.in-Some.frame) c.in-None.ensures.line))
    ∙ ap (λ (frames : List PlainFrame). after_all c.loop-frame.design (stack_lines models frames)) (sym c.in-Some.ensures.frames)
    ∙ c.loop-frame.invariant

pub returns : goal.returns
unfolding stack_lines
returns c =
    let models = plain_models c.args.models.now in
    let none : c.loop-frame.stack.frames ≡ [] = search rules in
    ap (λ (frames : List PlainFrame). after_all c.loop-frame.design (stack_lines models frames)) (sym none) ∙ c.loop-frame.invariant
