use Rattle.std.proofs.Common.{◌≡◌, ◌∷◌, ◌++◌, ◌∙◌, [], List, ℕ, length, ap, rules}
use Rattle.fab_blif.specs.declared.walk.Frame.{Frame}
use Rattle.fab_blif.specs.Flat.{line_prefix}
use Rattle.fab_blif.specs.inner.Frames.{PlainFrame, PlainStack, instance_frame, plain_frame, plain_frames}
use Rattle.fab_blif.proofs.Prefixes.{frames_longer, frames_push, grow_to, grow_whole}
use Rattle.fab_blif.proofs.walk.Stack.enter.Goals as goal

pub invariant_of-self : goal.invariant_of-self
invariant_of-self c =
    let path = c.self.inside.path.items in
    grow_to 0 c.self.inside.frames.items (length path) (length c.push_line.new.text.items) c.self.invariant c.push_line.ensures.length

pub invariant_of-self-in_err-push : goal.invariant_of-self-in_err-push
invariant_of-self-in_err-push c =
    let path = c.self.inside.path.items in
    rw c.in_err-push.ensures.items
    (grow_to 0 c.self.inside.frames.items (length path) (length c.push_line.new.text.items) c.self.invariant c.push_line.ensures.length)

pub invariant_of-self-2 : goal.invariant_of-self-2
invariant_of-self-2 c =
    let inner = c.args.inner in
    let path = c.self.inside.path.items in
    let text = c.push_line.new.text.items in
    let frame : Frame = record { model = inner.model; next = 0; depth = inner.depth; prefix_len = c.len.result; joins = inner.joins } in
    let whole : c.len.result ≡ length text = search rules in
    rw c.in_ok-push.ensures.items
    (grow_whole c.self.inside.frames.items frame (length path) (length text) c.self.invariant c.push_line.ensures.length whole)

pub returns : goal.returns
returns c =
    let inner = c.args.inner in
    let path = c.self.inside.path.items in
    let frames = c.self.inside.frames.items in
    let text = c.push_line.new.text.items in
    let line = line_prefix inner.line in
    let frame : Frame = record { model = inner.model; next = 0; depth = inner.depth; prefix_len = c.len.result; joins = inner.joins } in
    let whole : c.len.result ≡ length text = search rules in
    ap (λ (list : List Frame). plain_frames text list) c.in_ok-push.ensures.items
    ∙ frames_push frames frame text whole
    ∙ ap (λ (prefix : List ℕ). plain_frames prefix frames ++ plain_frame prefix frame ∷ []) c.in_ok-push_line.ensures.line
    ∙ ap (λ (list : List PlainFrame). list ++ plain_frame (path ++ line) frame ∷ []) (frames_longer frames path line c.self.invariant)
    ∙ ap (λ (stack : PlainStack). stack.frames ++ instance_frame stack.path inner ∷ []) c.self.view_is
