use Rattle.std.proofs.Common.{◌∷◌, ◌++◌, ◌∙◌, [], List, ℕ, length, sym, ap, subst}
use Rattle.fab_blif.specs.declared.walk.Frame.{Frame}
use Rattle.fab_blif.specs.inner.Frames.{PlainStack, PrefixesGrow, plain_frame, plain_frames}
use Rattle.fab_blif.proofs.Prefixes.{cut_length, frames_pop, grow_pop}
use Rattle.fab_blif.proofs.walk.Stack.pop.Goals as goal

pub invariant_of-self-2 : goal.invariant_of-self-2
invariant_of-self-2 c =
    let path = c.self.inside.path.items in
    let outer = c.pop.new.self.items in
    let frame = c.in_ok-frame.frame in
    let grow = subst (λ (frames : List Frame). PrefixesGrow 0 frames (length path)) c.in_ok-frame.ensures.items c.self.invariant in
    subst (λ (to : ℕ). PrefixesGrow 0 outer to) (sym (ap length c.truncate.ensures.items ∙ cut_length outer frame path grow))
    (grow_pop 0 outer frame (length path) grow).0

pub returns-clause-frames : goal.returns-clause-frames
returns-clause-frames c =
    let path = c.self.inside.path.items in
    let outer = c.pop.new.self.items in
    let frame = c.in_ok-frame.frame in
    let grow = subst (λ (frames : List Frame). PrefixesGrow 0 frames (length path)) c.in_ok-frame.ensures.items c.self.invariant in
    ap (λ (stack : PlainStack). stack.frames) (sym c.self.view_is)
    ∙ ap (λ (frames : List Frame). plain_frames path frames) c.in_ok-frame.ensures.items
    ∙ frames_pop outer frame path grow
    ∙ ap (λ (text : List ℕ). plain_frames text outer ++ plain_frame text frame ∷ []) (sym c.truncate.ensures.items)

pub returns-clause-path : goal.returns-clause-path
returns-clause-path c =
    let path = c.self.inside.path.items in
    let outer = c.pop.new.self.items in
    let frame = c.in_ok-frame.frame in
    let grow = subst (λ (frames : List Frame). PrefixesGrow 0 frames (length path)) c.in_ok-frame.ensures.items c.self.invariant in
    sym (ap length c.truncate.ensures.items ∙ cut_length outer frame path grow)
