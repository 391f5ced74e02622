use Rattle.std.proofs.Common.{◌≡◌, ◌∷◌, [], ◌++◌, ℕ, List, length, ◌∙◌, ap, sym, subst}
use Rattle.fab_implementation.specs.Plain.{Pad}
use Rattle.fab_texts.specs.Rows.{Word}
use Rattle.fab_impl.specs.inner.Firsts.{HasFirsts}
use Rattle.fab_impl.proofs.FirstPads.{push_new, push_old}
use Rattle.fab_impl.proofs.input_pads.InputPads.with.Goals as goal
use Rattle.fab_impl.proofs.input_pads.InputPads.with.Goals.{then-not-contains+in_ok-add+in_ok-push, else-not-contains}

has_along : (pads new_pads : List Pad) (names new_names : List Word) (firsts new_firsts : List ℕ) → new_pads ≡ pads → new_names ≡ names → new_firsts ≡ firsts → HasFirsts pads names firsts → HasFirsts new_pads new_names new_firsts
has_along pads new_pads names new_names firsts new_firsts p n f has =
    subst (λ (x : List Pad). HasFirsts x new_names new_firsts) (sym p) (subst (λ (y : List Word). HasFirsts pads y new_firsts) (sym n) (subst (HasFirsts pads names) (sym f) has))

pub invariant_of-result : goal.invariant_of-result
invariant_of-result c =
    let old = c.self.inside.pads.items in
    let port = c.args.port.now in
    let site = c.args.site in
    let pads : c.push-2.new.self.items ≡ old ++ (port, site) ∷ [] = c.in_ok-push-2.ensures.items ∙ ap (λ (name : Word). old ++ (name, site) ∷ []) c.in_ok-of.ensures in
    elim c.if-not-contains.branch [
      | then-not-contains+in_ok-add+in_ok-push w ↦
          has_along (old ++ (port, site) ∷ []) c.push-2.new.self.items (c.self.inside.names ++ port ∷ []) c.if-not-contains.names (c.self.inside.firsts.items ++ length old ∷ []) c.if-not-contains.firsts.items
          pads (w.names-is ∙ w.in_ok-add.ensures) (ap (λ f. f.items) w.firsts-is ∙ w.in_ok-push.ensures.items ∙ ap (λ (n : ℕ). c.self.inside.firsts.items ++ n ∷ []) (ap length c.as_slice-count.ensures.value))
          (push_new old c.self.inside.names c.self.inside.firsts.items port site c.self.invariant)
      | else-not-contains w ↦
          has_along (old ++ (port, site) ∷ []) c.push-2.new.self.items c.self.inside.names c.if-not-contains.names c.self.inside.firsts.items c.if-not-contains.firsts.items
          pads w.names-is (ap (λ f. f.items) w.firsts-is)
          (push_old old c.self.inside.names c.self.inside.firsts.items port site c.self.invariant (sym c.contains.ensures ∙ w.if-not-contains.false))
    ]
