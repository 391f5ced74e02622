use Rattle.std.proofs.Common.{◌≡◌, ◌∙◌, ◌++◌, ◌∷◌, [], List, ℕ, ap, ap₂, sym}
use Rattle.fab_fabric.specs.Names.{full_name, name_at}
use Rattle.fab_fabric.proofs.Numbered.{one_place}
use Rattle.fab_fabric.proofs.fabric.Fabric.wire_name.Goals as goal

pub returns : goal.returns
returns c = λ x y number few is.
    let fabric = c.args.self.now in
    let at = c.spot-x.result in
    let same = one_place fabric at.0 at.1 at.2 x y number c.spot-x.ensures.number few (sym c.spot-x.ensures.index ∙ is) in
    let text : c.from.result ≡ full_name at.0 at.1 (name_at fabric at.0 at.1 at.2) =
    c.from.ensures
    ∙ c.in_ok-extend_from_slice.ensures.items
    ∙ ap₂ (λ (front back : List ℕ). front ++ back) (c.in_ok-push.ensures.items ∙ ap (λ (front : List ℕ). front ++ 47 ∷ []) c.in_ok-text.ensures) (c.bytes.ensures ∙ c.in_ok-name.ensures) in
    text ∙ (λ j. full_name (same.0 j) (same.1 j) (name_at fabric (same.0 j) (same.1 j) (same.2 j)))
