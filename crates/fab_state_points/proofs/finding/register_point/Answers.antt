use Rattle.std.proofs.Common.{[], ◌∷◌, ◌≡◌, List, ℕ, subst, ap, ◌∙◌}
use Rattle.fab_syntax.specs.Plain.{plain_text}
use Rattle.fab_syntax.specs.declared.tree.Shape.TheVariants.{Scalar}
use Rattle.fab_meaning.specs.Points.{Path}
use Rattle.fab_values.specs.declared.names.Role.TheVariants.{Reg}
use Rattle.fab_prim.specs.Modules.{flip_flop_name}
use Rattle.fab_use_defs.specs.Sites.{bel_point}
use Rattle.fab_fabric.specs.Names.{place_name}
use Rattle.fab_gen_tile.specs.Names.{bel_instance_name}
use Rattle.fab_state_points.specs.Finding.{IsFoundName}
use Rattle.fab_state_points.proofs.Found.{declared_within, register_found}
use Rattle.fab_state_points.proofs.finding.register_point.Goals as goal

pub child_of-bel-requires : goal.child_of-bel-requires
child_of-bel-requires c = (c.deref.result.now ∷ [], c.child_of-tile.ensures [] c.top.ensures)

pub declared-register-requires : goal.declared-register-requires
declared-register-requires c =
    (c.deref-2.result.now ∷ (c.deref.result.now ∷ []), c.child_of-bel.ensures (c.deref.result.now ∷ []) (c.child_of-tile.ensures [] c.top.ensures))

pub flip_flop-requires : goal.flip_flop-requires
flip_flop-requires c =
    let path = c.deref-2.result.now ∷ (c.deref.result.now ∷ []) in
    declared_within (plain_text c.args.equations.now) path flip_flop_name Reg c.declared-register.result
    (c.declared-register.ensures path (c.child_of-bel.ensures (c.deref.result.now ∷ []) (c.child_of-tile.ensures [] c.top.ensures)))

pub returns : goal.returns
returns c =
    let text = plain_text c.args.equations.now in
    let path = c.deref-2.result.now ∷ (c.deref.result.now ∷ []) in
    let found = c.declared-register.ensures path (c.child_of-bel.ensures (c.deref.result.now ∷ []) (c.child_of-tile.ensures [] c.top.ensures)) in
    let tile : c.deref.result.now ≡ place_name c.args.site.x c.args.site.y = c.deref.ensures.value ∙ c.in_ok-tile.ensures in
    let bel : c.deref-2.result.now ≡ bel_instance_name c.args.site.bel = c.deref-2.ensures.value ∙ c.in_ok-bel.ensures in
    let same : path ≡ (bel_point c.args.site flip_flop_name).path =
    ap (λ (name : List ℕ). name ∷ (c.deref.result.now ∷ [])) bel ∙ ap (λ (name : List ℕ). bel_instance_name c.args.site.bel ∷ (name ∷ [])) tile in
    register_found text c.args.site c.declared-register.result c.flip_flop.result
    (subst (λ (p : Path). IsFoundName text p flip_flop_name Scalar Reg c.declared-register.result) same found) c.flip_flop.ensures
