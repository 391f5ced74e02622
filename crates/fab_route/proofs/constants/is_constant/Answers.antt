use Rattle.std.proofs.Common.{◌≡◌, ◌↔◌, Bool, Option, Some, subst}
use Rattle.fab_legal.specs.Steps.{IsConstant, bit_drive}
use Rattle.fab_route.proofs.Reaching.{value_told, no_value}
use Rattle.fab_route.proofs.constants.is_constant.Goals as goal

pub returns-in-Some : goal.returns-in-Some
returns-in-Some c =
    value_told (λ (v : Bool). IsConstant c.args.fabric.now (bit_drive v) c.args.wire) c.in-Some.found c.args.value
    (subst (λ (o : Option Bool). (v : Bool) → (o ≡ Some v) ↔ IsConstant c.args.fabric.now (bit_drive v) c.args.wire) c.in-Some.is c.constant_at.ensures)

pub returns-in-None : goal.returns-in-None
returns-in-None c =
    no_value (λ (v : Bool). IsConstant c.args.fabric.now (bit_drive v) c.args.wire) c.args.value
    (subst (λ (o : Option Bool). (v : Bool) → (o ≡ Some v) ↔ IsConstant c.args.fabric.now (bit_drive v) c.args.wire) c.in-None.is c.constant_at.ensures)
