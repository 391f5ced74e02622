-- What holds of a netlist with the reset port that a command is given.
use Rattle.std.proofs.Common.{◌≡◌, ℕ, Bool, true, List, Option, Some, None, refl, sym, ◌∙◌, subst}
use Rattle.fab_base.specs.declared.fault.Fault.{Fault}
use Rattle.fab_base.specs.declared.fault.Fault.TheVariants as faults
use Rattle.fab_netlist.specs.Plain.{PlainNetlist}
use Rattle.fab_netlist.specs.Resets.{IsSetBy, IsSetTo, reset_place, set_at, netlist_with}
use Rattle.fab_state.specs.Constraints.{data_ports}
use Rattle.fab_designs.specs.Designs.{PlainDesign}
use Rattle.fab_flow.specs.Resetting.{HasReset, LacksReset}

-- ---- the netlist

ports_at : (place : Option ℕ) (netlist : PlainNetlist) → data_ports (set_at place netlist) ≡ data_ports netlist
ports_at None netlist = refl
ports_at (Some place) netlist = refl

-- its ports are the same
pub ports_with : (port : Option (List ℕ)) (netlist : PlainNetlist) → data_ports (netlist_with port netlist) ≡ data_ports netlist
ports_with None netlist = refl
ports_with (Some port) netlist = ports_at (reset_place netlist port) netlist

-- where the port was set, it is a data input
pub has_set : (netlist new : PlainNetlist) (port : List ℕ) (done : Bool) → IsSetTo netlist port done new → done ≡ true → HasReset (Some port) netlist
has_set netlist new port done sets is = go (reset_place netlist port) refl sets
  where
    go : (place : Option ℕ) → reset_place netlist port ≡ place → IsSetBy place netlist done new → HasReset (Some port) netlist
    go None place_is unset = absurd (let differ = sym is ∙ unset.0 in cc)
    go (Some place) place_is set = (place, place_is)

-- ---- the design

-- a design with the reset port that is named
abbrev pub used_design : (reset : Option (List ℕ)) → PlainDesign → PlainDesign
used_design reset design = record { fabric = design.fabric; netlist = netlist_with reset design.netlist; fixed = design.fixed }

-- What holds of a design whose netlist took the port holds of the design with the port.
pub seen : (P : PlainDesign → Type 0) (reset : Option (List ℕ)) (inside design : PlainDesign) (new : PlainNetlist) → inside ≡ design → new ≡ netlist_with reset inside.netlist
    → P (record { fabric = inside.fabric; netlist = new; fixed = inside.fixed }) → P (used_design reset design)
seen P reset inside design new is set holds =
    subst (λ (d : PlainDesign). P (used_design reset d)) is
    (subst (λ (n : PlainNetlist). P (record { fabric = inside.fabric; netlist = n; fixed = inside.fixed })) set holds)

-- ---- the refusal

-- a port that is no data input breaks rule 12
pub lacks_illegal : (port : Option (List ℕ)) (netlist : PlainNetlist) (fault : Fault) → LacksReset port netlist fault → (item : List ℕ) × (fault ≡ faults.Illegal 12 item)
lacks_illegal None netlist fault lacks = absurd lacks
lacks_illegal (Some port) netlist fault lacks = (port, lacks.1)

pub lacks_once : (port : Option (List ℕ)) (netlist : PlainNetlist) (a b : Fault) → LacksReset port netlist a → LacksReset port netlist b → a ≡ b
lacks_once None netlist a b first second = absurd first
lacks_once (Some port) netlist a b first second = first.1 ∙ sym second.1

-- a port that is one is not refused
pub has_apart : (port : Option (List ℕ)) (netlist : PlainNetlist) (fault : Fault) → HasReset port netlist → LacksReset port netlist fault → ⊥
has_apart None netlist fault has lacks = lacks
has_apart (Some port) netlist fault has lacks = let differ = sym has.1 ∙ lacks.0 in cc
