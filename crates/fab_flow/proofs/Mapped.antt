-- What the command `map` makes, and why a design that was read is not mapped.
use Rattle.std.proofs.Common.{◌≡◌, ℕ, ◌⊎◌, List, [], ◌∷◌, All, Contains, length, nat_lt, Option, Some, Err, refl, sym, inl, inr, subst, arith}
use Rattle.std.specs.List.{AllByRecursion}
use Rattle.std.specs.Option.{ForSome}
use Rattle.std.proofs.lemmas.Bool.{cases_Bool, ltb-false}
use Rattle.std.proofs.lemmas.List.{length-append, length-map}
use Rattle.std.proofs.lemmas.List.Elements.{All-cons, All-nil, All-weaker}
use Rattle.fab_base.specs.declared.fault.Fault.{Fault}
use Rattle.fab_base.specs.declared.fault.Fault.TheVariants as faults
use Rattle.fab_desk.specs.Files.{Map}
use Rattle.fab_files.specs.Stages.{at_first, behind_it}
use Rattle.fab_files.specs.Files.{HasReadCause}
use Rattle.fab_kinds.specs.declared.kind.Kind.TheVariants as kinds
use Rattle.fab_model.specs.Grid.{PlainFabric}
use Rattle.fab_netlist.specs.declared.net_id.NetId.{NetId}
use Rattle.fab_netlist.specs.Plain.{PlainNetlist, name_of}
use Rattle.fab_netlist.specs.Packed.{PlainPacked}
use Rattle.fab_netlist.specs.Packing.{cell_of, net_of, packed, works}
use Rattle.fab_netlist.specs.WellMade.{IsWellMade, ports}
use Rattle.fab_implementation.specs.Plain.{Pad}
use Rattle.fab_implementation.specs.OnFabric.{kind_at}
use Rattle.fab_legal.specs.WellMade.{ports as packed_ports}
use Rattle.fab_legal.proofs.PackedMade.{packed_is_well_made}
use Rattle.fab_fabric.specs.Sites.{sites_of_kind}
use Rattle.fab_map.specs.fab_place_Fixings.{AreFixed, Fits as HasRoom}
use Rattle.fab_state.specs.Constraints.{AreFixings, data_ports}
use Rattle.fab_designs.specs.Designs.{PlainDesign, MeetsDesign, SpellsDesign}
use Rattle.fab_designs.proofs.DataPorts.{data_ports_are_ports}
use Rattle.fab_map.specs.Causes.{HasMapCause}
use Rattle.fab_flow.specs.Assembling.{Fits, packing_for}
use Rattle.fab_flow.specs.Mapping.{MappingFiles, EndsUnmapped, FailsToMap, HasMappingCause, IsReadyToMap, MeetsMapping, RefusesMapping, map_refusals, memory, refused, failed}
use Rattle.fab_outputs.specs.Storing.{PlainOutput, IsStopped, Leaves}
use Rattle.fab_flow.proofs.Assembled.{is_short}
use Rattle.fab_outputs.proofs.Ending.{Reads, cause_of_read, cause_of_store, searched}

-- ---- what mapping asks for

of_all : {X : Type 0} (P : X → Type 0) (xs : List X) → AllByRecursion P xs → All P xs
of_all P [] all = All-nil P
of_all P (x ∷ xs) all = All-cons P x xs all.0 (of_all P xs all.1)

-- the sites of constraints that were read
pub fixings_are_fixed : (fabric : PlainFabric) (netlist : PlainNetlist) (fixed : List Pad) → AreFixings fabric (data_ports netlist) fixed → AreFixed fabric (packed netlist) fixed
fixings_are_fixed fabric netlist fixed are = record {
  known = All-weaker (λ (pad : Pad). Contains (data_ports netlist) pad.0) (λ (pad : Pad). Contains (packed_ports (packed netlist)) pad.0) (λ pad there. data_ports_are_ports netlist pad.0 there)
      fixed (of_all (λ (pad : Pad). Contains (data_ports netlist) pad.0) fixed are.ports);
  kinds = of_all (λ (pad : Pad). kind_at fabric pad.1 ≡ Some kinds.Io) fixed are.kinds;
  ports_apart = are.ports_apart;
  sites_apart = are.sites_apart;
}

-- where packing has sites enough, the packed netlist has
pub room_of_packing : (fabric : PlainFabric) (netlist : PlainNetlist) → IsWellMade netlist → Fits fabric netlist → HasRoom fabric (packed netlist)
room_of_packing fabric netlist made fits =
    let luts = length (sites_of_kind fabric kinds.Lut4c) in
    let pads = length (sites_of_kind fabric kinds.Io) in
    elim (cases_Bool (nat_lt luts (length (works netlist)))) [
      | inl t ↦ absurd (let differ = rw t at fits in cc)
      | inr f ↦ elim (cases_Bool (nat_lt pads (length (ports netlist)))) [
        | inl t ↦ absurd (let differ = rw (f, t) at fits in cc)
        | inr g ↦ record {
          made = packed_is_well_made netlist luts pads (packed netlist) made fits;
          cells = omega (arith, ltb-false luts (length (works netlist)) f, length-map (works netlist) (cell_of netlist));
          ports = omega (
            arith,
            ltb-false pads (length (ports netlist)) g,
            length-append netlist.inputs netlist.outputs,
            length-map netlist.inputs (name_of netlist),
            length-map {B = List ℕ × NetId} netlist.outputs (λ net. (name_of netlist net, net_of netlist net)),
          );
        }
      ]
    ]

-- ---- causes

among : Reads map_refusals
among = record { missing = refl; long = refl; malformed = refl; unsupported = refl; limit = refl }

-- a file of the design is refused
pub design_cause : (told : Option Map) (names : MappingFiles) (rounds : ℕ) (reads writes : Type 0) (fault : Fault)
    → HasReadCause told reads (λ files. MeetsDesign files names.design) fault → HasMappingCause told names rounds reads writes fault
design_cause told names rounds reads writes fault cause =
    searched told reads writes (λ files. MeetsMapping files names) (λ files. IsReadyToMap files names) (λ files. FailsToMap files names rounds) map_refusals refl refl fault
    (cause_of_read told reads writes (λ files. MeetsMapping files names) (λ files. IsReadyToMap files names) map_refusals among
    (λ files. MeetsDesign files names.design) (λ files event is x. at_first x) fault cause)

-- the output is not stored
pub output_cause : (told : Option Map) (names : MappingFiles) (rounds : ℕ) (reads writes : Type 0) (outputs : List PlainOutput) (before after : Option Map) (rose : Type 0) (fault : Fault)
    → ForSome told (λ files. IsReadyToMap files names) → (rose → writes) → IsStopped outputs before after rose fault → HasMappingCause told names rounds reads writes fault
output_cause told names rounds reads writes outputs before after rose fault ready higher stopped =
    searched told reads writes (λ files. MeetsMapping files names) (λ files. IsReadyToMap files names) (λ files. FailsToMap files names rounds) map_refusals refl refl fault
    (cause_of_store told reads writes (λ files. MeetsMapping files names) (λ files. IsReadyToMap files names) map_refusals outputs before after rose fault ready higher stopped)

module _ (told : Option Map) (names : MappingFiles) (rounds : ℕ) (design : PlainDesign) (spelled : ForSome told (λ files. SpellsDesign files names.design design)) (reads writes : Type 0) where
  refusal_cause : (fault : Fault) → RefusesMapping design fault → HasMappingCause told names rounds reads writes fault
  refusal_cause fault is =
      let short = is_short design.netlist _ _ fault is in
      let given : Fault = faults.Short short.0 short.1 short.2 in
      subst (HasMappingCause told names rounds reads writes) (sym short.3)
      (record { possible = refl; met = λ files there. behind_it (spelled files there) (given, refl, subst (RefusesMapping design) short.3 is) })

  fails : (files : Map) (fault : Fault) → told ≡ Some files → Fits design.fabric design.netlist → HasMapCause design.fabric (packed design.netlist) design.fixed rounds fault → FailsToMap files names rounds fault
  fails files fault there fits cause = record { design = design; spelled = spelled files there; fits = fits; cause = cause }

  failure_cause : (fault : Fault) → Fits design.fabric design.netlist → HasMapCause design.fabric (packed design.netlist) design.fixed rounds fault → HasMappingCause told names rounds reads writes fault
  failure_cause faults.Memory fits cause = tt
  failure_cause (faults.NoPath net wire placement) fits cause = λ files there. fails files (faults.NoPath net wire placement) there fits cause
  failure_cause (faults.Overused wire first second placement) fits cause = λ files there. fails files (faults.Overused wire first second placement) there fits cause
  failure_cause fault fits cause = absurd cause

  -- a design that was read is not mapped
  pub mapping_cause : (fault : Fault) → EndsUnmapped design rounds fault → HasMappingCause told names rounds reads writes fault
  mapping_cause fault memory = tt
  mapping_cause fault (refused is) = refusal_cause fault is
  mapping_cause fault (failed fits cause) = failure_cause fault fits cause

-- and then the files are as they were
module _ (makes : Map → List PlainOutput → Type 0) (told after : Option Map) (design : PlainDesign) (rounds : ℕ) (kept : after ≡ told) where
  failure_leaves : (fault : Fault) → HasMapCause design.fabric (packed design.netlist) design.fixed rounds fault → Leaves makes told after fault
  failure_leaves faults.Memory cause = inl kept
  failure_leaves (faults.NoPath net wire placement) cause = kept
  failure_leaves (faults.Overused wire first second placement) cause = kept
  failure_leaves fault cause = absurd cause

  pub mapping_leaves : (fault : Fault) → EndsUnmapped design rounds fault → Leaves makes told after fault
  mapping_leaves fault memory = inl kept
  mapping_leaves fault (refused is) = let short = is_short design.netlist _ _ fault is in subst (Leaves makes told after) (sym short.3) kept
  mapping_leaves fault (failed fits cause) = failure_leaves fault cause

-- a design that is not packed is not mapped
pub not_packed : (design : PlainDesign) (rounds : ℕ) (fault : Fault) → (fault ≡ faults.Memory) ⊎ (packing_for design.fabric design.netlist ≡ Err fault) → EndsUnmapped design rounds fault
not_packed design rounds fault (inl none) = subst (EndsUnmapped design rounds) (sym none) memory
not_packed design rounds fault (inr is) = refused is

-- nor is one that is not placed and routed
pub not_routed : (design inside : PlainDesign) (given : PlainPacked) (rounds : ℕ) (fault : Fault) → inside ≡ design → given ≡ packed design.netlist → Fits design.fabric design.netlist
    → HasMapCause inside.fabric given inside.fixed rounds fault → EndsUnmapped design rounds fault
not_routed design inside given rounds fault same is fits cause =
    failed fits (subst (λ (d : PlainDesign). HasMapCause d.fabric (packed design.netlist) d.fixed rounds fault) same (subst (λ (p : PlainPacked). HasMapCause inside.fabric p inside.fixed rounds fault) is cause))
