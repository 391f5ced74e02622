-- The commands that read a design are ready, or they have a first refusal, where each BLIF file spells a netlist or is refused.
use Rattle.std.proofs.Common.{◌≡◌, ◌≤◌, ◌⊎◌, ℕ, Bool, true, false, List, [], Option, Some, None, Result, Ok, Err, refl, sym, ap, ◌∙◌, inl, inr}
use Rattle.std.specs.Prelude.{nat_lt, length, if◌then◌else◌}
use Rattle.fab_base.specs.declared.fault.Fault.{Fault}
use Rattle.fab_base.specs.declared.fault.Fault.TheVariants as faults
use Rattle.fab_base.specs.declared.fault.SiteKind.TheVariants as kinds
use Rattle.fab_desk.specs.Files.{Map}
use Rattle.fab_lines.specs.Counts.{last_line}
use Rattle.fab_model.specs.Grid.{PlainFabric}
use Rattle.fab_netlist.specs.Packed.{PlainPacked}
use Rattle.fab_netlist.specs.Packing.{packed, packing, works}
use Rattle.fab_netlist.specs.Plain.{PlainNetlist}
use Rattle.fab_netlist.specs.Resets.{netlist_with, reset_place}
use Rattle.fab_netlist.specs.WellMade.{ports}
use Rattle.fab_netlist.proofs.Resetting.{made_with}
use Rattle.fab_implementation.specs.Plain.{Pad, PlainImplementation}
use Rattle.fab_files.specs.Stages.{ReadsFrom, MeetsLast}
use Rattle.fab_texts.specs.Rows.{rows_of, words_of}
use Rattle.fab_legal.specs.WellMade.{PackedIsWellMade}
use Rattle.fab_state.specs.Constraints.{constraint_format, data_ports, fixed}
use Rattle.fab_state.proofs.FixingsBack.{spelled_by_reading}
use Rattle.fab_read.specs.Fabrics.{SpellsFabric, MeetsFabric}
use Rattle.fab_designs.specs.Designs.{DesignFiles, PlainDesign, SpellsNetlist, SpellsConstraints, SpellsDesign, MeetsNetlist, RefusesConstraints, MeetsConstraints, MeetsBehindFabric, MeetsDesign}
use Rattle.fab_designs.specs.Implementations.{ReadsImplementation, MeetsImplementation}
use Rattle.fab_spelled_designs_laws.specs.DesignLaws.{SpelledDesignsAreSound}
use Rattle.fab_flow.specs.Resetting.{HasReset, LacksReset}
use Rattle.fab_flow.specs.Assembling.{AssemblyFiles, packing_for, Fits, RefusesAssembly, no_input, unfit, short, illegal, MeetsBehindDesign, MeetsAssembly, IsReadyToAssemble}
use Rattle.fab_flow.specs.Flowing.{FlowFiles, used, RefusesFlow, MeetsFlow, IsReadyToFlow}
use Rattle.fab_flow.specs.Flowing as flows
use Rattle.fab_flow.specs.Generating.{text_length, most_text_bytes}
use Rattle.fab_flow.specs.Mapping.{MappingFiles, RefusesMapping, MeetsMapping, IsReadyToMap}
use Rattle.fab_judged_laws.specs.Judged.{IsSpelledOrRefused, IsReadyOrRefused}
use Rattle.fab_judged_laws.proofs.Fabrics.{fabric_judged}
use Rattle.fab_judged_laws.proofs.Stages.{named_file_judged, in_turn, at_last}
use Rattle.fab_judged_laws.proofs.Texts.{texts_judged}
use Rattle.fab_ready_laws.specs.Implementations.{ImplementationsAreJudged}
use Rattle.fab_ready_laws.specs.Netlists.{NetlistsAreJudged}
use Rattle.fab_ready_laws.proofs.Commands.{implementation_judged, long_or_short}

-- ---- a design

pub constraints_judged : (fabric : PlainFabric) (netlist : PlainNetlist) (file bytes : List ℕ) → IsSpelledOrRefused (SpellsConstraints fabric netlist bytes) (RefusesConstraints fabric netlist file bytes)
constraints_judged fabric netlist file bytes = elim (texts_judged (constraint_format fabric (data_ports netlist)) file (rows_of bytes) (last_line bytes)) [
  | inl whole ↦ inl ((fixed fabric (data_ports netlist) (words_of (rows_of bytes))).pads, spelled_by_reading fabric (data_ports netlist) (rows_of bytes) whole)
  | inr refusal ↦ inr refusal
]

-- what is packed is the packed netlist
packing_is : (netlist : PlainNetlist) (luts pads : ℕ) (answer : PlainPacked) → packing netlist luts pads ≡ Ok answer → answer ≡ packed netlist
packing_is netlist luts pads answer is =
    by_tests (faults.Short kinds.Lut (length (works netlist)) luts) (faults.Short kinds.Pad (length (ports netlist)) pads) (nat_lt luts (length (works netlist)))
    (nat_lt pads (length (ports netlist))) (packed netlist) is
  where
    some_is : {a b : PlainPacked} → (let value : PlainPacked → Result PlainPacked Fault = λ x. Ok x in value a ≡ value b) → a ≡ b
    some_is same = cc

    by_tests : (first second : Fault) (few_luts few_pads : Bool) (it : PlainPacked) → (if few_luts then Err first else if few_pads then Err second else Ok it) ≡ Ok answer → answer ≡ it
    by_tests first second true few_pads it so = absurd cc
    by_tests first second false true it so = absurd cc
    by_tests first second false false it so = sym (some_is so)

module _ (files : Map) (netlists : NetlistsAreJudged files) where
  module _ (names : DesignFiles) where
    pub design_judged : IsReadyOrRefused ((design : PlainDesign) × SpellsDesign files names design) (MeetsDesign files names)
    design_judged = in_turn (SpellsFabric files names.fabric) (MeetsFabric files names.fabric) (MeetsBehindFabric files names) (fabric_judged files names.fabric) (λ fabric spelled.
        in_turn (ReadsFrom files names.blif SpellsNetlist) (MeetsNetlist files names.blif) (λ netlist. MeetsConstraints files names.pcf fabric netlist) (netlists names.blif) (λ netlist read.
        elim (named_file_judged files (SpellsConstraints fabric netlist) (RefusesConstraints fabric netlist) (λ file bytes found. constraints_judged fabric netlist file bytes) [] names.pcf) [
          | inl given ↦ (
              let design : PlainDesign = record { fabric = fabric; netlist = netlist; fixed = given.0 } in
              let all : SpellsDesign files names design = record { fabric = spelled; netlist = read; fixed = given.1 } in
              inl (design, all))
          | inr refusal ↦ inr refusal
        ]))

  -- ---- sites enough, and a reset port

  -- what packing answers is the packed netlist, or a refusal
  fits_or_short : (fabric : PlainFabric) (netlist : PlainNetlist) → Fits fabric netlist ⊎ ((fault : Fault) × (packing_for fabric netlist ≡ Err fault))
  fits_or_short fabric netlist = by_answer (packing_for fabric netlist) refl
    where
      by_answer : (answer : Result PlainPacked Fault) → packing_for fabric netlist ≡ answer → Fits fabric netlist ⊎ ((fault : Fault) × (packing_for fabric netlist ≡ Err fault))
      by_answer (Err fault) is = inr (fault, is)
      by_answer (Ok answer) is = inl (is ∙ ap (λ (p : PlainPacked). let r : Result PlainPacked Fault = Ok p in r) (packing_is netlist _ _ answer is))

  reset_judged : (port : Option (List ℕ)) (netlist : PlainNetlist) → HasReset port netlist ⊎ ((fault : Fault) × LacksReset port netlist fault)
  reset_judged None netlist = inl tt
  reset_judged (Some port) netlist = by_place (reset_place netlist port) refl
    where
      by_place : (found : Option ℕ) → reset_place netlist port ≡ found → HasReset (Some port) netlist ⊎ ((fault : Fault) × LacksReset (Some port) netlist fault)
      by_place None is = inr (faults.Illegal 12 port, (is, refl))
      by_place (Some place) is = inl (place, is)

  -- ---- map

  pub map_judged : (names : MappingFiles) → IsReadyOrRefused (IsReadyToMap files names) (MeetsMapping files names)
  map_judged names = in_turn (SpellsDesign files names.design) (MeetsDesign files names.design) _ (design_judged names.design) (λ design spelled.
      at_last (RefusesMapping design) (elim (fits_or_short design.fabric design.netlist) [
        | inl fits ↦ inl (record { design = design; spelled = spelled; fits = fits })
        | inr few ↦ inr few
      ]))

  -- ---- flow

  module _ (names : FlowFiles) (design : PlainDesign) (spelled : SpellsDesign files names.design design) where
    abbrev FlowIsJudged : Type 0
    FlowIsJudged = IsReadyToFlow files names ⊎ ((fault : Fault) × RefusesFlow names.design.fabric names.reset design fault)

    by_reset : text_length design.fabric ≤ most_text_bytes → FlowIsJudged
    by_reset is_short = elim (reset_judged names.reset design.netlist) [
      | inr lacks ↦ inr (lacks.0, flows.no_input is_short lacks.1)
      | inl has ↦
          elim (fits_or_short design.fabric (used names design)) [
            | inr few ↦ inr (few.0, flows.short is_short has few.1)
            | inl fits ↦ inl (record { design = design; spelled = spelled; short = is_short; resets = has; fits = fits })
          ]
    ]

    flow_content : FlowIsJudged
    flow_content = elim (long_or_short files names.design.fabric design.fabric) [
      | inr long ↦ inr (long.0, flows.long long.1)
      | inl is_short ↦ by_reset is_short
    ]

  pub flow_judged : (names : FlowFiles) → IsReadyOrRefused (IsReadyToFlow files names) (MeetsFlow files names)
  flow_judged names = in_turn (SpellsDesign files names.design) (MeetsDesign files names.design) _ (design_judged names.design)
      (λ design spelled. at_last (RefusesFlow names.design.fabric names.reset design) (flow_content names design spelled))

  -- ---- assemble, and timing, which is refused as it is

  module _ (sound : SpelledDesignsAreSound) (packs : PackedIsWellMade) (implementations : ImplementationsAreJudged) (names : AssemblyFiles) where
    module _ (design : PlainDesign) (spelled : SpellsDesign files names.design design) (it : PlainImplementation) (implemented : ReadsImplementation files names.implementation design.fabric it) where
      abbrev AssemblyIsJudged : Type 0
      AssemblyIsJudged = IsReadyToAssemble files names ⊎ ((fault : Fault) × RefusesAssembly design it fault)

      abbrev netlist : PlainNetlist
      netlist = netlist_with it.reset design.netlist

      by_rules : HasReset it.reset design.netlist → Fits design.fabric netlist → AssemblyIsJudged
      by_rules has fits =
          let is = sound files names.design design spelled in
          elim (implementations design.fabric (packed netlist) design.fixed it is.tiles (packs netlist _ _ (packed netlist) (made_with design.netlist it.reset is.netlist) fits) implemented.spelled.lines.nameable.on_fabric) [
            | inl legal ↦
                inl (record { design = design; implementation = it; spelled = spelled; implemented = implemented; resets = has; fits = fits; legal = legal })
            | inr broken ↦ inr (faults.Illegal broken.0 broken.1, unfit has (illegal fits broken.2))
          ]

      assembly_content : AssemblyIsJudged
      assembly_content = elim (reset_judged it.reset design.netlist) [
        | inr lacks ↦ inr (lacks.0, no_input lacks.1)
        | inl has ↦
            elim (fits_or_short design.fabric netlist) [
              | inr few ↦ inr (few.0, unfit has (short few.1))
              | inl fits ↦ by_rules has fits
            ]
      ]

    pub assembly_judged : IsReadyOrRefused (IsReadyToAssemble files names) (MeetsAssembly files names)
    assembly_judged = in_turn (SpellsDesign files names.design) (MeetsDesign files names.design) (MeetsBehindDesign files names.implementation) (design_judged names.design) (λ design spelled.
        in_turn (ReadsImplementation files names.implementation design.fabric) (MeetsImplementation files names.implementation design.fabric) (λ it. MeetsLast (RefusesAssembly design it))
        (implementation_judged files design.fabric names.implementation) (λ it implemented.
        at_last (RefusesAssembly design it) (assembly_content design spelled it implemented)))
