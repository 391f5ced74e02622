-- The first refusals of the command `assemble` have one status number, or it is ready.
use Rattle.std.proofs.Common.{◌≡◌, ℕ, List, refl, sym, ap, ◌∙◌}
use Rattle.fab_base.specs.declared.fault.Fault.{Fault}
use Rattle.fab_base.specs.Report.{number_of}
use Rattle.fab_desk.specs.Files.{Map}
use Rattle.fab_files.specs.Files.{refuses}
use Rattle.fab_files.specs.Stages.{MeetsLast, IsJudged}
use Rattle.fab_files.proofs.Stages.{turn_is_judged}
use Rattle.fab_netlist.specs.Packing.{packed}
use Rattle.fab_netlist.specs.Resets.{netlist_with}
use Rattle.fab_netlist.specs.WellMade.{IsWellMade}
use Rattle.fab_netlist.proofs.Resetting.{made_with}
use Rattle.fab_implementation.specs.Plain.{PlainImplementation}
use Rattle.fab_legal.specs.Legal.{IsLegal}
use Rattle.fab_legal.proofs.NotLegal.{broken_is_not_legal}
use Rattle.fab_legal.proofs.PackedMade.{packed_is_well_made}
use Rattle.fab_designs.specs.Designs.{PlainDesign, SpellsDesign, MeetsDesign}
use Rattle.fab_designs.specs.Implementations.{ReadsImplementation, MeetsImplementation}
use Rattle.fab_designs.proofs.Judged.{SameNumber, design_is_judged, implementation_is_judged}
use Rattle.fab_designs.proofs.SplitNetlists.{netlist_made}
use Rattle.fab_flow.specs.Resetting.{HasReset}
use Rattle.fab_flow.specs.Assembling.{AssemblyFiles, Fits, IsReadyToAssemble, MeetsAssembly, MeetsBehindDesign, RefusesAssembly, no_input, unfit, short, illegal}
use Rattle.fab_flow.proofs.ResetPorts.{has_apart, lacks_once}

pub refuses_is : {a b : Fault} → refuses a ≡ refuses b → a ≡ b
refuses_is same = cc

-- the reset port is a data input, the fabric has sites enough, and the implementation is legal
abbrev IsTaken : PlainDesign → PlainImplementation → Unit {0} → Type 0
IsTaken design implementation _ =
    HasReset implementation.reset design.netlist × Fits design.fabric (netlist_with implementation.reset design.netlist)
    × IsLegal design.fabric (packed (netlist_with implementation.reset design.netlist)) design.fixed implementation

refused_number : (design : PlainDesign) (implementation : PlainImplementation) (a b : Fault)
    → RefusesAssembly design implementation a → RefusesAssembly design implementation b → number_of a ≡ number_of b
refused_number design implementation a b (no_input lacks) (no_input also) = ap number_of (lacks_once implementation.reset design.netlist a b lacks also)
refused_number design implementation a b (no_input lacks) (unfit has is) = absurd (has_apart implementation.reset design.netlist a has lacks)
refused_number design implementation a b (unfit has is) (no_input lacks) = absurd (has_apart implementation.reset design.netlist b has lacks)
refused_number design implementation a b (unfit has (short is)) (unfit here (short also)) = ap number_of (let same = sym is ∙ also in cc)
refused_number design implementation a b (unfit has (short is)) (unfit here (illegal fits broken)) = absurd (let differ = sym is ∙ fits in cc)
refused_number design implementation a b (unfit has (illegal fits broken)) (unfit here (short is)) = absurd (let differ = sym is ∙ fits in cc)
refused_number design implementation a b (unfit has (illegal fits broken)) (unfit here (illegal also other)) = refl

module _ (design : PlainDesign) (made : IsWellMade design.netlist) (implementation : PlainImplementation) where
  taken_apart : (fault : Fault) → IsTaken design implementation tt → RefusesAssembly design implementation fault → ⊥
  taken_apart fault taken (no_input lacks) = has_apart implementation.reset design.netlist fault taken.0 lacks
  taken_apart fault taken (unfit has (short is)) = let differ = sym is ∙ taken.1 in cc
  taken_apart fault taken (unfit has (illegal {rule = rule} {item = item} fits broken)) =
      let netlist = netlist_with implementation.reset design.netlist in
      broken_is_not_legal design.fabric (packed netlist) design.fixed implementation rule item
      (packed_is_well_made netlist _ _ (packed netlist) (made_with design.netlist implementation.reset made) fits) broken taken.2

  assembling_is_judged : IsJudged SameNumber (IsTaken design implementation) (MeetsLast (RefusesAssembly design implementation))
  assembling_is_judged = record {
    once = λ first second x y. refl;
    refused_once = λ first second x y.
        ap number_of (refuses_is x.1) ∙ refused_number design implementation x.0 y.0 x.2 y.2 ∙ sym (ap number_of (refuses_is y.1));
    apart = λ value fault taken x. taken_apart x.0 taken x.2;
  }

-- a design that is spelled has a well-made netlist
design_made : (files : Map) (names : AssemblyFiles) (design : PlainDesign) → SpellsDesign files names.design design → IsWellMade design.netlist
design_made files names design spelled = netlist_made spelled.netlist.bytes design.netlist spelled.netlist.spelled

-- an implementation is read, and taken
abbrev IsAssembled : (files : Map) → (implementation : List ℕ) → PlainDesign → PlainImplementation × Unit {0} → Type 0
IsAssembled files implementation design value = ReadsImplementation files implementation design.fabric value.0 × IsTaken design value.0 value.1

module _ (files : Map) (names : AssemblyFiles) where
  same_of_equal : (file : List ℕ) (design : PlainDesign) → IsJudged SameNumber (ReadsImplementation files file design.fabric) (MeetsImplementation files file design.fabric)
  same_of_equal file design =
      let judged = implementation_is_judged files file design.fabric in
      record { once = judged.once; refused_once = λ a b x y. ap number_of (judged.refused_once a b x y); apart = judged.apart }

  behind_is_judged : (design : PlainDesign) → SpellsDesign files names.design design
      → IsJudged SameNumber (IsAssembled files names.implementation design) (MeetsBehindDesign files names.implementation design)
  behind_is_judged design spelled =
      turn_is_judged SameNumber (ReadsImplementation files names.implementation design.fabric) (MeetsImplementation files names.implementation design.fabric)
      (λ it. MeetsLast (RefusesAssembly design it))
      (same_of_equal names.implementation design) (IsTaken design) (λ it read. assembling_is_judged design (design_made files names design spelled) it)

  assembly_is_judged : IsJudged SameNumber (λ (value : PlainDesign × (PlainImplementation × Unit {0})). SpellsDesign files names.design value.0
      × IsAssembled files names.implementation value.0 value.1) (MeetsAssembly files names)
  assembly_is_judged =
      turn_is_judged SameNumber (SpellsDesign files names.design) (MeetsDesign files names.design) (MeetsBehindDesign files names.implementation)
      (design_is_judged files names.design) (IsAssembled files names.implementation) behind_is_judged

  -- what the command comes upon has one status number
  pub one_number : (a b : Fault) → MeetsAssembly files names (refuses a) → MeetsAssembly files names (refuses b) → number_of a ≡ number_of b
  one_number a b = assembly_is_judged.refused_once a b

  -- what is ready is not refused
  pub not_both : (fault : Fault) → IsReadyToAssemble files names → MeetsAssembly files names (refuses fault) → ⊥
  not_both fault ready = assembly_is_judged.apart (ready.design, (ready.implementation, tt)) fault (ready.spelled, (ready.implemented, (ready.resets, ready.fits, ready.legal)))
