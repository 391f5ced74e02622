-- What the command `map` does to the files, and why it ends otherwise.
use Rattle.std.specs.Prelude.{◌≡◌, ℕ, List, [], ◌∷◌, Option, Err}
use Rattle.fab_base.specs.declared.fault.Fault.{Fault}
use Rattle.fab_base.specs.declared.fault.Fault.TheVariants as faults
use Rattle.fab_desk.specs.Files.{Map}
use Rattle.fab_netlist.specs.Packing.{packed}
use Rattle.fab_implementation.specs.Plain.{PlainImplementation}
use Rattle.fab_legal.specs.Legal.{IsLegal}
use Rattle.fab_ways_laws.specs.Mapping.{IsMapping}
use Rattle.fab_files.specs.Files.{Event}
use Rattle.fab_files.specs.Stages.{MeetsBehind, MeetsLast}
use Rattle.fab_impl.specs.Spelled.{implementation_text}
use Rattle.fab_map.specs.Causes.{HasMapCause}
use Rattle.fab_designs.specs.Designs.{DesignFiles, PlainDesign, SpellsDesign, MeetsDesign}
use Rattle.fab_flow.specs.Assembling.{Fits, packing_for}
use Rattle.fab_outputs.specs.Storing.{PlainOutput, output}
use Rattle.fab_outputs.specs.Ending.{HasSearchCause}

-- the names of the files of a design, and of the output
pub record MappingFiles : Type 0 where
  pub design : DesignFiles
  pub out : List ℕ

abbrev pub mapping_files : (design : DesignFiles) → (out : List ℕ) → MappingFiles
mapping_files design out = record { design = design; out = out }

-- ---- what is done

-- a mapping of a design in so many rounds, which is legal under its constraints, and the printed text of it
pub record IsMapped (design : PlainDesign) (rounds : ℕ) (out : List ℕ) (outputs : List PlainOutput) : Type 0 where
  pub implementation : PlainImplementation
  pub mapping : IsMapping design.fabric (packed design.netlist) design.fixed rounds implementation
  pub legal : IsLegal design.fabric (packed design.netlist) design.fixed implementation
  pub outputs_are : outputs ≡ output out (implementation_text design.fabric implementation) ∷ []

-- The files spell a design that has sites enough, and the output is the text of a mapping of it.
pub record MakesMapping (files : Map) (names : MappingFiles) (rounds : ℕ) (outputs : List PlainOutput) : Type 0 where
  pub design : PlainDesign
  pub spelled : SpellsDesign files names.design design
  pub fits : Fits design.fabric design.netlist
  pub mapped : IsMapped design rounds names.out outputs

-- ---- the first refusal

-- a design that was read is refused where its fabric is short of sites
abbrev pub RefusesMapping : PlainDesign → Fault → Type 0
RefusesMapping design fault = packing_for design.fabric design.netlist ≡ Err fault

-- What the command comes upon: first in the files of the design, and then in what these spell.
abbrev pub MeetsMapping : (files : Map) (names : MappingFiles) → Event → Type 0
MeetsMapping files names event = MeetsBehind (SpellsDesign files names.design) (MeetsDesign files names.design) (λ design. MeetsLast (RefusesMapping design)) event

-- nothing is refused
pub record IsReadyToMap (files : Map) (names : MappingFiles) : Type 0 where
  pub design : PlainDesign
  pub spelled : SpellsDesign files names.design design
  pub fits : Fits design.fabric design.netlist

-- ---- why the command ends with a fault

-- Why a design that was read is not mapped: memory was refused, its fabric is short of sites, or it has sites enough and there is a cause of mapping.
pub data EndsUnmapped (design : PlainDesign) (rounds : ℕ) : Fault → Type 0 where
  memory : EndsUnmapped design rounds faults.Memory
  refused : {fault : Fault} → RefusesMapping design fault → EndsUnmapped design rounds fault
  failed : {fault : Fault} → Fits design.fabric design.netlist → HasMapCause design.fabric (packed design.netlist) design.fixed rounds fault → EndsUnmapped design rounds fault

-- the files spell a design that has sites enough, and for this cause it is not mapped
pub record FailsToMap (files : Map) (names : MappingFiles) (rounds : ℕ) (fault : Fault) : Type 0 where
  pub design : PlainDesign
  pub spelled : SpellsDesign files names.design design
  pub fits : Fits design.fabric design.netlist
  pub cause : HasMapCause design.fabric (packed design.netlist) design.fixed rounds fault

-- absent, too long, malformed, unsupported, over a limit, and short of sites
abbrev pub map_refusals : List ℕ
map_refusals = 2 ∷ 3 ∷ 4 ∷ 5 ∷ 6 ∷ 7 ∷ []

abbrev pub HasMappingCause : (told : Option Map) → (names : MappingFiles) → (rounds : ℕ) → (reads_rose writes_rose : Type 0) → Fault → Type 0
HasMappingCause told names rounds reads_rose writes_rose fault =
    HasSearchCause told reads_rose writes_rose (λ files. MeetsMapping files names) (λ files. IsReadyToMap files names) (λ files. FailsToMap files names rounds) map_refusals fault
