-- Why the readers of a design's files end with the refusal of a file's bytes.
use Rattle.std.proofs.Common.{◌≡◌, ◌≢◌, ℕ, List, Option, Some, inl, inr, sym, subst}
use Rattle.fab_base.specs.declared.fault.Fault.{Fault}
use Rattle.fab_base.specs.declared.fault.Fault.TheVariants as faults
use Rattle.fab_desk.specs.Files.{Map}
use Rattle.fab_files.specs.Files.{Event, refuses, HasReadCause}
use Rattle.fab_blif.specs.Blif.{IsContentFault}
use Rattle.fab_blif.proofs.Content.{refused_for_content}
use Rattle.fab_designs.specs.Designs.{RefusesNetlist}

-- what is refused of a BLIF file is something that it holds
netlist_content : (file bytes : List ℕ) (fault : Fault) → RefusesNetlist file bytes fault → IsContentFault fault
netlist_content file bytes fault (inl refused) = refused_for_content 16 file bytes fault refused
netlist_content file bytes fault (inr split) = subst IsContentFault (sym split.1.1) tt

module _ (told : Option Map) (rose : Type 0) (meets : Map → Event → Type 0) where
  -- what a file holds is refused where it is met
  content_cause : (fault : Fault) → IsContentFault fault → ((files : Map) → told ≡ Some files → meets files (refuses fault)) → HasReadCause told rose meets fault
  content_cause (faults.Malformed place reason) is met = met
  content_cause (faults.Unsupported place construct) is met = met
  content_cause (faults.Limit place quantity value bound) is met = met
  content_cause fault is met = absurd is

  -- a BLIF file is refused for its first refusal, unless memory was
  pub blif_cause : (file bytes : List ℕ) (fault : Fault) → (fault ≢ faults.Memory → RefusesNetlist file bytes fault)
      → ((files : Map) → told ≡ Some files → RefusesNetlist file bytes fault → meets files (refuses fault)) → HasReadCause told rose meets fault
  blif_cause file bytes faults.Memory refused met = tt
  blif_cause file bytes fault refused met =
      let why = refused (λ same. cc) in content_cause fault (netlist_content file bytes fault why) (λ files is. met files is why)
