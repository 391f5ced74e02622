-- What the command `bits` makes, and why a list of features is not taken.
use Rattle.std.proofs.Common.{◌≡◌, ◌≢◌, ◌⊎◌, ℕ, List, [], ◌∷◌, Option, Some, refl, sym, ◌∙◌, inl, inr, subst}
use Rattle.std.specs.Option.{ForSome}
use Rattle.fab_base.specs.declared.fault.Fault.{Fault}
use Rattle.fab_base.specs.declared.fault.Fault.TheVariants as faults
use Rattle.fab_desk.specs.Files.{Map}
use Rattle.fab_files.specs.Files.{Event, HasReadCause, refuses}
use Rattle.fab_files.specs.Stages.{at_first, behind_it}
use Rattle.fab_files.proofs.Causes.{cause_weaker, placed_cause}
use Rattle.fab_read.specs.Fabrics.{SpellsFabric, MeetsFabric}
use Rattle.fab_model.specs.Grid.{PlainFabric}
use Rattle.fab_legal.specs.Turns.{AreRight}
use Rattle.fab_legal.specs.declared.broken.CheckFault.{CheckFault}
use Rattle.fab_legal.specs.declared.broken.CheckFault.TheVariants as checks
use Rattle.fab_fasm.specs.declared.feature.Feature.{Feature}
use Rattle.fab_assemble.specs.fab_features_Wrong.{IsFirstWrongFeature, IsRightFeature}
use Rattle.fab_legal.specs.Broken.{fault_of}
use Rattle.fab_flow.specs.Bits.{BitsFiles, HasBitsCause, IsBitstreamOf, IsReadyForBits, MakesBits, MeetsBits, MeetsFeatures, ReadsFeatures, RefusesBits, RefusesFeatures, bits_refusals, illegal}
use Rattle.fab_outputs.specs.Storing.{PlainOutput, Leaves, output}
use Rattle.fab_outputs.proofs.Ending.{Reads, cause_of_read, leaves_of_memory}

-- ---- features

-- a FASM file is refused for its first refusal, unless memory was
pub fasm_refused : (told : Option Map) (rose : Type 0) (meets : Map → Event → Type 0) (file bytes : List ℕ) (fault : Fault) → (fault ≢ faults.Memory → RefusesFeatures file bytes fault)
    → ((files : Map) → told ≡ Some files → RefusesFeatures file bytes fault → meets files (refuses fault)) → HasReadCause told rose meets fault
fasm_refused told rose meets file bytes faults.Memory refused met = tt
fasm_refused told rose meets file bytes fault refused met =
    let why = refused (λ same. cc) in
    placed_cause told rose meets file why.number why.problem fault (λ files is. subst (λ (f : Fault). meets files (refuses f)) why.is (met files is why)) (inr why.is)

-- features are refused for the first wrong line, unless memory was
pub features_refused : (fabric : PlainFabric) (features : List Feature) (fault : CheckFault) → IsFirstWrongFeature fabric features fault
    → (fault_of fault ≡ faults.Memory) ⊎ RefusesBits fabric features (fault_of fault)
features_refused fabric features (checks.Broken broken) wrong = inr (illegal wrong)
features_refused fabric features checks.Memory wrong = inl refl

-- what is read of a FASM file, where reading the fabric left the files as they were
pub features_behind : (told now : Option Map) (file : List ℕ) (given features : List Feature) → now ≡ told → given ≡ features → ForSome now (λ files. ReadsFeatures files file features)
    → ForSome told (λ files. ReadsFeatures files file given)
features_behind told now file given features same is read = λ files there. subst (ReadsFeatures files file) (sym is) (read files (same ∙ there))

-- ---- what is made

pub bits_made : (files : Map) (names : BitsFiles) (fabric : PlainFabric) (features : List Feature) (bytes : List ℕ) (outputs : List PlainOutput) → SpellsFabric files names.fabric fabric
    → ReadsFeatures files names.fasm features → AreRight (IsRightFeature fabric) features → IsBitstreamOf fabric features bytes → outputs ≡ output names.out bytes ∷ [] → MakesBits files names outputs
bits_made files names fabric features bytes outputs spelled read right made are =
    record { fabric = fabric; features = features; spelled = spelled; read = read; right = right; bytes = bytes; made = made; outputs_are = are }

-- ---- refusals

among : Reads bits_refusals
among = record { missing = refl; long = refl; malformed = refl; unsupported = refl; limit = refl }

wrong_cause : (told : Option Map) (names : BitsFiles) (reads writes : Type 0) (fabric : PlainFabric) (features : List Feature) (fault : Fault)
    → ForSome told (λ files. SpellsFabric files names.fabric fabric) → ForSome told (λ files. ReadsFeatures files names.fasm features) → RefusesBits fabric features fault
    → HasBitsCause told names reads writes fault
wrong_cause told names reads writes fabric features fault spelled read (illegal {rule = rule} {item = item} breaks) =
    record { possible = refl; met = λ files there. behind_it (spelled files there) (behind_it (read files there) (faults.Illegal rule item, refl, illegal breaks)) }

module _ (told : Option Map) (names : BitsFiles) (reads writes : Type 0) (fault : Fault) where
  -- the fabric is refused
  pub fabric_cause : HasReadCause told reads (λ files. MeetsFabric files names.fabric) fault → HasBitsCause told names reads writes fault
  fabric_cause cause =
      cause_of_read told reads writes (λ files. MeetsBits files names) (λ files. IsReadyForBits files names) bits_refusals among
      (λ files. MeetsFabric files names.fabric) (λ files event is x. at_first x) fault cause

  module _ (fabric : PlainFabric) (spelled : ForSome told (λ files. SpellsFabric files names.fabric fabric)) where
    -- the FASM file is
    pub fasm_cause : (now : Option Map) (first : Type 0) → now ≡ told → (first → reads) → HasReadCause now first (λ files. MeetsFeatures files names.fasm) fault → HasBitsCause told names reads writes fault
    fasm_cause now first same higher cause =
        let meets_all : Map → Event → Type 0 = λ files. MeetsBits files names in
        cause_of_read told reads writes meets_all (λ files. IsReadyForBits files names) bits_refusals among meets_all (λ files event there x. x) fault
        (cause_weaker now told first reads (λ files. MeetsFeatures files names.fasm) meets_all fault same higher (λ files there event x. behind_it (spelled files there) (at_first x)) cause)

    module _ (features : List Feature) (read : ForSome told (λ files. ReadsFeatures files names.fasm features)) where
      -- the features are, or memory was refused
      pub bits_cause : (fault ≡ faults.Memory) ⊎ RefusesBits fabric features fault → HasBitsCause told names reads writes fault
      bits_cause (inl memory) = subst (HasBitsCause told names reads writes) (sym memory) tt
      bits_cause (inr refused) = wrong_cause told names reads writes fabric features fault spelled read refused

wrong_leaves : (makes : Map → List PlainOutput → Type 0) (told after : Option Map) (fabric : PlainFabric) (features : List Feature) (fault : Fault) → after ≡ told
    → RefusesBits fabric features fault → Leaves makes told after fault
wrong_leaves makes told after fabric features fault kept (illegal breaks) = kept

-- and then the files are as they were
pub bits_leaves : (makes : Map → List PlainOutput → Type 0) (told after : Option Map) (fabric : PlainFabric) (features : List Feature) (fault : Fault) → after ≡ told
    → (fault ≡ faults.Memory) ⊎ RefusesBits fabric features fault → Leaves makes told after fault
bits_leaves makes told after fabric features fault kept (inl memory) = leaves_of_memory makes told after fault memory kept
bits_leaves makes told after fabric features fault kept (inr refused) = wrong_leaves makes told after fabric features fault kept refused
