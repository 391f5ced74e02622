-- What the command `partial` makes, and why what was read is not taken.
use Rattle.std.proofs.Common.{◌≡◌, ◌<◌, ◌≤◌, ◌⊎◌, ℕ, List, [], ◌∷◌, Option, Some, Bool, true, codes, decimal, refl, sym, ◌∙◌, inl, inr, subst}
use Rattle.std.specs.Option.{ForSome}
use Rattle.fab_base.specs.declared.fault.Fault.{Fault}
use Rattle.fab_base.specs.declared.fault.Fault.TheVariants as faults
use Rattle.fab_base.specs.declared.problem.Problem.TheVariants as problems
use Rattle.fab_base.specs.Reading.{fault_at, IsFaultOr}
use Rattle.fab_desk.specs.Files.{Map}
use Rattle.fab_files.specs.Files.{Event, HasReadCause, refuses}
use Rattle.fab_files.specs.Stages.{at_first, behind_it}
use Rattle.fab_files.proofs.Causes.{cause_weaker}
use Rattle.fab_model.specs.declared.mode.Mode.TheVariants as modes
use Rattle.fab_model.specs.Grid.{PlainFabric}
use Rattle.fab_fabric.specs.Fabric.{AreTiles, IsFabric, wire_count}
use Rattle.fab_fabric.specs.declared.wire.Site.{Site}
use Rattle.fab_fabric.specs.declared.wire.Wire.{Wire}
use Rattle.fab_implementation.specs.OnFabric.{IsOnFabric, IsSite}
use Rattle.fab_implementation.specs.Plain.{PlainImplementation}
use Rattle.fab_legal.specs.Turns.{AreRight}
use Rattle.fab_legal.proofs.SiteKeys.{few_bels}
use Rattle.fab_fasm.specs.declared.feature.Feature.{Feature}
use Rattle.fab_partial.specs.Columns.{lies_within}
use Rattle.fab_partial.specs.Use.{AreUnused, IsUse, of_cell, of_edge}
use Rattle.fab_partial.specs.declared.uses.Use.{Use}
use Rattle.fab_partial.specs.declared.uses.Use.TheVariants as uses
use Rattle.fab_partial.proofs.Edges.{to_within}
use Rattle.fab_partial.proofs.Firsts.{first_has}
use Rattle.fab_read.specs.Fabrics.{SpellsFabric, MeetsFabric}
use Rattle.fab_designs.specs.Implementations.{ReadsImplementation, MeetsImplementation}
use Rattle.fab_assemble.specs.fab_features_Wrong.{IsRightFeature}
use Rattle.fab_flow.specs.Bits.{MeetsFeatures, ReadsFeatures, RefusesBits, illegal}
use Rattle.fab_flow.specs.Partial.{HasPartialCause, IsExchange, IsReadyToExchange, IsUseText, MakesPartial, MeetsPartial, PartialFiles, RefusesPartial, in_use, partial_refusals, too_far, wrong}
use Rattle.fab_outputs.specs.Storing.{PlainOutput, Leaves, output}
use Rattle.fab_outputs.proofs.Ending.{Reads, cause_of_read, leaves_of_memory}

-- ---- the use that is found can be written

module _ (fabric : PlainFabric) (is : IsFabric fabric) (tiles : AreTiles fabric) (implementation : PlainImplementation) (on : IsOnFabric fabric implementation) (there : ℕ → Bool) where
  -- the BEL of a cell's site has a letter
  pub site_low : (found : Use) → IsUse fabric implementation there found → (site : Site) → found ≡ uses.Cell site → site.bel < 26
  site_low found (of_cell {line = line} first) site same =
      let site_is : line.1 ≡ site = cell_is line.1 site same in
      subst (λ (s : Site). s.bel < 26) site_is (few_bels fabric line.1 is (first_has (λ (l : ℕ × Site). there l.1.x ≡ true) (λ (l : ℕ × Site). IsSite fabric l.1) implementation.cells line first on.cells))
    where
      cell_is : (a b : Site) → uses.Cell a ≡ uses.Cell b → a ≡ b
      cell_is a b e = cc
  site_low found (of_edge {edge = edge} cells first) site same = absurd (apart edge.1 site same)
    where
      apart : (wire : Wire) (site : Site) → uses.Edge wire ≡ uses.Cell site → ⊥
      apart wire site e = cc

  -- the wire of an edge is a wire of the fabric
  pub wire_inside : (found : Use) → IsUse fabric implementation there found → (wire : Wire) → found ≡ uses.Edge wire → wire.0 < wire_count fabric
  wire_inside found (of_cell {line = line} first) wire same = absurd (apart line.1 wire same)
    where
      apart : (site : Site) (wire : Wire) → uses.Cell site ≡ uses.Edge wire → ⊥
      apart site wire e = cc
  wire_inside found (of_edge {edge = edge} cells first) wire same =
      subst (λ (w : Wire). w.0 < wire_count fabric) (edge_is edge.1 wire same) (to_within fabric there edge tiles first.holds)
    where
      edge_is : (a b : Wire) → uses.Edge a ≡ uses.Edge b → a ≡ b
      edge_is a b e = cc

-- ---- what is made

pub partial_made : (files : Map) (names : PartialFiles) (fabric : PlainFabric) (implementation : PlainImplementation) (features : List Feature) (bytes : List ℕ) (outputs : List PlainOutput)
    → SpellsFabric files names.fabric fabric → fabric.mode ≡ modes.Frames → ReadsImplementation files names.implementation fabric implementation → ReadsFeatures files names.fasm features → names.last < fabric.columns
    → AreUnused fabric implementation (lies_within names.first names.last) → AreRight (IsRightFeature fabric) features → IsExchange fabric implementation features names.first names.last bytes
    → outputs ≡ output names.out bytes ∷ [] → MakesPartial files names outputs
partial_made files names fabric implementation features bytes outputs spelled frames implemented read within unused right made are =
    record {
      ready = record {
        fabric = fabric;
        implementation = implementation;
        features = features;
        spelled = spelled;
        frames = frames;
        implemented = implemented;
        read = read;
        within = within;
        unused = unused;
        right = right;
      };
      bytes = bytes;
      made = made;
      outputs_are = are;
    }

-- ---- what is read one behind the other

-- the implementation, where reading the fabric left the files as they were
pub implementation_behind : (told now : Option Map) (file : List ℕ) (fabric : PlainFabric) (implementation : PlainImplementation) → now ≡ told
    → ForSome now (λ files. ReadsImplementation files file fabric implementation) → ForSome told (λ files. ReadsImplementation files file fabric implementation)
implementation_behind told now file fabric implementation same read = λ files there. read files (same ∙ there)

-- ---- refusals

module _ (fabric : PlainFabric) (implementation : PlainImplementation) (first last : ℕ) where
  -- columns are refused, or memory was, whatever the features are
  abbrev AreRefused : Fault → Type 0
  AreRefused fault = (fault ≡ faults.Memory) ⊎ ((features : List Feature) → RefusesPartial fabric implementation features first last fault)

  pub far_refused : (text : List ℕ) → text ≡ decimal last → fabric.columns ≤ last → AreRefused (faults.Illegal 14 text)
  far_refused text is far = inr (λ features. subst (λ (t : List ℕ). RefusesPartial fabric implementation features first last (faults.Illegal 14 t)) (sym is) (too_far far))

  pub use_refused : (found : Use) (text : List ℕ) → last < fabric.columns → IsUse fabric implementation (lies_within first last) found → IsUseText fabric found text → AreRefused (faults.Illegal 13 text)
  use_refused found text within here named = inr (λ features. in_use within here named)

-- features that are wrong are refused where the columns are free
pub features_wrong : (fabric : PlainFabric) (implementation : PlainImplementation) (features : List Feature) (first last : ℕ) (fault : Fault) → last < fabric.columns
    → AreUnused fabric implementation (lies_within first last) → (fault ≡ faults.Memory) ⊎ RefusesBits fabric features fault
    → (fault ≡ faults.Memory) ⊎ RefusesPartial fabric implementation features first last fault
features_wrong fabric implementation features first last fault within unused (inl memory) = inl memory
features_wrong fabric implementation features first last fault within unused (inr (illegal breaks)) = inr (wrong within unused breaks)

among : Reads partial_refusals
among = record { missing = refl; long = refl; malformed = refl; unsupported = refl; limit = refl }

module _ (told : Option Map) (names : PartialFiles) (reads writes : Type 0) (fault : Fault) where
  abbrev Meets : Map → Event → Type 0
  Meets files = MeetsPartial files names

  -- what is come upon in a file of the command, that is read where the files are as they were
  cause_of_file : (now : Option Map) (rose : Type 0) (part : Map → Event → Type 0) → now ≡ told → (rose → reads)
      → ((files : Map) → told ≡ Some files → (event : Event) → part files event → MeetsPartial files names event) → HasReadCause now rose part fault → HasPartialCause told names reads writes fault
  cause_of_file now rose part same higher met cause =
      cause_of_read told reads writes Meets (λ files. IsReadyToExchange files names) partial_refusals among Meets (λ files event there x. x) fault
      (cause_weaker now told rose reads part Meets fault same higher met cause)

  -- the fabric is refused
  pub fabric_cause : HasReadCause told reads (λ files. MeetsFabric files names.fabric) fault → HasPartialCause told names reads writes fault
  fabric_cause cause = cause_of_file told reads (λ files. MeetsFabric files names.fabric) refl (λ rose. rose) (λ files is event x. at_first x) cause

  -- what is read is one with a chain, or memory was refused
  pub chain_cause : (fabric : PlainFabric) → ForSome told (λ files. SpellsFabric files names.fabric fabric) → fabric.mode ≡ modes.Chain
      → IsFaultOr fault (fault_at names.fabric 0 (problems.Unsupported (codes "partial FlipFlopChain"))) → HasPartialCause told names reads writes fault
  chain_cause fabric spelled chain (inl memory) = subst (HasPartialCause told names reads writes) (sym memory) tt
  chain_cause fabric spelled chain (inr same) =
      subst (HasPartialCause told names reads writes) (sym same)
      (record { possible = refl; met = λ files is. behind_it (spelled files is) (at_first (_, refl, record { chain = chain; is = refl })) })

  module _ (fabric : PlainFabric) (spelled : ForSome told (λ files. SpellsFabric files names.fabric fabric)) (frames : fabric.mode ≡ modes.Frames) where
    -- the file of the implementation is
    pub implementation_cause : (now : Option Map) (rose : Type 0) → now ≡ told → (rose → reads) → HasReadCause now rose (λ files. MeetsImplementation files names.implementation fabric) fault
        → HasPartialCause told names reads writes fault
    implementation_cause now rose same higher cause =
        cause_of_file now rose (λ files. MeetsImplementation files names.implementation fabric) same higher (λ files is event x. behind_it (spelled files is) (behind_it {value = tt} frames (at_first x))) cause

    module _ (implementation : PlainImplementation) (implemented : ForSome told (λ files. ReadsImplementation files names.implementation fabric implementation)) where
      -- the FASM file is
      pub fasm_cause : (now : Option Map) (rose : Type 0) → now ≡ told → (rose → reads) → HasReadCause now rose (λ files. MeetsFeatures files names.fasm) fault
          → HasPartialCause told names reads writes fault
      fasm_cause now rose same higher cause =
          cause_of_file now rose (λ files. MeetsFeatures files names.fasm) same higher
          (λ files is event x. behind_it (spelled files is) (behind_it {value = tt} frames (behind_it (implemented files is) (at_first x)))) cause

      module _ (features : List Feature) (read : ForSome told (λ files. ReadsFeatures files names.fasm features)) where
        meets : (files : Map) (given : Fault) → told ≡ Some files → RefusesPartial fabric implementation features names.first names.last given → MeetsPartial files names (refuses given)
        meets files given is refused =
            behind_it (spelled files is) (behind_it {value = tt} frames (behind_it (implemented files is) (behind_it (read files is) (given, refl, refused))))

        refused_cause : (given : Fault) → RefusesPartial fabric implementation features names.first names.last given → HasPartialCause told names reads writes given
        refused_cause given (too_far far) = record { possible = refl; met = λ files there. meets files (faults.Illegal 14 (decimal names.last)) there (too_far far) }
        refused_cause given (in_use {item = item} within here text) = record { possible = refl; met = λ files there. meets files (faults.Illegal 13 item) there (in_use within here text) }
        refused_cause given (wrong {rule = rule} {item = item} within unused breaks) =
            record { possible = refl; met = λ files there. meets files (faults.Illegal rule item) there (wrong within unused breaks) }

        -- what was read is, or memory was refused
        pub content_cause : (fault ≡ faults.Memory) ⊎ RefusesPartial fabric implementation features names.first names.last fault → HasPartialCause told names reads writes fault
        content_cause (inl memory) = subst (HasPartialCause told names reads writes) (sym memory) tt
        content_cause (inr refused) = refused_cause fault refused

-- where a fabric with a chain is refused, the files are as they were
pub chain_leaves : (makes : Map → List PlainOutput → Type 0) (told after : Option Map) (names : PartialFiles) (fault : Fault) → after ≡ told
    → IsFaultOr fault (fault_at names.fabric 0 (problems.Unsupported (codes "partial FlipFlopChain"))) → Leaves makes told after fault
chain_leaves makes told after names fault kept (inl memory) = leaves_of_memory makes told after fault memory kept
chain_leaves makes told after names fault kept (inr same) = subst (Leaves makes told after) (sym same) kept

module _ (makes : Map → List PlainOutput → Type 0) (told after : Option Map) (fabric : PlainFabric) (implementation : PlainImplementation) (features : List Feature) (first last : ℕ) where
  refused_leaves : (fault : Fault) → after ≡ told → RefusesPartial fabric implementation features first last fault → Leaves makes told after fault
  refused_leaves fault kept (too_far far) = kept
  refused_leaves fault kept (in_use within here text) = kept
  refused_leaves fault kept (wrong within unused breaks) = kept

  -- and then the files are as they were
  pub content_leaves : (fault : Fault) → after ≡ told → (fault ≡ faults.Memory) ⊎ RefusesPartial fabric implementation features first last fault → Leaves makes told after fault
  content_leaves fault kept (inl memory) = leaves_of_memory makes told after fault memory kept
  content_leaves fault kept (inr refused) = refused_leaves fault kept refused
