-- Each command is ready, or it has a first refusal: the commands that read no netlist.
use Rattle.std.proofs.Common.{◌≡◌, ◌<◌, ◌≤◌, ◌⊎◌, ℕ, Bool, true, false, List, All, Option, Some, None, Result, Ok, Err, refl, subst, inl, inr}
use Rattle.std.specs.Prelude.{codes, decimal, length, nat_lt, if◌then◌else◌}
use Rattle.std.specs.Str.{is_utf8}
use Rattle.std.specs.Str.Lines.{lines}
use Rattle.std.proofs.lemmas.Bool.{cases_lt}
use Rattle.fab_base.specs.declared.TheConstants.{MAX_FILE_BYTES}
use Rattle.fab_base.specs.declared.fault.Fault.{Fault}
use Rattle.fab_base.specs.declared.fault.Fault.TheVariants as faults
use Rattle.fab_base.specs.declared.problem.Problem.TheVariants as problems
use Rattle.fab_base.specs.declared.words.Quantity.TheVariants as quantities
use Rattle.fab_base.specs.Reading.{fault_at}
use Rattle.fab_desk.specs.Files.{Map}
use Rattle.fab_files.specs.Files.{given, needed, handed_out}
use Rattle.fab_files.specs.Stages.{MeetsLast}
use Rattle.fab_model.specs.declared.mode.Mode.TheVariants as modes
use Rattle.fab_model.specs.Grid.{PlainFabric}
use Rattle.fab_model.specs.declared.mode.Mode.{Mode}
use Rattle.fab_model.specs.declared.mode.Mode.TheVariants as modes
use Rattle.fab_fabric.specs.Fabric.{AreTiles, IsFabric}
use Rattle.fab_lines.specs.Counts.{last_line}
use Rattle.fab_texts.specs.Rows.{rows_of}
use Rattle.fab_implementation.specs.Plain.{PlainImplementation}
use Rattle.fab_impl.specs.Lines.{known}
use Rattle.fab_impl.specs.Spelled.{implementation_format, implementation_of}
use Rattle.fab_impl.proofs.Spelled.{whole_spells}
use Rattle.fab_texts.specs.Rows.{words_of}
use Rattle.fab_fasm.specs.declared.feature.Feature.{Feature}
use Rattle.fab_partial.specs.Columns.{lies_within}
use Rattle.fab_read.specs.Fabrics.{SpellsFabric, MeetsFabric}
use Rattle.fab_designs.specs.Implementations.{SpellsImplementation, RefusesImplementation, ReadsImplementation, MeetsImplementation}
use Rattle.fab_spelled_fabrics_laws.specs.Laws.{SpelledFabricsAreFabrics, SpelledFabricsHaveTiles}
use Rattle.fab_flow.specs.Generating.{text_length, most_text_bytes, IsTooLong, MeetsGenerate, IsReadyToGenerate}
use Rattle.fab_flow.specs.Serial.{serial_length, RefusesSerial, MeetsSerial, IsReadyForSerial}
use Rattle.fab_flow.specs.Serial as serials
use Rattle.fab_flow.specs.Bits.{BitsFiles, ReadsFeatures, MeetsFeatures, RefusesBits, illegal, MeetsBits, IsReadyForBits}
use Rattle.fab_flow.specs.BitFeatures.{FeaturesFiles, SpellsBits, RefusesBitstream, cut, wrong, MeetsBitstream, MeetsBitFeatures, IsReadyForFeatures}
use Rattle.fab_flow.specs.Partial.{PartialFiles, HasFrames, RefusesChain, RefusesPartial, too_far, in_use, MeetsContent, MeetsRunning, MeetsPartial, IsReadyToExchange}
use Rattle.fab_flow.specs.Partial.{wrong as wrong_feature}
use Rattle.fab_judged_laws.specs.Judged.{HoldBytes, IsSpelledOrRefused, IsReadyOrRefused}
use Rattle.fab_judged_laws.proofs.Bitstreams.{words_judged}
use Rattle.fab_judged_laws.proofs.Bytes.{bytes_judged}
use Rattle.fab_judged_laws.proofs.Fabrics.{fabric_judged}
use Rattle.fab_judged_laws.proofs.FeatureTexts.{fasm_judged}
use Rattle.fab_judged_laws.proofs.Stages.{file_judged, in_turn, at_last}
use Rattle.fab_judged_laws.proofs.Texts.{texts_judged}
use Rattle.fab_ready_laws.proofs.Columns.{use_judged}
use Rattle.fab_ready_laws.proofs.FeatureLists.{features_judged}

-- ---- files that several commands read

-- what is handed out of files that hold bytes is bytes
pub handed_bytes : (files : Map) → HoldBytes files → (file bytes : List ℕ) → handed_out files file ≡ Ok bytes → All (λ byte. byte < 256) bytes
handed_bytes files hold file bytes is = by_name (is_utf8 file) is
  where
    some_is : {a b : List ℕ} → (let value : List ℕ → Result (List ℕ) Fault = λ x. Ok x in value a ≡ value b) → a ≡ b
    some_is same = cc

    short : (test : Bool) (found : List ℕ) → needed file (if test then Err (faults.TooLong file) else Ok (Some found)) ≡ Ok bytes → found ≡ bytes
    short true found out = absurd cc
    short false found out = some_is out

    by_file : (found : Option (List ℕ)) → files file ≡ found → needed file (given file found) ≡ Ok bytes → All (λ byte. byte < 256) bytes
    by_file None there out = absurd cc
    by_file (Some found) there out = subst (All (λ byte. byte < 256)) (short (nat_lt MAX_FILE_BYTES (length found)) found out) (hold file found there)

    by_name : (text : Bool) → needed file (given file (if text then files file else None)) ≡ Ok bytes → All (λ byte. byte < 256) bytes
    by_name true out = by_file (files file) refl out
    by_name false out = absurd cc

-- lines spell an implementation, or one of them is refused
pub implementation_text_judged : (fabric : PlainFabric) (file bytes : List ℕ) → IsSpelledOrRefused (SpellsImplementation fabric bytes) (RefusesImplementation fabric file bytes)
implementation_text_judged fabric file bytes = elim (texts_judged (implementation_format fabric) file (rows_of bytes) (last_line bytes)) [
  | inl whole ↦ inl (implementation_of (known fabric (words_of (rows_of bytes))), record { lines = whole_spells fabric (rows_of bytes) whole; says = (whole, refl) })
  | inr refusal ↦ inr refusal
]

module _ (files : Map) where
  pub features_file_judged : (file : List ℕ) → IsReadyOrRefused ((features : List Feature) × ReadsFeatures files file features) (MeetsFeatures files file)
  features_file_judged file = file_judged files file _ _ (λ bytes found. fasm_judged file (lines bytes))

  pub implementation_judged : (fabric : PlainFabric) (file : List ℕ) → IsReadyOrRefused ((it : PlainImplementation) × ReadsImplementation files file fabric it) (MeetsImplementation files file fabric)
  implementation_judged fabric file =
      file_judged files file (SpellsImplementation fabric) (RefusesImplementation fabric file) (λ bytes found. implementation_text_judged fabric file bytes)

  -- ---- generate

  pub long_or_short : (name : List ℕ) (fabric : PlainFabric) → (text_length fabric ≤ most_text_bytes) ⊎ ((fault : Fault) × IsTooLong name fabric fault)
  long_or_short name fabric = elim (cases_lt most_text_bytes (text_length fabric)) [
    | inr short ↦ inl short
    | inl long ↦ inr (fault_at name 0 (problems.Limit quantities.TextBytes (text_length fabric) most_text_bytes), record { long = long; is = refl })
  ]

  pub generate_judged : (name : List ℕ) → IsReadyOrRefused (IsReadyToGenerate files name) (MeetsGenerate files name)
  generate_judged name = in_turn (SpellsFabric files name) (MeetsFabric files name) _ (fabric_judged files name) (λ fabric spelled.
      at_last (IsTooLong name fabric) (elim (long_or_short name fabric) [
        | inl short ↦ inl (record { fabric = fabric; spelled = spelled; short = short })
        | inr long ↦ inr long
      ]))

  -- ---- serial

  by_mode : (mode : Mode) → (mode ≡ modes.Frames) ⊎ (mode ≡ modes.Chain)
  by_mode modes.Frames = inl refl
  by_mode modes.Chain = inr refl

  serial_content : (name : List ℕ) (fabric : PlainFabric) → SpellsFabric files name fabric →
      IsReadyForSerial files name ⊎ ((fault : Fault) × RefusesSerial name fabric fault)
  serial_content name fabric spelled = elim (by_mode fabric.mode) [
    | inr is ↦ inr (fault_at name 0 (problems.Unsupported (codes "serial FlipFlopChain")), serials.chain is)
    | inl is ↦
        elim (cases_lt most_text_bytes (serial_length fabric)) [
          | inr short ↦ inl (record { fabric = fabric; spelled = spelled; frames = is; short = short })
          | inl much ↦ inr (fault_at name 0 (problems.Limit quantities.TextBytes (serial_length fabric) most_text_bytes), serials.long is much)
        ]
  ]

  pub serial_judged : (name : List ℕ) → IsReadyOrRefused (IsReadyForSerial files name) (MeetsSerial files name)
  serial_judged name = in_turn (SpellsFabric files name) (MeetsFabric files name) _ (fabric_judged files name)
      (λ fabric spelled. at_last (RefusesSerial name fabric) (serial_content name fabric spelled))

  -- ---- bits

  pub bits_judged : (names : BitsFiles) → IsReadyOrRefused (IsReadyForBits files names) (MeetsBits files names)
  bits_judged names = in_turn (SpellsFabric files names.fabric) (MeetsFabric files names.fabric) _ (fabric_judged files names.fabric) (λ fabric spelled.
      in_turn (ReadsFeatures files names.fasm) (MeetsFeatures files names.fasm) _ (features_file_judged names.fasm) (λ features read.
      at_last (RefusesBits fabric features) (elim (features_judged fabric features) [
        | inl right ↦ inl (record { fabric = fabric; features = features; spelled = spelled; read = read; right = right })
        | inr broken ↦ inr (faults.Illegal broken.0 broken.1, illegal broken.2)
      ])))

  -- ---- features

  bitstream_judged : (fabric : PlainFabric) → IsFabric fabric → (file bytes : List ℕ) → All (λ byte. byte < 256) bytes → IsSpelledOrRefused (SpellsBits fabric bytes) (RefusesBitstream fabric file bytes)
  bitstream_judged fabric is file bytes are = elim (bytes_judged file bytes are) [
    | inr refusal ↦ inr (refusal.0, cut refusal.1)
    | inl words ↦
        elim (words_judged fabric words.0 file is words.1.fit) [
          | inl bits ↦ inl (bits.0, record { words = words.0; of_words = words.1; are = bits.1.0; words_are = bits.1.1 })
          | inr refusal ↦ inr (refusal.0, wrong words.0 words.1 refusal.1)
        ]
  ]

  pub bit_features_judged : SpelledFabricsAreFabrics → HoldBytes files → (names : FeaturesFiles) → IsReadyOrRefused (IsReadyForFeatures files names) (MeetsBitFeatures files names)
  bit_features_judged fabrics hold names = in_turn (SpellsFabric files names.fabric) (MeetsFabric files names.fabric) (MeetsBitstream files names.bit) (fabric_judged files names.fabric) (λ fabric spelled.
      elim (file_judged files names.bit (SpellsBits fabric) (RefusesBitstream fabric names.bit)
      (λ bytes found. bitstream_judged fabric (fabrics files names.fabric fabric spelled) names.bit bytes (handed_bytes files hold names.bit bytes found))) [
        | inl read ↦ inl (record { fabric = fabric; bits = read.0; spelled = spelled; read = read.1 })
        | inr refusal ↦ inr refusal
      ])

  -- ---- partial

  module _ (names : PartialFiles) (fabric : PlainFabric) (it : PlainImplementation) (features : List Feature) (spelled : SpellsFabric files names.fabric fabric) (frames : fabric.mode ≡ modes.Frames)
      (implemented : ReadsImplementation files names.implementation fabric it) (read : ReadsFeatures files names.fasm features) (tiles : AreTiles fabric) where
    abbrev ContentIsJudged : Type 0
    ContentIsJudged = IsReadyToExchange files names ⊎ ((fault : Fault) × RefusesPartial fabric it features names.first names.last fault)

    within_judged : names.last < fabric.columns → ContentIsJudged
    within_judged within = elim (use_judged fabric (lies_within names.first names.last) tiles it) [
      | inr found ↦ inr (faults.Illegal 13 found.item, in_use within found.is found.text)
      | inl unused ↦
          elim (features_judged fabric features) [
            | inr broken ↦ inr (faults.Illegal broken.0 broken.1, wrong_feature within unused broken.2)
            | inl right ↦ inl (record {
              fabric = fabric;
              implementation = it;
              features = features;
              spelled = spelled;
              frames = frames;
              implemented = implemented;
              read = read;
              within = within;
              unused = unused;
              right = right;
            })
          ]
    ]

    content_judged : ContentIsJudged
    content_judged = elim (cases_lt names.last fabric.columns) [
      | inl within ↦ within_judged within
      | inr far ↦ inr (faults.Illegal 14 (decimal names.last), too_far far)
    ]

  frames_judged : (name : List ℕ) (fabric : PlainFabric) → IsReadyOrRefused ((value : Unit {0}) × HasFrames fabric value) (MeetsLast (RefusesChain name fabric))
  frames_judged name fabric = at_last (RefusesChain name fabric) (elim (by_mode fabric.mode) [
    | inl is ↦ inl (tt, is)
    | inr is ↦ inr (fault_at name 0 (problems.Unsupported (codes "partial FlipFlopChain")), record { chain = is; is = refl })
  ])

  pub partial_judged : SpelledFabricsHaveTiles → (names : PartialFiles) → IsReadyOrRefused (IsReadyToExchange files names) (MeetsPartial files names)
  partial_judged have names = in_turn (SpellsFabric files names.fabric) (MeetsFabric files names.fabric) _ (fabric_judged files names.fabric) (λ fabric spelled.
      in_turn (HasFrames fabric) (MeetsLast (RefusesChain names.fabric fabric)) (λ _. MeetsRunning files names fabric) (frames_judged names.fabric fabric) (λ _ frames.
      in_turn (ReadsImplementation files names.implementation fabric) (MeetsImplementation files names.implementation fabric) (MeetsContent files names fabric)
      (implementation_judged fabric names.implementation) (λ it implemented.
      in_turn (ReadsFeatures files names.fasm) (MeetsFeatures files names.fasm) _ (features_file_judged names.fasm) (λ features read.
      at_last (RefusesPartial fabric it features names.first names.last)
      (content_judged names fabric it features spelled frames implemented read (have files names.fabric fabric spelled))))))
