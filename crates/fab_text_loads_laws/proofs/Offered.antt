-- What a text is offered for words: in frames the words whole, since WriteData has 32 bits, and in a chain their bits, since it has one.
use Rattle.std.proofs.Common.{◌≡◌, Bool, true, false, List, [], ◌∷◌, ◌++◌, map, reverse, refl, sym, ap, ◌∙◌}
use Rattle.std.specs.List.{flat_map}
use Rattle.std.proofs.lemmas.List.{map-append}
use Rattle.fab_syntax.specs.Plain.{PlainModule}
use Rattle.fab_syntax.specs.Declarations.{width, width_in}
use Rattle.fab_meaning.specs.Points.{module_at}
use Rattle.fab_meaning.specs.Loading.{write_data_name, single_bits, offered_at, offered}
use Rattle.fab_drives_laws.specs.fab_model_mode_Mode.{Mode}
use Rattle.fab_drives_laws.specs.fab_model_mode_Mode_TheVariants as modes
use Rattle.fab_drives_laws.specs.fab_model_Grid.{PlainFabric}
use Rattle.fab_drives_laws.specs.fab_fabric_text_defs_Mode.{text_mode}
use Rattle.fab_drives_laws.specs.fab_fabric_text_defs_Top.{data_shape}
use Rattle.fab_drives_laws.proofs.Texts.{HasFabric}

-- bit by bit, the last bit of each word comes first
bit_by_bit : offered_at 1 ((true ∷ false ∷ []) ∷ (true ∷ true ∷ []) ∷ []) ≡ (false ∷ []) ∷ (true ∷ []) ∷ (true ∷ []) ∷ (true ∷ []) ∷ []
bit_by_bit = refl

-- the bits of words, one at a tick
pub one_at_a_tick : (words : List (List Bool)) → flat_map single_bits words ≡ map (λ bit. bit ∷ []) (flat_map reverse words)
one_at_a_tick [] = refl
one_at_a_tick (word ∷ words) =
    ap (λ rest. single_bits word ++ rest) (one_at_a_tick words) ∙ sym (map-append (λ bit. bit ∷ []) (reverse word) (flat_map reverse words))

module _ (fabric : PlainFabric) (text : List PlainModule) (has : HasFabric fabric text) where
  data_width : (mode : Mode) → text_mode fabric ≡ mode → width_in (module_at text []) write_data_name ≡ width (data_shape mode)
  data_width mode is = ap (λ m. width_in m write_data_name) has.top_is ∙ ap (λ (m : Mode). width (data_shape m)) is

  pub offered_whole : text_mode fabric ≡ modes.Frames → (words : List (List Bool)) → offered text words ≡ words
  offered_whole frames words = ap (λ width. offered_at width words) (data_width modes.Frames frames)

  pub offered_singly : text_mode fabric ≡ modes.Chain → (words : List (List Bool)) → offered text words ≡ map (λ bit. bit ∷ []) (flat_map reverse words)
  offered_singly chain words = ap (λ width. offered_at width words) (data_width modes.Chain chain) ∙ one_at_a_tick words
