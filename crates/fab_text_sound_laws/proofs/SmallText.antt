-- The small fabric keeps what the law asks of names, and so its text is sound.
use Rattle.std.proofs.Common.{◌≡◌, ◌⊎◌, true, false, List, [], ◌∷◌, Some, None, ℕ, refl, subst, inr, All, codes}
use Rattle.std.specs.Option.{ForSome}
use Rattle.std.proofs.lemmas.List.Elements.{All-nil, All-cons}
use Rattle.fab_lines.specs.Names.{is_identifier, is_reserved}
use Rattle.fab_syntax.specs.Sound.{IsSound}
use Rattle.fab_meaning.proofs.Modules.{each_all}
use Rattle.fab_model.specs.declared.tiles.WireRow.{WireRow}
use Rattle.fab_model.specs.declared.tiles.Bel.{Bel}
use Rattle.fab_model.specs.declared.mode.Mode.TheVariants as modes
use Rattle.fab_fabric.proofs.Kept.{is_fabric_in}
use Rattle.fab_fabric.specs.Examples.{pads, lut, pad_rows, pad_bels, lut_rows, lut_bels}
use Rattle.fab_drives_laws.specs.fab_gen_tile_Words.{IsFreeName, IsNamed}
use Rattle.fab_drives_laws.specs.fab_fabric_text_defs_Texts.{generated_text}
use Rattle.fab_drives_laws.specs.Examples.{small_fabric, small_chain}
use Rattle.fab_drives_laws.proofs.SmallFabric.{small_is_fabric, small_is_of_tiles}
use Rattle.fab_text_sound_laws.proofs.TextFits.{text_is_sound}

free : (name : List ℕ) → is_identifier name ≡ true → is_reserved name ≡ false → ForSome (Some name) IsFreeName
free name identifier unreserved other same =
    let is : name ≡ other = cc in
    subst IsFreeName is (record { identifier = identifier; free = unreserved })

unnamed : (name : List ℕ) → None ≡ Some name → IsFreeName name
unnamed name same = absurd cc

abbrev SourceIsFree : WireRow → Type 0
SourceIsFree row = ForSome row.source IsFreeName

abbrev DestIsFree : WireRow → Type 0
DestIsFree row = ForSome row.dest IsFreeName

abbrev PrefixIsFree : Bel → Type 0
PrefixIsFree bel = (bel.prefix ≡ []) ⊎ IsFreeName bel.prefix

pads_named : IsNamed pads
pads_named = record {
  sources = each_all SourceIsFree pad_rows (free (codes "E1BEG") refl refl, (unnamed, (unnamed, (unnamed, tt))));
  dests = each_all DestIsFree pad_rows (unnamed, (free (codes "W1END") refl refl, (free (codes "GND") refl refl, (free (codes "VCC") refl refl, tt))));
  prefixes = each_all PrefixIsFree pad_bels (inr (record { identifier = refl; free = refl }), (inr (record { identifier = refl; free = refl }), tt));
}

lut_named : IsNamed lut
lut_named = record {
  sources = each_all SourceIsFree lut_rows (unnamed, (free (codes "W1BEG") refl refl, (free (codes "J_BEG") refl refl, (unnamed, (unnamed, tt)))));
  dests = each_all DestIsFree lut_rows (free (codes "E1END") refl refl, (unnamed, (free (codes "J_END") refl refl, (free (codes "GND") refl refl, (free (codes "VCC") refl refl, tt)))));
  prefixes = each_all PrefixIsFree lut_bels (inr (record { identifier = refl; free = refl }), tt);
}

pub small_is_named : All IsNamed small_fabric.types
small_is_named = All-cons IsNamed pads (lut ∷ []) pads_named (All-cons IsNamed lut [] lut_named (All-nil IsNamed))

pub small_text_is_sound : IsSound (generated_text small_fabric)
small_text_is_sound = text_is_sound small_fabric small_is_fabric small_is_of_tiles small_is_named

pub small_chain_text_is_sound : IsSound (generated_text small_chain)
small_chain_text_is_sound = text_is_sound small_chain (is_fabric_in modes.Chain small_fabric small_is_fabric) small_is_of_tiles small_is_named
