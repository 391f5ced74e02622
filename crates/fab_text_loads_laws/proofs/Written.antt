-- Any words can be written: one moment for each piece of them.
use Rattle.std.proofs.Common.{◌≡◌, Bool, ◌&&◌, ◌||◌, List, [], ◌∷◌, map, refl, ap, All}
use Rattle.std.specs.Str.{bytes_eq}
use Rattle.std.specs.List.{AllZip}
use Rattle.std.proofs.lemmas.List.Elements.{All-map}
use Rattle.fab_syntax.specs.Plain.{PlainModule}
use Rattle.fab_meaning.specs.Value.{bit_at}
use Rattle.fab_meaning.specs.Settled.{Assignment}
use Rattle.fab_meaning.specs.Runs.{clock_name, Moment}
use Rattle.fab_meaning.specs.Loading.{write_strobe_name, write_data_name, offered}
use Rattle.fab_loading_laws.specs.Latches.{word, words_of}
use Rattle.fab_load_runs_laws.specs.Runs.{IsClockLow}
use Rattle.fab_drives_laws.proofs.Lists.{all_of}
use Rattle.fab_text_loads_laws.specs.Loads.{IsTurn, Writes}

-- inputs that offer the bits
abbrev inputs_of : List Bool → Assignment
inputs_of bits p = bytes_eq p.name write_strobe_name || (bytes_eq p.name write_data_name && bit_at bits p.bit)

abbrev offer : List Bool → Moment
offer bits = record { inputs = inputs_of bits; clock = clock_name }

are_turns : (words : List (List Bool)) → AllZip IsTurn (map word words) (map offer words)
are_turns [] = tt
are_turns (bits ∷ words) = ((refl, record { strobe = refl; bits = λ bit few. refl }), are_turns words)

same_words : (words : List (List Bool)) → words_of (map word words) ≡ words
same_words [] = refl
same_words (bits ∷ words) = ap (λ rest. bits ∷ rest) (same_words words)

pub words_written : (text : List PlainModule) (words : List (List Bool)) → (moments : List Moment) × Writes text words moments × All IsClockLow moments
words_written text words =
    let pieces = offered text words in (
      map offer pieces,
      record { turns = map word pieces; each = are_turns pieces; written = same_words pieces },
      All-map IsClockLow offer pieces (all_of (λ (bits : List Bool). IsClockLow (offer bits)) pieces (λ bits. refl)),
    )
