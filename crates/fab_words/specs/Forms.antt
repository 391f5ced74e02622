-- The forms of a command line: each command with the names of its positional words and of its options.
use Rattle.std.specs.Prelude.{ℕ, Bool, List, [], ◌∷◌, ◌++◌, ◌==◌, ◌&&◌, codes, length, find, Option, Some, None, option_and_then, if◌then◌else◌}
use Rattle.std.specs.Str.{bytes_eq}
use Rattle.fab_words.specs.Arguments.{PlainSetting, PlainArguments, setting, arguments_of, are_options}
use Rattle.fab_words.specs.declared.forms.Form.{Form}
use Rattle.fab_words.specs.declared.forms.Form.TheVariants as form

-- what a manual says of a form: its command, the names of its positional words in their order, and the names of the options that it may have
pub record PlainSynopsis : Type 0 where
  pub command : List ℕ
  pub positionals : List (List ℕ)
  pub options : List (List ℕ)

abbrev pub line : (command : List ℕ) (positionals options : List (List ℕ)) → PlainSynopsis
line command positionals options = record { command = command; positionals = positionals; options = options }

abbrev pub synopsis : Form → PlainSynopsis
synopsis form.Matrix = line (codes "matrix") (codes "LIST" ∷ codes "OUT" ∷ []) []
synopsis form.Generate = line (codes "generate") (codes "FABRIC" ∷ codes "OUT" ∷ []) []
synopsis form.Assemble = line (codes "assemble") (codes "FABRIC" ∷ codes "BLIF" ∷ codes "IMPL" ∷ codes "BASE" ∷ []) (codes "pcf" ∷ [])
synopsis form.Map = line (codes "map") (codes "FABRIC" ∷ codes "BLIF" ∷ codes "OUT" ∷ []) (codes "pcf" ∷ codes "seed" ∷ codes "rounds" ∷ [])
synopsis form.Flow =
    line (codes "flow") (codes "FABRIC" ∷ codes "BLIF" ∷ codes "BASE" ∷ []) (codes "pcf" ∷ codes "seed" ∷ codes "rounds" ∷ codes "reset" ∷ [])
synopsis form.Bits = line (codes "bits") (codes "FABRIC" ∷ codes "FASM" ∷ codes "OUT" ∷ []) []
synopsis form.Features = line (codes "features") (codes "FABRIC" ∷ codes "BIT" ∷ codes "OUT" ∷ []) []
synopsis form.Simulate = line (codes "simulate") (codes "VERILOG" ∷ codes "BIT" ∷ codes "STATE" ∷ codes "STIM" ∷ codes "TRACE" ∷ []) (codes "order" ∷ [])
synopsis form.Partial =
    line (codes "partial") (codes "FABRIC" ∷ codes "IMPL" ∷ codes "FASM" ∷ codes "FIRST" ∷ codes "LAST" ∷ codes "OUT" ∷ []) []
synopsis form.Timing = line (codes "timing") (codes "FABRIC" ∷ codes "BLIF" ∷ codes "IMPL" ∷ codes "OUT" ∷ []) (codes "pcf" ∷ [])
synopsis form.Serial = line (codes "serial") (codes "FABRIC" ∷ codes "OUT" ∷ []) []
synopsis form.Sample = line (codes "sample") (codes "N" ∷ codes "SEED" ∷ []) []

abbrev pub forms : List Form
forms =
    form.Matrix ∷ form.Generate ∷ form.Assemble ∷ form.Map ∷ form.Flow ∷ form.Bits ∷ form.Features ∷ form.Simulate ∷ form.Partial ∷ form.Timing ∷ form.Serial
    ∷ form.Sample ∷ []

-- the form of a command, if there is one
abbrev pub form_of : (command : List ℕ) → Option Form
form_of command = find (λ known. bytes_eq (synopsis known).command command) forms

-- ---- the values of the names

-- There are as many positional words as names for them, and options of these names alone, each at most once.
abbrev pub fits : PlainSynopsis → PlainArguments → Bool
fits synopsis arguments = (length arguments.positionals == length synopsis.positionals) && are_options synopsis.options arguments.settings

-- each positional word with the name of its place
abbrev pub named : (names words : List (List ℕ)) → List PlainSetting
named [] words = []
named (name ∷ names) [] = []
named (name ∷ names) (word ∷ words) = setting name word ∷ named names words

-- the names of a form with what the arguments give them, where these fit
abbrev pub values_of : PlainSynopsis → PlainArguments → Option (List PlainSetting)
values_of synopsis arguments = if fits synopsis arguments then Some (named synopsis.positionals arguments.positionals ++ arguments.settings) else None

-- the same of words, the first of which is the command
abbrev pub values_in : PlainSynopsis → (words : List (List ℕ)) → Option (List PlainSetting)
values_in synopsis [] = None
values_in synopsis (command ∷ words) = option_and_then (values_of synopsis) (arguments_of None words)
