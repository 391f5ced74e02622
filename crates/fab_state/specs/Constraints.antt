-- Which constraints a text spells, and why a line of it is refused.
use Rattle.std.specs.Prelude.{◌≡◌, ◌≢◌, Bool, Contains, true, false, List, [], ◌∷◌, ◌++◌, ◌==◌, ◌||◌, ◌&&◌, fold, map, length, codes, if◌then◌else◌, AllPairs, Option, Some, None, Result, Ok}
use Rattle.std.specs.List.{AllByRecursion, flat_map}
use Rattle.std.specs.Str.{bytes_eq}
use Rattle.fab_base.specs.declared.words.Reason.TheVariants as reasons
use Rattle.fab_base.specs.declared.problem.Problem.{Problem}
use Rattle.fab_kinds.specs.declared.kind.Kind.{Kind}
use Rattle.fab_kinds.specs.declared.kind.Kind.TheVariants as kinds
use Rattle.fab_implementation.specs.fab_model.specs.Grid.{PlainFabric}
use Rattle.fab_fabric.specs.declared.wire.Site.{Site}
use Rattle.fab_netlist.specs.Plain.{PlainNetlist, name_of}
use Rattle.fab_implementation.specs.Plain.{Pad}
use Rattle.fab_implementation.specs.OnFabric.{kind_at}
use Rattle.fab_lines.specs.Order.{Format, IsWhole}
use Rattle.fab_texts.specs.Rows.{Word, PlainRow, words_of}
use Rattle.fab_lines.specs.Items.{word_at, is_among}
use Rattle.fab_fabric.specs.Names.{site_text}
use Rattle.fab_texts.specs.Places.{site_of, IsWritable}
use Rattle.fab_texts.specs.Formats.{refused, text_format}
use Rattle.fab_state.specs.Lines.{pads_at}

-- words with one more, where it is not among them
abbrev pub with_word : List Word → Word → List Word
with_word words word = if is_among words word then words else words ++ word ∷ []

-- the ports of a netlist, which carry data, each name once
abbrev pub data_ports : PlainNetlist → List Word
data_ports netlist = fold with_word (fold with_word [] (map (name_of netlist) netlist.inputs)) (map (name_of netlist) netlist.outputs)

abbrev pub is_pad_kind : Option Kind → Bool
is_pad_kind (Some kinds.Io) = true
is_pad_kind kind = false

-- the IO site of a fabric that a word writes
abbrev pub pad_of : PlainFabric → Option Site → Option Site
pad_of fabric None = None
pad_of fabric (Some site) = if is_pad_kind (kind_at fabric site) then Some site else None

-- the fabric, the data ports, the ports and the sites that the lines so far name, and the pads of these ports
pub record Fixing : Type 0 where
  pub fabric : PlainFabric
  pub allowed : List Word
  pub ports : List Word
  pub sites : List Word
  pub pads : List Pad

-- ---- a line

-- a port and its pad
abbrev pub pad_at : Fixing → (port word : Word) → Option Site → Result Fixing Problem
pad_at old port word None = refused reasons.Site
pad_at old port word (Some site) =
    if is_among old.allowed port
    then Ok (record old { ports = old.ports ++ port ∷ []; sites = old.sites ++ word ∷ []; pads = old.pads ++ (port, site) ∷ [] })
    else refused reasons.Port

-- a data port and an IO site, of which neither was named before
abbrev pub with_pad : Fixing → (port word : Word) → Result Fixing Problem
with_pad old port word = if is_among old.ports port || is_among old.sites word then refused reasons.NameTwice else pad_at old port word (pad_of old.fabric (site_of word))

abbrev pub is_fixing : List Word → Bool
is_fixing line = (length line == 3) && bytes_eq (word_at line 0) (codes "set_io")

-- what is known after a line more, or why the line is refused
abbrev pub take_fixing : Fixing → List Word → Result Fixing Problem
take_fixing old line = if is_fixing line then with_pad old (word_at line 1) (word_at line 2) else refused reasons.Row

-- ---- all lines

abbrev pub unfixed : PlainFabric → (allowed : List Word) → Fixing
unfixed fabric allowed = record { fabric = fabric; allowed = allowed; ports = []; sites = []; pads = [] }

-- what lines say that are not refused: their second words are the ports, and their third words the sites
abbrev pub fixed : PlainFabric → (allowed : List Word) → List (List Word) → Fixing
fixed fabric allowed lines = record {
  fabric = fabric;
  allowed = allowed;
  ports = map (λ line. word_at line 1) lines;
  sites = map (λ line. word_at line 2) lines;
  pads = flat_map (λ line. pads_at (word_at line 1) (pad_of fabric (site_of (word_at line 2)))) lines;
}

-- a text of constraints ends anywhere
abbrev pub nothing_left : Fixing → Option Problem
nothing_left old = None

abbrev pub constraint_format : PlainFabric → (allowed : List Word) → Format PlainRow
constraint_format fabric allowed = text_format (fixed fabric allowed) take_fixing nothing_left

-- ---- the constraints of texts

abbrev pub fixing_line : Pad → List Word
fixing_line pad = codes "set_io" ∷ pad.0 ∷ site_text pad.1 ∷ []

-- data ports on IO sites of the fabric, of which none stands twice
pub record AreFixings (fabric : PlainFabric) (allowed : List Word) (pads : List Pad) : Type 0 where
  pub ports : AllByRecursion (λ pad. Contains allowed pad.0) pads
  pub sites : AllByRecursion (λ pad. IsWritable pad.1) pads
  pub kinds : AllByRecursion (λ pad. kind_at fabric pad.1 ≡ Some kinds.Io) pads
  pub ports_apart : AllPairs (λ first second. first ≢ second) (map (λ pad. pad.0) pads)
  pub sites_apart : AllPairs (λ first second. first ≢ second) (map (λ pad. pad.1) pads)

-- the lines of a text that hold a word are those of the constraints
pub record SpellsFixings (fabric : PlainFabric) (allowed : List Word) (rows : List PlainRow) (pads : List Pad) : Type 0 where
  pub lines : words_of rows ≡ map fixing_line pads
  pub fixings : AreFixings fabric allowed pads

-- a text is whole, and these are the constraints that its lines say
abbrev pub SaysFixings : PlainFabric → (allowed : List Word) → List PlainRow → List Pad → Type 0
SaysFixings fabric allowed rows pads = IsWhole (constraint_format fabric allowed) rows × (pads ≡ (fixed fabric allowed (words_of rows)).pads)

-- what is spelled is read
abbrev pub SpelledFixingsAreRead : Type 0
SpelledFixingsAreRead =
    (fabric : PlainFabric) (allowed : List Word) (rows : List PlainRow) (pads : List Pad) → SpellsFixings fabric allowed rows pads → SaysFixings fabric allowed rows pads
