-- What the lines of a state text say, and why a line is refused.
use Rattle.std.specs.Prelude.{Bool, true, false, List, [], ◌∷◌, ◌++◌, ◌||◌, not, map, codes, if◌then◌else◌, Option, Some, None, Result, Ok, Err}
use Rattle.std.specs.List.{flat_map, last_or}
use Rattle.std.specs.Str.{bytes_eq}
use Rattle.fab_base.specs.declared.words.Reason.TheVariants as reasons
use Rattle.fab_base.specs.declared.problem.Problem.{Problem}
use Rattle.fab_fabric.specs.declared.wire.Site.{Site}
use Rattle.fab_implementation.specs.Plain.{Pad}
use Rattle.fab_texts.specs.Rows.{Word}
use Rattle.fab_lines.specs.Items.{word_at, is_among}
use Rattle.fab_texts.specs.Places.{site_of}
use Rattle.fab_texts.specs.Formats.{refused}
use Rattle.fab_texts.specs.declared.sections.Part.{Part}
use Rattle.fab_texts.specs.Sections.{with_version, in_place}
use Rattle.fab_state.specs.declared.kind.Kind.{Kind}
use Rattle.fab_state.specs.declared.kind.Kind.TheVariants as kinds
use Rattle.fab_state.specs.Plain.{Register}
use Rattle.fab_state.specs.Kinds.{kind_of, part_of}

-- What the lines so far say: where the last stands, the ports of `in` and `out` lines, the sites that lines of each first word
-- name, and the state.
pub record Known : Type 0 where
  pub last : Option Part
  pub ports : List Word
  pub in_sites : List Word
  pub out_sites : List Word
  pub ff_sites : List Word
  pub ins : List Pad
  pub outs : List Pad
  pub ffs : List Register

-- ---- what one line says

abbrev pub ports_by : Kind → List Word → List Word
ports_by kinds.In line = word_at line 1 ∷ []
ports_by kinds.Out line = word_at line 1 ∷ []
ports_by kind line = []

abbrev pub in_sites_by : Kind → List Word → List Word
in_sites_by kinds.In line = word_at line 2 ∷ []
in_sites_by kind line = []

abbrev pub out_sites_by : Kind → List Word → List Word
out_sites_by kinds.Out line = word_at line 2 ∷ []
out_sites_by kind line = []

abbrev pub ff_sites_by : Kind → List Word → List Word
ff_sites_by kinds.Ff line = word_at line 1 ∷ []
ff_sites_by kind line = []

abbrev pub pads_at : (port : Word) → Option Site → List Pad
pads_at port None = []
pads_at port (Some site) = (port, site) ∷ []

abbrev pub ins_by : Kind → List Word → List Pad
ins_by kinds.In line = pads_at (word_at line 1) (site_of (word_at line 2))
ins_by kind line = []

abbrev pub outs_by : Kind → List Word → List Pad
outs_by kinds.Out line = pads_at (word_at line 1) (site_of (word_at line 2))
outs_by kind line = []

abbrev pub digit_of : Word → Option Bool
digit_of word = if bytes_eq word (codes "0") then Some false else if bytes_eq word (codes "1") then Some true else None

abbrev pub registers_at : Option Bool → Option Site → List Register
registers_at (Some bit) (Some site) = (site, bit) ∷ []
registers_at bit site = []

abbrev pub ffs_by : Kind → List Word → List Register
ffs_by kinds.Ff line = registers_at (digit_of (word_at line 2)) (site_of (word_at line 1))
ffs_by kind line = []

-- ---- what all lines say

abbrev pub said : {X : Type 0} → (by : Kind → List Word → List X) → List (List Word) → List X
said by lines = flat_map (λ line. by (kind_of line) line) lines

abbrev pub known : List (List Word) → Known
known lines = record {
  last = last_or None (map (λ line. part_of (kind_of line)) lines);
  ports = said ports_by lines;
  in_sites = said in_sites_by lines;
  out_sites = said out_sites_by lines;
  ff_sites = said ff_sites_by lines;
  ins = said ins_by lines;
  outs = said outs_by lines;
  ffs = said ffs_by lines;
}

-- ---- how a line is taken

pub record Pads : Type 0 where
  pub ports : List Word
  pub sites : List Word
  pub pads : List Pad

abbrev pub pad_at : Pads → (port word : Word) → Option Site → Result Pads Problem
pad_at old port word None = refused reasons.Site
pad_at old port word (Some site) = Ok (record { ports = old.ports ++ port ∷ []; sites = old.sites ++ word ∷ []; pads = old.pads ++ (port, site) ∷ [] })

-- a port and its site, of which neither was named before
abbrev pub with_pad : Pads → (port word : Word) → Result Pads Problem
with_pad old port word = if is_among old.ports port || is_among old.sites word then refused reasons.NameTwice else pad_at old port word (site_of word)

pub record Registers : Type 0 where
  pub sites : List Word
  pub ffs : List Register

abbrev pub register_at : Registers → (word : Word) → Option Bool → Option Site → Result Registers Problem
register_at old word None site = refused reasons.Digit
register_at old word (Some bit) None = refused reasons.Site
register_at old word (Some bit) (Some site) = Ok (record { sites = old.sites ++ word ∷ []; ffs = old.ffs ++ (site, bit) ∷ [] })

-- a flip-flop whose site was not named before
abbrev pub with_register : Registers → (word digit : Word) → Result Registers Problem
with_register old word digit = if is_among old.sites word then refused reasons.NameTwice else register_at old word (digit_of digit) (site_of word)

abbrev pub set_ins : Known → Result Pads Problem → Result Known Problem
set_ins old (Ok new) = Ok (record old { ports = new.ports; in_sites = new.sites; ins = new.pads })
set_ins old (Err problem) = Err problem

abbrev pub set_outs : Known → Result Pads Problem → Result Known Problem
set_outs old (Ok new) = Ok (record old { ports = new.ports; out_sites = new.sites; outs = new.pads })
set_outs old (Err problem) = Err problem

abbrev pub set_ffs : Known → Result Registers Problem → Result Known Problem
set_ffs old (Ok new) = Ok (record old { ff_sites = new.sites; ffs = new.ffs })
set_ffs old (Err problem) = Err problem

-- what a line of a kind adds to what is known
abbrev pub take_kind : Known → Kind → List Word → Result Known Problem
take_kind old kinds.Header line = with_version (word_at line 1) old
take_kind old kinds.In line = set_ins old (with_pad (record { ports = old.ports; sites = old.in_sites; pads = old.ins }) (word_at line 1) (word_at line 2))
take_kind old kinds.Out line = set_outs old (with_pad (record { ports = old.ports; sites = old.out_sites; pads = old.outs }) (word_at line 1) (word_at line 2))
take_kind old kinds.Ff line = set_ffs old (with_register (record { sites = old.ff_sites; ffs = old.ffs }) (word_at line 1) (word_at line 2))
take_kind old kinds.End line = Ok old
take_kind old kinds.Other line = refused reasons.Row

-- a line of a kind that has its place
abbrev pub take_placed : Known → Kind → List Word → Result Known Problem
take_placed old kind line = in_place old.last (part_of kind) (take_kind (record old { last = Some (part_of kind) }) kind line)

-- what is known after a line more, or why the line is refused
abbrev pub take : Known → List Word → Result Known Problem
take old line = take_placed old (kind_of line) line
