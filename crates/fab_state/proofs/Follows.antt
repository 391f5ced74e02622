-- The reader of states follows the lines: what it knows is what the lines so far say.
use Rattle.std.proofs.Common.{◌≡◌, Bool, true, false, cond, ◌||◌, List, [], ◌∷◌, ◌++◌, map, Option, Some, None, Result, Ok, Err, refl, sym, ap, ◌∙◌, append-nil}
use Rattle.std.specs.Prelude.{not, codes}
use Rattle.std.specs.List.{last_or}
use Rattle.std.specs.Str.{bytes_eq}
use Rattle.std.proofs.lemmas.List.{map_push}
use Rattle.std.proofs.lemmas.Grind.{flat_map-append}
use Rattle.fab_base.specs.declared.words.Reason.TheVariants as reasons
use Rattle.fab_base.specs.declared.problem.Problem.{Problem}
use Rattle.fab_fabric.specs.declared.wire.Site.{Site}
use Rattle.fab_texts.specs.Rows.{Word}
use Rattle.fab_lines.specs.Items.{word_at, is_among}
use Rattle.fab_texts.specs.Places.{site_of}
use Rattle.fab_texts.specs.Formats.{refused}
use Rattle.fab_texts.specs.declared.sections.Part.{Part}
use Rattle.fab_texts.proofs.Formats.{Keeps}
use Rattle.fab_texts.proofs.InSections.{IsPlaced, placed, versioned}
use Rattle.fab_implementation.specs.Plain.{Pad}
use Rattle.fab_state.specs.declared.kind.Kind.{Kind}
use Rattle.fab_state.specs.declared.kind.Kind.TheVariants as kinds
use Rattle.fab_state.specs.Plain.{Register}
use Rattle.fab_state.specs.Kinds.{kind_of, part_of}
use Rattle.fab_state.specs.Lines.{Known, Pads, Registers, ports_by, in_sites_by, out_sites_by, ff_sites_by, ins_by, outs_by, ffs_by, digit_of, pads_at, registers_at, said, known, with_pad, pad_at, with_register, register_at, set_ins, set_outs, set_ffs, take_kind, take}

said_push : {X : Type 0} (by : Kind → List Word → List X) (lines : List (List Word)) (line : List Word) → said by (lines ++ line ∷ []) ≡ said by lines ++ by (kind_of line) line
said_push {X} by lines line = flat_map-append (λ l. by (kind_of l) l) lines (line ∷ []) ∙ ap (λ (more : List X). said by lines ++ more) (append-nil (by (kind_of line) line))

last_push : (first : Option Part) (of : List Part) (part : Part) → last_or first (of ++ part ∷ []) ≡ Some part
last_push first [] part = refl
last_push first (other ∷ of) part = last_push (Some other) of part

abbrev part_at : List Word → Part
part_at line = part_of (kind_of line)

-- what is known with a line more of this kind
abbrev with_line : Known → Kind → List Word → Known
with_line old kind line = record {
  last = Some (part_of kind);
  ports = old.ports ++ ports_by kind line;
  in_sites = old.in_sites ++ in_sites_by kind line;
  out_sites = old.out_sites ++ out_sites_by kind line;
  ff_sites = old.ff_sites ++ ff_sites_by kind line;
  ins = old.ins ++ ins_by kind line;
  outs = old.outs ++ outs_by kind line;
  ffs = old.ffs ++ ffs_by kind line;
}

pub known_same : (a b : Known) → a.last ≡ b.last → a.ports ≡ b.ports → a.in_sites ≡ b.in_sites → a.out_sites ≡ b.out_sites → a.ff_sites ≡ b.ff_sites → a.ins ≡ b.ins → a.outs ≡ b.outs → a.ffs ≡ b.ffs → a ≡ b
known_same a b last ports in_sites out_sites ff_sites ins outs ffs =
    λ j. record { last = last j; ports = ports j; in_sites = in_sites j; out_sites = out_sites j; ff_sites = ff_sites j; ins = ins j; outs = outs j; ffs = ffs j }

known_push : (lines : List (List Word)) (line : List Word) → known (lines ++ line ∷ []) ≡ with_line (known lines) (kind_of line) line
known_push lines line = known_same (known (lines ++ line ∷ [])) (with_line (known lines) (kind_of line) line)
    (ap (last_or None) (map_push part_at lines line) ∙ last_push None (map part_at lines) (part_at line))
    (said_push ports_by lines line) (said_push in_sites_by lines line) (said_push out_sites_by lines line) (said_push ff_sites_by lines line)
    (said_push ins_by lines line) (said_push outs_by lines line) (said_push ffs_by lines line)

-- ---- one line that is taken

-- a port that was taken, and its site
pub record TakesPad (old : Pads) (port word : Word) (new : Pads) : Type 0 where
  pub site : Site
  pub reads : site_of word ≡ Some site
  pub new_port : is_among old.ports port ≡ false
  pub new_site : is_among old.sites word ≡ false
  pub value : record { ports = old.ports ++ port ∷ []; sites = old.sites ++ word ∷ []; pads = old.pads ++ (port, site) ∷ [] } ≡ new

pad_with : (old : Pads) (port word : Word) (found : Option Site) (new : Pads) → site_of word ≡ found → is_among old.ports port ≡ false → is_among old.sites word ≡ false → pad_at old port word found ≡ Ok new → TakesPad old port word new
pad_with old port word None new read new_port new_site so = absurd cc
pad_with old port word (Some site) new read new_port new_site so =
    let made : Pads = record { ports = old.ports ++ port ∷ []; sites = old.sites ++ word ∷ []; pads = old.pads ++ (port, site) ∷ [] } in
    let same : made ≡ new = cc in
    record { site = site; reads = read; new_port = new_port; new_site = new_site; value = same }

pad_by : (old : Pads) (port word : Word) (a b : Bool) (new : Pads) → is_among old.ports port ≡ a → is_among old.sites word ≡ b → cond (a || b) (refused reasons.NameTwice) (pad_at old port word (site_of word)) ≡ Ok new → TakesPad old port word new
pad_by old port word true b new ports sites so = absurd cc
pad_by old port word false true new ports sites so = absurd cc
pad_by old port word false false new ports sites so = pad_with old port word (site_of word) new refl ports sites so

pub pad_taken : (old : Pads) (port word : Word) (new : Pads) → with_pad old port word ≡ Ok new → TakesPad old port word new
pad_taken old port word new so = pad_by old port word (is_among old.ports port) (is_among old.sites word) new refl refl so

-- a flip-flop that was taken
pub record TakesRegister (old : Registers) (word digit : Word) (new : Registers) : Type 0 where
  pub site : Site
  pub bit : Bool
  pub reads : site_of word ≡ Some site
  pub reads_digit : digit_of digit ≡ Some bit
  pub new_site : is_among old.sites word ≡ false
  pub value : record { sites = old.sites ++ word ∷ []; ffs = old.ffs ++ (site, bit) ∷ [] } ≡ new

register_with : (old : Registers) (word digit : Word) (bit : Option Bool) (found : Option Site) (new : Registers) → site_of word ≡ found → digit_of digit ≡ bit → is_among old.sites word ≡ false → register_at old word bit found ≡ Ok new → TakesRegister old word digit new
register_with old word digit None found new read reads_digit new_site so = absurd cc
register_with old word digit (Some bit) None new read reads_digit new_site so = absurd cc
register_with old word digit (Some bit) (Some site) new read reads_digit new_site so =
    let made : Registers = record { sites = old.sites ++ word ∷ []; ffs = old.ffs ++ (site, bit) ∷ [] } in
    let same : made ≡ new = cc in
    record { site = site; bit = bit; reads = read; reads_digit = reads_digit; new_site = new_site; value = same }

register_by : (old : Registers) (word digit : Word) (a : Bool) (new : Registers) → is_among old.sites word ≡ a → cond a (refused reasons.NameTwice) (register_at old word (digit_of digit) (site_of word)) ≡ Ok new → TakesRegister old word digit new
register_by old word digit true new sites so = absurd cc
register_by old word digit false new sites so = register_with old word digit (digit_of digit) (site_of word) new refl refl sites so

pub register_taken : (old : Registers) (word digit : Word) (new : Registers) → with_register old word digit ≡ Ok new → TakesRegister old word digit new
register_taken old word digit new so = register_by old word digit (is_among old.sites word) new refl so

pub ins_set : (old next : Known) (answer : Result Pads Problem) → set_ins old answer ≡ Ok next → (new : Pads) × (answer ≡ Ok new) × (record old { ports = new.ports; in_sites = new.sites; ins = new.pads } ≡ next)
ins_set old next (Ok new) so = (new, refl, cc)
ins_set old next (Err problem) so = absurd cc

pub outs_set : (old next : Known) (answer : Result Pads Problem) → set_outs old answer ≡ Ok next → (new : Pads) × (answer ≡ Ok new) × (record old { ports = new.ports; out_sites = new.sites; outs = new.pads } ≡ next)
outs_set old next (Ok new) so = (new, refl, cc)
outs_set old next (Err problem) so = absurd cc

pub ffs_set : (old next : Known) (answer : Result Registers Problem) → set_ffs old answer ≡ Ok next → (new : Registers) × (answer ≡ Ok new) × (record old { ff_sites = new.sites; ffs = new.ffs } ≡ next)
ffs_set old next (Ok new) so = (new, refl, cc)
ffs_set old next (Err problem) so = absurd cc

-- a line that says nothing but where it stands
plain_line : (old : Known) → old ≡ record { last = old.last; ports = old.ports ++ []; in_sites = old.in_sites ++ []; out_sites = old.out_sites ++ []; ff_sites = old.ff_sites ++ []; ins = old.ins ++ []; outs = old.outs ++ []; ffs = old.ffs ++ [] }
plain_line old = known_same _ _ refl (sym (append-nil old.ports)) (sym (append-nil old.in_sites)) (sym (append-nil old.out_sites)) (sym (append-nil old.ff_sites)) (sym (append-nil old.ins)) (sym (append-nil old.outs)) (sym (append-nil old.ffs))

-- what is known where a line of a kind has its place
abbrev pub at_kind : Known → Kind → Known
at_kind old kind = record old { last = Some (part_of kind) }

kind_taken : (old next : Known) (kind : Kind) (line : List Word) → take_kind (at_kind old kind) kind line ≡ Ok next → next ≡ with_line old kind line
kind_taken old next kinds.Header line so = sym (versioned (word_at line 1) (at_kind old kinds.Header) next so).1 ∙ plain_line (at_kind old kinds.Header)
kind_taken old next kinds.In line so =
    let set = ins_set (at_kind old kinds.In) next (with_pad (record { ports = old.ports; sites = old.in_sites; pads = old.ins }) (word_at line 1) (word_at line 2)) so in
    let pad = pad_taken (record { ports = old.ports; sites = old.in_sites; pads = old.ins }) (word_at line 1) (word_at line 2) set.0 set.1 in
    sym set.2 ∙ ap (λ (new : Pads). record (at_kind old kinds.In) { ports = new.ports; in_sites = new.sites; ins = new.pads }) (sym pad.value)
    ∙ known_same _ _ refl refl refl (sym (append-nil old.out_sites)) (sym (append-nil old.ff_sites)) (ap (λ (more : List Pad). old.ins ++ more) (sym (ap (pads_at (word_at line 1)) pad.reads))) (sym (append-nil old.outs)) (sym (append-nil old.ffs))
kind_taken old next kinds.Out line so =
    let set = outs_set (at_kind old kinds.Out) next (with_pad (record { ports = old.ports; sites = old.out_sites; pads = old.outs }) (word_at line 1) (word_at line 2)) so in
    let pad = pad_taken (record { ports = old.ports; sites = old.out_sites; pads = old.outs }) (word_at line 1) (word_at line 2) set.0 set.1 in
    sym set.2 ∙ ap (λ (new : Pads). record (at_kind old kinds.Out) { ports = new.ports; out_sites = new.sites; outs = new.pads }) (sym pad.value)
    ∙ known_same _ _ refl refl (sym (append-nil old.in_sites)) refl (sym (append-nil old.ff_sites)) (sym (append-nil old.ins)) (ap (λ (more : List Pad). old.outs ++ more) (sym (ap (pads_at (word_at line 1)) pad.reads))) (sym (append-nil old.ffs))
kind_taken old next kinds.Ff line so =
    let set = ffs_set (at_kind old kinds.Ff) next (with_register (record { sites = old.ff_sites; ffs = old.ffs }) (word_at line 1) (word_at line 2)) so in
    let reg = register_taken (record { sites = old.ff_sites; ffs = old.ffs }) (word_at line 1) (word_at line 2) set.0 set.1 in
    sym set.2 ∙ ap (λ (new : Registers). record (at_kind old kinds.Ff) { ff_sites = new.sites; ffs = new.ffs }) (sym reg.value)
    ∙ known_same _ _ refl (sym (append-nil old.ports)) (sym (append-nil old.in_sites)) (sym (append-nil old.out_sites)) refl (sym (append-nil old.ins)) (sym (append-nil old.outs)) (ap (λ (more : List Register). old.ffs ++ more) (sym (ap (λ (bit : Option Bool). registers_at bit (site_of (word_at line 1))) reg.reads_digit ∙ ap (registers_at (Some reg.bit)) reg.reads)))
kind_taken old next kinds.End line so = let same : at_kind old kinds.End ≡ next = cc in sym same ∙ plain_line (at_kind old kinds.End)
kind_taken old next kinds.Other line so = absurd cc

-- where a line is taken, it has its place
pub line_placed : (old next : Known) (line : List Word) → take old line ≡ Ok next → IsPlaced old.last (part_at line) (take_kind (at_kind old (kind_of line)) (kind_of line) line) next
line_placed old next line so = placed old.last (part_at line) (take_kind (at_kind old (kind_of line)) (kind_of line) line) next so

pub keeps : Keeps known take
keeps = record { more = λ front line next so. kind_taken (known front) next (kind_of line) line (line_placed (known front) next line so).takes ∙ sym (known_push front line) }
