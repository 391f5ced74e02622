-- The lines of a text that is read are those of its state.
use Rattle.std.proofs.Common.{◌≡◌, ◌≢◌, ℕ, zero, suc, ◌<◌, Bool, true, false, ◌||◌, List, [], ◌∷◌, ◌++◌, map, length, get_or, Option, Some, None, Ok, refl, sym, ap, subst, ◌∙◌, arith, append_assoc, append-nil, codes}
use Rattle.std.specs.List.{AllByRecursion}
use Rattle.std.specs.Str.{bytes_eq}
use Rattle.std.proofs.lemmas.List.{map_push}
use Rattle.std.proofs.lemmas.List.Quantifiers.{all_pairs_push}
use Rattle.std.proofs.lemmas.List.Elements.{All-from_recursion}
use Rattle.std.proofs.lemmas.Slice.Eq.{bytes_eq-Decides}
use Rattle.fab_fabric.specs.declared.wire.Site.{Site}
use Rattle.fab_implementation.specs.Plain.{Pad}
use Rattle.fab_lines.specs.Order.{IsFine, IsWhole}
use Rattle.fab_texts.specs.Rows.{Word, PlainRow, words_of}
use Rattle.fab_lines.specs.Items.{word_at, is_among}
use Rattle.fab_fabric.specs.Names.{site_text}
use Rattle.fab_texts.specs.Places.{IsWritable}
use Rattle.fab_texts.proofs.SiteLaws.{site_takes}
use Rattle.fab_texts.specs.declared.sections.Part.{Part}
use Rattle.fab_texts.specs.declared.sections.Part.TheVariants as parts
use Rattle.fab_texts.specs.Sections.{ending, has_ended, may_follow, cut_short}
use Rattle.fab_texts.proofs.Formats.{each_line}
use Rattle.fab_texts.proofs.InSections.{IsOpen, NotBegun, not_begun, none_begun, none_so_far, some_so_far, so_far, versioned, whole_so_far}
use Rattle.fab_state.specs.declared.kind.Kind.{Kind}
use Rattle.fab_state.specs.declared.kind.Kind.TheVariants as kinds
use Rattle.fab_state.specs.Plain.{Register, PlainState}
use Rattle.fab_state.specs.Kinds.{kind_of, part_of}
use Rattle.fab_state.specs.Lines.{Known, Pads, Registers, known, take, take_kind, with_pad, with_register}
use Rattle.fab_state.specs.Spelled.{header, pad_line, ff_line, inner_lines, ports, sites, AreApart, HasLetters, IsFresh, Spells, state_of, state_format}
use Rattle.fab_state.proofs.Follows.{at_kind, keeps, line_placed, pad_taken, register_taken, ins_set, outs_set, ffs_set}
use Rattle.fab_state.proofs.LineForms.{equal_words, in_line, out_line, ff_line_is, header_line, end_line, digit_read}

-- ---- words and sites that stand once

not_among : (words : List Word) (word : Word) → is_among words word ≡ false → (k : ℕ) (d : Word) → k < length words → get_or words k d ≡ word → ⊥
not_among [] word none k d below same = absurd (omega arith)
not_among (first ∷ words) word none zero d below same =
    let here : bytes_eq word first ≡ true = (bytes_eq-Decides word first).1 (sym same) in
    absurd (let both : (bytes_eq word first || is_among words word) ≡ true = rw here refl in cc)
not_among (first ∷ words) word none (suc k) d below same = not_among words word (second (bytes_eq word first) (is_among words word) none) k d (omega (arith, below)) same
  where
    second : (a b : Bool) → (a || b) ≡ false → b ≡ false
    second true b neither = absurd cc
    second false b neither = neither

pub apart_push : (words : List Word) (word : Word) → is_among words word ≡ false → AreApart words → AreApart (words ++ word ∷ [])
apart_push words word none apart = all_pairs_push (λ a b. a ≢ b) words word apart (λ k d below. not_among words word none k d below)

get_mapped : {X Y : Type 0} (f : X → Y) (xs : List X) (k : ℕ) (d : X) → get_or (map f xs) k (f d) ≡ f (get_or xs k d)
get_mapped f [] zero d = refl
get_mapped f [] (suc k) d = refl
get_mapped f (x ∷ xs) zero d = refl
get_mapped f (x ∷ xs) (suc k) d = get_mapped f xs k d

length_mapped : {X Y : Type 0} (f : X → Y) (xs : List X) → length (map f xs) ≡ length xs
length_mapped f [] = refl
length_mapped f (x ∷ xs) = let rest = length_mapped f xs in omega (arith, rest)

-- what differs once it is written differs
pub apart_of : {X : Type 0} (f : X → Word) (xs : List X) → AreApart (map f xs) → AreApart xs
apart_of f xs apart = λ i j d before below same.
    let size = length_mapped f xs in
    apart i j (f d) before (omega (arith, below, size)) (get_mapped f xs i d ∙ ap f same ∙ sym (get_mapped f xs j d))

pub all_push : {X : Type 0} (P : X → Type 0) (xs : List X) (y : X) → AllByRecursion P xs → P y → AllByRecursion P (xs ++ y ∷ [])
all_push P [] y all is = (is, tt)
all_push P (x ∷ xs) y all is = (all.0, all_push P xs y all.1 is)

-- ---- the lines so far

-- all but the end
abbrev pub so_many : PlainState → List (List Word)
so_many state = header ∷ inner_lines state

-- what sections hold that have not begun
pub record Later (last : Option Part) (state : PlainState) : Type 0 where
  pub ins : NotBegun last 1 → state.ins ≡ []
  pub outs : NotBegun last 2 → state.outs ≡ []
  pub ffs : NotBegun last 3 → state.ffs ≡ []

abbrev site_words : List Pad → List Word
site_words pads = map (λ pad. site_text pad.1) pads

pub record Holds (old : Known) (done : List (List Word)) : Type 0 where
  pub lines : done ≡ so_far old.last (so_many (state_of old))
  pub later : Later old.last (state_of old)
  pub port_words : old.ports ≡ ports (state_of old)
  pub in_words : old.in_sites ≡ site_words old.ins
  pub out_words : old.out_sites ≡ site_words old.outs
  pub ff_words : old.ff_sites ≡ map (λ register. site_text register.0) old.ffs
  pub ports_apart : AreApart old.ports
  pub ins_apart : AreApart old.in_sites
  pub outs_apart : AreApart old.out_sites
  pub ffs_apart : AreApart old.ff_sites
  pub ins_fit : AllByRecursion (λ pad. IsWritable pad.1) old.ins
  pub outs_fit : AllByRecursion (λ pad. IsWritable pad.1) old.outs
  pub ffs_fit : AllByRecursion (λ register. IsWritable register.0) old.ffs

-- the lines before one of this section
lines_before : (old : Known) (done : List (List Word)) (section : ℕ) → Holds old done → IsOpen old.last section → done ≡ so_many (state_of old)
lines_before old done section holds may = holds.lines ∙ some_so_far old.last (parts.Section section) (so_many (state_of old)) may.opened may.follows refl

-- ---- one line more

abbrev in_lines : List Pad → List (List Word)
in_lines pads = map (pad_line (codes "in")) pads

abbrev out_lines : List Pad → List (List Word)
out_lines pads = map (pad_line (codes "out")) pads

in_more : (ins outs : List Pad) (ffs : List Register) (pad : Pad) → outs ≡ [] → ffs ≡ [] → (in_lines ins ++ out_lines outs ++ map ff_line ffs) ++ pad_line (codes "in") pad ∷ [] ≡ in_lines (ins ++ pad ∷ []) ++ out_lines outs ++ map ff_line ffs
in_more ins outs ffs pad no_outs no_ffs =
    let before : in_lines ins ++ out_lines outs ++ map ff_line ffs ≡ in_lines ins = rw (no_outs, no_ffs) (append-nil (in_lines ins ++ []) ∙ append-nil (in_lines ins)) in
    let after : in_lines (ins ++ pad ∷ []) ++ out_lines outs ++ map ff_line ffs ≡ in_lines (ins ++ pad ∷ []) = rw (no_outs, no_ffs) (append-nil (in_lines (ins ++ pad ∷ []) ++ []) ∙ append-nil (in_lines (ins ++ pad ∷ []))) in
    ap (λ (l : List (List Word)). l ++ pad_line (codes "in") pad ∷ []) before ∙ sym (after ∙ map_push (pad_line (codes "in")) ins pad)

out_more : (ins outs : List Pad) (ffs : List Register) (pad : Pad) → ffs ≡ [] → (in_lines ins ++ out_lines outs ++ map ff_line ffs) ++ pad_line (codes "out") pad ∷ [] ≡ in_lines ins ++ out_lines (outs ++ pad ∷ []) ++ map ff_line ffs
out_more ins outs ffs pad no_ffs =
    let before : in_lines ins ++ out_lines outs ++ map ff_line ffs ≡ in_lines ins ++ out_lines outs = rw no_ffs (append-nil (in_lines ins ++ out_lines outs)) in
    let after : in_lines ins ++ out_lines (outs ++ pad ∷ []) ++ map ff_line ffs ≡ in_lines ins ++ out_lines (outs ++ pad ∷ []) = rw no_ffs (append-nil (in_lines ins ++ out_lines (outs ++ pad ∷ []))) in
    ap (λ (l : List (List Word)). l ++ pad_line (codes "out") pad ∷ []) before
    ∙ append_assoc (in_lines ins) (out_lines outs) (pad_line (codes "out") pad ∷ [])
    ∙ sym (after ∙ ap (λ (l : List (List Word)). in_lines ins ++ l) (map_push (pad_line (codes "out")) outs pad))

ff_more : (ins outs : List Pad) (ffs : List Register) (ff : Register) → (in_lines ins ++ out_lines outs ++ map ff_line ffs) ++ ff_line ff ∷ [] ≡ in_lines ins ++ out_lines outs ++ map ff_line (ffs ++ ff ∷ [])
ff_more ins outs ffs ff =
    append_assoc (in_lines ins ++ out_lines outs) (map ff_line ffs) (ff_line ff ∷ []) ∙ ap (λ (l : List (List Word)). (in_lines ins ++ out_lines outs) ++ l) (sym (map_push ff_line ffs ff))

module _ (old : Known) (done : List (List Word)) (holds : Holds old done) where
  in_step : (port word : Word) (new : Pads) → IsOpen old.last 1 → with_pad (record { ports = old.ports; sites = old.in_sites; pads = old.ins }) port word ≡ Ok new
      → Holds (record old { last = Some (parts.Section 1); ports = new.ports; in_sites = new.sites; ins = new.pads }) (done ++ (codes "in" ∷ port ∷ word ∷ []) ∷ [])
  in_step port word new may so =
      let no_outs = holds.later.outs (not_begun old.last 1 2 may (omega arith)) in
      let no_ffs = holds.later.ffs (not_begun old.last 1 3 may (omega arith)) in
      let pad = pad_taken (record { ports = old.ports; sites = old.in_sites; pads = old.ins }) port word new so in
      let text = site_takes word pad.site pad.reads in
      let item : Pad = (port, pad.site) in
      let line : codes "in" ∷ port ∷ word ∷ [] ≡ pad_line (codes "in") item = ap (λ (w : Word). codes "in" ∷ port ∷ w ∷ []) text.0 in
      let step : Holds (record old { last = Some (parts.Section 1); ports = old.ports ++ port ∷ []; in_sites = old.in_sites ++ word ∷ []; ins = old.ins ++ item ∷ [] }) (done ++ (codes "in" ∷ port ∷ word ∷ []) ∷ []) =
      record {
        lines = ap (λ (l : List (List Word)). l ++ (codes "in" ∷ port ∷ word ∷ []) ∷ []) (lines_before old done 1 holds may)
            ∙ ap (λ (w : List Word). (header ∷ inner_lines (state_of old)) ++ w ∷ []) line
            ∙ ap (λ (l : List (List Word)). header ∷ l) (in_more old.ins old.outs old.ffs item no_outs no_ffs);
        later = record { ins = λ below. absurd (omega (arith, below)); outs = λ below. no_outs; ffs = λ below. no_ffs };
        port_words = ap (λ (l : List Word). l ++ port ∷ []) (holds.port_words ∙ ap (λ (outs : List Pad). map (λ (p : Pad). p.0) (old.ins ++ outs)) no_outs ∙ ap (map (λ (p : Pad). p.0)) (append-nil old.ins))
            ∙ sym (ap (λ (outs : List Pad). map (λ (p : Pad). p.0) ((old.ins ++ item ∷ []) ++ outs)) no_outs ∙ ap (map (λ (p : Pad). p.0)) (append-nil (old.ins ++ item ∷ [])) ∙ map_push (λ (p : Pad). p.0) old.ins item);
        in_words = ap (λ (l : List Word). l ++ word ∷ []) holds.in_words ∙ ap (λ (w : Word). site_words old.ins ++ w ∷ []) text.0 ∙ sym (map_push (λ (p : Pad). site_text p.1) old.ins item);
        out_words = holds.out_words;
        ff_words = holds.ff_words;
        ports_apart = apart_push old.ports port pad.new_port holds.ports_apart;
        ins_apart = apart_push old.in_sites word pad.new_site holds.ins_apart;
        outs_apart = holds.outs_apart;
        ffs_apart = holds.ffs_apart;
        ins_fit = all_push (λ (p : Pad). IsWritable p.1) old.ins item holds.ins_fit text.1;
        outs_fit = holds.outs_fit;
        ffs_fit = holds.ffs_fit;
      } in
      subst (λ (n : Pads). Holds (record old { last = Some (parts.Section 1); ports = n.ports; in_sites = n.sites; ins = n.pads }) (done ++ (codes "in" ∷ port ∷ word ∷ []) ∷ [])) pad.value step

  out_step : (port word : Word) (new : Pads) → IsOpen old.last 2 → with_pad (record { ports = old.ports; sites = old.out_sites; pads = old.outs }) port word ≡ Ok new
      → Holds (record old { last = Some (parts.Section 2); ports = new.ports; out_sites = new.sites; outs = new.pads }) (done ++ (codes "out" ∷ port ∷ word ∷ []) ∷ [])
  out_step port word new may so =
      let no_ffs = holds.later.ffs (not_begun old.last 2 3 may (omega arith)) in
      let pad = pad_taken (record { ports = old.ports; sites = old.out_sites; pads = old.outs }) port word new so in
      let text = site_takes word pad.site pad.reads in
      let item : Pad = (port, pad.site) in
      let line : codes "out" ∷ port ∷ word ∷ [] ≡ pad_line (codes "out") item = ap (λ (w : Word). codes "out" ∷ port ∷ w ∷ []) text.0 in
      let step : Holds (record old { last = Some (parts.Section 2); ports = old.ports ++ port ∷ []; out_sites = old.out_sites ++ word ∷ []; outs = old.outs ++ item ∷ [] }) (done ++ (codes "out" ∷ port ∷ word ∷ []) ∷ []) =
      record {
        lines = ap (λ (l : List (List Word)). l ++ (codes "out" ∷ port ∷ word ∷ []) ∷ []) (lines_before old done 2 holds may)
            ∙ ap (λ (w : List Word). (header ∷ inner_lines (state_of old)) ++ w ∷ []) line
            ∙ ap (λ (l : List (List Word)). header ∷ l) (out_more old.ins old.outs old.ffs item no_ffs);
        later = record { ins = λ below. absurd (omega (arith, below)); outs = λ below. absurd (omega (arith, below)); ffs = λ below. no_ffs };
        port_words = ap (λ (l : List Word). l ++ port ∷ []) holds.port_words
            ∙ sym (ap (map (λ (p : Pad). p.0)) (sym (append_assoc old.ins old.outs (item ∷ []))) ∙ map_push (λ (p : Pad). p.0) (old.ins ++ old.outs) item);
        in_words = holds.in_words;
        out_words = ap (λ (l : List Word). l ++ word ∷ []) holds.out_words ∙ ap (λ (w : Word). site_words old.outs ++ w ∷ []) text.0 ∙ sym (map_push (λ (p : Pad). site_text p.1) old.outs item);
        ff_words = holds.ff_words;
        ports_apart = apart_push old.ports port pad.new_port holds.ports_apart;
        ins_apart = holds.ins_apart;
        outs_apart = apart_push old.out_sites word pad.new_site holds.outs_apart;
        ffs_apart = holds.ffs_apart;
        ins_fit = holds.ins_fit;
        outs_fit = all_push (λ (p : Pad). IsWritable p.1) old.outs item holds.outs_fit text.1;
        ffs_fit = holds.ffs_fit;
      } in
      subst (λ (n : Pads). Holds (record old { last = Some (parts.Section 2); ports = n.ports; out_sites = n.sites; outs = n.pads }) (done ++ (codes "out" ∷ port ∷ word ∷ []) ∷ [])) pad.value step

  ff_step : (word value : Word) (new : Registers) → IsOpen old.last 3 → with_register (record { sites = old.ff_sites; ffs = old.ffs }) word value ≡ Ok new
      → Holds (record old { last = Some (parts.Section 3); ff_sites = new.sites; ffs = new.ffs }) (done ++ (codes "ff" ∷ word ∷ value ∷ []) ∷ [])
  ff_step word value new may so =
      let reg = register_taken (record { sites = old.ff_sites; ffs = old.ffs }) word value new so in
      let text = site_takes word reg.site reg.reads in
      let item : Register = (reg.site, reg.bit) in
      let line : codes "ff" ∷ word ∷ value ∷ [] ≡ ff_line item = ap (λ (w : Word). codes "ff" ∷ w ∷ value ∷ []) text.0 ∙ ap (λ (w : Word). codes "ff" ∷ site_text reg.site ∷ w ∷ []) (digit_read value reg.bit reg.reads_digit) in
      let step : Holds (record old { last = Some (parts.Section 3); ff_sites = old.ff_sites ++ word ∷ []; ffs = old.ffs ++ item ∷ [] }) (done ++ (codes "ff" ∷ word ∷ value ∷ []) ∷ []) =
      record {
        lines = ap (λ (l : List (List Word)). l ++ (codes "ff" ∷ word ∷ value ∷ []) ∷ []) (lines_before old done 3 holds may)
            ∙ ap (λ (w : List Word). (header ∷ inner_lines (state_of old)) ++ w ∷ []) line
            ∙ ap (λ (l : List (List Word)). header ∷ l) (ff_more old.ins old.outs old.ffs item);
        later = record { ins = λ below. absurd (omega (arith, below)); outs = λ below. absurd (omega (arith, below)); ffs = λ below. absurd (omega (arith, below)) };
        port_words = holds.port_words;
        in_words = holds.in_words;
        out_words = holds.out_words;
        ff_words = ap (λ (l : List Word). l ++ word ∷ []) holds.ff_words ∙ ap (λ (w : Word). map (λ (r : Register). site_text r.0) old.ffs ++ w ∷ []) text.0 ∙ sym (map_push (λ (r : Register). site_text r.0) old.ffs item);
        ports_apart = holds.ports_apart;
        ins_apart = holds.ins_apart;
        outs_apart = holds.outs_apart;
        ffs_apart = apart_push old.ff_sites word reg.new_site holds.ffs_apart;
        ins_fit = holds.ins_fit;
        outs_fit = holds.outs_fit;
        ffs_fit = all_push (λ (r : Register). IsWritable r.0) old.ffs item holds.ffs_fit text.1;
      } in
      subst (λ (n : Registers). Holds (record old { last = Some (parts.Section 3); ff_sites = n.sites; ffs = n.ffs }) (done ++ (codes "ff" ∷ word ∷ value ∷ []) ∷ [])) reg.value step

  -- a line that says nothing but where it stands
  stays : (part : Part) (line : List Word) → done ++ line ∷ [] ≡ so_far (Some part) (so_many (state_of old)) → Later (Some part) (state_of old) → Holds (record old { last = Some part }) (done ++ line ∷ [])
  stays part line lines later = record {
    lines = lines;
    later = later;
    port_words = holds.port_words;
    in_words = holds.in_words;
    out_words = holds.out_words;
    ff_words = holds.ff_words;
    ports_apart = holds.ports_apart;
    ins_apart = holds.ins_apart;
    outs_apart = holds.outs_apart;
    ffs_apart = holds.ffs_apart;
    ins_fit = holds.ins_fit;
    outs_fit = holds.outs_fit;
    ffs_fit = holds.ffs_fit;
  }

  end_step : has_ended old.last ≡ false → may_follow old.last parts.End ≡ true → Holds (record old { last = Some parts.End }) (done ++ ending ∷ [])
  end_step opened follows =
      let before : done ≡ so_many (state_of old) = holds.lines ∙ some_so_far old.last parts.End (so_many (state_of old)) opened follows refl in
      stays parts.End ending (ap (λ (l : List (List Word)). l ++ ending ∷ []) before) (record { ins = λ begun. absurd begun; outs = λ begun. absurd begun; ffs = λ begun. absurd begun })

  header_step : may_follow old.last parts.Header ≡ true → Holds (record old { last = Some parts.Header }) (done ++ header ∷ [])
  header_step follows =
      let no_ins = holds.later.ins (none_begun old.last follows 1) in
      let no_outs = holds.later.outs (none_begun old.last follows 2) in
      let no_ffs = holds.later.ffs (none_begun old.last follows 3) in
      let before : done ≡ [] = holds.lines ∙ none_so_far old.last (so_many (state_of old)) follows in
      let empty : inner_lines (state_of old) ≡ [] = ap (λ (ins : List Pad). in_lines ins ++ out_lines old.outs ++ map ff_line old.ffs) no_ins ∙ ap (λ (outs : List Pad). out_lines outs ++ map ff_line old.ffs) no_outs ∙ ap (map ff_line) no_ffs in
      stays parts.Header header (ap (λ (l : List (List Word)). l ++ header ∷ []) before ∙ sym (ap (λ (l : List (List Word)). header ∷ l) empty))
      (record { ins = λ begun. no_ins; outs = λ begun. no_outs; ffs = λ begun. no_ffs })

  kind_step : (next : Known) (kind : Kind) (line : List Word) → kind_of line ≡ kind → has_ended old.last ≡ false → may_follow old.last (part_of kind) ≡ true → take_kind (at_kind old kind) kind line ≡ Ok next → Holds next (done ++ line ∷ [])
  kind_step next kinds.Header line is opened follows so =
      let set = versioned (word_at line 1) (at_kind old kinds.Header) next so in
      let whole : line ≡ header = header_line line is ∙ ap (λ (w : Word). codes "fabulous-state" ∷ w ∷ []) set.0 in
      subst (λ (k : Known). Holds k (done ++ line ∷ [])) set.1 (subst (λ (l : List Word). Holds (at_kind old kinds.Header) (done ++ l ∷ [])) (sym whole) (header_step follows))
  kind_step next kinds.In line is opened follows so =
      let set = ins_set (at_kind old kinds.In) next (with_pad (record { ports = old.ports; sites = old.in_sites; pads = old.ins }) (word_at line 1) (word_at line 2)) so in
      let step = in_step (word_at line 1) (word_at line 2) set.0 (record { opened = opened; follows = follows }) set.1 in
      subst (λ (l : List Word). Holds next (done ++ l ∷ [])) (sym (in_line line is)) (subst (λ (k : Known). Holds k (done ++ (codes "in" ∷ word_at line 1 ∷ word_at line 2 ∷ []) ∷ [])) set.2 step)
  kind_step next kinds.Out line is opened follows so =
      let set = outs_set (at_kind old kinds.Out) next (with_pad (record { ports = old.ports; sites = old.out_sites; pads = old.outs }) (word_at line 1) (word_at line 2)) so in
      let step = out_step (word_at line 1) (word_at line 2) set.0 (record { opened = opened; follows = follows }) set.1 in
      subst (λ (l : List Word). Holds next (done ++ l ∷ [])) (sym (out_line line is)) (subst (λ (k : Known). Holds k (done ++ (codes "out" ∷ word_at line 1 ∷ word_at line 2 ∷ []) ∷ [])) set.2 step)
  kind_step next kinds.Ff line is opened follows so =
      let set = ffs_set (at_kind old kinds.Ff) next (with_register (record { sites = old.ff_sites; ffs = old.ffs }) (word_at line 1) (word_at line 2)) so in
      let step = ff_step (word_at line 1) (word_at line 2) set.0 (record { opened = opened; follows = follows }) set.1 in
      subst (λ (l : List Word). Holds next (done ++ l ∷ [])) (sym (ff_line_is line is)) (subst (λ (k : Known). Holds k (done ++ (codes "ff" ∷ word_at line 1 ∷ word_at line 2 ∷ []) ∷ [])) set.2 step)
  kind_step next kinds.End line is opened follows so =
      let same : at_kind old kinds.End ≡ next = cc in
      subst (λ (k : Known). Holds k (done ++ line ∷ [])) same (subst (λ (l : List Word). Holds (at_kind old kinds.End) (done ++ l ∷ [])) (sym (end_line line is)) (end_step opened follows))
  kind_step next kinds.Other line is opened follows so = absurd cc

  pub line_step : (next : Known) (line : List Word) → take old line ≡ Ok next → Holds next (done ++ line ∷ [])
  line_step next line so = let placed = line_placed old next line so in kind_step next (kind_of line) line refl placed.opened placed.follows placed.takes

pub none_apart : {X : Type 0} → AreApart {X = X} []
none_apart = λ i j d before below. absurd (omega (arith, before, below))

nothing_holds : Holds (known []) []
nothing_holds = record {
  lines = refl;
  later = record { ins = λ begun. refl; outs = λ begun. refl; ffs = λ begun. refl };
  port_words = refl;
  in_words = refl;
  out_words = refl;
  ff_words = refl;
  ports_apart = none_apart;
  ins_apart = none_apart;
  outs_apart = none_apart;
  ffs_apart = none_apart;
  ins_fit = tt;
  outs_fit = tt;
  ffs_fit = tt;
}

pub text_holds : (rows : List PlainRow) → IsFine state_format.judge rows → Holds (known (words_of rows)) (words_of rows)
text_holds rows fine = each_line known take (λ (k : Known). cut_short k.last) (λ lines. Holds (known lines) lines)
    (λ front line next so holds. subst (λ (k : Known). Holds k (front ++ line ∷ [])) (keeps.more front line next so) (line_step (known front) front holds next line so)) nothing_holds rows fine

pub fresh_of : (old : Known) (done : List (List Word)) → Holds old done → IsFresh (state_of old)
fresh_of old done holds = record {
  in_sites = holds.ins_fit;
  out_sites = holds.outs_fit;
  ff_sites = holds.ffs_fit;
  ports = subst AreApart holds.port_words holds.ports_apart;
  ins = apart_of site_text (sites old.ins) (subst AreApart (holds.in_words ∙ sym (mapped old.ins)) holds.ins_apart);
  outs = apart_of site_text (sites old.outs) (subst AreApart (holds.out_words ∙ sym (mapped old.outs)) holds.outs_apart);
  ffs = apart_of site_text (map (λ (r : Register). r.0) old.ffs) (subst AreApart (holds.ff_words ∙ sym (mapped_ffs old.ffs)) holds.ffs_apart);
}
  where
    mapped : (pads : List Pad) → map site_text (sites pads) ≡ site_words pads
    mapped [] = refl
    mapped (pad ∷ pads) = ap (λ (l : List Word). site_text pad.1 ∷ l) (mapped pads)

    mapped_ffs : (ffs : List Register) → map site_text (map (λ (r : Register). r.0) ffs) ≡ map (λ (r : Register). site_text r.0) ffs
    mapped_ffs [] = refl
    mapped_ffs (ff ∷ ffs) = ap (λ (l : List Word). site_text ff.0 ∷ l) (mapped_ffs ffs)

-- a whole text spells what it says
pub whole_spells : (rows : List PlainRow) → IsWhole state_format rows → Spells rows (state_of (known (words_of rows)))
whole_spells rows whole =
    let old = known (words_of rows) in
    let holds = text_holds rows whole.fine in
    record { lines = holds.lines ∙ whole_so_far old.last (so_many (state_of old)) whole.ends; fresh = fresh_of old (words_of rows) holds }

all_letters : {X : Type 0} (site : X → Site) (xs : List X) → AllByRecursion (λ x. IsWritable (site x)) xs → AllByRecursion (λ x. (site x).bel < 26) xs
all_letters site [] fit = tt
all_letters site (x ∷ xs) fit = (fit.0.bel, all_letters site xs fit.1)

-- sites that can be written have letters
pub fresh_letters : (state : PlainState) → IsFresh state → HasLetters state
fresh_letters state fresh = record {
  ins = All-from_recursion (λ (p : Pad). p.1.bel < 26) state.ins (all_letters (λ (p : Pad). p.1) state.ins fresh.in_sites);
  outs = All-from_recursion (λ (p : Pad). p.1.bel < 26) state.outs (all_letters (λ (p : Pad). p.1) state.outs fresh.out_sites);
  ffs = All-from_recursion (λ (r : Register). r.0.bel < 26) state.ffs (all_letters (λ (r : Register). r.0) state.ffs fresh.ff_sites);
}
