-- A text whose lines are those of constraints is read as these constraints, and what is read is spelled.
use Rattle.std.proofs.Common.{◌≡◌, Bool, true, false, cond, ◌&&◌, ◌||◌, List, [], ◌∷◌, ◌++◌, map, length, Contains, Option, Some, None, Result, Ok, refl, sym, ap, subst, ◌∙◌, append_assoc, append-nil, codes}
use Rattle.std.specs.Prelude.{◌==◌}
use Rattle.std.specs.List.{AllByRecursion}
use Rattle.std.specs.Str.{bytes_eq}
use Rattle.std.proofs.lemmas.Bool.{eqb-true}
use Rattle.std.proofs.lemmas.List.{map_push}
use Rattle.std.proofs.lemmas.Slice.Eq.{bytes_eq-Decides}
use Rattle.fab_base.specs.declared.problem.Problem.{Problem}
use Rattle.fab_base.specs.declared.words.Reason.TheVariants as reasons
use Rattle.fab_kinds.specs.declared.kind.Kind.{Kind as BelKind}
use Rattle.fab_kinds.specs.declared.kind.Kind.TheVariants as kinds
use Rattle.fab_implementation.specs.fab_model.specs.Grid.{PlainFabric}
use Rattle.fab_fabric.specs.declared.wire.Site.{Site}
use Rattle.fab_netlist.proofs.Members.{any_by, any_gives}
use Rattle.fab_implementation.specs.Plain.{Pad}
use Rattle.fab_implementation.specs.OnFabric.{kind_at}
use Rattle.fab_lines.specs.Order.{IsFine, IsWhole}
use Rattle.fab_texts.specs.Rows.{Word, PlainRow, words_of}
use Rattle.fab_lines.specs.Items.{word_at, is_among}
use Rattle.fab_fabric.specs.Names.{site_text}
use Rattle.fab_texts.specs.Places.{site_of, IsWritable}
use Rattle.fab_texts.specs.Formats.{refused}
use Rattle.fab_texts.proofs.SiteLaws.{site_again, site_takes}
use Rattle.fab_texts.proofs.Formats.{taken, taken_none, taken_one, taken_fine, each_line}
use Rattle.fab_state.specs.Spelled.{AreApart}
use Rattle.fab_state.specs.Constraints.{Fixing, is_pad_kind, pad_of, pad_at, is_fixing, take_fixing, fixed, nothing_left, constraint_format, fixing_line, SpellsFixings, SaysFixings}
use Rattle.fab_state.proofs.Fixings.{keeps_fixing, fixing_same}
use Rattle.fab_state.proofs.LineForms.{equal_words, three_words}
use Rattle.fab_state.proofs.ReadBack.{names, site_words, new_word, site_words_apart, words_of_sites}
use Rattle.fab_state.proofs.Spelled.{apart_push, apart_of, all_push, none_apart}

-- what stands in a list is among its words, and what is among them stands there
among : (words : List Word) (word : Word) → Contains words word → is_among words word ≡ true
among words word here = any_by (bytes_eq word) words word here ((bytes_eq-Decides word word).1 refl)

among_in : (words : List Word) (word : Word) → is_among words word ≡ true → Contains words word
among_in words word any =
    let found = any_gives (bytes_eq word) words any in
    subst (λ (w : Word). Contains words w) (sym (equal_words word found.0 found.2)) found.1

module _ (fabric : PlainFabric) (allowed : List Word) where
  -- what is known of so many pads
  abbrev of_pads : List Pad → Fixing
  of_pads pads = record { fabric = fabric; allowed = allowed; ports = names pads; sites = site_words pads; pads = pads }

  -- ---- what is spelled is read

  fixing_taken : (pads : List Pad) (pad : Pad) → is_among allowed pad.0 ≡ true → IsWritable pad.1 → kind_at fabric pad.1 ≡ Some kinds.Io → is_among (names pads) pad.0 ≡ false → is_among (site_words pads) (site_text pad.1) ≡ false
      → take_fixing (of_pads pads) (fixing_line pad) ≡ Ok (of_pads (pads ++ pad ∷ []))
  fixing_taken pads pad known fits kind new_port new_site =
      let made : Fixing = record (of_pads pads) { ports = names pads ++ pad.0 ∷ []; sites = site_words pads ++ site_text pad.1 ∷ []; pads = pads ++ pad ∷ [] } in
      let found : pad_of fabric (site_of (site_text pad.1)) ≡ Some pad.1 = rw (site_again pad.1 fits, kind) refl in
      let step : take_fixing (of_pads pads) (fixing_line pad) ≡ Ok made = rw (new_port, new_site, found, known) refl in
      step ∙ ap (λ (k : Fixing). let r : Result Fixing Problem = Ok k in r) (fixing_same made (of_pads (pads ++ pad ∷ [])) refl refl (sym (map_push (λ (p : Pad). p.0) pads pad)) (sym (map_push (λ (p : Pad). site_text p.1) pads pad)) refl)

  fixings_taken : (before pads : List Pad) → AllByRecursion (λ pad. Contains allowed pad.0) pads → AllByRecursion (λ pad. IsWritable pad.1) pads → AllByRecursion (λ pad. kind_at fabric pad.1 ≡ Some kinds.Io) pads
      → AreApart (names before ++ names pads) → AreApart (site_words before ++ site_words pads) → taken take_fixing (of_pads before) (map fixing_line pads) ≡ Ok (of_pads (before ++ pads))
  fixings_taken before [] known fits kind ports_apart sites_apart = taken_none take_fixing (of_pads before) ∙ ap (λ (l : List Pad). let r : Result Fixing Problem = Ok (of_pads l) in r) (sym (append-nil before))
  fixings_taken before (pad ∷ pads) known fits kind ports_apart sites_apart =
      let step = fixing_taken before pad (among allowed pad.0 known.0) fits.0 kind.0 (new_word (names before) pad.0 (names pads) ports_apart) (new_word (site_words before) (site_text pad.1) (site_words pads) sites_apart) in
      let ports_again : AreApart (names (before ++ pad ∷ []) ++ names pads) = subst AreApart (sym (ap (λ (l : List Word). l ++ names pads) (map_push (λ (p : Pad). p.0) before pad) ∙ append_assoc (names before) (pad.0 ∷ []) (names pads))) ports_apart in
      let sites_again : AreApart (site_words (before ++ pad ∷ []) ++ site_words pads) =
      subst AreApart (sym (ap (λ (l : List Word). l ++ site_words pads) (map_push (λ (p : Pad). site_text p.1) before pad) ∙ append_assoc (site_words before) (site_text pad.1 ∷ []) (site_words pads))) sites_apart in
      taken_one take_fixing (of_pads before) (of_pads (before ++ pad ∷ [])) (fixing_line pad) (map fixing_line pads) step
      ∙ fixings_taken (before ++ pad ∷ []) pads known.1 fits.1 kind.1 ports_again sites_again
      ∙ ap (λ (l : List Pad). let r : Result Fixing Problem = Ok (of_pads l) in r) (append_assoc before (pad ∷ []) pads)

  spelled : (rows : List PlainRow) (pads : List Pad) → SpellsFixings fabric allowed rows pads → SaysFixings fabric allowed rows pads
  spelled rows pads spells =
      let are = spells.fixings in
      let all = fixings_taken [] pads are.ports are.sites are.kinds are.ports_apart (site_words_apart (λ (pad : Pad). pad.1) pads are.sites are.sites_apart) in
      let read = taken_fine (fixed fabric allowed) take_fixing nothing_left (keeps_fixing fabric allowed) rows (of_pads pads) (ap (taken take_fixing (fixed fabric allowed [])) spells.lines ∙ all) in
      (record { fine = read.0; ends = refl }, ap (λ (k : Fixing). k.pads) read.1)

  -- ---- what is read is spelled

  -- a line that was taken
  record Takes (old next : Fixing) (line : List Word) : Type 0 where
    site : Site
    form : line ≡ codes "set_io" ∷ word_at line 1 ∷ word_at line 2 ∷ []
    new_port : is_among old.ports (word_at line 1) ≡ false
    new_site : is_among old.sites (word_at line 2) ≡ false
    found : pad_of old.fabric (site_of (word_at line 2)) ≡ Some site
    known : is_among old.allowed (word_at line 1) ≡ true
    pads : next.pads ≡ old.pads ++ (word_at line 1, site) ∷ []

  form_of : (line : List Word) (three first : Bool) → (length line == 3) ≡ three → bytes_eq (word_at line 0) (codes "set_io") ≡ first → (three && first) ≡ true → line ≡ codes "set_io" ∷ word_at line 1 ∷ word_at line 2 ∷ []
  form_of line true true of_three is so = three_words line (eqb-true (length line) 3 of_three) ∙ ap (λ (w : Word). w ∷ word_at line 1 ∷ word_at line 2 ∷ []) (equal_words (word_at line 0) (codes "set_io") is)
  form_of line true false of_three is so = absurd cc
  form_of line false first of_three is so = absurd cc

  -- with one pad more
  abbrev longer : Fixing → List Word → Site → Fixing
  longer old line site = record old { ports = old.ports ++ word_at line 1 ∷ []; sites = old.sites ++ word_at line 2 ∷ []; pads = old.pads ++ (word_at line 1, site) ∷ [] }

  module _ (old next : Fixing) (line : List Word) (form : line ≡ codes "set_io" ∷ word_at line 1 ∷ word_at line 2 ∷ []) (new_port : is_among old.ports (word_at line 1) ≡ false) (new_site : is_among old.sites (word_at line 2) ≡ false) where
    takes_site : (site : Site) (allows : Bool) → pad_of old.fabric (site_of (word_at line 2)) ≡ Some site → is_among old.allowed (word_at line 1) ≡ allows → cond allows (Ok (longer old line site)) (refused reasons.Port) ≡ Ok next → Takes old next line
    takes_site site true found known so =
        let same : longer old line site ≡ next = cc in
        record { site = site; form = form; new_port = new_port; new_site = new_site; found = found; known = known; pads = ap (λ (k : Fixing). k.pads) (sym same) }
    takes_site site false found known so = absurd cc

    takes_found : (found : Option Site) → pad_of old.fabric (site_of (word_at line 2)) ≡ found → pad_at old (word_at line 1) (word_at line 2) found ≡ Ok next → Takes old next line
    takes_found None found so = absurd cc
    takes_found (Some site) found so = takes_site site (is_among old.allowed (word_at line 1)) found refl so

  takes_by : (old next : Fixing) (line : List Word) (fixing twice_port twice_site : Bool) → is_fixing line ≡ fixing → is_among old.ports (word_at line 1) ≡ twice_port → is_among old.sites (word_at line 2) ≡ twice_site
      → cond fixing (cond (twice_port || twice_site) (refused reasons.NameTwice) (pad_at old (word_at line 1) (word_at line 2) (pad_of old.fabric (site_of (word_at line 2))))) (refused reasons.Row) ≡ Ok next → Takes old next line
  takes_by old next line false twice_port twice_site is ports sites so = absurd cc
  takes_by old next line true true twice_site is ports sites so = absurd cc
  takes_by old next line true false true is ports sites so = absurd cc
  takes_by old next line true false false is ports sites so =
      takes_found old next line (form_of line (length line == 3) (bytes_eq (word_at line 0) (codes "set_io")) refl refl is) ports sites (pad_of old.fabric (site_of (word_at line 2))) refl so

  takes : (old next : Fixing) (line : List Word) → take_fixing old line ≡ Ok next → Takes old next line
  takes old next line so = takes_by old next line (is_fixing line) (is_among old.ports (word_at line 1)) (is_among old.sites (word_at line 2)) refl refl refl so

  -- the site is one of an IO
  io_kind : (site : Site) (kind : Option BelKind) (pad : Site) → kind_at fabric site ≡ kind → cond (is_pad_kind kind) (Some site) None ≡ Some pad → (site ≡ pad) × (kind_at fabric pad ≡ Some kinds.Io)
  io_kind site None pad is so = absurd cc
  io_kind site (Some kinds.Io) pad is so = let same : site ≡ pad = cc in (same, subst (λ (s : Site). kind_at fabric s ≡ Some kinds.Io) same is)
  io_kind site (Some kinds.Lut4c) pad is so = absurd cc
  io_kind site (Some kinds.Mux8) pad is so = absurd cc

  io_found : (found : Option Site) (pad : Site) → pad_of fabric found ≡ Some pad → (found ≡ Some pad) × (kind_at fabric pad ≡ Some kinds.Io)
  io_found None pad so = absurd cc
  io_found (Some site) pad so = let is = io_kind site (kind_at fabric site) pad refl so in (ap (λ (s : Site). Some s) is.0, is.1)

  -- lines that spell pads
  record Holds (lines : List (List Word)) : Type 0 where
    pads : List Pad
    pads_are : (fixed fabric allowed lines).pads ≡ pads
    lines_are : lines ≡ map fixing_line pads
    ports : AllByRecursion (λ pad. Contains allowed pad.0) pads
    sites : AllByRecursion (λ pad. IsWritable pad.1) pads
    kinds : AllByRecursion (λ pad. kind_at fabric pad.1 ≡ Some kinds.Io) pads
    ports_apart : AreApart (names pads)
    words_apart : AreApart (site_words pads)

  ports_of : (pads : List Pad) → map (λ line. word_at line 1) (map fixing_line pads) ≡ names pads
  ports_of [] = refl
  ports_of (pad ∷ pads) = ap (λ (l : List Word). pad.0 ∷ l) (ports_of pads)

  words_in : (pads : List Pad) → map (λ line. word_at line 2) (map fixing_line pads) ≡ site_words pads
  words_in [] = refl
  words_in (pad ∷ pads) = ap (λ (l : List Word). site_text pad.1 ∷ l) (words_in pads)

  one_more : (front : List (List Word)) (line : List Word) (next : Fixing) → take_fixing (fixed fabric allowed front) line ≡ Ok next → Holds front → Holds (front ++ line ∷ [])
  one_more front line next so holds =
      let old = fixed fabric allowed front in
      let took = takes old next line so in
      let io = io_found (site_of (word_at line 2)) took.site took.found in
      let text = site_takes (word_at line 2) took.site io.0 in
      let pad : Pad = (word_at line 1, took.site) in
      let whole : line ≡ fixing_line pad = took.form ∙ ap (λ (w : Word). codes "set_io" ∷ word_at line 1 ∷ w ∷ []) text.0 in
      let ports_are : old.ports ≡ names holds.pads = ap (map (λ l. word_at l 1)) holds.lines_are ∙ ports_of holds.pads in
      let sites_are : old.sites ≡ site_words holds.pads = ap (map (λ l. word_at l 2)) holds.lines_are ∙ words_in holds.pads in
      let new_port : is_among (names holds.pads) pad.0 ≡ false = ap (λ (l : List Word). is_among l pad.0) (sym ports_are) ∙ took.new_port in
      let new_site : is_among (site_words holds.pads) (site_text pad.1) ≡ false = ap (λ (l : List Word). is_among l (site_text pad.1)) (sym sites_are) ∙ ap (is_among old.sites) (sym text.0) ∙ took.new_site in
      record {
        pads = holds.pads ++ pad ∷ [];
        pads_are = ap (λ (k : Fixing). k.pads) (sym ((keeps_fixing fabric allowed).more front line next so)) ∙ took.pads ∙ ap (λ (l : List Pad). l ++ pad ∷ []) holds.pads_are;
        lines_are = ap (λ (l : List (List Word)). l ++ line ∷ []) holds.lines_are ∙ ap (λ (w : List Word). map fixing_line holds.pads ++ w ∷ []) whole ∙ sym (map_push fixing_line holds.pads pad);
        ports = all_push (λ (p : Pad). Contains allowed p.0) holds.pads pad holds.ports (among_in allowed (word_at line 1) took.known);
        sites = all_push (λ (p : Pad). IsWritable p.1) holds.pads pad holds.sites text.1;
        kinds = all_push (λ (p : Pad). kind_at fabric p.1 ≡ Some kinds.Io) holds.pads pad holds.kinds io.1;
        ports_apart = subst AreApart (sym (map_push (λ (p : Pad). p.0) holds.pads pad)) (apart_push (names holds.pads) pad.0 new_port holds.ports_apart);
        words_apart = subst AreApart (sym (map_push (λ (p : Pad). site_text p.1) holds.pads pad)) (apart_push (site_words holds.pads) (site_text pad.1) new_site holds.words_apart);
      }

  nothing_holds : Holds []
  nothing_holds = record { pads = []; pads_are = refl; lines_are = refl; ports = tt; sites = tt; kinds = tt; ports_apart = none_apart; words_apart = none_apart }

  whole_spells : (rows : List PlainRow) → IsFine (constraint_format fabric allowed).judge rows → SpellsFixings fabric allowed rows (fixed fabric allowed (words_of rows)).pads
  whole_spells rows fine =
      let holds = each_line (fixed fabric allowed) take_fixing nothing_left Holds one_more nothing_holds rows fine in
      subst (SpellsFixings fabric allowed rows) (sym holds.pads_are) (record {
        lines = holds.lines_are;
        fixings = record {
          ports = holds.ports;
          sites = holds.sites;
          kinds = holds.kinds;
          ports_apart = holds.ports_apart;
          sites_apart = apart_of site_text (map (λ (p : Pad). p.1) holds.pads) (subst AreApart (sym (words_of_sites (λ (p : Pad). p.1) holds.pads)) holds.words_apart);
        };
      })

pub spelled_fixings : (fabric : PlainFabric) (allowed : List Word) (rows : List PlainRow) (pads : List Pad) → SpellsFixings fabric allowed rows pads → SaysFixings fabric allowed rows pads
spelled_fixings fabric allowed rows pads spells = spelled fabric allowed rows pads spells

pub spelled_by_reading : (fabric : PlainFabric) (allowed : List Word) (rows : List PlainRow) → IsWhole (constraint_format fabric allowed) rows → SpellsFixings fabric allowed rows (fixed fabric allowed (words_of rows)).pads
spelled_by_reading fabric allowed rows whole = whole_spells fabric allowed rows whole.fine
