-- A text whose lines are those of a state is read as that state.
use Rattle.std.proofs.Common.{◌≡◌, ℕ, zero, suc, ◌<◌, Bool, true, false, ◌||◌, List, [], ◌∷◌, ◌++◌, map, length, get_or, Option, Some, None, Result, Ok, refl, sym, ap, subst, ◌∙◌, arith, append_assoc, append-nil, codes, length-append, inl, inr}
use Rattle.std.specs.List.{AllByRecursion}
use Rattle.std.specs.Str.{bytes_eq}
use Rattle.std.proofs.lemmas.Bool.{cases_Bool}
use Rattle.std.proofs.lemmas.List.{map_push, map-append, get_or_append_left, length-map}
use Rattle.std.proofs.Math.Seq.{get_or-append_seam}
use Rattle.std.proofs.lemmas.Slice.Eq.{bytes_eq-Decides}
use Rattle.fab_base.specs.declared.problem.Problem.{Problem}
use Rattle.fab_fabric.specs.declared.wire.Site.{Site}
use Rattle.fab_implementation.specs.Plain.{Pad}
use Rattle.fab_lines.specs.Order.{IsWhole}
use Rattle.fab_texts.specs.Rows.{Word, PlainRow, words_of}
use Rattle.fab_lines.specs.Items.{is_among}
use Rattle.fab_fabric.specs.Names.{site_text}
use Rattle.fab_texts.specs.Places.{site_of, IsWritable}
use Rattle.fab_texts.proofs.SiteLaws.{site_again}
use Rattle.fab_texts.specs.declared.sections.Part.{Part}
use Rattle.fab_texts.specs.declared.sections.Part.TheVariants as parts
use Rattle.fab_texts.specs.Sections.{ending, cut_short}
use Rattle.fab_texts.proofs.Formats.{taken, taken_none, taken_one, taken_fine}
use Rattle.fab_texts.proofs.InSections.{IsOpen, open_here, open_later, open_end}
use Rattle.fab_state.specs.Plain.{Register, PlainState}
use Rattle.fab_state.specs.Lines.{Known, known, take, digit_of}
use Rattle.fab_state.specs.Spelled.{header, pad_line, ff_line, digit, inner_lines, state_lines, ports, AreApart, IsFresh, Spells, state_of, state_format}
use Rattle.fab_state.proofs.Follows.{keeps, known_same}

-- ---- words that stand once are not among those before them

among_at : (words : List Word) (word : Word) → is_among words word ≡ true → (k : ℕ) × (k < length words) × (get_or words k [] ≡ word)
among_at [] word among = absurd cc
among_at (first ∷ words) word among = elim (cases_Bool (bytes_eq word first)) [
  | inl same ↦ (0, omega arith, sym ((bytes_eq-Decides word first).0 same))
  | inr other ↦
      let later : is_among words word ≡ true = sym (ap (λ (b : Bool). b || is_among words word) other) ∙ among in
      let rest = among_at words word later in
      (suc rest.0, omega (arith, rest.1), rest.2)
]

pub new_word : (before : List Word) (word : Word) (after : List Word) → AreApart (before ++ word ∷ after) → is_among before word ≡ false
new_word before word after apart = elim (cases_Bool (is_among before word)) [
  | inr none ↦ none
  | inl among ↦
      let at = among_at before word among in
      let whole = length-append before (word ∷ after) in
      let here : get_or (before ++ word ∷ after) at.0 [] ≡ word = get_or_append_left before (word ∷ after) [] at.0 at.1 ∙ at.2 in
      let there : get_or (before ++ word ∷ after) (length before) [] ≡ word = get_or-append_seam before word after [] in
      absurd (apart at.0 (length before) [] at.1 (omega (arith, whole)) (here ∙ sym there))
]

-- ---- what is known of so many items

abbrev pub site_words : List Pad → List Word
site_words pads = map (λ pad. site_text pad.1) pads

abbrev ff_words : List Register → List Word
ff_words ffs = map (λ register. site_text register.0) ffs

abbrev of_items : Option Part → List Pad → List Pad → List Register → Known
of_items last ins outs ffs = record {
  last = last;
  ports = map (λ pad. pad.0) ins ++ map (λ pad. pad.0) outs;
  in_sites = site_words ins;
  out_sites = site_words outs;
  ff_sites = ff_words ffs;
  ins = ins;
  outs = outs;
  ffs = ffs;
}

in_taken : (last : Option Part) (ins : List Pad) (pad : Pad) → IsOpen last 1 → IsWritable pad.1 → is_among (map (λ p. p.0) ins ++ []) pad.0 ≡ false → is_among (site_words ins) (site_text pad.1) ≡ false
    → take (of_items last ins [] []) (pad_line (codes "in") pad) ≡ Ok (of_items (Some (parts.Section 1)) (ins ++ pad ∷ []) [] [])
in_taken last ins pad may fits new_port new_site =
    let made : Known = record (of_items last ins [] []) { last = Some (parts.Section 1); ports = (map (λ (p : Pad). p.0) ins ++ []) ++ pad.0 ∷ []; in_sites = site_words ins ++ site_text pad.1 ∷ []; ins = ins ++ pad ∷ [] } in
    let step : take (of_items last ins [] []) (pad_line (codes "in") pad) ≡ Ok made = rw (may.opened, may.follows, new_port, new_site, site_again pad.1 fits) refl in
    let names : (map (λ (p : Pad). p.0) ins ++ []) ++ pad.0 ∷ [] ≡ map (λ (p : Pad). p.0) (ins ++ pad ∷ []) ++ [] =
    ap (λ (l : List Word). l ++ pad.0 ∷ []) (append-nil (map (λ (p : Pad). p.0) ins)) ∙ sym (append-nil (map (λ (p : Pad). p.0) (ins ++ pad ∷ [])) ∙ map_push (λ (p : Pad). p.0) ins pad) in
    step ∙ ap (λ (k : Known). let r : Result Known Problem = Ok k in r) (known_same made (of_items (Some (parts.Section 1)) (ins ++ pad ∷ []) [] []) refl names (sym (map_push (λ (p : Pad). site_text p.1) ins pad)) refl refl refl refl refl)

out_taken : (last : Option Part) (ins outs : List Pad) (pad : Pad) → IsOpen last 2 → IsWritable pad.1 → is_among (map (λ p. p.0) ins ++ map (λ p. p.0) outs) pad.0 ≡ false → is_among (site_words outs) (site_text pad.1) ≡ false
    → take (of_items last ins outs []) (pad_line (codes "out") pad) ≡ Ok (of_items (Some (parts.Section 2)) ins (outs ++ pad ∷ []) [])
out_taken last ins outs pad may fits new_port new_site =
    let made : Known = record (of_items last ins outs []) { last = Some (parts.Section 2); ports = (map (λ (p : Pad). p.0) ins ++ map (λ (p : Pad). p.0) outs) ++ pad.0 ∷ []; out_sites = site_words outs ++ site_text pad.1 ∷ []; outs = outs ++ pad ∷ [] } in
    let step : take (of_items last ins outs []) (pad_line (codes "out") pad) ≡ Ok made = rw (may.opened, may.follows, new_port, new_site, site_again pad.1 fits) refl in
    let names : (map (λ (p : Pad). p.0) ins ++ map (λ (p : Pad). p.0) outs) ++ pad.0 ∷ [] ≡ map (λ (p : Pad). p.0) ins ++ map (λ (p : Pad). p.0) (outs ++ pad ∷ []) =
    append_assoc (map (λ (p : Pad). p.0) ins) (map (λ (p : Pad). p.0) outs) (pad.0 ∷ []) ∙ ap (λ (l : List Word). map (λ (p : Pad). p.0) ins ++ l) (sym (map_push (λ (p : Pad). p.0) outs pad)) in
    step ∙ ap (λ (k : Known). let r : Result Known Problem = Ok k in r) (known_same made (of_items (Some (parts.Section 2)) ins (outs ++ pad ∷ []) []) refl names refl (sym (map_push (λ (p : Pad). site_text p.1) outs pad)) refl refl refl refl)

digit_again : (bit : Bool) → digit_of (digit bit) ≡ Some bit
digit_again true = refl
digit_again false = refl

ff_taken : (last : Option Part) (ins outs : List Pad) (ffs : List Register) (ff : Register) → IsOpen last 3 → IsWritable ff.0 → is_among (ff_words ffs) (site_text ff.0) ≡ false
    → take (of_items last ins outs ffs) (ff_line ff) ≡ Ok (of_items (Some (parts.Section 3)) ins outs (ffs ++ ff ∷ []))
ff_taken last ins outs ffs ff may fits new_site =
    let made : Known = record (of_items last ins outs ffs) { last = Some (parts.Section 3); ff_sites = ff_words ffs ++ site_text ff.0 ∷ []; ffs = ffs ++ ff ∷ [] } in
    let step : take (of_items last ins outs ffs) (ff_line ff) ≡ Ok made = rw (may.opened, may.follows, new_site, digit_again ff.1, site_again ff.0 fits) refl in
    step ∙ ap (λ (k : Known). let r : Result Known Problem = Ok k in r) (known_same made (of_items (Some (parts.Section 3)) ins outs (ffs ++ ff ∷ [])) refl refl refl refl (sym (map_push (λ (r : Register). site_text r.0) ffs ff)) refl refl refl)

-- ---- lines of a kind, one after the other

abbrev pub names : List Pad → List Word
names pads = map (λ pad. pad.0) pads

ins_read : (last : Option Part) (before pads : List Pad) (rest : List (List Word)) → IsOpen last 1 → AllByRecursion (λ pad. IsWritable pad.1) pads → AreApart (names before ++ names pads) → AreApart (site_words before ++ site_words pads)
    → (next : Option Part) × (IsOpen next 1) × (taken take (of_items last before [] []) (map (pad_line (codes "in")) pads ++ rest) ≡ taken take (of_items next (before ++ pads) [] []) rest)
ins_read last before [] rest may fits ports_apart sites_apart = (last, may, ap (λ (ins : List Pad). taken take (of_items last ins [] []) rest) (sym (append-nil before)))
ins_read last before (pad ∷ pads) rest may fits ports_apart sites_apart =
    let new_port : is_among (names before ++ []) pad.0 ≡ false = ap (λ (l : List Word). is_among l pad.0) (append-nil (names before)) ∙ new_word (names before) pad.0 (names pads) ports_apart in
    let step = in_taken last before pad may fits.0 new_port (new_word (site_words before) (site_text pad.1) (site_words pads) sites_apart) in
    let grouped : (before ++ pad ∷ []) ++ pads ≡ before ++ pad ∷ pads = append_assoc before (pad ∷ []) pads in
    let ports_again : AreApart (names (before ++ pad ∷ []) ++ names pads) = subst AreApart (sym (ap (λ (l : List Word). l ++ names pads) (map_push (λ (p : Pad). p.0) before pad) ∙ append_assoc (names before) (pad.0 ∷ []) (names pads))) ports_apart in
    let sites_again : AreApart (site_words (before ++ pad ∷ []) ++ site_words pads) =
    subst AreApart (sym (ap (λ (l : List Word). l ++ site_words pads) (map_push (λ (p : Pad). site_text p.1) before pad) ∙ append_assoc (site_words before) (site_text pad.1 ∷ []) (site_words pads))) sites_apart in
    let more = ins_read (Some (parts.Section 1)) (before ++ pad ∷ []) pads rest (open_here 1) fits.1 ports_again sites_again in (
      more.0,
      more.1,
      taken_one take (of_items last before [] []) (of_items (Some (parts.Section 1)) (before ++ pad ∷ []) [] []) (pad_line (codes "in") pad) (map (pad_line (codes "in")) pads ++ rest) step
          ∙ more.2 ∙ ap (λ (ins : List Pad). taken take (of_items more.0 ins [] []) rest) grouped,
    )

outs_read : (last : Option Part) (ins before pads : List Pad) (rest : List (List Word)) → IsOpen last 2 → AllByRecursion (λ pad. IsWritable pad.1) pads → AreApart ((names ins ++ names before) ++ names pads) → AreApart (site_words before ++ site_words pads)
    → (next : Option Part) × (IsOpen next 2) × (taken take (of_items last ins before []) (map (pad_line (codes "out")) pads ++ rest) ≡ taken take (of_items next ins (before ++ pads) []) rest)
outs_read last ins before [] rest may fits ports_apart sites_apart = (last, may, ap (λ (outs : List Pad). taken take (of_items last ins outs []) rest) (sym (append-nil before)))
outs_read last ins before (pad ∷ pads) rest may fits ports_apart sites_apart =
    let step = out_taken last ins before pad may fits.0 (new_word (names ins ++ names before) pad.0 (names pads) ports_apart) (new_word (site_words before) (site_text pad.1) (site_words pads) sites_apart) in
    let grouped : (before ++ pad ∷ []) ++ pads ≡ before ++ pad ∷ pads = append_assoc before (pad ∷ []) pads in
    let shape : (names ins ++ names (before ++ pad ∷ [])) ++ names pads ≡ (names ins ++ names before) ++ pad.0 ∷ names pads =
    ap (λ (l : List Word). (names ins ++ l) ++ names pads) (map_push (λ (p : Pad). p.0) before pad) ∙ ap (λ (l : List Word). l ++ names pads) (sym (append_assoc (names ins) (names before) (pad.0 ∷ []))) ∙ append_assoc (names ins ++ names before) (pad.0 ∷ []) (names pads) in
    let sites_again : AreApart (site_words (before ++ pad ∷ []) ++ site_words pads) =
    subst AreApart (sym (ap (λ (l : List Word). l ++ site_words pads) (map_push (λ (p : Pad). site_text p.1) before pad) ∙ append_assoc (site_words before) (site_text pad.1 ∷ []) (site_words pads))) sites_apart in
    let more = outs_read (Some (parts.Section 2)) ins (before ++ pad ∷ []) pads rest (open_here 2) fits.1 (subst AreApart (sym shape) ports_apart) sites_again in (
      more.0,
      more.1,
      taken_one take (of_items last ins before []) (of_items (Some (parts.Section 2)) ins (before ++ pad ∷ []) []) (pad_line (codes "out") pad) (map (pad_line (codes "out")) pads ++ rest) step
          ∙ more.2 ∙ ap (λ (outs : List Pad). taken take (of_items more.0 ins outs []) rest) grouped,
    )

ffs_read : (last : Option Part) (ins outs : List Pad) (before ffs : List Register) (rest : List (List Word)) → IsOpen last 3 → AllByRecursion (λ register. IsWritable register.0) ffs → AreApart (ff_words before ++ ff_words ffs)
    → (next : Option Part) × (IsOpen next 3) × (taken take (of_items last ins outs before) (map ff_line ffs ++ rest) ≡ taken take (of_items next ins outs (before ++ ffs)) rest)
ffs_read last ins outs before [] rest may fits apart = (last, may, ap (λ (all : List Register). taken take (of_items last ins outs all) rest) (sym (append-nil before)))
ffs_read last ins outs before (ff ∷ ffs) rest may fits apart =
    let step = ff_taken last ins outs before ff may fits.0 (new_word (ff_words before) (site_text ff.0) (ff_words ffs) apart) in
    let grouped : (before ++ ff ∷ []) ++ ffs ≡ before ++ ff ∷ ffs = append_assoc before (ff ∷ []) ffs in
    let again : AreApart (ff_words (before ++ ff ∷ []) ++ ff_words ffs) =
    subst AreApart (sym (ap (λ (l : List Word). l ++ ff_words ffs) (map_push (λ (r : Register). site_text r.0) before ff) ∙ append_assoc (ff_words before) (site_text ff.0 ∷ []) (ff_words ffs))) apart in
    let more = ffs_read (Some (parts.Section 3)) ins outs (before ++ ff ∷ []) ffs rest (open_here 3) fits.1 again in (
      more.0,
      more.1,
      taken_one take (of_items last ins outs before) (of_items (Some (parts.Section 3)) ins outs (before ++ ff ∷ [])) (ff_line ff) (map ff_line ffs ++ rest) step
          ∙ more.2 ∙ ap (λ (all : List Register). taken take (of_items more.0 ins outs all) rest) grouped,
    )

end_taken : (last : Option Part) (ins outs : List Pad) (ffs : List Register) → IsOpen last 3 → take (of_items last ins outs ffs) ending ≡ Ok (of_items (Some parts.End) ins outs ffs)
end_taken last ins outs ffs may = rw (may.opened, open_end last 3 may) refl

header_taken : take (known []) header ≡ Ok (of_items (Some parts.Header) [] [] [])
header_taken = refl

-- ---- all lines

-- an item of a mapped list, which is found again by its word
mapped_item : {X : Type 0} (f : X → Word) (back : Word → Option X) (xs : List X) (k : ℕ) (d : Word) → k < length xs → AllByRecursion (λ x. back (f x) ≡ Some x) xs
    → (x : X) × (get_or (map f xs) k d ≡ f x) × ((e : X) → get_or xs k e ≡ x) × (back (f x) ≡ Some x)
mapped_item f back [] k d below fits = absurd (omega (arith, below))
mapped_item f back (x ∷ xs) zero d below fits = (x, refl, (λ e. refl), fits.0)
mapped_item f back (x ∷ xs) (suc k) d below fits = mapped_item f back xs k d (omega (arith, below)) fits.1

-- what is read back from its word is apart where it is written
mapped_apart : {X : Type 0} (f : X → Word) (back : Word → Option X) (xs : List X) → AllByRecursion (λ x. back (f x) ≡ Some x) xs → AreApart xs → AreApart (map f xs)
mapped_apart {X} f back xs fits apart = λ i j d before below same.
    let size = length-map xs f in
    let first = mapped_item f back xs i d (omega (arith, before, below, size)) fits in
    let second = mapped_item f back xs j d (omega (arith, below, size)) fits in
    let found : Some first.0 ≡ Some second.0 = sym first.3 ∙ ap back (sym first.1 ∙ same ∙ second.1) ∙ second.3 in
    let items : first.0 ≡ second.0 = cc in
    apart i j first.0 before (omega (arith, below, size)) (first.2 first.0 ∙ items ∙ sym (second.2 first.0))

sites_again : {X : Type 0} (site : X → Site) (xs : List X) → AllByRecursion (λ x. IsWritable (site x)) xs → AllByRecursion (λ s. site_of (site_text s) ≡ Some s) (map site xs)
sites_again site [] fits = tt
sites_again site (x ∷ xs) fits = (site_again (site x) fits.0, sites_again site xs fits.1)

pub words_of_sites : {X : Type 0} (site : X → Site) (xs : List X) → map site_text (map site xs) ≡ map (λ x. site_text (site x)) xs
words_of_sites site [] = refl
words_of_sites site (x ∷ xs) = ap (λ words. site_text (site x) ∷ words) (words_of_sites site xs)

-- the words of sites that differ differ
pub site_words_apart : {X : Type 0} (site : X → Site) (xs : List X) → AllByRecursion (λ x. IsWritable (site x)) xs → AreApart (map site xs) → AreApart (map (λ x. site_text (site x)) xs)
site_words_apart site xs fits apart = subst AreApart (words_of_sites site xs) (mapped_apart site_text site_of (map site xs) (sites_again site xs fits) apart)

-- the first words are apart
first_apart : (front rest : List Word) → AreApart (front ++ rest) → AreApart front
first_apart front rest apart = λ i j d before below same.
    let whole = length-append front rest in
    apart i j d before (omega (arith, below, whole)) (get_or_append_left front rest d i (omega (arith, before, below)) ∙ same ∙ sym (get_or_append_left front rest d j below))

state_taken : (state : PlainState) → IsFresh state → taken take (known []) (state_lines state) ≡ Ok (of_items (Some parts.End) state.ins state.outs state.ffs)
state_taken state fresh =
    let a = map (pad_line (codes "in")) state.ins in
    let b = map (pad_line (codes "out")) state.outs in
    let c = map ff_line state.ffs in
    let last = ending ∷ [] in
    let shape : inner_lines state ++ last ≡ a ++ (b ++ (c ++ last)) = append_assoc (a ++ b) c last ∙ append_assoc a b (c ++ last) in
    let ports_are : ports state ≡ names state.ins ++ names state.outs = map-append (λ (pad : Pad). pad.0) state.ins state.outs in
    let ports_apart : AreApart (names state.ins ++ names state.outs) = subst AreApart ports_are fresh.ports in
    let begun : IsOpen (Some parts.Header) 1 = record { opened = refl; follows = refl } in
    let ins = ins_read (Some parts.Header) [] state.ins (b ++ (c ++ last)) begun fresh.in_sites (first_apart (names state.ins) (names state.outs) ports_apart) (site_words_apart (λ (pad : Pad). pad.1) state.ins fresh.in_sites fresh.ins) in
    let out_ports : AreApart ((names state.ins ++ []) ++ names state.outs) = subst (λ (l : List Word). AreApart (l ++ names state.outs)) (sym (append-nil (names state.ins))) ports_apart in
    let outs = outs_read ins.0 state.ins [] state.outs (c ++ last) (open_later ins.0 1 2 (omega arith) ins.1) fresh.out_sites out_ports (site_words_apart (λ (pad : Pad). pad.1) state.outs fresh.out_sites fresh.outs) in
    let ffs = ffs_read outs.0 state.ins state.outs [] state.ffs last (open_later outs.0 2 3 (omega arith) outs.1) fresh.ff_sites (site_words_apart (λ (register : Register). register.0) state.ffs fresh.ff_sites fresh.ffs) in
    let end = of_items (Some parts.End) state.ins state.outs state.ffs in
    taken_one take (known []) (of_items (Some parts.Header) [] [] []) header (inner_lines state ++ last) header_taken
    ∙ ap (taken take (of_items (Some parts.Header) [] [] [])) shape
    ∙ ins.2 ∙ outs.2 ∙ ffs.2
    ∙ taken_one take (of_items ffs.0 state.ins state.outs state.ffs) end ending [] (end_taken ffs.0 state.ins state.outs state.ffs ffs.1)
    ∙ taken_none take end

-- a text that spells a state is whole, and says the state
pub spelled_is_read : (rows : List PlainRow) (state : PlainState) → Spells rows state → IsWhole state_format rows × (state ≡ state_of (known (words_of rows)))
spelled_is_read rows state spells =
    let end = of_items (Some parts.End) state.ins state.outs state.ffs in
    let read = taken_fine known take (λ (k : Known). cut_short k.last) keeps rows end (ap (taken take (known [])) spells.lines ∙ state_taken state spells.fresh) in
    (record { fine = read.0; ends = ap (λ (k : Known). cut_short k.last) (sym read.1) }, ap state_of read.1)
