-- The reader of constraints follows the lines.
use Rattle.std.proofs.Common.{◌≡◌, ℕ, ◌+◌, ◌<◌, Bool, true, false, cond, ◌||◌, List, [], ◌∷◌, ◌++◌, map, take, length, get_or, Option, Some, None, Ok, refl, sym, ap, ◌∙◌, append-nil}
use Rattle.std.specs.Prelude.{fold}
use Rattle.std.proofs.lemmas.List.{map_push, take_more}
use Rattle.std.proofs.lemmas.List.Sums.{fold-append}
use Rattle.std.proofs.lemmas.Grind.{flat_map-append}
use Rattle.fab_base.specs.declared.words.Reason.TheVariants as reasons
use Rattle.fab_fabric.specs.declared.wire.Site.{Site}
use Rattle.fab_implementation.specs.fab_model.specs.Grid.{PlainFabric}
use Rattle.fab_implementation.specs.Plain.{Pad}
use Rattle.fab_texts.specs.Rows.{Word}
use Rattle.fab_lines.specs.Items.{word_at, is_among}
use Rattle.fab_texts.specs.Places.{site_of}
use Rattle.fab_texts.specs.Formats.{refused}
use Rattle.fab_texts.proofs.Formats.{Keeps}
use Rattle.fab_state.specs.Constraints.{Fixing, pad_of, pad_at, is_fixing, take_fixing, fixed}
use Rattle.fab_state.specs.Lines.{pads_at}

-- one word more of a list is added
pub fold_step : {X : Type 0} (add : List Word → Word → List Word) (seen : X → Word) (start now new : List Word) (xs : List X) (i : ℕ) (d : X) → i < length xs
    → now ≡ fold add start (map seen (take i xs)) → new ≡ add now (seen (get_or xs i d)) → new ≡ fold add start (map seen (take (i + 1) xs))
fold_step add seen start now new xs i d below so_far added =
    added
    ∙ ap (λ (words : List Word). add words (seen (get_or xs i d))) so_far
    ∙ sym (fold-append add start (map seen (take i xs)) (seen (get_or xs i d) ∷ []))
    ∙ ap (fold add start) (sym (ap (map seen) (take_more xs i d below) ∙ map_push seen (take i xs) (get_or xs i d)))

pub fixing_same : (a b : Fixing) → a.fabric ≡ b.fabric → a.allowed ≡ b.allowed → a.ports ≡ b.ports → a.sites ≡ b.sites → a.pads ≡ b.pads → a ≡ b
fixing_same a b fabric allowed ports sites pads = λ j. record { fabric = fabric j; allowed = allowed j; ports = ports j; sites = sites j; pads = pads j }

abbrev with_line : Fixing → List Word → List Pad → Fixing
with_line old line pads = record old { ports = old.ports ++ word_at line 1 ∷ []; sites = old.sites ++ word_at line 2 ∷ []; pads = old.pads ++ pads }

fixed_push : (fabric : PlainFabric) (allowed : List Word) (lines : List (List Word)) (line : List Word)
    → fixed fabric allowed (lines ++ line ∷ []) ≡ with_line (fixed fabric allowed lines) line (pads_at (word_at line 1) (pad_of fabric (site_of (word_at line 2))))
fixed_push fabric allowed lines line = fixing_same _ _ refl refl (map_push (λ l. word_at l 1) lines line) (map_push (λ l. word_at l 2) lines line)
    (flat_map-append (λ l. pads_at (word_at l 1) (pad_of fabric (site_of (word_at l 2)))) lines (line ∷ [])
    ∙ ap (λ (more : List Pad). (fixed fabric allowed lines).pads ++ more) (append-nil (pads_at (word_at line 1) (pad_of fabric (site_of (word_at line 2))))))

taken_at : (old next : Fixing) (line : List Word) (found : Option Site) (allowed : Bool) → is_among old.allowed (word_at line 1) ≡ allowed → pad_at old (word_at line 1) (word_at line 2) found ≡ Ok next → next ≡ with_line old line (pads_at (word_at line 1) found)
taken_at old next line None allowed is so = absurd cc
taken_at old next line (Some site) allowed is so = by_data allowed (ap (λ (b : Bool). cond b (Ok (with_line old line ((word_at line 1, site) ∷ []))) (refused reasons.Port)) (sym is) ∙ so)
  where
    by_data : (b : Bool) → cond b (Ok (with_line old line ((word_at line 1, site) ∷ []))) (refused reasons.Port) ≡ Ok next → next ≡ with_line old line ((word_at line 1, site) ∷ [])
    by_data true given = let same : with_line old line ((word_at line 1, site) ∷ []) ≡ next = cc in sym same
    by_data false given = absurd cc

taken_by : (old next : Fixing) (line : List Word) (fixing twice : Bool) (found : Option Site)
    → cond fixing (cond twice (refused reasons.NameTwice) (pad_at old (word_at line 1) (word_at line 2) found)) (refused reasons.Row) ≡ Ok next → next ≡ with_line old line (pads_at (word_at line 1) found)
taken_by old next line true true found so = absurd cc
taken_by old next line true false found so = taken_at old next line found (is_among old.allowed (word_at line 1)) refl so
taken_by old next line false twice found so = absurd cc

pub keeps_fixing : (fabric : PlainFabric) (allowed : List Word) → Keeps (fixed fabric allowed) take_fixing
keeps_fixing fabric allowed = record {
  more = λ front line next so.
      let old = fixed fabric allowed front in
      taken_by old next line (is_fixing line) (is_among old.ports (word_at line 1) || is_among old.sites (word_at line 2)) (pad_of fabric (site_of (word_at line 2))) so ∙ sym (fixed_push fabric allowed front line);
}
