-- Boxes around sites, and where the lines of an implementation name each thing once.
use Rattle.std.proofs.Common.{◌≡◌, ◌≢◌, ℕ, ◌+◌, ◌-◌, ◌<◌, ◌≤◌, Bool, true, false, List, [], ◌∷◌, ◌++◌, map, filter, fold, max, min, length, get_or, take, Decides, refl, sym, ◌∙◌, ap, subst, arith}
use Rattle.std.specs.List.{AllPairs, Contains, enumerate_from, sum_by}
use Rattle.std.proofs.lemmas.List.{get_or-map, get_or-take, get_or_default, length-map, length-take-le, map-append, take-map, append-nil, take_more}
use Rattle.std.proofs.lemmas.List.Elements.{filter-append, Contains-get_or}
use Rattle.std.proofs.lemmas.List.Sums.{fold-append, sum_by_push}
use Rattle.fab_kinds.specs.declared.kind.Kind.{Kind}
use Rattle.fab_model.specs.Grid.{PlainFabric}
use Rattle.fab_fabric.specs.declared.wire.Site.{Site}
use Rattle.fab_netlist.specs.Packed.{PlainPacked}
use Rattle.fab_implementation.specs.Plain.{PlainImplementation}
use Rattle.fab_ways_laws.specs.fab_legal_Turns.{AreRight}
use Rattle.fab_ways_laws.specs.fab_legal_Legal.{ArePlaced}
use Rattle.fab_ways_laws.specs.fab_legal_Lines.{named, IsRightLine}
use Rattle.fab_ways_laws.specs.fab_legal_Sinks.{site_of}
use Rattle.fab_ways_laws.proofs.fab_legal_Lists.{at_default}
use Rattle.fab_ways_laws.specs.Placing.{no_site, half_perimeter}
use Rattle.fab_place.specs.declared.bounding.BoundingBox.{BoundingBox}
use Rattle.fab_place.specs.inner.Boxes.{around, included, half, NamesOnce}
use Rattle.fab_place.proofs.Finding.{site_found}
use Rattle.fab_place.proofs.Once.{once_pairs}
use Rattle.fab_place.proofs.Listed.{kept_from, kept_yes, kept_no, numbered_more}

-- ---- boxes

left_is : (sites : List Site) (area : BoundingBox) → (fold included area sites).left ≡ fold min area.left (map (λ (site : Site). site.x) sites)
left_is [] area = refl
left_is (site ∷ sites) area = left_is sites (included area site)

right_is : (sites : List Site) (area : BoundingBox) → (fold included area sites).right ≡ fold max area.right (map (λ (site : Site). site.x) sites)
right_is [] area = refl
right_is (site ∷ sites) area = right_is sites (included area site)

top_is : (sites : List Site) (area : BoundingBox) → (fold included area sites).top ≡ fold min area.top (map (λ (site : Site). site.y) sites)
top_is [] area = refl
top_is (site ∷ sites) area = top_is sites (included area site)

bottom_is : (sites : List Site) (area : BoundingBox) → (fold included area sites).bottom ≡ fold max area.bottom (map (λ (site : Site). site.y) sites)
bottom_is [] area = refl
bottom_is (site ∷ sites) area = bottom_is sites (included area site)

pub half_is : (source : Site) (sites : List Site) → half (fold included (around source) sites) ≡ half_perimeter (source ∷ sites)
half_is source sites =
    let area = around source in
    ap (λ n. (n - (fold included area sites).left) + ((fold included area sites).bottom - (fold included area sites).top)) (right_is sites area)
    ∙ ap (λ n. (fold max source.x (map (λ (site : Site). site.x) sites) - n) + ((fold included area sites).bottom - (fold included area sites).top)) (left_is sites area)
    ∙ ap (λ n. (fold max source.x (map (λ (site : Site). site.x) sites) - fold min source.x (map (λ (site : Site). site.x) sites)) + (n - (fold included area sites).top)) (bottom_is sites area)
    ∙ ap (λ n. (fold max source.x (map (λ (site : Site). site.x) sites) - fold min source.x (map (λ (site : Site). site.x) sites)) + (fold max source.y (map (λ (site : Site). site.y) sites) - n)) (top_is sites area)

pub half_both : (source : Site) (first second : List Site) (middle end : BoundingBox) → middle ≡ fold included (around source) first → end ≡ fold included middle second → half end ≡ half_perimeter (source ∷ (first ++ second))
half_both source first second middle end one two =
    ap half (two ∙ ap (λ (area : BoundingBox). fold included area second) one ∙ sym (fold-append included (around source) first second)) ∙ half_is source (first ++ second)

-- ---- one item more

module _ {X : Type 0} (old before after : BoundingBox) (test : X → Bool) (made : ℕ → Site) (n : ℕ) (xs : List X) (d : X) (low : n < length xs) (is : before ≡ fold included old (kept_from test made 0 (take n xs))) where
  pub box_stays : test (get_or xs n d) ≡ false → before ≡ fold included old (kept_from test made 0 (take (n + 1) xs))
  box_stays fails = is ∙ ap (λ (sites : List Site). fold included old sites) (sym (kept_no test made n xs d low fails))

  pub box_grows : test (get_or xs n d) ≡ true → after ≡ included before (made n) → after ≡ fold included old (kept_from test made 0 (take (n + 1) xs))
  box_grows passes more =
      more ∙ ap (λ (area : BoundingBox). included area (made n)) is ∙ sym (fold-append included old (kept_from test made 0 (take n xs)) (made n ∷ []))
      ∙ ap (λ (sites : List Site). fold included old sites) (sym (kept_yes test made n xs d low passes))

filtered_more : {X : Type 0} (test : X → Bool) (n : ℕ) (xs : List X) (d : X) → n < length xs → filter test (take (n + 1) xs) ≡ filter test (take n xs) ++ filter test (get_or xs n d ∷ [])
filtered_more test n xs d low = ap (filter test) (take_more xs n d low) ∙ filter-append test (take n xs) (get_or xs n d ∷ [])

module _ {X : Type 0} (old before after : BoundingBox) (test : X → Bool) (made : X → Site) (n : ℕ) (xs : List X) (d : X) (low : n < length xs) (is : before ≡ fold included old (map made (filter test (take n xs)))) where
  pub list_stays : test (get_or xs n d) ≡ false → before ≡ fold included old (map made (filter test (take (n + 1) xs)))
  list_stays fails =
      let last : filter test (get_or xs n d ∷ []) ≡ [] = rw fails in
      let same : filter test (take n xs) ≡ filter test (take (n + 1) xs) =
      sym (filtered_more test n xs d low ∙ ap (λ (ys : List X). filter test (take n xs) ++ ys) last ∙ append-nil (filter test (take n xs))) in
      is ∙ ap (λ (ys : List X). fold included old (map made ys)) same

  pub list_grows : test (get_or xs n d) ≡ true → after ≡ included before (made (get_or xs n d)) → after ≡ fold included old (map made (filter test (take (n + 1) xs)))
  list_grows passes more =
      let last : filter test (get_or xs n d ∷ []) ≡ get_or xs n d ∷ [] = rw passes in
      let kept : filter test (take n xs) ++ get_or xs n d ∷ [] ≡ filter test (take (n + 1) xs) =
      sym (filtered_more test n xs d low ∙ ap (λ (ys : List X). filter test (take n xs) ++ ys) last) in
      more ∙ ap (λ (area : BoundingBox). included area (made (get_or xs n d))) is ∙ sym (fold-append included old (map made (filter test (take n xs))) (made (get_or xs n d) ∷ []))
      ∙ ap (λ (sites : List Site). fold included old sites) (sym (map-append made (filter test (take n xs)) (get_or xs n d ∷ [])))
      ∙ ap (λ (ys : List X). fold included old (map made ys)) kept

pub sum_more : {X : Type 0} (f : ℕ × X → ℕ) (before after : ℕ) (n : ℕ) (xs : List X) (d : X) → n < length xs → before ≡ sum_by f (enumerate_from 0 (take n xs)) → after ≡ before + f (n, get_or xs n d) → after ≡ sum_by f (enumerate_from 0 (take (n + 1) xs))
sum_more {X} f before after n xs d low is more =
    more ∙ ap (λ m. m + f (n, get_or xs n d)) is ∙ sym (sum_by_push f (enumerate_from 0 (take n xs)) (n, get_or xs n d)) ∙ ap (sum_by f) (sym (numbered_more xs n d low))

-- ---- names

module _ {X : Type 0} (fabric : PlainFabric) (kind : Kind) (IsKnown : X → Type 0) (lines : List (X × Site)) where
  pub names_apart : AreRight (IsRightLine fabric kind IsKnown) lines → AllPairs (λ first second. first ≢ second) (named lines)
  names_apart right i j d less low same =
      let name = λ (line : X × Site). line.0 in
      let none : X × Site = (d, no_site) in
      let inside : j < length lines = omega (arith, low, length-map lines name) in
      let here : get_or (named lines) j d ≡ (get_or lines j none).0 = get_or-map name lines j none d inside in
      let thing = (get_or lines j none).0 in
      let short : j ≤ length (named lines) = omega (arith, low) in
      let before : Contains (take j (named lines)) thing =
      (i, omega (arith, less, length-take-le j (named lines) short), get_or-take j (named lines) i thing less ∙ get_or_default (named lines) i thing d (omega (arith, less, low)) ∙ same ∙ here) in
      (right j (get_or lines j none) inside (at_default lines j none inside)).first (subst (λ (things : List X). Contains things thing) (take-map name j lines) before)

pub names_once : (fabric : PlainFabric) (packed : PlainPacked) (placed : PlainImplementation) → ArePlaced fabric packed placed → NamesOnce placed
names_once fabric packed placed are = record {
  cells = names_apart fabric _ _ placed.cells are.cells.lines_right;
  ins = names_apart fabric _ _ placed.ins are.ports.ins.lines_right;
  outs = names_apart fabric _ _ placed.outs are.ports.outs.lines_right;
}

-- ---- lines at their places

-- a line at its place is that of its thing
pub line_here : {X : Type 0} (same : X → X → Bool) (tells : (a b : X) → Decides (same a b) (a ≡ b)) (lines : List (X × Site)) (k : ℕ) (d : X × Site) (thing : X) → AllPairs (λ first second. first ≢ second) (named lines) → k < length lines
    → (get_or lines k d).0 ≡ thing → (get_or lines k d).1 ≡ site_of same lines thing
line_here {X} same tells lines k d thing apart low name =
    sym (site_found same tells lines thing (get_or lines k d).1 (once_pairs (named lines) apart)
    (subst (λ (n : X). Contains lines (n, (get_or lines k d).1)) name (Contains-get_or lines k d low)))
