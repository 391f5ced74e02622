-- Lists that loops make, one item more.
use Rattle.std.proofs.Common.{◌≡◌, ◌↔◌, ℕ, ◌+◌, ◌<◌, ◌≤◌, List, [], ◌∷◌, ◌++◌, map, take, length, get_or, Contains, sym, ap, ◌∙◌, subst, inl, inr, arith}
use Rattle.std.proofs.lemmas.Bool.{cases_eq}
use Rattle.std.proofs.lemmas.List.{map-append, get_or-set_same, get_or-set_other, take_all}
use Rattle.std.proofs.Math.ListN.{set}
use Rattle.fab_fabric.specs.declared.wire.Site.{Site}
use Rattle.fab_kinds.specs.declared.kind.Kind.TheVariants as kinds
use Rattle.fab_model.specs.Grid.{PlainFabric}
use Rattle.fab_netlist.specs.Plain.{IsAt}
use Rattle.fab_netlist.specs.Packed.{PlainPacked}
use Rattle.fab_implementation.specs.Plain.{PlainImplementation}
use Rattle.fab_legal.specs.Legal.{ArePlaced}
use Rattle.fab_legal.proofs.Once.{known_thing}
use Rattle.fab_netlist.proofs.Members.{mapped_in}
use Rattle.fab_legal.specs.inner.Keeping.{AreSites}
use Rattle.fab_legal.specs.Lines.{named}
use Rattle.fab_legal.proofs.Lists.{cases_below}
use Rattle.fab_legal.proofs.Members.{in_pushed, still_in, last_in, taken_more, in_taken, from_mapped}

pub mapped_more : {X Y : Type 0} (f : X → Y) (xs : List X) (i : ℕ) (x : X) (old new : List Y) (y : Y) → IsAt xs i x → old ≡ map f (take i xs) → new ≡ old ++ y ∷ [] → y ≡ f x → new ≡ map f (take (i + 1) xs)
mapped_more {X} {Y} f xs i x old new y at so_far is own =
    is ∙ ap (λ l. l ++ y ∷ []) so_far ∙ ap (λ z. map f (take i xs) ++ z ∷ []) own ∙ sym (ap (map f) (taken_more xs i x at) ∙ map-append f (take i xs) (x ∷ []))

-- the numbers below a bound with a property
abbrev pub HaveFirst : (P : ℕ → Type 0) → (n : ℕ) → List ℕ → Type 0
HaveFirst P n found = (k : ℕ) → Contains found k ↔ ((k < n) × P k)

pub found_more : (P : ℕ → Type 0) (n : ℕ) (old new : List ℕ) → HaveFirst P n old → new ≡ old ++ n ∷ [] → P n → HaveFirst P (n + 1) new
found_more P n old new so_far is here k = (
  (λ inside. elim (in_pushed old n k (subst (λ (l : List ℕ). Contains l k) is inside)) [
    | inl before ↦ (let was = (so_far k).0 before in (omega (arith, was.0), was.1))
    | inr same ↦ (omega (arith, same), subst P same here)
  ]),
  λ is_one. subst (λ (l : List ℕ). Contains l k) (sym is) (elim (cases_below k n is_one.0) [
    | inl less ↦ still_in old n k ((so_far k).1 (less, is_one.1))
    | inr same ↦ subst (λ (j : ℕ). Contains (old ++ n ∷ []) j) (sym same) (last_in old n)
  ]),
)

pub found_less : (P : ℕ → Type 0) (n : ℕ) (old new : List ℕ) → HaveFirst P n old → new ≡ old → (P n → ⊥) → HaveFirst P (n + 1) new
found_less P n old new so_far is none k = (
  (λ inside. let was = (so_far k).0 (subst (λ (l : List ℕ). Contains l k) is inside) in (omega (arith, was.0), was.1)),
  λ is_one. subst (λ (l : List ℕ). Contains l k) (sym is) (elim (cases_below k n is_one.0) [
    | inl less ↦ (so_far k).1 (less, is_one.1)
    | inr same ↦ absurd (none (subst P same is_one.1))
  ]),
)

-- ---- sites by number

-- each thing that one of the first lines names has the site of a line
abbrev pub HaveLines : (lines : List (ℕ × Site)) (count i : ℕ) (sites : List Site) → Type 0
HaveLines lines count i sites = (number : ℕ) (d : Site) → number < count → Contains (named (take i lines)) number → Contains lines (number, get_or sites number d)

pub line_more : (lines : List (ℕ × Site)) (count i : ℕ) (line : ℕ × Site) (old new : List Site) → IsAt lines i line → line.0 < count → length old ≡ count → new ≡ set old line.0 line.1 → HaveLines lines count i old → HaveLines lines count (i + 1) new
line_more lines count i line old new at low long is so_far number d few here = elim (cases_eq number line.0) [
  | inl same ↦ (
      let read : get_or new number d ≡ line.1 =
      ap (λ l. get_or l number d) is ∙ ap (λ k. get_or (set old line.0 line.1) k d) same ∙ get_or-set_same old line.0 line.1 d (omega (arith, low, long)) in
      let whole : line ≡ (number, get_or new number d) = ap (λ n. (n, line.1)) (sym same) ∙ ap (λ (s : Site). (number, s)) (sym read) in
      subst (λ (l : ℕ × Site). Contains lines l) whole (i, at.0, at.1))
  | inr other ↦ (
      let read : get_or new number d ≡ get_or old number d = ap (λ l. get_or l number d) is ∙ get_or-set_other old line.0 number line.1 d other in
      let found = from_mapped (λ (l : ℕ × Site). l.0) (take (i + 1) lines) number here in
      let before : Contains (named (take i lines)) number = elim (in_taken lines i line found.0 at found.1) [
        | inl earlier ↦ subst (λ (n : ℕ). Contains (named (take i lines)) n) found.2 (mapped_in (λ (l : ℕ × Site). l.0) (take i lines) found.0 earlier)
        | inr same ↦ absurd (other (sym (ap (λ (l : ℕ × Site). l.0) same ∙ found.2)))
      ] in
      subst (λ (s : Site). Contains lines (number, s)) (sym read) (so_far number d few before))
]

pub line_known : (fabric : PlainFabric) (packed : PlainPacked) (placement : PlainImplementation) → ArePlaced fabric packed placement → (lines : List (ℕ × Site)) (i : ℕ) (line : ℕ × Site) → lines ≡ placement.cells → IsAt lines i line →
    line.0 < length packed.cells
line_known fabric packed placement placed lines i line same at =
    known_thing (λ n. n < length packed.cells) fabric kinds.Lut4c placement.cells line placed.cells.lines_right (subst (λ (ls : List (ℕ × Site)). Contains ls line) same (i, at.0, at.1))

pub all_lines : (fabric : PlainFabric) (packed : PlainPacked) (placement : PlainImplementation) → ArePlaced fabric packed placement → (lines : List (ℕ × Site)) (i : ℕ) (sites : List Site) → lines ≡ placement.cells → length lines ≤ i →
    length sites ≡ length packed.cells → HaveLines lines (length packed.cells) i sites → AreSites placement.cells (length packed.cells) sites
all_lines fabric packed placement placed lines i sites same past long have = record {
  as_many = long;
  each = λ number d low.
      let named_here = subst (λ (ls : List (ℕ × Site)). Contains (named ls) number) (sym (take_all i lines past ∙ same)) (placed.cells.all_named number low) in
      subst (λ (ls : List (ℕ × Site)). Contains ls (number, get_or sites number d)) same (have number d low named_here);
}
