-- The flip-flops of cells, cell by cell.
use Rattle.std.proofs.Common.{◌≡◌, ℕ, ◌+◌, ◌<◌, List, [], ◌∷◌, ◌++◌, length, get_or, take, Option, Some, None, option_map, option_to_list, nat_eq, refl, sym, ap, ◌∙◌, arith}
use Rattle.std.proofs.lemmas.List.{take_more, length-take-le}
use Rattle.std.proofs.lemmas.List.Elements.{filter_map-append}
use Rattle.std.specs.List.{filter_map, enumerate_from}
use Rattle.fab_fabric.specs.declared.wire.Site.{Site}
use Rattle.fab_netlist.specs.Packed.{PlainCell}
use Rattle.fab_implementation.specs.Plain.{PlainImplementation}
use Rattle.fab_legal.specs.Sinks.{site_of}
use Rattle.fab_state.specs.Plain.{Register}
use Rattle.fab_settling_laws.specs.fab_use_defs_Registers.{register_of}

-- the flip-flops of cells that are numbered from 0
abbrev registers_of : PlainImplementation → List PlainCell → List Register
registers_of implementation cells = filter_map (λ at. register_of implementation at.0 at.1) (enumerate_from 0 cells)

enumerate_push : {X : Type 0} (n : ℕ) (xs : List X) (x : X) → enumerate_from n (xs ++ x ∷ []) ≡ enumerate_from n xs ++ (n + length xs, x) ∷ []
enumerate_push n [] x = let e : n ≡ n + 0 = omega arith in ap (λ m. (m, x) ∷ []) e
enumerate_push n (y ∷ ys) x =
    let e : n + 1 + length ys ≡ n + length (y ∷ ys) = omega arith in
    ap (λ rest. (n, y) ∷ rest) (enumerate_push (n + 1) ys x ∙ ap (λ m. enumerate_from (n + 1) ys ++ (m, x) ∷ []) e)

filter_one : {X Y : Type 0} (h : X → Option Y) (x : X) → filter_map h (x ∷ []) ≡ option_to_list (h x)
filter_one {X} {Y} h x = one (h x) refl
  where
    one : (found : Option Y) → h x ≡ found → filter_map h (x ∷ []) ≡ option_to_list (h x)
    one None is = rw is refl
    one (Some y) is = rw is refl

-- one more cell
pub registers_more : (implementation : PlainImplementation) (cells : List PlainCell) (i : ℕ) (cell : PlainCell) (old : List Register) (site : Site) (found : Option Register) →
    i < length cells → cell ≡ get_or cells i cell → old ≡ registers_of implementation (take i cells) → site ≡ site_of nat_eq implementation.cells i →
    found ≡ option_map (λ init. (site, nat_eq init 1)) cell.latch → old ++ option_to_list found ≡ registers_of implementation (take (i + 1) cells)
registers_more implementation cells i cell old site found inside is before site_is found_is =
    let h : ℕ × PlainCell → Option Register = λ at. register_of implementation at.0 at.1 in
    let long : length (take i cells) ≡ i = length-take-le i cells (omega (arith, inside)) in
    let place : 0 + length (take i cells) ≡ i = omega (arith, long) in
    let here : found ≡ h (i, cell) = found_is ∙ ap (λ (s : Site). option_map (λ init. (s, nat_eq init 1)) cell.latch) site_is in
    let parted : take (i + 1) cells ≡ take i cells ++ cell ∷ [] = take_more cells i cell inside ∙ ap (λ (k : PlainCell). take i cells ++ k ∷ []) (sym is) in
    let listed : enumerate_from 0 (take i cells ++ cell ∷ []) ≡ enumerate_from 0 (take i cells) ++ (i, cell) ∷ [] =
    enumerate_push 0 (take i cells) cell ∙ ap (λ (m : ℕ). enumerate_from 0 (take i cells) ++ (m, cell) ∷ []) place in
    ap (λ (l : List Register). l ++ option_to_list found) before
    ∙ ap (λ (o : Option Register). registers_of implementation (take i cells) ++ option_to_list o) here
    ∙ ap (λ (l : List Register). registers_of implementation (take i cells) ++ l) (sym (filter_one h (i, cell)))
    ∙ sym (filter_map-append h (enumerate_from 0 (take i cells)) ((i, cell) ∷ []))
    ∙ ap (λ (l : List (ℕ × PlainCell)). filter_map h l) (sym listed)
    ∙ ap (λ (l : List PlainCell). registers_of implementation l) (sym parted)
