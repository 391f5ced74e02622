-- Sites that differ have points that differ.
use Rattle.std.proofs.Common.{◌≡◌, ℕ, List, [], ◌∷◌, ◌++◌, codes, decimal, get_or, sym, ap, ◌∙◌, append_assoc, arith}
use Rattle.fab_fabric.specs.Names.{place_name}
use Rattle.fab_fabric.specs.declared.wire.Site.{Site}
use Rattle.std.proofs.lemmas.Fmt.{decimal_injective}
use Rattle.fab_meaning.specs.Points.{Point}
use Rattle.fab_prim.specs.Ports.{top_name}
use Rattle.fab_prim.specs.Modules.{flip_flop_name}
use Rattle.fab_gen_tile.specs.Names.{letter}
use Rattle.fab_texts.specs.Places.{IsWritable}
use Rattle.fab_ordering_laws.proofs.fab_drives_laws_Places.{digits_of, same_digits, same_place}
use Rattle.fab_ordering_laws.specs.fab_use_defs_Sites.{bel_point, top_point}

place_parts : (x y : ℕ) (rest : List ℕ) → place_name x y ++ rest ≡ 88 ∷ (decimal x ++ 89 ∷ (decimal y ++ rest))
place_parts x y rest = search (append_assoc)

-- a place in front of other letters is read in one way
same_front : (a b : Site) (rest other : List ℕ) → IsWritable a → IsWritable b → place_name a.x a.y ++ (95 ∷ rest) ≡ place_name b.x b.y ++ (95 ∷ other) →
    (a.x ≡ b.x) × (a.y ≡ b.y) × (rest ≡ other)
same_front a b rest other fits others same =
    let ax = fits.x in
    let ay = fits.y in
    let bx = others.x in
    let y_of_b = others.y in
    let whole : 88 ∷ (decimal a.x ++ 89 ∷ (decimal a.y ++ 95 ∷ rest)) ≡ 88 ∷ (decimal b.x ++ 89 ∷ (decimal b.y ++ 95 ∷ other)) =
    sym (place_parts a.x a.y (95 ∷ rest)) ∙ same ∙ place_parts b.x b.y (95 ∷ other) in
    let behind : decimal a.x ++ 89 ∷ (decimal a.y ++ 95 ∷ rest) ≡ decimal b.x ++ 89 ∷ (decimal b.y ++ 95 ∷ other) = cc in
    let columns = same_digits 89 (decimal a.x) (decimal b.x) (decimal a.y ++ 95 ∷ rest) (decimal b.y ++ 95 ∷ other) (λ few. omega (arith, few))
    (digits_of a.x (omega (arith, ax))) (digits_of b.x (omega (arith, bx))) behind in
    let rows = same_digits 95 (decimal a.y) (decimal b.y) rest other (λ few. omega (arith, few)) (digits_of a.y (omega (arith, ay)))
    (digits_of b.y (omega (arith, y_of_b))) columns.1 in (
      decimal_injective a.x b.x (omega (arith, ax)) (omega (arith, bx)) columns.0,
      decimal_injective a.y b.y (omega (arith, ay)) (omega (arith, y_of_b)) rows.0,
      rows.1,
    )

same_site : (a b : Site) → a.x ≡ b.x → a.y ≡ b.y → a.bel ≡ b.bel → a ≡ b
same_site a b x y bel = λ j. record { x = x j; y = y j; bel = bel j }

pub one_pad : (a b : Site) → IsWritable a → IsWritable b → top_point a top_name ≡ top_point b top_name → a ≡ b
one_pad a b fits others same =
    let parts = same_front a b (letter a.bel ∷ (codes "_" ++ top_name)) (letter b.bel ∷ (codes "_" ++ top_name)) fits others (ap (λ (p : Point). p.name) same)
    in
    let letters = ap (λ name. get_or name 0 0) parts.2 in
    same_site a b parts.0 parts.1 (omega (arith, letters))

pub one_register : (a b : Site) → IsWritable a → IsWritable b → bel_point a flip_flop_name ≡ bel_point b flip_flop_name → a ≡ b
one_register a b fits others same =
    let bels = ap (λ (p : Point). get_or (get_or p.path 0 []) 8 0) same in
    let tiles = ap (λ (p : Point). get_or p.path 1 []) same in
    let ay = fits.y in
    let y_of_b = others.y in
    let places = same_place a.x a.y b.x b.y fits.x (omega (arith, ay)) others.x (omega (arith, y_of_b)) tiles in
    same_site a b places.0 places.1 (omega (arith, bels))
