-- Joins in the order of the ports of the module below: the instance fits, and drives what its outputs are joined to.
use Rattle.std.proofs.Common.{◌≡◌, ◌≢◌, ℕ, zero, suc, ◌+◌, ◌<◌, Bool, true, false, List, [], ◌∷◌, ◌++◌, map, get_or, length, refl, sym, ap, ◌∙◌, subst, arith, Option, Some, All, Contains, IsSomeAnd, append_assoc, if◌then◌else◌}
use Rattle.std.specs.List.{AllZip}
use Rattle.std.specs.Str.{bytes_eq}
use Rattle.std.proofs.lemmas.List.Elements.{All-nil, All-cons, All-head, All-tail, All-weaker, All-contains, All-contains_itself}
use Rattle.std.proofs.lemmas.Slice.Eq.{bytes_eq-Decides}
use Rattle.fab_syntax.specs.declared.tree.Port.{Port}
use Rattle.fab_syntax.specs.Plain.{PlainJoin, PlainModule, variable}
use Rattle.fab_syntax.specs.Declarations.{width, is_input, is_input_of, one_if_same, times_joined}
use Rattle.fab_syntax.specs.Sound.{width_of_name, FitsPort, JoinFits, IsJoinedOnce, port_named}
use Rattle.fab_meaning.proofs.Declared.{bytes_apart}
use Rattle.fab_parts_sound_laws.specs.fab_gen_tile_Names.{port_join}
use Rattle.fab_parts_sound_laws.proofs.Counts.{driven_name, joined_names, times, times_once}
use Rattle.fab_parts_sound_laws.proofs.Names.{Differ, AreApart}
use Rattle.fab_parts_sound_laws.proofs.Declared.{port_names, port_direction}
use Rattle.fab_parts_sound_laws.proofs.Lists.{pairs_head, pairs_tail, contains_first, contains_later, contains_map}

abbrev pub port_name : Port → List ℕ
port_name port = port.name

-- ---- lists side by side

pub zip_append : {X Y : Type 0} (R : X → Y → Type 0) (xs more : List X) (ys others : List Y) → AllZip R xs ys → AllZip R more others → AllZip R (xs ++ more) (ys ++ others)
zip_append R [] more [] others zip later = later
zip_append R [] more (y ∷ ys) others zip later = absurd zip
zip_append R (x ∷ xs) more [] others zip later = absurd zip
zip_append R (x ∷ xs) more (y ∷ ys) others zip later = (zip.0, zip_append R xs more ys others zip.1 later)

pub zip_map : {X Y Z : Type 0} (R : X → Y → Type 0) (f : Z → X) (g : Z → Y) (zs : List Z) → All (λ z. R (f z) (g z)) zs → AllZip R (map f zs) (map g zs)
zip_map R f g [] all = tt
zip_map {X} {Y} {Z} R f g (z ∷ zs) all = (All-head (λ (z : Z). R (f z) (g z)) z zs all, zip_map R f g zs (All-tail (λ (z : Z). R (f z) (g z)) z zs all))

-- made from the elements that they stand beside
pub zip_made : {X Y : Type 0} (R : X → Y → Type 0) (f : Y → X) (ys : List Y) → All (λ y. R (f y) y) ys → AllZip R (map f ys) ys
zip_made R f [] all = tt
zip_made {X} {Y} R f (y ∷ ys) all = (All-head (λ (y : Y). R (f y) y) y ys all, zip_made R f ys (All-tail (λ (y : Y). R (f y) y) y ys all))

zip_each : {X Y : Type 0} (R : X → Y → Type 0) (xs : List X) (ys : List Y) → AllZip R xs ys → All (λ x. (y : Y) × Contains ys y × R x y) xs
zip_each R [] ys zip = All-nil _
zip_each R (x ∷ xs) [] zip = absurd zip
zip_each {X} {Y} R (x ∷ xs) (y ∷ ys) zip =
    All-cons (λ (x : X). (z : Y) × Contains (y ∷ ys) z × R x z) x xs (y, contains_first y ys, zip.0)
    (All-weaker (λ (x : X). (z : Y) × Contains ys z × R x z) (λ (x : X). (z : Y) × Contains (y ∷ ys) z × R x z) (λ x with_y. (with_y.0, contains_later y ys with_y.0 with_y.1, with_y.2)) xs
    (zip_each R xs ys zip.1))

pub all_unmap : {X Y : Type 0} (P : Y → Type 0) (f : X → Y) (xs : List X) → All P (map f xs) → All (λ x. P (f x)) xs
all_unmap P f [] all = All-nil _
all_unmap {X} {Y} P f (x ∷ xs) all = All-cons (λ (x : X). P (f x)) x xs (All-head P (f x) (map f xs) all) (all_unmap P f xs (All-tail P (f x) (map f xs) all))

-- ---- ports of names of their own

found_at : (ports : List Port) (port : Port) (k : ℕ) → AreApart (port_names ports) → k < length ports → get_or ports k port ≡ port → port_named ports port.name ≡ Some port
found_at [] port k apart few is = absurd (omega arith)
found_at (first ∷ ports) port zero apart few is =
    let here : bytes_eq first.name port.name ≡ true = (bytes_eq-Decides first.name port.name).1 (ap port_name is) in
    rw here (ap (λ p. Some p) is)
found_at (first ∷ ports) port (suc k) apart few is =
    let among : Contains (port_names ports) port.name = contains_map port_name ports port (k, omega arith, is) in
    let differ : first.name ≢ port.name = All-contains (Differ first.name) (port_names ports) port.name (pairs_head Differ first.name (port_names ports) apart) among in
    let f : bytes_eq first.name port.name ≡ false = bytes_apart first.name port.name differ in
    rw f (found_at ports port k (pairs_tail Differ first.name (port_names ports) apart) (omega arith) is)

port_found : (ports : List Port) (port : Port) → AreApart (port_names ports) → Contains ports port → port_named ports port.name ≡ Some port
port_found ports port apart there = found_at ports port there.0 apart there.1 there.2

-- whether each port is an input
pub directions : (ports : List Port) → AreApart (port_names ports) → All (λ (port : Port). is_input ports port.name ≡ port.input) ports
directions ports apart = All-weaker (Contains ports) (λ (port : Port). is_input ports port.name ≡ port.input) (λ port. port_direction port ports apart) ports (All-contains_itself ports)

-- ---- an instance

-- a join is to this port, and fits it
abbrev pub JoinsPort : PlainModule → PlainJoin → Port → Type 0
JoinsPort m join port = (join.port ≡ port.name) × FitsPort m port.input (width port.shape) join.to

-- a name fits a port that is as wide, whatever its direction
pub name_fits : (m : PlainModule) (input : Bool) (wide : ℕ) (name : List ℕ) → width_of_name m name ≡ wide → FitsPort m input wide (Some (variable name))
name_fits m true wide name is = is
name_fits m false wide name is = is

joined_as_named : (m : PlainModule) (joins : List PlainJoin) (ports : List Port) (name : List ℕ) → AllZip (JoinsPort m) joins ports → times_joined joins name ≡ times (port_names ports) name
joined_as_named m [] [] name zip = refl
joined_as_named m [] (port ∷ ports) name zip = absurd zip
joined_as_named m (join ∷ joins) [] name zip = absurd zip
joined_as_named m (join ∷ joins) (port ∷ ports) name zip = λ j. one_if_same (zip.0.0 j) name + joined_as_named m joins ports name zip.1 j

pub instance_fits : (m below : PlainModule) (joins : List PlainJoin) → AreApart (port_names below.ports) → AllZip (JoinsPort m) joins below.ports →
    All (JoinFits m below) joins × All (IsJoinedOnce joins) below.ports
instance_fits m below joins apart zip = (
  All-weaker (λ join. (port : Port) × Contains below.ports port × JoinsPort m join port) (JoinFits m below) join_fits joins (zip_each (JoinsPort m) joins below.ports zip),
  All-weaker (Contains below.ports) (IsJoinedOnce joins) once below.ports (All-contains_itself below.ports),
)
  where
    join_fits : (join : PlainJoin) → (port : Port) × Contains below.ports port × JoinsPort m join port → JoinFits m below join
    join_fits join with_port =
        subst (λ found. IsSomeAnd found (λ (port : Port). FitsPort m port.input (width port.shape) join.to))
        (sym (ap (port_named below.ports) with_port.2.0 ∙ port_found below.ports with_port.0 apart with_port.1)) with_port.2.1

    once : (port : Port) → Contains below.ports port → IsJoinedOnce joins port
    once port there =
        let one : times_joined joins port.name ≡ 1 =
        joined_as_named m joins below.ports port.name zip ∙ times_once (port_names below.ports) port.name apart (contains_map port_name below.ports port there) in
        (omega arith, λ input. one)

-- ---- what joins drive

pub drives_append : (of : Option PlainModule) (xs ys : List PlainJoin) → joined_names of (xs ++ ys) ≡ joined_names of xs ++ joined_names of ys
drives_append of [] ys = refl
drives_append of (x ∷ xs) ys =
    ap (λ rest. (if is_input_of of x.port then [] else driven_name x.to) ++ rest) (drives_append of xs ys)
    ∙ sym (append_assoc (if is_input_of of x.port then [] else driven_name x.to) (joined_names of xs) (joined_names of ys))

pub inputs_drive_none : (of : Option PlainModule) (joins : List PlainJoin) → All (λ (join : PlainJoin). is_input_of of join.port ≡ true) joins → joined_names of joins ≡ []
inputs_drive_none of [] all = refl
inputs_drive_none of (join ∷ joins) all =
    let input : is_input_of of join.port ≡ true = All-head (λ (join : PlainJoin). is_input_of of join.port ≡ true) join joins all in
    rw input (inputs_drive_none of joins (All-tail (λ (join : PlainJoin). is_input_of of join.port ≡ true) join joins all))

pub outputs_drive : (of : Option PlainModule) (to : List ℕ → List ℕ) (names : List (List ℕ)) → All (λ name. is_input_of of name ≡ false) names →
    joined_names of (map (λ name. port_join name (variable (to name))) names) ≡ map to names
outputs_drive of to [] all = refl
outputs_drive of to (name ∷ names) all =
    let output : is_input_of of name ≡ false = All-head (λ name. is_input_of of name ≡ false) name names all in
    rw output (ap (λ rest. to name ∷ rest) (outputs_drive of to names (All-tail (λ name. is_input_of of name ≡ false) name names all)))
