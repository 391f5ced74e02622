-- The ports of pads and the instances of BELs have names of their own, by the letters of their places.
use Rattle.std.proofs.Common.{◌≡◌, ◌≢◌, ℕ, ◌+◌, ◌<◌, ◌≤◌, true, false, List, [], ◌∷◌, map, get_or, codes, refl, sym, ap, subst, arith, All, AllPairs}
use Rattle.std.specs.List.{flat_map, enumerate_from}
use Rattle.std.proofs.lemmas.List.Concat.{flat_map-cons}
use Rattle.std.proofs.lemmas.List.Elements.{All-nil, All-cons, All-append, All-map, All-weaker}
use Rattle.std.proofs.lemmas.List.Kept.{AllPairs-cons}
use Rattle.fab_kinds.specs.declared.kind.Kind.{Kind}
use Rattle.fab_kinds.specs.declared.kind.Kind.TheVariants.{Lut4c, Io, Mux8}
use Rattle.fab_syntax.specs.declared.tree.Port.{Port}
use Rattle.fab_meaning.proofs.Modules.{each_all}
use Rattle.fab_model.specs.declared.tiles.Bel.{Bel}
use Rattle.fab_meaning.specs.Ports.{scalar}
use Rattle.fab_prim.specs.Ports.{top_name}
use Rattle.fab_parts_sound_laws.specs.fab_gen_tile_Names.{bel_instance_name, pad_name}
use Rattle.fab_parts_sound_laws.specs.fab_gen_tile_TileModule.{pad_ports, bels_ports}
use Rattle.fab_parts_sound_laws.proofs.Names.{Differ, AreApart}
use Rattle.fab_parts_sound_laws.proofs.Lists.{all_flat_map, pairs_none, pairs_append, pairs_head, pairs_tail}
use Rattle.fab_tiles_sound_laws.proofs.Ranks.{rank}
use Rattle.fab_tiles_sound_laws.proofs.Borders.{PortsDiffer}

-- pairs of what is made from elements
pub pairs_map : {X Y : Type 0} (R : Y → Y → Type 0) (f : X → Y) (xs : List X) → AllPairs (λ first second. R (f first) (f second)) xs → AllPairs R (map f xs)
pairs_map R f [] pairs = pairs_none R
pairs_map {X} {Y} R f (x ∷ xs) pairs =
    AllPairs-cons R (f x) (map f xs) (All-map (R (f x)) f xs (pairs_head (λ (a b : X). R (f a) (f b)) x xs pairs))
    (pairs_map R f xs (pairs_tail (λ (a b : X). R (f a) (f b)) x xs pairs))

-- ---- pads

letter_of : Port → ℕ
letter_of port = get_or port.name 6 0

ninth_of : Port → ℕ
ninth_of port = get_or port.name 8 0

abbrev ports_of : ℕ × Bel → List Port
ports_of placed = pad_ports placed.0 placed.1.kind

other_letter : (first second : Port) → letter_of first < letter_of second → PortsDiffer first second
unfolding letter_of
other_letter first second less same =
    let equal : letter_of first ≡ letter_of second = ap (λ name. get_or name 6 0) same in
    omega arith

other_ninth : (first second : Port) → ninth_of first ≢ ninth_of second → PortsDiffer first second
unfolding ninth_of
other_ninth first second differ same = differ (ap (λ name. get_or name 8 0) same)

pad_letters : (place : ℕ) (kind : Kind) → All (λ port. letter_of port ≡ 65 + place) (pad_ports place kind)
unfolding letter_of
pad_letters place Lut4c = All-nil (λ port. letter_of port ≡ 65 + place)
pad_letters place Io = each_all (λ port. letter_of port ≡ 65 + place) (pad_ports place Io) (refl, (refl, (refl, tt)))
pad_letters place Mux8 = All-nil (λ port. letter_of port ≡ 65 + place)

unequal : (a b c d : ℕ) → a ≡ c → b ≡ d → c < d → a ≢ b
unequal a b c d is_c is_d less same = let equal : a ≡ b = same in omega arith

unequal_back : (a b c d : ℕ) → a ≡ c → b ≡ d → d < c → a ≢ b
unequal_back a b c d is_c is_d less same = let equal : a ≡ b = same in omega arith

pad_apart : (place : ℕ) (kind : Kind) → AllPairs PortsDiffer (pad_ports place kind)
unfolding ninth_of
pad_apart place Lut4c = pairs_none PortsDiffer
pad_apart place Io =
    let o = scalar true (pad_name place top_name) in
    let i = scalar false (pad_name place (codes "I_top")) in
    let t = scalar false (pad_name place (codes "T_top")) in
    let o_i : PortsDiffer o i = other_ninth o i (unequal_back (ninth_of o) (ninth_of i) 79 73 refl refl (omega arith)) in
    let o_t : PortsDiffer o t = other_ninth o t (unequal (ninth_of o) (ninth_of t) 79 84 refl refl (omega arith)) in
    let i_t : PortsDiffer i t = other_ninth i t (unequal (ninth_of i) (ninth_of t) 73 84 refl refl (omega arith)) in
    AllPairs-cons PortsDiffer o (i ∷ t ∷ []) (each_all (PortsDiffer o) (i ∷ t ∷ []) (o_i, (o_t, tt)))
    (AllPairs-cons PortsDiffer i (t ∷ []) (each_all (PortsDiffer i) (t ∷ []) (i_t, tt)) (AllPairs-cons PortsDiffer t [] (All-nil (PortsDiffer t)) (pairs_none PortsDiffer)))
pad_apart place Mux8 = pairs_none PortsDiffer

abbrev IsFrom : ℕ → Port → Type 0
IsFrom first port = 65 + first ≤ letter_of port

pads_from : (first : ℕ) (bels : List Bel) → All (IsFrom first) (flat_map ports_of (enumerate_from first bels))
pads_from first [] = All-nil (IsFrom first)
pads_from first (bel ∷ bels) =
    subst (All (IsFrom first)) (sym (flat_map-cons ports_of (first, bel) (enumerate_from (first + 1) bels)))
    (All-append (IsFrom first) (pad_ports first bel.kind) (flat_map ports_of (enumerate_from (first + 1) bels))
    (All-weaker (λ port. letter_of port ≡ 65 + first) (IsFrom first) (λ port is. (let equal : letter_of port ≡ 65 + first = is in omega arith)) (pad_ports first bel.kind) (pad_letters first bel.kind))
    (All-weaker (IsFrom (first + 1)) (IsFrom first) (λ port from. (let f : 65 + (first + 1) ≤ letter_of port = from in omega arith)) (flat_map ports_of (enumerate_from (first + 1) bels))
    (pads_from (first + 1) bels)))

pads_apart_from : (first : ℕ) (bels : List Bel) → AllPairs PortsDiffer (flat_map ports_of (enumerate_from first bels))
pads_apart_from first [] = pairs_none PortsDiffer
pads_apart_from first (bel ∷ bels) =
    let later = flat_map ports_of (enumerate_from (first + 1) bels) in
    subst (AllPairs PortsDiffer) (sym (flat_map-cons ports_of (first, bel) (enumerate_from (first + 1) bels)))
    (pairs_append PortsDiffer (pad_ports first bel.kind) later (pad_apart first bel.kind) (pads_apart_from (first + 1) bels)
    (All-weaker (λ port. letter_of port ≡ 65 + first) (λ port. All (PortsDiffer port) later)
    (λ port is. All-weaker (IsFrom (first + 1)) (PortsDiffer port)
    (λ other from. other_letter port other
    (let equal : letter_of port ≡ 65 + first = is in let f : 65 + (first + 1) ≤ letter_of other = from in omega arith)) later (pads_from (first + 1) bels))
    (pad_ports first bel.kind) (pad_letters first bel.kind)))

pub pads_apart : (bels : List Bel) → AllPairs PortsDiffer (bels_ports bels)
pads_apart bels = pads_apart_from 0 bels

abbrev pub IsPadRank : Port → Type 0
IsPadRank port = rank port.name ≡ 6

rank_of_pad : (place : ℕ) (kind : Kind) → All IsPadRank (pad_ports place kind)
rank_of_pad place Lut4c = All-nil IsPadRank
rank_of_pad place Io = each_all IsPadRank (pad_ports place Io) (refl, (refl, (refl, tt)))
rank_of_pad place Mux8 = All-nil IsPadRank

pub pad_ranks : (bels : List Bel) → All IsPadRank (bels_ports bels)
pad_ranks bels =
    all_flat_map IsPadRank ports_of (enumerate_from 0 bels)
    (λ k d few. rank_of_pad (get_or (enumerate_from 0 bels) k d).0 (get_or (enumerate_from 0 bels) k d).1.kind)

-- ---- instances

abbrev pub bel_names : (first : ℕ) → List Bel → List (List ℕ)
bel_names first bels = map (λ (placed : ℕ × Bel). bel_instance_name placed.0) (enumerate_from first bels)

place_of : List ℕ → ℕ
place_of name = get_or name 8 0

abbrev IsNameFrom : ℕ → List ℕ → Type 0
IsNameFrom first name = 65 + first ≤ place_of name

names_from : (first : ℕ) (bels : List Bel) → All (IsNameFrom first) (bel_names first bels)
unfolding place_of
names_from first [] = All-nil (IsNameFrom first)
names_from first (bel ∷ bels) =
    All-cons (IsNameFrom first) (bel_instance_name first) (bel_names (first + 1) bels) (omega arith)
    (All-weaker (IsNameFrom (first + 1)) (IsNameFrom first) (λ name from. (let f : 65 + (first + 1) ≤ place_of name = from in omega arith)) (bel_names (first + 1) bels)
    (names_from (first + 1) bels))

other_place : (first : ℕ) (name : List ℕ) → 65 + (first + 1) ≤ place_of name → bel_instance_name first ≢ name
unfolding place_of
other_place first name from same =
    let equal : 65 + first ≡ place_of name = ap place_of same in
    omega arith

pub bels_apart_from : (first : ℕ) (bels : List Bel) → AreApart (bel_names first bels)
bels_apart_from first [] = pairs_none Differ
bels_apart_from first (bel ∷ bels) =
    AllPairs-cons Differ (bel_instance_name first) (bel_names (first + 1) bels)
    (All-weaker (IsNameFrom (first + 1)) (Differ (bel_instance_name first)) (λ name from. other_place first name from) (bel_names (first + 1) bels) (names_from (first + 1) bels))
    (bels_apart_from (first + 1) bels)

pub bel_ranks : (bels : List Bel) → All (λ name. rank name ≡ 11) (bel_names 0 bels)
bel_ranks bels = All-map (λ name. rank name ≡ 11) (λ (placed : ℕ × Bel). bel_instance_name placed.0) (enumerate_from 0 bels) (λ k d few. refl)
