-- Covers that read only what comes before them do not read one another round.
use Rattle.std.proofs.Common.{◌≡◌, ℕ, zero, suc, ◌<◌, true, false, List, [], ◌∷◌, length, map, get_or, Contains, refl, sym, ap, subst, ◌∙◌, inl, inr, arith}
use Rattle.std.specs.List.{AllByRecursion as Each, flat_map}
use Rattle.std.specs.Str.{bytes_eq}
use Rattle.std.proofs.lemmas.Bool.{cases_Bool}
use Rattle.fab_blif_models.specs.Words.{Word}
use Rattle.fab_lines.specs.Items.{is_among}
use Rattle.fab_netlist.specs.Plain.{no_cover}
use Rattle.fab_netlist.specs.Cycles.{HasNoCycle, IsRank}
use Rattle.fab_netlist.proofs.Members.{in_none, first_or_later}
use Rattle.fab_netlist.proofs.Ranks.{rank_no_cycle}
use Rattle.fab_blif.specs.Flat.{PlainNet}
use Rattle.fab_blif.specs.Design.{netlist_of}
use Rattle.fab_blif.proofs.Below.{all_named}
use Rattle.fab_sample_laws.specs.Items.{Item, Edge, edges}
use Rattle.fab_sample_laws.proofs.PlacedItems.{num, There, edge_of, edge_nets, edges_placed, EdgeThere, edges_there, model_placed}
use Rattle.fab_sample_laws.proofs.DrivenOnce.{nets, made, num_one}
use Rattle.fab_sample_laws.proofs.Sameness.{bytes_same}

-- the names that covers drive
abbrev pub driven_by : List Edge → List Word
driven_by covers = map (λ edge. edge.1) covers

-- No cover reads what it drives itself or what a cover behind it drives.
abbrev pub AreOrdered : List Edge → Type 0
AreOrdered [] = Unit {0}
AreOrdered (edge ∷ covers) = Each (λ name. is_among (driven_by (edge ∷ covers)) name ≡ false) edge.0 × AreOrdered covers

abbrev no_edge : Edge
no_edge = ([], [])

-- what is driven at a place is among what is driven
driven_at : (covers : List Edge) (place : ℕ) (name : Word) → place < length covers → (get_or covers place no_edge).1 ≡ name → is_among (driven_by covers) name ≡ true
driven_at [] place name within is = absurd (omega (arith, within))
driven_at (edge ∷ covers) zero name within is = rw (bytes_same name edge.1 (sym is)) refl
driven_at (edge ∷ covers) (suc place) name within is = elim (cases_Bool (bytes_eq name edge.1)) [
  | inl t ↦ rw t refl
  | inr f ↦ rw f (driven_at covers place name (omega (arith, within)) is)
]

none_in : (P : Word → Type 0) (names : List Word) (name : Word) → Each P names → Contains names name → P name
none_in P [] name all here = absurd (in_none name here)
none_in P (x ∷ names) name all here = elim (first_or_later x names name here) [
  | inl same ↦ subst P same all.0
  | inr later ↦ none_in P names name all.1 later
]

-- a cover that reads what another drives stands behind it
ordered_before : (covers : List Edge) → AreOrdered covers → (reader source : ℕ) → reader < length covers → source < length covers
    → Contains (get_or covers reader no_edge).0 (get_or covers source no_edge).1 → source < reader
ordered_before [] ordered reader source within there reads = absurd (omega (arith, within))
ordered_before (edge ∷ covers) ordered zero source within there reads =
    let among = driven_at (edge ∷ covers) source (get_or (edge ∷ covers) source no_edge).1 there refl in
    let not_among = none_in (λ name. is_among (driven_by (edge ∷ covers)) name ≡ false) edge.0 (get_or (edge ∷ covers) source no_edge).1 ordered.0 reads in
    absurd cc
ordered_before (edge ∷ covers) ordered (suc reader) zero within there reads = omega arith
ordered_before (edge ∷ covers) ordered (suc reader) (suc source) within there reads =
    omega (arith, ordered_before covers ordered.1 reader source (omega (arith, within)) (omega (arith, there)) reads)

-- ---- by number

pub length-mapped : {X Y : Type 0} (f : X → Y) (xs : List X) → length (map f xs) ≡ length xs
length-mapped f [] = refl
length-mapped f (x ∷ xs) = ap suc (length-mapped f xs)

at_mapped : {X Y : Type 0} (f : X → Y) (xs : List X) (place : ℕ) (d : X) (e : Y) → place < length xs → get_or (map f xs) place e ≡ f (get_or xs place d)
at_mapped f [] place d e within = absurd (omega (arith, within))
at_mapped f (x ∷ xs) zero d e within = refl
at_mapped f (x ∷ xs) (suc place) d e within = at_mapped f xs place d e (omega (arith, within))

each_at : (P : Edge → Type 0) (covers : List Edge) (place : ℕ) → Each P covers → place < length covers → P (get_or covers place no_edge)
each_at P [] place all within = absurd (omega (arith, within))
each_at P (edge ∷ covers) zero all within = all.0
each_at P (edge ∷ covers) (suc place) all within = each_at P covers place all.1 (omega (arith, within))

-- a name among names whose number is that of a name
named_back : (all_nets : List PlainNet) (names : List Word) (name : Word) → Each (There all_nets) names → There all_nets name
    → Contains (map (num all_nets) names) (num all_nets name) → Contains names name
named_back all_nets [] name all here reads = absurd (in_none (num all_nets name) reads)
named_back all_nets (x ∷ names) name all here reads = elim (first_or_later (num all_nets x) (map (num all_nets) names) (num all_nets name) reads) [
  | inl same ↦ (let is : x ≡ name = num_one all_nets x name all.0 here same in (zero, omega arith, is))
  | inr later ↦ (let rest = named_back all_nets names name all.1 here later in (suc rest.0, omega (arith, rest.1), rest.2))
]

module _ (inputs outputs : List Word) (items : List Item) where
  placed_edges : map edge_of (netlist_of (made inputs outputs items)).covers ≡ map (edge_nets (nets inputs outputs items)) (flat_map edges items)
  placed_edges = edges_placed (nets inputs outputs items) 4 items

  same_many : length (netlist_of (made inputs outputs items)).covers ≡ length (flat_map edges items)
  same_many = sym (length-mapped edge_of (netlist_of (made inputs outputs items)).covers) ∙ ap length placed_edges ∙ length-mapped (edge_nets (nets inputs outputs items)) (flat_map edges items)

  cover_is : (place : ℕ) → place < length (flat_map edges items)
      → edge_of (get_or (netlist_of (made inputs outputs items)).covers place no_cover) ≡ edge_nets (nets inputs outputs items) (get_or (flat_map edges items) place no_edge)
  cover_is place within =
      sym (at_mapped edge_of (netlist_of (made inputs outputs items)).covers place no_cover ([], 0) (omega (arith, within, same_many)))
      ∙ ap (λ (l : List (List ℕ × ℕ)). get_or l place ([], 0)) placed_edges
      ∙ at_mapped (edge_nets (nets inputs outputs items)) (flat_map edges items) place no_edge ([], 0) within

  by_place : AreOrdered (flat_map edges items) → IsRank (netlist_of (made inputs outputs items)) (λ place. place)
  by_place ordered reader source reads =
      let all_nets = nets inputs outputs items in
      let there = edges_there all_nets 4 items (all_named (model_placed inputs outputs items)).1.1 in
      let reader_within : reader < length (flat_map edges items) = omega (arith, reads.0, same_many) in
      let source_within : source < length (flat_map edges items) = omega (arith, reads.1, same_many) in
      let reader_edge = get_or (flat_map edges items) reader no_edge in
      let source_edge = get_or (flat_map edges items) source no_edge in
      let read : Contains (map (num all_nets) reader_edge.0) (num all_nets source_edge.1) =
      subst (λ (e : List ℕ × ℕ). Contains e.0 (num all_nets source_edge.1)) (cover_is reader reader_within)
      (subst (λ (e : List ℕ × ℕ). Contains (edge_of (get_or (netlist_of (made inputs outputs items)).covers reader no_cover)).0 e.1) (cover_is source source_within) reads.2) in
      let back = named_back all_nets reader_edge.0 source_edge.1 (each_at (EdgeThere all_nets) (flat_map edges items) reader there reader_within).0
      (each_at (EdgeThere all_nets) (flat_map edges items) source there source_within).1 read in
      ordered_before (flat_map edges items) ordered reader source reader_within source_within back

  pub no_cycle : AreOrdered (flat_map edges items) → HasNoCycle (netlist_of (made inputs outputs items))
  no_cycle ordered = rank_no_cycle (netlist_of (made inputs outputs items)) (λ place. place, by_place ordered)
