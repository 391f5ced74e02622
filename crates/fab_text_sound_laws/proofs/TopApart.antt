-- No two names that the top of a fabric declares are one.
use Rattle.std.proofs.Common.{◌≡◌, ◌≢◌, ℕ, ◌<◌, ◌^◌, true, false, List, [], ◌∷◌, ◌++◌, get_or, refl, sym, ap, ◌∙◌, inl, inr, arith, Option, All, AllPairs, codes}
use Rattle.std.specs.List.{enumerate_from}
use Rattle.std.proofs.lemmas.Bool.{cases_Bool}
use Rattle.std.proofs.lemmas.List.{append_cancel_left}
use Rattle.std.proofs.lemmas.List.Elements.{All-nil, All-cons, All-weaker}
use Rattle.std.proofs.lemmas.List.Kept.{AllPairs-cons}
use Rattle.fab_kinds.specs.declared.kind.Kind.TheVariants as kinds
use Rattle.fab_kinds.specs.declared.kind.Kind.{Kind}
use Rattle.fab_syntax.specs.declared.tree.Shape.TheVariants.{Scalar}
use Rattle.fab_syntax.specs.declared.tree.Port.{Port}
use Rattle.fab_syntax.specs.Plain.{PlainItem, wire, reg, instance}
use Rattle.fab_meaning.specs.Ports.{scalar}
use Rattle.fab_prim.specs.Ports.{top_name}
use Rattle.fab_model.specs.declared.tiles.WireRow.{WireRow}
use Rattle.fab_model.specs.declared.tiles.Bel.{Bel}
use Rattle.fab_model.specs.Rows.{is_jump}
use Rattle.fab_model.specs.Tiles.{counted}
use Rattle.fab_model.specs.Grid.{PlainFabric}
use Rattle.fab_fabric.specs.Names.{place_name}
use Rattle.fab_drives_laws.specs.fab_gen_tile_Names.{border_name, letter}
use Rattle.fab_drives_laws.specs.fab_gen_tile_Borders.{side_border}
use Rattle.fab_drives_laws.specs.fab_fabric_text_defs_Names.{pad_port_name, chain_wire_name, begin_wire_name}
use Rattle.fab_drives_laws.specs.fab_fabric_text_defs_Places.{PlacedTile}
use Rattle.fab_drives_laws.specs.fab_fabric_text_defs_Top.{pad_ports, tile_pads, row_begin_wires, tile_begin_wires}
use Rattle.fab_drives_laws.proofs.Apart.{told_apart}
use Rattle.fab_drives_laws.proofs.Lists.{all_of}
use Rattle.fab_tiles_sound_laws.proofs.fab_parts_sound_laws_Lists.{all_counted, all_flat_map, pairs_none}
use Rattle.fab_tiles_sound_laws.proofs.fab_parts_sound_laws_Names.{Differ}
use Rattle.fab_text_sound_laws.proofs.Pairs.{Between, pairs_weaker, between, one_each_way, one_alone, pairs_flat, numbers_apart}
use Rattle.fab_text_sound_laws.proofs.Ends.{named_at, same_named, no_place, no_border, no_chain_border}
use Rattle.fab_text_sound_laws.proofs.Sides.{RowsApart, HasFewBits, rows_apart, few_bits, sides_between, bits_apart}
use Rattle.fab_text_sound_laws.proofs.Standing.{IsStanding}

-- ---- what items declare

abbrev pub item_names : PlainItem → List (List ℕ)
item_names (wire shape name) = name ∷ []
item_names (reg shape name) = name ∷ []
item_names (instance module_name name joins) = name ∷ []
item_names _ = []

abbrev pub AllNames : (P : List ℕ → Type 0) → PlainItem → Type 0
AllNames P item = All P (item_names item)

abbrev pub Clear : PlainItem → PlainItem → Type 0
Clear a b = Between Differ (item_names a) (item_names b)

abbrev pub PortsDiffer : Port → Port → Type 0
PortsDiffer a b = a.name ≢ b.name

abbrev pub head : List ℕ → ℕ
head name = get_or name 0 0

pub one_name : (P : List ℕ → Type 0) (name : List ℕ) → P name → All P (name ∷ [])
one_name P name holds = All-cons P name [] holds (All-nil P)

-- ---- four sorts of names of a tile

pub record IsBeginAt (x y : ℕ) (name : List ℕ) : Type 0 where
  pub side : Option (List ℕ)
  pub bit : ℕ
  pub few : bit < 2 ^ 64
  pub is : name ≡ named_at x y (border_name side bit)

pub record IsPadAt (x y bel : ℕ) (name : List ℕ) : Type 0 where
  pub middle : ℕ
  pub is : name ≡ named_at x y ((letter bel ∷ 95 ∷ middle ∷ []) ++ 95 ∷ codes "top")

pub record IsTilePad (x y : ℕ) (name : List ℕ) : Type 0 where
  pub bel : ℕ
  pub at : IsPadAt x y bel name

pub record IsBegin (name : List ℕ) : Type 0 where
  pub x : ℕ
  pub y : ℕ
  pub few_x : x < 32
  pub few_y : y < 32
  pub at : IsBeginAt x y name

pub record IsPad (name : List ℕ) : Type 0 where
  pub x : ℕ
  pub y : ℕ
  pub few_x : x < 32
  pub few_y : y < 32
  pub at : IsTilePad x y name

pub record IsChainWire (name : List ℕ) : Type 0 where
  pub x : ℕ
  pub y : ℕ
  pub few_x : x < 32
  pub few_y : y < 32
  pub is : name ≡ named_at x y (codes "fab_chain")

pub record IsPlaceName (name : List ℕ) : Type 0 where
  pub x : ℕ
  pub y : ℕ
  pub few_x : x < 32
  pub few_y : y < 32
  pub is : name ≡ place_name x y

-- a name of the tile at a place
pub record IsOfTile (x y : ℕ) (name : List ℕ) : Type 0 where
  pub rest : List ℕ
  pub is : name ≡ named_at x y rest

pub begin_of_tile : (x y : ℕ) (name : List ℕ) → IsBeginAt x y name → IsOfTile x y name
begin_of_tile x y name at = record { rest = border_name at.side at.bit; is = at.is }

pub pad_of_tile : (x y : ℕ) (name : List ℕ) → IsTilePad x y name → IsOfTile x y name
pad_of_tile x y name pad = record { rest = (letter pad.bel ∷ 95 ∷ pad.at.middle ∷ []) ++ 95 ∷ codes "top"; is = pad.at.is }

pub chain_of_tile : (x y : ℕ) → IsOfTile x y (chain_wire_name x y)
chain_of_tile x y = record { rest = codes "fab_chain"; is = refl }

pub begin_head : (name : List ℕ) → IsBegin name → head name ≡ 88
begin_head name is = ap head is.at.is

pub pad_head : (name : List ℕ) → IsPad name → head name ≡ 88
pad_head name is = ap head is.at.at.is

pub chain_head : (name : List ℕ) → IsChainWire name → head name ≡ 88
chain_head name is = ap head is.is

pub place_head : (name : List ℕ) → IsPlaceName name → head name ≡ 88
place_head name is = ap head is.is

pub heads_differ : (a b : List ℕ) (n : ℕ) → head b ≡ n → (head a ≡ n → ⊥) → a ≢ b
heads_differ a b n is other same = other (ap head same ∙ is)

pub elsewhere : (x y x2 y2 : ℕ) (a b : List ℕ) → x < 32 → y < 32 → x2 < 32 → y2 < 32 → (x ≡ x2 → y ≡ y2 → ⊥) → IsOfTile x y a → IsOfTile x2 y2 b → a ≢ b
elsewhere x y x2 y2 a b few_x few_y few_x2 few_y2 apart of_a of_b same =
    let parts = same_named x y x2 y2 of_a.rest of_b.rest few_x few_y few_x2 few_y2 (sym of_a.is ∙ same ∙ of_b.is) in
    apart parts.0 parts.1

pub pad_no_begin : (a b : List ℕ) → IsPad a → IsBegin b → a ≢ b
pad_no_begin a b pad begin same =
    let front = letter pad.at.bel ∷ 95 ∷ pad.at.at.middle ∷ [] in
    let parts = same_named begin.x begin.y pad.x pad.y (border_name begin.at.side begin.at.bit) (front ++ 95 ∷ codes "top") begin.few_x begin.few_y pad.few_x pad.few_y (sym begin.at.is ∙ sym same ∙ pad.at.at.is) in
    no_border begin.at.side begin.at.bit front begin.at.few parts.2

pub begin_no_place : (a b : List ℕ) → IsBegin a → IsPlaceName b → a ≢ b
begin_no_place a b begin place same =
    no_place place.x place.y begin.x begin.y (border_name begin.at.side begin.at.bit) place.few_x place.few_y begin.few_x begin.few_y (sym place.is ∙ sym same ∙ begin.at.is)

pub pad_no_place : (a b : List ℕ) → IsPad a → IsPlaceName b → a ≢ b
pad_no_place a b pad place same =
    no_place place.x place.y pad.x pad.y ((letter pad.at.bel ∷ 95 ∷ pad.at.at.middle ∷ []) ++ 95 ∷ codes "top") place.few_x place.few_y pad.few_x pad.few_y (sym place.is ∙ sym same ∙ pad.at.at.is)

pub chain_no_begin : (a b : List ℕ) → IsChainWire a → IsBegin b → a ≢ b
chain_no_begin a b chain begin same =
    let parts = same_named begin.x begin.y chain.x chain.y (border_name begin.at.side begin.at.bit) (codes "fab_chain") begin.few_x begin.few_y chain.few_x chain.few_y (sym begin.at.is ∙ sym same ∙ chain.is) in
    no_chain_border begin.at.side begin.at.bit begin.at.few parts.2

pub chain_no_place : (a b : List ℕ) → IsChainWire a → IsPlaceName b → a ≢ b
chain_no_place a b chain place same =
    no_place place.x place.y chain.x chain.y (codes "fab_chain") place.few_x place.few_y chain.few_x chain.few_y (sym place.is ∙ sym same ∙ chain.is)

-- behind the place a pad has one letter and `_`
pub pad_no_chain : (a b : List ℕ) → IsPad a → IsChainWire b → a ≢ b
pad_no_chain a b pad chain same =
    let rest = (letter pad.at.bel ∷ 95 ∷ pad.at.at.middle ∷ []) ++ 95 ∷ codes "top" in
    let parts = same_named pad.x pad.y chain.x chain.y rest (codes "fab_chain") pad.few_x pad.few_y chain.few_x chain.few_y (sym pad.at.at.is ∙ same ∙ chain.is) in
    told_apart 1 rest (codes "fab_chain") refl parts.2

-- ---- the begin wires of a tile

abbrev begin_wire_of : (x y : ℕ) → List ℕ → PlainItem
begin_wire_of x y rest = wire Scalar (named_at x y rest)

begins_differ : (x y : ℕ) (a b : List ℕ) → a ≢ b → Clear (begin_wire_of x y a) (begin_wire_of x y b)
begins_differ x y a b differ =
    one_each_way Differ (named_at x y a) (named_at x y b) (λ same.
    let lines : 95 ∷ a ≡ 95 ∷ b = append_cancel_left (place_name x y) (95 ∷ a) (95 ∷ b) same in
    let rests : a ≡ b = cc in
    differ rests)

row_clear : (x y : ℕ) (row : WireRow) → HasFewBits row → AllPairs Clear (row_begin_wires x y row)
row_clear x y row few =
    elim (cases_Bool (is_jump row.dir)) [
      | inl jumps ↦ rw jumps (pairs_none Clear)
      | inr no_jump ↦ rw no_jump (bits_apart Clear (begin_wire_of x y) (begins_differ x y) row row.source (few.sources no_jump))
    ]

rows_clear : (x y : ℕ) (a b : WireRow) → HasFewBits a → HasFewBits b → RowsApart a b → Between Clear (row_begin_wires x y a) (row_begin_wires x y b)
rows_clear x y a b few_a few_b apart =
    elim (cases_Bool (is_jump a.dir)) [
      | inl jumps ↦ rw jumps (All-nil (λ z. All (Clear z) (row_begin_wires x y b)))
      | inr no_jump ↦ elim (cases_Bool (is_jump b.dir)) [
        | inl jumps ↦ rw (no_jump, jumps) (all_of (λ z. All (Clear z) []) (counted (side_border a a.source) (λ bit. wire Scalar (begin_wire_name x y a bit))) (λ z. All-nil (Clear z)))
        | inr no_other ↦ rw (no_jump, no_other)
            (sides_between Clear (begin_wire_of x y) (begin_wire_of x y) (begins_differ x y) a b a.source b.source (few_a.sources no_jump) (few_b.sources no_other) (apart.sources no_jump no_other))
      ]
    ]

pub tile_begins_clear : (fabric : PlainFabric) (p : PlacedTile) → IsStanding fabric p → AllPairs Clear (tile_begin_wires p)
tile_begins_clear fabric p is =
    pairs_flat Clear (row_begin_wires p.x p.y) p.tile.rows
    (All-weaker HasFewBits (λ row. AllPairs Clear (row_begin_wires p.x p.y row)) (row_clear p.x p.y) p.tile.rows (few_bits p.tile is.is_tile))
    (pairs_weaker HasFewBits RowsApart (λ a b. Between Clear (row_begin_wires p.x p.y a) (row_begin_wires p.x p.y b)) p.tile.rows (rows_clear p.x p.y)
    (few_bits p.tile is.is_tile) (rows_apart p.tile is.is_tile))

begins_of_row : (x y : ℕ) (row : WireRow) → HasFewBits row → All (AllNames (IsBeginAt x y)) (row_begin_wires x y row)
begins_of_row x y row few =
    elim (cases_Bool (is_jump row.dir)) [
      | inl jumps ↦ rw jumps (All-nil (AllNames (IsBeginAt x y)))
      | inr no_jump ↦ rw no_jump (all_counted (AllNames (IsBeginAt x y)) (side_border row row.source) (λ bit. wire Scalar (begin_wire_name x y row bit)) (λ bit within.
          one_name (IsBeginAt x y) (begin_wire_name x y row bit) (record { side = row.source; bit = bit; few = omega (arith, within, few.sources no_jump); is = refl })))
    ]

pub begins_of_tile : (fabric : PlainFabric) (p : PlacedTile) → IsStanding fabric p → All (AllNames (IsBeginAt p.x p.y)) (tile_begin_wires p)
begins_of_tile fabric p is =
    all_flat_map (AllNames (IsBeginAt p.x p.y)) (row_begin_wires p.x p.y) p.tile.rows
    (All-weaker HasFewBits (λ row. All (AllNames (IsBeginAt p.x p.y)) (row_begin_wires p.x p.y row)) (begins_of_row p.x p.y) p.tile.rows (few_bits p.tile is.is_tile))

-- ---- the pads of a tile

abbrev PortAt : (x y bel : ℕ) → Port → Type 0
PortAt x y bel port = IsPadAt x y bel port.name

pads_of_bel : (x y bel : ℕ) (kind : Kind) (prefix : List ℕ) → All (PortAt x y bel) (pad_ports x y (bel, record { kind = kind; prefix = prefix }))
pads_of_bel x y bel kinds.Lut4c prefix = All-nil (PortAt x y bel)
pads_of_bel x y bel kinds.Io prefix =
    let outs = scalar false (pad_port_name x y bel (codes "I_top")) ∷ scalar false (pad_port_name x y bel (codes "T_top")) ∷ [] in
    All-cons (PortAt x y bel) (scalar true (pad_port_name x y bel top_name)) outs (record { middle = 79; is = refl })
    (All-cons (PortAt x y bel) (scalar false (pad_port_name x y bel (codes "I_top"))) (scalar false (pad_port_name x y bel (codes "T_top")) ∷ []) (record { middle = 73; is = refl })
    (All-cons (PortAt x y bel) (scalar false (pad_port_name x y bel (codes "T_top"))) [] (record { middle = 84; is = refl }) (All-nil (PortAt x y bel))))
pads_of_bel x y bel kinds.Mux8 prefix = All-nil (PortAt x y bel)

pads_differ : (x y : ℕ) (a b : List ℕ) → a ≢ b → named_at x y a ≢ named_at x y b
pads_differ x y a b differ same =
    let lines : 95 ∷ a ≡ 95 ∷ b = append_cancel_left (place_name x y) (95 ∷ a) (95 ∷ b) same in
    let rests : a ≡ b = cc in
    differ rests

abbrev pad_rest : (bel : ℕ) → List ℕ → List ℕ
pad_rest bel port = letter bel ∷ (codes "_" ++ port)

pads_apart_at : (x y bel : ℕ) (kind : Kind) (prefix : List ℕ) → AllPairs PortsDiffer (pad_ports x y (bel, record { kind = kind; prefix = prefix }))
pads_apart_at x y bel kinds.Lut4c prefix = pairs_none PortsDiffer
pads_apart_at x y bel kinds.Io prefix =
    let first = scalar true (pad_port_name x y bel top_name) in
    let second = scalar false (pad_port_name x y bel (codes "I_top")) in
    let third = scalar false (pad_port_name x y bel (codes "T_top")) in
    AllPairs-cons PortsDiffer first (second ∷ third ∷ [])
    (All-cons (PortsDiffer first) second (third ∷ []) (pads_differ x y (pad_rest bel top_name) (pad_rest bel (codes "I_top")) (told_apart 2 (pad_rest bel top_name) (pad_rest bel (codes "I_top")) refl))
    (All-cons (PortsDiffer first) third [] (pads_differ x y (pad_rest bel top_name) (pad_rest bel (codes "T_top")) (told_apart 2 (pad_rest bel top_name) (pad_rest bel (codes "T_top")) refl))
    (All-nil (PortsDiffer first))))
    (AllPairs-cons PortsDiffer second (third ∷ [])
    (All-cons (PortsDiffer second) third [] (pads_differ x y (pad_rest bel (codes "I_top")) (pad_rest bel (codes "T_top")) (told_apart 2 (pad_rest bel (codes "I_top")) (pad_rest bel (codes "T_top")) refl))
    (All-nil (PortsDiffer second)))
    (one_alone PortsDiffer third))
pads_apart_at x y bel kinds.Mux8 prefix = pairs_none PortsDiffer

-- pads of two BELs of a tile differ in the letter
letters_differ : (x y bel other : ℕ) (a b : List ℕ) → bel ≢ other → IsPadAt x y bel a → IsPadAt x y other b → a ≢ b
letters_differ x y bel other a b differ of_a of_b same =
    pads_differ x y ((letter bel ∷ 95 ∷ of_a.middle ∷ []) ++ 95 ∷ codes "top") ((letter other ∷ 95 ∷ of_b.middle ∷ []) ++ 95 ∷ codes "top")
    (λ rests. let letters = ap head rests in differ (omega (arith, letters))) (sym of_a.is ∙ same ∙ of_b.is)

pub tile_pads_apart : (p : PlacedTile) → AllPairs PortsDiffer (tile_pads p)
tile_pads_apart p =
    pairs_flat PortsDiffer (pad_ports p.x p.y) (enumerate_from 0 p.tile.bels)
    (all_of (λ (placed : ℕ × Bel). AllPairs PortsDiffer (pad_ports p.x p.y placed)) (enumerate_from 0 p.tile.bels) (λ placed. pads_apart_at p.x p.y placed.0 placed.1.kind placed.1.prefix))
    (λ i j d before within.
    let a = get_or (enumerate_from 0 p.tile.bels) i d in
    let b = get_or (enumerate_from 0 p.tile.bels) j d in
    between (PortAt p.x p.y a.0) (PortAt p.x p.y b.0) PortsDiffer (pad_ports p.x p.y a) (pad_ports p.x p.y b)
    (λ port other at_a at_b. letters_differ p.x p.y a.0 b.0 port.name other.name (numbers_apart 0 p.tile.bels i j d before within) at_a at_b)
    (pads_of_bel p.x p.y a.0 a.1.kind a.1.prefix) (pads_of_bel p.x p.y b.0 b.1.kind b.1.prefix))

pub pads_of_tile : (p : PlacedTile) → All (λ port. IsTilePad p.x p.y port.name) (tile_pads p)
pads_of_tile p =
    all_flat_map (λ (port : Port). IsTilePad p.x p.y port.name) (pad_ports p.x p.y) (enumerate_from 0 p.tile.bels)
    (all_of (λ (placed : ℕ × Bel). All (λ (port : Port). IsTilePad p.x p.y port.name) (pad_ports p.x p.y placed)) (enumerate_from 0 p.tile.bels) (λ placed.
    All-weaker (PortAt p.x p.y placed.0) (λ port. IsTilePad p.x p.y port.name) (λ port at. record { bel = placed.0; at = at }) (pad_ports p.x p.y placed)
    (pads_of_bel p.x p.y placed.0 placed.1.kind placed.1.prefix)))
