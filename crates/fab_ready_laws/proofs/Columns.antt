-- An implementation uses none of some columns, or something is the first that stands in the way.
use Rattle.std.proofs.Common.{◌≡◌, ◌<◌, ◌⊎◌, ℕ, Bool, true, false, List, [], ◌∷◌, ◌++◌, All, Contains, Some, refl, sym, ap, ◌∙◌, subst, arith, inl, inr}
use Rattle.std.specs.List.{flat_map}
use Rattle.std.proofs.lemmas.Bool.{cases_Bool, cases_eq, cases_lt}
use Rattle.std.proofs.lemmas.List.Elements.{All-cons, All-head, All-nil, All-tail, All-weaker}
use Rattle.fab_select.specs.declared.pair.Pair.{Pair}
use Rattle.fab_model.specs.Tiles.{PlainTile, output_field}
use Rattle.fab_model.specs.Grid.{PlainFabric, tile_at}
use Rattle.fab_fabric.specs.Fabric.{AreTiles, wires_at, wire_count}
use Rattle.fab_fabric.specs.Wires.{wire_index}
use Rattle.fab_fabric.specs.Names.{site_text}
use Rattle.fab_fabric.specs.declared.wire.Site.{Site}
use Rattle.fab_fabric.proofs.Numbered.{some_place, wired_tile}
use Rattle.fab_implementation.specs.Plain.{Edge, PlainImplementation, PlainTree}
use Rattle.fab_partial.specs.Use.{IsUsedEdge, AreUnused, IsFirst, all_edges, IsUse, of_cell, of_edge}
use Rattle.fab_partial.specs.declared.uses.Use.{Use}
use Rattle.fab_partial.specs.declared.uses.Use.TheVariants as uses
use Rattle.fab_flow.specs.Partial.{IsUseText}
use Rattle.fab_partial.proofs.Edges.{from_within, to_within, UsedAt, used_at, used_by}
use Rattle.fab_ready_laws.proofs.Decisions.{IsDecided, listed_decided}
use Rattle.fab_ready_laws.proofs.WireTexts.{written_wire}

-- ---- the first item that has a property

module _ {X : Type 0} (Holds : X → Type 0) (decided : (x : X) → IsDecided (Holds x)) where
  pub none_or_first : (xs : List X) → All (λ x. Holds x → ⊥) xs ⊎ ((x : X) × IsFirst Holds xs x)
  none_or_first [] = inl (All-nil (λ x. Holds x → ⊥))
  none_or_first (x ∷ xs) = elim (decided x) [
    | inl holds ↦ inr (x, record { before = []; after = xs; xs_are = refl; holds = holds; none_before = All-nil (λ x. Holds x → ⊥) })
    | inr never ↦
        elim (none_or_first xs) [
          | inl none ↦ inl (All-cons (λ x. Holds x → ⊥) x xs never none)
          | inr found ↦ (
              let first = found.1 in
              inr (
                found.0,
                record {
                  before = x ∷ first.before;
                  after = first.after;
                  xs_are = ap (λ rest. x ∷ rest) first.xs_are;
                  holds = first.holds;
                  none_before = All-cons (λ x. Holds x → ⊥) x first.before never first.none_before;
                },
              ))
        ]
  ]

-- what holds of all items of several lists holds of those of each
all_parts : {X Y : Type 0} (P : Y → Type 0) (f : X → List Y) (xs : List X) → All P (flat_map f xs) → All (λ x. All P (f x)) xs
all_parts P f [] all = All-nil (λ x. All P (f x))
all_parts P f (x ∷ xs) all = All-cons (λ x. All P (f x)) x xs (front (f x) (flat_map f xs) all) (all_parts P f xs (back (f x) (flat_map f xs) all))
  where
    front : (ys zs : List _) → All P (ys ++ zs) → All P ys
    front [] zs is = All-nil P
    front (y ∷ ys) zs is = All-cons P y ys (All-head P y (ys ++ zs) is) (front ys zs (All-tail P y (ys ++ zs) is))

    back : (ys zs : List _) → All P (ys ++ zs) → All P zs
    back [] zs is = is
    back (y ∷ ys) zs is = back ys zs (All-tail P y (ys ++ zs) is)

-- ---- used edges

pair_eq : (a b : Pair) → IsDecided (a ≡ b)
pair_eq a b = elim (cases_eq a.output b.output) [
  | inr differ ↦ inr (λ same. differ (ap (λ (p : Pair). p.output) same))
  | inl outputs ↦
      elim (cases_eq a.input b.input) [
        | inr differ ↦ inr (λ same. differ (ap (λ (p : Pair). p.input) same))
        | inl inputs ↦ inl (λ i. record { output = outputs i; input = inputs i })
      ]
]

module _ (fabric : PlainFabric) (there : ℕ → Bool) (tiles : AreTiles fabric) where
  module _ (edge : Edge) (x y input x2 y2 output : ℕ) (few_in : input < wires_at fabric x y) (from_is : edge.0.0 ≡ wire_index fabric x y input)
      (few_out : output < wires_at fabric x2 y2) (to_is : edge.1.0 ≡ wire_index fabric x2 y2 output) where
    abbrev At : Type 0
    At = UsedAt fabric there x y input x2 y2 output

    some_same : {a b : PlainTile} → Some a ≡ Some b → a ≡ b
    some_same same = cc

    in_tile : (tile : PlainTile) → tile_at fabric x y ≡ Some tile → x ≡ x2 → y ≡ y2 → there x ≡ true → IsDecided At
    in_tile tile tile_is x_same y_same within = elim (cases_lt 0 (output_field tile output).1) [
      | inr none ↦ inr (λ at.
          let same : at.tile ≡ tile = some_same (sym at.tile_is ∙ tile_is) in
          let some : 0 < (output_field tile output).1 = subst (λ (t : PlainTile). 0 < (output_field t output).1) same at.some in
          absurd (omega (arith, some, none)))
      | inl some ↦
          elim (listed_decided pair_eq tile.pairs (record { output = output; input = input })) [
            | inl is ↦ inl (record { x_same = x_same; y_same = y_same; within = within; tile = tile; tile_is = tile_is; some = some; listed = is })
            | inr never ↦ inr (λ at.
                let same : at.tile ≡ tile = some_same (sym at.tile_is ∙ tile_is) in
                never (subst (λ (t : PlainTile). Contains t.pairs (record { output = output; input = input })) same at.listed))
          ]
    ]

    at_decided : IsDecided At
    at_decided = elim (cases_eq x x2) [
      | inr differ ↦ inr (λ at. differ at.x_same)
      | inl x_same ↦
          elim (cases_eq y y2) [
            | inr differ ↦ inr (λ at. differ at.y_same)
            | inl y_same ↦
                elim (cases_Bool (there x)) [
                  | inr outside ↦ inr (λ at. no_both (sym outside ∙ at.within))
                  | inl within ↦ (let tile = wired_tile fabric x y input few_in in in_tile tile.0 tile.1 x_same y_same within)
                ]
          ]
    ]
      where
        no_both : false ≡ true → ⊥
        no_both same = cc

    placed_decided : IsDecided (IsUsedEdge fabric there edge)
    placed_decided = elim at_decided [
      | inl at ↦ inl (used_by fabric there edge x y input x2 y2 output few_in from_is few_out to_is at)
      | inr never ↦ inr (λ used. never (used_at fabric there edge x y input x2 y2 output few_in from_is few_out to_is tiles used))
    ]

  edge_decided : (edge : Edge) → IsDecided (IsUsedEdge fabric there edge)
  edge_decided edge = elim (cases_lt edge.0.0 (wire_count fabric)) [
    | inr past ↦ inr (λ used. absurd (omega (arith, past, from_within fabric there edge tiles used)))
    | inl from ↦
        elim (cases_lt edge.1.0 (wire_count fabric)) [
          | inr past ↦ inr (λ used. absurd (omega (arith, past, to_within fabric there edge tiles used)))
          | inl to ↦ (
              let start = some_place fabric edge.0.0 from in
              let end = some_place fabric edge.1.0 to in
              placed_decided edge start.0 start.1 start.2 end.0 end.1 end.2 start.3 start.4 end.3 end.4)
        ]
  ]

  -- ---- what an implementation uses

  -- something is used, and this is how it is written
  pub record HasUse (implementation : PlainImplementation) : Type 0 where
    pub found : Use
    pub is : IsUse fabric implementation there found
    pub item : List ℕ
    pub text : IsUseText fabric found item

  abbrev Stands : ℕ × Site → Type 0
  Stands line = there line.1.x ≡ true

  stands_decided : (line : ℕ × Site) → IsDecided (Stands line)
  stands_decided line = elim (cases_Bool (there line.1.x)) [
    | inl holds ↦ inl holds
    | inr fails ↦ inr (λ holds. apart (sym holds ∙ fails))
  ]
    where
      apart : true ≡ false → ⊥
      apart same = cc

  away : (b : Bool) → (b ≡ true → ⊥) → b ≡ false
  away true never = absurd (never refl)
  away false never = refl

  edges_judged : (implementation : PlainImplementation) → All (λ line. there line.1.x ≡ false) implementation.cells → AreUnused fabric implementation there ⊎ HasUse implementation
  edges_judged implementation cells = elim (none_or_first (IsUsedEdge fabric there) edge_decided (all_edges implementation)) [
    | inl none ↦ inl (record { cells = cells; edges = all_parts (λ edge. IsUsedEdge fabric there edge → ⊥) (λ (tree : PlainTree). tree.edges) implementation.trees none })
    | inr first ↦ (
        let text = written_wire fabric first.0.1 (to_within fabric there first.0 tiles first.1.holds) in
        inr (record { found = uses.Edge first.0.1; is = of_edge cells first.1; item = text.0; text = text.1 }))
  ]

  -- nothing in the columns is used, or something is the first that is
  pub use_judged : (implementation : PlainImplementation) → AreUnused fabric implementation there ⊎ HasUse implementation
  use_judged implementation = elim (none_or_first Stands stands_decided implementation.cells) [
    | inl none ↦ edges_judged implementation (All-weaker (λ line. Stands line → ⊥) (λ line. there line.1.x ≡ false) (λ line never. away (there line.1.x) never) implementation.cells none)
    | inr first ↦ inr (record { found = uses.Cell first.0.1; is = of_cell first.1; item = site_text first.0.1; text = refl })
  ]
