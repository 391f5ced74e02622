-- Names that are declared have bits, and ports of one name have one direction.
use Rattle.std.proofs.Common.{◌≡◌, ℕ, ◌<◌, List, [], ◌∷◌, sym, ap, ◌∙◌, inl, inr, All, Contains}
use Rattle.std.specs.Str.{bytes_eq}
use Rattle.std.proofs.lemmas.Bool.{cases_Bool, false≢true}
use Rattle.std.proofs.lemmas.Slice.Eq.{bytes_eq-Decides}
use Rattle.std.proofs.lemmas.List.Elements.{All-head, All-tail}
use Rattle.fab_syntax.specs.declared.tree.Shape.{Shape}
use Rattle.fab_syntax.specs.declared.tree.Port.{Port}
use Rattle.fab_syntax.specs.Plain.{PlainItem, wire, reg, assign, latch, clocked, instance}
use Rattle.fab_syntax.specs.Declarations.{width, item_shape, width_if_any, declared_width, is_input}
use Rattle.fab_tile_drives_laws.proofs.Widths.{IsWide, wide_item}
use Rattle.fab_drives_laws.proofs.Lists.{none_there, first_or_later}

-- ---- widths

abbrev pub IsWideItem : PlainItem → Type 0
IsWideItem (wire shape name) = 0 < width shape
IsWideItem (reg shape name) = 0 < width shape
IsWideItem (assign target e) = Unit {0}
IsWideItem (latch target gate e) = Unit {0}
IsWideItem (clocked clock target e) = Unit {0}
IsWideItem (instance module_name name joins) = Unit {0}

-- a wire has bits, whatever else has its name
wire_among_items : (items : List PlainItem) (shape : Shape) (name : List ℕ) → All IsWideItem items → Contains items (wire shape name) → 0 < width_if_any (item_shape items name)
wire_among_items [] shape name wide there = absurd (none_there (wire shape name) there)
wire_among_items (wire other_shape other ∷ items) shape name wide there =
    elim (cases_Bool (bytes_eq other name)) [
      | inl yes_here ↦ rw yes_here (All-head IsWideItem (wire other_shape other) items wide)
      | inr not_here ↦ elim (first_or_later (wire other_shape other) items (wire shape name) there) [
        | inl is ↦ (let same : other ≡ name = cc in absurd (false≢true (sym not_here ∙ (bytes_eq-Decides other name).1 same)))
        | inr behind ↦ rw not_here (wire_among_items items shape name (All-tail IsWideItem (wire other_shape other) items wide) behind)
      ]
    ]
wire_among_items (reg other_shape other ∷ items) shape name wide there =
    elim (cases_Bool (bytes_eq other name)) [
      | inl yes_here ↦ rw yes_here (All-head IsWideItem (reg other_shape other) items wide)
      | inr not_here ↦ elim (first_or_later (reg other_shape other) items (wire shape name) there) [
        | inl is ↦ absurd cc
        | inr behind ↦ rw not_here (wire_among_items items shape name (All-tail IsWideItem (reg other_shape other) items wide) behind)
      ]
    ]
wire_among_items (assign target e ∷ items) shape name wide there =
    elim (first_or_later (assign target e) items (wire shape name) there) [
      | inl is ↦ absurd cc
      | inr behind ↦ wire_among_items items shape name (All-tail IsWideItem (assign target e) items wide) behind
    ]
wire_among_items (latch target gate e ∷ items) shape name wide there =
    elim (first_or_later (latch target gate e) items (wire shape name) there) [
      | inl is ↦ absurd cc
      | inr behind ↦ wire_among_items items shape name (All-tail IsWideItem (latch target gate e) items wide) behind
    ]
wire_among_items (clocked clock target e ∷ items) shape name wide there =
    elim (first_or_later (clocked clock target e) items (wire shape name) there) [
      | inl is ↦ absurd cc
      | inr behind ↦ wire_among_items items shape name (All-tail IsWideItem (clocked clock target e) items wide) behind
    ]
wire_among_items (instance module_name other joins ∷ items) shape name wide there =
    elim (first_or_later (instance module_name other joins) items (wire shape name) there) [
      | inl is ↦ absurd cc
      | inr behind ↦ wire_among_items items shape name (All-tail IsWideItem (instance module_name other joins) items wide) behind
    ]

pub wire_has_bits : (ports : List Port) (items : List PlainItem) (shape : Shape) (name : List ℕ) → All IsWide ports → All IsWideItem items →
    Contains items (wire shape name) → 0 < declared_width ports items name
wire_has_bits ports items shape name wide_ports wide there = wide_item ports items name wide_ports (wire_among_items items shape name wide there)

-- ---- directions

-- where all ports of a name have one direction, the name has it
pub port_has_direction : (ports : List Port) (port : Port) → Contains ports port → All (λ other. other.name ≡ port.name → other.input ≡ port.input) ports →
    is_input ports port.name ≡ port.input
port_has_direction [] port there one = absurd (none_there port there)
port_has_direction (first ∷ ports) port there one =
    elim (cases_Bool (bytes_eq first.name port.name)) [
      | inl yes_here ↦ rw yes_here (All-head (λ (other : Port). other.name ≡ port.name → other.input ≡ port.input) first ports one ((bytes_eq-Decides first.name port.name).0 yes_here))
      | inr not_here ↦ elim (first_or_later first ports port there) [
        | inl is ↦ absurd (false≢true (sym not_here ∙ (bytes_eq-Decides first.name port.name).1 (ap (λ (p : Port). p.name) is)))
        | inr behind ↦ rw not_here (port_has_direction ports port behind (All-tail (λ (other : Port). other.name ≡ port.name → other.input ≡ port.input) first ports one))
      ]
    ]
