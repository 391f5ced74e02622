-- What holds of the names of ports and nets of a module holds of each name that has bits there.
use Rattle.std.proofs.Common.{◌≡◌, ℕ, zero, suc, ◌<◌, false, true, List, [], ◌∷◌, ◌++◌, refl, sym, ap, ◌∙◌, subst, inl, inr, arith, Some, All, nat_lt}
use Rattle.std.specs.Str.{bytes_eq}
use Rattle.std.proofs.lemmas.Bool.{cases_Bool, ltb-true}
use Rattle.std.proofs.lemmas.Slice.Eq.{bytes_eq-Decides}
use Rattle.std.proofs.lemmas.List.Elements.{All-head, All-tail}
use Rattle.fab_syntax.specs.declared.tree.Shape.{Shape}
use Rattle.fab_syntax.specs.declared.tree.Port.{Port}
use Rattle.fab_syntax.specs.Plain.{PlainItem, PlainModule, wire, reg, assign, latch, clocked, instance}
use Rattle.fab_syntax.specs.Declarations.{item_shape, width_in, width_if_any, declared_width}
use Rattle.fab_meaning.specs.Points.{Path, point, module_at}
use Rattle.fab_meaning.specs.Reads.{is_declared}
use Rattle.fab_meaning.proofs.Dependence.{same_name}
use Rattle.fab_drives_laws.specs.fab_model_Tiles.{counted}
use Rattle.fab_drives_laws.proofs.fab_tile_drives_laws_Driven.{width_of}

abbrev pub NetHolds : (List ℕ → Type 0) → PlainItem → Type 0
NetHolds P (wire shape name) = P name
NetHolds P (reg shape name) = P name
NetHolds P (assign target e) = Unit {0}
NetHolds P (latch target gate e) = Unit {0}
NetHolds P (clocked clock target e) = Unit {0}
NetHolds P (instance module_name i joins) = Unit {0}

module _ (P : List ℕ → Type 0) (name : List ℕ) where
  named_so : (other : List ℕ) → bytes_eq other name ≡ true → P other → P name
  named_so other same holds = subst P ((bytes_eq-Decides other name).0 same) holds

  net_holds : (items : List PlainItem) → All (NetHolds P) items → 0 < width_if_any (item_shape items name) → P name
  net_holds [] all some = absurd (omega (arith, some))
  net_holds (wire shape other ∷ items) all some =
      elim (cases_Bool (bytes_eq other name)) [
        | inl here ↦ named_so other here (All-head (NetHolds P) (wire shape other) items all)
        | inr past ↦ net_holds items (All-tail (NetHolds P) (wire shape other) items all) (rw past at some)
      ]
  net_holds (reg shape other ∷ items) all some =
      elim (cases_Bool (bytes_eq other name)) [
        | inl here ↦ named_so other here (All-head (NetHolds P) (reg shape other) items all)
        | inr past ↦ net_holds items (All-tail (NetHolds P) (reg shape other) items all) (rw past at some)
      ]
  net_holds (assign target e ∷ items) all some = net_holds items (All-tail (NetHolds P) (assign target e) items all) some
  net_holds (latch target gate e ∷ items) all some = net_holds items (All-tail (NetHolds P) (latch target gate e) items all) some
  net_holds (clocked clock target e ∷ items) all some = net_holds items (All-tail (NetHolds P) (clocked clock target e) items all) some
  net_holds (instance module_name i joins ∷ items) all some = net_holds items (All-tail (NetHolds P) (instance module_name i joins) items all) some

  pub declared_holds : (ports : List Port) (items : List PlainItem) → All (λ port. P port.name) ports → All (NetHolds P) items →
      0 < declared_width ports items name → P name
  declared_holds [] items all nets some = net_holds items nets some
  declared_holds (port ∷ ports) items all nets some =
      elim (cases_Bool (bytes_eq port.name name)) [
        | inl here ↦ named_so port.name here (All-head (λ (port : Port). P port.name) port ports all)
        | inr past ↦ declared_holds ports items (All-tail (λ (port : Port). P port.name) port ports all) nets (rw past at some)
      ]

-- ---- points

-- a bit that is declared is below the width of its name
pub bit_below : (text : List PlainModule) (path : Path) (m : PlainModule) (name : List ℕ) (bit : ℕ) → module_at text path ≡ Some m →
    is_declared text (point path name bit) ≡ true → bit < width_of m name
bit_below text path m name bit stands declared =
    ltb-true bit (width_of m name) (sym (ap (λ found. nat_lt bit (width_in found name)) stands) ∙ declared)

-- what holds of the names of a module holds of the names of its declared points
pub point_holds : (text : List PlainModule) (path : Path) (m : PlainModule) (P : List ℕ → Type 0) (name : List ℕ) (bit : ℕ) → module_at text path ≡ Some m →
    All (λ port. P port.name) m.ports → All (NetHolds P) m.items → is_declared text (point path name bit) ≡ true → P name
point_holds text path m P name bit stands ports nets declared =
    let below = bit_below text path m name bit stands declared in
    declared_holds P name m.ports m.items ports nets (omega (arith, below))

-- ---- counted wires

pub wire_found : (shape : Shape) (f : ℕ → List ℕ) (rest : List PlainItem) (n i : ℕ) → i < n → item_shape (counted n (λ k. wire shape (f k)) ++ rest) (f i) ≡ Some shape
unfolding counted
wire_found shape f rest zero i within = absurd (omega arith)
wire_found shape f rest (suc n) zero within = rw (same_name (f 0)) refl
wire_found shape f rest (suc n) (suc i) within =
    elim (cases_Bool (bytes_eq (f 0) (f (suc i)))) [
      | inl same ↦ rw same refl
      | inr other ↦ rw other (wire_found shape (λ k. f (suc k)) rest n i (omega arith))
    ]

pub wires_passed : (shape : Shape) (f : ℕ → List ℕ) (rest : List PlainItem) (name : List ℕ) (n : ℕ) → ((i : ℕ) → bytes_eq (f i) name ≡ false) →
    item_shape (counted n (λ k. wire shape (f k)) ++ rest) name ≡ item_shape rest name
unfolding counted
wires_passed shape f rest name zero apart = refl
wires_passed shape f rest name (suc n) apart =
    let here : bytes_eq (f 0) name ≡ false = apart 0 in
    rw here (wires_passed shape (λ k. f (suc k)) rest name n (λ i. apart (suc i)))
