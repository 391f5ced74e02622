-- Sites of an implementation in the text: points at different sites differ, and no two cells or ports have one site.
use Rattle.std.proofs.Common.{◌≡◌, ℕ, zero, suc, ◌+◌, ◌<◌, List, [], ◌∷◌, ◌++◌, codes, length, get_or, Contains, Some, refl, ap, subst, inl, inr, arith}
use Rattle.std.proofs.lemmas.Bool.{cases_lt}
use Rattle.fab_kinds.specs.declared.kind.Kind.{Kind}
use Rattle.fab_kinds.specs.declared.kind.Kind.TheVariants as kinds
use Rattle.fab_meaning.specs.Points.{Point}
use Rattle.fab_model.specs.Grid.{PlainFabric}
use Rattle.fab_fabric.specs.Fabric.{IsFabric}
use Rattle.fab_fabric.specs.declared.wire.Site.{Site}
use Rattle.fab_netlist.specs.Plain.{IsAt}
use Rattle.fab_netlist.specs.Packed.{PlainPacked}
use Rattle.fab_netlist.proofs.Counts.{at_mapped}
use Rattle.fab_implementation.specs.Plain.{Pad, PlainImplementation}
use Rattle.fab_implementation.specs.OnFabric.{kind_at}
use Rattle.fab_legal.specs.Turns.{AreRight}
use Rattle.fab_legal.specs.Lines.{IsCell, IsInput, sited, IsNew}
use Rattle.fab_legal.specs.Legal.{IsLegal}
use Rattle.fab_legal.proofs.Lists.{same_at}
use Rattle.fab_legal.proofs.Once.{before_in}
use Rattle.fab_prim.specs.Ports.{top_name}
use Rattle.fab_prim.specs.Modules.{flip_flop_name}
use Rattle.fab_gen_tile.specs.Names.{letter}
use Rattle.fab_runs_laws.proofs.fab_drives_laws_Places.{same_place, in_grid}
use Rattle.fab_runs_laws.proofs.fab_text_sound_laws_Ends.{same_named}
use Rattle.fab_runs_laws.specs.fab_use_defs_Sites.{bel_point, top_point}
use Rattle.fab_runs_laws.proofs.fab_points_laws_Places.{line_kind, site_tile}

-- ---- lists

pub at_left : {X : Type 0} (xs ys : List X) (k : ℕ) (x : X) → IsAt xs k x → IsAt (xs ++ ys) k x
at_left [] ys k x at = absurd (omega (arith, at.0))
at_left (first ∷ xs) ys zero x at = (omega arith, at.1)
at_left (first ∷ xs) ys (suc k) x at = let rest = at_left xs ys k x (omega (arith, at.0), at.1) in (omega (arith, rest.0), rest.1)

at_right : {X : Type 0} (xs ys : List X) (k n : ℕ) (x : X) → n ≡ length xs + k → IsAt ys k x → IsAt (xs ++ ys) n x
at_right [] ys k n x is at = (let same : k ≡ n = omega (arith, is) in subst (λ m. IsAt ys m x) same at)
at_right (first ∷ xs) ys k zero x is at = absurd (omega (arith, is))
at_right (first ∷ xs) ys k (suc n) x is at = let rest = at_right xs ys k n x (omega (arith, is)) at in (omega (arith, rest.0), rest.1)

-- an item that is new at its place stands at no other
new_once : {X : Type 0} (xs : List X) → AreRight IsNew xs → (j k : ℕ) (x : X) → IsAt xs j x → IsAt xs k x → j ≡ k
new_once xs new j k x at_j at_k =
    elim (cases_lt j k) [
      | inl less ↦ absurd (new k x at_k.0 at_k (before_in xs j k x less (omega (arith, at_k.0)) at_j))
      | inr other ↦ elim (cases_lt k j) [
        | inl more ↦ absurd (new j x at_j.0 at_j (before_in xs k j x more (omega (arith, at_j.0)) at_k))
        | inr least ↦ omega (arith, other, least)
      ]
    ]

module _ {X : Type 0} (lines : List (X × Site)) (before after : List Site) (new : AreRight IsNew (before ++ (sited lines ++ after))) where
  -- a site has one line
  one_line : (site : Site) (a b : X) → Contains lines (a, site) → Contains lines (b, site) → a ≡ b
  one_line site a b (j, in_j, at_j) (k, in_k, at_k) =
      let there_j : IsAt (sited lines) j site = at_mapped (λ (line : X × Site). line.1) lines j (a, site) (in_j, at_j) in
      let there_k : IsAt (sited lines) k site = at_mapped (λ (line : X × Site). line.1) lines k (b, site) (in_k, at_k) in
      let all = before ++ (sited lines ++ after) in
      let whole_j : IsAt all (length before + j) site = at_right before (sited lines ++ after) j (length before + j) site refl
      (at_left (sited lines) after j site there_j) in
      let whole_k : IsAt all (length before + k) site = at_right before (sited lines ++ after) k (length before + k) site refl
      (at_left (sited lines) after k site there_k) in
      let places = new_once all new (length before + j) (length before + k) site whole_j whole_k in
      let same : j ≡ k = omega (arith, places) in
      let moved : IsAt lines k (a, site) = subst (λ n. IsAt lines n (a, site)) same (in_j, at_j) in
      ap (λ (line : X × Site). line.0) (same_at lines k (a, site) (b, site) moved (in_k, at_k))

-- ---- points

-- a site of a tile
pub record IsInGrid (site : Site) : Type 0 where
  pub few_x : site.x < 32
  pub few_y : site.y < 32

same_site : (a b : Site) → a.x ≡ b.x → a.y ≡ b.y → a.bel ≡ b.bel → a ≡ b
same_site a b x y bel = λ j. record { x = x j; y = y j; bel = bel j }

pub one_pad : (a b : Site) → IsInGrid a → IsInGrid b → top_point a top_name ≡ top_point b top_name → a ≡ b
one_pad a b of_a of_b same =
    let names = ap (λ (p : Point). p.name) same in
    let parts = same_named a.x a.y b.x b.y (letter a.bel ∷ (codes "_" ++ top_name)) (letter b.bel ∷ (codes "_" ++ top_name)) of_a.few_x of_a.few_y of_b.few_x
    of_b.few_y names in
    let letters = ap (λ name. get_or name 0 0) parts.2 in
    same_site a b parts.0 parts.1 (omega (arith, letters))

pub one_register : (a b : Site) → IsInGrid a → IsInGrid b → bel_point a flip_flop_name ≡ bel_point b flip_flop_name → a ≡ b
one_register a b of_a of_b same =
    let bels = ap (λ (p : Point). get_or (get_or p.path 0 []) 8 0) same in
    let tiles = ap (λ (p : Point). get_or p.path 1 []) same in
    let places = same_place a.x a.y b.x b.y of_a.few_x of_a.few_y of_b.few_x of_b.few_y tiles in
    same_site a b places.0 places.1 (omega (arith, bels))

-- ---- a legal implementation

module _ (fabric : PlainFabric) (packed : PlainPacked) (fixed : List Pad) (implementation : PlainImplementation) (is : IsFabric fabric)
    (legal : IsLegal fabric packed fixed implementation) where
  grid_by : (kind : Kind) (site : Site) → kind_at fabric site ≡ Some kind → IsInGrid site
  grid_by kind site of_kind =
      let tile = site_tile fabric site kind of_kind in
      let inside = in_grid fabric site.x site.y tile.0 tile.1 in
      let columns = is.few_columns in
      let rows = is.few_rows in
      record { few_x = omega (arith, inside.0, columns); few_y = omega (arith, inside.1, rows) }

  pub cell_in_grid : (number : ℕ) (site : Site) → Contains implementation.cells (number, site) → IsInGrid site
  cell_in_grid number site listed =
      grid_by kinds.Lut4c site (line_kind fabric kinds.Lut4c (IsCell packed) implementation.cells (number, site) legal.placed.cells.lines_right listed)

  pub pad_in_grid : (port : List ℕ) (site : Site) → Contains implementation.ins (port, site) → IsInGrid site
  pad_in_grid port site listed =
      grid_by kinds.Io site (line_kind fabric kinds.Io (IsInput packed) implementation.ins (port, site) legal.placed.ports.ins.lines_right listed)

  pub one_cell_at : (site : Site) (m n : ℕ) → Contains implementation.cells (m, site) → Contains implementation.cells (n, site) → m ≡ n
  one_cell_at = one_line implementation.cells [] (sited implementation.ins ++ sited implementation.outs) legal.placed.sites

  pub one_port_at : (site : Site) (a b : List ℕ) → Contains implementation.ins (a, site) → Contains implementation.ins (b, site) → a ≡ b
  one_port_at = one_line implementation.ins (sited implementation.cells) (sited implementation.outs) legal.placed.sites
