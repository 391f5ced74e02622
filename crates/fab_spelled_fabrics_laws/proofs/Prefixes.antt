-- A row that a block takes gives a BEL a prefix, if it is no MUX8LUT.
use Rattle.std.proofs.Common.{◌≡◌, ℕ, All, ◌==◌, ◌&&◌, not, Bool, true, false, List, [], length, Option, Some, None, refl, sym, ap, ◌∙◌, subst}
use Rattle.std.proofs.lemmas.Bool.{false≢true}
use Rattle.std.proofs.lemmas.List.Elements.{All-nil, All-push}
use Rattle.fab_kinds.specs.declared.kind.Kind.{Kind}
use Rattle.fab_kinds.specs.declared.kind.Kind.TheVariants as kinds
use Rattle.fab_paths.specs.Paths.{is_path}
use Rattle.fab_model.specs.declared.tiles.Bel.{Bel}
use Rattle.fab_model.specs.Tiles.{PlainTile}
use Rattle.fab_read.specs.fab_blocks_Cells.{come_twice}
use Rattle.fab_read.specs.fab_blocks_Blocks.{PlainBlock, names, bare}
use Rattle.fab_read.specs.fab_blocks_Rows.{is_prefix, may_lack_prefix, pins_of, bel_reason, kind_problem, bel_problem_of, with_bel_of}
use Rattle.fab_read.proofs.fab_blocks_Readings.{passed, failed, no_problem}
use Rattle.fab_spelled_fabrics_laws.proofs.Keeping.{Keeps}

-- where a BEL lacks a prefix, it is a MUX8LUT
abbrev pub IsPrefixed : Bel → Type 0
IsPrefixed bel = bel.prefix ≡ [] → bel.kind ≡ kinds.Mux8

abbrev pub ArePrefixed : PlainTile → Type 0
ArePrefixed tile = All IsPrefixed tile.bels

of_kind : (kind : Kind) → may_lack_prefix (Some kind) ≡ true → kind ≡ kinds.Mux8
unfolding may_lack_prefix
of_kind kinds.Lut4c may = absurd (false≢true may)
of_kind kinds.Io may = absurd (false≢true may)
of_kind kinds.Mux8 may = refl

may_lack : (may : Bool) → (true && not may) ≡ false → may ≡ true
may_lack true is = refl
may_lack false is = absurd (false≢true (sym is))

-- a row without a prefix that is taken
lacking : (block : PlainBlock) (kind : Option Kind) (holder file prefix : List ℕ) → bel_reason block kind holder file prefix ≡ None → ((length prefix == 0) && not (may_lack_prefix kind)) ≡ false
unfolding bel_reason
lacking block kind holder file prefix fine =
    let rest = (passed (is_prefix prefix) _ _ (passed (is_path holder file) _ _ fine).1).1 in
    (failed ((length prefix == 0) && not (may_lack_prefix kind)) _ _ (failed (come_twice (names block) (pins_of kind prefix)) _ _ rest).1).0

prefixed_bel : (block : PlainBlock) (kind : Option Kind) (holder file prefix : List ℕ) → ArePrefixed (bare block) → bel_problem_of block kind holder file prefix ≡ None → ArePrefixed (bare (with_bel_of block kind prefix))
prefixed_bel block None holder file prefix all fine = all
prefixed_bel block (Some kind) holder file prefix all fine =
    let reason = (no_problem (bel_reason block (Some kind) holder file prefix) (kind_problem block (Some kind) file prefix) fine).0 in
    All-push IsPrefixed block.bels (record { kind = kind; prefix = prefix }) all
    (λ none. of_kind kind (may_lack (may_lack_prefix (Some kind)) (ap (λ (p : List ℕ). (length p == 0) && not (may_lack_prefix (Some kind))) (sym none) ∙ lacking block (Some kind) holder file prefix reason)))

pub prefixes_kept : Keeps ArePrefixed ArePrefixed
prefixes_kept = record {
  new = λ name is. All-nil IsPrefixed;
  wire = λ block cells all fine. all;
  bel = prefixed_bel;
  matrix = λ block file all. all;
  tile = λ files end block tile all read. subst ArePrefixed (sym read.is) all;
}
