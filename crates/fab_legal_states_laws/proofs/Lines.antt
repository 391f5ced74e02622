-- Lines that give sites to things: how many there are, and how long they are.
use Rattle.std.proofs.Common.{◌≡◌, ◌≤◌, List, length, get_or, take, All, Contains, Some, sym, ◌∙◌, subst, arith}
use Rattle.std.proofs.lemmas.List.{length-map}
use Rattle.std.proofs.lemmas.List.Elements.{All-contains}
use Rattle.fab_kinds.specs.declared.kind.Kind.{Kind}
use Rattle.fab_model.specs.Grid.{PlainFabric, tile_at}
use Rattle.fab_fabric.specs.Fabric.{IsFabric}
use Rattle.fab_fabric.specs.declared.wire.Site.{Site}
use Rattle.fab_fabric.proofs.Numbered.{tile_within}
use Rattle.fab_netlist.specs.Packed.{PlainPacked}
use Rattle.fab_netlist.proofs.Members.{in_left, in_right, mapped_in}
use Rattle.fab_implementation.specs.OnFabric.{kind_at}
use Rattle.fab_legal.specs.Lines.{HaveSites, IsInput, IsOutput, named}
use Rattle.fab_legal.specs.WellMade.{output_ports, ports}
use Rattle.fab_legal.proofs.Lists.{at_default, at_from_mapped}
use Rattle.fab_legal.proofs.Members.{from_mapped}
use Rattle.fab_legal.proofs.Once.{before_in, known_thing}
use Rattle.fab_legal.proofs.Pins.{tile_of_kind}
use Rattle.fab_fabric.specs.Names.{site_text}
use Rattle.fab_texts.specs.Rows.{Word}
use Rattle.fab_legal_states_laws.specs.ShortLaws.{IsShortName}
use Rattle.fab_legal_states_laws.proofs.Counting.{Differ, no_more}
use Rattle.fab_legal_states_laws.proofs.Rows.{site_length}

-- a site that the fabric has is written in few bytes
pub short_site : (fabric : PlainFabric) (site : Site) (kind : Kind) → IsFabric fabric → kind_at fabric site ≡ Some kind → length (site_text site) ≤ 8
short_site fabric site kind is there =
    let found = tile_of_kind site (tile_at fabric site.x site.y) kind there in
    let inside = tile_within fabric site.x site.y found.0 found.1 in
    site_length site (omega (arith, inside.0, is.few_columns)) (omega (arith, inside.1, is.few_rows))

module _ {X : Type 0} (fabric : PlainFabric) (kind : Kind) (IsKnown : X → Type 0) (lines : List (X × Site)) (have : HaveSites fabric kind IsKnown lines) where
  lines_differ : Differ (named lines)
  lines_differ = λ i j d less inside same.
      let first = at_from_mapped (λ (line : X × Site). line.0) lines i (get_or (named lines) i d) (at_default (named lines) i d (omega (arith, less, inside))) in
      let second = at_from_mapped (λ (line : X × Site). line.0) lines j (get_or (named lines) j d) (at_default (named lines) j d inside) in
      (have.lines_right j second.0 second.1.0 second.1).first
      (subst (λ (thing : X). Contains (named (take j lines)) thing) (first.2 ∙ same ∙ sym second.2)
      (mapped_in (λ (line : X × Site). line.0) (take j lines) first.0 (before_in lines i j first.0 less (omega (arith, second.1.0)) first.1)))

  -- no more lines than things
  pub few_lines : (things : List X) → ((thing : X) → IsKnown thing → Contains things thing) → length lines ≤ length things
  few_lines things all =
      omega (
        arith,
        no_more (named lines) things lines_differ (λ thing here.
            let line = from_mapped (λ (line : X × Site). line.0) lines thing here in
            all thing (subst IsKnown line.2 (known_thing IsKnown fabric kind lines line.0 have.lines_right line.1))),
        length-map lines (λ (line : X × Site). line.0),
      )

  pub short_line : IsFabric fabric → (line : X × Site) → Contains lines line → length (site_text line.1) ≤ 8
  short_line is line here = short_site fabric line.1 kind is (have.lines_right here.0 line here.1 (here.1, here.2)).of_kind

module _ (packed : PlainPacked) (names : All IsShortName (ports packed)) where
  pub input_short : (port : Word) → IsInput packed port → IsShortName port
  input_short port known = All-contains IsShortName (ports packed) port names (in_left packed.inputs (output_ports packed) port known)

  pub output_short : (port : Word) → IsOutput packed port → IsShortName port
  output_short port known = All-contains IsShortName (ports packed) port names (in_right packed.inputs (output_ports packed) port known)
