-- The sites that the lines of a legal implementation give to things: they can be written, and no two things have one site.
use Rattle.std.proofs.Common.{◌≡◌, ℕ, Bool, List, map, Contains, Decides, Some, ap, subst, arith}
use Rattle.std.specs.List.{AllByRecursion as Each}
use Rattle.fab_kinds.specs.declared.kind.Kind.{Kind}
use Rattle.fab_model.specs.Grid.{PlainFabric, tile_at}
use Rattle.fab_fabric.specs.Fabric.{IsFabric}
use Rattle.fab_fabric.specs.declared.wire.Site.{Site}
use Rattle.fab_fabric.proofs.Numbered.{tile_within}
use Rattle.fab_implementation.specs.OnFabric.{kind_at}
use Rattle.fab_legal.specs.Lines.{HaveSites, sited}
use Rattle.fab_legal.specs.Sinks.{site_of}
use Rattle.fab_legal.proofs.Lists.{same_at}
use Rattle.fab_legal.proofs.Pins.{tile_of_kind}
use Rattle.fab_legal.proofs.SinkLaw.{known_site}
use Rattle.fab_legal.proofs.SiteKeys.{few_bels}
use Rattle.fab_netlist.proofs.Counts.{at_mapped}
use Rattle.fab_netlist.specs.Plain.{IsAt}
use Rattle.fab_texts.specs.Places.{IsWritable}
use Rattle.fab_spelled_designs_laws.proofs.Apart.{Differ, each_from_members, mapped_differ, one_place}

-- ---- a site of the fabric

pub site_writable : (fabric : PlainFabric) (site : Site) (kind : Kind) → IsFabric fabric → kind_at fabric site ≡ Some kind → IsWritable site
site_writable fabric site kind is there =
    let found = tile_of_kind site (tile_at fabric site.x site.y) kind there in
    let inside = tile_within fabric site.x site.y found.0 found.1 in
    record {
      x = omega (arith, inside.0, is.few_columns);
      y = omega (arith, inside.1, is.few_rows);
      bel = few_bels fabric site is (kind, there);
    }

-- ---- the sites of things

module _ {X : Type 0} (same : X → X → Bool) (tells : (a b : X) → Decides (same a b) (a ≡ b)) (fabric : PlainFabric) (is : IsFabric fabric) (kind : Kind) (IsKnown : X → Type 0)
    (lines : List (X × Site)) (have : HaveSites fabric kind IsKnown lines) (apart : Differ (sited lines)) where
  abbrev pub site : X → Site
  site thing = site_of same lines thing

  listed : (thing : X) → IsKnown thing → Contains lines (thing, site thing)
  listed thing known = known_site same tells fabric kind IsKnown lines have thing known

  pub writable : (thing : X) → IsKnown thing → IsWritable (site thing)
  writable thing known =
      let line = listed thing known in
      site_writable fabric (site thing) kind is (have.lines_right line.0 (thing, site thing) line.1 (line.1, line.2)).of_kind

  pub told : (a b : X) → IsKnown a → IsKnown b → site a ≡ site b → a ≡ b
  told a b known other same_site =
      let first = listed a known in
      let second = listed b other in
      let place = one_place (sited lines) first.0 second.0 (site a) (site b) apart (at_mapped (λ (line : X × Site). line.1) lines first.0 (a, site a) (first.1, first.2))
      (at_mapped (λ (line : X × Site). line.1) lines second.0 (b, site b) (second.1, second.2)) same_site in
      let there : IsAt lines second.0 (a, site a) = subst (λ (n : ℕ). IsAt lines n (a, site a)) place (first.1, first.2) in
      ap (λ (line : X × Site). line.0) (same_at lines second.0 (a, site a) (b, site b) there (second.1, second.2))

  pub sites_differ : (things : List X) → ((thing : X) → Contains things thing → IsKnown thing) → Differ things → Differ (map site things)
  sites_differ things known differ = mapped_differ site IsKnown told things known differ

  pub each_writable : (things : List X) → ((thing : X) → Contains things thing → IsKnown thing) → Each (λ thing. IsWritable (site thing)) things
  each_writable things known = each_from_members (λ thing. IsWritable (site thing)) things (λ thing here. writable thing (known thing here))
