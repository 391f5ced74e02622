-- Sites by their numbers, and BELs of sites.
use Rattle.std.proofs.Common.{◌≡◌, ℕ, ◌+◌, ◌<◌, ◌≤◌, Bool, true, false, ◌&&◌, List, [], ◌∷◌, ◌++◌, map, length, get_or, take, Contains, All, nat_eq, refl, sym, ap, ◌∙◌, subst, arith, eq-eqb, eqb-true}
use Rattle.std.specs.List.{list_any}
use Rattle.std.proofs.lemmas.Bool.{false≢true}
use Rattle.std.proofs.lemmas.List.{map-append}
use Rattle.std.proofs.lemmas.List.Elements.{All-append, All-map, All-weaker}
use Rattle.std.proofs.lemmas.Option.{get_or_from_slice_get, slice_get_within}
use Rattle.fab_implementation.specs.fab_model.specs.Tiles.{PlainTile}
use Rattle.fab_implementation.specs.fab_model.specs.Grid.{PlainFabric, tile_at}
use Rattle.fab_implementation.specs.fab_fabric.specs.Fabric.{IsFabric}
use Rattle.fab_implementation.specs.fab_fabric.specs.declared.wire.Site.{Site}
use Rattle.fab_implementation.specs.fab_netlist.specs.Plain.{IsAt}
use Rattle.fab_implementation.specs.fab_netlist.proofs.Members.{mapped_in, any_by, any_gives, parts_true, both_true}
use Rattle.fab_implementation.specs.Plain.{PlainImplementation}
use Rattle.fab_implementation.specs.OnFabric.{IsSite, IsOnFabric}
use Rattle.fab_legal.specs.Lines.{sites, sited}
use Rattle.fab_legal.specs.inner.Kept.{site_key}
use Rattle.fab_legal.proofs.Members.{from_mapped, taken_more}
use Rattle.fab_legal.proofs.Pins.{tile_of_kind, tile_type}

abbrev pub site_test : Site → ℕ × ℕ × ℕ → Bool
site_test site key = (nat_eq site.x key.0 && nat_eq site.y key.1) && nat_eq site.bel key.2

same_site : (a b : Site) → a.x ≡ b.x → a.y ≡ b.y → a.bel ≡ b.bel → a ≡ b
same_site a b x_is y_is bel_is =
    let first : a ≡ record { x = b.x; y = a.y; bel = a.bel } = ap (λ (n : ℕ). record { x = n; y = a.y; bel = a.bel }) x_is in
    let second : ◌≡◌ {A = Site} (record { x = b.x; y = a.y; bel = a.bel }) (record { x = b.x; y = b.y; bel = a.bel }) = ap (λ (n : ℕ). record { x = b.x; y = n; bel = a.bel }) y_is in
    let third : ◌≡◌ {A = Site} (record { x = b.x; y = b.y; bel = a.bel }) b = ap (λ (n : ℕ). record { x = b.x; y = b.y; bel = n }) bel_is in
    first ∙ second ∙ third

-- a site whose numbers are among those of others is one of them
pub site_seen : (list : List Site) (site : Site) → list_any (site_test site) (map site_key list) ≡ true → Contains list site
site_seen list site passes =
    let found = any_gives (site_test site) (map site_key list) passes in
    let other = from_mapped site_key list found.0 found.1 in
    let both = parts_true (nat_eq site.x found.0.0 && nat_eq site.y found.0.1) (nat_eq site.bel found.0.2) found.2 in
    let two = parts_true (nat_eq site.x found.0.0) (nat_eq site.y found.0.1) both.0 in
    let x_is = eqb-true site.x found.0.0 two.0 ∙ ap (λ (k : ℕ × ℕ × ℕ). k.0) (sym other.2) in
    let y_is = eqb-true site.y found.0.1 two.1 ∙ ap (λ (k : ℕ × ℕ × ℕ). k.1) (sym other.2) in
    let bel_is = eqb-true site.bel found.0.2 both.1 ∙ ap (λ (k : ℕ × ℕ × ℕ). k.2) (sym other.2) in
    subst (λ (s : Site). Contains list s) (sym (same_site site other.0 x_is y_is bel_is)) other.1

pub site_new : (list : List Site) (site : Site) → list_any (site_test site) (map site_key list) ≡ false → Contains list site → ⊥
site_new list site fails here =
    let same = both_true (nat_eq site.x site.x && nat_eq site.y site.y) (nat_eq site.bel site.bel)
    (both_true (nat_eq site.x site.x) (nat_eq site.y site.y) (eq-eqb site.x site.x refl) (eq-eqb site.y site.y refl)) (eq-eqb site.bel site.bel refl) in
    false≢true (sym fails ∙ any_by (site_test site) (map site_key list) (site_key site) (mapped_in site_key list site here) same)

pub keys_more : (list : List Site) (n : ℕ) (site : Site) (keys more : List (ℕ × ℕ × ℕ)) → IsAt list n site → keys ≡ map site_key (take n list) → more ≡ keys ++ site_key site ∷ [] →
    more ≡ map site_key (take (n + 1) list)
keys_more list n site keys more at so_far is =
    is ∙ ap (λ (k : List (ℕ × ℕ × ℕ)). k ++ site_key site ∷ []) so_far
    ∙ sym (ap (map site_key) (taken_more list n site at) ∙ map-append site_key (take n list) (site ∷ []))

-- ---- the BELs of a tile are few

pub few_bels : (fabric : PlainFabric) (site : Site) → IsFabric fabric → IsSite fabric site → site.bel < 26
few_bels fabric site is has =
    let found = tile_of_kind site (tile_at fabric site.x site.y) has.0 has.1 in
    let number = tile_type fabric site.x site.y found.0 found.1 in
    let few = is.few_bels number.0 found.0 (slice_get_within fabric.types number.0 found.0 number.1) in
    let same : get_or fabric.types number.0 found.0 ≡ found.0 = get_or_from_slice_get fabric.types number.0 found.0 found.0 number.1 in
    let few_here : length found.0.bels ≤ 26 = subst (λ (t : PlainTile). length t.bels ≤ 26) same few in
    omega (arith, few_here, slice_get_within found.0.bels site.bel found.2.0 found.2.1)

abbrev IsLow : Site → Type 0
IsLow site = site.bel < 26

low_lines : {X : Type 0} (fabric : PlainFabric) (lines : List (X × Site)) → IsFabric fabric → All (λ line. IsSite fabric line.1) lines → All IsLow (sited lines)
low_lines {X} fabric lines is has =
    All-map IsLow (λ (line : X × Site). line.1) lines (All-weaker (λ (line : X × Site). IsSite fabric line.1) (λ (line : X × Site). IsLow line.1) (λ line site. few_bels fabric line.1 is site) lines has)

pub low_sites : (fabric : PlainFabric) (i : PlainImplementation) → IsFabric fabric → IsOnFabric fabric i → All IsLow (sites i)
low_sites fabric i is on =
    All-append IsLow (sited i.cells) (sited i.ins ++ sited i.outs) (low_lines fabric i.cells is on.cells)
    (All-append IsLow (sited i.ins) (sited i.outs) (low_lines fabric i.ins is on.ins) (low_lines fabric i.outs is on.outs))
