-- Points beside a design that take their values one after the other: each has a source that reads points before it.
use Rattle.std.proofs.Common.{◌≡◌, ◌⊎◌, ◌≤◌, zero, suc, Bool, List, [], ◌∷◌, length, map, if◌then◌else◌, refl, sym, ap, ◌∙◌, subst, inl, inr, arith, Contains}
use Rattle.std.specs.List.{All}
use Rattle.std.proofs.lemmas.Bool.{cases_Bool}
use Rattle.std.proofs.lemmas.List.Elements.{All-nil, All-cons, All-tail, All-contains, All-weaker}
use Rattle.fab_systems_laws.specs.Ternary.{known}
use Rattle.fab_meaning.specs.Points.{Point, Driver, Drives}
use Rattle.fab_meaning.specs.Settled.{Assignment, IsSettledOn, shown}
use Rattle.fab_meaning.specs.Reads.{same_point}
use Rattle.fab_meaning.specs.Loading.{IsLoading}
use Rattle.fab_meaning.proofs.Dependence.{same_point_refl, same_point_is, shown_same}
use Rattle.fab_meaning.proofs.SoundTexts.{sound_drives_once}
use Rattle.fab_nested_laws.proofs.LoadingTakes.{loading_reads}
use Rattle.fab_netlist.specs.Packing.{packed}
use Rattle.fab_netlist.proofs.Members.{first_or_later, mapped_in}
use Rattle.fab_runs_laws.proofs.fab_legal_Members.{from_mapped}
use Rattle.fab_runs_laws.specs.fab_text_loads_laws_Loads.{IsConfigured}
use Rattle.fab_runs_laws.specs.fab_use_defs_Design.{IsSourced}
use Rattle.fab_runs_laws.specs.fab_use_defs_Sources.{Source, source_value, source_reads, HasSource}
use Rattle.fab_runs_laws.specs.fab_points_laws_Known.{KnowsBits}
use Rattle.fab_runs_laws.specs.fab_points_laws_Shown.{Shown}
use Rattle.fab_runs_laws.proofs.fab_points_laws_Boolean.{gives_source}
use Rattle.fab_runs_laws.proofs.fab_points_laws_Configuration.{configuration_point_loads}
use Rattle.fab_runs_laws.proofs.fab_points_laws_EachSource.{sources_show}
use Rattle.fab_runs_laws.proofs.fab_points_laws_ReadPoints.{reads_few}
use Rattle.fab_runs_laws.proofs.Setting.{Setting, cells_made}
use Rattle.fab_runs_laws.proofs.Instants.{Has}
use Rattle.fab_settling_laws.proofs.Origins.{single}
use Rattle.fab_settling_laws.proofs.Blocks.{value_same, reads_sourced}

-- a point with its source, and the value that it takes
pub record Row : Type 0 where
  pub at : Point
  pub source : Source
  pub value : Bool

abbrev pub rows_points : List Row → List Point
rows_points rows = map (λ (row : Row). row.at) rows

-- an assignment gives the point its value
abbrev pub Right : Assignment → Row → Type 0
Right a row = a row.at ≡ row.value

module _ (s : Setting) (inputs held : Assignment) where
  -- its driver gives it what its source says, whatever the points beside the configuration have
  abbrev pub ShowsRow : Row → Type 0
  ShowsRow row = (a : Assignment) → KnowsBits s.fabric s.bits (λ q. known (a q)) → Shown s.text inputs held (λ q. known (a q)) row.at row.source

  -- Where the rows before it are right, its source gives its value.
  abbrev pub Follows : List Row → Row → Type 0
  Follows before row = (a : Assignment) → All (Right a) before → source_value inputs held a row.at row.source ≡ row.value

  pub record IsRow (before : List Row) (row : Row) : Type 0 where
    pub shows : ShowsRow row
    pub few : length (source_reads row.source) ≤ 4
    pub follows : Follows before row

  abbrev pub AreRows : (before : List Row) → List Row → Type 0
  AreRows before [] = Unit {0}
  AreRows before (row ∷ rows) = IsRow before row × AreRows (row ∷ before) rows

  -- a driver of such a point gives it its value
  driven : (before : List Row) (row : Row) → IsRow before row → (a : Assignment) → KnowsBits s.fabric s.bits (λ q. known (a q)) → All (Right a) before →
      (d : Driver) → Drives s.text row.at d → shown s.text inputs held a row.at d ≡ row.value
  driven before row is a knows right d drives =
      let shows = is.shows a knows in
      ap (shown s.text inputs held a row.at) (single s row.at d shows.driver drives shows.drives)
      ∙ gives_source s.text inputs held a row.at row.source is.few shows ∙ is.follows a right

  -- where the points are settled, all have their values
  pub settled_right : (before rows : List Row) → AreRows before rows → (a : Assignment) → KnowsBits s.fabric s.bits (λ q. known (a q)) → All (Right a) before →
      IsSettledOn (Contains (rows_points rows)) s.text inputs held a → (row : Row) → Contains rows row → Right a row
  settled_right before [] are a knows right settled row there = absurd (let few = there.1 in omega (arith, few))
  settled_right before (first ∷ rows) are a knows right settled row there =
      let shows = are.0.shows a knows in
      let here : Right a first =
      settled first.at shows.driver (zero, omega arith, refl) shows.drives ∙ driven before first are.0 a knows right shows.driver shows.drives in
      elim (first_or_later first rows row there) [
        | inl same ↦ subst (Right a) same here
        | inr later ↦
            settled_right (first ∷ before) rows are.1 a knows (All-cons (Right a) first before here right)
            (λ p d among drives. settled p d (suc among.0, (let few = among.1 in omega (arith, few)), among.2) drives) row later
      ]

  -- ---- a settled design

  module _ (configured : IsConfigured s.fabric s.bits held) (now : Assignment) (settled : IsSettledOn (Has s) s.text inputs held now) where
    -- the design points stand as they stood
    abbrev pub Stays : Assignment → Type 0
    Stays a = (p : Point) → Has s p → a p ≡ now p

    loading_settled : IsSettledOn (IsLoading s.text) s.text inputs held now
    loading_settled p d loads drives = settled p d (inr loads) drives

    pub stays_knows : (a : Assignment) → Stays a → KnowsBits s.fabric s.bits (λ q. known (a q))
    stays_knows a stays =
        s.laws.known s.fabric s.text s.bits inputs held now (λ q. known (a q)) s.is s.is_text configured loading_settled (λ p loads. ap known (stays p (inr loads)))

    -- so their drivers give them what they have
    loading_shown : (a : Assignment) → Stays a → (p : Point) → IsLoading s.text p → (d : Driver) → Drives s.text p d → shown s.text inputs held a p d ≡ now p
    loading_shown a stays p loads d drives =
        shown_same s.text inputs held a now p d
        (λ q read. stays q (inr (loading_reads s.text (sound_drives_once s.text s.is_text.sound) p d loads drives q read)))
        ∙ sym (settled p d (inr loads) drives)

    design_shown : (a : Assignment) → Stays a → (p : Point) → Has s p → (d : Driver) → Drives s.text p d → shown s.text inputs held a p d ≡ now p
    design_shown a stays p (inr loads) d drives = loading_shown a stays p loads d drives
    design_shown a stays p (inl (inl configuration)) d drives =
        loading_shown a stays p (configuration_point_loads s.fabric s.text s.is s.are s.is_text p configuration) d drives
    design_shown a stays p (inl (inr sourced)) d drives =
        let listed = s.laws.listed s.fabric (packed s.netlist) s.fixed s.implementation s.are (cells_made s) s.legal in
        let row = listed.2 p sourced in
        let from : HasSource s.fabric (packed s.netlist) s.implementation p row.0 =
        (All-contains (λ (r : Point × Source). HasSource s.fabric (packed s.netlist) s.implementation r.0 r.1 × IsSourced s.fabric (packed s.netlist) s.implementation r.0)
        listed.0 (p, row.0) listed.1 row.1).0 in
        let few = reads_few s.fabric (packed s.netlist) s.fixed s.implementation s.are s.legal (cells_made s) p row.0 from in
        let gives : (b : Assignment) → Stays b → shown s.text inputs held b p d ≡ source_value inputs held b p row.0 =
        λ b same.
        let shows = sources_show s.fabric s.text (packed s.netlist) s.fixed s.implementation s.bits inputs held (λ q. known (b q)) s.is s.are s.is_text (cells_made s) s.legal
        s.configures (stays_knows b same) p row.0 from in
        ap (shown s.text inputs held b p) (single s p d shows.driver drives shows.drives) ∙ gives_source s.text inputs held b p row.0 few shows in
        gives a stays
        ∙ value_same inputs inputs held held a now p row.0 (λ e. refl) (λ e. refl) (λ q among. stays q (inl (inr (reads_sourced s p row.0 from q among))))
        ∙ sym (gives now (λ q of_design. refl)) ∙ sym (settled p d (inl (inr sourced)) drives)

    -- ---- one row after the other

    -- A row of which it is known that it follows from some rows.
    record Done (done : List Row) (row : Row) : Type 0 where
      before : List Row
      is : IsRow before row
      inside : (a : Assignment) → All (Right a) done → All (Right a) before

    record Reaches (done : List Row) (points : List Point) (a : Assignment) : Type 0 where
      stays : Stays a
      right : All (Right a) done
      others : (p : Point) → (Contains points p → ⊥) → a p ≡ now p

    set_row : Row → Assignment → Assignment
    set_row row a p = if same_point row.at p then row.value else a p

    set_here : (row : Row) (a : Assignment) → set_row row a row.at ≡ row.value
    unfolding set_row
    set_here row a = rw (same_point_refl row.at) refl

    -- where what a point would be given is what it has, or it is another one
    set_same : (row : Row) (a : Assignment) (p : Point) (value : Bool) → a p ≡ value → (row.at ≡ p → row.value ≡ value) → set_row row a p ≡ value
    unfolding set_row
    set_same row a p value is same =
        elim (cases_Bool (same_point row.at p)) [ inl here ↦ rw here (same (same_point_is row.at p here)) | inr past ↦ rw past is ]

    set_one : (done : List Row) (row : Row) (points : List Point) → IsRow done row → All (Done done) done → Contains points row.at → (a : Assignment) →
        Reaches done points a → Reaches (row ∷ done) points (set_row row a)
    set_one done row points is all among a reaches =
        let knows = stays_knows a reaches.stays in
        let shows = is.shows a knows in
        let value : shown s.text inputs held a row.at shows.driver ≡ row.value = driven done row is a knows reaches.right shows.driver shows.drives in
        record {
          stays = λ p of_design.
              set_same row a p (now p) (reaches.stays p of_design)
              (λ same. sym value
              ∙ subst (λ (q : Point). shown s.text inputs held a q shows.driver ≡ now q) (sym same)
              (design_shown a reaches.stays p of_design shows.driver (subst (λ (q : Point). Drives s.text q shows.driver) same shows.drives))
              ∙ ap now same);
          right = All-cons (Right (set_row row a)) row done (set_here row a)
              (still done (λ r there. All-contains (Done done) done r all there) (λ r there. All-contains (Right a) done r reaches.right there));
          others = λ p outside_points. set_same row a p (now p) (reaches.others p outside_points) (λ same. absurd (outside_points (subst (Contains points) same among)));
        }
      where
        still : (rows : List Row) → ((r : Row) → Contains rows r → Done done r) → ((r : Row) → Contains rows r → Right a r) → All (Right (set_row row a)) rows
        still [] each rights = All-nil (Right (set_row row a))
        still (r ∷ rows) each rights =
            let knows = stays_knows a reaches.stays in
            let shows = is.shows a knows in
            let own = each r (zero, omega arith, refl) in
            let here : Right (set_row row a) r =
            set_same row a r.at r.value (rights r (zero, omega arith, refl))
            (λ same.
            sym (driven done row is a knows reaches.right shows.driver shows.drives)
            ∙ subst (λ (q : Point). shown s.text inputs held a q shows.driver ≡ r.value) (sym same)
            (driven own.before r own.is a knows (own.inside a reaches.right) shows.driver (subst (λ (q : Point). Drives s.text q shows.driver) same shows.drives))) in
            All-cons (Right (set_row row a)) r rows here
            (still rows (λ q there. each q (suc there.0, (let few = there.1 in omega (arith, few)), there.2)) (λ q there. rights q (suc there.0, (let few = there.1 in omega (arith, few)), there.2)))

    set_all : (done rows : List Row) (points : List Point) → AreRows done rows → All (Done done) done → ((row : Row) → Contains rows row → Contains points row.at) →
        (a : Assignment) → Reaches done points a →
        (b : Assignment) × Stays b × ((p : Point) → (Contains points p → ⊥) → b p ≡ now p) × ((row : Row) → (Contains done row ⊎ Contains rows row) → Right b row)
    set_all done [] points are all inside a reaches = (
      a,
      reaches.stays,
      reaches.others,
      λ row there. elim there [ inl in_done ↦ All-contains (Right a) done row reaches.right in_done | inr none ↦ absurd (let few = none.1 in omega (arith, few)) ],
    )
    set_all done (row ∷ rows) points are all inside a reaches =
        let first = set_one done row points are.0 all (inside row (zero, omega arith, refl)) a reaches in
        let now_done : Done (row ∷ done) row = record { before = done; is = are.0; inside = λ b rights. All-tail (Right b) row done rights } in
        let grown : All (Done (row ∷ done)) done =
        All-weaker (Done done) (Done (row ∷ done)) (λ r d. record { before = d.before; is = d.is; inside = λ b rights. d.inside b (All-tail (Right b) row done rights) }) done all in
        let rest = set_all (row ∷ done) rows points are.1 (All-cons (Done (row ∷ done)) row done now_done grown)
        (λ r there. inside r (suc there.0, (let few = there.1 in omega (arith, few)), there.2)) (set_row row a) first in (
          rest.0,
          rest.1,
          rest.2,
          λ r there.
              elim there [
                | inl in_done ↦ rest.3 r (inl (suc in_done.0, (let few = in_done.1 in omega (arith, few)), in_done.2))
                | inr in_rows ↦
                    elim (first_or_later row rows r in_rows) [
                      | inl same ↦ rest.3 r (inl (zero, omega arith, same))
                      | inr later ↦ rest.3 r (inr later)
                    ]
              ],
        )

    -- drivers of all these points give them their values
    all_driven : (before rows : List Row) → AreRows before rows → (a : Assignment) → KnowsBits s.fabric s.bits (λ q. known (a q)) → All (Right a) before →
        ((row : Row) → Contains rows row → Right a row) → (row : Row) → Contains rows row → (d : Driver) → Drives s.text row.at d →
        shown s.text inputs held a row.at d ≡ row.value
    all_driven before [] are a knows right rights row there d drives = absurd (let few = there.1 in omega (arith, few))
    all_driven before (first ∷ rows) are a knows right rights row there d drives =
        elim (first_or_later first rows row there) [
          | inl same ↦
              subst (λ (r : Row). (e : Driver) → Drives s.text r.at e → shown s.text inputs held a r.at e ≡ r.value) same
              (λ e by. driven before first are.0 a knows right e by) d drives
          | inr later ↦
              all_driven (first ∷ before) rows are.1 a knows (All-cons (Right a) first before (rights first (zero, omega arith, refl)) right)
              (λ r among. rights r (suc among.0, (let few = among.1 in omega (arith, few)), among.2)) row later d drives
        ]

    -- so the design can be settled together with these points
    pub settled_with : (rows : List Row) → AreRows [] rows →
        (all : Assignment) × IsSettledOn (λ p. Has s p ⊎ Contains (rows_points rows) p) s.text inputs held all × ((p : Point) → (Contains (rows_points rows) p → ⊥) → all p ≡ now p)
    settled_with rows are =
        let start : Reaches [] (rows_points rows) now = record { stays = λ p of_design. refl; right = All-nil (Right now); others = λ p outside_points. refl } in
        let found = set_all [] rows (rows_points rows) are (All-nil (Done [])) (λ row there. mapped_in (λ (r : Row). r.at) rows row there) now start in
        let knows = stays_knows found.0 found.1 in (
          found.0,
          λ p d has drives.
              elim has [
                | inl of_design ↦ found.1 p of_design ∙ sym (design_shown found.0 found.1 p of_design d drives)
                | inr among ↦ (
                    let row = from_mapped (λ (r : Row). r.at) rows p among in
                    let right = found.3 row.0 (inr row.1) in
                    let value = all_driven [] rows are found.0 knows (All-nil (Right found.0)) (λ r there. found.3 r (inr there)) row.0 row.1 d
                    (subst (λ (q : Point). Drives s.text q d) (sym row.2) drives) in
                    subst (λ (q : Point). found.0 q ≡ shown s.text inputs held found.0 q d) row.2 (right ∙ sym value))
              ],
          found.2,
        )
