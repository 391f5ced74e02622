-- A ranked design has exactly one settled assignment.
use Rattle.std.proofs.Common.{◌≡◌, ◌⊎◌, ℕ, zero, suc, ◌<◌, Bool, true, false, not, ◌&&◌, ◌||◌, List, [], ◌∷◌, map, refl, sym, ap, ◌∙◌, subst, inl, inr, arith, All, Contains, if◌then◌else◌}
use Rattle.std.specs.List.{list_any}
use Rattle.std.proofs.lemmas.Bool.{cases_Bool, false≢true, and_parts}
use Rattle.std.proofs.lemmas.List.Elements.{All-nil, All-cons, All-head, All-tail, All-contains, All-weaker}
use Rattle.fab_bits.specs.Bits.{number}
use Rattle.fab_systems_laws.specs.System as systems
use Rattle.fab_systems_laws.specs.Ternary.{known}
use Rattle.fab_syntax.specs.Plain.{PlainModule}
use Rattle.fab_meaning.specs.Points.{Point, point, Driver, outside, flop, Drives}
use Rattle.fab_meaning.specs.Settled.{Assignment, IsSettledOn}
use Rattle.fab_meaning.specs.Reads.{is_declared, same_point, reads}
use Rattle.fab_meaning.specs.Runs.{clock_name, kept, Moment, Ticks}
use Rattle.fab_meaning.specs.Loading.{Within, by_flop, by_stream, by_reads, IsLoading}
use Rattle.fab_meaning.specs.Sound.{PointsOfSoundTextsHaveOneDriver}
use Rattle.fab_meaning.proofs.Dependence.{same_point_refl, same_point_is, shown_same}
use Rattle.fab_model.specs.Grid.{PlainFabric}
use Rattle.fab_model.specs.Drive.{PlainBits}
use Rattle.fab_fabric.specs.Fabric.{IsFabric, AreTiles}
use Rattle.fab_netlist.specs.WellMade.{table_bit}
use Rattle.fab_netlist.specs.Packed.{PlainPacked}
use Rattle.fab_use_defs.specs.fab_implementation_Plain.{Pad, PlainImplementation}
use Rattle.fab_use_defs.specs.fab_legal_WellMade.{IsWellMadePacked}
use Rattle.fab_use_defs.specs.fab_legal_Legal.{IsLegal}
use Rattle.fab_load_runs_laws.specs.Runs.{IsClockLow, LoadingIsDecided}
use Rattle.fab_use_defs.specs.fab_fabric_text_defs_Texts.{IsFabricText}
use Rattle.fab_use_defs.specs.fab_text_loads_laws_Loads.{LoadsConfigurations}
use Rattle.fab_use_defs.specs.Design.{IsSourced, IsOfDesign, IsDesignPoint}
use Rattle.fab_use_defs.specs.Configuring.{Configures}
use Rattle.fab_use_defs.specs.Headline as headline
use Rattle.fab_use_defs.specs.Sources as sources
use Rattle.fab_use_defs.specs.Sources.{Source, source_value, source_reads, HasSource}
use Rattle.fab_points_laws.specs.Known.{KnowsBits}
use Rattle.fab_points_laws.specs.Laws.{RanksDesign, RankedDesignSettlesOnce, WillShow, ShownDesignSettlesOnce}
use Rattle.fab_points_laws.proofs.EachSource.{sources_show}
use Rattle.fab_points_laws.proofs.Loading.{shown_is_known, configured_show}
use Rattle.fab_points_laws.proofs.Boolean.{settled_source}
use Rattle.fab_points_laws.proofs.ReadPoints.{reads_covered, reads_few}
use Rattle.fab_points_laws.proofs.Configuration.{configuration_point_loads}
use Rattle.fab_points_laws.proofs.Laws.{design_is_declared, design_settles_shown, design_is_listed, sources_agree}

-- what a source shows depends on what it reads alone
map_same : (a b : Assignment) (qs : List Point) → All (λ q. a q ≡ b q) qs → map a qs ≡ map b qs
map_same a b [] same = refl
map_same a b (q ∷ qs) same =
    let here : a q ≡ b q = All-head (λ q. a q ≡ b q) q qs same in
    let rest : map a qs ≡ map b qs = map_same a b qs (All-tail (λ q. a q ≡ b q) q qs same) in
    λ j. here j ∷ rest j

same_value : (inputs held a b : Assignment) (p : Point) (s : Source) → All (λ q. a q ≡ b q) (source_reads s) → source_value inputs held a p s ≡ source_value inputs held b p s
same_value inputs held a b p (sources.always bit) same = refl
same_value inputs held a b p sources.top_input same = refl
same_value inputs held a b p sources.flip_flop same = refl
same_value inputs held a b p (sources.shows q) same = All-head (λ q. a q ≡ b q) q [] same
same_value inputs held a b p (sources.inverts q) same = ap not (All-head (λ q. a q ≡ b q) q [] same)
same_value inputs held a b p (sources.looks_up bits qs) same = ap (λ values. table_bit bits (number values)) (map_same a b qs same)

-- the source of a point on a list
abbrev source_in : List (Point × Source) → Point → Source
source_in [] p = sources.always false
source_in (row ∷ rows) p = if same_point p row.0 then row.1 else source_in rows p

abbrev listed_in : List (Point × Source) → Point → Bool
listed_in [] p = false
listed_in (row ∷ rows) p = same_point p row.0 || listed_in rows p

found_in : (P : Point × Source → Type 0) (rows : List (Point × Source)) (p : Point) → All P rows → listed_in rows p ≡ true → P (p, source_in rows p)
found_in P [] p all is = absurd (false≢true is)
found_in P (row ∷ rows) p all is =
    elim (cases_Bool (same_point p row.0)) [
      | inl here ↦ rw here (subst (λ q. P (q, row.1)) (sym (same_point_is p row.0 here)) (All-head P row rows all))
      | inr past ↦ rw past (found_in P rows p (All-tail P row rows all) (rw past at is))
    ]

row_listed : (rows : List (Point × Source)) (p : Point) (s : Source) → Contains rows (p, s) → listed_in rows p ≡ true
row_listed [] p s there = absurd (let few = there.1 in omega (arith, few))
row_listed (row ∷ rows) p s (zero, within, is) = (let e : same_point p row.0 ≡ true = ap (λ (r : Point × Source). same_point p r.0) is ∙ same_point_refl p in rw e refl)
row_listed (row ∷ rows) p s (suc k, within, is) =
    let rest = row_listed rows p s (k, omega (arith, within), is) in
    elim (cases_Bool (same_point p row.0)) [ inl here ↦ rw here refl | inr past ↦ rw past rest ]

module _ (one : PointsOfSoundTextsHaveOneDriver) (decide : LoadingIsDecided) (system : systems.SettlesOnce Point)
    (loads : (fabric : PlainFabric) (text : List PlainModule) → IsFabric fabric → IsFabricText fabric text → LoadsConfigurations fabric text) where
  module _ (fabric : PlainFabric) (text : List PlainModule) (packed : PlainPacked) (fixed : List Pad) (implementation : PlainImplementation) (bits : PlainBits) (inputs held : Assignment)
      (rank : Point → ℕ) (ranks : ℕ) (is : IsFabric fabric) (are : AreTiles fabric) (is_text : IsFabricText fabric text) (made : IsWellMadePacked packed)
      (legal : IsLegal fabric packed fixed implementation) (configures : Configures fabric packed implementation bits) (will_show : WillShow fabric text bits inputs held)
      (low : inputs (point [] clock_name 0) ≡ false) (ranked : RanksDesign fabric text packed implementation rank ranks) where
    abbrev Has : Point → Type 0
    Has p = IsDesignPoint fabric text packed implementation p

    abbrev Is : Point → Type 0
    Is p = IsOfDesign fabric packed implementation p

    all_loads : LoadsConfigurations fabric text
    all_loads = loads fabric text is is_text

    by_sources : (now : Assignment) → IsSettledOn (IsLoading text) text inputs held now →
        (IsSettledOn Has text inputs held now → (p : Point) (s : Source) → Is p → HasSource fabric packed implementation p s → now p ≡ source_value inputs held now p s)
        × (((p : Point) (s : Source) → Is p → HasSource fabric packed implementation p s → now p ≡ source_value inputs held now p s) → IsSettledOn Has text inputs held now)
    by_sources now loading = design_settles_shown one fabric text packed fixed implementation bits inputs held now is are is_text made legal configures (will_show now loading) loading

    loading_part : (now : Assignment) → IsSettledOn Has text inputs held now → IsSettledOn (IsLoading text) text inputs held now
    loading_part now settled p d loads drives = settled p d (inr loads) drives

    reads_design : (p : Point) (s : Source) → HasSource fabric packed implementation p s → All Is (source_reads s)
    reads_design p s source =
        All-weaker _ Is (λ q routed. inr routed) (source_reads s)
        (reads_covered fabric packed fixed implementation are legal made p s source)

    -- ---- one at most

    module _ (a b : Assignment) (first : IsSettledOn Has text inputs held a) (second : IsSettledOn Has text inputs held b) where
      on_loading : (p : Point) → IsLoading text p → a p ≡ b p
      on_loading p loads = all_loads.runs.settles_once inputs held a b (loading_part a first) (loading_part b second) p loads

      once_below : (n : ℕ) (p : Point) → rank p < n → Is p → a p ≡ b p
      once_below zero p few design = absurd (omega (arith, few))
      once_below (suc n) p few design =
          elim (ranked.lower p design) [
            | inl loads ↦ on_loading p loads
            | inr source ↦ (
                let s = source.0 in
                (by_sources a (loading_part a first)).0 first p s design source.1
                ∙ same_value inputs held a b p s (λ k d within. elim (source.2 k d within) [
                  | inl loads ↦ on_loading _ loads
                  | inr less ↦ once_below n _ (omega (arith, less, few)) (reads_design p s source.1 k d within)
                ])
                ∙ sym ((by_sources b (loading_part b second)).0 second p s design source.1))
          ]

      pub at_most_once : (p : Point) → Has p → a p ≡ b p
      at_most_once p (inl design) = once_below (suc (rank p)) p (omega arith) design
      at_most_once p (inr loads) = on_loading p loads

    -- ---- at least one

    abbrev Lower : Point × Source → Type 0
    Lower row = All (λ q. IsLoading text q ⊎ (rank q < rank row.0)) (source_reads row.1)

    abbrev Sound : Point × Source → Type 0
    Sound row = HasSource fabric packed implementation row.0 row.1 × IsOfDesign fabric packed implementation row.0 × Lower row

    abbrev Chosen : Point → Type 0
    Chosen p = IsLoading text p ⊎ ((s : Source) × HasSource fabric packed implementation p s × Lower (p, s))

    -- each point with the source by which it is ranked
    abbrev with_choice : (p : Point) → Chosen p → List (Point × Source) → List (Point × Source)
    with_choice p (inl loads) rest = rest
    with_choice p (inr source) rest = (p, source.0) ∷ rest

    sound_choice : (p : Point) (c : Chosen p) (rest : List (Point × Source)) → Is p → All Sound rest → All Sound (with_choice p c rest)
    sound_choice p (inl loads) rest design all = all
    sound_choice p (inr source) rest design all = All-cons Sound (p, source.0) rest (source.1, design, source.2) all

    whole_choice : (p : Point) (c : Chosen p) (rest : List (Point × Source)) → IsLoading text p ⊎ (listed_in (with_choice p c rest) p ≡ true)
    whole_choice p (inl loads) rest = inl loads
    whole_choice p (inr source) rest = inr (let e = same_point_refl p in rw e refl)

    keeps_choice : (p : Point) (c : Chosen p) (rest : List (Point × Source)) (q : Point) → listed_in rest q ≡ true → listed_in (with_choice p c rest) q ≡ true
    keeps_choice p (inl loads) rest q listed = listed
    keeps_choice p (inr source) rest q listed = elim (cases_Bool (same_point q p)) [ inl here ↦ rw here refl | inr past ↦ rw past listed ]

    abbrev Given : Point × Source → Type 0
    Given row = HasSource fabric packed implementation row.0 row.1 × IsSourced fabric packed implementation row.0

    abbrev choose : (given : List (Point × Source)) → All Given given → List (Point × Source)
    choose [] all = []
    choose (row ∷ given) all = with_choice row.0 (ranked.lower row.0 (inr (All-head Given row given all).1)) (choose given (All-tail Given row given all))

    sound_chosen : (given : List (Point × Source)) (all : All Given given) → All Sound (choose given all)
    sound_chosen [] all = All-nil Sound
    sound_chosen (row ∷ given) all =
        let design : Is row.0 = inr (All-head Given row given all).1 in
        sound_choice row.0 (ranked.lower row.0 design) (choose given (All-tail Given row given all)) design (sound_chosen given (All-tail Given row given all))

    whole_chosen : (given : List (Point × Source)) (all : All Given given) (p : Point) → listed_in given p ≡ true → IsLoading text p ⊎ (listed_in (choose given all) p ≡ true)
    whole_chosen [] all p listed = absurd (false≢true listed)
    whole_chosen (row ∷ given) all p listed =
        let c = ranked.lower row.0 (inr (All-head Given row given all).1) in
        let rest = choose given (All-tail Given row given all) in
        elim (cases_Bool (same_point p row.0)) [
          | inl here ↦ subst (λ q. IsLoading text q ⊎ (listed_in (with_choice row.0 c rest) q ≡ true)) (sym (same_point_is p row.0 here)) (whole_choice row.0 c rest)
          | inr past ↦ elim (whole_chosen given (All-tail Given row given all) p (rw past at listed)) [
            | inl loads ↦ inl loads
            | inr later ↦ inr (keeps_choice row.0 c rest p later)
          ]
        ]

    rows : List (Point × Source)
    rows = (let given = design_is_listed fabric packed fixed implementation are made legal in choose given.0 given.1)

    sound : All Sound rows
    unfolding rows
    sound = (let given = design_is_listed fabric packed fixed implementation are made legal in sound_chosen given.0 given.1)

    complete : (p : Point) → Is p → IsLoading text p ⊎ (listed_in rows p ≡ true)
    unfolding rows
    complete p (inl configuration) = inl (configuration_point_loads fabric text is are is_text p configuration)
    complete p (inr sourced) =
        let given = design_is_listed fabric packed fixed implementation are made legal in
        let listed = given.2 p sourced in
        whole_chosen given.0 given.1 p (row_listed given.0 p listed.0 listed.1)

    loading : Point → Bool
    loading = (decide text is_text.sound).0

    loading_is : (p : Point) → loading p ≡ true → IsLoading text p
    unfolding loading
    loading_is p = (decide text is_text.sound).1.sound p

    is_loading : (p : Point) → IsLoading text p → loading p ≡ true
    unfolding loading
    is_loading p = (decide text is_text.sound).1.whole p

    abbrev has : Point → Bool
    has p = listed_in rows p && not (loading p)

    abbrev source_of : Point → Source
    source_of p = source_in rows p

    of_has : (p : Point) → has p ≡ true → Sound (p, source_of p) × (loading p ≡ false)
    of_has p is_has =
        let parts = and_parts (listed_in rows p) (not (loading p)) is_has in
        (found_in Sound rows p sound parts.0, (elim (cases_Bool (loading p)) [ inl t ↦ absurd (false≢true (sym (ap not t) ∙ parts.1)) | inr f ↦ f ]))

    has_of : (p : Point) → Is p → loading p ≡ false → has p ≡ true
    has_of p design other =
        elim (complete p design) [
          | inl loads ↦ absurd (false≢true (sym other ∙ is_loading p loads))
          | inr listed ↦ rw (listed, other) refl
        ]

    abbrev next : Point → Assignment → Bool
    next p a = source_value inputs held a p (source_of p)

    abbrev reads_of : Point → Point → Bool
    reads_of p q = list_any (λ r. same_point r q) (source_reads (source_of p))

    reads_listed : (qs : List Point) (q : Point) → list_any (λ r. same_point r q) qs ≡ true → Contains qs q
    reads_listed [] q is_read = absurd (false≢true is_read)
    reads_listed (r ∷ qs) q is_read =
        elim (cases_Bool (same_point r q)) [
          | inl here ↦ (0, omega arith, same_point_is r q here)
          | inr past ↦ (let rest = reads_listed qs q (rw past at is_read) in (suc rest.0, (let few = rest.1 in omega (arith, few)), rest.2))
        ]

    listed_reads : (qs : List Point) (P : Point → Type 0) → ((q : Point) → list_any (λ r. same_point r q) qs ≡ true → P q) → All P qs
    listed_reads [] P each = All-nil P
    listed_reads (r ∷ qs) P each =
        let here = same_point_refl r in
        All-cons P r qs (each r (rw here refl)) (listed_reads qs P (λ q is_read. each q (elim (cases_Bool (same_point r q)) [ inl t ↦ rw t refl | inr f ↦ rw f is_read ])))

    is_ranked : systems.IsRanked has loading reads_of rank ranks
    is_ranked = record {
      bound = λ p is_has. ranked.bound p (of_has p is_has).0.1;
      apart = λ p loads. (elim (cases_Bool (has p)) [ inl t ↦ absurd (false≢true (sym (of_has p t).1 ∙ loads)) | inr f ↦ f ]);
      lower = λ p q is_has is_read. (
          let found = (of_has p is_has).0 in
          let there = reads_listed (source_reads (source_of p)) q is_read in
          let design : Is q = All-contains Is (source_reads (source_of p)) q (reads_design p (source_of p) found.0) there in
          let below = All-contains (λ q. IsLoading text q ⊎ (rank q < rank p)) (source_reads (source_of p)) q found.2 there in
          elim (cases_Bool (loading q)) [
            | inl loads ↦ inl loads
            | inr other ↦ elim below [
              | inl loads ↦ absurd (false≢true (sym other ∙ is_loading q loads))
              | inr less ↦ inr (has_of q design other, less)
            ]
          ]);
    }

    reads_only : systems.ReadsOnly has reads_of next
    reads_only p a b is_has agree = same_value inputs held a b p (source_of p) (listed_reads (source_reads (source_of p)) (λ q. a q ≡ b q) agree)

    -- what a loading point shows depends on loading points alone
    loading_reads : (p : Point) (d : Driver) → IsLoading text p → Drives text p d → (q : Point) → reads text d q ≡ true → IsLoading text q
    loading_reads p d (flops, closed, within) drives q is_read = of within
      where
        of : Within text flops p → IsLoading text q
        of (by_flop declared flop_is) =
            let at = closed p flop_is in
            let driver = one text is_text.sound p declared in
            let same : d ≡ flop at.path at.clock at.next at.bit = driver.2 d drives ∙ sym (driver.2 (flop at.path at.clock at.next at.bit) at.drives) in
            absurd (false≢true (ap (λ e. reads text e q) (sym same) ∙ is_read))
        of (by_stream stream) =
            let driver = one text is_text.sound p stream.declared in
            let same : d ≡ outside = driver.2 d drives ∙ sym (driver.2 outside (inl stream.input)) in
            absurd (false≢true (ap (λ e. reads text e q) (sym same) ∙ is_read))
        of (by_reads e declared e_drives derived each) =
            let driver = one text is_text.sound p declared in
            let same : d ≡ e = driver.2 d drives ∙ sym (driver.2 e e_drives) in
            (flops, closed, each q (ap (λ e. reads text e q) (sym same) ∙ is_read))

    module _ (old : Assignment) where
      abbrev moment : Moment
      moment = record { inputs = inputs; clock = clock_name }

      shown_first : (now : Assignment) × IsSettledOn (IsLoading text) text inputs held now
      shown_first =
          let run = all_loads.runs.exists (moment ∷ []) (All-cons IsClockLow moment [] low (All-nil IsClockLow)) held in
          (run.1.0, run.1.2)

      abbrev base : Assignment
      base p = if loading p then shown_first.0 p else old p

      solved : (new : Assignment) × systems.IsSettledFrom has next base new
      solved = (system has loading reads_of rank ranks next is_ranked reads_only).0 base

      abbrev new : Assignment
      new = solved.0

      new_loading : (p : Point) → IsLoading text p → new p ≡ shown_first.0 p
      new_loading p loads =
          let t = is_loading p loads in
          let none : has p ≡ false = elim (cases_Bool (has p)) [ inl h ↦ absurd (false≢true (sym (of_has p h).1 ∙ t)) | inr f ↦ f ] in
          solved.1.others p none ∙ ap (λ b. if b then shown_first.0 p else old p) t

      new_settles_loading : IsSettledOn (IsLoading text) text inputs held new
      new_settles_loading p d loads drives =
          new_loading p loads ∙ shown_first.1 p d loads drives
          ∙ sym (shown_same text inputs held new shown_first.0 p d (λ q is_read. new_loading q (loading_reads p d loads drives q is_read)))

      new_sources : (p : Point) (s : Source) → Is p → HasSource fabric packed implementation p s → new p ≡ source_value inputs held new p s
      new_sources p s design source =
          let knows : KnowsBits fabric bits (λ q. known (new q)) = shown_is_known fabric text bits inputs held new (λ q. known (new q)) is is_text (will_show new new_settles_loading) new_settles_loading (λ q loads. refl) in
          elim (cases_Bool (loading p)) [
            | inl loads ↦ settled_source text inputs held new p s (reads_few fabric packed fixed implementation are legal made p s source)
                (sources_show fabric text packed fixed implementation bits inputs held (λ q. known (new q)) is are is_text made legal configures knows p s source)
                (IsLoading text) new_settles_loading (loading_is p loads)
            | inr other ↦ (
                let is_has = has_of p design other in
                solved.1.settled p is_has
                ∙ sources_agree one fabric text packed fixed implementation bits inputs held new is are is_text made legal configures knows p (source_of p) s (of_has p is_has).0.0 source)
          ]

      new_others : (p : Point) → (Has p → ⊥) → new p ≡ old p
      new_others p none =
          let no_has : has p ≡ false = elim (cases_Bool (has p)) [ inl h ↦ absurd (none (inl (of_has p h).0.1)) | inr f ↦ f ] in
          let no_load : loading p ≡ false = elim (cases_Bool (loading p)) [ inl t ↦ absurd (none (inr (loading_is p t))) | inr f ↦ f ] in
          solved.1.others p no_has ∙ ap (λ b. if b then shown_first.0 p else old p) no_load

      at_least_one : (now : Assignment) × IsSettledOn Has text inputs held now × ((p : Point) → (Has p → ⊥) → now p ≡ old p)
      at_least_one = (new, (by_sources new new_settles_loading).1 new_sources, new_others)

    -- ---- ticks

    kept_by : (clock : List ℕ) (now : Assignment) (p : Point) (declared : Bool) → is_declared text p ≡ declared → Bool
    kept_by clock now p true is_there = kept text clock held now p (one text is_text.sound p is_there).0
    kept_by clock now p false is_there = false

    kept_is : (clock : List ℕ) (now : Assignment) (p : Point) (d : Driver) (declared : Bool) (e : is_declared text p ≡ declared) → declared ≡ true → Drives text p d →
        kept_by clock now p declared e ≡ kept text clock held now p d
    unfolding kept_by
    kept_is clock now p d true e holds drives = ap (kept text clock held now p) (sym ((one text is_text.sound p e).2 d drives))
    kept_is clock now p d false e holds drives = absurd (false≢true holds)

    one_tick : (clock : List ℕ) (now : Assignment) → (next : Assignment) × Ticks Has text clock held now next
    one_tick clock now = (
      (λ p. kept_by clock now p (is_declared text p) refl),
      (λ p d has_point drives. kept_is clock now p d (is_declared text p) refl (design_is_declared fabric text packed fixed implementation is are is_text made legal p has_point) drives),
    )

    pub design_once : headline.SettlesOnce Has text inputs held
    design_once = record { exists = at_least_one; once = at_most_once; ticks = one_tick }

  pub shown_settles_once : ShownDesignSettlesOnce
  shown_settles_once fabric text packed fixed implementation bits inputs held rank ranks is are is_text made legal configures will_show low ranked =
      design_once fabric text packed fixed implementation bits inputs held rank ranks is are is_text made legal configures will_show low ranked

  pub ranked_settles_once : RankedDesignSettlesOnce
  ranked_settles_once fabric text packed fixed implementation bits inputs held rank ranks is are is_text made legal configures configured low ranked =
      design_once fabric text packed fixed implementation bits inputs held rank ranks is are is_text made legal configures
      (λ now settled. configured_show fabric text bits inputs held now is is_text configured settled) low ranked
