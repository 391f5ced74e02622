-- The steps of a search.
use Rattle.std.proofs.Common.{◌≡◌, ◌≢◌, ◌⊎◌, ℕ, zero, suc, ◌<◌, true, false, ◌&&◌, List, [], ◌∷◌, length, set, slice_get, Contains, Some, refl, sym, ap, ◌∙◌, subst, inl, inr, arith}
use Rattle.std.proofs.lemmas.Bool.{cases_eq, false≢true, and_parts, or_cases}
use Rattle.std.proofs.lemmas.Option.{slice_get_within}
use Rattle.fab_syntax.specs.Plain.{PlainExpr, PlainModule}
use Rattle.fab_meaning.specs.Points.{Path, Point, point, Driver, outside, copy, bit_of, flop, hold, Drives}
use Rattle.fab_meaning.specs.Reads.{is_declared, mentions, same_path, expression_reads, reads}
use Rattle.fab_meaning.specs.Loading.{IsStream, IsDerived, Within, by_flop, by_stream, by_reads}
use Rattle.fab_meaning.proofs.Dependence.{same_point_is}
use Rattle.fab_equations.proofs.Placing.{get_set_other}
use Rattle.fab_load_points.specs.inner.Causes.{StandsFor, AreReads, IsFlop}
use Rattle.fab_load_points.specs.inner.Search.{Scene, Waits, AreBelow, Reaches, reads_it, through, LeadsTo, IsPath, IsInside, Follow, IsSearch, given_up, entered}
use Rattle.fab_load_points.specs.declared.search.Status.{Status}
use Rattle.fab_load_points.specs.declared.search.Status.TheVariants.{New, Waiting, Inside, Outside}
use Rattle.fab_load_points.specs.declared.search.Visit.{Visit}
use Rattle.fab_load_points.specs.declared.search.Visit.TheVariants.{Enter, Leave}
use Rattle.fab_load_points.proofs.Statuses.{set_there, set_cases, given_each, given_waits, given_others}
use Rattle.fab_load_points.proofs.Names.{point_declared, one_point}
use Rattle.fab_load_points.proofs.Bits.{same_driver, copied_bit, copied_declared, all_bits}

-- ---- drivers

flop_or_derived : (d : Driver) → IsFlop d → IsDerived d → ⊥
flop_or_derived outside f derived = f
flop_or_derived (copy other) f derived = f
flop_or_derived (bit_of path e bit) f derived = f
flop_or_derived (flop path clock next bit) f derived = derived
flop_or_derived (hold path gate e bit) f derived = f

pub expression_declared : (text : List PlainModule) (path : Path) (e : PlainExpr) (q : Point) → expression_reads text path e q ≡ true → is_declared text q ≡ true
expression_declared text path e q h =
    let both = and_parts (same_path path q.path) (mentions e q.name && is_declared text q) h in (and_parts (mentions e q.name) (is_declared text q) both.1).1

-- ---- the stack

pub below_entered : (count : ℕ) (names : List ℕ) (visits : List Visit) → ((name : ℕ) → Contains names name → name < count) → AreBelow count visits → AreBelow count (entered names visits)
below_entered count [] visits below there = there
below_entered count (name ∷ names) visits below there =
    below_entered count names (Enter name ∷ visits) (λ other c. below other (suc c.0, omega (arith, c.1), c.2)) (below name (0, omega arith, refl), there)

-- ---- a search

module _ (text : List PlainModule) (scene : Scene text) where
  abbrev driver_once : (p : Point) (d e : Driver) → Drives text p d → Drives text p e → d ≡ e
  driver_once = same_driver text scene.sound

  -- what a derived point of the set reads is in it
  read_inside : (p : Point) → Within text scene.left p → (d : Driver) → Drives text p d → IsDerived d → (q : Point) → reads text d q ≡ true → Within text scene.left q
  read_inside p (by_flop declared f) d drives derived q r =
      let own = scene.flops p f in
      absurd (flop_or_derived d (subst IsFlop (driver_once p own.0 d own.1 drives) own.2) derived)
  read_inside p (by_stream is) d drives derived q r = absurd (subst IsDerived (driver_once p d outside drives (inl is.input)) derived)
  read_inside p (by_reads e declared own known inside) d drives derived q r =
      inside q (subst (λ (x : Driver). reads text x q ≡ true) (driver_once p d e drives own) r)

  reaches_inside : (p q : Point) → Reaches text p q → Within text scene.left p → Within text scene.left q
  reaches_inside p q (reads_it d drives derived r) within = read_inside p within d drives derived q r
  reaches_inside p q (through d middle drives derived r rest) within = reaches_inside middle q rest (read_inside p within d drives derived middle r)

  then_reads : (p q : Point) → Reaches text p q → (d : Driver) → Drives text q d → IsDerived d → (r : Point) → reads text d r ≡ true → Reaches text p r
  then_reads p q (reads_it e own known a) d drives derived r h = through e q own known a (reads_it d drives derived h)
  then_reads p q (through e middle own known a rest) d drives derived r h = through e middle own known a (then_reads middle q rest d drives derived r h)

  -- the first step of a way
  record FirstStep (p q : Point) : Type 0 where
    pub by : Driver
    pub drives : Drives text p by
    pub derived : IsDerived by
    pub middle : Point
    pub read : reads text by middle ≡ true
    pub rest : (middle ≡ q) ⊎ Reaches text middle q

  first_step : (p q : Point) → Reaches text p q → FirstStep p q
  first_step p q (reads_it d drives derived r) = record { by = d; drives = drives; derived = derived; middle = q; read = r; rest = inl refl }
  first_step p q (through d middle drives derived r rest) = record { by = d; drives = drives; derived = derived; middle = middle; read = r; rest = inr rest }

  -- no point of the set reads itself, not even through others
  acyclic : (p : Point) → Within text scene.left p → Reaches text p p → ⊥
  acyclic p (by_flop declared f) way =
      let s = first_step p p way in
      let own = scene.flops p f in
      flop_or_derived s.by (subst IsFlop (driver_once p own.0 s.by own.1 s.drives) own.2) s.derived
  acyclic p (by_stream is) way = let s = first_step p p way in subst IsDerived (driver_once p s.by outside s.drives (inl is.input)) s.derived
  acyclic p (by_reads e declared own known inside) way =
      let s = first_step p p way in
      let read : reads text e s.middle ≡ true = subst (λ (x : Driver). reads text x s.middle ≡ true) (driver_once p s.by e s.drives own) s.read in
      let around : Reaches text s.middle s.middle =
      elim s.rest [
        | inl same ↦ subst (λ q. Reaches text q s.middle) (sym same) (reads_it s.by s.drives s.derived s.read)
        | inr rest ↦ then_reads s.middle p rest s.by s.drives s.derived s.middle s.read
      ] in
      acyclic s.middle (inside s.middle read) around

  -- ---- what a look at a name tells

  pub flop_outside : (p : Point) (d : Driver) → Drives text p d → IsFlop d → scene.left p ≡ false → ¬ Within text scene.left p
  flop_outside p d drives is not (by_flop declared f) = false≢true (sym not ∙ f)
  flop_outside p d drives is not (by_stream stream) = subst IsFlop (driver_once p d outside drives (inl stream.input)) is
  flop_outside p d drives is not (by_reads e declared own derived inside) = flop_or_derived e (subst IsFlop (driver_once p d e drives own) is) derived

  pub input_outside : (p : Point) → Drives text p outside → ¬ IsStream text p → ¬ Within text scene.left p
  input_outside p drives not (by_flop declared f) = let own = scene.flops p f in subst IsFlop (driver_once p own.0 outside own.1 drives) own.2
  input_outside p drives not (by_stream stream) = not stream
  input_outside p drives not (by_reads e declared own derived inside) = subst IsDerived (driver_once p e outside own drives) derived

  -- ---- statuses

  -- the part of a search that speaks of statuses
  record AreTold (statuses : List Status) (visits : List Visit) : Type 0 where
    pub inside : (name : ℕ) (p : Point) → StandsFor text name p → slice_get statuses name ≡ Some Inside → Within text scene.all p
    pub outside : (name : ℕ) (p : Point) → StandsFor text name p → slice_get statuses name ≡ Some Outside → ¬ Within text scene.left p
    pub flops : (name : ℕ) (p : Point) → StandsFor text name p → scene.left p ≡ true → slice_get statuses name ≡ Some Inside
    pub waiting : (name : ℕ) → slice_get statuses name ≡ Some Waiting → Waits visits name

  told_of : (statuses : List Status) (visits : List Visit) → IsSearch text scene statuses visits → AreTold statuses visits
  told_of statuses visits s = record { inside = s.inside; outside = s.outside; flops = s.flops; waiting = s.waiting }

  -- a visit to enter is none that waits
  told_under : (statuses : List Status) (name : ℕ) (visits : List Visit) → IsSearch text scene statuses (Enter name ∷ visits) → AreTold statuses visits
  told_under statuses name visits s = record { inside = s.inside; outside = s.outside; flops = s.flops; waiting = s.waiting }

  searched : (statuses : List Status) (visits : List Visit) → AreTold statuses visits → IsPath text visits → Follow text scene visits → IsSearch text scene statuses visits
  searched statuses visits t path follow = record { inside = t.inside; outside = t.outside; flops = t.flops; waiting = t.waiting; path = path; follow = follow }

  -- a first point of the flip-flops that are left is in their set
  left_within : (name : ℕ) (p : Point) → StandsFor text name p → scene.left p ≡ true → Within text scene.left p
  left_within name p stands f = by_flop (point_declared text scene.sound name p stands.is) f

  told_inside : (statuses : List Status) (visits others : List Visit) (name : ℕ) → name < length statuses → IsInside text scene name →
      ((other : ℕ) → other ≢ name → Waits visits other → Waits others other) → AreTold statuses visits → AreTold (set statuses name Inside) others
  told_inside statuses visits others name l within still t = record {
    inside = λ other p stands e.
        elim (set_cases statuses name other Inside Inside e) [
          | inl same ↦ within p (subst (λ k. StandsFor text k p) same.0 stands)
          | inr apart ↦ t.inside other p stands apart.1
        ];
    outside = λ other p stands e.
        elim (set_cases statuses name other Inside Outside e) [
          | inl same ↦ (let apart = same.1 in cc)
          | inr apart ↦ t.outside other p stands apart.1
        ];
    flops = λ other p stands f.
        elim (cases_eq other name) [
          | inl same ↦ subst (λ k. slice_get (set statuses name Inside) k ≡ Some Inside) (sym same) (set_there statuses name Inside l)
          | inr apart ↦ get_set_other statuses name other Inside apart ∙ t.flops other p stands f
        ];
    waiting = λ other e.
        elim (set_cases statuses name other Inside Waiting e) [
          | inl same ↦ (let apart = same.1 in cc)
          | inr apart ↦ still other apart.0 (t.waiting other apart.1)
        ];
  }

  -- no first point of a name is in the set of those that are left
  abbrev pub IsOutside : ℕ → Type 0
  IsOutside name = (p : Point) → StandsFor text name p → ¬ Within text scene.left p

  told_outside : (statuses : List Status) (visits : List Visit) (name : ℕ) → IsOutside name → AreTold statuses visits → AreTold (set statuses name Outside) visits
  told_outside statuses visits name not t = record {
    inside = λ other p stands e.
        elim (set_cases statuses name other Outside Inside e) [
          | inl same ↦ (let apart = same.1 in cc)
          | inr apart ↦ t.inside other p stands apart.1
        ];
    outside = λ other p stands e.
        elim (set_cases statuses name other Outside Outside e) [
          | inl same ↦ not p (subst (λ k. StandsFor text k p) same.0 stands)
          | inr apart ↦ t.outside other p stands apart.1
        ];
    flops = λ other p stands f.
        elim (cases_eq other name) [
          | inl same ↦ absurd (not p (subst (λ k. StandsFor text k p) same stands) (left_within other p stands f))
          | inr apart ↦ get_set_other statuses name other Outside apart ∙ t.flops other p stands f
        ];
    waiting = λ other e.
        elim (set_cases statuses name other Outside Waiting e) [
          | inl same ↦ (let apart = same.1 in cc)
          | inr apart ↦ t.waiting other apart.1
        ];
  }

  told_waiting : (statuses : List Status) (visits others : List Visit) (name : ℕ) → slice_get statuses name ≡ Some New →
      Waits others name → ((other : ℕ) → Waits visits other → Waits others other) → AreTold statuses visits → AreTold (set statuses name Waiting) others
  told_waiting statuses visits others name new here still t = record {
    inside = λ other p stands e.
        elim (set_cases statuses name other Waiting Inside e) [
          | inl same ↦ (let apart = same.1 in cc)
          | inr apart ↦ t.inside other p stands apart.1
        ];
    outside = λ other p stands e.
        elim (set_cases statuses name other Waiting Outside e) [
          | inl same ↦ (let apart = same.1 in cc)
          | inr apart ↦ t.outside other p stands apart.1
        ];
    flops = λ other p stands f.
        elim (cases_eq other name) [
          | inl same ↦ (let known : slice_get statuses name ≡ Some Inside = ap (slice_get statuses) (sym same) ∙ t.flops other p stands f in
              let both : Some New ≡ Some Inside = sym new ∙ known in cc)
          | inr apart ↦ get_set_other statuses name other Waiting apart ∙ t.flops other p stands f
        ];
    waiting = λ other e.
        elim (set_cases statuses name other Waiting Waiting e) [
          | inl same ↦ subst (Waits others) (sym same.0) here
          | inr apart ↦ still other (t.waiting other apart.1)
        ];
  }

  told_given_up : (statuses : List Status) (visits : List Visit) → ((name : ℕ) → Waits visits name → IsOutside name) → AreTold statuses visits → AreTold (given_up visits statuses) []
  told_given_up statuses visits not t = record {
    inside = λ name p stands e.
        elim (given_each visits statuses name Inside e) [
          | inl there ↦ t.inside name p stands there
          | inr more ↦ (let apart = more.0 in cc)
        ];
    outside = λ name p stands e.
        elim (given_each visits statuses name Outside e) [
          | inl there ↦ t.outside name p stands there
          | inr more ↦ not name more.1 p stands
        ];
    flops = λ name p stands f. given_others visits statuses name (λ w. not name w p stands (left_within name p stands f)) ∙ t.flops name p stands f;
    waiting = λ name e.
        elim (given_each visits statuses name Waiting e) [
          | inl there ↦ (let gone = given_waits visits statuses name (slice_get_within statuses name Waiting there) (t.waiting name there) in
              let both : Some Waiting ≡ Some Outside = sym e ∙ gone in cc)
          | inr more ↦ (let apart = more.0 in cc)
        ];
  }

  -- ---- all that wait are outside where the latest name is

  waits_stand : (visits : List Visit) → IsPath text visits → (name : ℕ) → Waits visits name → (p : Point) × StandsFor text name p
  waits_stand [] path name w = absurd w
  waits_stand (Enter other ∷ visits) path name w = waits_stand visits path.2 name w
  waits_stand (Leave other ∷ visits) path name (inl same) = (path.0.0, subst (λ k. StandsFor text k path.0.0) same path.0.1)
  waits_stand (Leave other ∷ visits) path name (inr w) = waits_stand visits path.2 name w

  refuted : (name : ℕ) (visits : List Visit) → IsPath text (Enter name ∷ visits) → IsOutside name → (other : ℕ) → Waits visits other → IsOutside other
  refuted name visits path not other w p stands within =
      not path.0.0 path.0.1 (reaches_inside p path.0.0 (path.1 other w p path.0.0 stands path.0.1) within)

  pub step_given_up : (statuses : List Status) (name : ℕ) (visits : List Visit) → IsOutside name → IsSearch text scene statuses (Enter name ∷ visits) →
      IsSearch text scene (given_up visits statuses) []
  step_given_up statuses name visits not s =
      let t = told_under statuses name visits s in
      searched (given_up visits statuses) [] (told_given_up statuses visits (refuted name visits s.path not) t) tt tt

  pub step_outside : (statuses : List Status) (name : ℕ) (visits : List Visit) → IsOutside name → IsSearch text scene statuses (Enter name ∷ visits) →
      IsSearch text scene (given_up visits (set statuses name Outside)) []
  step_outside statuses name visits not s =
      let t : AreTold (set statuses name Outside) visits = told_outside statuses visits name not (told_under statuses name visits s) in
      searched (given_up visits (set statuses name Outside)) [] (told_given_up (set statuses name Outside) visits (refuted name visits s.path not) t) tt tt

  pub step_known : (statuses : List Status) (name : ℕ) (visits : List Visit) → slice_get statuses name ≡ Some Outside → IsSearch text scene statuses (Enter name ∷ visits) →
      IsSearch text scene (given_up visits statuses) []
  step_known statuses name visits is s = step_given_up statuses name visits (λ p stands. s.outside name p stands is) s

  -- a name that waits for itself
  pub step_around : (statuses : List Status) (name : ℕ) (visits : List Visit) → slice_get statuses name ≡ Some Waiting → IsSearch text scene statuses (Enter name ∷ visits) →
      IsSearch text scene (given_up visits statuses) []
  step_around statuses name visits is s =
      step_given_up statuses name visits (λ p stands within. acyclic p within (s.path.1 name (s.waiting name is) p p stands stands)) s

  pub step_inside : (statuses : List Status) (name : ℕ) (visits : List Visit) → slice_get statuses name ≡ Some Inside → IsSearch text scene statuses (Enter name ∷ visits) →
      IsSearch text scene statuses visits
  step_inside statuses name visits is s =
      searched statuses visits (told_under statuses name visits s) s.path.2 (s.follow (λ p stands. s.inside name p stands is))

  pub step_leave : (statuses : List Status) (name : ℕ) (visits : List Visit) → name < length statuses → IsSearch text scene statuses (Leave name ∷ visits) →
      IsSearch text scene (set statuses name Inside) visits
  step_leave statuses name visits l s =
      searched (set statuses name Inside) visits
      (told_inside statuses (Leave name ∷ visits) visits name l s.follow.0
      (λ other apart w. elim w [ inl same ↦ absurd (apart (sym same)) | inr more ↦ more ]) (told_of statuses (Leave name ∷ visits) s)) s.path.2 s.follow.1

  pub step_enter_inside : (statuses : List Status) (name : ℕ) (visits : List Visit) → name < length statuses → IsInside text scene name →
      IsSearch text scene statuses (Enter name ∷ visits) → IsSearch text scene (set statuses name Inside) visits
  step_enter_inside statuses name visits l within s =
      searched (set statuses name Inside) visits
      (told_inside statuses visits visits name l within (λ other apart w. w) (told_under statuses name visits s)) s.path.2 (s.follow within)

  -- ---- a name that waits for those that it reads

  path_entered : (names : List ℕ) (visits : List Visit) → IsPath text visits →
      ((name : ℕ) → Contains names name → ((p : Point) × StandsFor text name p) × ((other : ℕ) → Waits visits other → LeadsTo text other name)) →
      IsPath text (entered names visits)
  path_entered [] visits path each = path
  path_entered (name ∷ names) visits path each =
      let here = each name (0, omega arith, refl) in
      path_entered names (Enter name ∷ visits) (here.0, here.1, path) (λ other c. each other (suc c.0, omega (arith, c.1), c.2))

  follow_entered : (names : List ℕ) (visits : List Visit) → (((name : ℕ) → Contains names name → IsInside text scene name) → Follow text scene visits) →
      Follow text scene (entered names visits)
  follow_entered [] visits follow = follow (λ name c. absurd (omega (arith, c.1)))
  follow_entered (name ∷ names) visits follow =
      follow_entered names (Enter name ∷ visits)
      (λ all here. follow (λ other c. pick other c all here))
    where
      pick : (other : ℕ) → Contains (name ∷ names) other → ((o : ℕ) → Contains names o → IsInside text scene o) → IsInside text scene name → IsInside text scene other
      pick other (zero, b, e) all here = subst (IsInside text scene) e here
      pick other (suc k, b, e) all here = all other (k, omega (arith, b), e)

  waits_entered : (names : List ℕ) (visits : List Visit) (name : ℕ) → Waits visits name → Waits (entered names visits) name
  waits_entered [] visits name w = w
  waits_entered (other ∷ names) visits name w = waits_entered names (Enter other ∷ visits) name w

  -- what a declared derived point reads is declared
  read_declared : (p : Point) → is_declared text p ≡ true → (d : Driver) → Drives text p d → (q : Point) → reads text d q ≡ true → is_declared text q ≡ true
  read_declared p declared outside drives q r = absurd (false≢true r)
  read_declared p declared (flop path clock next bit) drives q r = absurd (false≢true r)
  read_declared p declared (bit_of path e bit) drives q r = expression_declared text path e q r
  read_declared p declared (hold path gate e bit) drives q r =
      elim (or_cases (expression_reads text path gate q) (expression_reads text path e q) r) [
        | inl g ↦ expression_declared text path gate q g
        | inr v ↦ expression_declared text path e q v
      ]
  read_declared p declared (copy other) drives q r =
      let bits : other.bit ≡ p.bit = copied_bit text p other drives in
      let there : is_declared text (point other.path other.name p.bit) ≡ true = copied_declared text scene.sound p other p.bit drives declared in
      subst (λ x. is_declared text x ≡ true) (same_point_is other q r) (subst (λ b. is_declared text (point other.path other.name b) ≡ true) (sym bits) there)

  -- a name is inside where all are that it reads
  reads_inside : (name : ℕ) (p : Point) (d : Driver) (numbers : List ℕ) → StandsFor text name p → Drives text p d → IsDerived d → AreReads text (reads text d) numbers →
      ((other : ℕ) → Contains numbers other → IsInside text scene other) → IsInside text scene name
  reads_inside name p d numbers stands drives derived all inside q other =
      let declared : is_declared text p ≡ true = point_declared text scene.sound name p stands.is in
      let within : Within text scene.all p =
      by_reads d declared drives derived
      (λ r h.
      let there : is_declared text r ≡ true = read_declared p declared d drives r h in
      let at = all.all r h there in
      all_bits text scene.sound scene.all scene.alike (point r.path r.name 0) r.bit there (inside at.0 at.1 (point r.path r.name 0) (record { is = at.2; first = refl }))) in
      subst (Within text scene.all) (one_point text scene.sound name p q stands other) within

  pub step_wait : (statuses : List Status) (name : ℕ) (visits : List Visit) (p : Point) (d : Driver) (numbers : List ℕ) → slice_get statuses name ≡ Some New →
      StandsFor text name p → Drives text p d → IsDerived d → AreReads text (reads text d) numbers → IsSearch text scene statuses (Enter name ∷ visits) →
      IsSearch text scene (set statuses name Waiting) (entered numbers (Leave name ∷ visits))
  step_wait statuses name visits p d numbers new stands drives derived all s =
      let read : (other : ℕ) → Contains numbers other → (q : Point) → StandsFor text other q → reads text d q ≡ true =
      λ other c q at. (let found = all.sound other c in
      subst (λ x. reads text d x ≡ true) (one_point text scene.sound other found.0 q found.1 at) found.2) in
      let reach : (other : ℕ) → Contains numbers other → (earlier : ℕ) → Waits (Leave name ∷ visits) earlier → LeadsTo text earlier other =
      λ other c earlier w q r from to.
      elim w [
        | inl same ↦ (let here : p ≡ q = one_point text scene.sound name p q stands (subst (λ k. StandsFor text k q) (sym same) from) in
            subst (λ x. Reaches text x r) here (reads_it d drives derived (read other c r to)))
        | inr more ↦ then_reads q p (s.path.1 earlier more q p from stands) d drives derived r (read other c r to)
      ] in
      searched (set statuses name Waiting) (entered numbers (Leave name ∷ visits))
      (told_waiting statuses visits (entered numbers (Leave name ∷ visits)) name new
      (waits_entered numbers (Leave name ∷ visits) name (inl refl))
      (λ other w. waits_entered numbers (Leave name ∷ visits) other (inr w)) (told_under statuses name visits s))
      (path_entered numbers (Leave name ∷ visits) (s.path.0, s.path.1, s.path.2)
      (λ other c. (let found = all.sound other c in (found.0, found.1), reach other c)))
      (follow_entered numbers (Leave name ∷ visits)
      (λ inside. let here = reads_inside name p d numbers stands drives derived all inside in (here, s.follow here)))

  -- ---- begin and end

  pub search_begins : (statuses : List Status) (name : ℕ) (p : Point) → StandsFor text name p → IsSearch text scene statuses [] → IsSearch text scene statuses (Enter name ∷ [])
  search_begins statuses name p stands s = record {
    inside = s.inside;
    outside = s.outside;
    flops = s.flops;
    waiting = s.waiting;
    path = ((p, stands), λ other w. absurd w, tt);
    follow = λ here. tt;
  }
