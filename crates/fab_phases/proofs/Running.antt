-- A cycle: what is fed is kept, outputs have the least solution, and what the tick leaves is kept again.
use Rattle.std.proofs.Common.{◌≡◌, ◌⊎◌, ℕ, zero, suc, ◌+◌, ◌<◌, Bool, List, [], ◌∷◌, length, map, Option, Some, None, refl, sym, ap, ◌∙◌, subst, inl, inr, arith}
use Rattle.std.specs.List.{slice_get}
use Rattle.std.proofs.lemmas.Bool.{cases_eq}
use Rattle.std.proofs.lemmas.Option.{slice_get_within, slice_get_cases}
use Rattle.fab_systems_laws.specs.Ternary.{unknown, IsBelow}
use Rattle.fab_systems_laws.specs.Ternary.{Tern as PlainTern}
use Rattle.fab_systems_laws.proofs.Order.{below_equal}
use Rattle.fab_ternary.specs.declared.Tern.{Tern}
use Rattle.fab_compiled.specs.Terns.{seen}
use Rattle.fab_compiled.specs.Leading.{PointTerns, IsMarked}
use Rattle.fab_network.specs.declared.network.Clock.TheVariants.{Loader, User, Other}
use Rattle.fab_network.specs.declared.network.Drive.{Drive}
use Rattle.fab_network.specs.declared.network.Drive.TheVariants.{Given, Flop, Same, Value, Hold}
use Rattle.fab_network.specs.declared.network.Network.{Network}
use Rattle.fab_network.specs.declared.network.Source.{Source}
use Rattle.fab_network.specs.Network.{source_tern}
use Rattle.fab_network.specs.Passes.{kept_tern, IsListed}
use Rattle.fab_network.specs.Solved.{IsLeast}
use Rattle.fab_demand.specs.Asked.{AsksMore, Asked, DiffersInOwn}
use Rattle.fab_demand.specs.Demand.{AreRegistersAsked, GivesOwn, IsAsked, IsKept, IsKeptBy, Shows, ShowsLeast}
use Rattle.fab_demand.specs.Laws.{KeptAgain}
use Rattle.fab_phases.specs.Lists.{Each, HasOne}
use Rattle.fab_phases.specs.Cycles.{IsAskedFor, IsFed, IsIn, IsRunningAt, IsTicked}
use Rattle.fab_phases.specs.Running.{IsTickedOwn, written_by}
use Rattle.fab_phases.proofs.Gathered.{below}

-- ---- numbers in a list

one_behind : {X : Type 0} (P : X → Type 0) (x : X) (xs : List X) → HasOne xs P → HasOne (x ∷ xs) P
one_behind P x xs one = (suc one.0, one.1, one.2, one.3)

not_in_cons : (n : ℕ) (numbers : List ℕ) (p : ℕ) → (n ≡ p → ⊥) → (IsIn numbers p → ⊥) → IsIn (n ∷ numbers) p → ⊥
not_in_cons n numbers p apart absent (zero, x, e, is) = let same : n ≡ x = cc in apart (same ∙ is)
not_in_cons n numbers p apart absent (suc k, x, e, is) = absent (k, x, e, is)

pub in_or_not : (numbers : List ℕ) (p : ℕ) → IsIn numbers p ⊎ (IsIn numbers p → ⊥)
in_or_not [] p = inr (λ one. let e : slice_get [] one.0 ≡ Some one.1 = one.2 in cc)
in_or_not (n ∷ numbers) p =
    elim (cases_eq n p) [
      | inl e ↦ inl (0, n, refl, e)
      | inr apart ↦ elim (in_or_not numbers p) [ inl one ↦ inl (one_behind (λ other. other ≡ p) n numbers one) | inr absent ↦ inr (not_in_cons n numbers p apart absent) ]
    ]

-- ---- what is fed

-- a value for each of the inputs
value_at : (values : List Bool) (place : ℕ) → place < length values → (value : Bool) × (slice_get values place ≡ Some value)
value_at values place less =
    elim (slice_get_cases values place).1 [ inl some ↦ (some.0, some.2) | inr past ↦ absurd (omega (arith, past.0)) ]

pub fed_kept : (network : Network) (ins outs : List ℕ) (demand : Asked) (values : List Bool) (held later : PointTerns) → (for : IsAskedFor network ins outs demand) →
    IsKept network User for.base for.asked.terns for.asked.leads held → IsFed ins values held later → IsKept network User for.base for.asked.terns for.asked.leads later
fed_kept network ins outs demand values held later for kept fed point =
    let by : (later : PlainTern) → Option Drive → Type 0 = λ l drive. IsKeptBy network.trees.items User for.asked.terns for.asked.leads (for.base point) l drive in
    elim (in_or_not ins point) [
      | inl one ↦
          let input = for.inputs one.0 one.1 one.2 in
          subst (by (later point)) (sym (ap (slice_get network.drives.items) (sym one.3) ∙ input.0))
          (subst (λ (t : PlainTern). IsBelow t (later point)) (sym (ap for.base (sym one.3) ∙ input.1)) tt)
      | inr absent ↦ subst (λ (l : PlainTern). by l (slice_get network.drives.items point)) (sym (fed.others point absent)) (kept point)
    ]

-- the points that stand for themselves are given the same
pub fed_own : (network : Network) (ins outs : List ℕ) (demand : Asked) (old given : List Tern) (values : List Bool) (held later : PointTerns) →
    (at : IsRunningAt network ins outs demand old held) → length values ≡ length ins → IsFed ins values (kept_tern old) (kept_tern given) → IsFed ins values held later →
    GivesOwn at.asked_for.asked given later
fed_own network ins outs demand old given values held later at long array fed point listed =
    elim (in_or_not ins point) [
      | inl one ↦
          let value = value_at values one.0 (omega (arith, slice_get_within ins one.0 one.1 one.2)) in
          let here : slice_get ins one.0 ≡ Some point = one.2 ∙ ap (λ (p : ℕ). Some p) one.3 in
          array.fed one.0 point value.0 here value.1 ∙ sym (fed.fed one.0 point value.0 here value.1)
      | inr absent ↦ array.others point absent ∙ at.own point listed absent ∙ sym (fed.others point absent)
    ]

-- ---- a cycle

-- what has been asked for has the least solution
pub cycle_shows : (network : Network) (ins outs : List ℕ) (demand after : Asked) (old given : List Tern) (values : List Bool) (held later t : PointTerns) →
    (at : IsRunningAt network ins outs demand old held) → length values ≡ length ins → IsFed ins values (kept_tern old) (kept_tern given) → IsFed ins values held later →
    ShowsLeast network given demand after → IsLeast network.trees.items network.drives.items later t → Shows network at.asked_for.asked after t
cycle_shows network ins outs demand after old given values held later t at long array fed shows least =
    shows User at.asked_for.base at.asked_for.asked at.asked_for.is_asked at.asked_for.differs later t
    (fed_kept network ins outs demand values held later at.asked_for at.kept fed)
    (fed_own network ins outs demand old given values held later at long array fed) least

-- outputs one by one
mapped_same : (s t : PointTerns) (outs : List ℕ) → Each outs (λ point. s point ≡ t point) → map s outs ≡ map t outs
mapped_same s t [] same = refl
mapped_same s t (out ∷ outs) same =
    let here : s out ≡ t out = same 0 out refl in
    let rest : map s outs ≡ map t outs = mapped_same s t outs (λ k p e. same (suc k) p e) in
    cc

pub outputs_shown : (network : Network) (ins outs : List ℕ) (demand after : Asked) (t : PointTerns) (for : IsAskedFor network ins outs demand) → Shows network for.asked after t →
    map (seen after.terns after.leads) outs ≡ map t outs
outputs_shown network ins outs demand after t for shows = mapped_same (seen after.terns after.leads) t outs (λ k p e. shows.points p (for.outputs k p e))

-- ---- the tick

-- what an own point is left with is what is given to it next
written_next : (network : Network) (ins : List ℕ) (asked after : Asked) (given t next : PointTerns) (point : ℕ) (drive : Option Drive) → slice_get network.drives.items point ≡ drive →
    point < length network.drives.items → IsTicked network ins given t next → (IsIn ins point → ⊥) → seen after.terns after.leads point ≡ t point →
    ((source : Source) → slice_get network.drives.items point ≡ Some (Flop User source) →
    source_tern network.trees.items (seen after.terns after.leads) source ≡ source_tern network.trees.items t source) →
    written_by network.trees.items (given point) (seen after.terns after.leads) point drive ≡ next point
written_next network ins asked after given t next point None e less ticked absent shown sources =
    let one = (slice_get_cases network.drives.items point).1 in
    elim one [ inl some ↦ let both : Some some.0 ≡ None = sym some.2 ∙ e in absurd (cc) | inr past ↦ absurd (omega (arith, past.0)) ]
written_next network ins asked after given t next point (Some Given) e less ticked absent shown sources = sym (ticked.inputs point e absent)
written_next network ins asked after given t next point (Some (Flop User source)) e less ticked absent shown sources =
    sources source e ∙ sym ((ticked.left point).flop source e)
written_next network ins asked after given t next point (Some (Flop Loader source)) e less ticked absent shown sources = sym (ticked.flops point Loader source e (λ h. cc))
written_next network ins asked after given t next point (Some (Flop Other source)) e less ticked absent shown sources = sym (ticked.flops point Other source e (λ h. cc))
written_next network ins asked after given t next point (Some (Same other)) e less ticked absent shown sources = sym (ticked.copies point other e)
written_next network ins asked after given t next point (Some (Value source)) e less ticked absent shown sources = sym (ticked.values point source e)
written_next network ins asked after given t next point (Some (Hold gate latched)) e less ticked absent shown sources = shown ∙ sym ((ticked.left point).latch gate latched e)

-- inputs of the next cycle are as they were known
inputs_below : (network : Network) (ins outs : List ℕ) (demand : Asked) (later t next : PointTerns) (for : IsAskedFor network ins outs demand) →
    IsKept network User for.base for.asked.terns for.asked.leads later → IsTicked network ins later t next →
    (point : ℕ) → slice_get network.drives.items point ≡ Some Given → IsBelow (for.base point) (next point)
inputs_below network ins outs demand later t next for kept ticked point drives =
    let by : (l : PlainTern) → Option Drive → Type 0 = λ l drive. IsKeptBy network.trees.items User for.asked.terns for.asked.leads (for.base point) l drive in
    elim (in_or_not ins point) [
      | inl one ↦
          let input = for.inputs one.0 one.1 one.2 in
          subst (λ (u : PlainTern). IsBelow u (next point)) (sym (ap for.base (sym one.3) ∙ input.1)) tt
      | inr absent ↦
          let same : next point ≡ later point = ticked.inputs point drives absent in
          subst (λ (l : PlainTern). IsBelow (for.base point) l) (sym same) (subst (by (later point)) drives (kept point))
    ]

pub cycle_goes_on : KeptAgain → (network : Network) (ins outs : List ℕ) (demand after : Asked) (old given new : List Tern) (values : List Bool) (held later t next : PointTerns) →
    (at : IsRunningAt network ins outs demand old held) → length values ≡ length ins → length network.drives.items ≡ length demand.leads →
    IsFed ins values (kept_tern old) (kept_tern given) → IsFed ins values held later →
    ((asked : Asked) → DiffersInOwn asked demand → DiffersInOwn asked after) → ShowsLeast network given demand after →
    IsLeast network.trees.items network.drives.items later t → IsTickedOwn network after given new → IsTicked network ins later t next →
    IsRunningAt network ins outs after new next
cycle_goes_on again network ins outs demand after old given new values held later t next at long points array fed stays shows least own ticked =
    let for = at.asked_for in
    let kept = fed_kept network ins outs demand values held later for at.kept fed in
    let agree = fed_own network ins outs demand old given values held later at long array fed in
    let shown = cycle_shows network ins outs demand after old given values held later t at long array fed shows least in
    let differs = stays for.asked for.differs in
    record {
      asked_for = record {
        base = for.base;
        asked = for.asked;
        is_asked = for.is_asked;
        registers = for.registers;
        differs = differs;
        outputs = for.outputs;
        inputs = for.inputs;
      };
      kept = again network User for.base for.asked for.is_asked later t next kept least.solves
          (inputs_below network ins outs demand later t next for kept ticked)
          ticked.flops (λ p gate latched e. (ticked.left p).latch gate latched e);
      own = λ p listed absent.
          let listed_after : IsListed after.own p = subst (λ (numbers : List ℕ). IsListed numbers p) (sym differs.own) listed in
          let marked : IsMarked for.asked.marks p = (for.is_asked.own p listed).0 in
          let within : p < length network.drives.items =
          let h = for.is_asked.whole.own listed.0 listed.1 in
          let l : p < length for.asked.leads = subst (λ (q : ℕ). q < length for.asked.leads) listed.2 h.0 in
          let same : length demand.leads ≡ length for.asked.leads = ap length for.differs.leads in
          omega arith in
          own.own p listed_after
          ∙ ap (λ (u : PlainTern). written_by network.trees.items u (seen after.terns after.leads) p (slice_get network.drives.items p)) (agree p listed)
          ∙ written_next network ins for.asked after later t next p (slice_get network.drives.items p) refl within ticked absent (shown.points p marked)
          (λ source e. shown.sources source (for.registers p listed source e));
    }

-- ---- what is asked for

pub differs_none : (asked : Asked) → DiffersInOwn asked asked
differs_none asked = record { leads = refl; marks = refl; own = refl; others = λ p h. refl }

pub marked_more : (outs : List ℕ) (count point : ℕ) (old new : Asked) → slice_get outs count ≡ Some point → AsksMore old new → IsMarked new.marks point →
    ((place out : ℕ) → place < count → slice_get outs place ≡ Some out → IsMarked old.marks out) →
    (place out : ℕ) → place < count + 1 → slice_get outs place ≡ Some out → IsMarked new.marks out
marked_more outs count point old new at more here before place out less e =
    elim (below count place less) [
      | inl l ↦ more.marks out (before place out l e)
      | inr same ↦
          let both : Some point ≡ Some out = sym at ∙ ap (slice_get outs) (sym same) ∙ e in
          let point_is : point ≡ out = cc in
          subst (IsMarked new.marks) point_is here
    ]

given_kept_by : (network : Network) (terns : List Tern) (leads : List ℕ) (given : PlainTern) (drive : Option Drive) →
    IsKeptBy network.trees.items User terns leads given given drive
given_kept_by network terns leads given None = tt
given_kept_by network terns leads given (Some Given) = below_equal given given refl
given_kept_by network terns leads given (Some (Flop clock next)) = λ other. refl
given_kept_by network terns leads given (Some (Same other)) = tt
given_kept_by network terns leads given (Some (Value source)) = tt
given_kept_by network terns leads given (Some (Hold gate latched)) = λ closed. refl

pub run_asked : (network : Network) (ins outs : List ℕ) (before asked : Asked) (given : List Tern) → IsAsked network User (kept_tern given) asked →
    AreRegistersAsked network User asked → AsksMore before asked → ((place point : ℕ) → slice_get outs place ≡ Some point → IsMarked before.marks point) →
    Each ins (λ point. (slice_get network.drives.items point ≡ Some Given) × (kept_tern given point ≡ unknown)) → IsRunningAt network ins outs asked given (kept_tern given)
run_asked network ins outs before asked given is_asked registers more marked inputs = record {
  asked_for = record {
    base = kept_tern given;
    asked = asked;
    is_asked = is_asked;
    registers = registers;
    differs = differs_none asked;
    outputs = λ place point e. more.marks point (marked place point e);
    inputs = inputs;
  };
  kept = λ point. given_kept_by network asked.terns asked.leads (kept_tern given point) (slice_get network.drives.items point);
  own = λ point listed absent. refl;
}
