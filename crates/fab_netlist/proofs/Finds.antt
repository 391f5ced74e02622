-- The search for a cycle of covers: its table, its marks and what it finds.
use Rattle.std.proofs.Common.{◌≡◌, ℕ, zero, suc, ◌+◌, ◌<◌, ◌≤◌, Bool, true, false, List, [], ◌∷◌, length, get_or, set, drop, replicate, Contains, Some, None, Option, if◌then◌else◌, nat_eq, refl, sym, ap, ◌∙◌, subst, inl, inr, arith, eqb-true}
use Rattle.std.specs.List.{All}
use Rattle.std.specs.Option.{ForSome, MatchOption, is_some}
use Rattle.std.proofs.lemmas.Bool.{cases_Bool, eqb-false, false≢true}
use Rattle.std.proofs.lemmas.List.{length-set, get_or-set_same, get_or-set_other, get_or_default, length-replicate}
use Rattle.fab_netlist.specs.declared.walk.Mark.{Mark}
use Rattle.fab_netlist.specs.declared.walk.Mark.TheVariants as marks
use Rattle.fab_netlist.specs.Plain.{PlainCover, PlainNetlist, no_cover, cover_at, IsAt}
use Rattle.fab_netlist.specs.WellMade.{IsWired, times, cover_outputs}
use Rattle.fab_netlist.specs.Cycles.{Reads, ReadsOn, IsCycle, IsOneCycle, HasNoCycle}
use Rattle.fab_netlist.specs.inner.Order.{IsOrder}
use Rattle.fab_netlist.specs.inner.Search.{driver_at, HasDrivers, IsDriverTable, mark_at, is_new, IsSearch, IsRound, HasEnded, IsListed}
use Rattle.fab_netlist.proofs.Members.{in_none, first_in}
use Rattle.fab_netlist.proofs.Counts.{one_place, at_mapped}
use Rattle.fab_netlist.proofs.Levels.{passing}
use Rattle.fab_netlist.proofs.Stepping.{cover_inputs_below, cover_outputs_below}
use Rattle.fab_netlist.proofs.Meaning.{covers_once, output_small}
use Rattle.fab_netlist.proofs.Follows.{all_fine, open_not_new, some_none}

-- how many pass a test, where one item changes
pub passing_set : {X : Type 0} (test : X → Bool) (xs : List X) (place : ℕ) (y d : X) → place < length xs → passing test (set xs place y) + (if test (get_or xs place d) then 1 else 0) ≡ passing test xs + (if test y then 1 else 0)
passing_set test [] place y d small = absurd (omega arith)
passing_set test (x ∷ xs) zero y d small = omega arith
passing_set test (x ∷ xs) (suc place) y d small = omega (arith, passing_set test xs place y d (omega arith))

-- covers of one output have one place
same_place : (netlist : PlainNetlist) → IsWired netlist → (j k : ℕ) → j < length netlist.covers → k < length netlist.covers → (cover_at netlist j).output ≡ (cover_at netlist k).output → j ≡ k
same_place netlist wiring j k small_j small_k same =
    let first = at_mapped (λ (cover : PlainCover). cover.output) netlist.covers j (cover_at netlist j) (small_j, get_or_default netlist.covers j (cover_at netlist j) no_cover small_j) in
    let second = at_mapped (λ (cover : PlainCover). cover.output) netlist.covers k (cover_at netlist k) (small_k, get_or_default netlist.covers k (cover_at netlist k) no_cover small_k) in
    one_place (cover_at netlist j).output (cover_outputs netlist.covers) j k (covers_once netlist wiring (cover_at netlist j).output) first
    (subst (λ (net : ℕ). IsAt (cover_outputs netlist.covers) k net) (sym same) second)

-- an empty table has no driver
nones_at : (count net : ℕ) → driver_at (replicate count None) net ≡ None
nones_at zero net = refl
nones_at (suc count) zero = refl
nones_at (suc count) (suc net) = nones_at count net

-- at first all marks are new
news_at : (count place : ℕ) → mark_at (replicate count marks.New) place ≡ marks.New
news_at zero place = refl
news_at (suc count) zero = refl
news_at (suc count) (suc place) = news_at count place

-- the table of drivers grows by one cover
pub drivers_more : (netlist : PlainNetlist) → IsWired netlist → (count : ℕ) (drivers : List (Option ℕ)) → count < length netlist.covers → HasDrivers netlist count drivers →
    HasDrivers netlist (count + 1) (set drivers (cover_at netlist count).output (Some count))
drivers_more netlist wiring count drivers small table =
    let output : ℕ = (cover_at netlist count).output in
    let here : Contains netlist.covers (cover_at netlist count) = (count, small, get_or_default netlist.covers count (cover_at netlist count) no_cover small) in
    let within : (cover_at netlist count).output < length drivers = omega (arith, table.fits, output_small netlist wiring (cover_at netlist count) here) in
    record {
      fits = length-set drivers (cover_at netlist count).output (Some count) ∙ table.fits;
      found = λ net place driver.
          elim (cases_Bool (nat_eq net (cover_at netlist count).output)) [
            | inl same ↦ (
                let equal : net ≡ (cover_at netlist count).output = eqb-true net (cover_at netlist count).output same in
                let is_count : driver_at (set drivers (cover_at netlist count).output (Some count)) net ≡ Some count =
                ap (driver_at (set drivers (cover_at netlist count).output (Some count))) equal ∙ get_or-set_same drivers (cover_at netlist count).output (Some count) None within in
                let both : Some count ≡ Some place = sym is_count ∙ driver in
                let is_place : count ≡ place = cc in
                (omega (arith, is_place), ap (λ k. (cover_at netlist k).output) (sym is_place) ∙ sym equal))
            | inr differ ↦ (
                let before = table.found net place (sym (get_or-set_other drivers (cover_at netlist count).output net (Some count) None (eqb-false net (cover_at netlist count).output differ)) ∙ driver) in
                (omega (arith, before.0), before.1))
          ];
      all = λ place below.
          elim (cases_Bool (nat_eq place count)) [
            | inl same ↦ (
                let equal : place ≡ count = eqb-true place count same in
                ap (λ k. driver_at (set drivers (cover_at netlist count).output (Some count)) (cover_at netlist k).output) equal
                ∙ get_or-set_same drivers (cover_at netlist count).output (Some count) None within
                ∙ ap Some (sym equal))
            | inr differ ↦ (
                let less : place < count = omega (arith, below, eqb-false place count differ) in
                get_or-set_other drivers (cover_at netlist count).output (cover_at netlist place).output (Some count) None (λ same.
                eqb-false place count differ (same_place netlist wiring place count (omega (arith, less, small)) small same))
                ∙ table.all place less)
          ];
    }

-- the table without covers
pub no_drivers : (netlist : PlainNetlist) → HasDrivers netlist 0 (replicate (length netlist.nets) None)
no_drivers netlist = record {
  fits = length-replicate (length netlist.nets) None;
  found = λ net place driver. absurd (some_none place (sym driver ∙ nones_at (length netlist.nets) net));
  all = λ place below. absurd (omega arith);
}

-- the marks with which a search begins
pub nothing_met : (netlist : PlainNetlist) → IsSearch netlist (replicate (length netlist.covers) marks.New) []
nothing_met netlist = record {
  fits = length-replicate (length netlist.covers) marks.New;
  finished = λ place done. absurd (false≢true (sym (ap is_new (sym (news_at (length netlist.covers) place) ∙ done))));
  on_path = λ place shown. absurd (open_not_new (mark_at (replicate (length netlist.covers) marks.New) place) shown (news_at (length netlist.covers) place));
  opened = λ place here. absurd (in_none place here);
  linked = λ turn small. absurd (omega arith);
  once = λ place. omega arith;
}

module _ (netlist : PlainNetlist) (drivers : List (Option ℕ)) (table : IsDriverTable netlist drivers) where
  -- what stands in the table has a mark
  pub drivers_small : (list : List Mark) → length list ≡ length netlist.covers → All (λ driver. ForSome driver (λ place. place < length list)) drivers
  drivers_small list fits place d small x is_some =
      omega (arith, fits, table.found place x (get_or_default drivers place None d small ∙ is_some))

-- the table has a place for each net that a cover reads
pub cover_nets_small : (netlist : PlainNetlist) → IsWired netlist → (drivers : List (Option ℕ)) → IsDriverTable netlist drivers → (reader : ℕ) → reader < length netlist.covers → (nets : List ℕ) → nets ≡ (cover_at netlist reader).inputs → All (λ net. net < length drivers) nets
cover_nets_small netlist wiring drivers table reader small nets same =
    subst (λ (list : List ℕ). All (λ net. net < length drivers) list) (sym same)
    (λ place d within. omega (arith, table.fits, cover_inputs_below netlist wiring netlist.covers (length netlist.nets) refl (omega arith) reader no_cover small place d within))

-- and for the output of each cover
pub output_in_table : (netlist : PlainNetlist) → IsWired netlist → (place : ℕ) → place < length netlist.covers → (cover_at netlist place).output < length netlist.nets
output_in_table netlist wiring place small = cover_outputs_below netlist wiring netlist.covers (length netlist.nets) refl (omega arith) place no_cover small

-- fewer covers are new where one is put onto the path
pub open_fewer : (list : List Mark) (source : ℕ) → source < length list → is_new (mark_at list source) ≡ true → passing is_new (set list source marks.Open) + 1 ≡ passing is_new list
open_fewer list source small was_new =
    let counts = passing_set is_new list source marks.Open marks.New small in
    let was : passing is_new list + 0 ≡ passing is_new (set list source marks.Open) + (if is_new (mark_at list source) then 1 else 0) = sym counts in
    let one : ◌≡◌ {A = ℕ} (if is_new (mark_at list source) then 1 else 0) 1 = rw was_new refl in
    omega (arith, was, one)

-- as many covers are new where one of the path is done
pub done_same : (list : List Mark) (reader : ℕ) → reader < length list → mark_at list reader ≡ marks.Open → passing is_new (set list reader marks.Done) ≡ passing is_new list
done_same list reader small was_open =
    let counts = passing_set is_new list reader marks.Done marks.New small in
    let was : passing is_new list + 0 ≡ passing is_new (set list reader marks.Done) + (if is_new (mark_at list reader) then 1 else 0) = sym counts in
    let none : ◌≡◌ {A = ℕ} (if is_new (mark_at list reader) then 1 else 0) 0 = rw was_open refl in
    omega (arith, was, none)

-- a list of covers that read one another in turn, of which the last reads the end
leads_from : (netlist : PlainNetlist) (first : ℕ) (rest : List ℕ) (end : ℕ) → ((turn : ℕ) → suc turn < length (first ∷ rest) → Reads netlist (get_or (first ∷ rest) turn 0) (get_or (first ∷ rest) (suc turn) 0)) →
    ((last : ℕ) → suc last ≡ length (first ∷ rest) → Reads netlist (get_or (first ∷ rest) last 0) end) → ReadsOn netlist first rest end
leads_from netlist first [] end linked closes = closes 0 refl
leads_from netlist first (second ∷ rest) end linked closes =
    (linked 0 (omega arith), leads_from netlist second rest end (λ turn small. linked (suc turn) (omega (arith, small))) (λ last ends. closes (suc last) (omega (arith, ends))))

-- a net stands no more often in a part of a list
fewer_left : (place index : ℕ) (places : List ℕ) → times place (drop index places) ≤ times place places
fewer_left place zero places = omega arith
fewer_left place (suc index) [] = omega arith
fewer_left place (suc index) (first ∷ places) = omega (arith, fewer_left place index places)

-- a path is a cycle from the cover on that its last one reads
cycle_from : (netlist : PlainNetlist) (source : ℕ) (places : List ℕ) (index : ℕ) → index < length places → get_or places index 0 ≡ source →
    ((turn : ℕ) → suc turn < length places → Reads netlist (get_or places turn 0) (get_or places (suc turn) 0)) →
    ((last : ℕ) → suc last ≡ length places → Reads netlist (get_or places last 0) source) → IsCycle netlist (drop index places)
cycle_from netlist source [] index small here linked closes = absurd (omega (arith, small))
cycle_from netlist source (first ∷ rest) zero small here linked closes =
    subst (λ (end : ℕ). ReadsOn netlist first rest end) (sym here) (leads_from netlist first rest source linked closes)
cycle_from netlist source (first ∷ rest) (suc index) small here linked closes =
    cycle_from netlist source rest index (omega (arith, small)) here (λ turn less. linked (suc turn) (omega (arith, less))) (λ last ends. closes (suc last) (omega (arith, ends)))

-- a path whose last cover reads one of the path is a cycle from that one on
pub round_cycle : (netlist : PlainNetlist) (path : List ℕ) (source index : ℕ) → IsRound netlist path source → index < length path → get_or path index 0 ≡ source → IsOneCycle netlist (drop index path)
round_cycle netlist path source index round small here =
    (cycle_from netlist source path index small here round.linked round.closes, λ place. omega (arith, round.once place, fewer_left place index path))

-- a search without a cycle from one more cover
pub one_more_done : (netlist : PlainNetlist) (old list : List Mark) (start : ℕ) (left : List ℕ) → HasEnded netlist old list (start ∷ []) left → ((place : ℕ) → place < start → mark_at old place ≡ marks.Done) →
    (place : ℕ) → place < start + 1 → mark_at list place ≡ marks.Done
one_more_done netlist old list start left ended done place below =
    elim (cases_Bool (nat_eq start place)) [
      | inl same ↦ ended.done place (first_in start [] place (eqb-true start place same))
      | inr differ ↦ ended.stays place (done place (omega (arith, below, eqb-false start place differ)))
    ]

-- where all covers are done, all are listed
pub all_listed : (netlist : PlainNetlist) (list : List Mark) (order : List ℕ) (count : ℕ) → IsListed netlist list order → ((place : ℕ) → place < count → mark_at list place ≡ marks.Done) → length netlist.covers ≤ count → IsOrder netlist order
all_listed netlist list order count listed done enough = record { behind = listed.behind; all = λ place small. listed.listed place (done place (omega (arith, small, enough))) }

-- at first none is listed
pub none_listed : (netlist : PlainNetlist) → IsListed netlist (replicate (length netlist.covers) marks.New) []
none_listed netlist = record { behind = tt; listed = λ place done. absurd (false≢true (sym (ap is_new (sym (news_at (length netlist.covers) place) ∙ done)))) }

-- where all covers are done, there is no cycle
pub all_done : (netlist : PlainNetlist) (list : List Mark) (count : ℕ) → IsSearch netlist list [] → ((place : ℕ) → place < count → mark_at list place ≡ marks.Done) → length netlist.covers ≤ count → HasNoCycle netlist
all_done netlist list count state done enough = all_fine netlist (λ place small. state.finished place (done place (omega (arith, small, enough))))

-- a search that met none has ended
pub ended_of : (netlist : PlainNetlist) (old list : List Mark) (path left : List ℕ) (met : Option ℕ) → MatchOption met (HasEnded netlist old list path left) (IsRound netlist left) → is_some met ≡ false → HasEnded netlist old list path left
ended_of netlist old list path left None holds none = holds
ended_of netlist old list path left (Some source) holds none = absurd (false≢true (sym none))
