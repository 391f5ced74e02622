-- Turns of the search for a cycle of covers.
use Rattle.std.proofs.Common.{◌≡◌, ◌⊎◌, ℕ, zero, suc, ◌+◌, ◌-◌, ◌<◌, true, false, List, [], ◌∷◌, ◌++◌, length, get_or, set, take, Contains, Some, None, Option, nat_eq, refl, sym, ap, ◌∙◌, subst, inl, inr, arith, eq-eqb, eqb-true}
use Rattle.std.proofs.lemmas.Bool.{cases_Bool, eqb-false, false≢true}
use Rattle.std.proofs.lemmas.List.{length-set, length-append, get_or-set_same, get_or-set_other, get_or_append_left, get_or_at, get_or_default, take_all, take_more}
use Rattle.fab_netlist.specs.declared.walk.Mark.{Mark}
use Rattle.fab_netlist.specs.declared.walk.Mark.TheVariants as marks
use Rattle.fab_netlist.specs.Plain.{PlainNetlist, cover_at}
use Rattle.fab_netlist.specs.WellMade.{times}
use Rattle.fab_netlist.specs.Cycles.{Reads, ReadsOn, HasNoCycle}
use Rattle.fab_netlist.specs.inner.Search.{Fine, fine, driver_at, IsDriverTable, mark_at, is_new, is_open, is_done, if_unfinished, first_of, unfinished, IsSearch, IsRound, StaysDone, HasEnded, IsGoing, IsListed}
use Rattle.fab_netlist.proofs.Members.{in_none, first_or_later, first_in, later_in, in_left, in_right}
use Rattle.fab_netlist.proofs.Counts.{times_joined, member_counts, nowhere_or_at}
use Rattle.fab_netlist.proofs.Orders.{behind_more}

-- chains of covers, one behind the other
pub leads_joined : (netlist : PlainNetlist) (first : ℕ) (xs : List ℕ) (middle : ℕ) (ys : List ℕ) (end : ℕ) → ReadsOn netlist first xs middle → ReadsOn netlist middle ys end → ReadsOn netlist first (xs ++ middle ∷ ys) end
leads_joined netlist first [] middle ys end before after = (before, after)
leads_joined netlist first (x ∷ xs) middle ys end before after = (before.0, leads_joined netlist x xs middle ys end before.1 after)

-- a cover that is fine stands on no cycle
pub fine_no_cycle : (netlist : PlainNetlist) (first : ℕ) → Fine netlist first → (rest : List ℕ) → ReadsOn netlist first rest first → ⊥
fine_no_cycle netlist first (fine below) [] leads = fine_no_cycle netlist first (below first leads) [] leads
fine_no_cycle netlist first (fine below) (second ∷ rest) leads =
    fine_no_cycle netlist second (below second leads.0) (rest ++ first ∷ []) (leads_joined netlist second rest first [] second leads.1 leads.0)

-- what leads on is a cover
leads_small : (netlist : PlainNetlist) (first : ℕ) (rest : List ℕ) (end : ℕ) → ReadsOn netlist first rest end → first < length netlist.covers
leads_small netlist first [] end leads = leads.0
leads_small netlist first (second ∷ rest) end leads = leads.0.0

-- where each cover is fine, there is no cycle
pub all_fine : (netlist : PlainNetlist) → ((place : ℕ) → place < length netlist.covers → Fine netlist place) → HasNoCycle netlist
all_fine netlist each [] cycle = cycle
all_fine netlist each (first ∷ rest) cycle = fine_no_cycle netlist first (each first (leads_small netlist first rest first cycle)) rest cycle

-- what the test of done covers says
done_is : (mark : Mark) → is_done mark ≡ true → mark ≡ marks.Done
done_is marks.New given = absurd (false≢true given)
done_is marks.Open given = absurd (false≢true given)
done_is marks.Done given = refl

-- what the test of open covers says
open_is : (mark : Mark) → is_open mark ≡ true → mark ≡ marks.Open
open_is marks.New given = absurd (false≢true given)
open_is marks.Open given = refl
open_is marks.Done given = absurd (false≢true given)

-- a mark that is neither done nor open is new
new_is : (mark : Mark) → is_done mark ≡ false → is_open mark ≡ false → mark ≡ marks.New
new_is marks.New closed shut = refl
new_is marks.Open closed shut = absurd (false≢true (sym shut))
new_is marks.Done closed shut = absurd (false≢true (sym closed))

-- no mark is open and done
open_not_done : (mark : Mark) → mark ≡ marks.Open → mark ≡ marks.Done → ⊥
open_not_done mark is_it is_other = false≢true (sym (ap is_done is_it) ∙ ap is_done is_other)

-- no mark is open and new
pub open_not_new : (mark : Mark) → mark ≡ marks.Open → mark ≡ marks.New → ⊥
open_not_new mark is_it is_other = false≢true (sym (ap is_open is_other) ∙ ap is_open is_it)

-- something is not nothing
pub some_none : (place : ℕ) → Some place ≡ None → ⊥
some_none place same = cc

-- where there is no first, there is none of both
first_none : (a b : Option ℕ) → first_of a b ≡ None → (a ≡ None) × (b ≡ None)
first_none None b none = (refl, none)
first_none (Some place) b none = absurd (some_none place none)

-- the first is one of both
first_some : (a b : Option ℕ) (place : ℕ) → first_of a b ≡ Some place → (a ≡ Some place) ⊎ (b ≡ Some place)
first_some None b place some = inr some
first_some (Some other) b place some = inl some

-- an unfinished driver is one that is not done
unfinished_some : (list : List Mark) (driver : Option ℕ) (place : ℕ) → if_unfinished list driver ≡ Some place → (driver ≡ Some place) × (is_done (mark_at list place) ≡ false)
unfinished_some list None place some = absurd (some_none place (sym some))
unfinished_some list (Some other) place some =
    elim (cases_Bool (is_done (mark_at list other))) [
      | inl done ↦ absurd (let none : None ≡ Some place = rw done at some in some_none place (sym none))
      | inr not_done ↦ (let same : Some other ≡ Some place = rw not_done at some in let equal : other ≡ place = cc in (same, ap (λ x. is_done (mark_at list x)) (sym equal) ∙ not_done))
    ]

-- where none is unfinished, each cover that drives one of the nets is done
none_unfinished : (drivers : List (Option ℕ)) (list : List Mark) (nets : List ℕ) → unfinished drivers list nets ≡ None → (net place : ℕ) → Contains nets net → driver_at drivers net ≡ Some place → mark_at list place ≡ marks.Done
none_unfinished drivers list [] none net place here driver = absurd (in_none net here)
none_unfinished drivers list (first ∷ nets) none net place here driver =
    let parts = first_none (if_unfinished list (driver_at drivers first)) (unfinished drivers list nets) none in
    elim (first_or_later first nets net here) [
      | inl same ↦ (
          let at_first : driver_at drivers first ≡ Some place = ap (driver_at drivers) same ∙ driver in
          let finished : if_unfinished list (Some place) ≡ None = ap (if_unfinished list) (sym at_first) ∙ parts.0 in
          elim (cases_Bool (is_done (mark_at list place))) [
            | inl done ↦ done_is (mark_at list place) done
            | inr not_done ↦ absurd (some_none place (sym (rw not_done refl) ∙ finished))
          ])
      | inr later ↦ none_unfinished drivers list nets parts.1 net place later driver
    ]

-- what is unfinished drives one of the nets, and is not done
some_unfinished : (drivers : List (Option ℕ)) (list : List Mark) (nets : List ℕ) (place : ℕ) → unfinished drivers list nets ≡ Some place → (net : ℕ) × Contains nets net × (driver_at drivers net ≡ Some place) × (is_done (mark_at list place) ≡ false)
some_unfinished drivers list [] place some = absurd (some_none place (sym some))
some_unfinished drivers list (first ∷ nets) place some =
    elim (first_some (if_unfinished list (driver_at drivers first)) (unfinished drivers list nets) place some) [
      | inl here ↦ (
          let driver = unfinished_some list (driver_at drivers first) place here in
          (first, first_in first nets first refl, driver.0, driver.1))
      | inr later ↦ (
          let rest = some_unfinished drivers list nets place later in
          (rest.0, later_in first nets rest.0 rest.1, rest.2, rest.3))
    ]

-- other marks stay
set_mark_other : (list : List Mark) (place other : ℕ) (mark : Mark) → nat_eq other place ≡ false → mark_at (set list place mark) other ≡ mark_at list other
set_mark_other list place other mark differ = get_or-set_other list place other mark marks.New (eqb-false other place differ)

-- a mark that is set
set_mark_here : (list : List Mark) (place other : ℕ) (mark : Mark) → place < length list → nat_eq other place ≡ true → mark_at (set list place mark) other ≡ mark
set_mark_here list place other mark small same = ap (λ z. mark_at (set list place mark) z) (eqb-true other place same) ∙ get_or-set_same list place mark marks.New small

-- an open cover has a mark
open_small : (list : List Mark) (place : ℕ) → mark_at list place ≡ marks.Open → place < length list
open_small [] place shown = absurd (open_not_new marks.New shown refl)
open_small (mark ∷ list) zero shown = omega arith
open_small (mark ∷ list) (suc place) shown = omega (arith, open_small list place shown)

-- a member of a list with one more at its end
in_front_or_last : (path : List ℕ) (last place : ℕ) → Contains (path ++ last ∷ []) place → Contains path place ⊎ (last ≡ place)
in_front_or_last [] last place here =
    elim (first_or_later last [] place here) [ inl same ↦ inr same | inr later ↦ absurd (in_none place later) ]
in_front_or_last (first ∷ path) last place here =
    elim (first_or_later first (path ++ last ∷ []) place here) [
      | inl same ↦ inl (first_in first path place same)
      | inr later ↦ elim (in_front_or_last path last place later) [ inl before ↦ inl (later_in first path place before) | inr same ↦ inr same ]
    ]

module _ (netlist : PlainNetlist) where
  -- each cover of a path reads the next
  abbrev Linked : List ℕ → Type 0
  Linked path = (turn : ℕ) → suc turn < length path → Reads netlist (get_or path turn 0) (get_or path (suc turn) 0)

  -- so it is without the last one
  linked_front : (path : List ℕ) (last : ℕ) → Linked (path ++ last ∷ []) → Linked path
  linked_front path last linked turn small =
      let reads = linked turn (omega (arith, small, length-append path (last ∷ []))) in
      subst (λ (x : ℕ). Reads netlist x (get_or path (suc turn) 0)) (get_or_append_left path (last ∷ []) 0 turn (omega (arith, small)))
      (subst (λ (x : ℕ). Reads netlist (get_or (path ++ last ∷ []) turn 0) x) (get_or_append_left path (last ∷ []) 0 (suc turn) small) reads)

  -- and with one more, which the last one reads
  linked_more : (path : List ℕ) (last : ℕ) → Linked path → ((before : ℕ) → suc before ≡ length path → Reads netlist (get_or path before 0) last) → Linked (path ++ last ∷ [])
  linked_more path last linked closes turn small =
      let front : get_or (path ++ last ∷ []) turn 0 ≡ get_or path turn 0 = get_or_append_left path (last ∷ []) 0 turn (omega (arith, small, length-append path (last ∷ []))) in
      subst (λ (x : ℕ). Reads netlist x (get_or (path ++ last ∷ []) (suc turn) 0)) (sym front)
      (elim (cases_Bool (nat_eq (suc turn) (length path))) [
        | inl ends ↦ (
            let at_end : suc turn ≡ length path = eqb-true (suc turn) (length path) ends in
            subst (λ (x : ℕ). Reads netlist (get_or path turn 0) x) (sym (get_or_at path last [] 0 (suc turn) (sym at_end))) (closes turn at_end))
        | inr goes_on ↦ (
            let inside : suc turn < length path = omega (arith, small, length-append path (last ∷ []), eqb-false (suc turn) (length path) goes_on) in
            subst (λ (x : ℕ). Reads netlist (get_or path turn 0) x) (sym (get_or_append_left path (last ∷ []) 0 (suc turn) inside)) (linked turn inside))
      ])

  -- the last cover of the path is done
  pub leave : (list : List Mark) (path : List ℕ) (reader : ℕ) → IsSearch netlist list (path ++ reader ∷ []) → ((source : ℕ) → Reads netlist reader source → mark_at list source ≡ marks.Done) → IsSearch netlist (set list reader marks.Done) path
  leave list path reader state all_done =
      let was_open : mark_at list reader ≡ marks.Open = state.opened reader (in_right path (reader ∷ []) reader (first_in reader [] reader refl)) in
      let small : reader < length list = open_small list reader was_open in
      let counted : (place : ℕ) → Contains path place → nat_eq place reader ≡ false = λ place here.
      elim (cases_Bool (nat_eq place reader)) [
        | inl same ↦ absurd (
            let is_reader : place ≡ reader = eqb-true place reader same in
            let there : Contains path reader = subst (λ (x : ℕ). Contains path x) is_reader here in
            omega (arith, state.once reader, times_joined reader path (reader ∷ []), member_counts reader path there, member_counts reader (reader ∷ []) (first_in reader [] reader refl)))
        | inr differ ↦ differ
      ] in
      record {
        fits = length-set list reader marks.Done ∙ state.fits;
        finished = λ place done.
            elim (cases_Bool (nat_eq place reader)) [
              | inl same ↦ subst (λ (x : ℕ). Fine netlist x) (sym (eqb-true place reader same)) (fine (λ source reads. state.finished source (all_done source reads)))
              | inr differ ↦ state.finished place (sym (set_mark_other list reader place marks.Done differ) ∙ done)
            ];
        on_path = λ place shown.
            elim (cases_Bool (nat_eq place reader)) [
              | inl same ↦ absurd (open_not_done (mark_at (set list reader marks.Done) place) shown (set_mark_here list reader place marks.Done small same))
              | inr differ ↦ elim (in_front_or_last path reader place (state.on_path place (sym (set_mark_other list reader place marks.Done differ) ∙ shown))) [
                | inl before ↦ before
                | inr last ↦ absurd (eqb-false place reader differ (sym last))
              ]
            ];
        opened = λ place here. set_mark_other list reader place marks.Done (counted place here) ∙ state.opened place (in_left path (reader ∷ []) place here);
        linked = linked_front path reader state.linked;
        once = λ place. omega (arith, state.once place, times_joined place path (reader ∷ []));
      }

  -- a cover that was not met is put onto the path
  pub enter : (list : List Mark) (path : List ℕ) (source : ℕ) → IsSearch netlist list path → source < length netlist.covers → mark_at list source ≡ marks.New → ((before : ℕ) → suc before ≡ length path → Reads netlist (get_or path before 0) source) →
      IsSearch netlist (set list source marks.Open) (path ++ source ∷ [])
  enter list path source state small was_new reads =
      let within : source < length list = omega (arith, small, state.fits) in
      let apart : (place : ℕ) → Contains path place → nat_eq place source ≡ false = λ place here.
      elim (cases_Bool (nat_eq place source)) [
        | inl same ↦ absurd (open_not_new (mark_at list source) (ap (mark_at list) (sym (eqb-true place source same)) ∙ state.opened place here) was_new)
        | inr differ ↦ differ
      ] in
      record {
        fits = length-set list source marks.Open ∙ state.fits;
        finished = λ place done.
            elim (cases_Bool (nat_eq place source)) [
              | inl same ↦ absurd (open_not_done (mark_at (set list source marks.Open) place) (set_mark_here list source place marks.Open within same) done)
              | inr differ ↦ state.finished place (sym (set_mark_other list source place marks.Open differ) ∙ done)
            ];
        on_path = λ place shown.
            elim (cases_Bool (nat_eq place source)) [
              | inl same ↦ in_right path (source ∷ []) place (first_in source [] place (sym (eqb-true place source same)))
              | inr differ ↦ in_left path (source ∷ []) place (state.on_path place (sym (set_mark_other list source place marks.Open differ) ∙ shown))
            ];
        opened = λ place here.
            elim (in_front_or_last path source place here) [
              | inl before ↦ set_mark_other list source place marks.Open (apart place before) ∙ state.opened place before
              | inr last ↦ set_mark_here list source place marks.Open within (eq-eqb place source (sym last))
            ];
        linked = linked_more path source state.linked reads;
        once = λ place.
            elim (cases_Bool (nat_eq source place)) [
              | inl same ↦ (
                  let none : times place path ≡ 0 = elim (nowhere_or_at place path) [
                    | inl nowhere ↦ nowhere
                    | inr at ↦ absurd (false≢true (sym (apart place (at.0, at.1.0, at.1.1)) ∙ eq-eqb place source (sym (eqb-true source place same))))
                  ] in
                  let here : times place (source ∷ []) ≡ 1 = rw same refl in
                  omega (arith, times_joined place path (source ∷ []), none, here))
              | inr differ ↦ (
                  let here : times place (source ∷ []) ≡ 0 = rw differ refl in
                  omega (arith, times_joined place path (source ∷ []), state.once place, here))
            ];
      }

  -- marks that are done stay so where another mark is set
  pub done_stays : (list : List Mark) (place : ℕ) (mark : Mark) → (mark_at list place ≡ marks.Done → ⊥) → StaysDone list (set list place mark)
  done_stays list place mark not_done other done =
      elim (cases_Bool (nat_eq other place)) [
        | inl same ↦ absurd (not_done (ap (mark_at list) (sym (eqb-true other place same)) ∙ done))
        | inr differ ↦ set_mark_other list place other mark differ ∙ done
      ]

-- covers stay listed where another one is put onto the path
pub listed_enter : (netlist : PlainNetlist) (list : List Mark) (order : List ℕ) (source : ℕ) → source < length list → IsListed netlist list order → IsListed netlist (set list source marks.Open) order
listed_enter netlist list order source small before = record {
  behind = before.behind;
  listed = λ place done.
      elim (cases_Bool (nat_eq place source)) [
        | inl same ↦ absurd (open_not_done (mark_at (set list source marks.Open) place) (set_mark_here list source place marks.Open small same) done)
        | inr differ ↦ before.listed place (sym (set_mark_other list source place marks.Open differ) ∙ done)
      ];
}

-- the last cover of a path
abbrev pub EndsWith : (path : List ℕ) → (last : ℕ) → Type 0
EndsWith path last = (0 < length path) × (last ≡ get_or path (length path - 1) 0)

-- the same of an equal list
pub ends_with : (seen path : List ℕ) (last : ℕ) → seen ≡ path → 0 < length seen → last ≡ get_or seen (length seen - 1) 0 → EndsWith path last
ends_with seen path last same some is_last = subst (λ (list : List ℕ). EndsWith list last) same (some, is_last)

-- a list is its front and its last item
pub front_and_last : (path : List ℕ) → 0 < length path → path ≡ take (length path - 1) path ++ get_or path (length path - 1) 0 ∷ []
front_and_last path some =
    sym (take_all (length path - 1 + 1) path (omega arith)) ∙ take_more path (length path - 1) 0 (omega arith)

module _ (netlist : PlainNetlist) (drivers : List (Option ℕ)) (table : IsDriverTable netlist drivers) where
  -- what is unfinished is read
  unfinished_read : (list : List Mark) (reader source : ℕ) → reader < length netlist.covers → unfinished drivers list (cover_at netlist reader).inputs ≡ Some source → Reads netlist reader source × (is_done (mark_at list source) ≡ false)
  unfinished_read list reader source small some =
      let found = some_unfinished drivers list (cover_at netlist reader).inputs source some in
      let driver = table.found found.0 source found.2 in
      ((small, driver.0, subst (λ (net : ℕ). Contains (cover_at netlist reader).inputs net) (sym driver.1) found.1), found.3)

  module _ (old : List Mark) (begun : List ℕ) (list : List Mark) (path : List ℕ) (going : IsGoing netlist old begun list path) (reader : ℕ) (ends : EndsWith path reader) where
    -- the path is not empty
    some : 0 < length path
    some = ends.0

    -- the reader is its last cover
    is_last : reader ≡ get_or path (length path - 1) 0
    is_last = ends.1

    -- the path is its front and the reader
    split : path ≡ take (length path - 1) path ++ reader ∷ []
    split = front_and_last path some ∙ ap (λ x. take (length path - 1) path ++ x ∷ []) (sym is_last)

    -- the reader is on the path
    reader_in : Contains path reader
    reader_in = (length path - 1, omega (arith, some), get_or_default path (length path - 1) reader 0 (omega (arith, some)) ∙ sym is_last)

    -- so it is open
    pub reader_open : mark_at list reader ≡ marks.Open
    reader_open = going.state.opened reader reader_in

    -- and has a mark
    pub reader_marked : reader < length list
    reader_marked = open_small list reader reader_open

    -- and is a cover
    pub reader_small : reader < length netlist.covers
    reader_small = omega (arith, open_small list reader reader_open, going.state.fits)

    -- what the reader reads, the last cover of the path reads
    closes_from : (source : ℕ) → Reads netlist reader source → (before : ℕ) → suc before ≡ length path → Reads netlist (get_or path before 0) source
    closes_from source reads before ends =
        let place : length path - 1 ≡ before = omega (arith, ends) in
        subst (λ (x : ℕ). Reads netlist x source) (is_last ∙ ap (λ k. get_or path k 0) place) reads

    -- the search goes on where the reader is done
    pub going_leave : unfinished drivers list (cover_at netlist reader).inputs ≡ None → IsGoing netlist old begun (set list reader marks.Done) (take (length path - 1) path)
    going_leave none = record {
      state = leave netlist list (take (length path - 1) path) reader (subst (λ (places : List ℕ). IsSearch netlist list places) split going.state) (λ source reads.
          none_unfinished drivers list (cover_at netlist reader).inputs none (cover_at netlist source).output source reads.2 (table.all source reads.1));
      stays = λ place done. done_stays netlist list reader marks.Done (λ was_done. open_not_done (mark_at list reader) reader_open was_done) place (going.stays place done);
      met = λ place here.
          elim (cases_Bool (nat_eq place reader)) [
            | inl same ↦ inr (set_mark_here list reader place marks.Done (open_small list reader reader_open) same)
            | inr differ ↦ elim (going.met place here) [
              | inl before ↦ elim (in_front_or_last (take (length path - 1) path) reader place (subst (λ (places : List ℕ). Contains places place) split before)) [
                | inl front ↦ inl front
                | inr last ↦ absurd (eqb-false place reader differ (sym last))
              ]
              | inr done ↦ inr (set_mark_other list reader place marks.Done differ ∙ done)
            ]
          ];
    }

    -- and where a cover is put onto the path
    pub going_enter : (source : ℕ) → unfinished drivers list (cover_at netlist reader).inputs ≡ Some source → is_open (mark_at list source) ≡ false → IsGoing netlist old begun (set list source marks.Open) (path ++ source ∷ [])
    going_enter source unread not_open =
        let reads = unfinished_read list reader source reader_small unread in
        let was_new : mark_at list source ≡ marks.New = new_is (mark_at list source) reads.1 not_open in
        let stays : StaysDone list (set list source marks.Open) = done_stays netlist list source marks.Open (λ was_done. false≢true (sym reads.1 ∙ ap is_done was_done)) in
        record {
          state = enter netlist list path source going.state reads.0.1 was_new (closes_from source reads.0);
          stays = λ place done. stays place (going.stays place done);
          met = λ place here. elim (going.met place here) [ inl before ↦ inl (in_left path (source ∷ []) place before) | inr done ↦ inr (stays place done) ];
        }

    -- the reader is listed where it is done
    pub listed_leave : (order : List ℕ) → unfinished drivers list (cover_at netlist reader).inputs ≡ None → IsListed netlist list order → IsListed netlist (set list reader marks.Done) (order ++ reader ∷ [])
    listed_leave order none before = record {
      behind = behind_more netlist [] order reader before.behind reader_small (λ source reads.
          inr (before.listed source (none_unfinished drivers list (cover_at netlist reader).inputs none (cover_at netlist source).output source reads.2 (table.all source reads.1))));
      listed = λ place done.
          elim (cases_Bool (nat_eq place reader)) [
            | inl same ↦ in_right order (reader ∷ []) place (first_in reader [] place (sym (eqb-true place reader same)))
            | inr differ ↦ in_left order (reader ∷ []) place (before.listed place (sym (set_mark_other list reader place marks.Done differ) ∙ done))
          ];
    }

    -- a cover of the path that the reader reads closes a cycle
    pub going_round : (source : ℕ) → unfinished drivers list (cover_at netlist reader).inputs ≡ Some source → is_open (mark_at list source) ≡ true → IsRound netlist path source
    going_round source unread opens =
        let reads = unfinished_read list reader source reader_small unread in
        record {
          linked = going.state.linked;
          once = going.state.once;
          met = going.state.on_path source (open_is (mark_at list source) opens);
          closes = closes_from source reads.0;
        }

    -- what is read has a mark
    pub source_small : (source : ℕ) → unfinished drivers list (cover_at netlist reader).inputs ≡ Some source → source < length list
    source_small source unread = let reads = unfinished_read list reader source reader_small unread in omega (arith, reads.0.1, going.state.fits)

    -- and is new where it is not on the path
    pub new_source : (source : ℕ) → unfinished drivers list (cover_at netlist reader).inputs ≡ Some source → is_open (mark_at list source) ≡ false → (source < length list) × (is_new (mark_at list source) ≡ true)
    new_source source unread not_open =
        let reads = unfinished_read list reader source reader_small unread in
        (omega (arith, reads.0.1, going.state.fits), ap is_new (new_is (mark_at list source) reads.1 not_open))

-- a search whose path is empty has ended
pub going_end : (netlist : PlainNetlist) (old : List Mark) (begun : List ℕ) (list : List Mark) (path : List ℕ) → IsGoing netlist old begun list path → path ≡ [] → HasEnded netlist old list begun path
going_end netlist old begun list path going none = record {
  empty = none;
  state = subst (λ (places : List ℕ). IsSearch netlist list places) none going.state;
  stays = going.stays;
  done = λ place here. elim (going.met place here) [ inl before ↦ absurd (in_none place (subst (λ (places : List ℕ). Contains places place) none before)) | inr done ↦ done ];
}

-- a search that begins
pub going_begin : (netlist : PlainNetlist) (list : List Mark) (path : List ℕ) → IsSearch netlist list path → IsGoing netlist list path list path
going_begin netlist list path state = record { state = state; stays = λ place done. done; met = λ place here. inl here }
