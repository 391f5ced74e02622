-- Groups of flip-flops: when they hold what they have, and what a tick leaves in them.
use Rattle.std.proofs.Common.{◌≡◌, ◌⊎◌, ℕ, ◌+◌, ◌<◌, ◌≤◌, Bool, List, [], ◌∷◌, ◌++◌, append_assoc, append-nil, length, Option, Some, refl, sym, ap, ◌∙◌, subst, inl, inr, arith}
use Rattle.std.specs.List.{slice_get}
use Rattle.std.specs.Prelude.{slice_index}
use Rattle.std.proofs.lemmas.Bool.{cases_lt}
use Rattle.std.proofs.lemmas.Option.{get_or_from_slice_get}
use Rattle.fab_systems_laws.specs.Ternary.{no, Tern as PlainTern}
use Rattle.fab_ternary_laws.specs.Operators.{tern_at, one_of}
use Rattle.fab_ternary.specs.declared.Tern.{Tern}
use Rattle.fab_compiled.specs.declared.tree.Tree.{Tree, Bits, Cond'}
use Rattle.fab_compiled.specs.Leading.{IsMarked}
use Rattle.fab_compiled.specs.Terns.{seen}
use Rattle.fab_compiled.specs.Trees.{tree_value}
use Rattle.fab_compiled.proofs.Bits.{first_at}
use Rattle.fab_network.specs.declared.network.Clock.TheVariants.{Loader}
use Rattle.fab_network.specs.declared.network.Network.{Network}
use Rattle.fab_network.specs.declared.network.Source.{Source}
use Rattle.fab_network.specs.Network.{source_tern, tern_in, AreBeside}
use Rattle.fab_network.specs.Passes.{kept_tern}
use Rattle.fab_demand.specs.Asked.{Asked, DiffersInOwn}
use Rattle.fab_demand.specs.Demand.{Shows}
use Rattle.fab_phases.specs.Lists.{Each, HasOne}
use Rattle.fab_phases.specs.Loading.{AreFlops, IsLoadedFlop}
use Rattle.fab_phases.specs.Words.{IsLeft}
use Rattle.fab_phases.specs.inner.Enables.{enable_tern, test_tern, AreAmong, AreFlopGroups, AreHolding, AreInFlopGroups, HasBack, Holds, IsFlopGroupOf, IsHolding, IsInFlopGroups, IsLedBack, LeavesFlopsOf, LeavesGroup, LeavesGroups}
use Rattle.fab_phases.specs.inner.Ticks.{AreFitFlops, AreOnWay, IsFitFlop, IsSet, LeavesFlops, LeavesPoints, Tick}
use Rattle.fab_phases.specs.declared.enables.Enable.{Enable}
use Rattle.fab_phases.specs.declared.enables.Enable.TheVariants.{Always, Test}
use Rattle.fab_phases.specs.declared.flop_groups.FlopGroup.{FlopGroup}
use Rattle.fab_phases.specs.declared.loading.LoadedFlop.{LoadedFlop}
use Rattle.fab_phases.proofs.Enabling.{yes≢no}
use Rattle.fab_phases.proofs.Gathered.{below}
use Rattle.fab_phases.proofs.Lists.{each_both, each_more, each_right, get_left, get_right, one_last, one_left}
use Rattle.fab_phases.proofs.Ticking.{below_all, below_more}
use Rattle.fab_phases.proofs.Writing.{HasBelow, flop_set, leaves_both}

-- ---- items of the first places

pub each_below_more : {X : Type 0} (xs : List X) (count : ℕ) (here : X) (P : X → Type 0) → slice_get xs count ≡ Some here → P here →
    ((place : ℕ) (x : X) → place < count → slice_get xs place ≡ Some x → P x) → (place : ℕ) (x : X) → place < count + 1 → slice_get xs place ≡ Some x → P x
each_below_more xs count here P at holds before place x less e =
    elim (below count place less) [
      | inl l ↦ before place x l e
      | inr same ↦
          let both : Some here ≡ Some x = sym at ∙ ap (slice_get xs) (sym same) ∙ e in
          let is : here ≡ x = cc in
          subst P is holds
    ]

-- ---- when a flip-flop takes what it has

-- a bit of points that follow one another
pub back_of : (asked : Asked) (place count : ℕ) (flop : LoadedFlop) (back : ℕ) → back ≡ flop.next.first + place + flop.next.bit → flop.next.bit < count →
    IsLedBack asked back flop.point → HasBack asked (Bits place count) flop
back_of asked place count flop back is less led = record {
  back = back;
  led = led;
  is = λ t.
      let there : flop.next.first + (place + flop.next.bit) ≡ back = omega (arith, is) in
      first_at count (λ k. t (flop.next.first + (place + k))) flop.next.bit less ∙ ap t there;
}

-- the second branch of a choice
pub choice_holds : (network : Network) (asked : Asked) (flop : LoadedFlop) (p q r : _) (test yes_branch no_branch : Tree) →
    slice_get network.trees.items flop.next.tree ≡ Some (Cond' p test q yes_branch r no_branch) → HasBack asked no_branch flop →
    Holds network asked (Test flop.next) flop
choice_holds network asked flop p q r test yes_branch no_branch at has t closed =
    let first = flop.next.first in
    let bit = flop.next.bit in
    let at_test : tern_at (tree_value (λ place. t (first + place)) test) 0 ≡ no = sym (ap (λ (o : Option Tree). test_tern o t first) at) ∙ closed in
    record {
      back = has.back;
      led = has.led;
      is =
          ap (λ (o : Option Tree). tern_in o t first bit) at
          ∙ ap (λ (found : PlainTern). tern_at (one_of found (tree_value (λ place. t (first + place)) yes_branch) (tree_value (λ place. t (first + place)) no_branch)) bit) at_test
          ∙ has.is t;
    }

-- bits of one expression have one test
pub beside_holds : (network : Network) (asked : Asked) (next : Source) (flop : LoadedFlop) → AreBeside flop.next next → Holds network asked (Test flop.next) flop →
    Holds network asked (Test next) flop
beside_holds network asked next flop beside holds t closed =
    holds t
    (ap (λ (tree : ℕ). test_tern (slice_get network.trees.items tree) t flop.next.first) beside.tree
    ∙ ap (λ (first : ℕ). test_tern (slice_get network.trees.items next.tree) t first) beside.first ∙ closed)

pub always_holds : (network : Network) (asked : Asked) (flop : LoadedFlop) → Holds network asked Always flop
always_holds network asked flop t closed = absurd (yes≢no closed)

-- one flip-flop more
pub beside_more : (next : Source) (flops : List LoadedFlop) (count : ℕ) (here : LoadedFlop) → slice_get flops count ≡ Some here → AreBeside here.next next →
    ((place : ℕ) (flop : LoadedFlop) → place < count → slice_get flops place ≡ Some flop → AreBeside flop.next next) →
    (place : ℕ) (flop : LoadedFlop) → place < count + 1 → slice_get flops place ≡ Some flop → AreBeside flop.next next
beside_more next flops count here at beside before = each_below_more flops count here (λ (flop : LoadedFlop). AreBeside flop.next next) at beside before

pub held_more : (network : Network) (asked : Asked) (next : Source) (flops : List LoadedFlop) (count : ℕ) (here : LoadedFlop) → slice_get flops count ≡ Some here →
    Holds network asked (Test next) here →
    ((place : ℕ) (flop : LoadedFlop) → place < count → slice_get flops place ≡ Some flop → Holds network asked (Test next) flop) →
    (place : ℕ) (flop : LoadedFlop) → place < count + 1 → slice_get flops place ≡ Some flop → Holds network asked (Test next) flop
held_more network asked next flops count here at holds before = each_below_more flops count here (Holds network asked (Test next)) at holds before

-- where a flip-flop takes no bit of an expression, it is not the one that takes this bit
pub first_differs : (flops : List LoadedFlop) (place : ℕ) (here first : LoadedFlop) (next : Source) → slice_get flops place ≡ Some here → slice_get flops 0 ≡ Some first →
    first.next ≡ next → (here.next ≡ next → ⊥) → 0 < place
first_differs flops place here first next at at_first same apart =
    elim (cases_lt 0 place) [
      | inl l ↦ l
      | inr g ↦
          let none : place ≡ 0 = omega arith in
          let both : Some here ≡ Some first = sym at ∙ ap (slice_get flops) none ∙ at_first in
          let is : here ≡ first = cc in
          absurd (apart (ap (λ (flop : LoadedFlop). flop.next) is ∙ same))
    ]

-- what holds by what has been asked for holds by what is kept then
led_same : (old new : Asked) (back point : ℕ) → DiffersInOwn old new → IsLedBack old back point → IsLedBack new back point
led_same old new back point differs led = record {
  marked = subst (λ (marks : List Bool). IsMarked marks back) (sym differs.marks) led.marked;
  led = ap (λ (leads : List ℕ). slice_get leads back) differs.leads ∙ led.led;
}

pub holding_same : (network : Network) (old new : Asked) (groups : List FlopGroup) → DiffersInOwn old new → AreHolding network old groups → AreHolding network new groups
holding_same network old new groups differs are place group at =
    let is = are place group at in
    record {
      enable = is.enable;
      flops = is.flops;
      holds = λ k flop there t closed.
          let takes = is.holds k flop there t closed in
          record { back = takes.back; led = led_same old new takes.back flop.point differs takes.led; is = takes.is };
    }

-- ---- flip-flops in groups

pub record AreFlopGroupsSoFar (network : Network) (asked : Asked) (all rest : List LoadedFlop) (groups : List FlopGroup) : Type 0 where
  pub front : List LoadedFlop
  pub parts : all ≡ front ++ rest
  pub in_groups : AreInFlopGroups groups front
  pub are : AreFlopGroups network asked all groups

pub groups_none : (network : Network) (asked : Asked) (all : List LoadedFlop) → AreFlopGroupsSoFar network asked all all []
groups_none network asked all = record {
  front = [];
  parts = refl;
  in_groups = λ place flop e. cc;
  are = record { holding = λ place group e. cc; among = λ place group e. cc };
}

-- flip-flops of the middle stand among all
middle_among : (before front after : List LoadedFlop) → AreAmong front (before ++ front ++ after)
middle_among before front after place flop e =
    (length before + place, flop, get_left (before ++ front) after (length before + place) flop (get_right before front place flop e), refl)

pub groups_more : (network : Network) (asked : Asked) (all rest front after : List LoadedFlop) (groups : List FlopGroup) (group : FlopGroup) → AreFitFlops network all →
    AreFlopGroupsSoFar network asked all rest groups → rest ≡ front ++ after → IsFlopGroupOf network asked front group → AreFlopGroupsSoFar network asked all after (groups ++ group ∷ [])
groups_more network asked all rest front after groups group fits so_far parts is =
    let whole : all ≡ so_far.front ++ front ++ after =
    so_far.parts ∙ ap (λ (xs : List LoadedFlop). so_far.front ++ xs) parts ∙ sym (append_assoc so_far.front front after) in
    let among : AreAmong front all = subst (λ (xs : List LoadedFlop). AreAmong front xs) (sym whole) (middle_among so_far.front front after) in
    let fit : AreFitFlops network front =
    λ k flop e. let one = among k flop e in subst (IsFitFlop network) one.3 (fits one.0 one.1 one.2) in
    let here : AreInFlopGroups (groups ++ group ∷ []) front =
    λ k flop e. one_last (λ (g : FlopGroup). HasOne g.flops.items (λ (f : LoadedFlop). f.point ≡ flop.point)) groups group
    (k, flop, ap (λ (xs : List LoadedFlop). slice_get xs k) is.is ∙ e, refl) in
    let before : AreInFlopGroups (groups ++ group ∷ []) so_far.front =
    λ k flop e. one_left (λ (g : FlopGroup). HasOne g.flops.items (λ (f : LoadedFlop). f.point ≡ flop.point)) groups (group ∷ []) (so_far.in_groups k flop e) in
    record {
      front = so_far.front ++ front;
      parts = whole;
      in_groups = each_both (λ (flop : LoadedFlop). IsInFlopGroups (groups ++ group ∷ []) flop.point) so_far.front front before here;
      are = record {
        holding = each_more (IsHolding network asked) groups group so_far.are.holding
            (record {
              enable = is.enable;
              flops = subst (AreFitFlops network) (sym is.is) fit;
              holds = subst (λ (xs : List LoadedFlop). Each xs (Holds network asked group.enable)) (sym is.is) is.holds;
            });
        among = each_more (λ (g : FlopGroup). AreAmong g.flops.items all) groups group so_far.are.among
            (subst (λ (xs : List LoadedFlop). AreAmong xs all) (sym is.is) among);
      };
    }

pub groups_all : (network : Network) (asked : Asked) (all : List LoadedFlop) (groups : List FlopGroup) → AreFlopGroupsSoFar network asked all [] groups → AreInFlopGroups groups all
groups_all network asked all groups so_far = subst (AreInFlopGroups groups) (sym (so_far.parts ∙ append-nil so_far.front)) so_far.in_groups

-- what is left is fit
pub rest_fit : (network : Network) (asked : Asked) (all rest : List LoadedFlop) (groups : List FlopGroup) → AreFlopGroupsSoFar network asked all rest groups →
    AreFitFlops network all → AreFitFlops network rest
rest_fit network asked all rest groups so_far fits =
    each_right (IsFitFlop network) so_far.front rest (subst (AreFitFlops network) so_far.parts fits)

-- ---- what a tick leaves in a group

-- a flip-flop that takes what it has
flop_held : (network : Network) (tick : Tick network) (demand : Asked) (enable : Enable) (flop : LoadedFlop) (held : PlainTern) → Shows network tick.asked demand tick.t →
    DiffersInOwn tick.asked demand → IsLoadedFlop network tick.asked tick.loads flop → Holds network demand enable flop →
    enable_tern network.trees.items (seen demand.terns demand.leads) enable ≡ no → (held ≡ tick.before flop.point) ⊎ IsSet network tick flop.point held →
    IsLeft network Loader tick.t flop.point held
flop_held network tick demand enable flop held shows differs is holds closed way =
    let takes = holds (seen demand.terns demand.leads) closed in
    let marked : IsMarked tick.asked.marks takes.back = subst (λ (marks : List Bool). IsMarked marks takes.back) differs.marks takes.led.marked in
    let led : slice_get tick.asked.leads takes.back ≡ Some flop.point = ap (λ (leads : List ℕ). slice_get leads takes.back) (sym differs.leads) ∙ takes.led.led in
    let lead : slice_index tick.asked.leads takes.back ≡ flop.point = get_or_from_slice_get tick.asked.leads takes.back flop.point 0 led in
    let before : source_tern network.trees.items tick.t flop.next ≡ tick.before flop.point =
    sym (shows.sources flop.next is.ready.asked_for) ∙ takes.is ∙ shows.points takes.back marked ∙ tick.possible.follows takes.back marked ∙ ap tick.t lead
    ∙ tick.flops flop.point flop.next is.is in
    elim way [
      | inl e ↦ (flop_set network tick flop held is (e ∙ sym before)).left
      | inr set ↦ set.left
    ]

pub group_closed : (network : Network) (demand : Asked) (group : FlopGroup) (old : List Tern) → IsHolding network demand group →
    enable_tern network.trees.items (seen demand.terns demand.leads) group.enable ≡ no → LeavesGroup network group demand old old
group_closed network demand group old holding closed tick shows differs are way = record {
  on_way = way;
  stay = λ p h. h;
  left = λ p one.
      let flop = one.1 in
      let left = flop_held network tick demand group.enable flop (kept_tern old flop.point) shows differs (are one.0 flop one.2) (holding.holds one.0 flop one.2) closed (way flop.point) in
      subst (λ (q : ℕ). IsLeft network Loader tick.t q (kept_tern old q)) one.3 left;
}

pub group_opened : (network : Network) (demand : Asked) (group : FlopGroup) (flops : List LoadedFlop) (old new : List Tern) → flops ≡ group.flops.items →
    LeavesFlops network flops demand old new → LeavesGroup network group demand old new
group_opened network demand group flops old new same leaves tick shows differs are way =
    subst (λ (fs : List LoadedFlop). LeavesPoints network tick (λ point. HasOne fs (λ flop. flop.point ≡ point)) old new) same
    (leaves tick shows (subst (AreFlops network tick.asked tick.loads) (sym same) are) way)

abbrev pub GroupsSoFar : (network : Network) → List FlopGroup → (demand : Asked) → (count : ℕ) → (old now : List Tern) → Type 0
GroupsSoFar network groups demand count old now =
    (tick : Tick network) → Shows network tick.asked demand tick.t → DiffersInOwn tick.asked demand →
    Each groups (λ (group : FlopGroup). AreFlops network tick.asked tick.loads group.flops.items) → AreOnWay network tick old →
    LeavesPoints network tick (λ point. HasBelow count groups (λ (group : FlopGroup). HasOne group.flops.items (λ (flop : LoadedFlop). flop.point ≡ point))) old now

pub groups_start : (network : Network) (groups : List FlopGroup) (demand : Asked) (old : List Tern) → GroupsSoFar network groups demand 0 old old
groups_start network groups demand old tick shows differs are way =
    record { on_way = way; stay = λ point is. is; left = λ point has. absurd (omega (arith, has.2)) }

pub group_step : (network : Network) (groups : List FlopGroup) (demand : Asked) (k : ℕ) (old now new : List Tern) (group : FlopGroup) → slice_get groups k ≡ Some group →
    LeavesGroup network group demand now new → GroupsSoFar network groups demand k old now → GroupsSoFar network groups demand (k + 1) old new
group_step network groups demand k old now new group at leaves so_far tick shows differs are way =
    let before = so_far tick shows differs are way in
    leaves_both network tick (λ point. HasBelow k groups (λ (g : FlopGroup). HasOne g.flops.items (λ (flop : LoadedFlop). flop.point ≡ point)))
    (λ point. HasOne group.flops.items (λ flop. flop.point ≡ point))
    (λ point. HasBelow (k + 1) groups (λ (g : FlopGroup). HasOne g.flops.items (λ (flop : LoadedFlop). flop.point ≡ point))) old now new before
    (leaves tick shows differs (are k group at) before.on_way)
    (λ q has. below_more groups k group (λ (g : FlopGroup). HasOne g.flops.items (λ (flop : LoadedFlop). flop.point ≡ q)) at has)

pub groups_done : (network : Network) (groups : List FlopGroup) (demand : Asked) (k : ℕ) (old now : List Tern) → length groups ≤ k → GroupsSoFar network groups demand k old now →
    LeavesGroups network groups demand old now
groups_done network groups demand k old now past so_far tick shows differs are way =
    let leaves = so_far tick shows differs are way in
    record {
      on_way = leaves.on_way;
      stay = leaves.stay;
      left = λ q one. leaves.left q (below_all groups k (λ (g : FlopGroup). HasOne g.flops.items (λ (flop : LoadedFlop). flop.point ≡ q)) past one);
    }

-- all flip-flops stand in groups
pub groups_leave : (network : Network) (asked demand : Asked) (flops : List LoadedFlop) (groups : List FlopGroup) (old new : List Tern) → AreFlopGroups network asked flops groups →
    AreInFlopGroups groups flops → LeavesGroups network groups demand old new → LeavesFlopsOf network flops demand old new
groups_leave network asked demand flops groups old new are all leaves tick shows differs loaded way =
    let each : Each groups (λ (group : FlopGroup). AreFlops network tick.asked tick.loads group.flops.items) =
    λ place group at k flop there.
    let one = are.among place group at k flop there in
    subst (IsLoadedFlop network tick.asked tick.loads) one.3 (loaded one.0 one.1 one.2) in
    let left = leaves tick shows differs each way in
    record {
      on_way = left.on_way;
      stay = left.stay;
      left = λ q one. left.left q (subst (IsInFlopGroups groups) one.3 (all one.0 one.1 one.2));
    }

-- ---- what is kept from word to word

-- flip-flops that are taken whatever their enables are
pub flops_leave : (network : Network) (flops : List LoadedFlop) (demand : Asked) (old new : List Tern) → LeavesFlops network flops demand old new →
    LeavesFlopsOf network flops demand old new
flops_leave network flops demand old new leaves tick shows differs are way = leaves tick shows are way

pub groups_same : (network : Network) (old new : Asked) (flops : List LoadedFlop) (groups : List FlopGroup) → DiffersInOwn old new → AreFlopGroups network old flops groups →
    AreFlopGroups network new flops groups
groups_same network old new flops groups differs are = record { holding = holding_same network old new groups differs are.holding; among = are.among }
