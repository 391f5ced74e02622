-- The table of a module, and of one module more.
use Rattle.std.proofs.Common.{◌≡◌, ℕ, ◌+◌, ◌<◌, true, List, [], ◌∷◌, ◌++◌, length, map, take, reverse, get_or, replicate, slice_get, Some, None, refl, sym, ap, subst, ◌∙◌, inl, inr, arith}
use Rattle.std.proofs.lemmas.List.{append-nil, length-append, length-reverse, length-take-le, reverse-append}
use Rattle.std.proofs.lemmas.Grind.{flat_map-append}
use Rattle.std.proofs.lemmas.Option.{slice_get_within, slice_get-map, slice_get_read, get_or_from_slice_get}
use Rattle.std.specs.List.{flat_map}
use Rattle.std.specs.Map.{lookup}
use Rattle.std.specs.Option.{option_map}
use Rattle.std.specs.Str.{bytes_eq}
use Rattle.fab_syntax.specs.declared.tree.Module.{Module}
use Rattle.fab_syntax.specs.Plain.{PlainExpr, PlainModule, plain_module}
use Rattle.fab_syntax.specs.Declarations.{is_input, times_driven}
use Rattle.fab_syntax.specs.Sound.{item_expressions}
use Rattle.fab_values.specs.Declarations.{Declaration, declarations}
use Rattle.fab_equations.specs.Instances.{expressions}
use Rattle.fab_equations.specs.Counting.{AreCounts, count_or_none}
use Rattle.fab_equations.specs.Numbers.{AreNumbers}
use Rattle.fab_equations.specs.Children.{children, modules_before}
use Rattle.fab_equations.specs.Tables.{firsts_of, DrivesName, IsTable}
use Rattle.fab_equations.specs.inner.Building.{Spot, IsDrivenSoFar, IsInside, IsBefore}
use Rattle.fab_equations.specs.declared.tables.LocalDriver.{LocalDriver}
use Rattle.fab_equations.specs.declared.tables.LocalDriver.TheVariants.{Input, Value, Flop, Hold, Output}
use Rattle.fab_equations.specs.declared.tables.Table.{Table}
use Rattle.fab_equations.specs.declared.before.Before.{Before}
use Rattle.fab_equations.specs.declared.driving.Inside.{Inside}
use Rattle.fab_equations.proofs.Counted.{take_next}
use Rattle.fab_equations.proofs.ListPlaces.{taken, found_itself}
use Rattle.fab_equations.proofs.Roles.{is_input_role, input_role, driven_or_input}
use Rattle.fab_equations.proofs.SoundModules.{once_here, drivers_fit}
use Rattle.fab_equations.proofs.ChildSteps.{in_copies, pushed_cases}

-- ---- the items of a module

pub none_inside : (spot : Spot) (inside : Inside) (wide : ℕ) → inside.drivers.items ≡ replicate wide Input → inside.child_names.keys ≡ [] → inside.children.items ≡ [] →
    inside.next_offset ≡ 1 → wide ≡ length (declarations spot.here) → IsInside spot [] inside
none_inside spot inside wide drivers names none offset many = record {
  drivers = λ number d at.
      (Input, ap (λ xs. slice_get xs number) drivers ∙ in_copies wide number Input (omega (arith, many, slice_get_within (declarations spot.here) number d at)), refl);
  child_names = ap (map (λ key. key.items)) names;
  offset = offset;
  children_count = ap length none;
  children_fit = λ number child at. (let no : None ≡ Some child = ap (λ xs. slice_get xs number) (sym none) ∙ at in cc);
}

-- what nothing drives is an input
undriven : (spot : Spot) (number : ℕ) (d : Declaration) → slice_get (declarations spot.here) number ≡ Some d → times_driven spot.text spot.here.items d.name ≡ 0 →
    is_input spot.here.ports d.name ≡ true
undriven spot number d at none =
    let fit = drivers_fit spot in
    let it = found_itself 0 (declarations spot.here) number d (once_here spot d.name) at in
    elim (driven_or_input spot.text spot.here spot.here.ports spot.here.items fit.0 fit.1 number d at) [
      | inl one ↦ absurd (omega (arith, one, none))
      | inr input ↦ input_role 0 spot.here.ports spot.here.items d.name it.0 it.1 ∙ ap is_input_role (it.2 ∙ input)
    ]

all_driven : (spot : Spot) (number : ℕ) (d : Declaration) → slice_get (declarations spot.here) number ≡ Some d → (driver : LocalDriver) →
    IsDrivenSoFar spot (times_driven spot.text spot.here.items d.name) d.name driver → DrivesName spot.text spot.here d.name driver
all_driven spot number d at Input none = undriven spot number d at none
all_driven spot number d at (Value value) is = is
all_driven spot number d at (Flop clock next) is = is
all_driven spot number d at (Hold gate latched) is = is
all_driven spot number d at (Output child place) is = is

pub table_is : (spot : Spot) (inside : Inside) (table : Table) → IsInside spot spot.here.items inside → table.names ≡ declarations spot.here →
    table.firsts.items ≡ firsts_of (declarations spot.here) → table.drivers ≡ inside.drivers → table.child_names ≡ inside.child_names → table.children ≡ inside.children →
    IsTable spot.text (modules_before spot.text spot.number) spot.here table
table_is spot inside table all names firsts drivers child_names children = record {
  names = names;
  firsts = firsts;
  drivers = λ number d at. (let told = all.drivers number d at in
      (told.0, ap (λ v. slice_get v.items number) drivers ∙ told.1, all_driven spot number d at told.0 told.2));
  child_names = ap (λ s. map (λ key. key.items) s.keys) child_names ∙ all.child_names;
  children_count = ap (λ v. length v.items) children ∙ all.children_count;
  children_fit = λ number child at. all.children_fit number child (ap (λ v. slice_get v.items number) (sym children) ∙ at);
}

-- the expressions of a text around those of a module
pub expressions_around : (spot : Spot) → (more : List PlainExpr) × (expressions (take spot.number spot.text) ++ (flat_map item_expressions spot.here.items ++ more) ≡ expressions spot.text)
unfolding expressions
expressions_around spot =
    let parts = taken spot.text spot.number spot.here spot.stands in
    let own = λ (m : PlainModule). flat_map item_expressions m.items in
    (flat_map own parts.0, sym (ap (flat_map own) parts.1 ∙ flat_map-append own (take spot.number spot.text) (spot.here ∷ parts.0)))

-- ---- modules

pub module_at : (modules : List Module) (whole : List Module) (i : ℕ) (m : Module) → modules ≡ whole → i < length modules → m ≡ get_or modules i m →
    slice_get (map plain_module whole) i ≡ Some (plain_module m)
module_at modules whole i m same l is =
    ap (λ ms. slice_get (map plain_module ms) i) (sym same) ∙ slice_get-map plain_module modules i ∙ ap (option_map plain_module) (slice_get_read modules (length modules) i m refl l is)

take_push : {X : Type 0} (xs : List X) (n : ℕ) (x : X) → slice_get xs n ≡ Some x → take (n + 1) xs ≡ take n xs ++ x ∷ []
take_push xs n x at = take_next xs n x (slice_get_within xs n x at) (sym (get_or_from_slice_get xs n x x at))

behind_push : (text : List PlainModule) (n : ℕ) (m : PlainModule) → slice_get text n ≡ Some m → modules_before text (n + 1) ≡ m ∷ modules_before text n
behind_push text n m at = ap reverse (take_push text n m at) ∙ reverse-append (take n text) (m ∷ [])

pub none_before : (text : List PlainModule) (before : Before) → before.counts.entries ≡ [] → before.numbers.entries ≡ [] → before.tables.items ≡ [] → IsBefore text 0 before
none_before text before counts numbers tables = record {
  counts = λ name. ap (λ es. count_or_none (lookup (λ key. bytes_eq name key.items) es)) counts;
  numbers = λ name. ap (lookup (λ key. bytes_eq name key.items)) numbers;
  tables = ap length tables;
  fit = λ k m table stands at. (let no : None ≡ Some table = ap (λ xs. slice_get xs k) (sym tables) ∙ at in cc);
}

pub before_step : (text : List PlainModule) (n : ℕ) (m : PlainModule) (old new : Before) (table : Table) → slice_get text n ≡ Some m → IsBefore text n old →
    IsTable text (modules_before text n) m table →
    ((before : List PlainModule) → AreCounts before old.counts.entries → AreCounts (m ∷ before) new.counts.entries) →
    ((before : List PlainModule) → length old.tables.items ≡ length before → AreNumbers before old.numbers.entries → AreNumbers (m ∷ before) new.numbers.entries) →
    new.tables.items ≡ old.tables.items ++ table ∷ [] → IsBefore text (n + 1) new
before_step text n m old new table at known is counts numbers pushed =
    let long : length (modules_before text n) ≡ n = length-reverse (take n text) ∙ length-take-le n text (omega (arith, slice_get_within text n m at)) in
    record {
      counts = subst (λ ms. AreCounts ms new.counts.entries) (sym (behind_push text n m at)) (counts (modules_before text n) known.counts);
      numbers = subst (λ ms. AreNumbers ms new.numbers.entries) (sym (behind_push text n m at)) (numbers (modules_before text n) (known.tables ∙ sym long) known.numbers);
      tables = ap length pushed ∙ length-append old.tables.items (table ∷ []) ∙ ap (λ k. k + 1) known.tables;
      fit = λ k other found stands there.
          elim (pushed_cases old.tables.items table found k (ap (λ xs. slice_get xs k) (sym pushed) ∙ there)) [
            | inl earlier ↦ known.fit k other found stands earlier
            | inr last ↦ (
                let place : k ≡ n = last.0 ∙ known.tables in
                let same : Some m ≡ Some other = sym at ∙ ap (slice_get text) (sym place) ∙ stands in
                let it : m ≡ other = cc in
                subst (λ j. IsTable text (modules_before text j) other found) (sym place)
                (subst (λ o. IsTable text (modules_before text n) o found) it (subst (IsTable text (modules_before text n) m) last.1 is)))
          ];
    }

pub expressions_step : (text : List PlainModule) (n : ℕ) (m : PlainModule) (es more : List PlainExpr) → slice_get text n ≡ Some m → es ≡ expressions (take n text) →
    more ≡ es ++ flat_map item_expressions m.items → more ≡ expressions (take (n + 1) text)
unfolding expressions
expressions_step text n m es more at so_far longer =
    let own = λ (k : PlainModule). flat_map item_expressions k.items in
    longer ∙ ap (λ xs. xs ++ flat_map item_expressions m.items) so_far
    ∙ ap (λ xs. flat_map own (take n text) ++ xs) (sym (append-nil (flat_map item_expressions m.items)))
    ∙ sym (flat_map-append own (take n text) (m ∷ []))
    ∙ ap (flat_map own) (sym (take_push text n m at))

pub no_expressions : (text : List PlainModule) → [] ≡ expressions (take 0 text)
unfolding expressions
no_expressions text = refl
