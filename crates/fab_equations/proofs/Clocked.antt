-- Where a clock leads: each instance on the way has it as an input, to which the one above has joined a name.
use Rattle.std.proofs.Common.{◌≡◌, ℕ, zero, suc, ◌<◌, true, nat_lt, List, [], ◌∷◌, ◌++◌, length, map, slice_get, get_or, All, Option, Some, None, refl, sym, ap, subst, ◌∙◌, inl, inr, arith, Bool}
use Rattle.std.specs.Borrow.{Bor}
use Rattle.std.specs.List.{position_or_len}
use Rattle.std.specs.Option.{option_map}
use Rattle.std.specs.Str.{bytes_eq}
use Rattle.std.proofs.lemmas.Bool.{cases_Bool, lt-ltb}
use Rattle.std.proofs.lemmas.List.Quantifiers.{position-Some}
use Rattle.std.proofs.lemmas.Option.{slice_get_within, slice_get_read, slice_get-get_or, slice_get-map}
use Rattle.std.proofs.lemmas.Slice.Eq.{bytes_eq-Decides}
use Rattle.fab_syntax.specs.Declarations.{is_input, module_named, width, width_if_any}
use Rattle.fab_syntax.specs.declared.tree.Expr.{Expr}
use Rattle.fab_syntax.specs.declared.tree.Expr.TheVariants.{Var}
use Rattle.fab_syntax.specs.declared.tree.Port.{Port}
use Rattle.fab_syntax.specs.declared.tree.Shape.TheVariants.{Scalar}
use Rattle.fab_syntax.specs.Plain.{PlainExpr, variable, constant, pick, part, concatenation, complement, operation, conditional, PlainJoin, instance, PlainModule, plain_expr}
use Rattle.fab_syntax.specs.Sound.{ServesAsClock, leads, IsScalarInput, IsJoinedToClock, ClockFits}
use Rattle.fab_values.specs.fab_meaning.specs.Points.{Path, point, instance_in, module_at}
use Rattle.fab_values.specs.fab_meaning.specs.Runs.{clock_of, join_named}
use Rattle.fab_values.specs.fab_meaning.specs.Sound.{DrivesOnce, JoinsOnce}
use Rattle.fab_values.specs.fab_meaning.proofs.Clocks.{clock_at_top, clock_below}
use Rattle.fab_values.specs.fab_meaning.proofs.Counted.{instance_found, join_found}
use Rattle.fab_values.specs.fab_meaning.proofs.Dependence.{same_name}
use Rattle.fab_values.specs.fab_meaning.proofs.Modules.{all_holds, module_at_holds}
use Rattle.fab_values.specs.fab_meaning.proofs.SoundTexts.{sound_drives_once}
use Rattle.fab_values.specs.Declarations.{Declaration, declarations, port_declaration, number_of}
use Rattle.fab_values.specs.declared.names.Role.TheVariants as roles
use Rattle.fab_values.specs.declared.names.Local.{Local}
use Rattle.fab_equations.specs.Instances.{Instance, instances, expressions, points}
use Rattle.fab_equations.specs.Numbering.{IsInstanceOfNumber}
use Rattle.fab_equations.specs.Tables.{IsExpression, firsts_of}
use Rattle.fab_equations.specs.Equations.{IsPoint}
use Rattle.fab_equations.specs.Lookups.{IsHere, IsJoinedAbove, IsName, IsClock}
use Rattle.fab_equations.specs.declared.lookups.Here.{Here}
use Rattle.fab_equations.specs.declared.driver.Source.{Source}
use Rattle.fab_equations.proofs.Numbering.{same_value, instances_stand}
use Rattle.fab_equations.proofs.Standing.{child_item}
use Rattle.fab_equations.proofs.Paths.{top_path}
use Rattle.fab_equations.proofs.Places.{names_have_points}
use Rattle.fab_equations.proofs.Points.{named_once, found_width}
use Rattle.fab_equations.proofs.Located.{firsts_long, found_declared}
use Rattle.fab_equations.proofs.Joined.{role_of_input}

-- ---- the declaration of a name

pub passes : {X : Type 0} (p : X → Bool) (xs : List X) (k : ℕ) (x : X) → slice_get xs k ≡ Some x → p x ≡ true → position_or_len p xs < length xs
passes p [] k x e t = cc
passes p (y ∷ xs) zero x e t =
    let same : y ≡ x = cc in
    let here : p y ≡ true = ap p same ∙ t in
    rw here (omega arith)
passes p (y ∷ xs) (suc k) x e t =
    elim (cases_Bool (p y)) [ inl here ↦ rw here (omega arith) | inr not ↦ rw not (omega (arith, passes p xs k x e t)) ]

-- a declared name has a number
numbered : (ds : List Declaration) (k : ℕ) (d : Declaration) → slice_get ds k ≡ Some d → (n : ℕ) × (number_of ds d.name ≡ Some n)
numbered ds k d e =
    let l = passes (λ (x : Declaration). bytes_eq d.name x.name) ds k d e (same_name d.name) in
    let t : nat_lt (position_or_len (λ (x : Declaration). bytes_eq d.name x.name) ds) (length ds) ≡ true = lt-ltb _ _ l in
    (position_or_len (λ (x : Declaration). bytes_eq d.name x.name) ds, rw t refl)

-- under which it is declared
pub declared_under : (ds : List Declaration) (name : List ℕ) (n : ℕ) → number_of ds name ≡ Some n → (d : Declaration) × (slice_get ds n ≡ Some d) × (d.name ≡ name)
declared_under [] name n e = absurd (by (position-Some (λ (x : Declaration). bytes_eq name x.name) [] n none e).0)
  where
    none : Declaration
    none = record { name = []; shape = Scalar; role = roles.Input }

    by : n < 0 → ⊥
    by l = omega arith
declared_under (first ∷ ds) name n e =
    let found = position-Some (λ (x : Declaration). bytes_eq name x.name) (first ∷ ds) n first e in
    (get_or (first ∷ ds) n first, slice_get-get_or (first ∷ ds) n first found.0, sym ((bytes_eq-Decides name (get_or (first ∷ ds) n first).name).0 found.1))

input_declared : (ports : List Port) (rest : List Declaration) (name : List ℕ) → is_input ports name ≡ true →
    (k : ℕ) × (d : Declaration) × (slice_get (map port_declaration ports ++ rest) k ≡ Some d) × (d.name ≡ name)
input_declared [] rest name e = cc
input_declared (port ∷ ports) rest name e =
    elim (cases_Bool (bytes_eq port.name name)) [
      | inl t ↦ (0, port_declaration port, refl, (bytes_eq-Decides port.name name).0 t)
      | inr f ↦ (let later : is_input ports name ≡ true = rw f at e in
          let found = input_declared ports rest name later in
          (suc found.0, found.1, found.2, found.3))
    ]

pub input_numbered : (m : PlainModule) (name : List ℕ) → is_input m.ports name ≡ true → (n : ℕ) × (number_of (declarations m) name ≡ Some n)
input_numbered m name e =
    let found = input_declared m.ports _ name e in
    let n = numbered (declarations m) found.0 found.1 found.2 in
    (n.0, ap (number_of (declarations m)) (sym found.3) ∙ n.1)

-- ---- an expression that is a name

var_only : (e : Expr) (name : List ℕ) → plain_expr e ≡ variable name → e ≡ Var name
var_only (Var other) name same = cc
var_only _ name same = cc

pub names_var : (text : List PlainModule) (exprs : List (Bor Expr)) → map (λ e. plain_expr e.now) exprs ≡ expressions text → (number : ℕ) (name : List ℕ) →
    IsExpression text number (variable name) → (e : Bor Expr) → e ≡ get_or exprs number e → e.now ≡ Var name
names_var text exprs are number name is e read =
    let mapped : slice_get (map (λ (x : Bor Expr). plain_expr x.now) exprs) number ≡ Some (variable name) = ap (λ es. slice_get es number) are ∙ is in
    let option : option_map (λ (x : Bor Expr). plain_expr x.now) (slice_get exprs number) ≡ Some (variable name) =
    sym (slice_get-map (λ (x : Bor Expr). plain_expr x.now) exprs number) ∙ mapped in
    by (slice_get exprs number) refl option
  where
    by : (o : Option (Bor Expr)) → slice_get exprs number ≡ o → option_map (λ (x : Bor Expr). plain_expr x.now) o ≡ Some (variable name) → e.now ≡ Var name
    by None none mapped = cc
    by (Some x) some mapped =
        let at = slice_get_read exprs (length exprs) number e refl (slice_get_within exprs number x some) read in
        let same : x ≡ e = same_value (slice_get exprs number) x e some at in
        let is_var : plain_expr x.now ≡ variable name = cc in
        var_only e.now name (ap (λ (y : Bor Expr). plain_expr y.now) (sym same) ∙ is_var)

same_var : (a b : List ℕ) → Var a ≡ Var b → a ≡ b
same_var a b e = cc

-- the number that the table has of the name
pub var_numbered : (text : List PlainModule) (exprs : List (Bor Expr)) → map (λ e. plain_expr e.now) exprs ≡ expressions text →
    (source : Source) (declared : ℕ) (named : IsName text source declared) (e : Bor Expr) → e ≡ get_or exprs source.expr e → (name : List ℕ) → e.now ≡ Var name →
    (here : Here) → IsHere text source.instance here → number_of here.table.now.names name ≡ Some declared
var_numbered text exprs are source declared named e read name is here kept =
    let same_name : name ≡ named.name = same_var name named.name (sym is ∙ names_var text exprs are source.expr named.name named.expression e read) in
    let same : kept.placed.i ≡ named.i = same_value (slice_get (instances text) source.instance) kept.placed.i named.i kept.placed.is named.is in
    (λ k. number_of (kept.table.names k) (same_name k)) ∙ ap (λ (i : Instance). number_of (declarations i.here) named.name) same ∙ named.declares

-- ---- one step up

same_variable : (a b : List ℕ) → variable a ≡ variable b → a ≡ b
same_variable a b e = cc

module _ (text : List PlainModule) (number declared : ℕ) (clock : IsClock text number declared) (source : Source) (up : IsJoinedAbove text number declared source) where
  same_instance : up.input.i ≡ clock.i
  same_instance = same_value (slice_get (instances text) number) up.input.i clock.i up.input.is clock.is

  same_declaration : up.input.d ≡ clock.d
  same_declaration =
      same_value (slice_get (declarations clock.i.here) declared) up.input.d clock.d
      (ap (λ (i : Instance). slice_get (declarations i.here) declared) (sym same_instance) ∙ up.input.declares) clock.declares

  joined_name : (e : PlainExpr) → IsJoinedToClock up.above.here (Some e) → (name : List ℕ) × (e ≡ variable name) × IsScalarInput up.above.here name
  joined_name (variable name) fits = (name, refl, fits)
  joined_name (constant bits) fits = absurd fits
  joined_name (pick name index) fits = absurd fits
  joined_name (part name high low) fits = absurd fits
  joined_name (concatenation es) fits = absurd fits
  joined_name (complement e) fits = absurd fits
  joined_name (operation op a b) fits = absurd fits
  joined_name (conditional c a b) fits = absurd fits

  -- the name that is joined to the clock
  record ClockJoin : Type 0 where
    name : List ℕ
    input : IsScalarInput up.above.here name
    expression : IsExpression text source.expr (variable name)
    serves : ServesAsClock text up.above.here name
    leads_to : clock_of text clock.i.path clock.d.name ≡ clock_of text up.above.path name

  clock_join : ClockJoin
  clock_join =
      let sound = up.sound in
      let above = up.above in
      let child = up.child.child in
      let joined = up.joined in
      let stands = (instances_stand text sound source.instance above up.above_is).0 in
      let here = (instances_stand text sound number clock.i clock.is).0 in
      let item = child_item above.here.items up.place child up.child.is in
      let of : module_named text child.module_name ≡ Some clock.i.here = up.child.of ∙ ap (λ (i : Instance). Some i.here) same_instance in
      let port : joined.join.port ≡ clock.d.name = joined.port_is ∙ ap (λ (d : Declaration). d.name) same_declaration in
      let clocks = module_at_holds (λ (m : PlainModule). All (ClockFits text m) m.items) text above.path above.here sound.clocks stands in
      let fits = all_holds (ClockFits text above.here) above.here.items (instance child.module_name child.name child.joins) clocks item clock.i.here of in
      let serves : ServesAsClock text clock.i.here joined.join.port = subst (ServesAsClock text clock.i.here) (sym port) clock.serves in
      let to = all_holds (λ (join : PlainJoin). ServesAsClock text clock.i.here join.port → IsJoinedToClock above.here join.to) child.joins joined.join fits joined.holds serves in
      let named = joined_name joined.e (subst (IsJoinedToClock above.here) joined.to to) in
      let is_to : joined.join.to ≡ Some (variable named.0) = joined.to ∙ ap Some named.1 in
      let expr : source.expr ≡ joined.number = cc in
      let once = module_at_holds (DrivesOnce text) text above.path above.here (sound_drives_once text sound) stands in
      let joins_once = all_holds JoinsOnce above.here.items (instance child.module_name child.name child.joins) once.joins item in
      let path : clock.i.path ≡ child.name ∷ above.path = ap (λ (i : Instance). i.path) (sym same_instance) ∙ up.child.path in
      record {
        name = named.0;
        input = named.2;
        expression = ap (slice_get (expressions text)) expr ∙ joined.expression ∙ ap Some named.1;
        serves = leads child.module_name child.name child.joins joined.join clock.i.here item joined.holds is_to of serves;
        leads_to =
            ap (λ p. clock_of text p clock.d.name) path
            ∙ clock_below text above.path child.name clock.d.name clock.i.here (record { module_name = child.module_name; joins = child.joins }) named.0
            (ap (module_at text) (sym path) ∙ here) clock.input.0
            (ap (λ o. instance_in o child.name) stands ∙ instance_found above.here.items child.module_name child.name child.joins item (once.instances child.name))
            (ap (join_named child.joins) (sym port) ∙ join_found child.joins joined.join joined.holds (joins_once joined.join.port) ∙ is_to);
      }

  pub clock_named : (n : ℕ) × IsName text source n
  clock_named =
      let join = clock_join in
      let n = input_numbered up.above.here join.name join.input.0 in
      (n.0, record { i = up.above; is = up.above_is; name = join.name; expression = join.expression; declares = n.1 })

  pub clock_above : (n : ℕ) → IsName text source n → (next : IsClock text source.instance n) × (clock_of text clock.i.path clock.d.name ≡ clock_of text next.i.path next.d.name)
  clock_above n named =
      let join = clock_join in
      let same : named.i ≡ up.above = same_value (slice_get (instances text) source.instance) named.i up.above named.is up.above_is in
      let name : named.name ≡ join.name =
      same_variable named.name join.name (same_value (slice_get (expressions text) source.expr) (variable named.name) (variable join.name) named.expression join.expression) in
      let declares : number_of (declarations up.above.here) join.name ≡ Some n =
      (λ k. number_of (declarations (sym same k).here) (sym name k)) ∙ named.declares in
      let d = declared_under (declarations up.above.here) join.name n declares in
      let input : IsScalarInput up.above.here d.0.name = subst (IsScalarInput up.above.here) (sym d.2) join.input in (
        record {
          i = up.above;
          is = up.above_is;
          d = d.0;
          declares = d.1;
          role = role_of_input text up.sound source.instance n up.above up.above_is d.0 d.1 input.0;
          serves = subst (ServesAsClock text up.above.here) (sym d.2) join.serves;
          input = input;
        },
        join.leads_to ∙ ap (clock_of text up.above.path) (sym d.2),
      )

-- ---- the first clock, and the last

pub same_clock : (text : List PlainModule) (number declared : ℕ) (a b : IsClock text number declared) → clock_of text a.i.path a.d.name ≡ clock_of text b.i.path b.d.name
same_clock text number declared a b =
    let i : a.i ≡ b.i = same_value (slice_get (instances text) number) a.i b.i a.is b.is in
    let d : a.d ≡ b.d =
    same_value (slice_get (declarations b.i.here) declared) a.d b.d (ap (λ (x : Instance). slice_get (declarations x.here) declared) (sym i) ∙ a.declares) b.declares in
    λ k. clock_of text (i k).path (d k).name

module _ (text : List PlainModule) (number declared : ℕ) (here : Here) (is : IsHere text 0 here) (clock : IsClock text number declared) (top : number ≡ 0) where
  zeroth : IsInstanceOfNumber text 0 clock.i
  zeroth = subst (λ n. IsInstanceOfNumber text n clock.i) top clock.is

  same_top : is.placed.i ≡ clock.i
  same_top = same_value (slice_get (instances text) 0) is.placed.i clock.i is.placed.is zeroth

  pub clock_within : declared < length here.table.now.firsts.items
  clock_within =
      omega (
        arith,
        ap length is.table.firsts,
        firsts_long 0 (declarations is.placed.i.here),
        ap (λ (i : Instance). length (declarations i.here)) same_top,
        slice_get_within (declarations clock.i.here) declared clock.d clock.declares,
      )

  pub clock_at_end : (first : ℕ) → first ≡ get_or here.table.now.firsts.items declared first →
      (clock_of text clock.i.path clock.d.name ≡ Some clock.d.name) × IsPoint text first (point [] clock.d.name 0)
  clock_at_end first read =
      let path = top_path text clock.i zeroth in
      let stands = (instances_stand text is.sound 0 clock.i zeroth).0 in
      let at_top : module_at text [] ≡ Some clock.i.here = ap (module_at text) (sym path) ∙ stands in
      let ds = declarations clock.i.here in
      let firsts = here.table.now.firsts.items in
      let at : slice_get firsts declared ≡ Some first = slice_get_read firsts (length firsts) declared first refl clock_within read in
      let at_of : slice_get (firsts_of ds) declared ≡ Some first =
      ap (λ (i : Instance). slice_get (firsts_of (declarations i.here)) declared) (sym same_top) ∙ ap (λ ns. slice_get ns declared) (sym is.table.firsts) ∙ at in
      let local : Local = record { first = first; shape = clock.d.shape; role = clock.d.role } in
      let found = found_declared 0 ds (named_once text is.sound clock.i.path clock.i.here stands) declared clock.d first clock.declares at_of in
      let wide : width clock.d.shape ≡ 1 = sym (found_width clock.i.here clock.d.name local found) ∙ ap width_if_any clock.input.1 in (
        ap (λ p. clock_of text p clock.d.name) path ∙ clock_at_top text clock.i.here clock.d.name at_top clock.input.0,
        ap (slice_get (points text)) (omega arith)
            ∙ names_have_points text 0 clock.i zeroth clock.d.name local found 0 (omega (arith, wide))
            ∙ ap (λ (p : Path). Some (point p clock.d.name 0)) path,
      )
