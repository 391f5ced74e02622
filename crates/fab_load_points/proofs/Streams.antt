-- The inputs of the top that carry words, by numbers.
use Rattle.std.proofs.Common.{◌≡◌, ◌⊎◌, ℕ, Bool, true, false, List, [], Option, Some, None, refl, sym, ap, ◌∙◌, subst, inl, inr}
use Rattle.std.proofs.lemmas.Bool.{false≢true}
use Rattle.fab_syntax.specs.Declarations.{module_named, is_input_of}
use Rattle.fab_syntax.specs.Plain.{PlainExpr, PlainItem, wire, reg, assign, latch, clocked, instance, PlainModule}
use Rattle.fab_syntax.specs.Sound.{IsSound}
use Rattle.fab_meaning.specs.Points.{Path, Point, point, outside, JoinDrives, ItemDrives, IsDrivenOutside, Drives}
use Rattle.fab_meaning.specs.Runs.{clock_name}
use Rattle.fab_meaning.specs.Loading.{IsStream, write_strobe_name, write_data_name}
use Rattle.fab_equations.specs.Equations.{IsPoint}
use Rattle.fab_load_points.specs.inner.Causes.{StandsFor, IsFirstOf, IsStreamOf}
use Rattle.fab_load_points.specs.declared.stream.Stream.{Stream}
use Rattle.fab_load_points.proofs.Names.{point_declared, one_point, one_number, is_first}

-- ---- no item drives from outside

join_inside : (path : Path) (i : List ℕ) (input : Bool) (port : List ℕ) (to : Option PlainExpr) (p : Point) → JoinDrives path i input port to p outside → ⊥
join_inside path i true port None p h = h
join_inside path i false port None p h = h
join_inside path i true port (Some e) p h = let apart = h.1 in cc
join_inside path i false port (Some e) p h = let apart = h.3 in cc

item_inside : (text : List PlainModule) (path : Path) (item : PlainItem) (p : Point) → ItemDrives text path item p outside → ⊥
item_inside text path (wire shape name) p h = h
item_inside text path (reg shape name) p h = h
item_inside text path (assign target e) p h = let apart = h.1 in cc
item_inside text path (latch target gate e) p h = let apart = h.1 in cc
item_inside text path (clocked clock target e) p h = let apart = h.1 in cc
item_inside text path (instance module_name i joins) p h = join_inside path i (is_input_of (module_named text module_name) h.0.port) h.0.port h.0.to p h.2

pub driven_outside : (text : List PlainModule) (p : Point) → Drives text p outside → IsDrivenOutside text p outside
driven_outside text p (inl h) = h
driven_outside text p (inr h) = absurd (item_inside text h.path h.item p h.drives)

-- ---- by numbers

module _ (text : List PlainModule) (sound : IsSound text) where
  pub first_known : (path : Path) (name : List ℕ) (o : Option ℕ) → IsFirstOf text path name o → (number : ℕ) → IsPoint text number (point path name 0) → o ≡ Some number
  first_known path name None first number is = absurd (false≢true (sym first ∙ point_declared text sound number (point path name 0) is))
  first_known path name (Some n) first number is = ap (λ (k : ℕ). Some k) (one_number text sound n number (point path name 0) first is)

  first_at : (path : Path) (name : List ℕ) (o : Option ℕ) → IsFirstOf text path name o → (number : ℕ) → o ≡ Some number → IsPoint text number (point path name 0)
  first_at path name o first number e = subst (IsFirstOf text path name) e first

  abbrev pub IsOneOf : Stream → ℕ → Type 0
  IsOneOf stream number = (stream.clock ≡ Some number) ⊎ ((stream.strobe ≡ Some number) ⊎ (stream.«data» ≡ Some number))

  module _ (stream : Stream) (of : IsStreamOf text stream) (number : ℕ) (p : Point) (stands : StandsFor text number p) where
    named_so : (name : List ℕ) (o : Option ℕ) → IsFirstOf text [] name o → o ≡ Some number → p.name ≡ name
    named_so name o first e =
        ap (λ (q : Point). q.name) (one_point text sound number p (point [] name 0) stands (record { is = first_at [] name o first number e; first = refl }))

    pub stream_is : Drives text p outside → IsOneOf stream number → IsStream text p
    stream_is drives one = record {
      input = driven_outside text p drives;
      declared = point_declared text sound number p stands.is;
      named =
          elim one [
            | inl clock ↦ inl (named_so clock_name stream.clock of.clock clock)
            | inr other ↦ elim other [
              | inl strobe ↦ inr (inl (named_so write_strobe_name stream.strobe of.strobe strobe))
              | inr bits ↦ inr (inr (named_so write_data_name stream.«data» of.bits bits))
            ]
          ];
    }

    known_so : (name : List ℕ) (o : Option ℕ) → IsFirstOf text [] name o → p.path ≡ [] → p.name ≡ name → o ≡ Some number
    known_so name o first top named =
        let same : p ≡ point [] name 0 = sym (is_first p stands.first) ∙ (λ k. point (top k) (named k) 0) in
        first_known [] name o first number (subst (IsPoint text number) same stands.is)

    pub stream_known : IsStream text p → IsOneOf stream number
    stream_known is =
        elim is.named [
          | inl clock ↦ inl (known_so clock_name stream.clock of.clock is.input.top clock)
          | inr other ↦ elim other [
            | inl strobe ↦ inr (inl (known_so write_strobe_name stream.strobe of.strobe is.input.top strobe))
            | inr bits ↦ inr (inr (known_so write_data_name stream.«data» of.bits is.input.top bits))
          ]
        ]
