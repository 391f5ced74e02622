use Rattle.std.proofs.Common.{◌≡◌, ℕ, ◌+◌, ◌++◌, ◌∷◌, [], List, Vec, ◌∙◌, sym, ap, None, map, subst, Global, arith}
use Rattle.std.proofs.lemmas.List.{map-append}
use Rattle.std.specs.Map.{lookup}
use Rattle.std.specs.Str.{bytes_eq}
use Rattle.indexmap.proofs.CallerLemmas.{insert_entry-new}
use Rattle.fab_values.specs.declared.names.Local.{Local}
use Rattle.fab_values.specs.Declarations.{Declaration, found_in, width}
use Rattle.fab_values.specs.Places.{declared, AreFrom}
use Rattle.fab_values.proofs.Entries.{lookup_found, from_more}
use Rattle.fab_values.proofs.names.Names.declare.Goals as goal

entries_are : (c : goal.After-self-1) → c.insert.new.self.entries ≡ c.self.inside.places.entries ++ (c.in_ok-key.key, record { first = c.self.inside.bits; shape = c.args.shape; role = c.args.role }) ∷ []
entries_are c =
    let key = c.in_ok-key.key in
    let local : Local = record { first = c.self.inside.bits; shape = c.args.shape; role = c.args.role } in
    let name : key.items ≡ c.args.name.now = c.in_ok-key.ensures.items ∙ c.bytes.ensures in
    let absent = lookup_found key.items 0 _ c.self.inside.places.entries c.self.invariant ∙ ap (λ ds. found_in ds key.items) c.self.view_is
    ∙ ap (found_in c.args.self.now) name ∙ c.requires in
    c.in_ok-insert.ensures.entries ∙ insert_entry-new (λ (a b : Vec ℕ Global). bytes_eq a.items b.items) c.self.inside.places key local absent

pub invariant_of-self-2 : goal.invariant_of-self-2
invariant_of-self-2 c =
    let local : Local = record { first = c.self.inside.bits; shape = c.args.shape; role = c.args.role } in
    let end : c.in-Some.bits ≡ c.self.inside.bits + width c.args.shape = omega (arith, c.in-Some.ensures, c.bits_of_shape.ensures) in
    subst (AreFrom 0 c.in-Some.bits) (sym (entries_are c))
    (subst (λ e. AreFrom 0 e (c.self.inside.places.entries ++ (c.in_ok-key.key, local) ∷ [])) (sym end)
    (from_more 0 c.self.inside.bits c.self.inside.places.entries c.in_ok-key.key local c.self.invariant (λ j. c.self.inside.bits)))

pub returns : goal.returns
returns c =
    let local : Local = record { first = c.self.inside.bits; shape = c.args.shape; role = c.args.role } in
    let name : c.in_ok-key.key.items ≡ c.args.name.now = c.in_ok-key.ensures.items ∙ c.bytes.ensures in
    ap (map (declared {A = Global})) (entries_are c)
    ∙ map-append declared c.self.inside.places.entries ((c.in_ok-key.key, local) ∷ [])
    ∙ (λ j. c.self.view_is j ++ (let d : Declaration = record { name = name j; shape = c.args.shape; role = c.args.role } in d) ∷ [])
