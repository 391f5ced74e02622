-- What the map of a copy's joins holds.
use Rattle.std.proofs.Common.{◌≡◌, ℕ, List, [], ◌∷◌, Vec, Option, Some, None, option_to_list, refl, ap, inl, inr, find}
use Rattle.std.specs.List.{cons_option}
use Rattle.std.specs.Str.{bytes_eq}
use Rattle.std.specs.Map.{lookup}
use Rattle.std.proofs.lemmas.Bool.{cases_Bool}
use Rattle.indexmap.specs.IndexMap.{insert_entry, insert_all}
use Rattle.fab_blif.specs.declared.net.Net.{Net}
use Rattle.fab_blif.specs.Flat.{PlainNet, joined_or}
use Rattle.fab_blif.specs.inner.Walk.{plain_net, plain_joins}

-- the joins after one more
pub joins_of_insert : {A : Type 0} (entries : List (Vec ℕ A × Net)) (formal : Vec ℕ A) (net : Net) →
    plain_joins (insert_entry (λ (a b : Vec ℕ A). bytes_eq a.items b.items) entries formal net) ≡ insert_entry bytes_eq (plain_joins entries) formal.items (plain_net net)
joins_of_insert [] formal net = refl
joins_of_insert (entry ∷ entries) formal net =
    elim (cases_Bool (bytes_eq formal.items entry.0.items)) [
      | inl t ↦ rw t refl
      | inr f ↦ rw f (ap (λ rest. (entry.0.items, plain_net entry.1) ∷ rest) (joins_of_insert entries formal net))
    ]

abbrev pub net_or : Option Net → PlainNet → PlainNet
net_or None net = net
net_or (Some found) net = plain_net found

-- a join that is looked up
pub looked_up : {A : Type 0} (entries : List (Vec ℕ A × Net)) (name : List ℕ) (net : PlainNet) →
    joined_or (find (λ (join : List ℕ × PlainNet). bytes_eq name join.0) (plain_joins entries)) net ≡ net_or (lookup (λ (key : Vec ℕ A). bytes_eq name key.items) entries) net
looked_up [] name net = refl
looked_up (entry ∷ entries) name net =
    elim (cases_Bool (bytes_eq name entry.0.items)) [
      | inl t ↦ rw t refl
      | inr f ↦ rw f (looked_up entries name net)
    ]

-- one more word
pub word_joined : (joins : List (List ℕ × PlainNet)) (join : Option (List ℕ × PlainNet)) (more : List (List ℕ × PlainNet)) →
    insert_all bytes_eq joins (cons_option join more) ≡ insert_all bytes_eq (insert_all bytes_eq joins (option_to_list join)) more
word_joined joins None more = refl
word_joined joins (Some join) more = refl
