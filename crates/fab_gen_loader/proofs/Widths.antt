-- How many bits the names of a loader have.
use Rattle.std.proofs.Common.{◌≡◌, ℕ, zero, suc, ◌<◌, false, List, ◌++◌, refl, ap, ◌∙◌, inl, inr, arith, Some}
use Rattle.std.specs.Str.{bytes_eq}
use Rattle.std.proofs.lemmas.Bool.{cases_Bool}
use Rattle.fab_syntax.specs.declared.tree.Shape.{Shape}
use Rattle.fab_syntax.specs.declared.tree.Shape.TheVariants.{Vector}
use Rattle.fab_syntax.specs.declared.tree.Port.{Port}
use Rattle.fab_syntax.specs.Plain.{PlainItem, reg}
use Rattle.fab_syntax.specs.Declarations.{item_shape, declared_shape, width_if_any, declared_width}
use Rattle.fab_prim.specs.fab_meaning.proofs.Dependence.{same_name}
use Rattle.fab_model.specs.Tiles.{counted}
use Rattle.fab_gen_loader.specs.Loader.{NextValues, port, row_port, loader_ports, processes, outputs, loader_of, state_name, count_name, address_register_name, row_register_name}

-- ports of other names are passed over
ports_passed : (n : ℕ) (f : ℕ → Port) (items : List PlainItem) (name : List ℕ) → ((i : ℕ) → bytes_eq (f i).name name ≡ false) →
    declared_shape (counted n f) items name ≡ item_shape items name
unfolding counted
ports_passed zero f items name apart = refl
ports_passed (suc n) f items name apart =
    let here : bytes_eq (f 0).name name ≡ false = apart 0 in
    rw here (ports_passed n (λ i. f (suc i)) items name (λ i. apart (suc i)))

-- each of counted registers is found with their shape
register_found : (shape : Shape) (name : ℕ → List ℕ) (rest : List PlainItem) (n i : ℕ) → i < n →
    item_shape (counted n (λ k. reg shape (name k)) ++ rest) (name i) ≡ Some shape
unfolding counted
register_found shape name rest zero i within = absurd (omega arith)
register_found shape name rest (suc n) zero within = rw (same_name (name 0)) refl
register_found shape name rest (suc n) (suc i) within =
    elim (cases_Bool (bytes_eq (name 0) (name (suc i)))) [
      | inl same ↦ rw same refl
      | inr other ↦ rw other (register_found shape (λ k. name (suc k)) rest n i (omega arith))
    ]

module _ (rows : ℕ) (next : NextValues) where
  -- the outputs of the rows are passed over
  passed : (name : List ℕ) → ((row : ℕ) → bytes_eq (row_port row) name ≡ false) →
      declared_shape (counted rows (λ row. port false (Vector 32) (row_port row))) (loader_of rows next).items name ≡ item_shape (loader_of rows next).items name
  passed name apart = ports_passed rows (λ row. port false (Vector 32) (row_port row)) (loader_of rows next).items name apart

  pub state_width : declared_width (loader_ports rows) (loader_of rows next).items state_name ≡ 2
  state_width = ap width_if_any (passed state_name (λ row. refl))

  pub count_width : declared_width (loader_ports rows) (loader_of rows next).items count_name ≡ 5
  count_width = ap width_if_any (passed count_name (λ row. refl))

  pub address_width : declared_width (loader_ports rows) (loader_of rows next).items address_register_name ≡ 32
  address_width = ap width_if_any (passed address_register_name (λ row. refl))

  pub row_width : (row : ℕ) → row < rows → declared_width (loader_ports rows) (loader_of rows next).items (row_register_name row) ≡ 32
  row_width row within =
      ap width_if_any (passed (row_register_name row) (λ other. refl) ∙ register_found (Vector 32) row_register_name (processes rows next ++ outputs rows) rows row within)
