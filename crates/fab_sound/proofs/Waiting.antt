-- Expressions that wait on a stack, and maps from names.
use Rattle.std.proofs.Common.{◌≡◌, ℕ, ◌+◌, ◌<◌, List, [], ◌∷◌, ◌++◌, length, Some, true, false, if◌then◌else◌, append_assoc, append-nil, refl, sym, ap, ◌∙◌, inl, inr, arith}
use Rattle.std.specs.Borrow.{Bor}
use Rattle.std.specs.Str.{bytes_eq}
use Rattle.std.specs.Map.{lookup}
use Rattle.std.specs.Prelude.{unwrap_or}
use Rattle.std.proofs.Common.{length-append}
use Rattle.fab_syntax.specs.Declarations.{one_if_same}
use Rattle.std.proofs.lemmas.Bool.{cases_Bool}
use Rattle.std.proofs.lemmas.Slice.Eq.{bytes_eq-Decides}
use Rattle.indexmap.specs.IndexMap.{insert_entry}
use Rattle.fab_syntax.specs.declared.tree.Expr.{Expr}
use Rattle.fab_syntax.specs.Plain.{PlainExpr, plain_expr, constant, variable, pick, part, concatenation, complement, operation, conditional}
use Rattle.fab_syntax.specs.Sound.{subexpressions}
use Rattle.fab_sound.specs.inner.Checks.{plain_all, waiting_parts, inner_parts}

-- one more on top
pub waiting_push : (es : List (Bor Expr)) (e : Bor Expr) → waiting_parts (es ++ e ∷ []) ≡ subexpressions (plain_expr e.now) ++ waiting_parts es
waiting_push [] e = sym (append-nil (subexpressions (plain_expr e.now)))
waiting_push (x ∷ es) e =
    ap (λ rest. rest ++ subexpressions (plain_expr x.now)) (waiting_push es e)
    ∙ append_assoc (subexpressions (plain_expr e.now)) (waiting_parts es) (subexpressions (plain_expr x.now))

-- an expression comes first among its parts
pub itself_first : (e : PlainExpr) → subexpressions e ≡ e ∷ inner_parts e
itself_first (constant bits) = refl
itself_first (variable name) = refl
itself_first (pick name index) = refl
itself_first (part name high low) = refl
itself_first (concatenation es) = refl
itself_first (complement e) = refl
itself_first (operation op a b) = refl
itself_first (conditional c a b) = refl

-- what a map says after one more name
pub lookup_inserted : {V : Type 0} (es : List (Bor (List ℕ) × V)) (key : Bor (List ℕ)) (v : V) (other : List ℕ) →
    lookup (λ k. bytes_eq other k.now) (insert_entry (λ a b. bytes_eq a.now b.now) es key v)
    ≡ (if bytes_eq other key.now then Some v else lookup (λ k. bytes_eq other k.now) es)
lookup_inserted [] key v other = elim (cases_Bool (bytes_eq other key.now)) [ inl y ↦ rw y refl | inr n ↦ rw n refl ]
lookup_inserted (e ∷ es) key v other =
    elim (cases_Bool (bytes_eq key.now e.0.now)) [
      | inl y ↦ (let same : key.now ≡ e.0.now = (bytes_eq-Decides key.now e.0.now).0 y in
          rw y (elim (cases_Bool (bytes_eq other e.0.now)) [
            | inl here ↦ (let at : bytes_eq other key.now ≡ true = ap (bytes_eq other) same ∙ here in rw (here, at) refl)
            | inr away ↦ (let at : bytes_eq other key.now ≡ false = ap (bytes_eq other) same ∙ away in rw (away, at) refl)
          ]))
      | inr n ↦ rw n (elim (cases_Bool (bytes_eq other e.0.now)) [
        | inl here ↦ (let at : bytes_eq other key.now ≡ false = apart key.now e.0.now other n here in rw (here, at) refl)
        | inr away ↦ rw away (lookup_inserted es key v other)
      ])
    ]
  where
    apart : (a b c : List ℕ) → bytes_eq a b ≡ false → bytes_eq c b ≡ true → bytes_eq c a ≡ false
    apart a b c n here =
        elim (cases_Bool (bytes_eq c a)) [
          | inl y ↦ (let back : a ≡ b = sym ((bytes_eq-Decides c a).0 y) ∙ (bytes_eq-Decides c b).0 here in
              let t : bytes_eq a b ≡ true = (bytes_eq-Decides a b).1 back in cc)
          | inr f ↦ f
        ]

-- a count after one more
pub counted : (es : List (Bor (List ℕ) × ℕ)) (key : Bor (List ℕ)) (name other : List ℕ) (count : ℕ) → key.now ≡ name →
    count ≡ unwrap_or (lookup (λ k. bytes_eq name k.now) es) 0 + 1 →
    unwrap_or (lookup (λ k. bytes_eq other k.now) (insert_entry (λ a b. bytes_eq a.now b.now) es key count)) 0
    ≡ one_if_same name other + unwrap_or (lookup (λ k. bytes_eq other k.now) es) 0
counted es key name other count is sum =
    ap (λ o. unwrap_or o 0) (lookup_inserted es key count other)
    ∙ ap (λ n. unwrap_or (if bytes_eq other n then Some count else lookup (λ k. bytes_eq other k.now) es) 0) is
    ∙ elim (cases_Bool (bytes_eq other name)) [
      | inl y ↦ (let same : other ≡ name = (bytes_eq-Decides other name).0 y in
          let back : bytes_eq name other ≡ true = (bytes_eq-Decides name other).1 (sym same) in
          let old : unwrap_or (lookup (λ k. bytes_eq name k.now) es) 0 ≡ unwrap_or (lookup (λ k. bytes_eq other k.now) es) 0 =
          ap (λ n. unwrap_or (lookup (λ k. bytes_eq n k.now) es) 0) (sym same) in
          rw (y, back) (omega arith))
      | inr n ↦ (let back : bytes_eq name other ≡ false = turned name other n in rw (n, back) (omega arith))
    ]
  where
    turned : (a b : List ℕ) → bytes_eq b a ≡ false → bytes_eq a b ≡ false
    turned a b n = elim (cases_Bool (bytes_eq a b)) [
      | inl y ↦ (let t : bytes_eq b a ≡ true = (bytes_eq-Decides b a).1 (sym ((bytes_eq-Decides a b).0 y)) in cc)
      | inr f ↦ f
    ]

-- ---- one step through the parts of an expression

pub plain_push : (es : List (Bor Expr)) (e : Bor Expr) → plain_all (es ++ e ∷ []) ≡ plain_all es ++ plain_expr e.now ∷ []
plain_push [] e = refl
plain_push (x ∷ es) e = ap (λ rest. plain_expr x.now ∷ rest) (plain_push es e)

module _ (e : PlainExpr) where
  pub fewer : (before popped after : List PlainExpr) → before ≡ subexpressions e ++ popped → after ≡ inner_parts e ++ popped → length after < length before
  fewer before popped after was is =
      let whole : length before ≡ length (subexpressions e) + length popped = ap length was ∙ length-append (subexpressions e) popped in
      let left : length after ≡ length (inner_parts e) + length popped = ap length is ∙ length-append (inner_parts e) popped in
      let one : length (subexpressions e) ≡ length (e ∷ inner_parts e) = ap length (itself_first e) in
      omega arith

  pub one_found : (found more before popped after : List PlainExpr) → more ≡ found ++ e ∷ [] → before ≡ subexpressions e ++ popped → after ≡ inner_parts e ++ popped →
      more ++ after ≡ found ++ before
  one_found found more before popped after put was is =
      ap (λ xs. xs ++ after) put
      ∙ append_assoc found (e ∷ []) after
      ∙ ap (λ xs. found ++ (e ∷ xs)) is
      ∙ ap (λ xs. found ++ (xs ++ popped)) (sym (itself_first e))
      ∙ ap (λ xs. found ++ xs) (sym was)
