-- What holds of all items of a list, and of its last one, when that one is changed or one more follows.
use Rattle.std.proofs.Common.{List, [], ◌∷◌, ◌++◌}
use Rattle.std.specs.List.{AllByRecursion}
use Rattle.fab_lines.specs.Items.{with_last}

-- of the last item, if there is one
abbrev pub AtLast : {X : Type 0} → (X → Type 0) → List X → Type 0
AtLast P [] = Unit {0}
AtLast P (x ∷ []) = P x
AtLast P (x ∷ y ∷ more) = AtLast P (y ∷ more)

pub last_as : {X : Type 0} (P Q : X → Type 0) → ((x : X) → P x → Q x) → (xs : List X) → AtLast P xs → AtLast Q xs
last_as P Q change [] last = tt
last_as P Q change (x ∷ []) last = change x last
last_as P Q change (x ∷ y ∷ xs) last = last_as P Q change (y ∷ xs) last

pub last_pushed : {X : Type 0} (P : X → Type 0) (xs : List X) (x : X) → P x → AtLast P (xs ++ x ∷ [])
last_pushed P [] x holds = holds
last_pushed P (y ∷ []) x holds = holds
last_pushed P (y ∷ z ∷ xs) x holds = last_pushed P (z ∷ xs) x holds

pub all_pushed : {X : Type 0} (P : X → Type 0) (xs : List X) (x : X) → AllByRecursion P xs → P x → AllByRecursion P (xs ++ x ∷ [])
all_pushed P [] x all holds = (holds, tt)
all_pushed P (y ∷ xs) x all holds = (all.0, all_pushed P xs x all.1 holds)

-- `All` holds of all items, and `Last` of the last one; with that one changed they hold again, as `All` and `Next`
pub record Changed {X : Type 0} (All Next : X → Type 0) (xs : List X) : Type 0 where
  pub all : AllByRecursion All xs
  pub last : AtLast Next xs

pub changed : {X : Type 0} (All Last Next : X → Type 0) (change : X → X) → ((x : X) → All x → Last x → All (change x) × Next (change x))
    → (xs : List X) → AllByRecursion All xs → AtLast Last xs → Changed All Next (with_last change xs)
changed All Last Next change step [] all last = record { all = tt; last = tt }
changed All Last Next change step (x ∷ []) all last = let both = step x all.0 last in record { all = (both.0, tt); last = both.1 }
changed All Last Next change step (x ∷ y ∷ []) all last =
    let rest = changed All Last Next change step (y ∷ []) all.1 last in
    record { all = (all.0, rest.all); last = rest.last }
changed All Last Next change step (x ∷ y ∷ z ∷ xs) all last =
    let rest = changed All Last Next change step (y ∷ z ∷ xs) all.1 last in
    record { all = (all.0, rest.all); last = rest.last }
