-- Groups of bits, one place after another.
use Rattle.std.proofs.Common.{◌≡◌, ◌⊎◌, ℕ, ◌+◌, ◌<◌, ◌≤◌, List, [], ◌∷◌, ◌++◌, Some, length, refl, sym, ap, ◌∙◌, subst, inl, inr, arith, slice_get}
use Rattle.std.proofs.Common.{slice_set}
use Rattle.std.proofs.lemmas.Bool.{cases_eq}
use Rattle.fab_network.specs.declared.network.Drive.TheVariants.{Value}
use Rattle.fab_network.specs.declared.network.Network.{Network}
use Rattle.fab_network.specs.declared.network.Source.{Source}
use Rattle.fab_network.specs.Passes.{IsListed}
use Rattle.fab_demand.proofs.Lists.{get_other, get_same, get_within, listed_either, listed_last, listed_left}
use Rattle.fab_changes.specs.declared.groups.Group.{Group}
use Rattle.fab_changes.specs.Changes.{drive_at, IsBitOf, IsGrouped, IsInGroup, TakesGiven}
use Rattle.fab_changes.specs.inner.Grouping.{group_of, AreBitGroups, AreTaken, HasBit, IsLonger}
use Rattle.fab_changes.proofs.Lists.{get_either, get_last, get_left}

-- ---- inputs and flip-flops

pub taken_none : (network : Network) (own : List ℕ) → AreTaken network own 0 []
taken_none network own = record {
  takes = λ place (k, l, is). absurd (omega (arith, l));
  all = λ place l takes. absurd (omega (arith, l));
}

-- one more place, whose point takes what is given to it
pub taken_more : (network : Network) (own : List ℕ) (count : ℕ) (taken : List ℕ) → TakesGiven (drive_at network own count) → AreTaken network own count taken →
    AreTaken network own (count + 1) (taken ++ count ∷ [])
taken_more network own count taken takes before = record {
  takes = λ place listed. elim (listed_either taken count place listed) [
    | inl early ↦ (let is = before.takes place early in (omega (arith, is.0), is.1))
    | inr e ↦ (omega (arith, e), subst (λ (n : ℕ). TakesGiven (drive_at network own n)) (sym e) takes)
  ];
  all = λ place l is. elim (cases_eq place count) [
    | inl e ↦ subst (IsListed (taken ++ count ∷ [])) (sym e) (listed_last taken count)
    | inr n ↦ listed_left taken (count ∷ []) place (before.all place (omega (arith, l, n)) is)
  ];
}

-- and one whose point does not
pub taken_same : (network : Network) (own : List ℕ) (count : ℕ) (taken : List ℕ) → (TakesGiven (drive_at network own count) → ⊥) →
    AreTaken network own count taken →
    AreTaken network own (count + 1) taken
taken_same network own count taken none before = record {
  takes = λ place listed. let is = before.takes place listed in (omega (arith, is.0), is.1);
  all = λ place l is. elim (cases_eq place count) [
    | inl e ↦ absurd (none (subst (λ (n : ℕ). TakesGiven (drive_at network own n)) e is))
    | inr n ↦ before.all place (omega (arith, l, n)) is
  ];
}

-- ---- groups

pub groups_none : (network : Network) (own : List ℕ) → AreBitGroups network own 0 []
groups_none network own = record {
  all = λ place l. absurd (omega (arith, l));
  filled = λ number group e. cc;
  ends = λ number group e. cc;
  bits = λ number group e. cc;
  rises = λ number later group next l e f. cc;
}

-- one more place, which stands in no group
pub groups_same : (network : Network) (own : List ℕ) (count : ℕ) (groups : List Group) → TakesGiven (drive_at network own count) →
    AreBitGroups network own count groups → AreBitGroups network own (count + 1) groups
groups_same network own count groups takes before = record {
  all = λ place l. elim (cases_eq place count) [
    | inl e ↦ inl (subst (λ (n : ℕ). TakesGiven (drive_at network own n)) (sym e) takes)
    | inr n ↦ before.all place (omega (arith, l, n))
  ];
  filled = before.filled;
  ends = λ number group there. let l : group.end ≤ count = before.ends number group there in omega (arith, l);
  bits = before.bits;
  rises = before.rises;
}

module _ (network : Network) (own : List ℕ) (count : ℕ) (source : Source) (groups : List Group) (drive : drive_at network own count ≡ Some (Value source))
    (before : AreBitGroups network own count groups) where
  -- the new bit
  bit_here : (group : Group) → group.source.tree ≡ source.tree → group.source.first ≡ source.first → (place : ℕ) → place ≡ count → IsBitOf network own group place
  bit_here group tree first place e = record {
    source = source;
    drive = ap (drive_at network own) e ∙ drive;
    tree = sym tree;
    first = sym first;
  }

  -- ---- it begins a group

  abbrev one : Group
  one = group_of count source

  abbrev more : List Group
  more = groups ++ one ∷ []

  in_more : (place : ℕ) → IsGrouped groups place → IsGrouped more place
  in_more place in_groups = record {
    number = in_groups.number;
    group = in_groups.group;
    there = get_left groups (one ∷ []) in_groups.number in_groups.group in_groups.there;
    inside = in_groups.inside;
  }

  in_one : (place : ℕ) → place ≡ count → IsGrouped more place
  in_one place e = record {
    number = length groups;
    group = one;
    there = get_last groups one;
    inside = record { low = omega (arith, e); below = omega (arith, e) };
  }

  groups_begun : AreBitGroups network own (count + 1) more
  groups_begun = record {
    all = λ place l. elim (cases_eq place count) [
      | inl e ↦ inr (in_one place e)
      | inr n ↦ elim (before.all place (omega (arith, l, n))) [ inl takes ↦ inl takes | inr grouped ↦ inr (in_more place grouped) ]
    ];
    filled = λ number group there. elim (get_either groups one number group there) [
      | inl old ↦ before.filled number group old
      | inr last ↦ subst (λ (g : Group). g.begin < g.end) (sym last.1) (omega arith)
    ];
    ends = λ number group there. elim (get_either groups one number group there) [
      | inl old ↦ (let l : group.end ≤ count = before.ends number group old in omega (arith, l))
      | inr last ↦ subst (λ (g : Group). g.end ≤ count + 1) (sym last.1) (omega arith)
    ];
    bits = λ number group there place inside. elim (get_either groups one number group there) [
      | inl old ↦ before.bits number group old place inside
      | inr last ↦ (let at : IsInGroup one place = subst (λ (g : Group). IsInGroup g place) last.1 inside in
          subst (λ (g : Group). IsBitOf network own g place) (sym last.1) (bit_here one refl refl place (omega (arith, at.low, at.below))))
    ];
    rises = λ number later group next l there after. elim (get_either groups one later next after) [
      | inl old ↦ (let early : number < length groups = omega (arith, l, get_within groups later next old) in
          elim (get_either groups one number group there) [
            | inl first ↦ before.rises number later group next l first old
            | inr last ↦ absurd (omega (arith, early, last.0))
          ])
      | inr last ↦ elim (get_either groups one number group there) [
        | inl first ↦ subst (λ (g : Group). group.end ≤ g.begin) (sym last.1) (before.ends number group first)
        | inr both ↦ absurd (omega (arith, l, both.0, last.0))
      ]
    ];
  }

  -- ---- it ends the last group

  module _ (now : List Group) (longer : IsLonger count source groups now) where
    abbrev wide : Group
    wide = record (longer.group) { end = count + 1 }

    abbrev set : List Group
    set = slice_set groups longer.last wide

    last_inside : longer.last < length groups
    last_inside = omega (arith, longer.long)

    there_now : slice_get set longer.last ≡ Some wide
    there_now = get_same groups longer.last wide last_inside

    -- a group of the list is the last one or as it was
    which : (number : ℕ) (group : Group) → slice_get set number ≡ Some group →
        (slice_get groups number ≡ Some group) × (number < longer.last) ⊎ ((number ≡ longer.last) × (group ≡ wide))
    which number group there =
        elim (cases_eq number longer.last) [
          | inl e ↦ (let both : Some group ≡ Some wide = sym there ∙ ap (slice_get set) e ∙ there_now in inr (e, cc))
          | inr n ↦ (let old : slice_get groups number ≡ Some group = sym (get_other groups longer.last wide number n) ∙ there in
              inl (old, omega (arith, n, longer.long, get_within groups number group old)))
        ]

    in_set : (place : ℕ) → IsGrouped groups place → IsGrouped set place
    in_set place grouped =
        elim (cases_eq grouped.number longer.last) [
          | inl e ↦ (let both : Some grouped.group ≡ Some longer.group = sym grouped.there ∙ ap (slice_get groups) e ∙ longer.there in
              let is : grouped.group ≡ longer.group = cc in
              let at : IsInGroup longer.group place = subst (λ (g : Group). IsInGroup g place) is grouped.inside in
              record {
                number = longer.last;
                group = wide;
                there = there_now;
                inside = record { low = at.low; below = omega (arith, at.below, longer.next.ends) };
              })
          | inr n ↦ record {
            number = grouped.number;
            group = grouped.group;
            there = get_other groups longer.last wide grouped.number n ∙ grouped.there;
            inside = grouped.inside;
          }
        ]

    low_last : longer.group.begin < count
    low_last = omega (arith, before.filled longer.last longer.group longer.there, longer.next.ends)

    in_wide : (place : ℕ) → place ≡ count → IsGrouped set place
    in_wide place e = record {
      number = longer.last;
      group = wide;
      there = there_now;
      inside = record { low = omega (arith, e, low_last); below = omega (arith, e) };
    }

    bits_wide : (place : ℕ) → IsInGroup wide place → IsBitOf network own wide place
    bits_wide place inside =
        elim (cases_eq place count) [
          | inl e ↦ bit_here wide longer.next.beside.tree longer.next.beside.first place e
          | inr n ↦ (let bit = before.bits longer.last longer.group longer.there place
              (record { low = inside.low; below = omega (arith, inside.below, n, longer.next.ends) }) in
              record { source = bit.source; drive = bit.drive; tree = bit.tree; first = bit.first })
        ]

    set_longer : AreBitGroups network own (count + 1) set
    set_longer = record {
      all = λ place l. elim (cases_eq place count) [
        | inl e ↦ inr (in_wide place e)
        | inr n ↦ elim (before.all place (omega (arith, l, n))) [ inl takes ↦ inl takes | inr grouped ↦ inr (in_set place grouped) ]
      ];
      filled = λ number group there. elim (which number group there) [
        | inl old ↦ before.filled number group old.0
        | inr last ↦ subst (λ (g : Group). g.begin < g.end) (sym last.1) (omega (arith, low_last))
      ];
      ends = λ number group there. elim (which number group there) [
        | inl old ↦ (let l : group.end ≤ count = before.ends number group old.0 in omega (arith, l))
        | inr last ↦ subst (λ (g : Group). g.end ≤ count + 1) (sym last.1) (omega arith)
      ];
      bits = λ number group there place inside. elim (which number group there) [
        | inl old ↦ before.bits number group old.0 place inside
        | inr last ↦ subst (λ (g : Group). IsBitOf network own g place) (sym last.1)
            (bits_wide place (subst (λ (g : Group). IsInGroup g place) last.1 inside))
      ];
      rises = λ number later group next l there after. elim (which number group there) [
        | inl old ↦ elim (which later next after) [
          | inl both ↦ before.rises number later group next l old.0 both.0
          | inr last ↦ (let m : group.end ≤ longer.group.begin = before.rises number longer.last group longer.group old.1 old.0 longer.there in
              subst (λ (g : Group). group.end ≤ g.begin) (sym last.1) m)
        ]
        | inr last ↦ elim (which later next after) [
          | inl both ↦ absurd (omega (arith, l, last.0, both.1))
          | inr both ↦ absurd (omega (arith, l, last.0, both.0))
        ]
      ];
    }

    groups_longer : AreBitGroups network own (count + 1) now
    groups_longer = subst (AreBitGroups network own (count + 1)) (sym longer.is) set_longer

  pub groups_more : (now : List Group) → HasBit count source groups now → AreBitGroups network own (count + 1) now
  groups_more now (inl longer) = groups_longer now longer
  groups_more now (inr begun) = subst (AreBitGroups network own (count + 1)) (sym begun) groups_begun
