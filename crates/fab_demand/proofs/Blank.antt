-- Nothing has been asked for.
use Rattle.std.proofs.Common.{◌≡◌, ℕ, ◌^◌, ◌<◌, ◌≤◌, Bool, false, List, [], length, replicate, refl, sym, ap, ◌∙◌, subst, arith, slice_index, vec_capacity}
use Rattle.std.proofs.lemmas.List.{length-replicate}
use Rattle.std.proofs.lemmas.List.FromFn.{length-range_with_len}
use Rattle.fab_systems_laws.specs.Ternary.{unknown, IsBelow}
use Rattle.fab_systems_laws.specs.Ternary.{Tern as PlainTern}
use Rattle.fab_ternary.specs.declared.Tern.{Tern}
use Rattle.fab_ternary.specs.declared.Tern.TheVariants.{Open}
use Rattle.fab_compiled.specs.Leading.{IsMarked}
use Rattle.fab_network.specs.Passes.{kept_tern, IsListed}
use Rattle.fab_demand.specs.declared.search.Search.{Search}
use Rattle.fab_demand.specs.Asked.{Asked, IsWhole}
use Rattle.fab_demand.specs.Demand.{IsClear}
use Rattle.fab_demand.specs.Search.{asked_of, unset_count, IsBlank, IsKeeping}
use Rattle.fab_demand.proofs.Lists.{all_open, get_within, none_marked, number_at, unset_all}

module _ (count : ℕ) (asked : Asked) (blank : IsBlank count asked) where
  pub blank_length : length asked.leads ≡ count
  blank_length = ap length blank.leads ∙ length-range_with_len 0 count

  no_marks : (point : ℕ) → IsMarked asked.marks point → ⊥
  no_marks point marked = none_marked count point (subst (λ (m : List Bool). IsMarked m point) blank.marks marked)

  no_own : (point : ℕ) → IsListed asked.own point → ⊥
  no_own point (place, l, is) = omega (arith, l, ap length blank.own)

  nothing : (point : ℕ) → kept_tern asked.terns point ≡ unknown
  nothing point = ap (λ (ts : List Tern). kept_tern ts point) blank.terns ∙ all_open count point

  itself : (point : ℕ) → point < length asked.leads → slice_index asked.leads point ≡ point
  itself point l = ap (λ (xs : List ℕ). slice_index xs point) blank.leads ∙ number_at count point (omega (arith, l, blank_length))

  pub blank_whole : count ≤ 2 ^ 32 → IsWhole asked
  blank_whole few =
      let terns : length asked.terns ≡ length asked.leads = ap length blank.terns ∙ length-replicate count Open ∙ sym blank_length in
      record {
        terns = terns;
        marks = ap length blank.marks ∙ length-replicate count false ∙ sym blank_length;
        few = omega (arith, few, blank_length);
        view = λ point l. omega (arith, itself point l, l, terns);
        own = λ place l. absurd (no_own (slice_index asked.own place) (place, l, refl));
      }

  pub blank_clear : IsWhole asked → IsClear asked
  blank_clear whole = record {
    none = no_marks;
    own = blank.own;
    enough = λ network clock given. record {
      whole = whole;
      sound = λ later t kept solves. record {
        above = λ q l. subst (λ (x : PlainTern). IsBelow x (t q)) (sym (nothing (slice_index asked.leads q))) tt;
        follows = λ q m. absurd (no_marks q m);
      };
      enough = λ q m. absurd (no_marks q m);
      own = λ q listed. absurd (no_own q listed);
      once = λ place later l within e. omega (arith, within, ap length blank.own);
      registers = λ q next m drive. absurd (no_marks q m);
      led = λ q m. absurd (no_marks q m);
      last = λ q m. absurd (no_marks q m);
      others = λ q n. let l : q < length asked.leads = omega (arith, get_within asked.marks q false n, whole.marks) in (itself q l, nothing q);
    };
  }

pub blank_keeping : (count : ℕ) (search : Search) → IsBlank count (asked_of search) → count ≤ 2 ^ 32 → search.done.items ≡ replicate count false →
    search.stack.items ≡ [] → count ≤ vec_capacity search.own → count ≤ vec_capacity search.stack → IsKeeping search
blank_keeping count search blank few done stack own_room stack_room =
    let whole : IsWhole (asked_of search) = blank_whole count (asked_of search) blank few in
    let points : length search.leads.items ≡ count = blank_length count (asked_of search) blank in
    let long : length search.done.items ≡ count = ap length done ∙ length-replicate count false in
    let left_done : unset_count search.done.items ≡ count = ap unset_count done ∙ unset_all count in
    let left_marks : unset_count search.marks.items ≡ count = ap unset_count blank.marks ∙ unset_all count in
    let none_own : length search.own.items ≡ 0 = ap length blank.own in
    let none_waits : length search.stack.items ≡ 0 = ap length stack in
    record {
      whole = whole;
      room = record {
        done = long ∙ sym points;
        own = omega (arith, none_own, left_done, points);
        own_room = omega (arith, own_room, points);
        stack = omega (arith, none_waits, left_marks, points);
        stack_room = omega (arith, stack_room, points);
      };
      resting = record { done = done ∙ sym blank.marks; stack = stack };
    }
