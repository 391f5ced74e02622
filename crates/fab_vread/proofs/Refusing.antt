-- The reader's refusal is the first one.
use Rattle.std.proofs.Common.{◌≡◌, ◌⊎◌, inl, inr, ℕ, ◌<◌, ◌≤◌, ◌+◌, Bool, true, false, ◌==◌, List, [], ◌∷◌, ◌++◌, All, refl, ap, ◌∙◌, subst, sym, arith, Option, Some, None, Result, Ok, Err, append_assoc, append-nil, if◌then◌else◌, nat_lt}
use Rattle.std.proofs.lemmas.Bool.Decides.{nat_tests}
use Rattle.std.proofs.lemmas.List.{map_push}
use Rattle.std.proofs.lemmas.List.Elements.{All-nil, All-append, All-from_recursion}
use Rattle.fab_base.specs.declared.problem.Problem.{Problem}
use Rattle.fab_base.specs.declared.problem.Problem.TheVariants as problems
use Rattle.fab_base.specs.declared.words.Reason.TheVariants as reasons
use Rattle.fab_base.specs.declared.fault.Fault.{Fault}
use Rattle.fab_base.specs.Reading.{fault_at}
use Rattle.fab_lines.specs.Counts.{last_line}
use Rattle.fab_syntax.specs.Plain.{PlainModule}
use Rattle.fab_tokens.specs.declared.token.Token.{Token}
use Rattle.fab_tokens.specs.declared.scanner.Scan.{Scan}
use Rattle.fab_tokens.specs.Scanning.{Lexeme, after_byte, at_end}
use Rattle.fab_vread.specs.declared.expressions.Over.{Over}
use Rattle.fab_vread.specs.inner.Machine.{Machine, Progress, after_token, first_machine, is_done, limit, past, line_checked, with_machine, located, and_go, after_lexeme, after_optional, behind_byte, read_from, unless_over, closing, first_progress, read_of}
use Rattle.fab_vread.proofs.Running.{run}
use Rattle.fab_vread.specs.Refusals.{next_line, lexeme, on_line, lexemes_from, lexemes_of, tokens_in, BeginsWithin, IsAbove, UpTo, by_token, by_end, by_limit, Refused}
use Rattle.fab_vread.proofs.Bytes.{further, further_is}
use Rattle.fab_vread.proofs.LastLine.{last_line_from, last_line_is}
use Rattle.fab_vread.proofs.Viable.{taken_begins, taken_within, within_fine, text_done, done_text, over_above}
use Rattle.fab_vread.proofs.Wrong.{token_wrong, token_unfit, token_behind}

-- ---- elements

one_all : {X : Type 0} (P : X → Type 0) (x : X) → P x → All P (x ∷ [])
one_all P x p = All-from_recursion P (x ∷ []) (p, tt)

weaker : {X : Type 0} (P Q : X → Type 0) → ((x : X) → P x → Q x) → (xs : List X) → All P xs → All Q xs
weaker P Q f xs a = λ k d h. f _ (a k d h)

-- ---- lines

at_or_before : (at line : ℕ) → at ≤ line → (at < line) ⊎ (at ≡ line)
at_or_before at line h = by_test (nat_lt at line) refl where
  by_test : (b : Bool) → nat_lt at line ≡ b → (at < line) ⊎ (at ≡ line)
  by_test true e = inl (grind (arith, nat_tests))
  by_test false e = inr (let low : line ≤ at = grind (arith, nat_tests) in omega arith)

before_test : (at line : ℕ) → at < line → nat_lt at line ≡ true
before_test at line h = grind (arith, nat_tests)

later_test : (at line : ℕ) → nat_lt at line ≡ true → at < line
later_test at line h = grind (arith, nat_tests)

past_none : (over : Option Over) (at line : ℕ) → at < line → past over at line ≡ None → over ≡ None
past_none None at line h e = refl
past_none (Some over) at line h e =
    let f = ap (λ (b : Bool). if b then Some (limit over) else None) (before_test at line h) in
    absurd (cc)

record PastLimit (over : Option Over) (at line : ℕ) (problem : Problem) : Type 0 where
  it : Over
  is : over ≡ Some it
  told : problem ≡ limit it
  later : at < line

past_some : (over : Option Over) (at line : ℕ) (problem : Problem) → past over at line ≡ Some problem → PastLimit over at line problem
past_some None at line problem e = absurd (cc)
past_some (Some over) at line problem e = by_test (nat_lt at line) refl e where
  by_test : (b : Bool) → nat_lt at line ≡ b → (if b then Some (limit over) else None) ≡ Some problem → PastLimit (Some over) at line problem
  by_test true h e = record { it = over; is = refl; told = cc; later = later_test at line h }
  by_test false h e = absurd (cc)

-- ---- where the reader stands behind these lexemes

record Stands (front : List Lexeme) (m : Machine) (at : ℕ) : Type 0 where
  upto : UpTo at front
  runs : run first_machine (tokens_in front) ≡ Ok m

-- at a later line, all that was read is before it
up_to_line : (front : List Lexeme) (m : Machine) (at line : ℕ) → Stands front m at → at ≤ line → past m.over at line ≡ None → UpTo line front
up_to_line front m at line s le none = up_to (at_or_before at line le) where
  up_to : (at < line) ⊎ (at ≡ line) → UpTo line front
  up_to (inr same) = subst (λ n. UpTo n front) same s.upto
  up_to (inl later) =
      let u = s.upto in
      let all : All (λ (x : Lexeme). x.line < line) (u.earlier ++ u.here) =
      All-append (λ (x : Lexeme). x.line < line) u.earlier u.here
      (weaker (λ (x : Lexeme). x.line < at) (λ (x : Lexeme). x.line < line) (λ x h. omega arith) u.earlier u.before_line)
      (weaker (λ (x : Lexeme). x.line ≡ at) (λ (x : Lexeme). x.line < line) (λ x h. omega arith) u.here u.on_it) in
      record {
        earlier = front;
        here = [];
        parted = sym (append-nil front);
        before_line = subst (λ (xs : List Lexeme). All (λ (x : Lexeme). x.line < line) xs) (sym u.parted) all;
        on_it = All-nil (λ (x : Lexeme). x.line ≡ line);
        within = taken_within (tokens_in front) m s.runs (past_none m.over at line later none);
      }

up_to_push : (line : ℕ) (front : List Lexeme) (t : Token) → UpTo line front → UpTo line (front ++ lexeme line t ∷ [])
up_to_push line front t u = record {
  earlier = u.earlier;
  here = u.here ++ lexeme line t ∷ [];
  parted = ap (λ (xs : List Lexeme). xs ++ lexeme line t ∷ []) u.parted ∙ append_assoc u.earlier u.here (lexeme line t ∷ []);
  before_line = u.before_line;
  on_it = All-append (λ (x : Lexeme). x.line ≡ line) u.here (lexeme line t ∷ []) u.on_it (one_all (λ (x : Lexeme). x.line ≡ line) (lexeme line t) refl);
  within = u.within;
}

tokens_push : (front : List Lexeme) (x : Lexeme) → tokens_in (front ++ x ∷ []) ≡ tokens_in front ++ x.token ∷ []
tokens_push front x = map_push (λ (y : Lexeme). y.token) front x

stands_push : (front : List Lexeme) (m n : Machine) (at line : ℕ) (t : Token) → Stands front m at → at ≤ line → past m.over at line ≡ None →
    after_token m t ≡ Ok n → Stands (front ++ lexeme line t ∷ []) n line
stands_push front m n at line t s le none is = record {
  upto = up_to_push line front t (up_to_line front m at line s le none);
  runs = ap (λ ts. run first_machine ts) (tokens_push front (lexeme line t)) ∙ token_behind (tokens_in front) m n t s.runs is;
}

-- nothing within the limits begins so where something is above them
not_within : (ts : List Token) (m : Machine) (over : Over) → run first_machine ts ≡ Ok m → m.over ≡ Some over → BeginsWithin 300 128 ts → ⊥
not_within ts m over e above b = let none = within_fine ts m e b in cc

module _ (file : List ℕ) where
  limit_refusal : (front back : List Lexeme) (m : Machine) (at line last : ℕ) (problem : Problem) → Stands front m at → past m.over at line ≡ Some problem →
      line ≤ last → All (λ (x : Lexeme). line ≤ x.line) back → Refused file (front ++ back) last (fault_at file at problem)
  limit_refusal front back m at line last problem s some room later =
      let x = past_some m.over at line problem some in
      let after = x.later in
      record {
        line = at;
        problem = problem;
        first = by_limit at front back refl
            (weaker (λ (y : Lexeme). line ≤ y.line) (λ (y : Lexeme). at < y.line) (λ y h. omega arith) back later)
            s.upto (taken_begins (tokens_in front) m s.runs) (inl (omega arith)) (not_within (tokens_in front) m x.it s.runs x.is)
            (subst (λ p. IsAbove (tokens_in front) p) (sym x.told) (over_above (tokens_in front) m x.it s.runs x.is));
        told = refl;
      }

  token_refusal : (front back : List Lexeme) (m : Machine) (at line last : ℕ) (t : Token) (problem : Problem) → Stands front m at → at ≤ line →
      past m.over at line ≡ None → after_token m t ≡ Err problem → Refused file (front ++ lexeme line t ∷ back) last (fault_at file line problem)
  token_refusal front back m at line last t problem s le none is = record {
    line = line;
    problem = problem;
    first = by_token front back (lexeme line t) refl (up_to_line front m at line s le none) (taken_begins (tokens_in front) m s.runs)
        (token_unfit (tokens_in front) m t problem s.runs is) (token_wrong (tokens_in front) m t problem s.runs is);
    told = refl;
  }

  -- what the next token leaves
  abbrev Next : List Lexeme → Progress → Token → Result Progress Fault → Type 0
  Next front p t (Ok q) = (q ≡ record p { machine = q.machine; token_line = p.line }) × Stands (front ++ lexeme p.line t ∷ []) q.machine p.line
  Next front p t (Err fault) = (back : List Lexeme) (last : ℕ) → p.line ≤ last → All (λ (x : Lexeme). p.line ≤ x.line) back →
      Refused file (front ++ lexeme p.line t ∷ back) last fault

  next_taken : (front : List Lexeme) (p : Progress) (t : Token) → Stands front p.machine p.token_line → p.token_line ≤ p.line → past p.machine.over p.token_line p.line ≡ None →
      (given : Result Machine Problem) → after_token p.machine t ≡ given → Next front p t (with_machine p (located file p.line given))
  next_taken front p t s le none (Ok n) is = (refl, stands_push front p.machine n p.token_line p.line t s le none is)
  next_taken front p t s le none (Err problem) is = λ back last room later. token_refusal front back p.machine p.token_line p.line last t problem s le none is

  next_checked : (front : List Lexeme) (p : Progress) (t : Token) → Stands front p.machine p.token_line → p.token_line ≤ p.line →
      (above : Option Problem) → past p.machine.over p.token_line p.line ≡ above →
      Next front p t (and_go (line_checked file p above) (λ q. with_machine q (located file q.line (after_token q.machine t))))
  next_checked front p t s le None e = next_taken front p t s le e (after_token p.machine t) refl
  next_checked front p t s le (Some problem) e = λ back last room later.
      limit_refusal front (lexeme p.line t ∷ back) p.machine p.token_line p.line last problem s e room
      (All-append (λ (x : Lexeme). p.line ≤ x.line) (lexeme p.line t ∷ []) back
      (one_all (λ (x : Lexeme). p.line ≤ x.line) (lexeme p.line t) (omega arith)) later)

  next_lexeme : (front : List Lexeme) (p : Progress) (t : Token) → Stands front p.machine p.token_line → p.token_line ≤ p.line → Next front p t (after_lexeme file p t)
  unfolding after_lexeme
  next_lexeme front p t s le = next_checked front p t s le (past p.machine.over p.token_line p.line) refl

  -- ---- the end of the text

  abbrev failed : Fault → Result (List PlainModule) Fault
  failed fault = Err fault

  end_closed : (front : List Lexeme) (p : Progress) (fault : Fault) (over : Option Over) (b : Bool) → Stands front p.machine p.token_line → p.token_line ≤ p.line →
      past p.machine.over p.token_line p.line ≡ None → p.machine.over ≡ over → is_done p.machine ≡ b →
      (if b then unless_over file p.token_line over p.machine.modules else Err (fault_at file p.line (problems.Malformed reasons.Token))) ≡ failed fault →
      Refused file front p.line fault
  end_closed front p fault over false s le none over_is done e = record {
    line = p.line;
    problem = problems.Malformed reasons.Token;
    first = by_end (up_to_line front p.machine p.token_line p.line s le none) (taken_begins (tokens_in front) p.machine s.runs)
        (λ text. let d = text_done (tokens_in front) p.machine s.runs text in cc);
    told = cc;
  }
  end_closed front p fault None true s le none over_is done e = absurd (cc)
  end_closed front p fault (Some over) true s le none over_is done e = record {
    line = p.token_line;
    problem = limit over;
    first = by_limit p.token_line front [] (sym (append-nil front)) (All-nil (λ (x : Lexeme). p.token_line < x.line)) s.upto
        (taken_begins (tokens_in front) p.machine s.runs) (inr (done_text (tokens_in front) p.machine s.runs done))
        (not_within (tokens_in front) p.machine over s.runs over_is) (over_above (tokens_in front) p.machine over s.runs over_is);
    told = cc;
  }

  end_checked : (front : List Lexeme) (p : Progress) (fault : Fault) (above : Option Problem) → Stands front p.machine p.token_line → p.token_line ≤ p.line →
      past p.machine.over p.token_line p.line ≡ above → and_go (line_checked file p above) (λ r. closing file r) ≡ failed fault → Refused file front p.line fault
  end_checked front p fault None s le none e = end_closed front p fault p.machine.over (is_done p.machine) s le none refl refl e
  end_checked front p fault (Some problem) s le some e =
      let x = limit_refusal front [] p.machine p.token_line p.line p.line problem s some (omega arith) (All-nil (λ (x : Lexeme). p.line ≤ x.line)) in
      subst (λ f. Refused file front p.line f) (cc) (subst (λ (xs : List Lexeme). Refused file xs p.line (fault_at file p.token_line problem)) (append-nil front) x)

  -- ---- a token or none

  optional : (front more : List Lexeme) (p : Progress) (o : Option Token) (F : Progress → Result (List PlainModule) Fault) (last : ℕ) (fault : Fault) →
      Stands front p.machine p.token_line → p.token_line ≤ p.line → p.line ≤ last → All (λ (x : Lexeme). p.line ≤ x.line) more →
      ((read : List Lexeme) (m : Machine) (at : ℕ) → Stands read m at → at ≤ p.line → F (record p { machine = m; token_line = at }) ≡ failed fault →
      Refused file (read ++ more) last fault) →
      and_go (after_optional file p o) F ≡ failed fault → Refused file (front ++ (on_line p.line o ++ more)) last fault
  optional front more p None F last fault s le room later go_on e = go_on front p.machine p.token_line s le e
  optional front more p (Some t) F last fault s le room later go_on e = by_next (after_lexeme file p t) (next_lexeme front p t s le) e where
    by_next : (given : Result Progress Fault) → Next front p t given → and_go given F ≡ failed fault → Refused file (front ++ lexeme p.line t ∷ more) last fault
    by_next (Ok q) next e =
        subst (λ (xs : List Lexeme). Refused file xs last fault) (append_assoc front (lexeme p.line t ∷ []) more)
        (go_on (front ++ lexeme p.line t ∷ []) q.machine p.line next.1 (omega arith) (sym (ap F next.0) ∙ e))
    by_next (Err other) next e = subst (λ f. Refused file (front ++ lexeme p.line t ∷ more) last f) (cc) (next more last room later)

  -- ---- lines go on

  next_line_goes : (line byte : ℕ) → line ≤ next_line line byte
  next_line_goes line byte = by_test (byte == 10) where
    by_test : (b : Bool) → line ≤ (if b then line + 1 else line)
    by_test true = omega arith
    by_test false = omega arith

  on_line_from : (n line : ℕ) (o : Option Token) → n ≤ line → All (λ (x : Lexeme). n ≤ x.line) (on_line line o)
  on_line_from n line None h = All-nil (λ (x : Lexeme). n ≤ x.line)
  on_line_from n line (Some t) h = one_all (λ (x : Lexeme). n ≤ x.line) (lexeme line t) h

  lexemes_go : (bytes : List ℕ) (scan : Scan) (last line n : ℕ) → n ≤ last → n ≤ line → All (λ (x : Lexeme). n ≤ x.line) (lexemes_from scan last line bytes)
  unfolding lexemes_from
  lexemes_go [] scan last line n p q = on_line_from n last (at_end scan) p
  lexemes_go (byte ∷ bytes) scan last line n p q =
      let s = after_byte scan byte in
      let goes = next_line_goes line byte in
      All-append (λ (x : Lexeme). n ≤ x.line) (on_line line s.first) _ (on_line_from n line s.first q)
      (All-append (λ (x : Lexeme). n ≤ x.line) (on_line line s.second) _ (on_line_from n line s.second q)
      (lexemes_go bytes s.scan line (next_line line byte) n q (omega arith)))

  last_goes : (bytes : List ℕ) (last line n : ℕ) → n ≤ last → n ≤ line → n ≤ last_line_from last line bytes
  unfolding last_line_from
  last_goes [] last line n p q = p
  last_goes (byte ∷ bytes) last line n p q = let goes = next_line_goes line byte in last_goes bytes line (next_line line byte) n q (omega arith)

  -- ---- byte by byte

  bytes_refused : (bytes : List ℕ) (p : Progress) (front : List Lexeme) (fault : Fault) → Stands front p.machine p.token_line → p.token_line ≤ p.last → p.last ≤ p.line →
      further file p bytes ≡ failed fault → Refused file (front ++ lexemes_from p.scan p.last p.line bytes) (last_line_from p.last p.line bytes) fault
  unfolding lexemes_from last_line_from read_from
  bytes_refused [] p front fault s le goes e =
      let q : Progress = record p { line = p.last } in
      subst (λ (xs : List Lexeme). Refused file (front ++ xs) p.last fault) (append-nil (on_line p.last (at_end p.scan)))
      (optional front [] q (at_end p.scan) (λ r. and_go (line_checked file r (past r.machine.over r.token_line r.line)) (λ r. closing file r)) p.last fault s le (omega arith)
      (All-nil (λ (x : Lexeme). p.last ≤ x.line))
      (λ read m at stands before closes.
      subst (λ (xs : List Lexeme). Refused file xs p.last fault) (sym (append-nil read))
      (end_checked read (record q { machine = m; token_line = at }) fault (past m.over at p.last) stands before refl closes))
      e)
  bytes_refused (byte ∷ bytes) p front fault s le goes e =
      let step = after_byte p.scan byte in
      let on = next_line_goes p.line byte in
      let rest = lexemes_from step.scan p.line (next_line p.line byte) bytes in
      let last = last_line_from p.line (next_line p.line byte) bytes in
      let room : p.line ≤ last = last_goes bytes p.line (next_line p.line byte) p.line (omega arith) on in
      let later = lexemes_go bytes step.scan p.line (next_line p.line byte) p.line (omega arith) on in
      optional front (on_line p.line step.second ++ rest) p step.first
      (λ q. and_go (after_optional file q step.second) (λ r. further file (behind_byte r step.scan byte) bytes)) last fault s (omega arith) room
      (All-append (λ (x : Lexeme). p.line ≤ x.line) (on_line p.line step.second) rest (on_line_from p.line p.line step.second (omega arith)) later)
      (λ read m at stands before f.
      optional read rest (record p { machine = m; token_line = at }) step.second (λ r. further file (behind_byte r step.scan byte) bytes) last fault stands before room later
      (λ all n now stands2 before2 g.
      bytes_refused bytes (behind_byte (record p { machine = n; token_line = now }) step.scan byte) all fault stands2 before2 on g)
      f)
      (sym (further_is file p byte bytes) ∙ e)

  stands_first : Stands [] first_machine 1
  unfolding run first_machine
  stands_first = record {
    upto = record {
      earlier = [];
      here = [];
      parted = refl;
      before_line = All-nil (λ (x : Lexeme). x.line < 1);
      on_it = All-nil (λ (x : Lexeme). x.line ≡ 1);
      within = taken_within [] first_machine refl refl;
    };
    runs = refl;
  }

  -- what the reader refuses is the first refusal
  pub text_refused : (bytes : List ℕ) (fault : Fault) → read_of file bytes ≡ Err fault → Refused file (lexemes_of bytes) (last_line bytes) fault
  unfolding read_of
  text_refused bytes fault e =
      subst (λ last. Refused file (lexemes_of bytes) last fault) (last_line_is bytes) (bytes_refused bytes first_progress [] fault stands_first (omega arith) (omega arith) e)
