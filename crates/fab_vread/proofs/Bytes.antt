-- The reader takes the tokens that its bytes give.
use Rattle.std.proofs.Common.{◌≡◌, ℕ, Bool, true, false, List, [], ◌∷◌, ◌++◌, refl, ap, ◌∙◌, subst, sym, Option, Some, None, Result, Ok, Err, append-nil, if◌then◌else◌}
use Rattle.std.specs.Option.{option_to_list}
use Rattle.fab_base.specs.declared.problem.Problem.{Problem}
use Rattle.fab_base.specs.declared.problem.Problem.TheVariants as problems
use Rattle.fab_base.specs.declared.words.Reason.TheVariants as reasons
use Rattle.fab_base.specs.declared.fault.Fault.{Fault}
use Rattle.fab_base.specs.Reading.{fault_at}
use Rattle.fab_syntax.specs.Plain.{PlainModule}
use Rattle.fab_tokens.specs.declared.token.Token.{Token}
use Rattle.fab_tokens.specs.Scanning.{after_byte, at_end}
use Rattle.fab_tokens.specs.Told.{tokens_from, tokens_of}
use Rattle.fab_vread.specs.declared.expressions.Over.{Over}
use Rattle.fab_vread.specs.inner.Machine.{Machine, Progress, after_token, first_machine, is_done, past, line_checked, with_machine, located, and_go, after_lexeme, after_optional, behind_byte, after_char, read_from, unless_over, closing, finished, first_progress, read_of}
use Rattle.fab_vread.proofs.Running.{run, and_next}
use Rattle.fab_vread.proofs.Recognized.{run_over, same_machine}

-- an optional token, then a step, then the rest
go_twice : (y : Result Progress Fault) (f : Progress → Progress) (g : Progress → Result Progress Fault) (h : Progress → Result (List PlainModule) Fault) →
    and_go (and_go (and_go y (λ r. Ok (f r))) g) h ≡ and_go y (λ r. and_go (g (f r)) h)
go_twice (Ok r) f g h = refl
go_twice (Err fault) f g h = refl

go_thrice : (x : Result Progress Fault) (y : Progress → Result Progress Fault) (f : Progress → Progress) (g : Progress → Result Progress Fault)
    (h : Progress → Result (List PlainModule) Fault) →
    and_go (and_go (and_go x (λ q. and_go (y q) (λ r. Ok (f r)))) g) h ≡ and_go x (λ q. and_go (y q) (λ r. and_go (g (f r)) h))
go_thrice (Ok q) y f g h = go_twice (y q) f g h
go_thrice (Err fault) y f g h = refl

module _ (file : List ℕ) where
  -- the rest of a text
  abbrev pub further : Progress → List ℕ → Result (List PlainModule) Fault
  further p bytes = and_go (read_from file p bytes) (λ q. finished file q)

  abbrev pub behind_tokens : Progress → ℕ → List ℕ → Result (List PlainModule) Fault
  behind_tokens p byte bytes =
      and_go (after_optional file p (after_byte p.scan byte).first) (λ q.
      and_go (after_optional file q (after_byte p.scan byte).second) (λ r. further (behind_byte r (after_byte p.scan byte).scan byte) bytes))

  pub further_is : (p : Progress) (byte : ℕ) (bytes : List ℕ) → further p (byte ∷ bytes) ≡ behind_tokens p byte bytes
  unfolding read_from after_char
  further_is p byte bytes =
      go_thrice (after_optional file p (after_byte p.scan byte).first) (λ q. after_optional file q (after_byte p.scan byte).second)
      (λ r. behind_byte r (after_byte p.scan byte).scan byte) (λ q. read_from file q bytes) (λ q. finished file q)

  -- ---- what the machine takes is read

  record Takes (p : Progress) (o : Option Token) (more : List Token) (final : Machine) : Type 0 where
    then_is : Machine
    at : ℕ
    is : after_optional file p o ≡ Ok (record p { machine = then_is; token_line = at })
    rest : run then_is more ≡ Ok final

  takes_token : (p : Progress) (t : Token) (more : List Token) (final : Machine) (given : Result Machine Problem) → after_token p.machine t ≡ given →
      p.machine.over ≡ None → and_next given (λ n. run n more) ≡ Ok final → Takes p (Some t) more final
  unfolding after_lexeme
  takes_token p t more final (Ok n) is none e = record {
    then_is = n;
    at = p.line;
    is = ap (λ over. and_go (line_checked file p (past over p.token_line p.line)) (λ q. with_machine q (located file q.line (after_token q.machine t)))) none
        ∙ ap (λ given. with_machine p (located file p.line given)) is;
    rest = e;
  }
  takes_token p t more final (Err problem) is none e = absurd (cc)

  takes_optional : (p : Progress) (o : Option Token) (more : List Token) (final : Machine) → run p.machine (option_to_list o ++ more) ≡ Ok final →
      final.over ≡ None → Takes p o more final
  unfolding run
  takes_optional p None more final e none = record { then_is = p.machine; at = p.token_line; is = refl; rest = e }
  takes_optional p (Some t) more final e none =
      takes_token p t more final (after_token p.machine t) refl (run_over (t ∷ more) p.machine final e none) e

  closes : (p : Progress) (final : Machine) → p.machine ≡ final → final.over ≡ None → is_done final ≡ true →
      and_go (line_checked file p (past p.machine.over p.token_line p.line)) (λ r. closing file r) ≡ Ok final.modules
  closes p final same none done =
      let over_none : p.machine.over ≡ None = ap (λ (m : Machine). m.over) same ∙ none in
      let p_done : is_done p.machine ≡ true = subst (λ (m : Machine). is_done m ≡ true) (sym same) done in
      ap (λ over. and_go (line_checked file p (past over p.token_line p.line)) (λ r. closing file r)) over_none
      ∙ ap (λ (b : Bool). if b then unless_over file p.token_line p.machine.over p.machine.modules else Err (fault_at file p.line (problems.Malformed reasons.Token))) p_done
      ∙ ap (λ over. unless_over file p.token_line over p.machine.modules) over_none
      ∙ ap (λ (m : Machine). Ok m.modules) same

  ends_so : (p : Progress) (final : Machine) → run p.machine (option_to_list (at_end p.scan)) ≡ Ok final → final.over ≡ None → is_done final ≡ true →
      finished file p ≡ Ok final.modules
  unfolding run
  ends_so p final e none done =
      let x = takes_optional (record p { line = p.last }) (at_end p.scan) [] final
      (subst (λ ts. run p.machine ts ≡ Ok final) (sym (append-nil (option_to_list (at_end p.scan)))) e) none in
      ap (λ given. and_go given (λ q. and_go (line_checked file q (past q.machine.over q.token_line q.line)) (λ r. closing file r))) x.is
      ∙ closes (record p { line = p.last; machine = x.then_is; token_line = x.at }) final (same_machine x.then_is final x.rest) none done

  pub bytes_read : (bytes : List ℕ) (p : Progress) (final : Machine) → run p.machine (tokens_from p.scan bytes) ≡ Ok final → final.over ≡ None →
      is_done final ≡ true → further p bytes ≡ Ok final.modules
  unfolding tokens_from read_from
  bytes_read [] p final e none done = ends_so p final e none done
  bytes_read (byte ∷ bytes) p final e none done =
      let s = after_byte p.scan byte in
      let more = tokens_from s.scan bytes in
      let x = takes_optional p s.first (option_to_list s.second ++ more) final e none in
      let q : Progress = record p { machine = x.then_is; token_line = x.at } in
      let y = takes_optional q s.second more final x.rest none in
      let r : Progress = record q { machine = y.then_is; token_line = y.at } in
      further_is p byte bytes
      ∙ ap (λ given. and_go given (λ q. and_go (after_optional file q s.second) (λ r. further (behind_byte r s.scan byte) bytes))) x.is
      ∙ ap (λ given. and_go given (λ r. further (behind_byte r s.scan byte) bytes)) y.is
      ∙ bytes_read bytes (behind_byte r s.scan byte) final y.rest none done

  -- ---- what is read the machine takes

  record Took (p : Progress) (o : Option Token) (F : Progress → Result (List PlainModule) Fault) (modules : List PlainModule) : Type 0 where
    then_was : Machine
    at_line : ℕ
    goes : F (record p { machine = then_was; token_line = at_line }) ≡ Ok modules
    runs : (more : List Token) → run p.machine (option_to_list o ++ more) ≡ run then_was more

  took_given : (p : Progress) (t : Token) (F : Progress → Result (List PlainModule) Fault) (modules : List PlainModule) (given : Result Machine Problem) →
      after_token p.machine t ≡ given → and_go (with_machine p (located file p.line given)) F ≡ Ok modules → Took p (Some t) F modules
  unfolding run
  took_given p t F modules (Ok n) is e =
      record { then_was = n; at_line = p.line; goes = e; runs = λ more. ap (λ given. and_next given (λ n. run n more)) is }
  took_given p t F modules (Err problem) is e = absurd (cc)

  took_checked : (p : Progress) (t : Token) (F : Progress → Result (List PlainModule) Fault) (modules : List PlainModule) (above : Option Problem) →
      and_go (and_go (line_checked file p above) (λ q. with_machine q (located file q.line (after_token q.machine t)))) F ≡ Ok modules → Took p (Some t) F modules
  took_checked p t F modules None e = took_given p t F modules (after_token p.machine t) refl e
  took_checked p t F modules (Some problem) e = absurd (cc)

  took_optional : (p : Progress) (o : Option Token) (F : Progress → Result (List PlainModule) Fault) (modules : List PlainModule) →
      and_go (after_optional file p o) F ≡ Ok modules → Took p o F modules
  unfolding after_lexeme
  took_optional p None F modules e = record { then_was = p.machine; at_line = p.token_line; goes = e; runs = λ more. refl }
  took_optional p (Some t) F modules e = took_checked p t F modules (past p.machine.over p.token_line p.line) e

  pub record Took_all (m : Machine) (ts : List Token) (modules : List PlainModule) : Type 0 where
    pub final : Machine
    pub runs : run m ts ≡ Ok final
    pub done : is_done final ≡ true
    pub none : final.over ≡ None
    pub modules_are : final.modules ≡ modules

  closed_so : (p : Progress) (modules : List PlainModule) (over : Option Over) (b : Bool) → p.machine.over ≡ over → is_done p.machine ≡ b →
      (if b then unless_over file p.token_line over p.machine.modules else Err (fault_at file p.line (problems.Malformed reasons.Token))) ≡ Ok modules →
      Took_all p.machine [] modules
  unfolding run
  closed_so p modules None true over_is done e =
      record { final = p.machine; runs = refl; done = done; none = over_is; modules_are = cc }
  closed_so p modules (Some over) true over_is done e = absurd (cc)
  closed_so p modules over false over_is done e = absurd (cc)

  closed_checked : (p : Progress) (modules : List PlainModule) (above : Option Problem) →
      and_go (line_checked file p above) (λ r. closing file r) ≡ Ok modules → Took_all p.machine [] modules
  closed_checked p modules None e = closed_so p modules p.machine.over (is_done p.machine) refl refl e
  closed_checked p modules (Some problem) e = absurd (cc)

  pub bytes_took : (bytes : List ℕ) (p : Progress) (modules : List PlainModule) → further p bytes ≡ Ok modules →
      Took_all p.machine (tokens_from p.scan bytes) modules
  unfolding tokens_from read_from
  bytes_took [] p modules e =
      let x = took_optional (record p { line = p.last }) (at_end p.scan)
      (λ q. and_go (line_checked file q (past q.machine.over q.token_line q.line)) (λ r. closing file r)) modules e in
      let q : Progress = record p { line = p.last; machine = x.then_was; token_line = x.at_line } in
      let y = closed_checked q modules (past q.machine.over q.token_line q.line) x.goes in
      record {
        final = y.final;
        runs = ap (run p.machine) (sym (append-nil (option_to_list (at_end p.scan)))) ∙ x.runs [] ∙ y.runs;
        done = y.done;
        none = y.none;
        modules_are = y.modules_are;
      }
  bytes_took (byte ∷ bytes) p modules e =
      let s = after_byte p.scan byte in
      let more = tokens_from s.scan bytes in
      let x = took_optional p s.first (λ q. and_go (after_optional file q s.second) (λ r. further (behind_byte r s.scan byte) bytes)) modules
      (sym (further_is p byte bytes) ∙ e) in
      let q : Progress = record p { machine = x.then_was; token_line = x.at_line } in
      let y = took_optional q s.second (λ r. further (behind_byte r s.scan byte) bytes) modules x.goes in
      let r : Progress = record q { machine = y.then_was; token_line = y.at_line } in
      let z = bytes_took bytes (behind_byte r s.scan byte) modules y.goes in
      record {
        final = z.final;
        runs = x.runs (option_to_list s.second ++ more) ∙ y.runs more ∙ z.runs;
        done = z.done;
        none = z.none;
        modules_are = z.modules_are;
      }

  -- ---- a whole text

  pub text_read : (bytes : List ℕ) (final : Machine) → run first_machine (tokens_of bytes) ≡ Ok final → final.over ≡ None → is_done final ≡ true →
      read_of file bytes ≡ Ok final.modules
  unfolding read_of
  text_read bytes final e none done = bytes_read bytes first_progress final e none done

  pub text_took : (bytes : List ℕ) (modules : List PlainModule) → read_of file bytes ≡ Ok modules → Took_all first_machine (tokens_of bytes) modules
  unfolding read_of
  text_took bytes modules e = bytes_took bytes first_progress modules e
