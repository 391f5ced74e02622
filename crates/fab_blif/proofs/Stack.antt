-- Frames in one another: the lines that are left in them, and how many steps they take.
use Rattle.std.proofs.Common.{◌≡◌, ℕ, zero, suc, ◌+◌, ◌<◌, ◌≤◌, List, [], ◌∷◌, ◌++◌, length, drop, flat_map, Option, Some, None, option_map, refl, sym, ap, ◌∙◌, arith, append_assoc, append-nil, add_assoc}
use Rattle.std.proofs.lemmas.List.Sums.{fold-append}
use Rattle.fab_blif_models.specs.Plain.{PlainBody, PlainStatement, PlainModel, inputs, outputs, clock, cover, latch, instance}
use Rattle.fab_instances.specs.Places.{place_of_model, statements_of}
use Rattle.fab_blif.specs.Flat.{PlainCopy, Placed, copy_in, lines_at, lines_by, lines_of, of_model, top_copy}
use Rattle.fab_blif.specs.Design.{PlainDesign}
use Rattle.fab_blif.specs.inner.Walk.{after, after_all}
use Rattle.fab_blif.specs.inner.Frames.{PlainFrame, deep_in, frame_lines, stack_lines, entered, new_frame, advanced, with_frames}

module _ (models : List PlainModel) where
  -- the lines of a frame that is last come first
  pub lines_push : (frames : List PlainFrame) (frame : PlainFrame) → stack_lines models (frames ++ frame ∷ []) ≡ frame_lines models frame ++ stack_lines models frames
  unfolding stack_lines
  lines_push [] frame = sym (append-nil (frame_lines models frame))
  lines_push (first ∷ frames) frame =
      ap (λ (text : List Placed). text ++ frame_lines models first) (lines_push frames frame)
      ∙ append_assoc (frame_lines models frame) (stack_lines models frames) (frame_lines models first)

  -- a frame without lines
  pub lines_done : (outer : List PlainFrame) (frame : PlainFrame) → drop frame.next (statements_of models frame.model) ≡ [] → stack_lines models (outer ++ frame ∷ []) ≡ stack_lines models outer
  lines_done outer frame none =
      lines_push outer frame
      ∙ ap (λ (lines : List PlainStatement). flat_map (lines_at models (lines_of models (deep_in models frame.copy.depth)) frame.copy) lines ++ stack_lines models outer) none

  -- what an instance that is gone into stands for
  abbrev inner_lines : Option PlainFrame → List Placed
  inner_lines None = []
  inner_lines (Some frame) = frame_lines models frame

  abbrev put_lines : PlainCopy → (line : ℕ) → PlainBody → List Placed
  put_lines copy line body = lines_by [] (λ _ _. []) copy line body

  -- a level deeper
  less_deep : (deep depth : ℕ) → suc deep ≡ deep_in models depth → deep ≡ deep_in models (suc depth)
  less_deep deep depth is = omega (arith, is)

  found_lines : (deep : ℕ) (copy : PlainCopy) (line : ℕ) (words : List (List ℕ)) (place : Option ℕ) → suc deep ≡ deep_in models copy.depth →
      of_model (lines_of models (suc deep) (copy_in copy line words)) place ≡ inner_lines (option_map (new_frame (copy_in copy line words)) place)
  unfolding lines_of
  found_lines deep copy line words None is = refl
  found_lines deep copy line words (Some place) is =
      ap (λ (d : ℕ). flat_map (lines_at models (lines_of models d) (copy_in copy line words)) (statements_of models place)) (less_deep deep copy.depth is)

  nothing_found : (copy : PlainCopy) (line : ℕ) (words : List (List ℕ)) (place : Option ℕ) → of_model (lines_of models zero (copy_in copy line words)) place ≡ []
  unfolding lines_of
  nothing_found copy line words None = refl
  nothing_found copy line words (Some place) = refl

  -- what a line of a model is noted as, and what it stands for if it is an instance
  line_parts : (deep : ℕ) (copy : PlainCopy) (line : ℕ) (body : PlainBody) → deep ≡ deep_in models copy.depth →
      lines_by models (lines_of models deep) copy line body ≡ put_lines copy line body ++ inner_lines (entered models deep copy line body)
  line_parts zero copy line (inputs names) is = sym (append-nil _)
  line_parts zero copy line (outputs names) is = sym (append-nil _)
  line_parts zero copy line (clock name) is = refl
  line_parts zero copy line (cover names output on rows) is = refl
  line_parts zero copy line (latch input output control initial) is = refl
  line_parts zero copy line (instance name words) is = nothing_found copy line words (place_of_model models name)
  line_parts (suc deep) copy line (inputs names) is = sym (append-nil _)
  line_parts (suc deep) copy line (outputs names) is = sym (append-nil _)
  line_parts (suc deep) copy line (clock name) is = refl
  line_parts (suc deep) copy line (cover names output on rows) is = refl
  line_parts (suc deep) copy line (latch input output control initial) is = refl
  line_parts (suc deep) copy line (instance name words) is = found_lines deep copy line words (place_of_model models name) is

  -- the lines of frames behind the next one
  inner_last : (outer : List PlainFrame) (frame : PlainFrame) (inner : Option PlainFrame) → stack_lines models (with_frames outer frame inner) ≡ inner_lines inner ++ stack_lines models (outer ++ frame ∷ [])
  inner_last outer frame None = refl
  inner_last outer frame (Some inner) = lines_push (outer ++ frame ∷ []) inner

  pub lines_next : (outer : List PlainFrame) (frame : PlainFrame) (statement : PlainStatement) →
      drop frame.next (statements_of models frame.model) ≡ statement ∷ drop (frame.next + 1) (statements_of models frame.model) →
      stack_lines models (outer ++ frame ∷ [])
      ≡ put_lines frame.copy statement.line statement.body
      ++ stack_lines models (with_frames outer (advanced frame) (entered models (deep_in models frame.copy.depth) frame.copy statement.line statement.body))
  lines_next outer frame statement next =
      let copy = frame.copy in
      let less = deep_in models copy.depth in
      let lines : PlainStatement → List Placed = lines_at models (lines_of models less) copy in
      let e = entered models less copy statement.line statement.body in
      let put = put_lines copy statement.line statement.body in
      let inner = inner_lines e in
      let left = flat_map lines (drop (frame.next + 1) (statements_of models frame.model)) in
      let all = stack_lines models outer in
      lines_push outer frame
      ∙ ap (λ (list : List PlainStatement). flat_map lines list ++ all) next
      ∙ ap (λ (text : List Placed). (text ++ left) ++ all) (line_parts less copy statement.line statement.body refl)
      ∙ ap (λ (text : List Placed). text ++ all) (append_assoc put inner left)
      ∙ append_assoc put (inner ++ left) all
      ∙ ap (λ (text : List Placed). put ++ text) (append_assoc inner left all ∙ ap (λ (text : List Placed). inner ++ text) (sym (lines_push outer (advanced frame))) ∙ sym (inner_last outer (advanced frame) e))

  -- a design after a line
  pub design_next : (outer : List PlainFrame) (frame : PlainFrame) (statement : PlainStatement) (design : PlainDesign) →
      drop frame.next (statements_of models frame.model) ≡ statement ∷ drop (frame.next + 1) (statements_of models frame.model) →
      after_all (after_all design (lines_by [] (λ _ _. []) frame.copy statement.line statement.body))
      (stack_lines models (with_frames outer (advanced frame) (entered models (deep_in models frame.copy.depth) frame.copy statement.line statement.body)))
      ≡ after_all design (stack_lines models (outer ++ frame ∷ []))
  design_next outer frame statement design next =
      sym (fold-append after design (put_lines frame.copy statement.line statement.body)
      (stack_lines models (with_frames outer (advanced frame) (entered models (deep_in models frame.copy.depth) frame.copy statement.line statement.body))))
      ∙ ap (λ (text : List Placed). after_all design text) (sym (lines_next outer frame statement next))

  -- ---- how many steps are left

  abbrev total : {X : Type 0} → (X → ℕ) → List X → ℕ
  total f [] = 0
  total f (x ∷ xs) = f x + total f xs

  abbrev of_place : (ℕ → ℕ) → Option ℕ → ℕ
  of_place inner None = 0
  of_place inner (Some place) = inner place

  abbrev body_work : (ℕ → ℕ) → PlainBody → ℕ
  body_work inner (instance name words) = of_place inner (place_of_model models name)
  body_work inner _ = 0

  abbrev line_work : (ℕ → ℕ) → PlainStatement → ℕ
  line_work inner statement = 1 + body_work inner statement.body

  unfoldable pub work_of : (deep : ℕ) → (place : ℕ) → ℕ
  work_of zero place = 0
  work_of (suc deep) place = 1 + total (line_work (work_of deep)) (statements_of models place)

  abbrev frame_work : PlainFrame → ℕ
  frame_work frame = 1 + total (line_work (work_of (deep_in models frame.copy.depth))) (drop frame.next (statements_of models frame.model))

  unfoldable pub stack_work : List PlainFrame → ℕ
  stack_work [] = 0
  stack_work (frame ∷ frames) = stack_work frames + frame_work frame

  work_push : (frames : List PlainFrame) (frame : PlainFrame) → stack_work (frames ++ frame ∷ []) ≡ frame_work frame + stack_work frames
  unfolding stack_work
  work_push [] frame = omega arith
  work_push (first ∷ frames) frame =
      ap (λ (n : ℕ). n + frame_work first) (work_push frames frame)
      ∙ add_assoc (frame_work frame) (stack_work frames) (frame_work first)

  -- a frame without lines is one step
  pub work_done : (outer : List PlainFrame) (frame : PlainFrame) → stack_work outer < stack_work (outer ++ frame ∷ [])
  work_done outer frame = omega (arith, work_push outer frame)

  abbrev inner_work : Option PlainFrame → ℕ
  inner_work None = 0
  inner_work (Some frame) = frame_work frame

  found_work : (deep : ℕ) (copy : PlainCopy) (line : ℕ) (words : List (List ℕ)) (place : Option ℕ) → suc deep ≡ deep_in models copy.depth →
      of_place (work_of (suc deep)) place ≡ inner_work (option_map (new_frame (copy_in copy line words)) place)
  unfolding work_of
  found_work deep copy line words None is = refl
  found_work deep copy line words (Some place) is = ap (λ (d : ℕ). 1 + total (line_work (work_of d)) (statements_of models place)) (less_deep deep copy.depth is)

  body_parts : (deep : ℕ) (copy : PlainCopy) (line : ℕ) (body : PlainBody) → deep ≡ deep_in models copy.depth → inner_work (entered models deep copy line body) ≤ body_work (work_of deep) body
  body_parts zero copy line body is = omega arith
  body_parts (suc deep) copy line (inputs names) is = omega arith
  body_parts (suc deep) copy line (outputs names) is = omega arith
  body_parts (suc deep) copy line (clock name) is = omega arith
  body_parts (suc deep) copy line (cover names output on rows) is = omega arith
  body_parts (suc deep) copy line (latch input output control initial) is = omega arith
  body_parts (suc deep) copy line (instance name words) is = omega (arith, found_work deep copy line words (place_of_model models name) is)

  inner_pushed : (outer : List PlainFrame) (frame : PlainFrame) (inner : Option PlainFrame) → stack_work (with_frames outer frame inner) ≡ inner_work inner + stack_work (outer ++ frame ∷ [])
  inner_pushed outer frame None = omega arith
  inner_pushed outer frame (Some inner) = work_push (outer ++ frame ∷ []) inner

  -- a line is one step
  pub work_next : (outer : List PlainFrame) (frame : PlainFrame) (statement : PlainStatement) →
      drop frame.next (statements_of models frame.model) ≡ statement ∷ drop (frame.next + 1) (statements_of models frame.model) →
      stack_work (with_frames outer (advanced frame) (entered models (deep_in models frame.copy.depth) frame.copy statement.line statement.body))
      < stack_work (outer ++ frame ∷ [])
  work_next outer frame statement next =
      let copy = frame.copy in
      let less = deep_in models copy.depth in
      let e = entered models less copy statement.line statement.body in
      let inner : inner_work e ≤ body_work (work_of less) statement.body = body_parts less copy statement.line statement.body refl in
      let pushed : stack_work (with_frames outer (advanced frame) e) ≡ inner_work e + stack_work (outer ++ advanced frame ∷ []) = inner_pushed outer (advanced frame) e in
      let now : stack_work (outer ++ frame ∷ []) ≡ (1 + ((1 + body_work (work_of less) statement.body) + total (line_work (work_of less)) (drop (frame.next + 1) (statements_of models frame.model)))) + stack_work outer =
      work_push outer frame
      ∙ ap (λ (list : List PlainStatement). (1 + total (line_work (work_of less)) list) + stack_work outer) next in
      let then_ : stack_work (outer ++ advanced frame ∷ []) ≡ (1 + total (line_work (work_of less)) (drop (frame.next + 1) (statements_of models frame.model))) + stack_work outer =
      work_push outer (advanced frame) in
      omega (arith, inner, pushed, now, then_)

  -- ---- the beginning

  begun : (deep : ℕ) → deep ≡ length models → 0 < deep → stack_lines models (new_frame top_copy 0 ∷ []) ≡ lines_of models deep top_copy 0
  unfolding stack_lines lines_of
  begun zero is some = absurd (omega arith)
  begun (suc deep) is some = ap (λ (d : ℕ). flat_map (lines_at models (lines_of models d) top_copy) (statements_of models 0)) (let same : deep_in models 0 ≡ deep = omega (arith, is) in same)

  pub lines_begun : 0 < length models → stack_lines models (new_frame top_copy 0 ∷ []) ≡ lines_of models (length models) top_copy 0
  lines_begun some = begun (length models) refl some
