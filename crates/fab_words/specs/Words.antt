-- The job that the words of a command line spell.
use Rattle.std.specs.Prelude.{ℕ, ◌<◌, ◌≤◌, List, [], ◌∷◌, codes, Option, Some, None, option_and_then, if◌then◌else◌, nat_le}
use Rattle.std.specs.Option.{ForSome}
use Rattle.std.specs.Str.{IsUtf8}
use Rattle.fab_lines.specs.Names.{is_name}
use Rattle.fab_paths.specs.Paths.{stem}
use Rattle.fab_words.specs.Arguments.{is_positional, value_of}
use Rattle.fab_words.specs.Forms.{form_of, synopsis, values_in}
use Rattle.fab_words.specs.Numbers.{any_number, column_of, seed_of, rounds_of, order_of, size_of}
use Rattle.fab_words.specs.declared.forms.Form.{Form}
use Rattle.fab_words.specs.declared.forms.Form.TheVariants as form
use Rattle.fab_words.specs.declared.job.Job.{Job}
use Rattle.fab_words.specs.declared.job.Job.TheVariants.{Matrix, Generate, Assemble, Map, Flow, Bits, Features, Simulate, Partial, Timing, Serial, Sample}

-- ---- the job of each form

-- the stem of LIST is a name
abbrev pub matrix_job : (list out : Option (List ℕ)) → Option Job
matrix_job (Some list) (Some out) = if is_name (stem list) then Some (Matrix list out) else None
matrix_job list out = None

abbrev pub generate_job : (fabric out : Option (List ℕ)) → Option Job
generate_job (Some fabric) (Some out) = Some (Generate fabric out)
generate_job fabric out = None

abbrev pub assemble_job : (fabric blif implementation base pcf : Option (List ℕ)) → Option Job
assemble_job (Some fabric) (Some blif) (Some implementation) (Some base) pcf = Some (Assemble fabric blif pcf implementation base)
assemble_job fabric blif implementation base pcf = None

-- the numbers are given where the options write such numbers
abbrev pub map_job : (fabric blif out pcf : Option (List ℕ)) (seed rounds : Option ℕ) → Option Job
map_job (Some fabric) (Some blif) (Some out) pcf (Some seed) (Some rounds) = Some (Map fabric blif pcf seed rounds out)
map_job fabric blif out pcf seed rounds = None

-- The reset port that the value of `--reset PORT` names, where it is a positional word; so `--reset=-x` names none. Without the option there is no such port.
abbrev pub reset_of : (value : Option (List ℕ)) → Option (Option (List ℕ))
reset_of None = Some None
reset_of (Some word) = if is_positional word then Some (Some word) else None

-- the reset port is given where its option is absent or names one
abbrev pub flow_job : (fabric blif base pcf : Option (List ℕ)) (seed rounds : Option ℕ) (reset : Option (Option (List ℕ))) → Option Job
flow_job (Some fabric) (Some blif) (Some base) pcf (Some seed) (Some rounds) (Some reset) = Some (Flow fabric blif pcf seed rounds reset base)
flow_job fabric blif base pcf seed rounds reset = None

abbrev pub bits_job : (fabric fasm out : Option (List ℕ)) → Option Job
bits_job (Some fabric) (Some fasm) (Some out) = Some (Bits fabric fasm out)
bits_job fabric fasm out = None

abbrev pub features_job : (fabric bit out : Option (List ℕ)) → Option Job
features_job (Some fabric) (Some bit) (Some out) = Some (Features fabric bit out)
features_job fabric bit out = None

-- the order is given where its option is absent or writes a seed
abbrev pub simulate_job : (verilog bit state stimulus trace : Option (List ℕ)) (order : Option (Option ℕ)) → Option Job
simulate_job (Some verilog) (Some bit) (Some state) (Some stimulus) (Some trace) (Some order) = Some (Simulate verilog bit state stimulus order trace)
simulate_job verilog bit state stimulus trace order = None

-- the words write two columns, the first of which is not above the last
abbrev pub partial_job : (fabric implementation fasm : Option (List ℕ)) (first last : Option ℕ) (out : Option (List ℕ)) → Option Job
partial_job (Some fabric) (Some implementation) (Some fasm) (Some first) (Some last) (Some out) =
    if nat_le first last then Some (Partial fabric implementation fasm first last out) else None
partial_job fabric implementation fasm first last out = None

abbrev pub timing_job : (fabric blif implementation out pcf : Option (List ℕ)) → Option Job
timing_job (Some fabric) (Some blif) (Some implementation) (Some out) pcf = Some (Timing fabric blif pcf implementation out)
timing_job fabric blif implementation out pcf = None

abbrev pub serial_job : (fabric out : Option (List ℕ)) → Option Job
serial_job (Some fabric) (Some out) = Some (Serial fabric out)
serial_job fabric out = None

-- the words write a size and a seed
abbrev pub sample_job : (size seed : Option ℕ) → Option Job
sample_job (Some size) (Some seed) = Some (Sample size seed)
sample_job size seed = None

-- the job of a form whose names have these values
abbrev pub job_of_form : Form → (value : List ℕ → Option (List ℕ)) → Option Job
job_of_form form.Matrix value = matrix_job (value (codes "LIST")) (value (codes "OUT"))
job_of_form form.Generate value = generate_job (value (codes "FABRIC")) (value (codes "OUT"))
job_of_form form.Assemble value = assemble_job (value (codes "FABRIC")) (value (codes "BLIF")) (value (codes "IMPL")) (value (codes "BASE"))
    (value (codes "pcf"))
job_of_form form.Map value =
    map_job (value (codes "FABRIC")) (value (codes "BLIF")) (value (codes "OUT")) (value (codes "pcf")) (seed_of (value (codes "seed")))
    (rounds_of (value (codes "rounds")))
job_of_form form.Flow value =
    flow_job (value (codes "FABRIC")) (value (codes "BLIF")) (value (codes "BASE")) (value (codes "pcf")) (seed_of (value (codes "seed")))
    (rounds_of (value (codes "rounds"))) (reset_of (value (codes "reset")))
job_of_form form.Bits value = bits_job (value (codes "FABRIC")) (value (codes "FASM")) (value (codes "OUT"))
job_of_form form.Features value = features_job (value (codes "FABRIC")) (value (codes "BIT")) (value (codes "OUT"))
job_of_form form.Simulate value =
    simulate_job (value (codes "VERILOG")) (value (codes "BIT")) (value (codes "STATE")) (value (codes "STIM")) (value (codes "TRACE"))
    (order_of (value (codes "order")))
job_of_form form.Partial value =
    partial_job (value (codes "FABRIC")) (value (codes "IMPL")) (value (codes "FASM")) (option_and_then column_of (value (codes "FIRST")))
    (option_and_then column_of (value (codes "LAST"))) (value (codes "OUT"))
job_of_form form.Timing value = timing_job (value (codes "FABRIC")) (value (codes "BLIF")) (value (codes "IMPL")) (value (codes "OUT")) (value (codes "pcf"))
job_of_form form.Serial value = serial_job (value (codes "FABRIC")) (value (codes "OUT"))
job_of_form form.Sample value = sample_job (option_and_then size_of (value (codes "N"))) (option_and_then any_number (value (codes "SEED")))

-- ---- the words

-- the job of a form with the words of a line
abbrev pub job_in : (words : List (List ℕ)) → Form → Option Job
job_in words known = option_and_then (λ values. job_of_form known (λ name. value_of name values)) (values_in (synopsis known) words)

-- The job that words spell, the first of which is the command; words that spell none are no form.
abbrev pub job_of : List (List ℕ) → Option Job
job_of [] = None
job_of (command ∷ words) = option_and_then (job_in (command ∷ words)) (form_of command)

-- what is needed of a job: its file names are text, rounds are from 1 to 64, columns are below 32 and the first is not above the last, and the size of a
-- sample is from 2 to 16
abbrev pub IsText : Job → Type 0
IsText (Matrix list out) = IsUtf8 list × IsUtf8 out
IsText (Generate fabric out) = IsUtf8 fabric × IsUtf8 out
IsText (Assemble fabric blif pcf implementation base) = IsUtf8 fabric × IsUtf8 blif × ForSome pcf IsUtf8 × IsUtf8 implementation × IsUtf8 base
IsText (Map fabric blif pcf seed rounds out) = IsUtf8 fabric × IsUtf8 blif × ForSome pcf IsUtf8 × IsUtf8 out × (1 ≤ rounds) × (rounds ≤ 64)
IsText (Flow fabric blif pcf seed rounds reset base) = IsUtf8 fabric × IsUtf8 blif × ForSome pcf IsUtf8 × IsUtf8 base × (1 ≤ rounds) × (rounds ≤ 64)
IsText (Bits fabric fasm out) = IsUtf8 fabric × IsUtf8 fasm × IsUtf8 out
IsText (Features fabric bit out) = IsUtf8 fabric × IsUtf8 bit × IsUtf8 out
IsText (Simulate verilog bit state stimulus order trace) = IsUtf8 verilog × IsUtf8 bit × IsUtf8 state × IsUtf8 stimulus × IsUtf8 trace
IsText (Partial fabric implementation fasm first last out) =
    IsUtf8 fabric × IsUtf8 implementation × IsUtf8 fasm × IsUtf8 out × (first ≤ last) × (last < 32)
IsText (Timing fabric blif pcf implementation out) = IsUtf8 fabric × IsUtf8 blif × ForSome pcf IsUtf8 × IsUtf8 implementation × IsUtf8 out
IsText (Serial fabric out) = IsUtf8 fabric × IsUtf8 out
IsText (Sample size seed) = (2 ≤ size) × (size ≤ 16)
