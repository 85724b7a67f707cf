-- Jobs by the runs of their commands.
use Rattle.std.proofs.Common.{◌≡◌, ◌⊎◌, ℕ, ◌∷◌, List, [], Option, None, Some, Result, Err, refl, sym, ap, subst}
use Rattle.std.proofs.Common.{◌∙◌, inl, inr, arith}
use Rattle.std.specs.Io.KnownBytes.{Consumes}
use Rattle.std.proofs.KnownBytes.{Consumes-nil}
use Rattle.rds_store.specs.declared.fault.StoreFault.TheVariants as store
use Rattle.uecp_frame.specs.Findings.{Closed}
use Rattle.uecp_text.specs.declared.run_fault.RunFault.{RunFault}
use Rattle.uecp_text.specs.declared.run_fault.RunFault.TheVariants as run
use Rattle.uecp_text.specs.Faults.{Fails, status_of}
use Rattle.uecp_text.specs.Input.{texts_of}
use Rattle.uecp_text.specs.Run.{Meaning, Ends, Runs, Prints, Breaks, RunsWhole}
use Rattle.rds_text.specs.declared.programme_type.Region.{Region}
use Rattle.uecp_jobs.specs.declared.answering.Answering.{Answering}
use Rattle.uecp_jobs.specs.declared.asked.Asked.{Asked}
use Rattle.uecp_jobs.specs.declared.phrase_script.MakingWords.{MakingWords}
use Rattle.uecp_jobs.specs.declared.event_script.Playing.{Playing}
use Rattle.uecp_jobs.specs.declared.frame_script.Making.{Making}
use Rattle.uecp_jobs.specs.declared.showing.Showing.{Showing}
use Rattle.commands.specs.declared.job.Job.{Job}
use Rattle.commands.specs.declared.job.Job.TheVariants.{AnswerWith, ShowWith, MakeWith, LineWith, EncoderWith}
use Rattle.commands.specs.declared.job.Job.TheVariants.{ServerWith}
use Rattle.commands.specs.Jobs.{in_full}
use Rattle.output_forms.specs.declared.form.Form.{Form}
use Rattle.uecp_jobs.specs.Commands.{ShowsIn, AnswersIn}
use Rattle.output_forms.specs.Forms.{found_lines, answer_lines, store_lines}
use Rattle.uecp_jobs.specs.PhraseScript.{MakesWords, first_heading, left_line}
use Rattle.uecp_jobs.specs.FrameScript.{Makes, spelled_line}
use Rattle.uecp_jobs.specs.Playing.{PlaysIn, closing_lines}
use Rattle.uecp_jobs.specs.Setups.{Options, RefusesSetup, encoder_at_first, line_at_first}
use Rattle.uecp_jobs.specs.Jobs.{options, IsLocal, IsLocalFull, ByScript, ByFull, ByCommand, JobPrints, JobBreaks}
use Rattle.uecp_jobs.specs.Jobs.{RefusesFull, RefusesJob, DoesJob, RunsScript, Wrote}
use Rattle.uecp_jobs.proofs.Parts.{whole_part}

-- what is told of a meaning, a value, and closing lines
abbrev Tells : Type 1
Tells = (V : Type 0) → Meaning V → (start : V) → (closing : V → List ℕ) → Type 0

-- a job whose command ran
pub does_by : {V : Type 0} (job : Job) (meaning : Meaning V) (v : V) (closing : V → List ℕ)
    (unread unread' held held' : Option (List ℕ)) (result : Result (Unit {0}) RunFault) →
    RunsWhole meaning v closing unread unread' held held' result
    → ((tells : Tells) → tells V meaning v closing → ByCommand job tells)
    → DoesJob job unread unread' held held' result
does_by job meaning v closing unread unread' held held' result ran by = elim ran [
  | inl (fault, is, breaks) ↦ inl
      (fault, is, by (λ V meaning start closing. Breaks meaning start closing unread unread' held held' fault) breaks)
  | inr (input, written, is_input, prints, appends) ↦ inr (
    input,
    written,
    is_input,
    by (λ V meaning start closing. Prints meaning start closing input result written)
        prints,
    appends,
  )
]

-- a script of either words that ran
pub script_does : (job : Job) (words : Option Region) (unread unread' held held' : Option (List ℕ))
    (result : Result (Unit {0}) RunFault) → RunsScript words unread unread' held held' result
    → ((tells : Tells) → ByScript words tells → ByCommand job tells)
    → DoesJob job unread unread' held held' result
script_does job None unread unread' held held' result ran by =
    does_by job Makes None spelled_line unread unread' held held' result ran by
script_does job (Some region) unread unread' held held' result ran by =
    does_by job (MakesWords region) first_heading left_line unread unread' held held' result ran by

-- a job whose encoder was refused, or whose command ran
pub refused_or_does : {V : Type 0} (job : Job) (o : Options) (meaning : Meaning V) (v : V) (closing : V → List ℕ)
    (unread unread' held held' : Option (List ℕ)) (unmoved unwritten : Type 0) (result : Result (Unit {0}) RunFault) →
    ((fault : RunFault) → RefusesSetup o fault → RefusesJob job fault)
    → ((fault : RunFault) × (result ≡ Err fault) × RefusesSetup o fault × unmoved × unwritten)
    ⊎ RunsWhole meaning v closing unread unread' held held' result
    → ((tells : Tells) → tells V meaning v closing → ByCommand job tells)
    → ((fault : RunFault) × (result ≡ Err fault) × RefusesJob job fault × unmoved × unwritten)
    ⊎ DoesJob job unread unread' held held' result
refused_or_does job o meaning v closing unread unread' held held' unmoved unwritten result refuses did by = elim did [
  | inl (fault, same, refused, stays, kept) ↦ inl (fault, same, refuses fault refused, stays, kept)
  | inr ran ↦ inr (does_by job meaning v closing unread unread' held held' result ran by)
]

-- ---- each command
pub showed_in : (form : Form) (s : Showing) (unread unread' held held' : Option (List ℕ))
    (result : Result (Unit {0}) RunFault) → (s.deframer ≡ Closed) × (s.form ≡ form) →
    RunsWhole (λ (s : Showing) text outcome (s' : Showing).
    ShowsIn (found_lines s.form) s.deframer text outcome s'.deframer
    × (s'.form ≡ s.form)) s (λ _. []) unread unread' held held' result →
    RunsWhole (ShowsIn (found_lines form)) Closed (λ part. []) unread unread' held held' result
showed_in form s unread unread' held held' result (closed, in_form) ran =
    subst (λ f. RunsWhole (ShowsIn (found_lines f)) Closed (λ part. []) unread unread' held held' result) in_form
    (subst (λ part. RunsWhole (ShowsIn (found_lines s.form)) part (λ part. []) unread unread' held held' result) closed
    (whole_part (λ (s : Showing) text outcome (s' : Showing). ShowsIn (found_lines s.form) s.deframer text outcome
    s'.deframer × (s'.form ≡ s.form)) (λ f. ShowsIn (found_lines f))
    (λ (s : Showing). s.deframer) (λ (s : Showing). s.form) (λ v text outcome v' m. m)
    s (λ _. []) (λ _ part. []) unread unread' held held' result (λ v'. refl) ran))

pub made : (m : Making) (unread unread' held held' : Option (List ℕ)) (result : Result (Unit {0}) RunFault)
    → m.frame ≡ None →
    RunsWhole (λ (m : Making) text outcome (m' : Making). Makes m.frame text outcome m'.frame) m
    (λ (m : Making). spelled_line m.frame) unread unread' held held' result →
    RunsWhole Makes None spelled_line unread unread' held held' result
made m unread unread' held held' result none ran =
    subst (λ frame. RunsWhole Makes frame spelled_line unread unread' held held' result) none
    (whole_part {F = ℕ} (λ (m : Making) text outcome (m' : Making). Makes m.frame text outcome m'.frame) (λ _. Makes)
    (λ (m : Making). m.frame) (λ _. 0) (λ v text outcome v' m. (m, refl))
    m (λ (m : Making). spelled_line m.frame) (λ _ frame. spelled_line frame) unread unread' held held' result
    (λ v'. refl) ran)

pub made_of_words : (region : Region) (m : MakingWords) (unread unread' held held' : Option (List ℕ))
    (result : Result (Unit {0}) RunFault) → (m.region ≡ region) × (m.heading ≡ first_heading) →
    RunsWhole (λ (m : MakingWords) text outcome (m' : MakingWords).
    MakesWords m.region m.heading text outcome m'.heading
    × (m'.region ≡ m.region)) m (λ (m : MakingWords). left_line m.heading) unread unread' held held' result →
    RunsWhole (MakesWords region) first_heading left_line unread unread' held held' result
made_of_words region m unread unread' held held' result (in_region, at_first) ran =
    subst (λ r. RunsWhole (MakesWords r) first_heading left_line unread unread' held held' result) in_region
    (subst (λ h. RunsWhole (MakesWords m.region) h left_line unread unread' held held' result) at_first
    (whole_part (λ (m : MakingWords) text outcome (m' : MakingWords). MakesWords m.region m.heading text outcome
    m'.heading × (m'.region ≡ m.region)) MakesWords (λ (m : MakingWords). m.heading)
    (λ (m : MakingWords). m.region) (λ v text outcome v' m. m) m (λ (m : MakingWords). left_line m.heading)
    (λ _ h. left_line h) unread unread' held held' result (λ v'. refl) ran))

pub answered : (o : Options) (asked : Asked) (a : Answering) (unread unread' held held' : Option (List ℕ))
    (result : Result (Unit {0}) RunFault) →
    (a.encoder ≡ encoder_at_first o) × (a.asked ≡ asked) →
    RunsWhole (λ (a : Answering) text outcome (a' : Answering). AnswersIn (answer_lines a.asked.form) a.encoder text
    outcome a'.encoder × (a'.asked ≡ a.asked)) a
    (λ (a : Answering). store_lines a.asked.form a.asked.store a.encoder.value)
    unread unread' held held' result →
    RunsWhole (AnswersIn (answer_lines asked.form)) (encoder_at_first o)
    (λ e. store_lines asked.form asked.store e.value) unread unread' held held' result
answered o asked a unread unread' held held' result (encoder, as_asked) ran =
    subst (λ k. RunsWhole (AnswersIn (answer_lines k.form)) (encoder_at_first o)
    (λ e. store_lines k.form k.store e.value) unread unread' held held' result) as_asked
    (subst (λ e. RunsWhole (AnswersIn (answer_lines a.asked.form)) e
    (λ e. store_lines a.asked.form a.asked.store e.value) unread unread' held held' result) encoder
    (whole_part (λ (a : Answering) text outcome (a' : Answering). AnswersIn (answer_lines a.asked.form) a.encoder text
    outcome a'.encoder × (a'.asked ≡ a.asked)) (λ (k : Asked). AnswersIn (answer_lines k.form))
    (λ (a : Answering). a.encoder) (λ (a : Answering). a.asked) (λ v text outcome v' m. m) a
    (λ (a : Answering). store_lines a.asked.form a.asked.store a.encoder.value)
    (λ (k : Asked) e. store_lines k.form k.store e.value)
    unread unread' held held' result (λ v'. refl) ran))

pub played : (o : Options) (asked : Asked) (p : Playing) (unread unread' held held' : Option (List ℕ))
    (result : Result (Unit {0}) RunFault) →
    (p.line ≡ line_at_first o) × (p.asked ≡ asked) →
    RunsWhole (λ (p : Playing) text outcome (p' : Playing). PlaysIn p.asked.form p.line text outcome p'.line
    × (p'.asked ≡ p.asked)) p (λ (p : Playing). closing_lines p.asked.form p.asked.store p.line)
    unread unread' held held' result →
    RunsWhole (PlaysIn asked.form) (line_at_first o) (closing_lines asked.form asked.store)
    unread unread' held held' result
played o asked p unread unread' held held' result (line, as_asked) ran =
    subst (λ (k : Asked). RunsWhole (PlaysIn k.form) (line_at_first o) (closing_lines k.form k.store)
    unread unread' held held' result) as_asked
    (subst (λ l. RunsWhole (PlaysIn p.asked.form) l (closing_lines p.asked.form p.asked.store)
    unread unread' held held' result) line
    (whole_part (λ (p : Playing) text outcome (p' : Playing). PlaysIn p.asked.form p.line text outcome p'.line
    × (p'.asked ≡ p.asked)) (λ (k : Asked). PlaysIn k.form) (λ (p : Playing). p.line) (λ (p : Playing). p.asked)
    (λ v text outcome v' m. m) p (λ (p : Playing). closing_lines p.asked.form p.asked.store p.line)
    (λ (k : Asked). closing_lines k.form k.store) unread unread' held held' result (λ v'. refl) ran))

-- ---- by the status of what stopped a job
pub not_failed : (fault : RunFault) (status : ℕ) → Fails fault → status_of fault ≡ status → status ≡ 3
not_failed run.TooLong status f is = sym is
not_failed run.Reading status f is = sym is
not_failed run.Writing status f is = sym is
not_failed run.OutOfMemory status f is = sym is
not_failed (run.Text number refusal) status f is = absurd f
not_failed (run.Services refusal) status f is = absurd f
not_failed run.NotAList status f is = absurd f
not_failed run.Address status f is = absurd f
not_failed run.Listening status f is = absurd f
not_failed run.Connection status f is = absurd f
not_failed run.Outstanding status f is = absurd f

-- what a job failed for
pub breaks_fails : {V : Type 0} (meaning : Meaning V) (start : V) (closing : V → List ℕ)
    (unread unread' held held' : Option (List ℕ)) (fault : RunFault)
    → Breaks meaning start closing unread unread' held held' fault → Fails fault
breaks_fails meaning start closing unread unread' held held' run.TooLong breaks = tt
breaks_fails meaning start closing unread unread' held held' run.Reading breaks = tt
breaks_fails meaning start closing unread unread' held held' run.Writing breaks = tt
breaks_fails meaning start closing unread unread' held held' run.OutOfMemory breaks = tt
breaks_fails meaning start closing unread unread' held held' fault breaks =
    elim breaks [ inl ((read, consumed, stops), same) ↦ absurd stops | inr (input, is_input, some) ↦ absurd some ]

-- what follows from what is told of any meaning
from_script : (words : Option Region) (tells : Tells) (P : Type 0)
    → ((V : Type 0) (meaning : Meaning V) (start : V) (closing : V → List ℕ) → tells V meaning start closing → P)
    → ByScript words tells → P
from_script None tells P follows told = follows _ _ _ _ told
from_script (Some region) tells P follows told = follows _ _ _ _ told

from_full : (full : Job) (tells : Tells) (P : Type 0)
    → ((V : Type 0) (meaning : Meaning V) (start : V) (closing : V → List ℕ) → tells V meaning start closing → P)
    → ByFull full tells → P
from_full (ShowWith job) tells P follows told = follows _ _ _ _ told
from_full (MakeWith job) tells P follows told = from_script job.words tells P follows told
from_full (AnswerWith job) tells P follows told = follows _ _ _ _ told
from_full (LineWith job) tells P follows told = follows _ _ _ _ told
from_full full tells P follows told = absurd told

pub job_breaks_fails : (job : Job) (unread unread' held held' : Option (List ℕ)) (fault : RunFault)
    → JobBreaks job unread unread' held held' fault → Fails fault
job_breaks_fails job unread unread' held held' fault breaks =
    from_full (in_full job) (λ V meaning start closing. Breaks meaning start closing unread unread' held held' fault)
    (Fails fault) (λ V meaning start closing. breaks_fails meaning start closing unread unread' held held' fault)
    breaks

-- what is told of every meaning
of_script : (words : Option Region) (tells : Tells)
    → ((V : Type 0) (meaning : Meaning V) (start : V) (closing : V → List ℕ) → tells V meaning start closing)
    → ByScript words tells
of_script None tells told = told _ _ _ _
of_script (Some region) tells told = told _ _ _ _

of_local : (full : Job) → IsLocalFull full → (tells : Tells)
    → ((V : Type 0) (meaning : Meaning V) (start : V) (closing : V → List ℕ) → tells V meaning start closing)
    → ByFull full tells
of_local (ShowWith job) local tells told = told _ _ _ _
of_local (MakeWith job) local tells told = of_script job.words tells told
of_local (AnswerWith job) local tells told = told _ _ _ _
of_local (LineWith job) local tells told = told _ _ _ _
of_local full local tells told = absurd local

-- a text that stops a run has status 1 or 3
stop_status : {V : Type 0} (meaning : Meaning V) (v v' : V) (texts : List (ℕ × List ℕ)) (lines : List ℕ)
    (fault : RunFault) → Runs meaning v texts lines (Some fault) v' → status_of fault ≡ 2 → ⊥
stop_status meaning v v' [] lines fault (lines_are, stop, same) is = let none : Some fault ≡ None = stop in cc
stop_status meaning v v' ((number, text) ∷ texts) lines fault ran is = elim ran [
  | inl taken ↦ stop_status meaning taken.2 v' texts taken.1 fault taken.5 is
  | inr (inl (refusal, refused, none, stop)) ↦
      let same : fault ≡ run.Text number refusal = let e : Some fault ≡ Some (run.Text number refusal) = stop in cc in
      let two : 1 ≡ 2 = sym (ap status_of same) ∙ is in omega (arith, two)
  | inr (inr (ended, stop)) ↦
      let same : fault ≡ run.Outstanding = let e : Some fault ≡ Some run.Outstanding = stop in cc in
      let two : 3 ≡ 2 = sym (ap status_of same) ∙ is in omega (arith, two)
]

prints_status : (job : Job) (input written : List ℕ) (fault : RunFault) → JobPrints job input (Err fault) written
    → status_of fault ≡ 2 → ⊥
prints_status job input written fault prints is =
    from_full (in_full job) (λ V meaning start closing. Prints meaning start closing input (Err fault) written) ⊥
    (λ V meaning start closing (v', ran). stop_status meaning start v' (texts_of input) written fault ran is) prints

-- where no text ends a run, one that a text stops has status 1
no_end : {V : Type 0} (meaning : Meaning V) (never : (v : V) (text lines : List ℕ) (v' : V)
    → meaning v text (Ends lines) v' → ⊥) (v v' : V) (texts : List (ℕ × List ℕ)) (lines : List ℕ) (fault : RunFault) →
    Runs meaning v texts lines (Some fault) v' → status_of fault ≡ 3 → ⊥
no_end meaning never v v' [] lines fault (lines_are, stop, same) is = let none : Some fault ≡ None = stop in cc
no_end meaning never v v' ((number, text) ∷ texts) lines fault ran is = elim ran [
  | inl taken ↦ no_end meaning never taken.2 v' texts taken.1 fault taken.5 is
  | inr (inl (refusal, refused, none, stop)) ↦
      let same : fault ≡ run.Text number refusal = let e : Some fault ≡ Some (run.Text number refusal) = stop in cc in
      let two : 1 ≡ 3 = sym (ap status_of same) ∙ is in omega (arith, two)
  | inr (inr (ended, stop)) ↦ never v text lines v' ended
]

script_status : (words : Option Region) (input written : List ℕ) (fault : RunFault)
    → ByScript words (λ V meaning start closing. Prints meaning start closing input (Err fault) written)
    → status_of fault ≡ 3 → ⊥
script_status None input written fault (v', ran) is =
    no_end Makes (λ v text lines v' ended. ended) _ v' (texts_of input) written fault ran is
script_status (Some region) input written fault (v', ran) is =
    no_end (MakesWords region) (λ v text lines v' ended. ended) _ v' (texts_of input) written fault ran is

full_status : (full : Job) (input written : List ℕ) (fault : RunFault)
    → ByFull full (λ V meaning start closing. Prints meaning start closing input (Err fault) written)
    → status_of fault ≡ 3 → ⊥
full_status (ShowWith job) input written fault (v', ran) is =
    no_end (ShowsIn (found_lines job.form)) (λ v text lines v' ended. ended) _ v' (texts_of input) written fault ran is
full_status (MakeWith job) input written fault prints is = script_status job.words input written fault prints is
full_status (AnswerWith job) input written fault (v', ran) is =
    no_end (AnswersIn (answer_lines job.form)) (λ v text lines v' ended. ended) _ v' (texts_of input) written fault ran
    is
full_status (LineWith job) input written fault (v', ran) is =
    no_end (PlaysIn job.form) (λ v text lines v' ended. ended) _ v' (texts_of input) written fault ran is
full_status full input written fault prints is = absurd prints

local_status : (job : Job) → IsLocal job → (input written : List ℕ) (fault : RunFault)
    → JobPrints job input (Err fault) written → status_of fault ≡ 3 → ⊥
local_status job local input written fault prints is = full_status (in_full job) input written fault prints is

-- a refusal of status 3 is want of memory
pub setup_wants : (o : Options) (fault : RunFault) → RefusesSetup o fault → status_of fault ≡ 3
    → fault ≡ run.OutOfMemory
setup_wants o fault (inl (store.OutOfMemory, refused, says)) is = says
setup_wants o fault (inl (store.SetCount, refused, says)) is =
    absurd (let two : 2 ≡ 3 = sym (ap status_of says) ∙ is in omega (arith, two))
setup_wants o fault (inl (store.ServiceCount, refused, says)) is =
    absurd (let two : 2 ≡ 3 = sym (ap status_of says) ∙ is in omega (arith, two))
setup_wants o fault (inl (store.ServiceZero, refused, says)) is =
    absurd (let two : 2 ≡ 3 = sym (ap status_of says) ∙ is in omega (arith, two))
setup_wants o fault (inl (store.ServiceTwice, refused, says)) is =
    absurd (let two : 2 ≡ 3 = sym (ap status_of says) ∙ is in omega (arith, two))
setup_wants o fault (inr (address, none, apart)) is =
    absurd (let two : 2 ≡ 3 = sym (ap status_of address) ∙ is in omega (arith, two))

full_wants : (full : Job) → IsLocalFull full → (fault : RunFault) → RefusesFull full fault → status_of fault ≡ 3
    → fault ≡ run.OutOfMemory
full_wants (ShowWith job) local fault refused is = absurd refused
full_wants (MakeWith job) local fault refused is = absurd refused
full_wants (AnswerWith job) local fault refused is =
    setup_wants (options job.site job.encoder job.sets job.services.items) fault refused is
full_wants (LineWith job) local fault refused is =
    setup_wants (options job.site job.encoder job.sets job.services.items) fault refused is
full_wants full local fault refused is = absurd local

job_wants : (job : Job) → IsLocal job → (fault : RunFault) → RefusesJob job fault → status_of fault ≡ 3
    → fault ≡ run.OutOfMemory
job_wants job local fault refused is = full_wants (in_full job) local fault refused is

-- a job for which memory was wanting before anything was read
wants_first : (job : Job) → IsLocal job → (unread unread' held held' : Option (List ℕ)) → unread' ≡ unread
    → held' ≡ held → JobBreaks job unread unread' held held' run.OutOfMemory
wants_first job local unread unread' held held' unmoved unwritten =
    of_local (in_full job) local (λ V meaning start closing. Breaks meaning start closing unread unread' held held'
    run.OutOfMemory)
    (λ V meaning start closing. inl
    (([], subst (λ left. Consumes unread left []) (sym unmoved) (Consumes-nil unread), tt), unwritten))

pub says_status : (o : Options) (fault : RunFault) → RefusesSetup o fault → status_of fault ≡ 1 → ⊥
says_status o fault (inl (store.OutOfMemory, refused, says)) is = let two : 3 ≡ 1 = sym (ap status_of says) ∙ is in
    omega (arith, two)
says_status o fault (inl (store.SetCount, refused, says)) is = let two : 2 ≡ 1 = sym (ap status_of says) ∙ is in
    omega (arith, two)
says_status o fault (inl (store.ServiceCount, refused, says)) is = let two : 2 ≡ 1 = sym (ap status_of says) ∙ is in
    omega (arith, two)
says_status o fault (inl (store.ServiceZero, refused, says)) is = let two : 2 ≡ 1 = sym (ap status_of says) ∙ is in
    omega (arith, two)
says_status o fault (inl (store.ServiceTwice, refused, says)) is = let two : 2 ≡ 1 = sym (ap status_of says) ∙ is in
    omega (arith, two)
says_status o fault (inr (address, none, apart)) is = let two : 2 ≡ 1 = sym (ap status_of address) ∙ is in
    omega (arith, two)

full_refuses : (full : Job) (fault : RunFault) → RefusesFull full fault → status_of fault ≡ 1 → ⊥
full_refuses (AnswerWith job) fault refused is =
    says_status (options job.site job.encoder job.sets job.services.items) fault refused is
full_refuses (LineWith job) fault refused is =
    says_status (options job.site job.encoder job.sets job.services.items) fault refused is
full_refuses (EncoderWith job) fault refused is =
    says_status (options job.site job.encoder job.sets job.services.items) fault refused is
full_refuses (ServerWith job) fault refused is =
    let two : 2 ≡ 1 = sym (ap status_of refused.0) ∙ is in omega (arith, two)
full_refuses full fault refused is = refused

pub job_status : (job : Job) (fault : RunFault) → RefusesJob job fault → status_of fault ≡ 1 → ⊥
job_status job fault refused is = full_refuses (in_full job) fault refused is

-- a run that stopped for this
abbrev pub stopped : RunFault → Result (Unit {0}) RunFault
stopped fault = Err fault

pub same_fault : (a b : RunFault) → stopped a ≡ stopped b → a ≡ b
same_fault a b e = let same : Err a ≡ Err b = e in cc

module _ (job : Job) (unread unread' held held' : Option (List ℕ)) (unmoved unwritten : Type 0) (fault : RunFault)
    (does : ((f : RunFault) × (stopped fault ≡ stopped f) × RefusesJob job f × unmoved × unwritten)
    ⊎ DoesJob job unread unread' held held' (stopped fault)) where
  pub refused_by : status_of fault ≡ 1 → Wrote job unread unread' (Err fault) held held'
  refused_by is = elim does [
    | inl (f, same, refused, reader, writer) ↦ absurd
        (job_status job f refused (sym (ap status_of (same_fault fault f same)) ∙ is))
    | inr (inl (f, same, breaks)) ↦ absurd (let one : 1
        ≡ 3 = not_failed f 1 (job_breaks_fails job unread unread' held held' f breaks)
        (sym (ap status_of (same_fault fault f same)) ∙ is) in omega (arith, one))
    | inr (inr wrote) ↦ wrote
  ]

  pub undescribed_by : status_of fault ≡ 2 → RefusesJob job fault × unmoved × unwritten
  undescribed_by is = elim does [
    | inl (f, same, refused, reader, writer) ↦ (
      subst (RefusesJob job) (sym (same_fault fault f same)) refused,
      reader,
      writer,
    )
    | inr (inl (f, same, breaks)) ↦ absurd (let one : 2
        ≡ 3 = not_failed f 2 (job_breaks_fails job unread unread' held held' f breaks)
        (sym (ap status_of (same_fault fault f same)) ∙ is) in omega (arith, one))
    | inr (inr (input, written, is_input, prints, appends)) ↦ absurd (prints_status job input written fault prints is)
  ]

  pub failed_by : IsLocal job → (unmoved → unread' ≡ unread) → (unwritten → held' ≡ held) → status_of fault ≡ 3
      → JobBreaks job unread unread' held held' fault
  failed_by local stays kept is = elim does [
    | inl (f, same, refused, reader, writer) ↦
        (let same_as = same_fault fault f same in
        let wanting : fault ≡ run.OutOfMemory = same_as ∙ job_wants job local f refused
        (sym (ap status_of same_as) ∙ is) in
        subst (JobBreaks job unread unread' held held') (sym wanting)
        (wants_first job local unread unread' held held' (stays reader) (kept writer)))
    | inr (inl (f, same, breaks)) ↦ subst (JobBreaks job unread unread' held held') (sym (same_fault fault f same))
        breaks
    | inr (inr (input, written, is_input, prints, appends)) ↦ absurd
        (local_status job local input written fault prints is)
  ]
