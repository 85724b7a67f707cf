-- What there is to say, in each form (profile).
use Rattle.std.specs.Prelude.{ℕ, Bool, List, [], ◌++◌, codes, if◌then◌else◌, Result}
use Rattle.uecp_frame.specs.Findings.{Finding}
use Rattle.uecp_encoder.specs.Answering.{Response}
use Rattle.uecp_link.specs.declared.stepped.Stepped.{Stepped}
use Rattle.uecp_link.specs.declared.refusal.LineRefusal.{LineRefusal}
use Rattle.rds_store.specs.Value.{Store}
use Rattle.uecp_lines.specs.Lines.{finding_lines, response_line}
use Rattle.uecp_lines.specs.Steps.{step_words, given_up_line, totals_line}
use Rattle.uecp_lines.specs.StoreLines.{store_lines as plain_lines}
use Rattle.phrase_scripts.specs.Lines.{finding_lines as phrase_lines}
use Rattle.store_phrases.specs.Said.{said_lines}
use Rattle.uecp_json.specs.Findings as findings
use Rattle.uecp_json.specs.Steps as steps
use Rattle.uecp_json.specs.Stores as stores
use Rattle.output_forms.specs.declared.form.Form.{Form}
use Rattle.output_forms.specs.declared.form.Form.TheVariants.{Lines, Words, Json}

-- Behind `#` a phrase script passes over it.
abbrev pub remark : (line : List ℕ) → List ℕ
remark line = codes "# " ++ line

-- The lines of a finding.
abbrev pub found_lines : Form → (Finding → List ℕ)
found_lines Lines = finding_lines
found_lines (Words region) = phrase_lines region
found_lines Json = findings.finding_line

-- The line of a response behind `#`.
abbrev pub remark_line : Response → List ℕ
remark_line response = remark (response_line response)

-- The line of a response: in words it is no phrase.
abbrev pub answer_lines : Form → (Response → List ℕ)
answer_lines Lines = response_line
answer_lines (Words region) = remark_line
answer_lines Json = findings.response_line

-- The line of what came of an event, in words no phrase.
abbrev pub step_lines : Form → Result Stepped LineRefusal → (named : ℕ) → List ℕ
step_lines Lines step named = step_words step named ++ codes "\n"
step_lines (Words region) step named = remark (step_words step named ++ codes "\n")
step_lines Json step named = steps.step_line step named

-- The line of a server that was started again.
abbrev pub given_up_lines : Form → ℕ → List ℕ
given_up_lines Lines given_up = given_up_line given_up
given_up_lines (Words region) given_up = remark (given_up_line given_up)
given_up_lines Json given_up = steps.given_up_line given_up

-- The line of the totals.
abbrev pub totals_lines : Form → (sent applied acknowledged : ℕ) → List ℕ
totals_lines Lines sent applied acknowledged = totals_line sent applied acknowledged
totals_lines (Words region) sent applied acknowledged = remark (totals_line sent applied acknowledged)
totals_lines Json sent applied acknowledged = steps.totals_line sent applied acknowledged

-- The lines of a store.
abbrev pub all_of_store : Form → Store → List ℕ
all_of_store Lines store = plain_lines store
all_of_store (Words region) store = said_lines region store
all_of_store Json store = stores.store_lines store

-- The lines of a store, where they are asked for.
abbrev pub store_lines : Form → (asked : Bool) → Store → List ℕ
store_lines form asked store = if asked then all_of_store form store else []
