-- How a run of the program ends by its words.
use Rattle.std.proofs.Common.{◌≡◌, ◌≢◌, ◌≤◌, ◌⊎◌, ◌∙◌, ℕ, zero, suc, List, arith, inl, inr, refl, subst, sym}
use Rattle.clap.specs.Faults.{fault_of}
use Rattle.clap.specs.Kinds.{IsAmong}
use Rattle.command_line.specs.declared.usage.Usage.{Usage}
use Rattle.command_line.specs.declared.usage.Usage.TheVariants.{Refused, NotAList, OutOfMemory}
use Rattle.clap.specs.Values.{kind_of}
use Rattle.clap.specs.declared.error.kind.ErrorKind.TheVariants.{DisplayHelp, DisplayVersion, InvalidValue}
use Rattle.commands.specs.declared.job.Job.{Job}
use Rattle.command_line.specs.CommandLine.{Asks, RefusesWords, uecp_app}
use Rattle.command_line.specs.Usages.{AskForText, AsksForText, SaysFailure, SaysMistake}
use Rattle.uecp_cli.specs.Program.{AskApart, HasNoJob, HasRefusedWords, IsApart}
use Rattle.notices.specs.Told.{Told}

pub mistaken_by : (words : List (List ℕ)) (usage : Usage) (told told' : Told) → RefusesWords words usage
    → SaysMistake usage told told' → HasRefusedWords words told told'
mistaken_by words (Refused error) told told' (inl refused) says = inl (kind_of error, refused, says.0, says.1)
mistaken_by words (Refused error) told told' (inr no_form) says = inr (inr (inl no_form.1))
mistaken_by words NotAList told told' refused says = inr (inl (refused, says))
mistaken_by words OutOfMemory told told' refused says = absurd says

-- words that were refused as a question for a text ask for one
pub asked_by : (words : List (List ℕ)) (usage : Usage) → RefusesWords words usage → AsksForText usage
    → AskForText words
asked_by words (Refused error) (inl refused) (inl is) =
    inl (subst (λ kind. IsAmong kind (fault_of uecp_app words)) is refused)
asked_by words (Refused error) (inl refused) (inr is) =
    inr (subst (λ kind. IsAmong kind (fault_of uecp_app words)) is refused)
asked_by words (Refused error) (inr no_form) (inl is) =
    absurd (let bad : InvalidValue ≡ DisplayHelp = sym no_form.0 ∙ is in cc)
asked_by words (Refused error) (inr no_form) (inr is) =
    absurd (let bad : InvalidValue ≡ DisplayVersion = sym no_form.0 ∙ is in cc)
asked_by words NotAList refused asks = absurd asks
asked_by words OutOfMemory refused asks = absurd asks

-- a status that is at most 3, and not 1
which : (status : ℕ) → status ≤ 3 → status ≢ 1 → (status ≡ 0) ⊎ ((status ≡ 2) ⊎ (status ≡ 3))
which zero few never = inl refl
which (suc zero) few never = absurd (never refl)
which (suc (suc zero)) few never = inr (inl refl)
which (suc (suc (suc zero))) few never = inr (inr refl)
which (suc (suc (suc (suc n)))) few never = absurd (omega (arith, few))

-- what is known of words that gave no job, whatever the status is
pub no_job_by : (words : List (List ℕ)) (usage : Usage) (told told' : Told) (status : ℕ) → RefusesWords words usage
    → (status ≤ 3) × (status ≢ 1) → (status ≡ 0 → AsksForText usage) → (status ≡ 2 → SaysMistake usage told told')
    → (status ≡ 3 → SaysFailure told told') → AskForText words ⊎ HasNoJob words told told'
no_job_by words usage told told' status refused few text mistaken failed = elim (which status few.0 few.1) [
  | inl zero_is ↦ inl (asked_by words usage refused (text zero_is))
  | inr (inl two) ↦ inr (inl (mistaken_by words usage told told' refused (mistaken two)))
  | inr (inr three) ↦ inr (inr (failed three))
]

-- what follows of a job of which what comes is told here, or is told apart
pub or_apart : {A B : Type 0} (words : List (List ℕ)) (job : Job) → Asks words job → (A → B) → IsApart job ⊎ A
    → AskApart words ⊎ B
or_apart words job asks follows (inl apart) = inl (job, asks, apart)
or_apart words job asks follows (inr so) = inr (follows so)
