-- The lines of the events of a line, and its totals (profile).
use Rattle.std.specs.Prelude.{ℕ, List, ◌++◌, codes, if◌then◌else◌, Result, Ok, Err, Option, Some, None}
use Rattle.uecp_elements.specs.Codes.{byte_of}
use Rattle.uecp_link.specs.declared.stepped.Stepped.{Stepped}
use Rattle.uecp_link.specs.declared.stepped.Stepped.TheVariants.{Numbered, Delivered, NotNext, Acknowledged, Stray}
use Rattle.uecp_link.specs.declared.stepped.Stepped.TheVariants.{Noise, Lost, Restarted, Taken}
use Rattle.uecp_link.specs.declared.refusal.LineRefusal.{LineRefusal}
use Rattle.uecp_link.specs.Refusal.{number_of, name_of}
use Rattle.rds_store.specs.declared.group.Group.{Group}
use Rattle.uecp_lines.specs.StoreLines.{group_words}
use Rattle.uecp_text.specs.Digits.{byte_word, counted}

-- The group that a take gave, or a hyphen where there was none.
abbrev pub taken_words : Option Group → List ℕ
taken_words None = codes " -"
taken_words (Some group) = group_words group

-- What is said of a step, where the event named the message `named`; a refusal by its number and name.
abbrev pub step_words : Result Stepped LineRefusal → (named : ℕ) → List ℕ
step_words (Ok (Numbered number)) named = counted (codes "numbered") number
step_words (Ok (Delivered fresh code)) named = counted (codes "delivered") named
    ++ (if fresh then codes " new" else codes " kept") ++ byte_word (byte_of code)
step_words (Ok NotNext) named = counted (codes "not next") named
step_words (Ok (Acknowledged code)) named = codes "acknowledged" ++ byte_word (byte_of code)
step_words (Ok Stray) named = codes "stray"
step_words (Ok (Noise dropped)) named = counted (codes "noise") dropped
step_words (Ok Lost) named = codes "lost"
step_words (Ok Restarted) named = codes "restarted"
step_words (Ok (Taken group)) named = codes "taken" ++ taken_words group
step_words (Err refusal) named = counted (codes "refused") (number_of refusal) ++ codes " " ++ name_of refusal

-- What is said where the server was started again: how many messages were given up.
abbrev pub given_up_line : ℕ → List ℕ
given_up_line given_up = counted (codes "given up") given_up ++ codes "\n"

-- The last line: how many messages were sent and applied, and below which number all are acknowledged.
abbrev pub totals_line : (sent applied acknowledged : ℕ) → List ℕ
totals_line sent applied acknowledged =
    counted (codes "sent") sent ++ counted (codes " applied") applied ++ counted (codes " acknowledged") acknowledged
    ++ codes "\n"
