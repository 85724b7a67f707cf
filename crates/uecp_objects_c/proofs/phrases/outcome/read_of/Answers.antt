use Rattle.std.proofs.Common.{ℕ, List, rules}
use Rattle.std.proofs.lemmas.Result.{IfOk-weaker}
use Rattle.rds_text.specs.declared.programme_type.Region.{Region}
use Rattle.phrase_tokens.specs.Tokens.{Token, Lays}
use Rattle.phrase_tokens.specs.View.{tokens_of}
use Rattle.uecp_objects_c.specs.declared.phrases.outcome.Outcome.{Outcome}
use Rattle.uecp_objects_c.specs.declared.phrases.outcome.Outcome.TheVariants.{Message, NoText, Unread, Unsaid}
use Rattle.uecp_objects_c.specs.declared.phrases.outcome.Outcome.TheVariants.{OutOfMemory}
use Rattle.uecp_objects_c.specs.Outcomes.{TokensSay, CharactersSay}
use Rattle.uecp_objects_c.proofs.phrases.outcome.read_of.Goals as goal

-- what tokens say that stand in a text, the text says
of_tokens : (region : Region) (text : List ℕ) (tokens : List Token) → Lays tokens text → (outcome : Outcome)
    → TokensSay region text tokens outcome → CharactersSay region text outcome
of_tokens region text tokens lays (Message message) says = (tokens, lays, says)
of_tokens region text tokens lays (Unsaid column what nearest) says = (tokens, lays, says)
of_tokens region text tokens lays (NoText column) says = absurd says
of_tokens region text tokens lays (Unread column reason) says = absurd says
of_tokens region text tokens lays OutOfMemory says = absurd says

pub returns-in-Ok : goal.returns-in-Ok
returns-in-Ok c = IfOk-weaker c.told_of.result _ _
    (of_tokens c.args.region c.args.characters.now (tokens_of c.as_slice.result.now) (search rules)) c.told_of.ensures
