-- The text of a message says it.
use Rattle.std.proofs.Common.{sym, subst}
use Rattle.phrase_tokens.specs.Tokens.{Lays}
use Rattle.phrase_tokens.proofs.Public.{read_back, through_utf8}
use Rattle.uecp_phrases.specs.Written.{line_of}
use Rattle.uecp_phrases.proofs.Public.{message_said, line_writable}
use Rattle.phrase_scripts.specs.Laws.{IsReadAsWritten}

pub read_as_written : IsReadAsWritten
read_as_written region message bytes few =
    let tokens = line_of region message in
    let all = line_writable region message bytes in
    let utf8 = through_utf8 tokens all in (
      utf8.0,
      (
        tokens,
        subst (Lays tokens) (sym utf8.1) (read_back tokens all),
        (message_said region message bytes, few),
      ),
    )
