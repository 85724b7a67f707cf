use Rattle.std.proofs.Common.{◌≢◌, ℕ, ◌≤◌, List, [], length, rules}
use Rattle.phrase_tokens.specs.View.{tokens_of}
use Rattle.uecp_phrases.specs.Lines.{AddsBytes}
use Rattle.uecp_phrases.specs.Expecting.{IsUnread}
use Rattle.uecp_phrases.proofs.Alone.{no_tokens}
use Rattle.uecp_phrases.proofs.Faulting.{added_none}
use Rattle.uecp_phrases.proofs.Stopping.{if_err}
use Rattle.uecp_phrases.proofs.line.added_by.Goals as goal

pub returns-clause-none : goal.returns-clause-none
returns-clause-none c =
    let some : tokens_of c.args.tokens.now ≢ [] = λ e. let none = no_tokens c.args.tokens.now e in search rules in
    if_err c.phrase_read.result (λ stop. IsUnread c.args.region (tokens_of c.args.tokens.now) stop.what stop.left)
    (λ _. (bytes : List ℕ) → AddsBytes c.args.region (tokens_of c.args.tokens.now) bytes → length bytes ≤ 255 → ⊥)
    (λ stop unread. added_none c.args.region (tokens_of c.args.tokens.now) stop.what stop.left some unread)
    c.phrase_read.ensures.err
