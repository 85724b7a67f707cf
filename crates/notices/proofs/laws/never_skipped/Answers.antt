use Rattle.std.proofs.Common.{◌≡◌, ◌++◌, [], sym, ◌∙◌, subst}
use Rattle.std.specs.Io.KnownBytes.{Appends}
use Rattle.std.proofs.lemmas.List.{append-nil, append_cancel_left}
use Rattle.notices.proofs.laws.never_skipped.Goals as goal

pub returns : goal.returns
returns c = λ told bytes held whole is said.
    let same : held ≡ held ++ bytes = subst (λ h. Appends h h bytes) is (said.whole whole).1 in
    append_cancel_left held bytes [] (sym same ∙ sym (append-nil held))
