-- What a line gives, by what its text gives.
use Rattle.std.proofs.Common.{◌≡◌, ◌⊎◌, true, List, ℕ, chars, ap, subst, inl, inr}
use Rattle.std.specs.Prelude.{Result, Ok, Err, IfOk, IfErr, IsUtf8}
use Rattle.std.specs.Str.{trim}
use Rattle.std.specs.Str.Lossy.{utf8_lossy}
use Rattle.uecp_text.specs.declared.text_fault.TextFault.{TextFault}
use Rattle.uecp_text.specs.declared.text_fault.TextFault.TheVariants.{OutOfMemory}
use Rattle.phrase_scripts.specs.Lines.{IsUnsaid}
use Rattle.titles.specs.declared.title.Titles.{Titles}
use Rattle.titles.specs.declared.title.Title.{Title}
use Rattle.titles.specs.Titles.{GivesTitle, IsRefused, IsTitleOf, RefusesText}

pub gives_title : (titles : Titles) (line text : List ℕ) (r : Result Title TextFault)
    → IsUtf8 line ⊎ (titles.fit ≡ true) → text ≡ trim (utf8_lossy line) → IfOk r (IsTitleOf titles (chars text))
    → IfOk r (GivesTitle titles line)
gives_title titles line text (Ok title) can is gives =
    (can, subst (λ t. IsTitleOf titles (chars t) title) is gives)
gives_title titles line text (Err fault) can is gives = tt

pub refuses_title : (titles : Titles) (line text : List ℕ) (r : Result Title TextFault)
    → text ≡ trim (utf8_lossy line)
    → IfErr r (λ fault. (fault ≡ OutOfMemory) ⊎ (IsUnsaid fault × RefusesText titles (chars text)))
    → IfErr r (λ fault. (fault ≡ OutOfMemory) ⊎ (IsUnsaid fault × IsRefused titles line))
refuses_title titles line text (Ok title) is refused = tt
refuses_title titles line text (Err fault) is (inl out) = inl out
refuses_title titles line text (Err fault) is (inr (unsaid, none)) =
    inr (unsaid, inr (subst (λ t. RefusesText titles (chars t)) is none))
