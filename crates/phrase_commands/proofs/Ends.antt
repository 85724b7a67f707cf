-- How a run over lines ends.
use Rattle.std.proofs.Common.{◌≡◌, ◌∙◌, ℕ, ◌+◌, List, [], ◌∷◌, ◌++◌, length, Option, Result, Ok, Err, ◌⊎◌}
use Rattle.std.proofs.Common.{refl, sym, ap, subst, inl, inr, arith, append-nil, IsTrue}
use Rattle.std.specs.Io.KnownBytes.{Appends}
use Rattle.uecp_text.specs.Faults.{Fails, error_lines, status_of}
use Rattle.uecp_text.specs.Input.{lines_of, without_end}
use Rattle.uecp_text.specs.Run.{IsInput, IsUnread, fault_at}
use Rattle.uecp_text.specs.Written.{Kept, Adds, Begins}
use Rattle.uecp_text.specs.declared.run_fault.RunFault.{RunFault}
use Rattle.uecp_text.specs.declared.run_fault.RunFault.TheVariants.{Text, Services, NotAList, Address, TooLong, Reading}
use Rattle.uecp_text.specs.declared.run_fault.RunFault.TheVariants.{Writing, OutOfMemory, Listening, Connection}
use Rattle.uecp_text.specs.declared.run_fault.RunFault.TheVariants.{Outstanding}
use Rattle.uecp_text.specs.declared.text_fault.TextFault.{TextFault}
use Rattle.uecp_text.specs.declared.text_fault.TextFault.TheVariants as flaw
use Rattle.uecp_text.proofs.Public.{all_begun, appends_nothing}
use Rattle.phrase_scripts.specs.Lines.{IsUnsaid}
use Rattle.notices.specs.Told.{Told, Says}
use Rattle.phrase_commands.specs.Quoting.{AreFirst, AreQuoted, HasNoString, Quotes, QuotesInto, QuotesLines}
use Rattle.phrase_commands.specs.Quoting.{taken}

-- a line that no string says, or for which there was no memory
pub refused : (input : List ℕ) (before after : Kept) (number : ℕ) (fault : TextFault) (first later : List (List ℕ))
    (written line : List ℕ) → lines_of input ≡ first ++ line ∷ later → AreQuoted first written
    → Adds before after written → number ≡ length first + 1
    → (fault ≡ flaw.OutOfMemory) ⊎ (IsUnsaid fault × HasNoString (without_end line))
    → QuotesInto input before after (Err (fault_at number fault))
refused input before after number fault first later written line split quoted adds counted (inl out) =
    subst (λ f. QuotesInto input before after (Err (fault_at number f))) (sym out)
    (written, adds, inl (refl, (first, line ∷ later, split, quoted)))
refused input before after number (flaw.Unsaid unsaid) first later written line split quoted adds counted
    (inr (said, none)) = (
      written,
      adds,
      inr (
        number,
        flaw.Unsaid unsaid,
        refl,
        record {
          before = first;
          line = line;
          after = later;
          split = split;
          quoted = quoted;
          none = none;
          counted = counted;
          said = said;
        },
      ),
    )
refused input before after number flaw.NotHex first later written line split quoted adds counted (inr (said, none)) =
    absurd said
refused input before after number flaw.NotACommand first later written line split quoted adds counted
    (inr (said, none)) = absurd said
refused input before after number flaw.NoFrame first later written line split quoted adds counted (inr (said, none)) =
    absurd said
refused input before after number flaw.MessageTooLong first later written line split quoted adds counted
    (inr (said, none)) = absurd said
refused input before after number flaw.OutOfMemory first later written line split quoted adds counted
    (inr (said, none)) = absurd said

-- all lines are quoted
pub quoted_all : (input rest : List ℕ) (before after : Kept) (first : List (List ℕ)) (written : List ℕ)
    → lines_of input ≡ first ++ lines_of rest → rest ≡ [] → AreQuoted first written → Adds before after written
    → QuotesInto input before after (Ok tt)
unfolding lines_of
quoted_all input rest before after first written split none quoted adds =
    let all : lines_of input ≡ first = split ∙ ap (λ r. first ++ lines_of r) none ∙ append-nil first in
    (written, adds, subst (λ lines. AreQuoted lines written) (sym all) quoted)

-- ---- an input that was read, and what was added to a new output of it
fails_so : (fault : RunFault) → (unread unread' : Option (List ℕ)) → IsUnread unread unread' fault → Fails fault
fails_so TooLong u u' is = tt
fails_so Reading u u' is = tt
fails_so OutOfMemory u u' is = tt
fails_so (Text number refusal) u u' (read, consumes, never) = absurd never
fails_so (Services refusal) u u' (read, consumes, never) = absurd never
fails_so NotAList u u' (read, consumes, never) = absurd never
fails_so Address u u' (read, consumes, never) = absurd never
fails_so Writing u u' (read, consumes, never) = absurd never
fails_so Listening u u' (read, consumes, never) = absurd never
fails_so Connection u u' (read, consumes, never) = absurd never
fails_so Outstanding u u' (read, consumes, never) = absurd never

module _ (unread unread' held held' : Option (List ℕ)) where
  pub not_read : (fault : RunFault) → IsUnread unread unread' fault → held' ≡ held
      → Quotes unread unread' held held' (Err fault)
  not_read fault is same = inl (fails_so fault unread unread' is, inl (is, same))

  module _ (input : List ℕ) (is_input : IsInput unread unread' input) where
    pub not_kept : held' ≡ held → Quotes unread unread' held held' (Err OutOfMemory)
    not_kept same = inl (
      tt,
      inr (
        input,
        [],
        is_input,
        ([], lines_of (taken input), refl, refl),
        subst (λ h. Begins held h []) (sym same) (all_begun held held [] (appends_nothing held)),
      ),
    )

    module _ (before after : Kept) (empty : before.bytes ≡ []) (whole : IsTrue after.is_whole)
        (result : Result (Unit {0}) RunFault) (into : QuotesInto (taken input) before after result) where
      holds : (written : List ℕ) → Adds before after written → after.bytes ≡ written
      holds written adds = (adds whole).1 ∙ ap (λ bytes. bytes ++ written) empty

      first_of : (result : Result (Unit {0}) RunFault) → QuotesInto (taken input) before after result
          → (written : List ℕ) × Adds before after written × AreFirst (lines_of (taken input)) written
      first_of (Ok done) (written, adds, all) =
          (written, adds, (lines_of (taken input), [], sym (append-nil (lines_of (taken input))), all))
      first_of (Err fault) (written, adds, inl (out, first)) = (written, adds, first)
      first_of (Err fault) (written, adds, inr (number, refusal, is, stops)) =
          (written, adds, (stops.before, stops.line ∷ stops.after, stops.split, stops.quoted))

      pub not_written : (fault : RunFault) → fault ≡ Writing → Begins held held' after.bytes
          → Quotes unread unread' held held' (Err fault)
      not_written fault is begins =
          let some = first_of result into in
          inl (
            subst Fails (sym is) tt,
            inr (input, some.0, is_input, some.2, subst (Begins held held') (holds some.0 some.1) begins),
          )

      written_so : (result : Result (Unit {0}) RunFault) → QuotesInto (taken input) before after result
          → Appends held held' after.bytes → Quotes unread unread' held held' result
      written_so (Ok done) (written, adds, all) appends =
          (input, written, is_input, all, subst (Appends held held') (holds written adds) appends)
      written_so (Err fault) (written, adds, inl (out, first)) appends =
          inl (
            subst Fails (sym out) tt,
            inr (
              input,
              written,
              is_input,
              first,
              all_begun held held' written (subst (Appends held held') (holds written adds) appends),
            ),
          )
      written_so (Err fault) (written, adds, inr (number, refusal, is, stops)) appends =
          inr (
            input,
            written,
            number,
            refusal,
            is,
            is_input,
            stops,
            subst (Appends held held') (holds written adds) appends,
          )

      pub all_written : Appends held held' after.bytes → Quotes unread unread' held held' result
      all_written appends = written_so result into appends

-- ---- by the exit status
fails_three : (fault : RunFault) → Fails fault → status_of fault ≡ 3
fails_three TooLong is = refl
fails_three Reading is = refl
fails_three Writing is = refl
fails_three OutOfMemory is = refl
fails_three (Text number refusal) is = absurd is
fails_three (Services refusal) is = absurd is
fails_three NotAList is = absurd is
fails_three Address is = absurd is
fails_three Listening is = absurd is
fails_three Connection is = absurd is
fails_three Outstanding is = absurd is

pub all_well : (unread unread' held held' : Option (List ℕ)) (told : Told)
    → Quotes unread unread' held held' (Ok tt) → QuotesLines 0 unread unread' held held' told told
all_well unread unread' held held' told quotes = record {
  done = λ e. (quotes, refl);
  refused = λ e. absurd (omega (arith, e));
  failed = λ e. absurd (omega (arith, e));
  most = (omega arith, λ e. absurd (omega (arith, e)));
}

pub ended : (unread unread' held held' : Option (List ℕ)) (told told' : Told) (fault : RunFault) (status : ℕ)
    → Quotes unread unread' held held' (Err fault) → status ≡ status_of fault → Says told told' (error_lines fault)
    → QuotesLines status unread unread' held held' told told'
ended unread unread' held held' told told' fault status (inl (fails, how)) is says =
    let three : status ≡ 3 = is ∙ fails_three fault fails in
    record {
      done = λ e. absurd (omega (arith, e, three));
      refused = λ e. absurd (omega (arith, e, three));
      failed = λ e. (fault, fails, says, how);
      most = (omega (arith, three), λ e. absurd (omega (arith, e, three)));
    }
ended unread unread' held held' told told' fault status
    (inr (input, written, number, refusal, is_fault, is_input, stops, appends)) is says =
    let one : status ≡ 1 = is ∙ ap status_of is_fault in
    record {
      done = λ e. absurd (omega (arith, e, one));
      refused = λ e. (
        input,
        written,
        number,
        refusal,
        is_input,
        stops,
        appends,
        subst (λ f. Says told told' (error_lines f)) is_fault says,
      );
      failed = λ e. absurd (omega (arith, e, one));
      most = (omega (arith, one), λ e. absurd (omega (arith, e, one)));
    }
