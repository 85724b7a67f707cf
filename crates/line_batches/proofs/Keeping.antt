-- What a feed keeps that is told of lines that are refused.
use Rattle.std.proofs.Common.{◌≡◌, ℕ, Bool, ◌+◌, List, [], ◌∷◌, ◌++◌, refl, sym, ap, ◌∙◌, subst, inl, inr, ◌⊎◌}
use Rattle.std.proofs.Common.{append_assoc, append-nil}
use Rattle.std.specs.Prelude.{Option, Result, Ok}
use Rattle.line_batches.specs.declared.intake.Input.{Input}
use Rattle.line_feed.specs.declared.feed.Next.{Next}
use Rattle.line_feed.specs.declared.feed_fault.FeedFault.{FeedFault}
use Rattle.line_feed.specs.declared.feed_fault.NotKept.{NotKept}
use Rattle.line_feed.specs.Lines.{Refusal}
use Rattle.line_batches.specs.declared.intake.Given.{Given}
use Rattle.line_batches.specs.declared.intake.Given.TheVariants.{Nothing, Gives, Refused}
use Rattle.line_batches.specs.Intake.{FeedIntake, message_of}
use Rattle.line_batches.specs.Batches.{TakesOn, ComesToMore, GoesFurther, TellsRefused}
use Rattle.line_batches.specs.Laws.{AreKept, AreRefusals, number_behind, refusal_of}

module _ {D : Type 0} (remaining : D → Option (List ℕ)) (takes : D → Result Next FeedFault → List ℕ → D → Type 0)
    (says : D → Bool → D → Type 0) (passes : D → Refusal → Result (Unit {0}) NotKept → D → Type 0) where
  module _ (kept : D → List Refusal)
      (taking : (d d' : D) (answer : Result Next FeedFault) (held : List ℕ) → takes d answer held d' → kept d' ≡ kept d)
      (asking : (d d' : D) (there : Bool) → says d there d' → kept d' ≡ kept d)
      (passing : (d d' : D) (refusal : Refusal) → passes d refusal (Ok tt) d' → kept d' ≡ kept d ++ refusal ∷ []) where
    further : (size : ℕ) (messages : List (List ℕ)) (d d' : D)
        → GoesFurther remaining takes says passes size messages d d' → kept d' ≡ kept d
    further size messages d d' (inl (none, same)) = ap kept same
    further size messages d d' (inr (some, few, (says_so, stays))) = asking d d' _ says_so

    told : (given : Given) (number : ℕ) (held : List ℕ) (d d' : D)
        → TellsRefused remaining takes says passes given number held (Ok tt) d d'
        → kept d' ≡ kept d ++ refusal_of given number held
    told (Refused fault) number held d d' passed = passing d d' _ passed
    told Nothing number held d d' (is, same) = ap kept same ∙ sym (append-nil (kept d))
    told (Gives message fitted) number held d d' (is, same) = ap kept same ∙ sym (append-nil (kept d))

    all_kept : (input : Input) (size : ℕ) (messages : List (List ℕ)) (taken : List (List ℕ × Given))
        (x x' : FeedIntake D) → TakesOn remaining takes says passes input size messages taken x x'
        → (refusals : List Refusal) × AreRefusals x.lines taken refusals × (kept x'.feed ≡ kept x.feed ++ refusals)
    all_kept input size messages [] x x' same =
        ([], refl, ap (λ (i : FeedIntake D). kept i.feed) same ∙ sym (append-nil (kept x.feed)))
    all_kept input size messages ((line, given) ∷ more) x x'
        (y, z, (goes, stays), (one, (next, held, d, took, is_held, tells)), on) =
        let (rest, are, grows) = all_kept input size (messages ++ message_of given) more z x' on in
        let number : z.lines ≡ number_behind x.lines =
        one.lines ∙ ap (λ (i : FeedIntake D). number_behind i.lines) stays in
        let before : kept d ≡ kept x.feed =
        taking y.feed d _ held took ∙ further size messages x.feed y.feed goes in
        let behind : kept z.feed ≡ kept x.feed ++ refusal_of given (number_behind x.lines) held =
        told given z.lines held d z.feed tells
        ∙ ap (λ k. k ++ refusal_of given z.lines held) before
        ∙ ap (λ n. kept x.feed ++ refusal_of given n held) number in (
          refusal_of given (number_behind x.lines) held ++ rest,
          (held, rest, is_held, refl, subst (λ n. AreRefusals n more rest) number are),
          grows ∙ ap (λ k. k ++ rest) behind
              ∙ append_assoc (kept x.feed) (refusal_of given (number_behind x.lines) held) rest,
        )

  pub are_kept : AreKept remaining takes says passes
  are_kept kept taking asking passing input size messages taken x x' on =
      all_kept kept taking asking passing input size messages taken x x' on
