use Rattle.std.proofs.Common.{◌||◌, ap, sym, subst, ◌∙◌}
use Rattle.std.proofs.lemmas.Bool.{false≢true}
use Rattle.phrase_tokens.specs.View.{token_of, tokens_of}
use Rattle.uecp_phrases.specs.Stops.{IsNoHead}
use Rattle.uecp_phrases.proofs.Phrasing.{no_other_head, not_no}
use Rattle.uecp_phrases.proofs.head.head_first.Goals as goal
use Rattle.uecp_phrases.proofs.head.head_first.Goals.{in_default-head_in-via-in-Some-head_in+else-not-service}
use Rattle.uecp_phrases.proofs.head.head_first.Goals.{in_default-head_in-via-in_default-head_in}
use Rattle.uecp_phrases.proofs.head.head_first.Goals.{then-acts_somewhere, else-acts_somewhere, then-set, else-set}

pub returns-in-Some-head_in-clause-ok : goal.returns-in-Some-head_in-clause-ok
returns-in-Some-head_in-clause-ok c =
    (token_of c.in-Some.first.now, ap tokens_of c.in-Some.ensures.cases.0, c.in-Some-head_in.ensures.known)

pub returns-in_default-head_in-clause-err : goal.returns-in_default-head_in-clause-err
returns-in_default-head_in-clause-err c = (
  c.stop_at-stop.ensures.what ∙ c.word_wanted.ensures,
  c.stop_at-stop.ensures.left,
  subst (IsNoHead (c.args.set || c.args.service)) (sym (ap tokens_of c.in-Some.ensures.cases.0))
      (λ h is may.
      elim c.in_default-head_in.branch [
        | in_default-head_in-via-in-Some-head_in+else-not-service w ↦
            elim w.if-acts_somewhere.branch [
              | then-acts_somewhere v ↦
                  false≢true (sym w.if-not-service.false ∙ v.value-is ∙ v.if-acts_somewhere.true)
              | else-acts_somewhere v ↦
                  no_other_head (token_of c.in-Some.first.now) h w.in-Some-head_in.head
                  (c.args.set || c.args.service) w.in-Some-head_in.ensures.known
                  (sym w.acts_somewhere.ensures ∙ v.if-acts_somewhere.false) (elim v.if-set.branch [
                    | then-set u ↦ ap (λ b. b || c.args.service) u.if-set.true
                    | else-set u ↦
                        ap (λ b. b || c.args.service) u.if-set.false ∙ sym u.t-22-is
                        ∙ not_no v.if-set.t-22 (sym v.value-is ∙ w.if-not-service.false)
                  ]) is may
            ]
        | in_default-head_in-via-in_default-head_in w ↦ w.in_default-head_in.ensures.unknown h is
      ]),
)
