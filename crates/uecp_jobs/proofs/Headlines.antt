-- The headline, of the line that a script leaves.
use Rattle.std.proofs.Common.{◌≡◌, ℕ, List, [], ◌∷◌, ◌++◌, Option, Some, None, Ok, Err, refl, ap, sym, ◌∙◌, subst, inl}
use Rattle.std.proofs.Common.{inr, ◌⊎◌}
use Rattle.rds_store.specs.Value.{Store}
use Rattle.rds_store.specs.Opening.{opening}
use Rattle.rds_store.specs.Step.{step, group_taken}
use Rattle.uecp_link.specs.Once.{Event, Submit, FrameComes, ReplyComes, NoiseToEncoder, NoiseToServer, EncoderLost}
use Rattle.uecp_link.specs.Once.{ServerLost, EncoderRestart, ServerRestart, Take, Once, after, at_first}
use Rattle.uecp_link.specs.Law.{Fits}
use Rattle.uecp_link.specs.Holds.{LineState, Outcome, Holds, history_by, line_from, new_line}
use Rattle.uecp_link.specs.Headline.{IsHeadline}
use Rattle.uecp_link.specs.Replacing.{Replaces}
use Rattle.uecp_encoder.specs.State.{EncoderState}
use Rattle.uecp_link.specs.Holds.{Plays as PlaysSteps}
use Rattle.uecp_link.proofs.Public.{holds_from, new_holds, headline, headline_from}
use Rattle.uecp_text.specs.declared.run_fault.RunFault.{RunFault}
use Rattle.uecp_text.specs.declared.run_fault.RunFault.TheVariants as RunFaults
use Rattle.uecp_text.specs.Words.{words}
use Rattle.uecp_text.specs.Run.{Brings, Runs}
use Rattle.uecp_words.specs.EventWords.{Names}
use Rattle.uecp_jobs.specs.Setups.{address_of}
use Rattle.output_forms.specs.declared.form.Form.{Form}
use Rattle.uecp_jobs.specs.Playing.{PlaysIn}
use Rattle.uecp_jobs.specs.Headlines.{NameEach, KeepsHeadlineSince, ScriptsKeepHeadline}

-- a message that words submit fits a frame
named_fits : (words : List (List ℕ)) (event : Event) → Names words event → Fits event
named_fits words (Submit m) names = names.2.1
named_fits words (FrameComes k) names = tt
named_fits words (ReplyComes k) names = tt
named_fits words (NoiseToEncoder bytes) names = tt
named_fits words (NoiseToServer bytes) names = tt
named_fits words EncoderLost names = tt
named_fits words ServerLost names = tt
named_fits words EncoderRestart names = tt
named_fits words ServerRestart names = tt
named_fits words Take names = tt

-- from a line that joined on, steps keep the headline, with the store that the line before it left
since_joined : (left joined : LineState Store) (given_up : ℕ) → Replaces step left given_up joined
    → (events : List Event) (outcomes : List Outcome) (line : LineState Store) (o : Once Store) →
    PlaysSteps step group_taken joined (at_first left.encoder.value) events outcomes line o
    → IsHeadline step group_taken left.encoder.address left.encoder.value (history_by events outcomes) line
since_joined left joined given_up replaces events outcomes line o plays =
    let e : EncoderState Store = joined.encoder in
    let from : joined ≡ line_from e = replaces.begins
    ∙ ap line_from (sym (ap (λ (l : LineState Store). l.encoder) replaces.begins)) in
    let value : left.encoder.value ≡ e.value = sym replaces.joined.value_is in
    let moved : PlaysSteps step group_taken (line_from e) (at_first e.value) events outcomes line o =
    subst (λ (l : LineState Store). PlaysSteps step group_taken l (at_first e.value) events outcomes line o) from
    (subst (λ (v : Store). PlaysSteps step group_taken joined (at_first v) events outcomes line o) value plays) in
    subst (λ (a : ℕ). IsHeadline step group_taken a left.encoder.value (history_by events outcomes) line)
    replaces.address
    (subst (λ (v : Store). IsHeadline step group_taken e.address v (history_by events outcomes) line) (sym value)
    (headline_from step group_taken e (inr replaces.joined.kept) replaces.joined.closed events outcomes line o moved))

-- a line that joined holds what a new once-machine with the store that was left holds
joined_holds : (left joined : LineState Store) (given_up : ℕ) → Replaces step left given_up joined
    → Holds joined (at_first left.encoder.value)
joined_holds left joined given_up replaces =
    let e : EncoderState Store = joined.encoder in
    let from : joined ≡ line_from e = replaces.begins
    ∙ ap line_from (sym (ap (λ (l : LineState Store). l.encoder) replaces.begins)) in
    subst (λ (l : LineState Store). Holds l (at_first left.encoder.value)) (sym from)
    (subst (λ (v : Store). Holds (line_from e) (at_first v)) replaces.joined.value_is
    (holds_from e replaces.joined.closed))

-- The events that texts name are steps of the line, one by one.
pub record Played (line : LineState Store) (o : Once Store) (texts : List (ℕ × List ℕ)) (stop : Option RunFault)
    (line' : LineState Store) : Type 0 where
  pub events : List Event
  pub outcomes : List Outcome
  pub last : Once Store
  pub named : NameEach texts stop events
  pub plays : PlaysSteps step group_taken line o events outcomes line' last

-- a text more before those since which the headline is kept
one_before : (form : Form) (line next line' : LineState Store) (number : ℕ) (text first : List ℕ)
    (texts : List (ℕ × List ℕ))
    (stop : Option RunFault) → PlaysIn form line text (Brings first) next →
    KeepsHeadlineSince form next texts stop line' → KeepsHeadlineSince form line ((number, text) ∷ texts) stop line'
one_before form line next line' number text first texts stop plays since = record {
  before = (number, text) ∷ since.before;
  replacement = since.replacement;
  behind = since.behind;
  all = ap (λ (ts : List (ℕ × List ℕ)). (number, text) ∷ ts) since.all;
  named = since.named;
  lines = first ++ since.lines;
  left = since.left;
  ran = inl (first, since.lines, next, plays, refl, since.ran);
  given_up = since.given_up;
  joined = since.joined;
  replaces = since.replaces;
  keeps = since.keeps;
}

-- the texts before the first that starts the server again, or all, and those since the last
script_played : (form : Form) (line line' : LineState Store) (o : Once Store) (texts : List (ℕ × List ℕ))
    (lines : List ℕ)
    (stop : Option RunFault) → Holds line o → Runs (PlaysIn form) line texts lines stop line' →
    Played line o texts stop line' ⊎ KeepsHeadlineSince form line texts stop line'
script_played form line line' o [] lines stop holds ran =
    inl (record { events = []; outcomes = []; last = o; named = (ran.1, refl); plays = (ran.2, refl) })
script_played form line line' o ((number, text) ∷ texts) lines stop holds ran = elim ran [
  | inl (first, rest, next, plays, lines_are, more) ↦ elim plays [
    | inl (event, names, what) ↦ elim what [
      | inl takes ↦ (let steps = takes.steps o holds in
          elim (script_played form next line' (after step group_taken o event) texts rest stop steps.holds more) [
            | inl p ↦ inl (record {
              events = event ∷ p.events;
              outcomes = Ok takes.answer ∷ p.outcomes;
              last = p.last;
              named = (names, p.named);
              plays = (next, (named_fits (words text) event names, steps), p.plays);
            })
            | inr since ↦ inr (one_before form line next line' number text first texts stop
                (inl (event, names, inl takes))
                since)
          ])
      | inr refused ↦
          elim (script_played form next line' o texts rest stop
          (subst (λ (l : LineState Store). Holds l o) (sym refused.unchanged) holds) more) [
            | inl p ↦ inl (record {
              events = event ∷ p.events;
              outcomes = Err refused.refusal ∷ p.outcomes;
              last = p.last;
              named = (names, p.named);
              plays =
                  (next, (refused.refuses o holds, refused.unchanged), p.plays);
            })
            | inr since ↦ inr (one_before form line next line' number text first texts stop
                (inl (event, names, inr refused))
                since)
          ]
    ]
    | inr again ↦
        elim (script_played form next line' (at_first line.encoder.value) texts rest stop
        (joined_holds line next again.given_up again.replaces) more) [
          | inl p ↦ inr (record {
            before = [];
            replacement = (number, text);
            behind = texts;
            all = refl;
            named = again.named;
            lines = [];
            left = line;
            ran = (refl, refl, refl);
            given_up = again.given_up;
            joined = next;
            replaces = again.replaces;
            keeps = record {
              events = p.events;
              outcomes = p.outcomes;
              last = p.last;
              named = p.named;
              plays = p.plays;
              headline = since_joined line next again.given_up again.replaces p.events p.outcomes line' p.last p.plays;
            };
          })
          | inr since ↦ inr (one_before form line next line' number text first texts stop (inr again) since)
        ]
  ]
  | inr (inl refused) ↦ inl (record {
    events = [];
    outcomes = [];
    last = o;
    named = (λ h. let some : None ≡ Some (RunFaults.Text number refused.0) = sym h ∙ refused.3 in cc);
    plays =
        (refused.1.3, refl);
  })
  | inr (inr ended) ↦ absurd ended.0
]

pub scripts_keep_headline_lem : ScriptsKeepHeadline
scripts_keep_headline_lem form o texts lines stop line ran =
    let address : ℕ = address_of o.site o.encoder in
    let value : Store = opening o.sets o.services in
    elim (script_played form (new_line address value) line (at_first value) texts lines stop (new_holds address value)
    ran) [
      | inl p ↦ inl (record {
        events = p.events;
        outcomes = p.outcomes;
        last = p.last;
        named = p.named;
        plays = p.plays;
        headline = headline step group_taken address value p.events p.outcomes line p.last p.plays;
      })
      | inr since ↦ inr since
    ]
