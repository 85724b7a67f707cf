-- Lines that tell of messages one after another.
use Rattle.std.proofs.Common.{◌&&◌, arith, ◌≡◌, ℕ, zero, suc, ◌+◌, Bool, true, false, cond, List, [], ◌∷◌, ◌++◌}
use Rattle.std.proofs.Common.{length, subst, Option, Some, None, refl, sym, ap, ◌∙◌, append_assoc, append-nil}
use Rattle.std.proofs.Common.{length-append}
use Rattle.std.specs.Prelude.{map}
use Rattle.std.specs.List.{list_all}
use Rattle.rds_text.specs.declared.programme_type.Region.{Region}
use Rattle.uecp_elements.specs.declared.code.Code.{Code}
use Rattle.uecp_link.specs.Counters.{next_counter}
use Rattle.uecp_link.specs.Server.{ServerState, Held, waiting, waiting_among}
use Rattle.uecp_net.specs.Sending.{SenderOver, submitted_to, submitted_all}
use Rattle.uecp_net.specs.declared.sender.Settled.{Settled}
use Rattle.uecp_net.specs.declared.saved.keep.Progress.{Progress}
use Rattle.output_forms.specs.declared.form.Form.{Form}
use Rattle.output_forms.specs.declared.form.Form.TheVariants.{Lines, Words, Json}
use Rattle.json_lines.specs.Stamps.{IsStamp}
use Rattle.sending.specs.Objects as objects
use Rattle.sending.specs.declared.options.LiveOptions.{LiveOptions}
use Rattle.sending.specs.Lines as lines
use Rattle.sending.specs.Forms.{AreReplies, unknown_in}
use Rattle.promises.specs.LiveTold.{was_applied, AreAnswers, TellsFor}

-- with none lost of them, these are all
pub none_lost : (all messages lost : List (List ℕ)) → all ≡ messages ++ lost → length lost ≡ 0 → all ≡ messages
none_lost all messages [] is none = is ∙ append-nil messages
none_lost all messages (one ∷ lost) is none = absurd (omega arith)

-- more was told behind it
pub answers_append : (form : Form) (first : ℕ) (m n : List (List ℕ)) (a b : List (Option Code)) (s t : List ℕ)
    → AreAnswers form first m a s → AreAnswers form (first + length a) n b t
    → AreAnswers form first (m ++ n) (a ++ b) (s ++ t)
answers_append form first [] n [] b s t none then =
    subst (λ l. AreAnswers form first n b (l ++ t)) (sym none)
    (subst (λ k. AreAnswers form k n b t) (let same : first + 0 ≡ first = omega arith in same) then)
answers_append form first [] n (answer ∷ a) b s t never then = absurd never
answers_append form first (message ∷ m) n [] b s t never then = absurd never
answers_append form first (message ∷ m) n (answer ∷ a) b s t (line, more, one, rest, is) then = (
  line,
  more ++ t,
  one,
  answers_append form (first + 1) m n a b more t rest
      (subst (λ k. AreAnswers form k n b t)
      (let same : first + length (answer ∷ a) ≡ first + 1 + length a = omega arith in same) then),
  ap (λ l. l ++ t) is ∙ append_assoc line more t,
)

-- the codes of replies, as answers
abbrev pub replied : List Code → List (Option Code)
replied [] = []
replied (code ∷ codes) = Some code ∷ replied codes

pub replied_count : (codes : List Code) → length (replied codes) ≡ length codes
replied_count [] = refl
replied_count (code ∷ codes) = ap suc (replied_count codes)

pub replied_append : (a b : List Code) → replied (a ++ b) ≡ replied a ++ replied b
replied_append [] b = refl
replied_append (code ∷ a) b = ap (λ l. Some code ∷ l) (replied_append a b)

pub replied_applied : (codes : List Code) → list_all was_applied (replied codes) ≡ list_all lines.is_applied codes
replied_applied [] = refl
replied_applied (code ∷ codes) = ap (λ b. lines.is_applied code && b) (replied_applied codes)

-- the messages of these that wait, without their counters
abbrev pub messages_of : List (ℕ × List ℕ) → List (List ℕ)
messages_of sent = map (λ w. w.1) sent

told_in_lines : (first : ℕ) (sent : List (ℕ × List ℕ)) (codes : List Code) → length sent ≡ length codes
    → AreAnswers Lines first (messages_of sent) (replied codes) (lines.reply_lines first codes)
told_in_lines first [] [] same = refl
told_in_lines first (one ∷ sent) [] same = absurd (omega arith)
told_in_lines first [] (code ∷ codes) same = absurd (omega arith)
told_in_lines first (one ∷ sent) (code ∷ codes) same = (
  lines.reply_line first code,
  lines.reply_lines (first + 1) codes,
  refl,
  told_in_lines (first + 1) sent codes (let less : length sent ≡ length codes = omega arith in less),
  refl,
)

told_in_words : (region : Region) (first : ℕ) (sent : List (ℕ × List ℕ)) (codes : List Code)
    → length sent ≡ length codes
    → AreAnswers (Words region) first (messages_of sent) (replied codes) (lines.reply_lines first codes)
told_in_words region first [] [] same = refl
told_in_words region first (one ∷ sent) [] same = absurd (omega arith)
told_in_words region first [] (code ∷ codes) same = absurd (omega arith)
told_in_words region first (one ∷ sent) (code ∷ codes) same = (
  lines.reply_line first code,
  lines.reply_lines (first + 1) codes,
  refl,
  told_in_words region (first + 1) sent codes (let less : length sent ≡ length codes = omega arith in less),
  refl,
)

told_in_objects : (stamp : List ℕ) → IsStamp stamp → (tries milliseconds first : ℕ) (sent : List (ℕ × List ℕ))
    (codes : List Code) → length sent ≡ length codes
    → AreAnswers Json first (messages_of sent) (replied codes)
    (objects.answer_lines stamp tries milliseconds first sent codes)
told_in_objects stamp is_stamp tries milliseconds first [] [] same = refl
told_in_objects stamp is_stamp tries milliseconds first (one ∷ sent) [] same = absurd (omega arith)
told_in_objects stamp is_stamp tries milliseconds first [] (code ∷ codes) same = absurd (omega arith)
told_in_objects stamp is_stamp tries milliseconds first (one ∷ sent) (code ∷ codes) same = (
  objects.answer_line stamp tries milliseconds first one code,
  objects.answer_lines stamp tries milliseconds (first + 1) sent codes,
  (stamp, one.0, tries, milliseconds, is_stamp, refl),
  told_in_objects stamp is_stamp tries milliseconds (first + 1) sent codes
      (let less : length sent ≡ length codes = omega arith in less),
  refl,
)

-- the replies to so many messages are their answers
pub replies_told : (form : Form) (first : ℕ) (sent : List (ℕ × List ℕ)) (settled : Settled) (told : List ℕ)
    → length sent ≡ length settled.codes.items → AreReplies form first sent settled told
    → AreAnswers form first (messages_of sent) (replied settled.codes.items) told
replies_told Lines first sent settled told same is =
    subst (λ l. AreAnswers Lines first (messages_of sent) (replied settled.codes.items) l) (sym is)
    (told_in_lines first sent settled.codes.items same)
replies_told (Words region) first sent settled told same is =
    subst (λ l. AreAnswers (Words region) first (messages_of sent) (replied settled.codes.items) l) (sym is)
    (told_in_words region first sent settled.codes.items same)
replies_told Json first sent settled told same (stamp, milliseconds, is_stamp, is) =
    subst (λ l. AreAnswers Json first (messages_of sent) (replied settled.codes.items) l) (sym is)
    (told_in_objects stamp is_stamp settled.tries milliseconds first sent settled.codes.items same)

-- ---- The messages that wait.

waiting_more : (hs : List Held) (counter : ℕ) (message : List ℕ)
    → messages_of (waiting_among (hs ++ record { counter = counter; message = message; marked = false } ∷ []))
    ≡ messages_of (waiting_among hs) ++ message ∷ []
waiting_more [] counter message = refl
waiting_more (h ∷ hs) counter message = by h.marked (waiting_more hs counter message)
  where
    after : List (ℕ × List ℕ)
    after = waiting_among (hs ++ record { counter = counter; message = message; marked = false } ∷ [])

    by : (b : Bool) → messages_of after ≡ messages_of (waiting_among hs) ++ message ∷ []
        → messages_of (cond b after ((h.counter, h.message) ∷ after))
        ≡ messages_of (cond b (waiting_among hs) ((h.counter, h.message) ∷ waiting_among hs)) ++ message ∷ []
    by true one = one
    by false one = ap (λ l. h.message ∷ l) one

-- behind what waits, those wait that are submitted
all_wait : {C I O : Type 0} (s : SenderOver C I O) (batch : List (List ℕ))
    → messages_of (waiting (submitted_all s batch).sender.server) ≡ messages_of (waiting s.sender.server) ++ batch
all_wait s [] = sym (append-nil (messages_of (waiting s.sender.server)))
all_wait s (message ∷ batch) =
    all_wait (submitted_to s message) batch
    ∙ ap (λ l. l ++ batch) (waiting_more s.sender.server.held (next_counter s.sender.server.last) message)
    ∙ append_assoc (messages_of (waiting s.sender.server)) (message ∷ []) batch

-- what waits at a server that held nothing are the messages of the batch
pub batch_waits : {C I O : Type 0} (s : SenderOver C I O) (batch : List (List ℕ)) → s.sender.server.held ≡ []
    → messages_of (waiting (submitted_all s batch).sender.server) ≡ batch
batch_waits s batch idle = all_wait s batch ∙ ap (λ hs. messages_of (waiting_among hs) ++ batch) idle

-- so many messages that are unknown, as answers
abbrev pub unknown : ℕ → List (Option Code)
unknown zero = []
unknown (suc n) = None ∷ unknown n

pub unknown_count : (n : ℕ) → length (unknown n) ≡ n
unknown_count zero = refl
unknown_count (suc n) = ap suc (unknown_count n)

unknown_in_lines : (first : ℕ) (messages : List (List ℕ))
    → AreAnswers Lines first messages (unknown (length messages)) (lines.unknown_lines first (length messages))
unknown_in_lines first [] = refl
unknown_in_lines first (message ∷ messages) = (
  lines.unknown_line first,
  lines.unknown_lines (first + 1) (length messages),
  refl,
  unknown_in_lines (first + 1) messages,
  refl,
)

unknown_in_words : (region : Region) (first : ℕ) (messages : List (List ℕ))
    → AreAnswers (Words region) first messages (unknown (length messages))
    (lines.unknown_lines first (length messages))
unknown_in_words region first [] = refl
unknown_in_words region first (message ∷ messages) = (
  lines.unknown_line first,
  lines.unknown_lines (first + 1) (length messages),
  refl,
  unknown_in_words region (first + 1) messages,
  refl,
)

unknown_in_objects : (first : ℕ) (messages : List (List ℕ))
    → AreAnswers Json first messages (unknown (length messages)) (objects.unknown_lines first (length messages))
unknown_in_objects first [] = refl
unknown_in_objects first (message ∷ messages) = (
  objects.unknown_line first,
  objects.unknown_lines (first + 1) (length messages),
  refl,
  unknown_in_objects (first + 1) messages,
  refl,
)

unknown_all : (form : Form) (first : ℕ) (messages : List (List ℕ))
    → AreAnswers form first messages (unknown (length messages)) (unknown_in form first (length messages))
unknown_all Lines first messages = unknown_in_lines first messages
unknown_all (Words region) first messages = unknown_in_words region first messages
unknown_all Json first messages = unknown_in_objects first messages

-- these messages, which are so many, are unknown
pub unknown_told : (form : Form) (first n : ℕ) (messages : List (List ℕ)) → length messages ≡ n
    → AreAnswers form first messages (unknown n) (unknown_in form first n)
unknown_told form first n messages count =
    subst (λ k. AreAnswers form first messages (unknown k) (unknown_in form first k)) count
    (unknown_all form first messages)

module _ (options : LiveOptions) (before : Progress) (s : ServerState) where
  -- more was told of messages
  pub tells_more : (n : ℕ) (messages then_messages : List (List ℕ)) (a b : List (Option Code)) (text next : List ℕ)
      → TellsFor options before s n messages a text
      → AreAnswers options.form (before.taken + 1 + length a) then_messages b next
      → TellsFor options before s n (messages ++ then_messages) (a ++ b) (text ++ next)
  tells_more zero messages then_messages a b text next (begin, rest, first, answers, is) then = (
    begin,
    rest ++ next,
    first,
    answers_append options.form (before.taken + 1) messages then_messages a b rest next answers then,
    ap (λ t. t ++ next) is ∙ append_assoc begin rest next,
  )
  tells_more (suc n) messages then_messages a b text next
      (first, later, earlier, more, told, between, rest, tells, is_between, split, answers, are, is) then =
      let count : length a ≡ length earlier + length more = ap length answers ∙ length-append earlier more in
      let place : before.taken + 1 + length a ≡ before.taken + 1 + length earlier + length more =
      omega (arith, count) in (
        first,
        later ++ then_messages,
        earlier,
        more ++ b,
        told,
        between,
        rest ++ next,
        tells,
        is_between,
        ap (λ l. l ++ then_messages) split ∙ append_assoc first later then_messages,
        ap (λ l. l ++ b) answers ∙ append_assoc earlier more b,
        answers_append options.form (before.taken + 1 + length earlier) later then_messages more b rest next are
            (subst (λ m. AreAnswers options.form m then_messages b next) place then),
        ap (λ t. t ++ next) is ∙ append_assoc told (between ++ rest) next
            ∙ ap (λ t. told ++ t) (append_assoc between rest next),
      )
