-- A station that is sent batch by batch.
use Rattle.std.proofs.Common.{◌≡◌, ◌≢◌, ℕ, suc, ◌+◌, ◌-◌, ◌≤◌, Bool, true, false, ◌&&◌, List, []}
use Rattle.std.proofs.Common.{◌∷◌, ◌++◌, length, take, drop, Ok, Err, refl, sym, ap, subst, ◌∙◌, arith}
use Rattle.std.proofs.Common.{append_assoc, append-nil, length-append}
use Rattle.std.specs.Prelude.{Option, Result}
use Rattle.std.specs.List.{list_all}
use Rattle.std.proofs.lemmas.List.{length-drop, length-take}
use Rattle.std.proofs.lemmas.List.Folds.{list_all-append}
use Rattle.uecp_elements.specs.declared.code.Code.{Code}
use Rattle.uecp_link.specs.Server.{waiting}
use Rattle.uecp_text.specs.Written.{Kept, Adds}
use Rattle.uecp_net.specs.declared.sender.Outstanding.{Outstanding}
use Rattle.uecp_net.specs.declared.sender.Settled.{Settled}
use Rattle.uecp_net.specs.Sending.{SenderState, SenderOver, submitted_all}
use Rattle.uecp_jobs.specs.Batches.{Acknowledges, GivesUp}
use Rattle.uecp_jobs.proofs.Public.{adds_on, all_wait, all_tries, SettlesSo}
use Rattle.output_forms.specs.declared.form.Form.{Form}
use Rattle.output_forms.specs.declared.form.Form.TheVariants.{Lines, Words, Json}
use Rattle.sending.specs.Objects as objects
use Rattle.sending.specs.Lines.{is_applied, refused_line, refused_lines}
use Rattle.sending.specs.Forms.{refused_in}
use Rattle.sending.specs.Station.{SettlesBatch, SentFor, SendsStation}

-- the lines of two batches are those of one
pub refused_append : (first : ℕ) (some more : List Code)
    → refused_lines first (some ++ more) ≡ refused_lines first some ++ refused_lines (first + length some) more
refused_append first [] more = ap (λ n. refused_lines n more) (let same : first ≡ first + 0 = omega arith in same)
refused_append first (code ∷ some) more =
    ap (λ l. refused_line first code ++ l) (refused_append (first + 1) some more)
    ∙ sym (append_assoc (refused_line first code) (refused_lines (first + 1) some)
    (refused_lines (first + 1 + length some) more))
    ∙ ap (λ n. (refused_line first code ++ refused_lines (first + 1) some) ++ refused_lines n more)
    (let same : first + 1 + length some ≡ first + length (code ∷ some) = omega arith in same)

pub and_assoc : (a b c : Bool) → ((a && b) && c) ≡ (a && (b && c))
and_assoc true b c = refl
and_assoc false b c = refl

pub and_true : (a : Bool) → (a && true) ≡ a
and_true true = refl
and_true false = refl

objects_append : (first : ℕ) (some more : List Code)
    → objects.refused_lines first (some ++ more)
    ≡ objects.refused_lines first some ++ objects.refused_lines (first + length some) more
objects_append first [] more =
    ap (λ n. objects.refused_lines n more) (let same : first ≡ first + 0 = omega arith in same)
objects_append first (code ∷ some) more =
    ap (λ l. objects.refused_line first code ++ l) (objects_append (first + 1) some more)
    ∙ sym (append_assoc (objects.refused_line first code) (objects.refused_lines (first + 1) some)
    (objects.refused_lines (first + 1 + length some) more))
    ∙ ap (λ n. (objects.refused_line first code ++ objects.refused_lines (first + 1) some)
    ++ objects.refused_lines n more)
    (let same : first + 1 + length some ≡ first + length (code ∷ some) = omega arith in same)

-- so in each form
refused_in_append : (form : Form) (first : ℕ) (some more : List Code)
    → refused_in form first (some ++ more) ≡ refused_in form first some ++ refused_in form (first + length some) more
refused_in_append Lines first some more = refused_append first some more
refused_in_append (Words region) first some more = refused_append first some more
refused_in_append Json first some more = objects_append first some more

refused_in_none : (form : Form) (first : ℕ) → refused_in form first [] ≡ []
refused_in_none Lines first = refl
refused_in_none (Words region) first = refl
refused_in_none Json first = refl

-- of no messages nothing is put down
pub adds_none : (form : Form) (before : Kept) → Adds before before (refused_in form 1 [])
adds_none form before = λ whole. (
  whole,
  sym (append-nil before.bytes) ∙ ap (λ l. before.bytes ++ l) (sym (refused_in_none form 1)),
)

module _ {C I O : Type 0} (opens : C → Option (I × O) → C → Type 0) (closes : C → I → O → C → Type 0)
    (remaining : I → Option (List ℕ)) (contents : O → Option (List ℕ)) where
  -- what `settle` says of a batch that was submitted
  pub settled_batch : (s s' : SenderOver C I O) (batch : List (List ℕ)) (settled : Result Settled Outstanding)
      → s.sender.server.held ≡ []
      → SettlesSo opens closes remaining contents (submitted_all s batch) s' settled
      → SettlesBatch opens closes remaining contents batch s s' settled
  settled_batch s s' batch (Ok d) idle settles = record {
    ended = settles.delivers.0;
    marks = settles.delivers.1;
    delivers = settles.delivers.2;
    are_told = settles.delivers.3;
    freed = settles.freed;
    all = let waits = all_wait s batch in let number = settles.all in
        let none : length (waiting s.sender.server) ≡ 0 =
        ap (λ hs. length (waiting (record s.sender.server { held = hs }))) idle in omega (arith, number, waits, none);
    some = settles.tries.0;
    most = let most = settles.tries.1 in let same = all_tries s batch in omega (arith, most, same);
    stays = ap (λ (d : SenderState). d.tries) settles.stays ∙ all_tries s batch;
  }
  settled_batch s s' batch (Err reason) idle settles = record {
    ended = settles.gives_up.0;
    marks = settles.gives_up.1;
    delivers = settles.gives_up.2;
    wait = settles.outstanding;
  }

  module _ (form : Form) (size : ℕ) (messages : List (List ℕ)) (start : SenderOver C I O) (before after : Kept)
      (was is : Bool) where
    -- some first batches were sent, these messages are left, and the lines of those are put down
    pub record SoFar (left : List (List ℕ)) (now : SenderOver C I O) : Type 0 where
      pub batches : ℕ
      pub told : List Code
      pub sent : SentFor opens closes remaining contents size messages batches told left start now
      pub count : length told + length left ≡ length messages
      pub lines : Adds before after (refused_in form 1 told)
      pub all : is ≡ was && list_all is_applied told

  abbrev pub Told : (form : Form) → (size : ℕ) → (messages : List (List ℕ)) → (start now : SenderOver C I O)
      → Result (Unit {0}) Outstanding
      → (before after : Kept) → (was is : Bool) → Type 0
  Told form size messages start now result before after was is =
      (told : List Code) × SendsStation opens closes remaining contents size messages told start now result
      × Adds before after (refused_in form 1 told) × (is ≡ was && list_all is_applied told)

  pub begins : (form : Form) (size : ℕ) (messages : List (List ℕ)) (start : SenderOver C I O) (before : Kept) (was :
      Bool)
      → SoFar form size messages start before before was was messages start
  begins form size messages start before was = record {
    batches = 0;
    told = [];
    sent = (refl, refl, refl);
    count = omega arith;
    lines = adds_none form before;
    all = sym (and_true was);
  }

  module _ (form : Form) (size : ℕ) (messages : List (List ℕ)) (start : SenderOver C I O) (before after : Kept)
      (was is : Bool)
      (left : List (List ℕ)) (now : SenderOver C I O)
      (so : SoFar form size messages start before after was is left now) where
    pub one_more : 1 ≤ size → left ≢ [] → (next : SenderOver C I O) (more : List Code) (tries : ℕ) (number : ℕ)
        → number ≡ length messages - length left
        → Acknowledges opens closes remaining contents now (take size left) more tries next
        → (after' : Kept) → Adds after after' (refused_in form (number + 1) more)
        → (is' : Bool) → is' ≡ is && list_all is_applied more
        → SoFar form size messages start before after' was is' (drop size left) next
    one_more size_is some next more tries number number_is sent after' lines is' all = record {
      batches = suc so.batches;
      told = so.told ++ more;
      sent = (so.told, left, now, more, tries, so.sent, some, sent, refl, refl);
      count = (let a = length-append so.told more in let b = so.count in let d = length-drop size left in
          let e = sent.all in let f = length-take size left in omega (arith, a, b, d, e, f));
      lines = subst (λ l. Adds before after' l) (sym (refused_in_append form 1 so.told more))
          (adds_on before after after' (refused_in form 1 so.told) (refused_in form (1 + length so.told) more) so.lines
          (subst (λ n. Adds after after' (refused_in form n more))
          (let b = so.count in let same : number + 1 ≡ 1 + length so.told = omega (arith, b, number_is) in same)
          lines));
      all = all ∙ ap (λ b. b && list_all is_applied more) so.all
          ∙ and_assoc was (list_all is_applied so.told) (list_all is_applied more)
          ∙ ap (λ b. was && b) (sym (list_all-append is_applied so.told more));
    }

    pub stops : left ≢ [] → (end : SenderOver C I O) (reason : Outstanding)
        → GivesUp opens closes remaining contents now (take size left) reason end
        → (after' : Kept) → after' ≡ after → (is' : Bool) → is' ≡ is
        → Told form size messages start end (Err reason) before after' was is'
    stops some end reason gives after' lines is' all = (
      so.told,
      (so.batches, left, now, so.sent, some, gives),
      subst (λ k. Adds before k (refused_in form 1 so.told)) (sym lines) so.lines,
      all ∙ so.all,
    )

    pub ends : left ≡ [] → Told form size messages start now (Ok tt) before after was is
    ends none = (
      so.told,
      (
        so.batches,
        subst (λ l. SentFor opens closes remaining contents size messages so.batches so.told l start now) none
            so.sent,
      ),
      so.lines,
      so.all,
    )
