-- Each turn of one who asks is a turn of its life.
use Rattle.std.proofs.Common.{◌≡◌, ◌≤◌, ◌⊎◌, ℕ, Bool, true, false, List, [], ◌∷◌, ◌++◌}
use Rattle.std.proofs.Common.{length, take, Option, Some, None, Result, Ok, Err, OnOk, refl}
use Rattle.std.proofs.Common.{sym, ap, subst, ◌∙◌, inl, inr, arith}
use Rattle.std.specs.Io.KnownBytes.{append_known}
use Rattle.std.specs.List.{AllByRecursion}
use Rattle.std.specs.Result.{is_ok, is_err}
use Rattle.std.proofs.lemmas.Bool.{false≢true}
use Rattle.std.proofs.lemmas.List.{append-nil}
use Rattle.page.specs.declared.clients.client.Phase.{Phase}
use Rattle.page.specs.declared.clients.client.Phase.TheVariants.{Asking, Live, Closing}
use Rattle.page.specs.declared.guests.connection.Passed.{Passed}
use Rattle.page.specs.declared.guests.connection.Passed.TheVariants.{Bytes, NotNow, Gone}
use Rattle.page.specs.declared.guests.guest.Guest.{Guest}
use Rattle.page.specs.declared.guests.guest.Deed.{Deed}
use Rattle.page.specs.declared.guests.guest.Deed.TheVariants.{CatchUp, Deliver, Tick, End}
use Rattle.page.specs.Events.{Event, Past, with_line}
use Rattle.page.specs.Sending.{Standing, IsLive, Delivers}
use Rattle.page.specs.Answers.{Source}
use Rattle.page.specs.Hearing.{Hears}
use Rattle.page.specs.ClientView.{standing_of, came_of}
use Rattle.page.specs.Life.{Life, IsNew, born, Turn, Becomes, Runs, line_comes, bytes_come, is_sent, is_assured}
use Rattle.page.specs.Life.{is_ended}
use Rattle.page.specs.Talk.{Talk, IsKnown, IsUnsaid, Gives, Gets, IsShut}
use Rattle.page.specs.Delivering.{IsSent, IsCaughtUp, IsServed}
use Rattle.page.specs.Visits.{Lives, GuestLives, HasLived, IsStill, HearsRead, HearsOnce, SendsOn, SendsNow}
use Rattle.page.specs.Visits.{Ticks, Does, TakesTurn, IsAskedWith, MayGo, HearsThen}
use Rattle.page.proofs.Delivered.{gets_none, sent_of_caught}

-- ---- one more turn
run_more : (turns : List Turn) (turn : Turn) (l m n : Life) → Runs l turns m → Becomes turn m n
    → Runs l (turns ++ turn ∷ []) n
run_more [] turn l m n so_far one =
    let P : Life → Type 0 = λ v. Becomes turn v n in
    (n, subst P so_far one, refl)
run_more (first ∷ turns) turn l m n so_far one =
    (so_far.0, so_far.1, run_more turns turn so_far.0 m n so_far.2 one)

abbrev life : Past → List ℕ → Standing → List ℕ → Life
life past heard x got = record { past = past; came = heard; standing = x; written = got }

asked_more : (own_only : Bool) (turns : List Turn) (turn : Turn) → AllByRecursion (IsAskedWith own_only) turns
    → IsAskedWith own_only turn → AllByRecursion (IsAskedWith own_only) (turns ++ turn ∷ [])
asked_more own_only [] turn asked one = (one, tt)
asked_more own_only (first ∷ turns) turn asked one = (asked.0, asked_more own_only turns turn asked.1 one)

lives_then : (own_only : Bool) (past past' : Past) (said said' : Talk) (x x' : Standing)
    (came came' heard' got' : List ℕ)
    → (l : Lives own_only past said x came) → (turn : Turn) → IsAskedWith own_only turn
    → Becomes turn (life past l.heard x l.got) (life past' heard' x' got')
    → IsKnown said'.given heard' → IsKnown said'.written got' → (x'.phase ≡ Asking → came' ≡ heard')
    → Lives own_only past' said' x' came'
lives_then own_only past past' said said' x x' came came' heard' got' l turn asked becomes heard_is got_is came_is =
    record {
      past_then = l.past_then;
      begun = l.begun;
      turns = l.turns ++ turn ∷ [];
      heard = heard';
      got = got';
      is_new = l.is_new;
      asked = asked_more own_only l.turns turn l.asked asked;
      runs =
          run_more l.turns turn (born l.past_then l.begun) (life past l.heard x l.got) (life past' heard' x' got')
          l.runs becomes;
      heard_is = heard_is;
      got_is = got_is;
      came_is = came_is;
    }

-- the same life, seen anew
lives_as : (own_only : Bool) (past : Past) (said said' : Talk) (x x' : Standing) (came came' : List ℕ)
    → Lives own_only past said x came
    → x' ≡ x → came' ≡ came → ((heard : List ℕ) → IsKnown said.given heard → IsKnown said'.given heard)
    → ((got : List ℕ) → IsKnown said.written got → IsKnown said'.written got) → Lives own_only past said' x' came'
lives_as own_only past said said' x x' came came' l is same given written =
    let P : Standing → Type 0 = λ s. Lives own_only past said' s came' in
    subst P (sym is) (record {
      past_then = l.past_then;
      begun = l.begun;
      turns = l.turns;
      heard = l.heard;
      got = l.got;
      is_new = l.is_new;
      asked = l.asked;
      runs = l.runs;
      heard_is = given l.heard l.heard_is;
      got_is = written l.got l.got_is;
      came_is = λ asking. same ∙ l.came_is asking;
    })

known_more : (known : Option (List ℕ)) (bytes more : List ℕ) → IsKnown known bytes
    → IsKnown (append_known known more) (bytes ++ more)
known_more None bytes more is = tt
known_more (Some xs) bytes more is = ap (λ l. l ++ more) is

known_no_more : (known : Option (List ℕ)) (bytes : List ℕ) → IsKnown known bytes
    → IsKnown (append_known known []) bytes
known_no_more None bytes is = tt
known_no_more (Some xs) bytes is = append-nil xs ∙ is

known_as : (known known' : Option (List ℕ)) (bytes : List ℕ) → known' ≡ known → IsKnown known bytes
    → IsKnown known' bytes
known_as known known' bytes is so =
    let P : Option (List ℕ) → Type 0 = λ k. IsKnown k bytes in
    subst P (sym is) so

-- ---- one that was just accepted
pub lives_new : (own_only : Bool) (past : Past) (said : Talk) (x : Standing) (came : List ℕ) → IsUnsaid said → IsNew x
    → came ≡ []
    → Lives own_only past said x came
lives_new own_only past said x came unsaid is_new none = record {
  past_then = past;
  begun = x;
  turns = [];
  heard = [];
  got = [];
  is_new = is_new;
  asked = tt;
  runs = refl;
  heard_is = unsaid.0;
  got_is = unsaid.1;
  came_is = λ asking. none;
}

-- ---- a line becomes an event
pub lives_line : (own_only : Bool) (past : Past) (line : List ℕ) (said : Talk) (x : Standing) (came : List ℕ)
    → Lives own_only past said x came → Lives own_only (with_line past line) said x came
lives_line own_only past line said x came l =
    lives_then own_only past (with_line past line) said said x x came came l.heard l.got l (line_comes line) tt refl
    l.heard_is l.got_is l.came_is

-- ---- something came
asking_or_not : (p : Phase) → (p ≡ Asking) ⊎ (p ≡ Asking → ⊥)
asking_or_not Asking = inl refl
asking_or_not Live = inr (λ e. cc e)
asking_or_not Closing = inr (λ e. cc e)

lives_hearing : (source : Source) (own_only : Bool) (bytes : List ℕ) (said said' : Talk) (x x' : Standing)
    (came came' : List ℕ) → Lives own_only source.past said x came → Gives bytes said said'
    → (x.phase ≡ Asking → Hears source own_only (came ++ bytes) x x')
    → (x'.phase ≡ Asking → came' ≡ came ++ bytes) → ((x.phase ≡ Asking → ⊥) → x' ≡ x)
    → Lives own_only source.past said' x' came'
lives_hearing source own_only bytes said said' x x' came came' l gives hears more kept =
    let given : said'.given ≡ append_known said.given bytes = ap (λ (t : Talk). t.given) gives in
    let written : said'.written ≡ said.written = ap (λ (t : Talk). t.written) gives in
    let P : List ℕ → Type 0 = λ c. Hears source own_only (c ++ bytes) x x' in
    let then : (x'.phase ≡ Asking → came' ≡ l.heard ++ bytes) = λ asking. elim (asking_or_not x.phase) [
      | inl asks ↦ more asking ∙ ap (λ c. c ++ bytes) (l.came_is asks)
      | inr other ↦ absurd (other (sym (ap (λ (s : Standing). s.phase) (kept other)) ∙ asking))
    ] in
    lives_then own_only source.past source.past said said' x x' came came' (l.heard ++ bytes) l.got l
    (bytes_come source own_only bytes) refl
    (refl, refl, (λ asks. subst P (l.came_is asks) (hears asks)), kept)
    (known_as (append_known said.given bytes) said'.given (l.heard ++ bytes) given
    (known_more said.given l.heard bytes l.heard_is))
    (known_as said.written said'.written l.got written l.got_is) then

module _ {C : Type 0} (talk : C → Talk) where
  lives_still : (own_only : Bool) (past : Past) (g g' : Guest C) → GuestLives talk own_only past g → IsStill talk g g'
      → GuestLives talk own_only past g'
  lives_still own_only past g g' l still =
      let given : (talk g'.connection).given ≡ (talk g.connection).given = ap (λ (t : Talk). t.given) still.0 in
      let written : (talk g'.connection).written ≡ (talk g.connection).written =
      ap (λ (t : Talk). t.written) still.0 in
      lives_as own_only past (talk g.connection) (talk g'.connection) (standing_of g.client) (standing_of g'.client)
      (came_of g.client) (came_of g'.client) l (ap (λ (h : Guest C). standing_of h.client) still.1)
      (ap (λ (h : Guest C). came_of h.client) still.1)
      (λ heard so. known_as (talk g.connection).given (talk g'.connection).given heard given so)
      (λ got so. known_as (talk g.connection).written (talk g'.connection).written got written so)

  lives_read : (source : Source) (own_only : Bool) (buffer : List ℕ) (passed : Passed) (g : Guest C) (keeps : Bool)
      (g' : Guest C) → GuestLives talk own_only source.past g
      → HearsRead talk source own_only buffer passed g keeps g' → GuestLives talk own_only source.past g'
  lives_read source own_only buffer (Bytes count) g keeps g' l (inl (none, kept, gives, same)) =
      let given : (talk g'.connection).given ≡ append_known (talk g.connection).given [] =
      ap (λ (t : Talk). t.given) gives in
      let written : (talk g'.connection).written ≡ (talk g.connection).written =
      ap (λ (t : Talk). t.written) gives in
      lives_as own_only source.past (talk g.connection) (talk g'.connection) (standing_of g.client)
      (standing_of g'.client) (came_of g.client) (came_of g'.client) l
      (ap (λ (h : Guest C). standing_of h.client) same) (ap (λ (h : Guest C). came_of h.client) same)
      (λ heard so. known_as (append_known (talk g.connection).given []) (talk g'.connection).given heard given
      (known_no_more (talk g.connection).given heard so))
      (λ got so. known_as (talk g.connection).written (talk g'.connection).written got written so)
  lives_read source own_only buffer (Bytes count) g keeps g' l (inr (some, kept, more)) =
      lives_hearing source own_only (take count buffer) (talk g.connection) (talk g'.connection)
      (standing_of g.client) (standing_of g'.client) (came_of g.client) (came_of g'.client) l more.gives more.hears
      more.came more.kept
  lives_read source own_only buffer NotNow g keeps g' l read = lives_still own_only source.past g g' l read.1
  lives_read source own_only buffer Gone g keeps g' l read = lives_still own_only source.past g g' l read.1

  pub lives_heard : (reads : C → List ℕ → Passed → C → Type 0) (source : Source) (own_only keeps : Bool)
      (g g' : Guest C) → GuestLives talk own_only source.past g → HearsOnce talk reads source own_only g keeps g'
      → GuestLives talk own_only source.past g'
  lives_heard reads source own_only keeps g g' l (buffer, passed, made, heard) =
      lives_read source own_only buffer passed g keeps g' l heard

  -- ---- something was sent
  pub lives_sent : (own_only : Bool) (past : Past) (events : List Event) (written : List ℕ) (g g' : Guest C)
      → GuestLives talk own_only past g → SendsOn talk past events written g g' → GuestLives talk own_only past g'
  lives_sent own_only past events written g g' l s =
      let said = talk g.connection in
      let said' = talk g'.connection in
      let given : said'.given ≡ said.given = ap (λ (t : Talk). t.given) s.gets in
      let got : said'.written ≡ append_known said.written written = ap (λ (t : Talk). t.written) s.gets in
      lives_then own_only past past said said' (standing_of g.client) (standing_of g'.client) (came_of g.client)
      (came_of g'.client) l.heard (l.got ++ written) l (is_sent events written) tt
      (refl, s.sent.phase, s.sent.live, s.sent.idle)
      (known_as said.given said'.given l.heard given l.heard_is)
      (known_as (append_known said.written written) said'.written (l.got ++ written) got
      (known_more said.written l.got written l.got_is))
      (λ asking. s.came ∙ l.came_is (sym s.sent.phase ∙ asking))

  -- ---- some time has gone by
  lives_ticks : (own_only : Bool) (past : Past) (g : Guest C) (keeps : Bool) (g' : Guest C)
      → GuestLives talk own_only past g
      → Ticks talk g keeps g' → GuestLives talk own_only past g'
  lives_ticks own_only past g keeps g' l t =
      let said_is : talk g'.connection ≡ talk g.connection = ap (λ (h : Guest C). talk h.connection) t.same in
      let x = standing_of g.client in
      let x' = standing_of g'.client in
      let phase : x'.phase ≡ x.phase = elim t.says [
        | inl is ↦ ap (λ (s : Standing). s.phase) is
        | inr said ↦ ap (λ (s : Standing). s.phase) said.2
      ] in
      let P : Talk → Type 0 = λ t. Lives own_only past t x' (came_of g'.client) in
      subst P (sym said_is)
      (lives_then own_only past past (talk g.connection) (talk g.connection) x x' (came_of g.client) (came_of g'.client)
      l.heard l.got l is_assured tt (refl, t.says) l.heard_is l.got_is
      (λ asking. t.came ∙ l.came_is (sym phase ∙ asking)))

  -- ---- what all are asked to do
  lives_does : (own_only : Bool) (deed : Deed) (past : Past) (g : Guest C) (keeps : Bool) (g' : Guest C)
      → GuestLives talk own_only past g
      → Does talk deed past g keeps g' → GuestLives talk own_only past g'
  lives_does own_only CatchUp past g keeps g' l (events, sends, same, all) =
      lives_sent own_only past events [] g g' l sends
  lives_does own_only Deliver past g keeps g' l (inl (none, kept, same)) =
      let P : Guest C → Type 0 = λ h. GuestLives talk own_only past h in
      subst P (sym same) l
  lives_does own_only Deliver past g keeps g' l (inr now) =
      lives_sent own_only past now.events now.written g g' l now.sends
  lives_does own_only Tick past g keeps g' l ticks = lives_ticks own_only past g keeps g' l ticks
  lives_does own_only End past g keeps g' l (ends, came, kept, same) =
      let said_is : talk g'.connection ≡ talk g.connection = ap (λ (h : Guest C). talk h.connection) same in
      let x' = standing_of g'.client in
      let P : Talk → Type 0 = λ t. Lives own_only past t x' (came_of g'.client) in
      subst P (sym said_is)
      (lives_then own_only past past (talk g.connection) (talk g.connection) (standing_of g.client) x'
      (came_of g.client)
      (came_of g'.client) l.heard l.got l is_ended tt (refl, ends) l.heard_is l.got_is
      (λ asking. cc (asking, ends.phase)))

  pub lives_turn : (own_only : Bool) (deed : Deed) (past : Past) (g : Guest C) (stays : Bool) (g' : Guest C)
      → GuestLives talk own_only past g
      → TakesTurn talk deed past g stays g' → GuestLives talk own_only past g'
  lives_turn own_only deed past g true g' l does = lives_does own_only deed past g true g' l does
  lives_turn own_only deed past g false g' l (keeps, does, may) = lives_does own_only deed past g keeps g' l does

-- ---- by what the calls said
on_ok : {T E : Type 0} (r : Result T E) (P : Type 0) → OnOk r P → is_ok r ≡ true → P
on_ok (Ok x) P so is = so
on_ok (Err e) P so is = cc

module _ {C : Type 0} (talk : C → Talk) where
  pub does_caught : {T E : Type 0} (past : Past) (g g' : Guest C) (r : Result T E) (keeps : Bool)
      → (IsLive (standing_of g.client) → (events : List Event)
      × Delivers past events [] (standing_of g.client) (standing_of g'.client))
      → (standing_of g'.client).phase ≡ (standing_of g.client).phase
      → ((IsLive (standing_of g.client) → ⊥) → standing_of g'.client ≡ standing_of g.client)
      → came_of g'.client ≡ came_of g.client
      → OnOk r (IsCaughtUp past (standing_of g'.client))
      → keeps ≡ is_ok r → g' ≡ record g { client = g'.client } → Does talk CatchUp past g keeps g'
  does_caught past g g' r keeps sends phase idle came all kept same =
      let caught = sent_of_caught past (standing_of g.client) (standing_of g'.client) sends phase idle in
      let is : talk g'.connection ≡ talk g.connection = ap (λ (h : Guest C). talk h.connection) same in
      let P : Talk → Type 0 = λ t. Gets [] (record (talk g.connection) { is_shut = t.is_shut }) t in (
        caught.0,
        record {
          sent = caught.1;
          gets = subst P (sym is) (gets_none (talk g.connection));
          came = came;
          ticks = ap (λ (h : Guest C). h.ticks) same;
        },
        same,
        λ stays. on_ok r _ all (sym kept ∙ stays),
      )

  pub sends_now : (past : Past) (g g' : Guest C) (said : Talk) (keeps : Bool) (events : List Event)
      (written : List ℕ) → Gets written (talk g.connection) said
      → IsSent past events written (standing_of g.client) (standing_of g'.client)
      → (keeps ≡ true → IsServed past written said (standing_of g'.client))
      → talk g'.connection ≡ record said { is_shut = (talk g'.connection).is_shut }
      → came_of g'.client ≡ came_of g.client → g'.ticks ≡ g.ticks
      → (keeps ≡ true → (standing_of g'.client).phase ≡ Closing → (standing_of g'.client).output ≡ []
      → (g'.is_shut ≡ true) × (g.is_shut ≡ false → (talk g'.connection).is_shut ≡ true))
      → SendsNow talk past g keeps g'
  sends_now past g g' said keeps events written gets sent served shut came ticks closes =
      let said' = talk g'.connection in
      let takes : said'.takes_now ≡ said.takes_now = ap (λ (t : Talk). t.takes_now) shut in
      let first = shut ∙ ap (λ (t : Talk). record t { is_shut = said'.is_shut }) gets in
      let Q : Bool → Type 0 = λ b.
      said' ≡ record (talk g.connection) {
        written = append_known (talk g.connection).written written;
        takes_now = b;
        is_shut = said'.is_shut;
      } in
      let R : Bool → Type 0 = λ b. IsCaughtUp past (standing_of g'.client)
      × (((standing_of g'.client).output ≡ []) ⊎ (b ≡ false) ⊎ (16 ≤ length written)) in
      record {
        events = events;
        written = written;
        sends = record {
          sent = sent;
          gets = subst Q (sym takes) first;
          came = came;
          ticks = ticks;
        };
        served = λ stays. subst R (sym takes) (served stays);
        shut = closes;
      }

  -- one that was just accepted is let go
  pub lived_new : (own_only : Bool) (past : Past) (connection : C) (g : Guest C) (left : C)
      → IsUnsaid (talk connection) → g.connection ≡ connection → IsNew (standing_of g.client)
      → came_of g.client ≡ [] → left ≡ g.connection → HasLived (talk left)
  lived_new own_only past connection g left unsaid is is_new none gone =
      let P : C → Type 0 = λ k. HasLived (talk k) in
      subst P (sym (gone ∙ is)) (
        own_only,
        past,
        standing_of g.client,
        came_of g.client,
        lives_new own_only past (talk connection) (standing_of g.client) (came_of g.client) unsaid is_new none,
      )

  pub lived : (own_only : Bool) (past : Past) (g : Guest C) (left : C) → GuestLives talk own_only past g
      → left ≡ g.connection → HasLived (talk left)
  lived own_only past g left lives is =
      let P : C → Type 0 = λ k. HasLived (talk k) in
      subst P (sym is) (own_only, past, standing_of g.client, came_of g.client, lives)

  -- ---- what all.rt makes of one
  pub turn_kept : (deed : Deed) (past : Past) (g g' : Guest C) (keeps : Bool) → Does talk deed past g keeps g'
      → keeps ≡ true → TakesTurn talk deed past g true g'
  turn_kept deed past g g' keeps does is =
      let P : Bool → Type 0 = λ b. Does talk deed past g b g' in
      subst P is does

  may_go : (deed : Deed) → MayGo talk deed false
  may_go CatchUp = refl
  may_go Deliver = tt
  may_go Tick = refl
  may_go End = refl

  pub turn_gone : (deed : Deed) (past : Past) (g g' : Guest C) (keeps : Bool) → Does talk deed past g keeps g'
      → keeps ≡ false → TakesTurn talk deed past g false g'
  turn_gone deed past g g' keeps does is =
      let P : Bool → Type 0 = λ b. Does talk deed past g b g' in
      (false, subst P is does, may_go deed)

  watched : (past : Past) (g g' : Guest C) (told : Bool) → Does talk Deliver past g true g'
      → TakesTurn talk Deliver past g told g'
  watched past g g' true does = does
  watched past g g' false does = (true, does, tt)

  pub turn_watched : (deed : Deed) (past : Past) (g g' : Guest C) (keeps told : Bool)
      → Does talk deed past g keeps g' → keeps ≡ true → deed ≡ Deliver → TakesTurn talk deed past g told g'
  turn_watched deed past g g' keeps told does stays is =
      let P : Bool → Type 0 = λ b. Does talk deed past g b g' in
      let Q : Deed → Type 0 = λ d. Does talk d past g true g' in
      let R : Deed → Type 0 = λ d. TakesTurn talk d past g told g' in
      subst R (sym is) (watched past g g' told (subst Q is (subst P stays does)))

  module _ (reads : C → List ℕ → Passed → C → Type 0) (source : Source) (own_only : Bool) where
    pub then_not_heard : (g heard : Guest C) (keeps : Bool)
        → HearsOnce talk reads source own_only g keeps heard → keeps ≡ false
        → HearsThen talk reads source own_only g false heard
    then_not_heard g heard keeps hears is =
        let P : Bool → Type 0 = λ b. HearsOnce talk reads source own_only g b heard in
        inl (subst P is hears)

    pub then_not_sent : (g heard g' : Guest C) (keeps stays : Bool)
        → HearsOnce talk reads source own_only g keeps heard → keeps ≡ true
        → SendsNow talk source.past heard stays g' → HearsThen talk reads source own_only g false g'
    then_not_sent g heard g' keeps stays hears is now =
        let P : Bool → Type 0 = λ b. HearsOnce talk reads source own_only g b heard in
        inr (heard, stays, subst P is hears, now)

    both_watched : (g heard g' : Guest C) (told : Bool) → HearsOnce talk reads source own_only g true heard
        → SendsNow talk source.past heard true g' → HearsThen talk reads source own_only g told g'
    both_watched g heard g' true hears now = (heard, hears, now)
    both_watched g heard g' false hears now = inr (heard, true, hears, now)

    pub then_watched : (g heard g' : Guest C) (keeps stays told : Bool)
        → HearsOnce talk reads source own_only g keeps heard → keeps ≡ true
        → SendsNow talk source.past heard stays g' → stays ≡ true → HearsThen talk reads source own_only g told g'
    then_watched g heard g' keeps stays told hears is now stay =
        let P : Bool → Type 0 = λ b. HearsOnce talk reads source own_only g b heard in
        let Q : Bool → Type 0 = λ b. SendsNow talk source.past heard b g' in
        both_watched g heard g' told (subst P is hears) (subst Q stay now)

    pub heard_bytes : (buffer came : List ℕ) (count : ℕ) (g g' : Guest C)
        → reads g.connection buffer (Bytes count) g'.connection → 1 ≤ count
        → Gives (take count buffer) (talk g.connection) (talk g'.connection) → came ≡ take count buffer
        → ((standing_of g.client).phase ≡ Asking
        → Hears source own_only (came_of g.client ++ came) (standing_of g.client) (standing_of g'.client))
        → ((standing_of g'.client).phase ≡ Asking → came_of g'.client ≡ came_of g.client ++ came)
        → (((standing_of g.client).phase ≡ Asking → ⊥) → standing_of g'.client ≡ standing_of g.client)
        → g' ≡ record g { connection = g'.connection; client = g'.client }
        → HearsOnce talk reads source own_only g true g'
    heard_bytes buffer came count g g' made some gives is hears more kept same =
        let P : List ℕ → Type 0 = λ xs.
        Hears source own_only (came_of g.client ++ xs) (standing_of g.client) (standing_of g'.client) in (
          buffer,
          Bytes count,
          made,
          inr (
            (λ none. absurd (omega (arith, some, none))),
            refl,
            record {
              gives = gives;
              hears = λ asks. subst P is (hears asks);
              came = λ asks. more asks ∙ ap (λ xs. came_of g.client ++ xs) is;
              kept = kept;
              same = same;
            },
          ),
        )

on_not_err : {T E : Type 0} (r : Result T E) (P : Type 0) → OnOk r P → is_err r ≡ false → P
on_not_err (Ok x) P so is = so
on_not_err (Err e) P so is = cc

shut_same : (said said' : Talk) (b : Bool) → IsShut said said' b → said' ≡ record said { is_shut = said'.is_shut }
shut_same said said' true is =
    let shut : said'.is_shut ≡ true = ap (λ (t : Talk). t.is_shut) is in
    is ∙ ap (λ (b : Bool). record said { is_shut = b }) (sym shut)
shut_same said said' false is =
    let shut : said'.is_shut ≡ said.is_shut = ap (λ (t : Talk). t.is_shut) is in
    is ∙ ap (λ (b : Bool). record said { is_shut = b }) (sym shut)

shut_true : (said said' : Talk) (b : Bool) → IsShut said said' b → b ≡ true → said'.is_shut ≡ true
shut_true said said' true is so = ap (λ (t : Talk). t.is_shut) is
shut_true said said' false is so = cc

module _ {C : Type 0} (talk : C → Talk) (past : Past) where
  -- it could not be delivered
  pub sends_failed : (g g' : Guest C) (events : List Event) (written : List ℕ)
      → Gets written (talk g.connection) (talk g'.connection)
      → IsSent past events written (standing_of g.client) (standing_of g'.client)
      → came_of g'.client ≡ came_of g.client → g'.ticks ≡ g.ticks → SendsNow talk past g false g'
  sends_failed g g' events written gets sent came ticks =
      sends_now talk past g g' (talk g'.connection) false events written gets sent (λ is. absurd (false≢true is)) refl
      came ticks (λ is closing none. absurd (false≢true is))

  -- it was, and nothing more is to be done
  pub sends_more : {T E : Type 0} (g g' : Guest C) (r : Result T E) (events : List Event) (written : List ℕ)
      → Gets written (talk g.connection) (talk g'.connection)
      → IsSent past events written (standing_of g.client) (standing_of g'.client)
      → OnOk r (IsServed past written (talk g'.connection) (standing_of g'.client)) → is_err r ≡ false
      → came_of g'.client ≡ came_of g.client → g'.ticks ≡ g.ticks
      → ((standing_of g'.client).phase ≡ Closing → (standing_of g'.client).output ≡ []
      → (g'.is_shut ≡ true) × (g.is_shut ≡ false → (talk g'.connection).is_shut ≡ true))
      → SendsNow talk past g true g'
  sends_more g g' r events written gets sent served ok came ticks closes =
      sends_now talk past g g' (talk g'.connection) true events written gets sent (λ is. on_not_err r _ served ok) refl
      came ticks (λ is closing none. closes closing none)

  -- it was, and then the other end was told that no more is written
  pub sends_last : {T E : Type 0} (g g' : Guest C) (said : Talk) (told : Bool) (r : Result T E) (events : List Event)
      (written : List ℕ) → Gets written (talk g.connection) said
      → IsSent past events written (standing_of g.client) (standing_of g'.client)
      → OnOk r (IsServed past written said (standing_of g'.client)) → is_err r ≡ false
      → came_of g'.client ≡ came_of g.client → g'.ticks ≡ g.ticks → g'.is_shut ≡ true
      → IsShut said (talk g'.connection) told → SendsNow talk past g told g'
  sends_last g g' said told r events written gets sent served ok came ticks shut is_shut =
      sends_now talk past g g' said told events written gets sent (λ is. on_not_err r _ served ok)
      (shut_same said (talk g'.connection) told is_shut) came ticks
      (λ is closing none. (shut, λ before. shut_true said (talk g'.connection) told is_shut is))
