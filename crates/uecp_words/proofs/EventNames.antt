-- Words that name an event, and words that name none.
use Rattle.std.proofs.Common.{◌≡◌, ℕ, ◌⊎◌, inl, inr, List, [], ◌∷◌, ◌++◌, codes, refl, sym, ap, ◌∙◌, subst, length}
use Rattle.std.proofs.Common.{get_or, take, drop, Some, ◌+◌, eqb, eq-eqb, false, Bor, ◌≤◌, ◌<◌, ◌*◌, map, arith}
use Rattle.std.specs.List.{list_all}
use Rattle.std.proofs.lemmas.List.{map_more, map-append, length-map}
use Rattle.std.proofs.lemmas.Bool.{false≢true}
use Rattle.uecp_link.specs.Once.{Event, Submit, FrameComes, ReplyComes, EncoderLost, ServerLost, EncoderRestart}
use Rattle.uecp_link.specs.Once.{ServerRestart}
use Rattle.uecp_link.specs.Events.{lost_of}
use Rattle.uecp_link.specs.declared.event.Side.{Side}
use Rattle.uecp_link.specs.declared.event.Side.TheVariants as side
use Rattle.uecp_text.specs.declared.text_fault.TextFault.{TextFault}
use Rattle.uecp_text.specs.declared.text_fault.TextFault.TheVariants.{NotACommand, OutOfMemory}
use Rattle.uecp_text.specs.Words.{IsRow, decimal_in}
use Rattle.uecp_words.specs.EventWords.{name_of, end_word, noise_to, restart_of, is_cut, AreCuts, TellsMessage}
use Rattle.uecp_words.specs.EventWords.{TellsNoise, TellsRow, Names, Submits, IsFaultOf}

-- ---- Words that name an event.

-- The name of noise and its bytes name the noise.
pub noise_named : (end : Side) (words : List (List ℕ)) (bytes : List ℕ) → TellsNoise words bytes
    → Names (name_of (noise_to end []) ∷ words) (noise_to end bytes)
noise_named side.Encoder words bytes told = (words, refl, told)
noise_named side.Server words bytes told = (words, refl, told)

-- `line-lost` and an end name the loss at that end.
pub loss_named : (end : Side) (words : List (List ℕ)) → words ≡ end_word end ∷ []
    → Names (codes "line-lost" ∷ words) (lost_of end)
loss_named side.Encoder words told = (words, refl, told)
loss_named side.Server words told = (words, refl, told)

-- `restart` and an end name the start of that end.
pub restart_named : (end : Side) (words : List (List ℕ)) → words ≡ end_word end ∷ []
    → Names (codes "restart" ∷ words) (restart_of end)
restart_named side.Encoder words told = (words, refl, told)
restart_named side.Server words told = (words, refl, told)

-- ---- Words that name none.

-- Four times the length of a word and its first byte together: no two names have the same.
abbrev mark : List ℕ → ℕ
mark word = 4 * length word + get_or word 0 0

-- Lists of words with different names in front are different.
apart : (a b : List ℕ) (words others : List (List ℕ)) → eqb (mark a) (mark b) ≡ false → a ∷ words ≡ b ∷ others → ⊥
apart a b words others differ same =
    let first : a ≡ b = cc in
    false≢true (sym differ ∙ eq-eqb (mark a) (mark b) (ap mark first))

-- Lists of words that are the same have the same words after the first.
same_rest : (a b : List ℕ) (words others : List (List ℕ)) → a ∷ words ≡ b ∷ others → others ≡ words
same_rest a b words others same = cc

-- Lone words that are the same.
first_same : (a b : List ℕ) → a ∷ [] ≡ b ∷ [] → a ≡ b
first_same a b same = cc

-- Words with another name in front submit nothing.
no_bytes : (name : List ℕ) (words : List (List ℕ)) → eqb (mark name) (mark (codes "submit")) ≡ false → (bytes : List ℕ)
    → Submits (name ∷ words) bytes → ⊥
no_bytes name words differ bytes row = apart name (codes "submit") words row.0 differ row.1

-- Words after `frame` that tell no message name no event.
no_frame : (words : List (List ℕ)) → ((number : ℕ) → TellsMessage words number → ⊥) → (event : Event)
    → Names (codes "frame" ∷ words) event → ⊥
no_frame words none (FrameComes n) named =
    none n (subst (λ ws. TellsMessage ws n) (same_rest (codes "frame") (codes "frame") words named.0 named.1) named.2)
no_frame words none event named = apart (codes "frame") (name_of event) words named.0 refl named.1

-- Words after `reply` that tell no message name no event.
no_reply : (words : List (List ℕ)) → ((number : ℕ) → TellsMessage words number → ⊥) → (event : Event)
    → Names (codes "reply" ∷ words) event → ⊥
no_reply words none (ReplyComes n) named =
    none n (subst (λ ws. TellsMessage ws n) (same_rest (codes "reply") (codes "reply") words named.0 named.1) named.2)
no_reply words none event named = apart (codes "reply") (name_of event) words named.0 refl named.1

-- Words after `submit` that tell no row name no event.
no_submission : (words : List (List ℕ)) → ((bytes : List ℕ) → TellsRow words bytes → ⊥) → (event : Event)
    → Names (codes "submit" ∷ words) event → ⊥
no_submission words none (Submit m) named =
    none m (subst (λ ws. TellsRow ws m) (same_rest (codes "submit") (codes "submit") words named.0 named.1) named.2.0)
no_submission words none event named = apart (codes "submit") (name_of event) words named.0 refl named.1

-- Words after `line-lost` that are no end name no event.
no_loss : (words : List (List ℕ)) → ((end : Side) → words ≡ end_word end ∷ [] → ⊥) → (event : Event)
    → Names (codes "line-lost" ∷ words) event → ⊥
no_loss words none EncoderLost named =
    none side.Encoder (sym (same_rest (codes "line-lost") (codes "line-lost") words named.0 named.1) ∙ named.2)
no_loss words none ServerLost named =
    none side.Server (sym (same_rest (codes "line-lost") (codes "line-lost") words named.0 named.1) ∙ named.2)
no_loss words none event named = apart (codes "line-lost") (name_of event) words named.0 refl named.1

-- Words after `restart` that are no end name no event.
no_restart : (words : List (List ℕ)) → ((end : Side) → words ≡ end_word end ∷ [] → ⊥) → (event : Event)
    → Names (codes "restart" ∷ words) event → ⊥
no_restart words none EncoderRestart named =
    none side.Encoder (sym (same_rest (codes "restart") (codes "restart") words named.0 named.1) ∙ named.2)
no_restart words none ServerRestart named =
    none side.Server (sym (same_rest (codes "restart") (codes "restart") words named.0 named.1) ∙ named.2)
no_restart words none event named = apart (codes "restart") (name_of event) words named.0 refl named.1

-- Why a word, or all words after the first, are refused.
abbrev pub FailsFor : {A : Type 0} → (A → Type 0) → TextFault → Type 0
FailsFor {A} fits e = (e ≡ OutOfMemory) ⊎ ((e ≡ NotACommand) × ((a : A) → fits a → ⊥))

-- Why the words after the name of a frame or a reply are refused.
abbrev pub FailsFrom : List (List ℕ) → TextFault → Type 0
FailsFrom words e = ((e ≡ OutOfMemory) × (1 < length words))
    ⊎ ((e ≡ NotACommand) × ((number : ℕ) → TellsMessage words number → ⊥))

-- The same of a slice of words.
pub fails_from : (words : List (Bor (List ℕ))) (e : TextFault)
    → ((e ≡ OutOfMemory) × (1 < length words)) ⊎ ((e ≡ NotACommand)
    × ((number : ℕ) → TellsMessage (map (λ w. w.now) words) number → ⊥)) → FailsFrom (map (λ w. w.now) words) e
fails_from words e (inl out) = inl (out.0, let same = length-map words (λ (w : Bor (List ℕ)). w.now) in omega arith)
fails_from words e (inr f) = inr f

-- A slice of one word has one.
pub one_long : (words : List (Bor (List ℕ))) → 1 ≤ length words → length words < 2 → length (map (λ w. w.now) words) ≡ 1
one_long words at_least below = let same = length-map words (λ (w : Bor (List ℕ)). w.now) in omega arith

-- What `frame` is refused for is the fault of the words.
pub frame_refused : (words : List (List ℕ)) (e : TextFault) → FailsFrom words e → IsFaultOf (codes "frame" ∷ words) e
frame_refused words e (inl out) = rw out.0 (FrameComes 0, words, refl, out.1)
frame_refused words e (inr f) =
    rw f.0 (record { no_event = no_frame words f.1; no_bytes = no_bytes (codes "frame") words refl })

-- What `reply` is refused for is the fault of the words.
pub reply_refused : (words : List (List ℕ)) (e : TextFault) → FailsFrom words e → IsFaultOf (codes "reply" ∷ words) e
reply_refused words e (inl out) = rw out.0 (ReplyComes 0, words, refl, out.1)
reply_refused words e (inr f) =
    rw f.0 (record { no_event = no_reply words f.1; no_bytes = no_bytes (codes "reply") words refl })

-- What the row of `submit` is refused for is the fault of the words.
pub submission_refused : (words : List (List ℕ)) (e : TextFault) → length words ≡ 1 → FailsFor (TellsRow words) e
    → IsFaultOf (codes "submit" ∷ words) e
submission_refused words e one (inl out) = rw out (Submit [], words, refl, one)
submission_refused words e one (inr f) = rw f.0 (record {
  no_event = no_submission words f.1;
  no_bytes = λ bytes row. f.1 bytes (subst (λ ws. TellsRow ws bytes)
      (same_rest (codes "submit") (codes "submit") words row.0 row.1) row.2);
})

-- What the end of `line-lost` is refused for is the fault of the words.
pub loss_refused : (word : List ℕ) (words : List (List ℕ)) (e : TextFault) → words ≡ word ∷ []
    → (e ≡ NotACommand) × ((end : Side) → word ≡ end_word end → ⊥) → IsFaultOf (codes "line-lost" ∷ words) e
loss_refused word words e is f =
    rw f.0 (record {
      no_event = no_loss words (λ end same.
          f.1 end (let one : word ∷ [] ≡ end_word end ∷ [] = sym is ∙ same in first_same word (end_word end) one));
      no_bytes = no_bytes (codes "line-lost") words refl;
    })

-- What the end of `restart` is refused for is the fault of the words.
pub restart_refused : (word : List ℕ) (words : List (List ℕ)) (e : TextFault) → words ≡ word ∷ []
    → (e ≡ NotACommand) × ((end : Side) → word ≡ end_word end → ⊥) → IsFaultOf (codes "restart" ∷ words) e
restart_refused word words e is f =
    rw f.0 (record {
      no_event = no_restart words (λ end same.
          f.1 end (let one : word ∷ [] ≡ end_word end ∷ [] = sym is ∙ same in first_same word (end_word end) one));
      no_bytes = no_bytes (codes "restart") words refl;
    })

-- A lone word that fits nothing makes words that tell nothing.
pub row_fails : (word : List ℕ) (words : List (List ℕ)) (e : TextFault) → words ≡ word ∷ [] → FailsFor (IsRow word) e
    → FailsFor (TellsRow words) e
row_fails word words e is (inl out) = inl out
row_fails word words e is (inr f) =
    inr (f.0, λ bytes row. f.1 bytes (subst (λ w. IsRow w bytes) (sym (first_same word row.0 (sym is ∙ row.1))) row.2))

-- A slice of one word.
pub one_word : (words : List (Bor (List ℕ))) (default : Bor (List ℕ)) → 1 ≤ length words → length words < 2
    → map (λ w. w.now) words ≡ (get_or words 0 default).now ∷ []
one_word [] default at_least below = absurd (omega arith)
one_word (w ∷ []) default at_least below = refl
one_word (w ∷ v ∷ ws) default at_least below = absurd (omega arith)

-- ---- Lengths of pieces.

-- Of the words of pieces so many were read, as these lengths: what is left decides whether all are lengths.
pub record CutSoFar (words : List (Bor (List ℕ))) (read : ℕ) (cut : List ℕ) : Type 0 where
  pub decides : list_all is_cut (map (λ w. w.now) (drop read words)) ≡ list_all is_cut (map (λ w. w.now) words)
  pub told : AreCuts (map (λ w. w.now) (take read words)) cut

-- One more word is one more length.
pub cut_more : (words : List (Bor (List ℕ))) (i : ℕ) (d : Bor (List ℕ)) (cut : List ℕ) (next : ℕ) → i < length words
    → AreCuts (map (λ w. w.now) (take i words)) cut →
    decimal_in 65535 (get_or words i d).now ≡ Some next
    → AreCuts (map (λ w. w.now) (take (i + 1) words)) (cut ++ (next ∷ []))
cut_more words i d cut next below told one =
    ap (map (decimal_in 65535)) (map_more (λ w. w.now) words i d below)
    ∙ map-append (decimal_in 65535) (map (λ w. w.now) (take i words)) ((get_or words i d).now ∷ [])
    ∙ ap (λ front. front ++ (decimal_in 65535 (get_or words i d).now ∷ [])) told
    ∙ ap (λ last. map Some cut ++ (last ∷ [])) one
    ∙ sym (map-append Some cut (next ∷ []))
