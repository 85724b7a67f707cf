-- The phrases of a line up to the first with which it says nothing.
use Rattle.std.proofs.Common.{◌≡◌, ℕ, ◌+◌, ◌-◌, ◌≤◌, List, [], ◌∷◌, ◌++◌, length, Option, Some, None, IfSome}
use Rattle.std.proofs.Common.{◌<◌, inl, inr, refl, sym, ◌∙◌, ap, subst, arith, append_assoc}
use Rattle.std.proofs.lemmas.List.{append-nil, length-map, length-append}
use Rattle.std.specs.Option.{option_map}
use Rattle.rds_text.specs.declared.programme_type.Region.{Region}
use Rattle.phrase_tokens.specs.declared.token.Token.{Token as Held}
use Rattle.phrase_tokens.specs.Tokens.{Token}
use Rattle.phrase_tokens.specs.View.{token_of, tokens_of}
use Rattle.uecp_phrases.specs.Lines.{phrases_in, phrases_left, AddsBytes, AddEach, Say, SayNothing}
use Rattle.uecp_phrases.specs.Faults.{begins_behind, IsFault, IsFaultAt, IsToldAt, IsUnsaid}
use Rattle.uecp_phrases.specs.declared.expectation.Expectation.{Expectation}
use Rattle.uecp_phrases.specs.declared.expectation.Expectation.TheVariants as what
use Rattle.uecp_phrases.specs.Phrases.{IsPhrase}
use Rattle.uecp_phrases.specs.Expecting.{IsUnread}
use Rattle.uecp_phrases.proofs.Cutting.{adds_one, SaidSoFar}
use Rattle.uecp_phrases.proofs.Placing.{unread_none}

-- The phrases before those that are left add the bytes so far, and the next begins where so many tokens are left.
pub record ReadSoFar (region : Region) (tokens : List Token) (behind : Option (List Token)) (message : List ℕ)
    : Type 0 where
  pub before : List (List Token)
  pub whole : phrases_in tokens ≡ before ++ phrases_left behind
  pub says : AddEach region before message
  pub begins : IfSome behind (λ rest. begins_behind before + length rest ≡ length tokens)
  pub few : length message ≤ 255

pub read_begins : (region : Region) (tokens : List Token) → ReadSoFar region tokens (Some tokens) []
read_begins region tokens = record { before = []; whole = refl; says = refl; begins = omega arith; few = omega arith }

one_more : (region : Region) (before : List (List Token)) (phrase : List Token) (message bytes : List ℕ)
    → AddEach region before message → AddsBytes region phrase bytes
    → AddEach region (before ++ phrase ∷ []) (message ++ bytes)
one_more region [] phrase message bytes says adds =
    (bytes, [], ap (λ m. m ++ bytes) says ∙ sym (append-nil bytes), adds, refl)
one_more region (first ∷ before) phrase message bytes (a, b, is, one, each) adds = (
  a,
  b ++ bytes,
  ap (λ m. m ++ bytes) is ∙ append_assoc a b bytes,
  one,
  one_more region before phrase b bytes each adds,
)

begins_more : (before : List (List Token)) (phrase : List Token)
    → begins_behind (before ++ phrase ∷ []) ≡ begins_behind before + (length phrase + 1)
begins_more [] phrase = omega arith
begins_more (first ∷ before) phrase = let more = begins_more before phrase in omega (arith, more)

pub read_more : (region : Region) (tokens rest phrase : List Token) (behind : Option (List Token))
    (message bytes : List ℕ) → ReadSoFar region tokens (Some rest) message
    → phrases_in rest ≡ phrase ∷ phrases_left behind
    → IfSome behind (λ more. length phrase + 1 + length more ≡ length rest) → AddsBytes region phrase bytes
    → length (message ++ bytes) ≤ 255 → ReadSoFar region tokens behind (message ++ bytes)
read_more region tokens rest phrase behind message bytes so cut counted adds few = record {
  before = so.before ++ phrase ∷ [];
  whole = so.whole ∙ ap (λ l. so.before ++ l) cut ∙ sym (append_assoc so.before (phrase ∷ []) (phrases_left behind));
  says = one_more region so.before phrase message bytes so.says adds;
  begins = by_behind behind counted;
  few = few;
}
  where
    by_behind : (b : Option (List Token)) → IfSome b (λ more. length phrase + 1 + length more ≡ length rest)
        → IfSome b (λ more. begins_behind (so.before ++ phrase ∷ []) + length more ≡ length tokens)
    by_behind None h = h
    by_behind (Some more) h =
        let b = begins_more so.before phrase in
        let all = so.begins in omega (arith, b, all, h)

pub read_fault : (region : Region) (tokens rest phrase : List Token) (others : List (List Token)) (message : List ℕ)
    (left : ℕ) → ReadSoFar region tokens (Some rest) message → phrases_in rest ≡ phrase ∷ others
    → IsFault region message phrase → left ≤ length rest → length rest ≤ left + length phrase
    → IsFaultAt region tokens (length tokens - left)
read_fault region tokens rest phrase others message left so cut fault most least = record {
  before = so.before;
  phrase = phrase;
  others = others;
  said = message;
  whole = so.whole ∙ ap (λ l. so.before ++ l) cut;
  says = so.says;
  few = so.few;
  fault = fault;
  least = let all = so.begins in omega (arith, all, most);
  most = let all = so.begins in omega (arith, all, most, least);
}

-- A phrase whose bytes don't fit behind the message.
pub no_room : (region : Region) (message : List ℕ) (tokens : List Token) (added : List ℕ)
    → AddsBytes region tokens added → 255 < length message + length added → IsFault region message tokens
no_room region message tokens added adds full bytes other few =
    let same = ap length (adds_one region tokens bytes added other adds) in omega (arith, same, full, few)

-- What is nothing that fits alone.
pub no_bytes : (region : Region) (message : List ℕ) (tokens : List Token)
    → ((bytes : List ℕ) → AddsBytes region tokens bytes → length bytes ≤ 255 → ⊥) → IsFault region message tokens
no_bytes region message tokens none bytes adds few = none bytes adds (omega (arith, few))

pub read_told : (region : Region) (tokens rest phrase : List Token) (others : List (List Token)) (message : List ℕ)
    (w : Expectation) (left behind : ℕ) → ReadSoFar region tokens (Some rest) message
    → phrases_in rest ≡ phrase ∷ others → IsFault region message phrase → IsUnsaid region message phrase w left
    → length phrase ≤ length rest → left ≤ length phrase → behind ≡ length rest - length phrase + left
    → IsToldAt region tokens w (length tokens - behind)
read_told region tokens rest phrase others message w left behind so cut fault unsaid within most is = record {
  before = so.before;
  phrase = phrase;
  others = others;
  said = message;
  left = left;
  whole = so.whole ∙ ap (λ l. so.before ++ l) cut;
  says = so.says;
  few = so.few;
  fault = fault;
  place = let all = so.begins in omega (arith, all, within, most, is);
  unsaid = unsaid;
}

-- The same, counted in tokens as the code holds them.
pub told_held : (region : Region) (tokens rest phrase : List Held) (others : List (List Token)) (message : List ℕ)
    (w v : Expectation) (left behind : ℕ) → ReadSoFar region (tokens_of tokens) (Some (tokens_of rest)) message
    → phrases_in (tokens_of rest) ≡ tokens_of phrase ∷ others → IsFault region message (tokens_of phrase)
    → IsUnsaid region message (tokens_of phrase) w left
    → length phrase ≤ length rest → left ≤ length phrase → behind ≡ length rest - length phrase + left → v ≡ w
    → IsToldAt region (tokens_of tokens) v (length tokens - behind)
told_held region tokens rest phrase others message w v left behind so cut fault unsaid within most is what_is =
    let t = length-map tokens token_of in
    let r = length-map rest token_of in
    let p = length-map phrase token_of in
    subst (λ n. IsToldAt region (tokens_of tokens) v (n - behind)) t
    (subst (λ x. IsToldAt region (tokens_of tokens) x (length (tokens_of tokens) - behind)) (sym what_is)
    (read_told region (tokens_of tokens) (tokens_of rest) (tokens_of phrase) others message w left behind so cut fault
    unsaid
    (omega (arith, r, p, within)) (omega (arith, p, most)) (omega (arith, r, p, is))))

-- A line of which no phrase that is left says anything with what is said.
pub said_fault : (region : Region) (all left behind : List (List Token)) (phrase : List Token) (message : List ℕ)
    → SaidSoFar region all message left → left ≡ phrase ∷ behind → IsFault region message phrase → (bytes : List ℕ)
    → AddEach region all bytes → length bytes ≤ 255 → ⊥
said_fault region all left behind phrase message so is none bytes each few =
    let found = so.back bytes each in
    let one = subst (λ l. AddEach region l found.0) is found.2 in
    let long = ap length found.1 ∙ length-append message found.0 in
    let part = ap length one.2 ∙ length-append one.0 one.1 in
    none one.0 one.3 (omega (arith, few, long, part))

-- Tokens that are some and no phrase add nothing that fits.
pub added_none : (region : Region) (tokens : List Token) (w : Expectation) (left : ℕ) → (tokens ≡ [] → ⊥)
    → IsUnread region tokens w left → (bytes : List ℕ) → AddsBytes region tokens bytes → length bytes ≤ 255 → ⊥
added_none region tokens w left some unread bytes (inl (none, _)) few = some none
added_none region tokens w left some unread bytes (inr phrase) few =
    unread_none region tokens w left unread bytes phrase few

-- What is no phrase, or one that is too long alone, is a fault behind each message.
pub unread_unsaid : (region : Region) (message : List ℕ) (tokens : List Token) (w : Expectation) (left : ℕ)
    → IsUnread region tokens w left → IsUnsaid region message tokens w left
unread_unsaid region message tokens w left (inl stop) = inl stop
unread_unsaid region message tokens w left (inr (long, is, all)) =
    inr ((long.bytes, long.phrase), no_bytes region message tokens none, is, all)
  where
    none : (bytes : List ℕ) → AddsBytes region tokens bytes → length bytes ≤ 255 → ⊥
    none bytes adds few =
        let same = ap length (adds_one region tokens bytes long.bytes adds (inr long.phrase)) in
        let many = long.many in omega (arith, same, many, few)

pub unread_left : (region : Region) (tokens : List Token) (w : Expectation) (left : ℕ) → IsUnread region tokens w left
    → left ≤ length tokens
unread_left region tokens w left (inl stop) =
    let all = ap length stop.whole ∙ length-append stop.before stop.rest in
    let is = stop.counted in omega (arith, all, is)
unread_left region tokens w left (inr (_, _, all)) = omega (arith, all)

-- What the tokens add that are a phrase, though not behind the message.
pub no_room_unsaid : (region : Region) (message : List ℕ) (tokens : List Token) (added : List ℕ) (w : Expectation)
    (left : ℕ) → IsPhrase region tokens added → IsFault region message tokens → w ≡ what.ShortMessage
    → left ≡ length tokens → IsUnsaid region message tokens w left
no_room_unsaid region message tokens added w left phrase fault is all = inr ((added, phrase), fault, is, all)

-- It adds something, so it is a phrase.
pub adds_phrase : (region : Region) (message : List ℕ) (tokens : List Token) (added : List ℕ)
    → AddsBytes region tokens added → length message ≤ 255 → 255 < length message + length added
    → IsPhrase region tokens added
adds_phrase region message tokens added (inr phrase) few full = phrase
adds_phrase region message tokens added (inl (_, none)) few full =
    let size = ap length none in absurd (omega (arith, size, few, full))

pub read_all : (region : Region) (tokens : List Token) (message : List ℕ) → ReadSoFar region tokens None message
    → Say region tokens message
read_all region tokens message so =
    subst (λ l. AddEach region l message) (sym (so.whole ∙ append-nil so.before)) so.says

pub read_nothing_wrong : (region : Region) (tokens : List Token) (message : List ℕ) (index : ℕ)
    → ReadSoFar region tokens None message → SayNothing region tokens → IsFaultAt region tokens index
read_nothing_wrong region tokens message index so none =
    absurd (none message (read_all region tokens message so) so.few)

-- What is left behind a phrase, counted in tokens.
pub counted_tokens : {R : Type 0} (now : R → List Held) (behind : Option R) (phrase rest : List Held)
    → IfSome behind (λ more. length phrase + 1 + length (now more) ≡ length rest)
    → IfSome (option_map (λ more. tokens_of (now more)) behind)
    (λ more. length (tokens_of phrase) + 1 + length more ≡ length (tokens_of rest))
counted_tokens now None phrase rest h = h
counted_tokens now (Some more) phrase rest h =
    let p = length-map phrase token_of in
    let r = length-map rest token_of in
    let m = length-map (now more) token_of in omega (arith, h, p, r, m)
